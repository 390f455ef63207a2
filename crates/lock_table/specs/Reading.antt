-- A command that reads leaves the table as it is.
use Rattle.std.specs.Prelude.{◌≡◌, IsTrue, refl}
use Rattle.std.proofs.lemmas.Bool.{false≢true}
use Rattle.lock_table.specs.declared.cmd.TableCmd.{TableCmd}
use Rattle.lock_table.specs.declared.cmd.TableCmd.TheVariants.{Acquire, Release, Holder}
use Rattle.lock_table.specs.Table.{Holders, apply, is_read}

pub reads_leave : (m : Holders) (c : TableCmd) → IsTrue (is_read c) → (apply m c).0 ≡ m
reads_leave m (Acquire l o) read = absurd (false≢true read)
reads_leave m (Release l o) read = absurd (false≢true read)
reads_leave m (Holder l) read = refl
