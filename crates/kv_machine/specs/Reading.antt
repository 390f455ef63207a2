-- A command that reads leaves the store as it is.
use Rattle.std.specs.Prelude.{◌≡◌, IsTrue, refl}
use Rattle.std.proofs.lemmas.Bool.{false≢true}
use Rattle.kv_machine.specs.declared.cmd.KvCmd.{KvCmd}
use Rattle.kv_machine.specs.declared.cmd.KvCmd.TheVariants.{Get, Put, Del, Cas, Cad}
use Rattle.kv_machine.specs.Kv.{Store, apply, is_read}

pub reads_leave : (m : Store) (c : KvCmd) → IsTrue (is_read c) → (apply m c).0 ≡ m
reads_leave m (Get k) read = refl
reads_leave m (Put k v) read = absurd (false≢true read)
reads_leave m (Del k) read = absurd (false≢true read)
reads_leave m (Cas k e v) read = absurd (false≢true read)
reads_leave m (Cad k v) read = absurd (false≢true read)
