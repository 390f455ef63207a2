-- A held name and the commands that leave it with its owner.
use Rattle.std.proofs.Common.{◌≡◌, ◌≢◌, ℕ, List, [], ◌∷◌, Some, All, arith}
use Rattle.std.specs.FinMap.{get}
use Rattle.std.proofs.lemmas.Grind.{common_steps}
use Rattle.std.proofs.lemmas.List.Elements.{All-head, All-tail}
use Rattle.std.proofs.lemmas.Slice.Eq.{bytes_eq-Decides}
use Rattle.key_map.proofs.Views.{get-written, get-taken}
use Rattle.vst_base.specs.Machines.{state_after}
use Rattle.lock_table.specs.declared.cmd.TableCmd.{TableCmd}
use Rattle.lock_table.specs.declared.cmd.TableCmd.TheVariants.{Acquire, Release, Holder}
use Rattle.lock_table.specs.Table.{Holders, acquires, releases, apply, table}

acquire_keeps : (m : Holders) (k p l o : List ℕ) → get m l ≡ Some o → get (acquires m k p).0 l ≡ Some o
acquire_keeps m k p l o held = grind (arith, common_steps, get-written {V = List ℕ}, bytes_eq-Decides)

release_keeps : (m : Holders) (k p l o : List ℕ) → get m l ≡ Some o → Release k p ≢ Release l o → get (releases m k p).0 l ≡ Some o
release_keeps m k p l o held not_own = grind (arith, common_steps, get-taken {V = List ℕ}, bytes_eq-Decides)

command_keeps : (m : Holders) (c : TableCmd) (l o : List ℕ) → get m l ≡ Some o → c ≢ Release l o → get (apply m c).0 l ≡ Some o
command_keeps m (Acquire k p) l o held other = acquire_keeps m k p l o held
command_keeps m (Release k p) l o held other = release_keeps m k p l o held other
command_keeps m (Holder k) l o held other = held

pub commands_keep : (m : Holders) (cs : List TableCmd) (l o : List ℕ) → get m l ≡ Some o → All (λ c. c ≢ Release l o) cs → get (state_after table m cs) l ≡ Some o
commands_keep m [] l o held others = held
commands_keep m (c ∷ cs) l o held others =
    let Other = λ (c : TableCmd). c ≢ Release l o in
    commands_keep (apply m c).0 cs l o (command_keeps m c l o held (All-head Other c cs others)) (All-tail Other c cs others)
