-- An event of a machine at one node sends nothing.
use Rattle.std.specs.Prelude.{ℕ}
use Rattle.std.proofs.Common.{arith}
use Rattle.handler_trait.specs.Handling.{IsModest}
use Rattle.vst_base.specs.Machines.{MachineMeaning}
use Rattle.trace_maps.specs.SingleNode.{single_node}

module _ {S C O : Type 0} where
  pub modest_input : (m : MachineMeaning S C O) (n : ℕ) (s : S) (c : C) → IsModest 1 1 (λ _. Unit {0}) (λ _. 0) s ((single_node m).input n s c)
  modest_input m n s c = record { few = omega arith; to_nodes = tt; cheap = omega arith; few_outputs = λ after. omega arith }

  pub modest_stay : (m : MachineMeaning S C O) (s : S) → IsModest 1 1 (λ _. Unit {0}) (λ _. 0) s ((single_node m).timeout 0 s)
  modest_stay m s = record { few = omega arith; to_nodes = tt; cheap = omega arith; few_outputs = λ after. omega arith }
