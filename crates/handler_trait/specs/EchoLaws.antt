-- An event of the small application puts out one value and sends one packet at most, to a node that exists.
use Rattle.std.specs.Prelude.{ℕ, ◌<◌}
use Rattle.std.proofs.Common.{arith}
use Rattle.handler_trait.specs.Echo.{echo}
use Rattle.handler_trait.specs.Handling.{IsModest}

pub echo_modest_input : (nodes n s i : ℕ) → n < nodes → IsModest nodes 1 (λ _. Unit {0}) (λ _. 0) s ((echo nodes).input n s i)
echo_modest_input nodes n s i below = record { few = omega arith; to_nodes = (omega arith, tt); cheap = omega arith; few_outputs = λ sound. omega arith }

pub echo_modest_message : (nodes n s from c : ℕ) → IsModest nodes 1 (λ _. Unit {0}) (λ _. 0) s ((echo nodes).message n s from c)
echo_modest_message nodes n s from c = record { few = omega arith; to_nodes = tt; cheap = omega arith; few_outputs = λ sound. omega arith }

pub echo_modest_timeout : (nodes n s : ℕ) → n < nodes → IsModest nodes 1 (λ _. Unit {0}) (λ _. 0) s ((echo nodes).timeout n s)
echo_modest_timeout nodes n s below = record { few = omega arith; to_nodes = (below, tt); cheap = omega arith; few_outputs = λ sound. omega arith }
