-- Schedules that are made for a kind of stack have as many steps as were asked for, and its network allows them.
use Rattle.std.specs.Prelude.{◌≡◌, ◌≢◌, ℕ, ◌<◌, ◌≤◌, None, length}
use Rattle.std.proofs.Common.{◌∙◌, arith}
use Rattle.handler_trait.specs.Handling.{Meaning, Recovery}
use Rattle.net_semantics.specs.Runs.{IsAllowed, no_recovery}
use Rattle.net_semantics.specs.Worlds.{first_world}
use Rattle.schedule_make.specs.Inputs.{asked_by_client}
use Rattle.schedule_make.specs.Made.{Inputs, generator, made}
use Rattle.schedule_make.proofs.Allowed.{all-allowed, as-many, first-has-steps}
use Rattle.stacks.specs.Fits.{IsFit, net_of}
use Rattle.stacks.specs.Plays.{Found, Here, IfFound, Nowhere, found_map}
use Rattle.stacks.specs.Kinds.{Clustered, Kind, Steady, service}
use Rattle.stacks.specs.Made.{layers_make, makes}
use Rattle.vst_base.specs.Stacks.{row_of}
use Rattle.vst_base.specs.declared.net.Net.{Net}
use Rattle.vst_base.specs.declared.net.Net.TheVariants as net
use Rattle.vst_base.specs.declared.node.TheConstants.{MAX_NODES}
use Rattle.vst_base.specs.declared.stack.StackId.{StackId}
use Rattle.vst_base.specs.declared.stack.StackId.TheVariants as stack
use Rattle.vst_base.specs.declared.stack.StackRow.{StackRow}
use Rattle.made_schedules.specs.MadeTexts.{made_nodes}
use Rattle.made_schedules.specs.Makes.{KindMakes}
use Rattle.made_schedules.proofs.KindLines.{some-nodes}

module _ {S K I O M : Type 0} (on : Net) (m : Meaning S I O M) (r : Recovery S K) (inputs : Inputs I) (seed steps : ℕ) where
  asked : length (made on m r inputs seed steps) ≡ steps
  asked = as-many on m r inputs (first_world m) 0 (generator seed) steps

  taken : on ≢ net.One → 0 < m.nodes → IsAllowed on m r (made on m r inputs seed steps)
  taken sends some = all-allowed on m r inputs (first_world m) 0 (generator seed) steps (first-has-steps on m r inputs sends some)

pub kind-asked : (k : Kind) (n seed steps : ℕ) → length ((makes k n).made seed steps) ≡ steps
kind-asked (Steady l) n = let s = service l in asked s.net (s.handlers n) (no_recovery {S = s.State}) (layers_make l)
kind-asked (Clustered k) n = asked net.Fail (k.cluster.handlers n) (k.cluster.recovery n) (asked_by_client k.application.makes)

pub kind-allowed : (k : Kind) (n seed steps : ℕ) → KindMakes k → 0 < n → net_of k ≢ net.One
    → (makes k n).plays.play.refused ((makes k n).made seed steps) ≡ None
kind-allowed (Steady l) n seed steps can some sends =
    let s = service l in
    taken s.net (s.handlers n) (no_recovery {S = s.State}) (layers_make l) seed steps sends (some-nodes l n can.layers some)
kind-allowed (Clustered k) n seed steps can some sends =
    let m = k.cluster.handlers n in
    can.allowed n seed steps (taken net.Fail m (k.cluster.recovery n) (asked_by_client k.application.makes) seed steps sends (omega (arith, can.nodes n, some)))

-- what is so of each kind that is found is so of what is made for it
pub found-asked : (found : Found Kind) (n seed steps : ℕ) → IfFound found KindMakes
    → IfFound (found_map (λ k. makes k n) found) (λ a. length (a.made seed steps) ≡ steps)
found-asked Nowhere n seed steps is = absurd is
found-asked (Here k) n seed steps is = kind-asked k n seed steps

pub found-allowed : (row : StackRow) (found : Found Kind) (n seed steps : ℕ) → IfFound found (IsFit row) → IfFound found KindMakes → 0 < n → row.net ≢ net.One
    → IfFound (found_map (λ k. makes k n) found) (λ a. a.plays.play.refused (a.made seed steps) ≡ None)
found-allowed row Nowhere n seed steps fit can some sends = absurd fit
found-allowed row (Here k) n seed steps fit can some sends =
    kind-allowed k n seed steps can some (λ one. sends (fit.net ∙ one))

-- each stack has nodes, but not too many
pub has-nodes : (i : StackId) → 0 < made_nodes (row_of i)
has-nodes stack.Lock = omega arith
has-nodes _ = omega arith

pub few-made : (i : StackId) → made_nodes (row_of i) ≤ MAX_NODES
few-made stack.Lock = omega arith
few-made _ = omega arith
