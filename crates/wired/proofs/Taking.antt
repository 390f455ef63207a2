-- A step that is not refused is of nodes that exist, and gives input where a node takes it.
use Rattle.std.specs.Prelude.{◌≡◌, ℕ, ◌<◌, Bool, true, false, IsTrue, not, ◌&&◌, nat_lt, [], ◌∷◌, Some, None, refl}
use Rattle.std.proofs.Common.{sym}
use Rattle.std.proofs.lemmas.Bool.{false≢true, ltb-true}
use Rattle.handler_trait.specs.Handling.{Meaning}
use Rattle.net_semantics.specs.Steps.{acts_at, fails, input_is_taken, is_first, node_named, node_started, packet_named, refusal_in}
use Rattle.net_semantics.specs.Worlds.{World, copies}
use Rattle.vst_base.specs.Firsts.{first_of}
use Rattle.vst_base.specs.Nets.{has_kind, keeps_order, kind_in, AtNode, StepView}
use Rattle.vst_base.specs.declared.net.Net.{Net}
use Rattle.vst_base.specs.declared.step.StepRefusal.TheVariants as refusal

none_applies : (a b c d e f g : Bool)
    → first_of ((refusal.NotThisNet, a) ∷ (refusal.NoSuchNode, b) ∷ (refusal.NoInputHere, c) ∷ (refusal.NodeDown, d) ∷ (refusal.NodeUp, e) ∷ (refusal.NoCopy, f) ∷ (refusal.NotFirst, g) ∷ []) ≡ None
    → (b ≡ false) × (c ≡ false)
none_applies true b c d e f g h = absurd (cc (h))
none_applies false true c d e f g h = absurd (cc (h))
none_applies false false true d e f g h = absurd (cc (h))
none_applies false false false d e f g h = (refl, refl)

holds : (b : Bool) → not b ≡ false → b ≡ true
holds true h = refl
holds false h = absurd (false≢true (sym h))

module _ {S K I O M : Type 0} (net : Net) (m : Meaning S I O M) (w : World S K M) where
  passes : (s : StepView I) → refusal_in net m w s ≡ None → (fails (node_named s) (λ n. nat_lt n m.nodes) ≡ false) × (not (input_is_taken m.takes_input s) ≡ false)
  passes s none =
      none_applies (not (has_kind net (kind_in s))) (fails (node_named s) (λ n. nat_lt n m.nodes)) (not (input_is_taken m.takes_input s)) (fails (acts_at w s) w.is_up)
      (fails (node_started s) (λ n. not (w.is_up n))) (fails (packet_named s) (λ k. nat_lt 0 (copies w k)))
      (keeps_order net && fails (packet_named s) (is_first w)) none

  pub named_below : (s : StepView I) (n : ℕ) → node_named s ≡ Some n → refusal_in net m w s ≡ None → n < m.nodes
  named_below s n named none = ltb-true n m.nodes (holds (nat_lt n m.nodes) (rw named at (passes s none).0))

  pub input_taken : (n : ℕ) (i : I) → refusal_in net m w (AtNode n (Some i)) ≡ None → IsTrue (m.takes_input n)
  input_taken n i none = holds (m.takes_input n) (passes (AtNode n (Some i)) none).1
