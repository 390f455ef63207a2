-- What is known of a step that is not refused.
use Rattle.std.proofs.Common.{◌≡◌, ℕ, zero, suc, ◌≤◌, Bool, true, false, List, [], ◌∷◌, map, Option, Some, None, slice_get, refl, ap, sym, arith}
use Rattle.std.specs.Prelude.{nat_lt, not, is_none}
use Rattle.std.proofs.lemmas.Bool.{false≢true, ltb-true}
use Rattle.std.proofs.lemmas.Option.{same_Some}
use Rattle.handler_trait.specs.Handling.{Meaning}
use Rattle.vst_base.specs.Firsts.{first_of}
use Rattle.vst_base.specs.Nets.{has_kind, kind_of}
use Rattle.vst_base.specs.declared.net.Net.TheVariants as net
use Rattle.vst_base.specs.declared.step.StepRefusal.TheVariants as refusal
use Rattle.net_semantics.specs.Worlds.{copies, copies_of}
use Rattle.net_semantics.specs.Steps.{acting, fails, node_of, packet_of, reboots, takes_input_of}
use Rattle.act_network.specs.declared.step.ActStep.{ActStep}
use Rattle.act_network.specs.ActWorlds.{ActWorld, Flying, as_world, packet_in}
use Rattle.act_network.specs.ActRefusals.{act_refusal, begins_at, goes_on_at, is_idle, refused_as}

pub record AreFalse (a b c f g h : Bool) : Type 0 where
  pub exists : a ≡ false
  pub takes : b ≡ false
  pub up_is : c ≡ false
  pub down_is : f ≡ false
  pub copy : g ≡ false
  pub idle : h ≡ false

none-applies : (z a b c f g h i : Bool) →
    first_of ((refusal.NotThisNet, z) ∷ (refusal.NoSuchNode, a) ∷ (refusal.NoInputHere, b) ∷ (refusal.NodeDown, c) ∷ (refusal.NodeUp, f)
    ∷ (refusal.NoCopy, g) ∷ (refusal.NotFirst, false) ∷ (refusal.NodeBusy, h) ∷ (refusal.NodeIdle, i) ∷ []) ≡ None → AreFalse a b c f g h
none-applies true a b c f g h i e = cc
none-applies false true b c f g h i e = cc
none-applies false false true c f g h i e = cc
none-applies false false false true f g h i e = cc
none-applies false false false false true g h i e = cc
none-applies false false false false false true h i e = cc
none-applies false false false false false false true i e = cc
none-applies false false false false false false false i e = record { exists = refl; takes = refl; up_is = refl; down_is = refl; copy = refl; idle = refl }

pub not-false : (b : Bool) → not b ≡ false → b ≡ true
not-false true e = refl
not-false false e = sym e

pub is-none : {P : Type 0} (o : Option P) → is_none o ≡ true → o ≡ None
is-none None e = refl
is-none (Some x) e = absurd (false≢true e)

module _ {M : Type 0} where
  -- a packet, by its place
  pub packet-there : (ps : List (Flying M)) (k : ℕ) (p : Flying M) → slice_get ps k ≡ Some p → slice_get (map packet_in ps) k ≡ Some p.packet
  packet-there [] k p e = cc
  packet-there (q ∷ ps) zero p e = ap (λ (x : Flying M). let s : Option _ = Some x.packet in s) (same_Some q p e)
  packet-there (q ∷ ps) (suc k) p e = packet-there ps k p e

  pub copies-there : (ps : List (Flying M)) (k : ℕ) → not (nat_lt 0 (copies_of (slice_get (map packet_in ps) k))) ≡ false →
      (p : Flying M) × (slice_get ps k ≡ Some p) × (1 ≤ p.packet.copies)
  copies-there [] k e = absurd (false≢true (sym e))
  copies-there (p ∷ ps) zero e = (p, refl, let h = ltb-true 0 p.packet.copies (not-false (nat_lt 0 p.packet.copies) e) in omega (arith, h))
  copies-there (p ∷ ps) (suc k) e = copies-there ps k e

module _ {S I O M D A X : Type 0} (m : Meaning S I O M) where
  abbrev pub NotRefused : ActWorld S I O M D A X → ActStep I X → Type 0
  NotRefused w s =
      AreFalse (fails (node_of (refused_as s)) (λ n. nat_lt n m.nodes)) (not (takes_input_of m.takes_input (refused_as s)))
      (fails (acting (as_world w) (refused_as s)) (λ n. is_none (w.down n))) (fails (reboots (refused_as s)) (λ n. not (is_none (w.down n))))
      (fails (packet_of (refused_as s)) (λ k. nat_lt 0 (copies (as_world w) k))) (fails (begins_at w s) (is_idle w))

  pub not-refused : (w : ActWorld S I O M D A X) (s : ActStep I X) → act_refusal m w s ≡ None → NotRefused w s
  not-refused w s e =
      none-applies (not (has_kind net.Fail (kind_of (refused_as s)))) (fails (node_of (refused_as s)) (λ n. nat_lt n m.nodes)) (not (takes_input_of m.takes_input (refused_as s)))
      (fails (acting (as_world w) (refused_as s)) (λ n. is_none (w.down n))) (fails (reboots (refused_as s)) (λ n. not (is_none (w.down n))))
      (fails (packet_of (refused_as s)) (λ k. nat_lt 0 (copies (as_world w) k))) (fails (begins_at w s) (is_idle w))
      (fails (goes_on_at s) (λ n. not (is_idle w n))) e
