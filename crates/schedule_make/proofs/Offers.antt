-- What is drawn is what the definition of a made step says.
use Rattle.std.proofs.Common.{◌≡◌, ℕ, ◌+◌, ◌%◌, ◌<◌, Bool, true, false, cond, List, [], ◌∷◌, length, get_or, Some, None, is_some, refl, sym, ap, ◌∙◌, arith, ◌⊎◌, inl, inr}
use Rattle.std.specs.Prelude.{◌&&◌, nat_lt, if◌then◌else◌}
use Rattle.std.specs.List.{list_all}
use Rattle.std.specs.Option.{unwrap_or}
use Rattle.std.proofs.lemmas.Bool.{and_parts, lt-ltb, ltb-true}
use Rattle.std.proofs.lemmas.Option.{slice_get-get_or, slice_get_within, unwrap_or-slice_get}
use Rattle.std.proofs.lemmas.Nat.{mod_below}
use Rattle.flight_index.specs.Flights.{goes_up, is_within, numbers_of}
use Rattle.handler_trait.specs.Handling.{Meaning}
use Rattle.net_semantics.specs.Worlds.{Packet, World}
use Rattle.vst_base.specs.Nets.{has_kind}
use Rattle.vst_base.specs.declared.net.Net.{Net}
use Rattle.vst_base.specs.declared.step.StepKind.{StepKind}
use Rattle.vst_base.specs.declared.step.StepKind.TheVariants as kind
use Rattle.schedule_make.specs.Candidates.{candidates, chosen, has_step, is_in_flight, made_kind, may_act, nodes_that}
use Rattle.schedule_make.specs.Offers.{offered, picked}
use Rattle.schedule_make.specs.Flying.{flight_of, flights_of}

some-if : (b : Bool) (d : ℕ) → is_some (if b then Some d else None) ≡ b
some-if true d = refl
some-if false d = refl

up-if : (up : List Bool) (is_up : ℕ → Bool) (b : Bool) (d : ℕ) → (is_within (if b then Some d else None) ≡ true → b ≡ true → get_or up d false ≡ is_up d) → is_within (if b then Some d else None) ≡ true
    → goes_up up (if b then Some d else None) ≡ (b && is_up d)
up-if up is_up true d same within = same within refl
up-if up is_up false d same within = refl

module _ {M : Type 0} where
  -- the packets in flight have the same numbers in the index
  pub numbers-are : (from : ℕ) (ps : List (Packet M)) → numbers_of (is_some {T = ℕ}) from (flights_of ps) ≡ numbers_of is_in_flight from ps
  numbers-are from [] = refl
  numbers-are from (p ∷ ps) =
      ap (λ (b : Bool). cond b (from ∷ numbers_of is_some (from + 1) (flights_of ps)) (numbers_of is_some (from + 1) (flights_of ps))) (some-if (is_in_flight p) p.destination)
      ∙ ap (λ ns. cond (is_in_flight p) (from ∷ ns) ns) (numbers-are (from + 1) ps)

  pub numbers-up : (up : List Bool) (is_up : ℕ → Bool) → ((n : ℕ) → n < 9 → get_or up n false ≡ is_up n) → (from : ℕ) (ps : List (Packet M)) → list_all is_within (flights_of ps) ≡ true
      → numbers_of (goes_up up) from (flights_of ps) ≡ numbers_of (λ p. is_in_flight p && is_up p.destination) from ps
  numbers-up up is_up same from [] within = refl
  numbers-up up is_up same from (p ∷ ps) within =
      let parts : (is_within (flight_of p) ≡ true) × (list_all is_within (flights_of ps) ≡ true) = and_parts (is_within (flight_of p)) (list_all is_within (flights_of ps)) within in
      ap (λ (b : Bool). cond b (from ∷ numbers_of (goes_up up) (from + 1) (flights_of ps)) (numbers_of (goes_up up) (from + 1) (flights_of ps)))
      (up-if up is_up (is_in_flight p) p.destination (λ w b. same p.destination (below (is_in_flight p) p.destination w b)) parts.0)
      ∙ ap (λ ns. cond (is_in_flight p && is_up p.destination) (from ∷ ns) ns) (numbers-up up is_up same (from + 1) ps parts.1)
    where
      below : (b : Bool) (d : ℕ) → is_within (if b then Some d else None) ≡ true → b ≡ true → d < 9
      below true d w is = ltb-true d 9 w
      below false d w is = cc

pub picked_or : (cs : List ℕ) (number : ℕ) → unwrap_or (picked cs number) 0 ≡ chosen cs number
picked_or cs number = unwrap_or-slice_get cs (number % length cs) 0

offers : (b : Bool) (cs : List ℕ) (number at : ℕ) → (if b then picked cs number else None) ≡ Some at → ((b && nat_lt 0 (length cs)) ≡ true) × (at ≡ chosen cs number)
offers true cs number at e =
    let inside = slice_get_within cs (number % length cs) at e in
    (lt-ltb 0 (length cs) (omega (arith, inside)), sym (sym (picked_or cs number) ∙ ap (λ o. unwrap_or o 0) e))
offers false cs number at e = cc

offers-none : (b : Bool) (cs : List ℕ) (number : ℕ) → (if b then picked cs number else None) ≡ None → (b && nat_lt 0 (length cs)) ≡ false
offers-none true [] number e = refl
offers-none true (c ∷ cs) number e =
    let there : picked (c ∷ cs) number ≡ Some (chosen (c ∷ cs) number) = slice_get-get_or (c ∷ cs) (number % length (c ∷ cs)) 0 (mod_below number (length (c ∷ cs)) (omega arith)) in
    cc there
offers-none false cs number e = refl

module _ {S K I O M : Type 0} (net : Net) (m : Meaning S I O M) (w : World S K M) where
  pub offered_some : (k : StepKind) (number at : ℕ) → offered net m w k number ≡ Some at → (has_step net m w k ≡ true) × (at ≡ chosen (candidates net m w k) number)
  offered_some k number at e = offers (has_kind net k) (candidates net m w k) number at e

  pub offered_none : (k : StepKind) (number : ℕ) → offered net m w k number ≡ None → has_step net m w k ≡ false
  offered_none k number e = offers-none (has_kind net k) (candidates net m w k) number e

  pub made_drawn : (k : StepKind) → has_step net m w k ≡ true → made_kind net m w k ≡ k
  made_drawn k e = ap (λ (b : Bool). if b then k else if has_step net m w kind.Tick then kind.Tick else kind.Reboot) e

  pub made_tick : (k : StepKind) → has_step net m w k ≡ false → has_step net m w kind.Tick ≡ true → made_kind net m w k ≡ kind.Tick
  made_tick k e tick = ap (λ (b : Bool). if b then k else if has_step net m w kind.Tick then kind.Tick else kind.Reboot) e
      ∙ ap (λ (b : Bool). if b then kind.Tick else kind.Reboot) tick

  pub made_rest : (k : StepKind) → has_step net m w k ≡ false → has_step net m w kind.Tick ≡ false → made_kind net m w k ≡ kind.Reboot
  made_rest k e tick = ap (λ (b : Bool). if b then k else if has_step net m w kind.Tick then kind.Tick else kind.Reboot) e
      ∙ ap (λ (b : Bool). if b then kind.Tick else kind.Reboot) tick

  -- a kind of step that is taken at a node
  pub node-candidates : (k : StepKind) → (k ≡ kind.In) ⊎ ((k ≡ kind.Tick) ⊎ ((k ≡ kind.Crash) ⊎ (k ≡ kind.Reboot))) → candidates net m w k ≡ nodes_that m (may_act m w k)
  node-candidates k (inl e) = rw e refl
  node-candidates k (inr (inl e)) = rw e refl
  node-candidates k (inr (inr (inl e))) = rw e refl
  node-candidates k (inr (inr (inr e))) = rw e refl
