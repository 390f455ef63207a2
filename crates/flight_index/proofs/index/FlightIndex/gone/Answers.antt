use Rattle.std.proofs.Common.{◌≡◌, ◌<◌, ◌^◌, ℕ, List, [], Option, None, length, true, set, sym, subst}
use Rattle.std.specs.List.{list_all}
use Rattle.std.specs.Option.{unwrap_or}
use Rattle.std.proofs.lemmas.List.{length-set}
use Rattle.flight_index.specs.declared.index.FlightIndex.TheInside.{Inside}
use Rattle.flight_index.specs.Flights.{is_within}
use Rattle.flight_index.proofs.Counts.{within-less}
use Rattle.flight_index.proofs.index.FlightIndex.gone.Goals as goal
use Rattle.flight_index.proofs.index.FlightIndex.gone.Goals.{in-Some, in_default}

abbrev Keeps : List (Option ℕ) → Type 0
Keeps ps = (length ps < 2 ^ 32) × (list_all is_within ps ≡ true)

less : (ps : List (Option ℕ)) (k : ℕ) → Keeps ps → Keeps (set ps k None)
less ps k h = (rw (length-set ps k None) h.0, within-less ps k h.1)

pub invariant_of-self : goal.invariant_of-self
invariant_of-self c = elim c.match-self.branch [
  | in-Some w ↦ subst (λ (i : Inside). Keeps (unwrap_or i.tree [])) (sym w.self-inside-is) (subst Keeps (sym w.gone-destination.ensures.gone) (less w.in-Some.tree _
      (subst (λ (o : Option (List (Option ℕ))). Keeps (unwrap_or o [])) w.in-Some.is c.self.invariant)))
  | in_default w ↦ subst (λ (i : Inside). Keeps (unwrap_or i.tree [])) (sym w.self-inside-is) c.self.invariant
]
