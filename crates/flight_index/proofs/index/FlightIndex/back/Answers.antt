use Rattle.std.proofs.Common.{◌≡◌, ◌<◌, ◌^◌, ℕ, List, [], Option, Some, length, true, set, sym, subst}
use Rattle.std.specs.List.{list_all}
use Rattle.std.specs.Option.{unwrap_or}
use Rattle.std.proofs.lemmas.List.{length-set}
use Rattle.vst_base.specs.declared.node.TheConstants.{MAX_NODES}
use Rattle.flight_index.specs.declared.index.FlightIndex.TheInside.{Inside}
use Rattle.flight_index.specs.Flights.{is_within}
use Rattle.flight_index.proofs.Counts.{within-back}
use Rattle.flight_index.proofs.index.FlightIndex.back.Goals as goal
use Rattle.flight_index.proofs.index.FlightIndex.back.Goals.{in-Some, in_default}

abbrev Keeps : List (Option ℕ) → Type 0
Keeps ps = (length ps < 2 ^ 32) × (list_all is_within ps ≡ true)

more : (ps : List (Option ℕ)) (k to : ℕ) → to < MAX_NODES → Keeps ps → Keeps (set ps k (Some to))
more ps k to below h = (rw (length-set ps k (Some to)) h.0, within-back ps k to below h.1)

pub invariant_of-self : goal.invariant_of-self
invariant_of-self c = elim c.match-self.branch [
  | in-Some w ↦ subst (λ (i : Inside). Keeps (unwrap_or i.tree [])) (sym w.self-inside-is) (subst Keeps (sym w.back.ensures) (more w.in-Some.tree _ _ c.requires.node
      (subst (λ (o : Option (List (Option ℕ))). Keeps (unwrap_or o [])) w.in-Some.is c.self.invariant)))
  | in_default w ↦ subst (λ (i : Inside). Keeps (unwrap_or i.tree [])) (sym w.self-inside-is) c.self.invariant
]
