-- The slots that stand there, of a base and of a record behind it.
use Rattle.std.proofs.Common.{ℕ, List, [], ◌∷◌, ◌++◌, Some, refl, inr}
use Rattle.disk.specs.Disk.{NothingPending}
use Rattle.node_acts.specs.Examples.{at_rest, state}
use Rattle.node_acts.specs.StateActs.{first_kept}
use Rattle.node_body.specs.Examples.{first_slot, new_held, vote_record}
use Rattle.node_body.specs.Journals as journals
use Rattle.wire_fields.specs.Bytes as bytes
use Rattle.node_acts.proofs.held_examples.worked_holding.Goals as goal

rests : (slot0 slot1 selector : List ℕ) → NothingPending (at_rest slot0 slot1 selector)
rests slot0 slot1 selector = record {
  slot0 = record { ranges = refl; lengths = refl };
  slot1 = record { ranges = refl; lengths = refl };
  selector = record { ranges = refl; lengths = refl };
}

pub returns-clause-first : goal.returns-clause-first
unfolding bytes.read_number bytes.has_bytes bytes.number_in journals.from_gate
returns-clause-first c = record {
  pending = rests (first_slot ++ 0 ∷ []) [] (0 ∷ []);
  selector = refl;
  slot = new_held first_kept 1000 0;
  found = refl;
  version = refl;
  kept_is = refl;
  left = refl;
  gate = inr refl;
  knows = record { term = refl; voted = refl; terms = refl };
}

pub returns-clause-after_a_record : goal.returns-clause-after_a_record
unfolding bytes.read_number bytes.has_bytes bytes.number_in journals.from_gate
returns-clause-after_a_record c = record {
  pending = rests (first_slot ++ 1 ∷ (vote_record ++ 0 ∷ [])) [] (0 ∷ []);
  selector = refl;
  slot = new_held (state 1 (Some 1) []) 999 0;
  found = refl;
  version = refl;
  kept_is = refl;
  left = refl;
  gate = inr refl;
  knows = record { term = refl; voted = refl; terms = refl };
}
