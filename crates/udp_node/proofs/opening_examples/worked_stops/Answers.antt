-- What an opening writes that has bytes, or needs none.
use Rattle.std.proofs.Common.{◌≡◌, ℕ, List, [], ◌∷◌, Ok, rules, refl, sym, ap, subst}
use Rattle.disk.specs.Areas.{area_at}
use Rattle.kv_machine.specs.declared.cmd.KvCmd.{KvCmd}
use Rattle.slots.specs.Opening.{named}
use Rattle.vst_base.specs.declared.stack.StackId.TheVariants as stack
use Rattle.wire_fields.specs.Bytes.{has_bytes, number_bytes, number_in, read_number}
use Rattle.wire_messages.specs.KvBytes.{kv_command}
use Rattle.node_body.specs.Bodies.{body, body_of}
use Rattle.node_body.specs.Examples.{first_kept, old_held, who_as}
use Rattle.node_body.specs.Journals.{from_gate}
use Rattle.node_body.specs.Slots.{slot_found}
use Rattle.node_body.specs.declared.slot.Held.{Held}
use Rattle.udp_node.specs.Examples.{begun_held}
use Rattle.udp_node.proofs.opening_examples.worked_stops.Goals as goal

first_of : List ℕ → ℕ
first_of [] = 0
first_of (n ∷ ns) = n

-- the slot of a cluster with a name is not that of a node whose cluster has none
of_another_name : (selector : ℕ) (found : Held KvCmd) → 0 ≡ selector →
    slot_found stack.KvRaft kv_command (who_as 0 3 []) (area_at begun_held.disk (named selector)).bytes ≡ Ok found →
    ⊥
unfolding number_bytes number_in has_bytes read_number from_gate
of_another_name selector found e is =
    cc (subst (λ (n : ℕ).
    slot_found stack.KvRaft kv_command (who_as 0 3 []) (area_at begun_held.disk (named n)).bytes ≡ Ok found)
    (sym e) is)

pub returns-clause-fits_what_is_held : goal.returns-clause-fits_what_is_held
unfolding first_of
returns-clause-fits_what_is_held c = record {
  first = λ e. absurd (cc e);
  renewed = λ selector found is ok one. absurd (of_another_name selector found (ap first_of is) ok);
}

without_a_name : (body stack.KvRaft kv_command).Fits (body_of (who_as 0 3 []) first_kept) → ⊥
unfolding number_bytes number_in has_bytes read_number
without_a_name = search rules

pub returns-clause-fits_of_version_one_without_a_name : goal.returns-clause-fits_of_version_one_without_a_name
unfolding number_bytes number_in has_bytes read_number from_gate
returns-clause-fits_of_version_one_without_a_name c = λ x. without_a_name (x.renewed 0 (old_held first_kept 0 0) refl refl refl)
