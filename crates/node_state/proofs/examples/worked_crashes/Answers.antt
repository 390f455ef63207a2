-- What a crash leaves in an opening and in a save.
use Rattle.std.proofs.Common.{◌≡◌, false, true, List, [], ◌∷◌, ◌++◌, Some, take, rules, refl, sym, subst, inl, inr, ◌⊎◌}
use Rattle.disk.specs.Acts.{Act, StoreFailed, Sync, Wrote}
use Rattle.disk.specs.Disk.{Image, contents, may_leave}
use Rattle.disk.specs.DiskLaws.{IsCutShort}
use Rattle.disk.proofs.CutShort.{fronts_are_cut_short}
use Rattle.raft_types.specs.Messages.{KeptView}
use Rattle.slots.specs.Opening.{OpensAs}
use Rattle.vst_base.specs.declared.stack.StackId.TheVariants as stack
use Rattle.wire_fields.specs.Bytes.{has_bytes, number_bytes, number_in, read_number}
use Rattle.wire_messages.specs.KvByteLaws.{kv_command_is_format}
use Rattle.wire_messages.specs.KvBytes.{kv_command}
use Rattle.node_body.specs.Bodies.{body, body_of}
use Rattle.node_body.specs.CommandLengths.{kv_length}
use Rattle.node_body.specs.Examples.{first_slot, new_held, voted_slot}
use Rattle.node_body.specs.Journals.{from_gate}
use Rattle.node_acts.specs.Examples.{Command, state, three_syncs, who, whole}
use Rattle.node_acts.specs.StateActs.{first_kept, opening_acts, state_acts}
use Rattle.node_acts.specs.StateLaws.{HasBytes, IsAsFound, OpeningFits}
use Rattle.node_acts.specs.Stores.{Holds, found_by, is_held}
use Rattle.node_acts.proofs.StateOpens.{opening_leaves}
use Rattle.node_acts.proofs.StateSaves.{save_keeps_state}
use Rattle.node_state.specs.Examples.{empty, held, known, leaves_found}
use Rattle.node_state.proofs.examples.worked_crashes.Goals as goal

abbrev voted : KeptView Command
voted = state 1 (Some 1) []

first_fits : (body stack.KvRaft kv_command).Fits (body_of who (first_kept {C = Command}))
unfolding number_bytes number_in has_bytes read_number
first_fits = search rules

fits : OpeningFits stack.KvRaft kv_command who empty.disk
fits = record { first = λ e. first_fits; renewed = λ selector found is e one. absurd (cc is) }

-- of an opening that was cut short, or none
short_leaves : (did : List Act) → IsCutShort (opening_acts stack.KvRaft kv_command who (contents empty.disk)) did →
    leaves_found empty did
short_leaves did short = record {
  did = did;
  acts = refl;
  each = λ n image m third.
      opening_leaves stack.KvRaft kv_command kv_command_is_format kv_length who empty.disk (take n did) image
      (fronts_are_cut_short _ did n short) fits m third;
}

is_short : IsCutShort (opening_acts stack.KvRaft kv_command who
    (record { slot0 = []; slot1 = []; selector = [] })) (take 2 three_syncs ++ StoreFailed (Sync 2) ∷ [])
is_short = inl (refl, inl (refl, inr (inl refl, refl)))

pub returns-clause-cut_short : goal.returns-clause-cut_short
returns-clause-cut_short c = short_leaves (take 2 three_syncs ++ StoreFailed (Sync 2) ∷ []) is_short

-- the acts are whole
all_short : (acts : List Act) → IsCutShort acts acts
all_short [] = tt
all_short (act ∷ acts) = inl (refl, all_short acts)

pub returns-clause-fresh : goal.returns-clause-fresh
unfolding number_bytes
returns-clause-fresh c =
    let acts : List Act = opening_acts stack.KvRaft kv_command who (record { slot0 = []; slot1 = []; selector = [] }) in
    short_leaves acts (all_short acts)

not_first : IsAsFound (found_by stack.KvRaft kv_command who) first_kept empty.disk
    (record { slot0 = voted_slot ++ 0 ∷ []; slot1 = []; selector = 0 ∷ [] }) → ⊥
unfolding number_bytes number_in has_bytes read_number from_gate
not_first = search rules

pub returns-clause-a_vote : goal.returns-clause-a_vote
returns-clause-a_vote c = λ x.
    let acts : List Act = three_syncs ++ (whole 0 (voted_slot ++ 0 ∷ []) ++ (Wrote 2 0 (0 ∷ []) ∷ [])) in
    not_first
    (subst (λ (did : List Act). (image : Image) → may_leave empty.disk (take 7 did) image ≡ true → take 3 (take 7 did) ≡ three_syncs →
    IsAsFound (found_by stack.KvRaft kv_command who) first_kept empty.disk image) (sym x.acts)
    (x.each 7) (record { slot0 = voted_slot ++ 0 ∷ []; slot1 = []; selector = 0 ∷ [] }) refl refl)

holds : Holds stack.KvRaft kv_command known first_kept held.disk
unfolding number_bytes number_in has_bytes read_number from_gate
holds = record {
  pending = record {
    slot0 = record { ranges = refl; lengths = refl };
    slot1 = record { ranges = refl; lengths = refl };
    selector = record { ranges = refl; lengths = refl };
  };
  selector = refl;
  slot = new_held first_kept 1000 0;
  found = refl;
  version = refl;
  kept_is = refl;
  left = refl;
  gate = inr refl;
  knows = record { term = refl; voted = refl; terms = refl };
}

has : is_held known voted ≡ false → HasBytes stack.KvRaft kv_command known voted
unfolding number_bytes number_in has_bytes read_number
has e = search rules

pub returns-clause-saved : goal.returns-clause-saved
returns-clause-saved c = λ before h continues.
    save_keeps_state stack.KvRaft kv_command kv_command_is_format kv_length known before voted held.disk h
    continues has

pub returns-clause-held : goal.returns-clause-held
returns-clause-held c = (first_kept, holds, refl)

pub returns-clause-either : goal.returns-clause-either
unfolding number_bytes
returns-clause-either c = record {
  did = state_acts stack.KvRaft kv_command known voted;
  acts = refl;
  each = λ before n image h continues m.
      (save_keeps_state stack.KvRaft kv_command kv_command_is_format kv_length known before voted held.disk h
      continues has).keeps.each n image m;
}

opens_as_neither : (OpensAs (found_by stack.KvRaft kv_command known.who) (first_kept {C = Command})
    (record { slot0 = first_slot ++ 1 ∷ []; slot1 = []; selector = 0 ∷ [] }))
    ⊎ OpensAs (found_by stack.KvRaft kv_command known.who) voted
    (record { slot0 = first_slot ++ 1 ∷ []; slot1 = []; selector = 0 ∷ [] }) → ⊥
unfolding number_bytes number_in has_bytes read_number from_gate
opens_as_neither = search rules

pub returns-clause-neither : goal.returns-clause-neither
returns-clause-neither c = λ x.
    opens_as_neither
    (subst (λ (did : List Act). (image : Image) → may_leave held.disk (take 1 did) image ≡ true →
    OpensAs (found_by stack.KvRaft kv_command known.who) (first_kept {C = Command}) image
    ⊎ OpensAs (found_by stack.KvRaft kv_command known.who) voted image) (sym x.acts)
    (λ image m. x.each first_kept 1 image holds refl m)
    (record { slot0 = first_slot ++ 1 ∷ []; slot1 = []; selector = 0 ∷ [] }) refl)
