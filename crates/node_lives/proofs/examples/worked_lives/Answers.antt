-- A life that was killed in its save, and what the next one may find.
use Rattle.std.proofs.Common.{◌≡◌, ℕ, true, [], ◌++◌, take, refl, sym, subst, inl, inr}
use Rattle.disk.proofs.Between.{by_model}
use Rattle.disk.proofs.CutShort.{fronts_are_cut_short}
use Rattle.disk.proofs.Disks.{settled_stays}
use Rattle.disk.specs.Disk.{Image, contents, may_become, may_hold}
use Rattle.kv_machine.specs.Kv.{kv}
use Rattle.lists.specs.Places.{not_empty}
use Rattle.node_acts.proofs.StateOpens.{syncs_leave}
use Rattle.node_acts.specs.Examples.{three_syncs}
use Rattle.node_device.specs.Telling.{NoMore, told_after}
use Rattle.node_records.proofs.ActKinds.{whole as all_cut_short}
use Rattle.udp_node.proofs.Worked.{after_one, after_two, all_turns, booted, first_turn, second_turn, started, started_at, third_turn, voter}
use Rattle.udp_node.specs.Examples.{begun, config, fresh_opening, voting}
use Rattle.udp_node.specs.declared.fault.NodeFault.TheVariants as fault
use Rattle.vst_base.specs.declared.stack.StackId.TheVariants as stack
use Rattle.wire_fields.specs.Bytes.{has_bytes, number_bytes, number_in, read_number}
use Rattle.wire_messages.specs.KvBytes.{kv_command, kv_output}
use Rattle.node_lives.specs.Examples.{again, found_with, killed}
use Rattle.node_lives.specs.Lives.{IsLife, Life, left_by}
use Rattle.node_lives.proofs.examples.worked_lives.Goals as goal

abbrev is_life : Life → Type 0
is_life life = IsLife stack.KvRaft config kv kv_command kv_output life

killed_is_life : is_life killed
unfolding number_bytes number_in has_bytes read_number
killed_is_life = record {
  now = told_after begun (fresh_opening ++ voting);
  whole = fresh_opening ++ voting;
  runs = inl (
    3,
    record {
      first = booted;
      begun = started_at;
      next = voter;
      starts = started;
      each = (booted, after_two, (booted, after_one, (booted, started_at, (refl, refl), first_turn), second_turn), third_turn);
      all = all_turns;
    },
  );
  told = refl;
  front = refl;
}

-- memory was wanted after the three syncs
again_is_life : (gate vote : ℕ) → is_life (again gate vote)
again_is_life gate vote = record {
  now = told_after (found_with gate vote) three_syncs;
  whole = three_syncs;
  runs = inr (
    fault.Memory,
    0,
    inl (record {
      stopped = (three_syncs, inl (refl, inl (refl, inl (refl, tt))), record { acts = refl; disk = λ image may. may });
      leaves = record {
        did = three_syncs;
        acts = refl;
        each = λ n image may third.
            inl (syncs_leave (found_with gate vote).disk (take n three_syncs) image (fronts_are_cut_short three_syncs three_syncs n
            (all_cut_short three_syncs)) may third);
      };
    }),
  );
  told = refl;
  front = refl;
}

-- of areas at rest a crash leaves what they hold
at_rest_leaves : (gate vote : ℕ) → may_hold (left_by killed) (contents (found_with gate vote).disk) ≡ true →
    NoMore (left_by killed) (found_with gate vote).disk
at_rest_leaves gate vote holds image may =
    let is : image ≡ contents (found_with gate vote).disk =
    settled_stays may_become by_model (found_with gate vote).disk image
    (record {
      slot0 = record { ranges = refl; lengths = refl };
      slot1 = record { ranges = refl; lengths = refl };
      selector = record { ranges = refl; lengths = refl };
    }) may in
    subst (λ (i : Image). may_hold (left_by killed) i ≡ true) (sym is) holds

pub returns-clause-not_fresh : goal.returns-clause-not_fresh
returns-clause-not_fresh c = λ x. not_empty 0 [] (x (contents (found_with 1 1).disk) refl)

pub returns-clause-voted : goal.returns-clause-voted
returns-clause-voted c = (λ image may. may, killed_is_life, (at_rest_leaves 1 1 refl, again_is_life 1 1, tt))

pub returns-clause-not_voted : goal.returns-clause-not_voted
returns-clause-not_voted c = (λ image may. may, killed_is_life, (at_rest_leaves 0 1 refl, again_is_life 0 1, tt))

pub returns-clause-written_by_another : goal.returns-clause-written_by_another
returns-clause-written_by_another c = λ x.
    let no = x.2.0 (contents (found_with 1 2).disk) refl in
    absurd (cc no)
