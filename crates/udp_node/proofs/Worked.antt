-- The worked run, by the laws of openings and of turns.
use Rattle.std.proofs.Common.{◌≡◌, ℕ, false, List, [], ◌∷◌, ◌++◌, take, rules, refl, sym, ap, subst, ◌∙◌}
use Rattle.std.proofs.lemmas.List.{append_cancel_left}
use Rattle.disk.specs.Acts.{Act, Now, Took}
use Rattle.disk.proofs.CutShort.{fronts_are_cut_short}
use Rattle.kv_machine.specs.Kv.{Store, kv}
use Rattle.kv_machine.specs.declared.cmd.KvCmd.{KvCmd}
use Rattle.kv_machine.specs.declared.out.KvOut.{KvOut}
use Rattle.raft_types.specs.Messages.{KeptView}
use Rattle.vst_base.specs.declared.stack.StackId.TheVariants as stack
use Rattle.wire_fields.specs.Bytes.{has_bytes, number_bytes, number_in, read_number}
use Rattle.wire_messages.specs.KvByteLaws.{kv_command_is_format}
use Rattle.wire_messages.specs.KvBytes.{kv_command, kv_output}
use Rattle.node_body.specs.Bodies.{body, body_of}
use Rattle.node_body.specs.CommandLengths.{kv_length}
use Rattle.node_acts.specs.StateActs.{first_kept}
use Rattle.node_acts.specs.StateLaws.{HasBytes, OpeningFits, StateSaved}
use Rattle.node_acts.specs.Stores.{Holds, found_by, is_held}
use Rattle.node_acts.proofs.StateOpens.{fresh_is_held, opening_leaves}
use Rattle.node_acts.proofs.StateSaves.{save_keeps_state}
use Rattle.node_core.specs.Replicas.{starting, view_of, who_of}
use Rattle.node_core.specs.declared.replica.Replica.{Replica}
use Rattle.node_datagrams.specs.Configured.{settings_of}
use Rattle.node_device.specs.Telling.{Told, told_after}
use Rattle.node_progress.proofs.Turns.{event_goes, first_goes, quiet_goes}
use Rattle.node_records.specs.Examples.{answer, answered, first, known, voted}
use Rattle.node_records.specs.Moments.{LeavesSaved}
use Rattle.node_records.specs.Records.{AreRecord, HearsAs}
use Rattle.node_records.proofs.ActKinds.{whole}
use Rattle.node_run.specs.Examples.{asked_by_1, at_port, candidate, done, three_turns}
use Rattle.node_run.specs.Runs.{Done, Starting, Between}
use Rattle.node_state.specs.Crashes.{LeavesFound}
use Rattle.udp_node.specs.Acting.{next_replica}
use Rattle.udp_node.specs.Examples.{begun, config, fresh_opening, opens_by, serves, voting}
use Rattle.udp_node.specs.Serving.{HasOpened, Served, Went}

first_fits : (body stack.KvRaft kv_command).Fits (body_of (who_of config) (first_kept {C = KvCmd}))
unfolding number_bytes number_in has_bytes read_number
first_fits = search rules

pub fits : OpeningFits stack.KvRaft kv_command (who_of config) begun.disk
fits = record { first = λ e. first_fits; renewed = λ selector found is e one. absurd (cc is) }

abbrev pub opened : Told
opened = told_after begun (opens_by begun)

pub held : Holds stack.KvRaft kv_command known first opened.disk
unfolding number_bytes
held = fresh_is_held stack.KvRaft kv_command kv_command_is_format kv_length (who_of config) begun.disk refl first_fits

leaves : LeavesFound stack.KvRaft kv_command (who_of config) begun opened
leaves = record {
  did = opens_by begun;
  acts = refl;
  each = λ n image m third.
      opening_leaves stack.KvRaft kv_command kv_command_is_format kv_length (who_of config) begun.disk
      (take n (opens_by begun)) image (fronts_are_cut_short (opens_by begun) (opens_by begun) n (whole (opens_by begun))) fits m third;
}

pub has_opened : HasOpened stack.KvRaft config kv_command known first begun opened
has_opened = record { who = refl; holds = held; from = refl; is = refl; leaves = leaves }

-- the node after its first clock value, and after its vote
abbrev pub booted : Replica Store KvCmd KvOut
booted = starting config kv known first 0

abbrev pub voter : Replica Store KvCmd KvOut
voter = next_replica stack.KvRaft config kv kv_command kv_output booted (candidate 1 1)

abbrev pub started_at : Told
started_at = told_after opened (Now 0 ∷ [])

abbrev pub started : Served stack.KvRaft config kv kv_command kv_output 0 booted begun started_at
started = record {
  kept = first;
  store = known;
  opened = opened;
  opening = has_opened;
  turns = first_goes (settings_of config) kv stack.KvRaft kv_command kv_output (who_of config) first known 0
      opened held refl;
}

-- what the three turns hear
abbrev pub no_datagram : List Act
no_datagram = Now 0 ∷ Took 300 (at_port 7001) (86 ∷ 2 ∷ 5 ∷ 0 ∷ 1 ∷ []) ∷ []

abbrev pub of_a_stranger : List Act
of_a_stranger = Now 0 ∷ Took 300 (at_port 9) asked_by_1 ∷ []

abbrev pub asked : List Act
asked = Now 0 ∷ Took 300 (at_port 7001) asked_by_1 ∷ []

abbrev pub vote : Done KvCmd
vote = done (candidate 1 1) voted ((at_port 7001, answer) ∷ [])

hears_none : HearsAs (settings_of config) kv kv_command kv_output (Between (view_of booted)) no_datagram [] 1 (Between (view_of booted))
unfolding number_bytes number_in has_bytes read_number
hears_none = search rules

hears_stranger : HearsAs (settings_of config) kv kv_command kv_output (Between (view_of booted)) of_a_stranger [] 1 (Between (view_of booted))
unfolding number_bytes number_in has_bytes read_number
hears_stranger = search rules

hears_vote : HearsAs (settings_of config) kv kv_command kv_output (Between (view_of booted)) asked (vote ∷ []) 1 (Between (view_of voter))
unfolding number_bytes number_in has_bytes read_number
hears_vote = search rules

hears_all : HearsAs (settings_of config) kv kv_command kv_output (Starting first) three_turns (vote ∷ []) 3 (Between (view_of voter))
unfolding number_bytes number_in has_bytes read_number
hears_all = search rules

has : is_held known voted ≡ false → HasBytes stack.KvRaft kv_command known voted
unfolding number_bytes number_in has_bytes read_number
has e = search rules

saved : StateSaved stack.KvRaft kv_command known first voted opened.disk
saved =
    save_keeps_state stack.KvRaft kv_command kv_command_is_format kv_length known first voted opened.disk held
    refl has

abbrev pub after_one : Told
after_one = told_after started_at no_datagram

abbrev pub after_two : Told
after_two = told_after after_one of_a_stranger

abbrev pub after_three : Told
after_three = told_after begun (fresh_opening ++ voting)

pub first_turn : Went stack.KvRaft config kv kv_command kv_output booted 1 booted started_at after_one
first_turn =
    quiet_goes (settings_of config) kv stack.KvRaft kv_command kv_output (who_of config)
    (Between (view_of booted)) first known 1 (view_of booted) no_datagram started_at hears_none held refl

pub second_turn : Went stack.KvRaft config kv kv_command kv_output booted 1 booted after_one after_two
second_turn =
    quiet_goes (settings_of config) kv stack.KvRaft kv_command kv_output (who_of config)
    (Between (view_of booted)) first known 1 (view_of booted) of_a_stranger after_one hears_stranger held refl

pub third_turn : Went stack.KvRaft config kv kv_command kv_output booted 1 voter after_two after_three
unfolding number_bytes number_in has_bytes read_number
third_turn =
    event_goes (settings_of config) kv stack.KvRaft kv_command kv_output (who_of config)
    (Between (view_of booted)) first known 1 (view_of voter) vote asked (answered ∷ []) after_two after_three refl hears_vote held refl saved
    (tt, tt) refl refl

pub all_turns : Served stack.KvRaft config kv kv_command kv_output 3 voter begun after_three
unfolding number_bytes number_in has_bytes read_number
all_turns = record {
  kept = first;
  store = known;
  opened = opened;
  opening = has_opened;
  turns = event_goes (settings_of config) kv stack.KvRaft kv_command kv_output (who_of config) (Starting first)
      first known 3 (view_of voter) vote three_turns (answered ∷ []) opened after_three refl hears_all held refl saved (tt, tt) refl refl;
}

-- what a run did that served with these acts after the opening

did_is : (count : ℕ) (rest : List Act) (x : serves count (fresh_opening ++ rest)) → x.all.turns.did ≡ rest
unfolding number_bytes
did_is count rest x =
    let e : told_after begun (fresh_opening ++ rest) ≡ told_after opened x.all.turns.did =
    x.all.turns.is ∙ ap (λ (told : Told). told_after told x.all.turns.did) x.all.opening.is in
    sym (append_cancel_left (begun.acts ++ fresh_opening) rest x.all.turns.did (ap (λ (told : Told). told.acts) e))

pub record_is : (count : ℕ) (rest : List Act) (x : serves count (fresh_opening ++ rest)) →
    AreRecord (settings_of config) kv kv_command kv_output (Starting first) x.all.store count rest
record_is count rest x =
    subst (λ (kept : KeptView KvCmd). AreRecord (settings_of config) kv kv_command kv_output (Starting kept) x.all.store count rest)
    x.all.opening.from
    (subst (λ acts. AreRecord (settings_of config) kv kv_command kv_output (Starting x.all.kept) x.all.store count acts) (did_is count rest x)
    x.all.turns.record_is)

pub leaves_is : (count : ℕ) (rest : List Act) (x : serves count (fresh_opening ++ rest)) →
    LeavesSaved (settings_of config) kv kv_command kv_output (found_by stack.KvRaft kv_command (who_of config))
    (Starting first) first x.all.store opened.disk rest
leaves_is count rest x =
    subst (λ (kept : KeptView KvCmd). LeavesSaved (settings_of config) kv kv_command kv_output
    (found_by stack.KvRaft kv_command (who_of config)) (Starting kept) kept x.all.store opened.disk rest)
    x.all.opening.from
    (subst (λ acts. LeavesSaved (settings_of config) kv kv_command kv_output
    (found_by stack.KvRaft kv_command (who_of config)) (Starting x.all.kept) x.all.kept x.all.store opened.disk acts)
    (did_is count rest x)
    (subst (λ (told : Told). LeavesSaved (settings_of config) kv kv_command kv_output
    (found_by stack.KvRaft kv_command (who_of config)) (Starting x.all.kept) x.all.kept x.all.store told.disk
    x.all.turns.did) x.all.opening.is x.all.turns.leaves))
