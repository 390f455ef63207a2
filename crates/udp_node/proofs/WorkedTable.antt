-- The worked run of a node of the table of locks, by the laws of openings and of turns.
use Rattle.std.proofs.Common.{◌≡◌, false, List, [], ◌∷◌, ◌++◌, Some, take, drop, rules, refl, sym, ap, subst, ◌∙◌}
use Rattle.std.proofs.lemmas.List.{append_cancel_left}
use Rattle.disk.specs.Acts.{Act, Now}
use Rattle.disk.proofs.CutShort.{fronts_are_cut_short}
use Rattle.lock_table.specs.Table.{Holders, table}
use Rattle.lock_table.specs.declared.cmd.TableCmd.{TableCmd}
use Rattle.lock_table.specs.declared.out.TableOut.{TableOut}
use Rattle.raft_types.specs.Messages.{KeptView}
use Rattle.raft_types.specs.declared.msg.RaftMsg.TheVariants as msg
use Rattle.vst_base.specs.declared.stack.StackId.TheVariants as stack
use Rattle.wire_fields.specs.Bytes.{has_bytes, number_bytes, number_in, read_number}
use Rattle.wire_messages.specs.TableByteLaws.{table_command_is_format}
use Rattle.wire_messages.specs.TableBytes.{table_command, table_output}
use Rattle.node_body.specs.Bodies.{body, body_of, kept_as}
use Rattle.node_body.specs.CommandLengths.{table_length}
use Rattle.node_body.specs.declared.who.Who.{Who}
use Rattle.node_acts.specs.StateActs.{first_kept}
use Rattle.node_acts.specs.StateLaws.{HasBytes, OpeningFits, StateSaved}
use Rattle.node_acts.specs.Stores.{Holds, StoreView, is_held, store_of}
use Rattle.node_acts.proofs.StateOpens.{fresh_is_held, opening_leaves}
use Rattle.node_acts.proofs.StateSaves.{save_keeps_state}
use Rattle.node_core.specs.Replicas.{starting, view_of, who_of}
use Rattle.node_core.specs.declared.replica.Replica.{Replica}
use Rattle.node_datagrams.specs.Configured.{settings_of}
use Rattle.node_device.specs.Telling.{Told, told_after}
use Rattle.node_progress.proofs.Turns.{event_goes, first_goes}
use Rattle.node_records.specs.Records.{AreRecord, HearsAs}
use Rattle.node_records.proofs.ActKinds.{whole}
use Rattle.node_run.specs.Examples.{at_port, datagram, number_of_eight, votes}
use Rattle.node_run.specs.Runs.{Done, Starting, Between}
use Rattle.node_run.specs.declared.event.Event.{Event}
use Rattle.node_run.specs.declared.event.Event.TheVariants.{Peer}
use Rattle.node_state.specs.Crashes.{LeavesFound}
use Rattle.udp_node.specs.Acting.{next_replica}
use Rattle.udp_node.specs.Examples.{begun}
use Rattle.udp_node.specs.Serving.{HasOpened, HasServed, Served, Went, opening_of}
use Rattle.udp_node.specs.TableExamples.{table_answered, table_config, table_opening, table_serves, table_turn, table_voting}

abbrev pub who : Who
who = who_of table_config

abbrev pub first : KeptView TableCmd
first = first_kept

abbrev pub voted : KeptView TableCmd
voted = kept_as 1 (Some 1) []

abbrev pub known : StoreView
known = store_of who 0 38 1000 first

first_fits : (body stack.TableRaft table_command).Fits (body_of who first)
unfolding number_bytes number_in has_bytes read_number
first_fits = search rules

fits : OpeningFits stack.TableRaft table_command who begun.disk
fits = record { first = λ e. first_fits; renewed = λ selector found is e one. absurd (cc is) }

abbrev pub opens : List Act
opens = opening_of stack.TableRaft table_config table_command begun

abbrev pub opened : Told
opened = told_after begun opens

held : Holds stack.TableRaft table_command known first opened.disk
unfolding number_bytes
held = fresh_is_held stack.TableRaft table_command table_command_is_format table_length who begun.disk refl first_fits

leaves : LeavesFound stack.TableRaft table_command who begun opened
leaves = record {
  did = opens;
  acts = refl;
  each = λ n image m third.
      opening_leaves stack.TableRaft table_command table_command_is_format table_length who begun.disk
      (take n opens) image (fronts_are_cut_short opens opens n (whole opens)) fits m third;
}

has_opened : HasOpened stack.TableRaft table_config table_command known first begun opened
has_opened = record { who = refl; holds = held; from = refl; is = refl; leaves = leaves }

-- the node after its first clock value, and after its vote
abbrev pub booted : Replica Holders TableCmd TableOut
booted = starting table_config table known first 0

abbrev pub candidate : Event TableCmd
candidate = Peer 1 (msg.RequestVote (record { term = 1; last_index = 0; last_term = 0 }))

abbrev pub voter : Replica Holders TableCmd TableOut
voter = next_replica stack.TableRaft table_config table table_command table_output booted candidate

abbrev pub started_at : Told
started_at = told_after opened (Now 0 ∷ [])

started : Served stack.TableRaft table_config table table_command table_output 0 booted begun started_at
started = record {
  kept = first;
  store = known;
  opened = opened;
  opening = has_opened;
  turns = first_goes (settings_of table_config) table stack.TableRaft table_command table_output who first known 0
      opened held refl;
}

abbrev pub vote : Done TableCmd
vote = record { event = candidate; kept = voted; said = (at_port 7001, datagram 7 0 0 1 (votes (number_of_eight 1) 1)) ∷ [] }

hears_vote : HearsAs (settings_of table_config) table table_command table_output (Between (view_of booted)) (drop 1 table_turn) (vote ∷ []) 1
    (Between (view_of voter))
unfolding number_bytes number_in has_bytes read_number
hears_vote = search rules

hears_all : HearsAs (settings_of table_config) table table_command table_output (Starting first) table_turn (vote ∷ []) 1
    (Between (view_of voter))
unfolding number_bytes number_in has_bytes read_number
hears_all = search rules

has : is_held known voted ≡ false → HasBytes stack.TableRaft table_command known voted
unfolding number_bytes number_in has_bytes read_number
has e = search rules

saved : StateSaved stack.TableRaft table_command known first voted opened.disk
saved =
    save_keeps_state stack.TableRaft table_command table_command_is_format table_length known first voted opened.disk
    held refl has

abbrev pub after_one : Told
after_one = told_after begun (table_opening ++ table_voting)

the_turn : Went stack.TableRaft table_config table table_command table_output booted 1 voter started_at after_one
unfolding number_bytes number_in has_bytes read_number
the_turn =
    event_goes (settings_of table_config) table stack.TableRaft table_command table_output who
    (Between (view_of booted)) first known 1 (view_of voter) vote (drop 1 table_turn) (table_answered ∷ []) started_at after_one refl
    hears_vote held refl saved (tt, tt) refl refl

all_turns : Served stack.TableRaft table_config table table_command table_output 1 voter begun after_one
unfolding number_bytes number_in has_bytes read_number
all_turns = record {
  kept = first;
  store = known;
  opened = opened;
  opening = has_opened;
  turns = event_goes (settings_of table_config) table stack.TableRaft table_command table_output who (Starting first)
      first known 1 (view_of voter) vote table_turn (table_answered ∷ []) opened after_one refl hears_all held refl saved (tt, tt) refl refl;
}

pub serves : HasServed stack.TableRaft table_config table table_command table_output 1 begun after_one
serves = record {
  first = booted;
  begun = started_at;
  next = voter;
  starts = started;
  each = (booted, started_at, (refl, refl), the_turn);
  all = all_turns;
}

-- what a run did that served with these acts after the opening
did_is : (rest : List Act) (x : table_serves (table_opening ++ rest)) → x.all.turns.did ≡ rest
unfolding number_bytes
did_is rest x =
    let e : told_after begun (table_opening ++ rest) ≡ told_after opened x.all.turns.did =
    x.all.turns.is ∙ ap (λ (told : Told). told_after told x.all.turns.did) x.all.opening.is in
    sym (append_cancel_left (begun.acts ++ table_opening) rest x.all.turns.did (ap (λ (told : Told). told.acts) e))

pub record_is : (rest : List Act) (x : table_serves (table_opening ++ rest)) →
    AreRecord (settings_of table_config) table table_command table_output (Starting first) x.all.store 1 rest
record_is rest x =
    subst (λ (kept : KeptView TableCmd). AreRecord (settings_of table_config) table table_command table_output (Starting kept) x.all.store 1 rest)
    x.all.opening.from
    (subst (λ acts. AreRecord (settings_of table_config) table table_command table_output (Starting x.all.kept) x.all.store 1 acts)
    (did_is rest x) x.all.turns.record_is)
