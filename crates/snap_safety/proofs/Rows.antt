-- The run of three nodes in which one takes a snapshot, step by step: nodes that have applied entries are written with their
-- machine's state and their sessions as variables.
use Rattle.std.proofs.Common.{◌≡◌, ℕ, ◌+◌, true, List, [], ◌∷◌, ◌++◌, length, take, leb, map, Option, Some, None, refl, ap, ◌∙◌, arith}
use Rattle.std.proofs.lemmas.Bool.{le-leb}
use Rattle.std.proofs.lemmas.List.{take_all}
use Rattle.std.specs.FinMap.{empty, get}
use Rattle.handler_trait.specs.Handling.{Meaning}
use Rattle.net_semantics.specs.RunLaws.{first_refused_from-append, later, trace_from-append}
use Rattle.net_semantics.specs.Runs.{first_refused_from, place_and_why, run, trace, trace_from}
use Rattle.net_semantics.specs.Steps.{after_event, items_of_event, next, refusal_of, with_packets}
use Rattle.net_semantics.specs.Worlds.{change_at, first_world, one_less}
use Rattle.vst_base.specs.Examples.{counter}
use Rattle.vst_base.specs.declared.net.Net.TheVariants as net
use Rattle.vst_base.specs.declared.step.Item.{Item}
use Rattle.vst_base.specs.declared.step.Item.TheVariants as item
use Rattle.vst_base.specs.declared.step.Step.{Step}
use Rattle.vst_base.specs.declared.step.Step.TheVariants as step
use Rattle.vst_base.specs.declared.step.StepRefusal.{StepRefusal}
use Rattle.raft_clients.proofs.Lookups.{lookups}
use Rattle.raft_clients.specs.Sessions.{Sessions, applied_all}
use Rattle.raft_types.specs.declared.client.RaftInput.{RaftInput}
use Rattle.raft_types.specs.declared.client.RaftOut.{RaftOut}
use Rattle.raft_types.specs.declared.client.RaftOut.TheVariants as told
use Rattle.raft_types.specs.declared.msg.RaftMsg.TheVariants as msg
use Rattle.raft_xform.specs.Applying.{replies}
use Rattle.raft_xform.specs.declared.role.Role.TheVariants as role
use Rattle.linearizability.specs.Examples.{put_at, tell_at}
use Rattle.raft_snapshots.specs.Snapshots.{Install, MAX_PIECE, Plain, SnapEffect, SnapMsg, SnapNode, piece, snap_raft, snap_recovery}
use Rattle.snap_safety.specs.Examples.{CounterWay, IsShort, behind, every_four, five, four, none, none_again, of_four, once_applied, until_applied}
use Rattle.snap_safety.specs.Runs.{IsRun, SnapWorld, seen}

abbrev three : CounterWay → Meaning (SnapNode ℕ ℕ ℕ) (RaftInput ℕ) (RaftOut ℕ) (SnapMsg ℕ)
three way = snap_raft (every_four way) 3 counter

abbrev Refused : Type 0
Refused = Option (ℕ × StepRefusal)

-- the leader once it has applied the four
abbrev leader : ℕ → Sessions ℕ → SnapNode ℕ ℕ ℕ
leader st ss = record {
  role = role.Leader;
  ballot = record { term = 1; voted = Some 0; votes = 3 };
  log = record { base = 4; base_term = 1; entries = [] };
  commit = 4;
  applied = 4;
  peers = record { next = 1; matched = 0 } ∷ record { next = 5; matched = 4 } ∷ record { next = 1; matched = 0 } ∷ [];
  machine = st;
  sessions = ss;
  more = record { snapshot = record { state = st; sessions = ss }; part = None; places = 0 ∷ 0 ∷ 0 ∷ []; just = four };
}

abbrev before : List (Step (RaftInput ℕ))
before =
    step.Tick 0 ∷ step.Deliver 0 ∷ step.Deliver 2 ∷ step.In 0 five ∷ step.In 0 none ∷ step.In 0 none_again ∷ step.Deliver 9 ∷ []

abbrev before_it : CounterWay → SnapWorld ℕ ℕ ℕ
before_it way = run (three way) snap_recovery before

abbrev after_it : CounterWay → ℕ → Sessions ℕ → List (RaftOut ℕ) → SnapWorld ℕ ℕ ℕ
after_it way st ss outputs =
    let w = before_it way in
    after_event {I = RaftInput ℕ} (with_packets w (change_at one_less 11 w.packets)) (Some (record { node = 0; input = None; effect = record { state = leader st ss; outputs = outputs; sends = [] } }))

comes : (way : CounterWay) → run (three way) snap_recovery until_applied ≡ after_it way of_four.state of_four.sessions (replies 0 (applied_all counter 0 empty four).answers)
comes way = refl

-- the leader sends node 2 its snapshot
abbrev sent_it : CounterWay → ℕ → Sessions ℕ → List (RaftOut ℕ) → SnapWorld ℕ ℕ ℕ
sent_it way st ss outputs = next (three way) snap_recovery (after_it way st ss outputs) (step.Tick 0)

-- node 2 once it has taken it
abbrev helped : ℕ → Sessions ℕ → SnapNode ℕ ℕ ℕ
helped st ss = record {
  role = role.Follower;
  ballot = record { term = 1; voted = None; votes = 0 };
  log = record { base = 4; base_term = 1; entries = [] };
  commit = 4;
  applied = 4;
  peers = [];
  machine = st;
  sessions = ss;
  more = record { snapshot = record { state = st; sessions = ss }; part = None; places = []; just = [] };
}

abbrev helping : ℕ → Sessions ℕ → SnapEffect ℕ ℕ ℕ
helping st ss = record { state = helped st ss; outputs = []; sends = (0, Plain (msg.Appended (record { term = 1; ok = true; index = 4 }))) ∷ [] }

abbrev elected_next : List (Step (RaftInput ℕ))
elected_next = step.Tick 2 ∷ step.Deliver 15 ∷ step.Deliver 17 ∷ step.In 2 none_again ∷ step.Deliver 20 ∷ step.Deliver 22 ∷ []

module _ (way : CounterWay) (st : ℕ) (ss : Sessions ℕ) (outputs : List (RaftOut ℕ)) where
  -- the snapshot is in one message, and can be read
  record IsRead : Type 0 where
    short : leb (length (way.spell (record { state = st; sessions = ss }))) (0 + MAX_PIECE) ≡ true
    all : take MAX_PIECE (way.spell (record { state = st; sessions = ss })) ≡ way.spell (record { state = st; sessions = ss })
    reads : way.read 4 (way.spell (record { state = st; sessions = ss })) ≡ Some (record { state = st; sessions = ss })

  takes_it : IsRead → (three way).message 2 ((sent_it way st ss outputs).state 2) 0 (Install (piece (every_four way) (leader st ss) 0)) ≡ helping st ss
  takes_it r = rw (r.short, r.all, r.reads) refl

  -- the world when the piece came, by what it makes of node 2
  abbrev with_it : SnapEffect ℕ ℕ ℕ → SnapWorld ℕ ℕ ℕ
  with_it e =
      let w = sent_it way st ss outputs in
      after_event {I = RaftInput ℕ} (with_packets w (change_at one_less 13 w.packets)) (Some (record { node = 2; input = None; effect = e }))

  answers_it : get ss 7 ≡ Some (record { request = 3; output = 5 }) → trace_from (three way) snap_recovery (with_it (helping st ss)) elected_next ≡ put_at 2 none_again ∷ tell_at 2 7 3 5 ∷ []
  answers_it got = rw got refl

  late : IsRead → get ss 7 ≡ Some (record { request = 3; output = 5 }) →
      trace_from (three way) snap_recovery (after_it way st ss outputs) once_applied ≡ put_at 2 none_again ∷ tell_at 2 7 3 5 ∷ []
  late r got =
      ap (λ (e : SnapEffect ℕ ℕ ℕ). items_of_event (Some (record { node = 2; input = None; effect = e })) ++ trace_from (three way) snap_recovery (with_it e) elected_next) (takes_it r)
      ∙ answers_it got

  -- none of these steps is refused
  goes_on : first_refused_from net.Fail (three way) snap_recovery (with_it (helping st ss)) elected_next ≡ None
  goes_on = refl

  late_allowed : IsRead → first_refused_from net.Fail (three way) snap_recovery (after_it way st ss outputs) once_applied ≡ None
  late_allowed r =
      ap (λ (e : SnapEffect ℕ ℕ ℕ). place_and_why (refusal_of net.Fail (three way) (after_it way st ss outputs) (step.Tick 0)) (place_and_why (refusal_of net.Fail (three way) (sent_it way st ss outputs) (step.Deliver 13))
      (first_refused_from net.Fail (three way) snap_recovery (with_it e) elected_next))) (takes_it r)
      ∙ ap (λ (x : Refused). place_and_why (refusal_of net.Fail (three way) (after_it way st ss outputs) (step.Tick 0)) (place_and_why (refusal_of net.Fail (three way) (sent_it way st ss outputs) (step.Deliver 13)) x)) goes_on

abbrev asked : List (RaftOut ℕ) → List (Item (RaftInput ℕ) (RaftOut ℕ))
asked outputs = put_at 0 five ∷ put_at 0 none ∷ put_at 0 none_again ∷ (map (λ o. item.Output 0 o) outputs ++ [])

early_seen : (way : CounterWay) → trace (three way) snap_recovery until_applied ≡ asked (replies 0 (applied_all counter 0 empty four).answers)
early_seen way = refl

replies_are : replies 0 (applied_all counter 0 empty four).answers ≡ told.Reply 7 1 0 ∷ told.Reply 7 2 5 ∷ told.Reply 7 3 5 ∷ []
replies_are = simp lookups

session_is : get of_four.sessions 7 ≡ Some (record { request = 3; output = 5 })
session_is = simp lookups

read : (way : CounterWay) → IsShort way → IsRead way of_four.state of_four.sessions (replies 0 (applied_all counter 0 empty four).answers)
read way s = record { short = le-leb _ _ (omega (arith, s.fits)); all = take_all MAX_PIECE (way.spell of_four) s.fits; reads = s.reads }

pub behind_seen : (way : CounterWay) → IsShort way → seen (every_four way) counter 3 behind ≡
    put_at 0 five ∷ put_at 0 none ∷ put_at 0 none_again ∷ tell_at 0 7 1 0 ∷ tell_at 0 7 2 5 ∷ tell_at 0 7 3 5 ∷ put_at 2 none_again ∷ tell_at 2 7 3 5 ∷ []
behind_seen way s =
    trace_from-append (three way) snap_recovery (first_world (three way)) until_applied once_applied
    ∙ (ap (λ xs. xs ++ trace_from (three way) snap_recovery (run (three way) snap_recovery until_applied) once_applied) (early_seen way ∙ ap asked replies_are)
    ∙ ap (λ xs. asked (told.Reply 7 1 0 ∷ told.Reply 7 2 5 ∷ told.Reply 7 3 5 ∷ []) ++ xs)
    (ap (λ w. trace_from (three way) snap_recovery w once_applied) (comes way)
    ∙ late way of_four.state of_four.sessions (replies 0 (applied_all counter 0 empty four).answers) (read way s) session_is))

pub behind_allowed : (way : CounterWay) → IsShort way → IsRun (every_four way) counter 3 behind
behind_allowed way s =
    first_refused_from-append (three way) snap_recovery net.Fail (first_world (three way)) until_applied once_applied refl
    ∙ ap (λ w. later (length until_applied) (first_refused_from net.Fail (three way) snap_recovery w once_applied)) (comes way)
    ∙ ap (later (length until_applied)) (late_allowed way of_four.state of_four.sessions (replies 0 (applied_all counter 0 empty four).answers) (read way s))
