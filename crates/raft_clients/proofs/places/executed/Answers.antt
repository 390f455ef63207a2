use Rattle.std.proofs.Common.{◌≡◌, true, false, [], ◌++◌, Some, ap, sym, subst, ◌∙◌, arith}
use Rattle.std.specs.FinMap.{get}
use Rattle.raft_clients.proofs.Found.{found_kept, found_noop, found_passed}
use Rattle.raft_clients.proofs.Known.{Knows, knows_none}
use Rattle.raft_clients.specs.Executed.{executed_places, asked_by, request_of}
use Rattle.raft_clients.specs.Sessions.{is_new}
use Rattle.raft_types.specs.declared.client.RaftInput.{RaftInput}
use Rattle.raft_clients.proofs.places.executed.Goals as goal
use Rattle.raft_clients.proofs.places.executed.Goals.{in-Noop, in-Request+in_ok-note-in-Request+then-branch+in_ok-push-in-Request, in-Request+in_ok-note-in-Request+else-branch}

pub loop-place-init : goal.loop-place-init
loop-place-init g c = record {
  so_far = ap (λ ps. ps ++ executed_places c.args.entries.now) c.new-places.ensures.items;
  knows = subst (λ s. Knows s []) (sym c.new-last.ensures) knows_none;
}

pub loop-place-preserved : goal.loop-place-preserved
loop-place-preserved g c =
    let entries = c.args.entries.now in
    let e = c.index-entries-place.result in
    elim c.match-what.branch [
      | in-Noop w ↦
          rw (w.places-is, w.last-is)
          (found_noop entries _ e _ _ (omega arith) c.index-entries-place.is c.loop-place.invariant (ap asked_by (sym c.what.ensures.value ∙ w.in-Noop.is)))
      | in-Request+in_ok-note-in-Request+then-branch+in_ok-push-in-Request w ↦
          let r : RaftInput _ = record { client = w.in-Request.client; request = w.in-Request.request; cmd = w.in-Request.cmd } in
          let by : request_of e ≡ Some r = ap asked_by (sym c.what.ensures.value ∙ w.in-Request.is) in
          let new : is_new (get c.loop-place.last r.client) r.request ≡ true = sym w.in_ok-note-in-Request.ensures.answer ∙ w.if-branch.true in
          rw (w.places-is, w.in_ok-push-in-Request.ensures.items, w.last-is, w.in_ok-note-in-Request.ensures.noted, w.if-branch.true)
          (found_kept entries _ e _ _ (omega arith) c.index-entries-place.is c.loop-place.invariant r tt by new)
      | in-Request+in_ok-note-in-Request+else-branch w ↦
          let r : RaftInput _ = record { client = w.in-Request.client; request = w.in-Request.request; cmd = w.in-Request.cmd } in
          let by : request_of e ≡ Some r = ap asked_by (sym c.what.ensures.value ∙ w.in-Request.is) in
          let old : is_new (get c.loop-place.last r.client) r.request ≡ false = sym w.in_ok-note-in-Request.ensures.answer ∙ w.if-branch.false in
          rw (w.places-is, w.last-is, w.in_ok-note-in-Request.ensures.noted, w.if-branch.false)
          (found_passed entries _ e _ _ (omega arith) c.index-entries-place.is c.loop-place.invariant r by old)
    ]
