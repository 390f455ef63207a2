use Rattle.std.proofs.Common.{◌++◌, ◌∷◌, [], Bool, true, false, ℕ, sym, ap, ◌∙◌, append-nil}
use Rattle.std.specs.List.{filter, range_with_len}
use Rattle.xform_stack.specs.Systems.{world_of}
use Rattle.schedule_make.specs.Candidates.{may_act}
use Rattle.schedule_make.proofs.Chosen.{filter-next}
use Rattle.schedule_make.proofs.drawing.nodes_that.Goals as goal
use Rattle.schedule_make.proofs.drawing.nodes_that.Goals.{in-Some+then-may_act+in_ok-push, in-Some+else-may_act, in_default}

pub loop-n-preserved : goal.loop-n-preserved
loop-n-preserved g c =
    λ ss follows.
    let sys = g.W.Network.system c.args.network.now in
    let p : ℕ → Bool = may_act sys.meaning (world_of sys ss) c.args.kind in
    let before = c.loop-n.invariant ss follows in
    let found = filter p (range_with_len 0 c.loop-n.n) in
    elim c.match-new.branch [
      | in-Some+then-may_act+in_ok-push w ↦
          ap (λ v. v.items) w.found-is ∙ w.in_ok-push.ensures.items
          ∙ ap (λ ns. ns ++ w.from.result ∷ []) before
          ∙ ap (λ n. found ++ n ∷ []) w.from.ensures
          ∙ sym (filter-next p c.loop-n.n true (ap p (sym w.in-Some.ensures.number) ∙ (sym (w.may_act.ensures ss follows) ∙ w.if-may_act.true)))
      | in-Some+else-may_act w ↦
          ap (λ v. v.items) w.found-is ∙ before ∙ sym (append-nil found)
          ∙ sym (filter-next p c.loop-n.n false (ap p (sym w.in-Some.ensures.number) ∙ (sym (w.may_act.ensures ss follows) ∙ w.if-may_act.false)))
      | in_default w ↦ let bad = w.in_default.ensures.exists.1 c.loop-n-test.true in cc bad
    ]
