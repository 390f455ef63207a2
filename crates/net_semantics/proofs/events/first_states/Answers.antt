use Rattle.std.proofs.Common.{◌≡◌, ◌∙◌, ◌∷◌, [], ◌++◌, Some, ap, arith, below_more, rules, sym}
use Rattle.std.specs.Prelude.{slice_get}
use Rattle.net_semantics.proofs.events.first_states.Goals as goal
use Rattle.lists.specs.Places.{slice_get-front, slice_get_last}

pub loop-n-preserved : goal.loop-n-preserved
loop-n-preserved g c =
    let meaning = g.H.Handlers.meaning c.args.handlers.now in
    let kept = c.loop-n.invariant in
    let old = c.loop-n.states.items in
    let state = c.in_ok-init.field-0 in
    let items : c.push.new.self.items ≡ old ++ state ∷ [] = c.in_ok-push.ensures.items in
    let node : c.unwrap-node.result ≡ c.loop-n.n = search rules in
    let first : state ≡ meaning.init c.loop-n.n = c.in_ok-init.ensures.first ∙ ap meaning.init node in
    record {
      nodes = search rules;
      first = below_more (λ k. slice_get c.push.new.self.items k ≡ Some (meaning.init k)) c.loop-n.n
          (λ k lt. ap (λ xs. slice_get xs k) items ∙ (slice_get-front old (state ∷ []) k (omega (arith, kept.nodes)) ∙ kept.first k lt))
          (ap (λ xs. slice_get xs c.loop-n.n) items ∙ (slice_get_last old state c.loop-n.n (sym kept.nodes) ∙ ap (λ x. Some x) first));
      sound = below_more (λ k. g.H.Handlers.sound c.args.handlers.now k (meaning.init k)) c.loop-n.n kept.sound
          (rw node at (rw c.in_ok-init.ensures.first at c.in_ok-init.ensures.sound));
    }

pub returns-clause-first : goal.returns-clause-first
returns-clause-first g c = λ k lt. c.loop-n.invariant.first k (omega arith)

pub returns-clause-sound : goal.returns-clause-sound
returns-clause-sound g c = λ k lt. c.loop-n.invariant.sound k (omega arith)
