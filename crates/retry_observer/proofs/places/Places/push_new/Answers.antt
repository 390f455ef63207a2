use Rattle.std.proofs.Common.{◌≡◌, ◌++◌, ◌∷◌, List, ℕ, [], subst, sym, ◌∙◌}
use Rattle.std.specs.Prelude.{Option, ◌+◌}
use Rattle.retry_observer.specs.Places.{Follows, IsNew, PlacesView}
use Rattle.retry_observer.proofs.Counting.{follows-new}
use Rattle.retry_observer.proofs.places.Places.push_new.Goals as goal

pub returns-clause-follows : goal.returns-clause-follows
returns-clause-follows c = λ bs o f new.
    let now : PlacesView = record { carried = c.self.inside.carried.items; lists = c.self.inside.lists; count = c.self.inside.count } in
    let node = c.from-node.result in
    let source : node ≡ c.args.source = c.from-node.ensures ∙ c.index.ensures in
    let more = follows-new now c.push.new.self bs node o c.in_ok-push.ensures.there c.in_ok-push.ensures.others (subst (λ v. Follows v bs) (sym c.self.view_is) f)
    (subst (λ n. IsNew bs n o) (sym source) new) in
    subst (λ (x : List (Option ℕ) × ℕ). Follows (record { carried = x.0; lists = c.push.new.self; count = now.count + 1 }) (bs ++ (x.1, o) ∷ []))
    (λ i. (sym c.in_ok-push-2.ensures.items i, source i)) more
