use Rattle.std.proofs.Common.{◌++◌, ◌∷◌, [], subst, sym}
use Rattle.retry_observer.specs.Places.{Follows, PlacesView}
use Rattle.retry_observer.proofs.Counting.{follows-known}
use Rattle.retry_observer.proofs.places.Places.push_known.Goals as goal

pub returns-clause-follows : goal.returns-clause-follows
returns-clause-follows c = λ bs n o f known.
    let now : PlacesView = record { carried = c.self.inside.carried.items; lists = c.self.inside.lists; count = c.self.inside.count } in
    let more = follows-known now c.args.carried bs n o (subst (λ v. Follows v bs) (sym c.self.view_is) f) known in
    subst (λ xs. Follows (record { carried = xs; lists = now.lists; count = now.count }) (bs ++ (n, o) ∷ [])) (sym c.in_ok-push.ensures.items) more
