use Rattle.std.proofs.Common.{◌≡◌, ◌≤◌, drop, insert, length, ap, ◌∙◌}
use Rattle.number_set.proofs.Strips.{drop-insert}
use Rattle.number_set.proofs.strip.Strip.insert_backward.Goals as goal
use Rattle.number_set.proofs.strip.Strip.insert_backward.Goals.{then-len-capacity+in_ok-places, else-len-capacity}

pub returns-clause-ok : goal.returns-clause-ok
returns-clause-ok c =
    let now = c.if-len-capacity.self-inside in
    let held : (now.start ≤ length now.places.items) × (drop now.start now.places.items ≡ c.args.self.now) =
    elim c.if-len-capacity.branch [
      | then-len-capacity+in_ok-places w ↦ rw w.self-inside-is (w.in_ok-places.ensures.start, w.in_ok-places.ensures.numbers ∙ w.numbers.ensures)
      | else-len-capacity w ↦ rw w.self-inside-is (c.self.invariant, c.self.view_is)
    ] in
    ap (λ xs. drop now.start xs) c.in_ok-insert.ensures.items
    ∙ (drop-insert now.places.items now.start c.args.i c.args.n held.0 ∙ ap (λ xs. insert xs c.args.i c.args.n) held.1)
