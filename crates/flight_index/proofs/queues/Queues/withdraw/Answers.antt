use Rattle.std.proofs.Common.{◌≡◌, ◌<◌, ◌≤◌, ◌∷◌, ◌++◌, ℕ, List, [], length, rules, ap, get_or, sym, subst, ◌∙◌}
use Rattle.std.specs.Prelude.{◌==◌, if◌then◌else◌, map, slice_set}
use Rattle.flight_index.proofs.Queueing.{at-changed, at-past, last-gone, none-joined, read}
use Rattle.flight_index.proofs.queues.Queues.withdraw.Goals as goal
use Rattle.flight_index.proofs.queues.Queues.withdraw.Goals.{in-Some, in_default}

pub returns : goal.returns
returns c =
    let qs = c.self.inside.queues.items in
    subst (λ (old : List (List ℕ)). (xs : List ℕ) (k i : ℕ) → get_or old c.args.n [] ≡ xs ++ k ∷ []
    → get_or (map (λ q. q.items) c.match-get_mut.self-inside.queues.items) i [] ≡ (if i == c.args.n then xs else get_or old i [])) c.self.view_is
    (elim c.match-get_mut.branch [
      | in-Some w ↦ λ xs k i was.
          let inside : c.args.n < length qs = search rules in
          let here : w.in-Some.queue.now ≡ get_or qs c.args.n w.in-Some.queue.now = search rules in
          let old = w.in-Some.queue.now in
          ap (λ v. get_or (map (λ q. q.items) v.queues.items) i []) w.self-inside-is
          ∙ ap (λ n. get_or (map (λ q. q.items) (slice_set qs n w.pop_back.new.self)) i []) c.from.ensures
          ∙ at-changed (λ q. q.items) qs c.args.n w.pop_back.new.self xs inside
          (last-gone xs w.pop_back.new.self.items old.items k _ (read (λ q. q.items) qs c.args.n old inside here ∙ was) old.ok.0 w.pop_back.ensures.rest) i
      | in_default w ↦ λ xs k i was.
          let past : length qs ≤ c.args.n = search rules in
          none-joined xs k (sym was ∙ at-past (λ q. q.items) qs c.args.n past)
    ])
