use Rattle.std.proofs.Common.{◌≡◌, ◌<◌, ◌≤◌, ℕ, List, [], length, rules, ap, get_or, sym, subst, ◌∙◌}
use Rattle.std.specs.Prelude.{◌==◌, drop, if◌then◌else◌, map, slice_set}
use Rattle.flight_index.proofs.Queueing.{at-changed, at-past, at-same, read}
use Rattle.flight_index.proofs.queues.Queues.leave.Goals as goal
use Rattle.flight_index.proofs.queues.Queues.leave.Goals.{in-Some, in_default}

pub returns : goal.returns
returns c =
    let qs = c.self.inside.queues.items in
    subst (λ (old : List (List ℕ)). (i : ℕ) → get_or (map (λ q. q.items) c.match-get_mut.self-inside.queues.items) i []
    ≡ (if i == c.args.n then drop 1 (get_or old c.args.n []) else get_or old i [])) c.self.view_is
    (elim c.match-get_mut.branch [
      | in-Some w ↦ λ i.
          let inside : c.args.n < length qs = search rules in
          let here : w.in-Some.queue.now ≡ get_or qs c.args.n w.in-Some.queue.now = search rules in
          ap (λ v. get_or (map (λ q. q.items) v.queues.items) i []) w.self-inside-is
          ∙ ap (λ n. get_or (map (λ q. q.items) (slice_set qs n w.pop_front.new.self)) i []) c.from.ensures
          ∙ at-changed (λ q. q.items) qs c.args.n w.pop_front.new.self (drop 1 (get_or (map (λ q. q.items) qs) c.args.n [])) inside
          (w.pop_front.ensures.rest ∙ ap (drop 1) (read (λ q. q.items) qs c.args.n w.in-Some.queue.now inside here)) i
      | in_default w ↦ λ i.
          let past : length qs ≤ c.args.n = search rules in
          ap (λ v. get_or (map (λ q. q.items) v.queues.items) i []) w.self-inside-is
          ∙ at-same (map (λ q. q.items) qs) c.args.n (drop 1 (get_or (map (λ q. q.items) qs) c.args.n []))
          (ap (drop 1) (at-past (λ q. q.items) qs c.args.n past) ∙ sym (at-past (λ q. q.items) qs c.args.n past)) i
    ])
