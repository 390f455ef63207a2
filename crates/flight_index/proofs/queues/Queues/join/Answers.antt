use Rattle.std.proofs.Common.{◌≡◌, ◌<◌, ◌≤◌, ◌∷◌, ◌++◌, arith, ℕ, [], length, rules, ap, get_or, refl, sym, ◌∙◌}
use Rattle.std.specs.Prelude.{◌==◌, if◌then◌else◌, map, slice_set}
use Rattle.std.proofs.lemmas.List.{length-map}
use Rattle.flight_index.proofs.Queueing.{at-changed, at-same, read}
use Rattle.flight_index.proofs.queues.Queues.join.Goals as goal
use Rattle.flight_index.proofs.queues.Queues.join.Goals.{in-Some+in_ok-push_back, in_default}

pub returns-in_err-push_back-clause-err : goal.returns-in_err-push_back-clause-err
returns-in_err-push_back-clause-err c =
    let qs = c.self.inside.queues.items in
    let inside : c.args.n < length qs = search rules in
    let here : c.in-Some.queue.now ≡ get_or qs c.args.n c.in-Some.queue.now = search rules in
    let same : (i : ℕ) → get_or (map (λ q. q.items) (slice_set qs c.from.result c.push_back.new.self)) i [] ≡ get_or c.args.self.now i [] =
    λ i. ap (λ n. get_or (map (λ q. q.items) (slice_set qs n c.push_back.new.self)) i []) c.from.ensures
    ∙ at-changed (λ q. q.items) qs c.args.n c.push_back.new.self (get_or (map (λ q. q.items) qs) c.args.n []) inside
    (c.in_err-push_back.ensures.items ∙ read (λ q. q.items) qs c.args.n c.in-Some.queue.now inside here) i
    ∙ sym (at-same (map (λ q. q.items) qs) c.args.n (get_or (map (λ q. q.items) qs) c.args.n []) refl i)
    ∙ ap (λ v. get_or v i []) c.self.view_is ∙ c.open.ensures.same i in
    search (rules, same)

pub returns-clause-ok : goal.returns-clause-ok
returns-clause-ok c =
    let qs = c.self.inside.queues.items in
    let after : (i : ℕ) → get_or (map (λ q. q.items) c.match-get_mut.self-inside.queues.items) i []
    ≡ (if i == c.args.n then get_or (map (λ q. q.items) qs) c.args.n [] ++ c.args.k ∷ [] else get_or (map (λ q. q.items) qs) i []) = elim c.match-get_mut.branch [
      | in-Some+in_ok-push_back w ↦ λ i.
          let inside : c.args.n < length qs = search rules in
          let here : w.in-Some.queue.now ≡ get_or qs c.args.n w.in-Some.queue.now = search rules in
          ap (λ v. get_or (map (λ q. q.items) v.queues.items) i []) w.self-inside-is
          ∙ ap (λ n. get_or (map (λ q. q.items) (slice_set qs n w.push_back.new.self)) i []) c.from.ensures
          ∙ at-changed (λ q. q.items) qs c.args.n w.push_back.new.self (get_or (map (λ q. q.items) qs) c.args.n [] ++ c.args.k ∷ []) inside
          (w.in_ok-push_back.ensures.items ∙ ap (λ xs. xs ++ c.args.k ∷ []) (read (λ q. q.items) qs c.args.n w.in-Some.queue.now inside here)) i
      | in_default w ↦
          let past : length qs ≤ c.args.n = search rules in
          absurd (omega (arith, past, c.in_ok-open.ensures.open, ap length c.self.view_is, length-map qs (λ q. q.items)))
    ] in
    λ i. after i
    ∙ ap (λ v. if i == c.args.n then get_or v c.args.n [] ++ c.args.k ∷ [] else get_or v i []) c.self.view_is
    ∙ ap (λ xs. if i == c.args.n then xs ++ c.args.k ∷ [] else get_or c.open.new.self i []) (c.open.ensures.same c.args.n)
    ∙ ap (λ xs. if i == c.args.n then get_or c.args.self.now c.args.n [] ++ c.args.k ∷ [] else xs) (c.open.ensures.same i)
