use Rattle.std.proofs.Common.{◌≡◌, ℕ, List, [], Option, Some, None, get_or, set, length, true, ap, sym, subst, ◌∙◌, arith}
use Rattle.std.specs.Prelude.{◌==◌, drop, if◌then◌else◌, slice_get}
use Rattle.std.proofs.lemmas.List.{get_or_read, length-set}
use Rattle.flight_index.specs.Turns.{between, is_first, queue_of}
use Rattle.flight_index.proofs.Turning.{at-inside, first-at, first-of, left-alone, left-next, next-inside, next-waits, own-queue, queued-left}
use Rattle.flight_index.proofs.turns.TurnIndex.gone.Goals as goal

pub back-requires-clause-place : goal.back-requires-clause-place
back-requires-clause-place c =
    let ps = c.self.inside.packets.items in
    let k = c.args.k in
    let e : ℕ × ℕ = (c.in-Some.source, c.in-Some.destination) in
    let is : is_first ps k ≡ true = subst (λ (qs : List (Option (ℕ × ℕ))). is_first qs k ≡ true) (sym c.self.view_is) c.requires.first in
    let some = first-at ps k is in
    let at : get_or ps k None ≡ Some e = sym (get_or_read ps k c.index.result.now (at-inside ps k some.0 some.1) c.index.ensures None) ∙ c.in-Some.is in
    let alone = first-of ps k e is at in
    let left : (i : ℕ) → get_or c.leave.new.self i [] ≡ (if i == queue_of e.0 e.1 then drop 1 (get_or c.self.inside.queues (queue_of e.0 e.1) []) else get_or c.self.inside.queues i []) =
    subst (λ q. (i : ℕ) → get_or c.leave.new.self i [] ≡ (if i == q then drop 1 (get_or c.self.inside.queues q []) else get_or c.self.inside.queues i [])) c.queue_of-queue.ensures c.leave.ensures in
    let led : c.first.result ≡ slice_get (between e (set ps k None)) 0 =
    c.first.ensures ∙ ap (λ q. slice_get (get_or c.leave.new.self q []) 0) c.queue_of-queue.ensures ∙ ap (λ js. slice_get js 0) (own-queue c.self.invariant k e at alone c.leave.new.self left) in
    omega (arith, ap length c.gone.ensures.packets, next-inside c.self.invariant k e at alone c.in-Some-first.next (sym led ∙ c.in-Some-first.is))

pub back-requires-clause-none : goal.back-requires-clause-none
back-requires-clause-none c =
    let ps = c.self.inside.packets.items in
    let k = c.args.k in
    let e : ℕ × ℕ = (c.in-Some.source, c.in-Some.destination) in
    let is : is_first ps k ≡ true = subst (λ (qs : List (Option (ℕ × ℕ))). is_first qs k ≡ true) (sym c.self.view_is) c.requires.first in
    let some = first-at ps k is in
    let at : get_or ps k None ≡ Some e = sym (get_or_read ps k c.index.result.now (at-inside ps k some.0 some.1) c.index.ensures None) ∙ c.in-Some.is in
    let alone = first-of ps k e is at in
    let left : (i : ℕ) → get_or c.leave.new.self i [] ≡ (if i == queue_of e.0 e.1 then drop 1 (get_or c.self.inside.queues (queue_of e.0 e.1) []) else get_or c.self.inside.queues i []) =
    subst (λ q. (i : ℕ) → get_or c.leave.new.self i [] ≡ (if i == q then drop 1 (get_or c.self.inside.queues q []) else get_or c.self.inside.queues i [])) c.queue_of-queue.ensures c.leave.ensures in
    let led : c.first.result ≡ slice_get (between e (set ps k None)) 0 =
    c.first.ensures ∙ ap (λ q. slice_get (get_or c.leave.new.self q []) 0) c.queue_of-queue.ensures ∙ ap (λ js. slice_get js 0) (own-queue c.self.invariant k e at alone c.leave.new.self left) in
    ap (λ os. get_or os c.in-Some-first.next None) c.gone.ensures.packets ∙ next-waits c.self.invariant k e at alone c.in-Some-first.next (sym led ∙ c.in-Some-first.is)

pub invariant_of-self : goal.invariant_of-self
invariant_of-self c =
    let ps = c.self.inside.packets.items in
    let k = c.args.k in
    let e : ℕ × ℕ = (c.in-Some.source, c.in-Some.destination) in
    let is : is_first ps k ≡ true = subst (λ (qs : List (Option (ℕ × ℕ))). is_first qs k ≡ true) (sym c.self.view_is) c.requires.first in
    let some = first-at ps k is in
    let at : get_or ps k None ≡ Some e = sym (get_or_read ps k c.index.result.now (at-inside ps k some.0 some.1) c.index.ensures None) ∙ c.in-Some.is in
    let alone = first-of ps k e is at in
    let left : (i : ℕ) → get_or c.leave.new.self i [] ≡ (if i == queue_of e.0 e.1 then drop 1 (get_or c.self.inside.queues (queue_of e.0 e.1) []) else get_or c.self.inside.queues i []) =
    subst (λ q. (i : ℕ) → get_or c.leave.new.self i [] ≡ (if i == q then drop 1 (get_or c.self.inside.queues q []) else get_or c.self.inside.queues i [])) c.queue_of-queue.ensures c.leave.ensures in
    let led : c.first.result ≡ slice_get (between e (set ps k None)) 0 =
    c.first.ensures ∙ ap (λ q. slice_get (get_or c.leave.new.self q []) 0) c.queue_of-queue.ensures ∙ ap (λ js. slice_get js 0) (own-queue c.self.invariant k e at alone c.leave.new.self left) in
    let now : c.back.new.self.packets ≡ set (set c.self.inside.index.packets k None) c.in-Some-first.next (Some e.1) =
    c.back.ensures.packets ∙ ap (λ os. set os c.in-Some-first.next (Some e.1)) c.gone.ensures.packets in
    queued-left c.self.invariant k e at alone c.leave.new.self c.back.new.self left
    (ap length now ∙ length-set (set c.self.inside.index.packets k None) c.in-Some-first.next (Some e.1) ∙ length-set c.self.inside.index.packets k None)
    (λ i. ap (λ os. get_or os i None) now ∙ left-next c.self.invariant k e at alone c.in-Some-first.next (sym led ∙ c.in-Some-first.is) i)

pub invariant_of-self-in_default-first : goal.invariant_of-self-in_default-first
invariant_of-self-in_default-first c =
    let ps = c.self.inside.packets.items in
    let k = c.args.k in
    let e : ℕ × ℕ = (c.in-Some.source, c.in-Some.destination) in
    let is : is_first ps k ≡ true = subst (λ (qs : List (Option (ℕ × ℕ))). is_first qs k ≡ true) (sym c.self.view_is) c.requires.first in
    let some = first-at ps k is in
    let at : get_or ps k None ≡ Some e = sym (get_or_read ps k c.index.result.now (at-inside ps k some.0 some.1) c.index.ensures None) ∙ c.in-Some.is in
    let alone = first-of ps k e is at in
    let left : (i : ℕ) → get_or c.leave.new.self i [] ≡ (if i == queue_of e.0 e.1 then drop 1 (get_or c.self.inside.queues (queue_of e.0 e.1) []) else get_or c.self.inside.queues i []) =
    subst (λ q. (i : ℕ) → get_or c.leave.new.self i [] ≡ (if i == q then drop 1 (get_or c.self.inside.queues q []) else get_or c.self.inside.queues i [])) c.queue_of-queue.ensures c.leave.ensures in
    let led : c.first.result ≡ slice_get (between e (set ps k None)) 0 =
    c.first.ensures ∙ ap (λ q. slice_get (get_or c.leave.new.self q []) 0) c.queue_of-queue.ensures ∙ ap (λ js. slice_get js 0) (own-queue c.self.invariant k e at alone c.leave.new.self left) in
    queued-left c.self.invariant k e at alone c.leave.new.self c.gone.new.self left
    (ap length c.gone.ensures.packets ∙ length-set c.self.inside.index.packets k None)
    (λ i. ap (λ os. get_or os i None) c.gone.ensures.packets ∙ left-alone c.self.invariant k e at alone (sym led ∙ c.in_default-first.is) i)
