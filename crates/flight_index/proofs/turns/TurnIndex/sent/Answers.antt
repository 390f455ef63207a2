use Rattle.std.proofs.Common.{◌≡◌, ◌<◌, ◌-◌, ◌^◌, ◌∷◌, ◌++◌, ℕ, Bool, true, false, not, eqb, List, [], Option, Some, None, length, get_or, set, refl, ap, sym, subst, ◌∙◌}
use Rattle.std.specs.Option.{option_eq}
use Rattle.std.specs.Prelude.{◌==◌, if◌then◌else◌, slice_get}
use Rattle.flight_index.specs.Flights.{Flights}
use Rattle.flight_index.specs.Turns.{IsQueued, between, queue_of}
use Rattle.flight_index.proofs.Queueing.{withdrawn}
use Rattle.flight_index.proofs.Turning.{has, has-not, lane-then, queued-behind, queued-first, queued-same}
use Rattle.flight_index.proofs.turns.TurnIndex.sent.Goals as goal
use Rattle.flight_index.proofs.turns.TurnIndex.sent.Goals.{then-ne, else-ne}

pub invariant_of-self-in-Err : goal.invariant_of-self-in-Err
invariant_of-self-in-Err c =
    let same : (i : ℕ) → get_or c.withdraw.new.self i [] ≡ get_or c.self.inside.queues i [] =
    withdrawn c.self.inside.queues c.join.new.self c.withdraw.new.self c.queue_of-queue.result _ c.in_ok-join.ensures.ok c.withdraw.ensures in
    subst (λ (ps : List (Option (ℕ × ℕ))). IsQueued ps c.withdraw.new.self c.sent.new.self) (sym c.reserve.ensures.items)
    (subst (λ (f : Flights). IsQueued c.self.inside.packets.items c.withdraw.new.self f) (sym c.in-Err.ensures.err) (queued-same c.self.invariant same))

turned : (b : Bool) → not b ≡ true → b ≡ false
turned true h = cc
turned false h = refl

kept : (b : Bool) → not b ≡ false → b ≡ true
kept true h = refl
kept false h = cc

pub invariant_of-self-2 : goal.invariant_of-self-2
invariant_of-self-2 c =
    let ps = c.self.inside.packets.items in
    let e : ℕ × ℕ = (c.args.source, c.args.destination) in
    let number : c.len-k.result ≡ length ps = c.len-k.ensures ∙ c.reserve.new.self.ok.0 ∙ ap length c.reserve.ensures.items in
    let few : length ps < 2 ^ 32 - 1 = subst (λ (qs : List (Option (ℕ × ℕ))). length qs < 2 ^ 32 - 1) (sym c.self.view_is) c.requires.room in
    let old = c.self.inside.queues in
    let is : (i : ℕ) → get_or c.join.new.self i [] ≡ (if i == queue_of e.0 e.1 then get_or old (queue_of e.0 e.1) [] ++ length ps ∷ [] else get_or old i []) =
    subst (λ k. (i : ℕ) → get_or c.join.new.self i [] ≡ (if i == queue_of e.0 e.1 then get_or old (queue_of e.0 e.1) [] ++ k ∷ [] else get_or old i [])) number
    (subst (λ q. (i : ℕ) → get_or c.join.new.self i [] ≡ (if i == q then get_or old q [] ++ c.len-k.result ∷ [] else get_or old i [])) c.queue_of-queue.ensures c.in_ok-join.ensures.ok) in
    let led : c.first.result ≡ slice_get (between e ps ++ length ps ∷ []) 0 =
    c.first.ensures ∙ ap (λ q. slice_get (get_or c.join.new.self q []) 0) c.queue_of-queue.ensures
    ∙ ap (λ js. slice_get js 0) (lane-then c.self.invariant e c.requires.node c.join.new.self few is) in
    let told : c.ne.result ≡ not (option_eq eqb (slice_get (between e ps ++ length ps ∷ []) 0) (Some (length ps))) =
    c.ne.ensures ∙ ap (λ o. not (option_eq eqb o (Some c.len-k.result))) led
    ∙ ap (λ k. not (option_eq eqb (slice_get (between e ps ++ length ps ∷ []) 0) (Some k))) number in
    let all : c.push.new.self.items ≡ c.if-ne.self-inside.packets.items ++ Some e ∷ [] = c.in_ok-push.ensures.items in
    subst (λ (qs : List (Option (ℕ × ℕ))). IsQueued qs c.if-ne.self-inside.queues c.if-ne.self-inside.index) (sym all) (elim c.if-ne.branch [
      | then-ne w ↦
          let behind = has-not (slice_get (between e ps ++ length ps ∷ []) 0) (length ps) (turned _ (sym told ∙ w.if-ne.true)) in
          let gone : w.gone.new.self.packets ≡ set (c.self.inside.index.packets ++ Some e.1 ∷ []) (length ps) None =
          w.gone.ensures.packets ∙ ap (λ os. set os c.len-k.result None) c.in_default.ensures.ok
          ∙ ap (λ k. set (c.self.inside.index.packets ++ Some e.1 ∷ []) k None) number in
          subst (λ v. IsQueued (v.packets.items ++ Some e ∷ []) v.queues v.index) (sym w.self-inside-is)
          (subst (λ (qs : List (Option (ℕ × ℕ))). IsQueued (qs ++ Some e ∷ []) c.join.new.self w.gone.new.self) (sym c.reserve.ensures.items)
          (queued-behind c.self.invariant e c.requires.node c.join.new.self few is w.gone.new.self gone behind))
      | else-ne w ↦
          let lead = has (slice_get (between e ps ++ length ps ∷ []) 0) (length ps) (kept _ (sym told ∙ w.if-ne.false)) in
          subst (λ v. IsQueued (v.packets.items ++ Some e ∷ []) v.queues v.index) (sym w.self-inside-is)
          (subst (λ (qs : List (Option (ℕ × ℕ))). IsQueued (qs ++ Some e ∷ []) c.join.new.self c.sent.new.self) (sym c.reserve.ensures.items)
          (queued-first c.self.invariant e c.requires.node c.join.new.self few is c.sent.new.self c.in_default.ensures.ok lead))
    ])
