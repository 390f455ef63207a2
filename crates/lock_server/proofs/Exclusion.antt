-- On a bag the lock is with one client at most: the invariant, a lemma for each kind of step, and the induction
-- over schedules.
use Rattle.std.proofs.Common.{◌≡◌, ◌≢◌, ℕ, ◌+◌, ◌*◌, ◌<◌, ◌≤◌, Bool, true, false, List, [], ◌∷◌, ◌++◌, Option, Some, None, refl, ap, arith, inl, inr, subst, sym, ◌∙◌}
use Rattle.std.proofs.lemmas.Bool.{cases_eq}
use Rattle.std.specs.Prelude.{slice_get}
use Rattle.vst_base.specs.declared.lock.LockInput.{LockInput}
use Rattle.vst_base.specs.declared.lock.LockInput.TheVariants as ask
use Rattle.vst_base.specs.declared.lock.LockOutput.{LockOutput}
use Rattle.vst_base.specs.declared.lock.LockOutput.TheVariants as told
use Rattle.vst_base.specs.declared.lock.LockMsg.{LockMsg}
use Rattle.vst_base.specs.declared.lock.LockMsg.TheVariants as msg
use Rattle.vst_base.specs.declared.net.Net.TheVariants as net
use Rattle.vst_base.specs.declared.step.Step.{Step}
use Rattle.vst_base.specs.declared.step.Step.TheVariants as step
use Rattle.vst_base.specs.declared.step.Item.TheVariants as item
use Rattle.net_semantics.specs.Worlds.{World, Packet, first_world, put, change_at, one_less, sent_by, copies, copies_of}
use Rattle.net_semantics.specs.Steps.{Event, next, refusal_of, items_of, items_of_event, delivery, after_event, with_packets}
use Rattle.net_semantics.specs.Runs.{IsAllowed, trace, trace_from, first_refused_from, no_recovery}
use Rattle.net_semantics.specs.RunLaws.{place_and_why-none}
use Rattle.lock_server.specs.declared.state.LockState.{LockState}
use Rattle.lock_server.specs.declared.state.LockState.TheVariants.{Server, Client}
use Rattle.lock_server.specs.Locks.{LockEffect, lock_server, first_state, input_effect, message_effect, stays}
use Rattle.lock_server.specs.Exclusion.{LockTrace, Excludes}
use Rattle.lock_server.proofs.KeepingOut.{KeepsOut, KeepsOutAll, excludes}
use Rattle.lock_server.proofs.Counting.{same, held, heads, brings, flying, flying_none, flying_sent, flying_less, same_one, same_none, one_head, head_once, put-same, put-other, put-stays}

abbrev pub LockWorld : Type 0
LockWorld = World LockState LockState LockMsg

abbrev pub LockEvent : Type 0
LockEvent = Event LockState LockInput LockOutput LockMsg

-- node 0 alone has the state of a server
abbrev pub HasRole : ℕ → LockState → Type 0
HasRole n (Server queue) = n ≡ 0
HasRole n (Client held) = 0 < n

-- the lock is nowhere but with the head of the queue, and there once at most
pub record IsGuarded (w : LockWorld) : Type 0 where
  pub roles : (n : ℕ) → HasRole n (w.state n)
  pub once : (c : ℕ) → held (w.state c) + flying c w.packets ≤ heads (w.state 0) c

-- what clients may see from this world on: each client that holds the lock keeps the others out
pub record MaySee (w : LockWorld) (later : LockTrace) : Type 0 where
  pub holders : (a : ℕ) → 0 < held (w.state a) → KeepsOut a later
  pub all : KeepsOutAll later

-- from w to v the lock stays guarded, and what is seen on the way fits before what may be seen from v on
pub record LeadsTo (w v : LockWorld) (items : LockTrace) : Type 0 where
  pub guarded : IsGuarded v
  pub sees : (later : LockTrace) → MaySee v later → MaySee w (items ++ later)

-- the same of an event, with these packets in flight before it
abbrev pub IsSafe : LockWorld → List (Packet LockMsg) → LockEvent → Type 0
IsSafe w packets event = LeadsTo w (after_event (with_packets w packets) (Some event)) (items_of_event (Some event))

abbrev pub event_at : ℕ → Option LockInput → LockEffect → LockEvent
event_at n i e = record { node = n; input = i; effect = e }

abbrev pub after_at : LockWorld → ℕ → LockState → List (Packet LockMsg) → LockWorld
after_at w n s packets = record { state = put w.state n s; is_up = w.is_up; kept = w.kept; packets = packets }

-- the role of a state that stands at a node; and every node has its role after an event
role_at : (w : LockWorld) (n : ℕ) (s : LockState) → IsGuarded w → w.state n ≡ s → HasRole n s
role_at w n s g e = subst (HasRole n) e (g.roles n)

roles_after : (w : LockWorld) (n : ℕ) (s : LockState) → IsGuarded w → HasRole n s → (c : ℕ) → HasRole c (put w.state n s c)
roles_after w n s g role c = elim (cases_eq c n) [
  | inl here ↦ rw (put-same w.state n s c here, here) role
  | inr there ↦ rw (put-other w.state n s c there) (g.roles c)
]

-- an event that changes no state and adds no copy that counts
stays_guarded : (w : LockWorld) (n : ℕ) (s : LockState) (packets : List (Packet LockMsg)) → IsGuarded w → w.state n ≡ s
    → ((c : ℕ) → flying c packets ≤ flying c w.packets) → IsGuarded (after_at w n s packets)
stays_guarded w n s packets g e fewer = record {
  roles = roles_after w n s g (role_at w n s g e);
  once = λ c. rw (put-stays w.state n s c e, put-stays w.state n s 0 e) (let f = fewer c in let h = g.once c in omega arith);
}

-- a client's event, by which the lock is with nobody more often
client_guarded : (w : LockWorld) (n : ℕ) (b now : Bool) (packets : List (Packet LockMsg)) → IsGuarded w → w.state n ≡ Client b
    → ((c : ℕ) → same n c * held (Client now) + flying c packets ≤ same n c * held (Client b) + flying c w.packets) → IsGuarded (after_at w n (Client now) packets)
client_guarded w n b now packets g e fewer =
    let role : 0 < n = role_at w n (Client b) g e in
    record {
      roles = roles_after w n (Client now) g role;
      once = λ c. rw (put-other w.state n (Client now) 0 (omega arith)) (elim (cases_eq c n) [
        | inl here ↦ rw (put-same w.state n (Client now) c here) (
            let less = rw (same_one n c (sym here)) at (fewer c) in
            let before : held (w.state c) ≡ held (Client b) = ap held (ap w.state here ∙ e) in
            let old = g.once c in
            omega arith)
        | inr there ↦ rw (put-other w.state n (Client now) c there) (
            let less = rw (same_none n c (λ k. there (sym k))) at (fewer c) in
            let old = g.once c in
            omega arith)
      ]);
    }

-- the server's event, by which the lock is with a client more often only where the client comes to the head
server_guarded : (w : LockWorld) (queue now : List ℕ) (packets : List (Packet LockMsg)) → IsGuarded w → w.state 0 ≡ Server queue
    → ((c : ℕ) → flying c packets + heads (Server queue) c ≤ flying c w.packets + heads (Server now) c) → IsGuarded (after_at w 0 (Server now) packets)
server_guarded w queue now packets g e fewer = record {
  roles = roles_after w 0 (Server now) g refl;
  once = λ c. rw (put-same w.state 0 (Server now) 0 refl) (elim (cases_eq c 0) [
    | inl here ↦ rw (put-same w.state 0 (Server now) c here) (
        let less = fewer c in
        let old = g.once c in
        let before : heads (w.state 0) c ≡ heads (Server queue) c = ap (λ s. heads s c) e in
        omega arith)
    | inr there ↦ rw (put-other w.state 0 (Server now) c there) (
        let less = fewer c in
        let old = g.once c in
        let before : heads (w.state 0) c ≡ heads (Server queue) c = ap (λ s. heads s c) e in
        omega arith)
  ]);
}

-- a bag delivers only what is in flight
copy_there : (nodes : ℕ) (w : LockWorld) (k : ℕ) → refusal_of net.Bag (lock_server nodes) w (step.Deliver k) ≡ None → 0 < copies w k
copy_there nodes w k e = grind arith

input_seen : (a n : ℕ) (i : LockInput) (later : LockTrace) → KeepsOut a later → KeepsOut a (item.Input n i ∷ later)
input_seen a n ask.Lock later h = h
input_seen a n ask.Unlock later h = λ other. h

-- an input at which nobody gives the lock back
input_sees : (w : LockWorld) (n : ℕ) (s : LockState) (packets : List (Packet LockMsg)) (i : LockInput) → w.state n ≡ s
    → (later : LockTrace) → MaySee (after_at w n s packets) later → MaySee w (item.Input n i ∷ later)
input_sees w n s packets i e later m = record {
  holders = λ a h. input_seen a n i later (m.holders a (rw (put-stays w.state n s a e) h));
  all = m.all;
}

-- an event that nobody sees, and at which nobody gives the lock back
silent_sees : (w : LockWorld) (n : ℕ) (s : LockState) (packets : List (Packet LockMsg)) → w.state n ≡ s
    → (later : LockTrace) → MaySee (after_at w n s packets) later → MaySee w later
silent_sees w n s packets e later m = record {
  holders = λ a h. m.holders a (rw (put-stays w.state n s a e) h);
  all = m.all;
}

-- an event of the server, which holds nothing
server_sees : (w : LockWorld) (queue now : List ℕ) (packets : List (Packet LockMsg)) → w.state 0 ≡ Server queue
    → (later : LockTrace) → MaySee (after_at w 0 (Server now) packets) later → MaySee w later
server_sees w queue now packets e later m = record {
  holders = λ a h. m.holders a (let ne : a ≢ 0 = λ z. let f : held (w.state a) ≡ 0 = ap held (ap w.state z ∙ e) in omega arith in rw (put-other w.state 0 (Server now) a ne) h);
  all = m.all;
}

-- a client that gives the lock back
unlock_sees : (w : LockWorld) (n : ℕ) (packets : List (Packet LockMsg))
    → (later : LockTrace) → MaySee (after_at w n (Client false) packets) later → MaySee w (item.Input n ask.Unlock ∷ later)
unlock_sees w n packets later m = record {
  holders = λ a h other. m.holders a (rw (put-other w.state n (Client false) a (λ k. other (sym k))) h);
  all = m.all;
}

-- while the lock is on its way to a client nobody holds it
nobody_holds : (w : LockWorld) (n a : ℕ) → IsGuarded w → 0 < flying n w.packets → 0 < held (w.state a) → ⊥
nobody_holds w n a g comes holds =
    let at_n = g.once n in
    let at_a = g.once a in
    let here : a ≡ n = one_head (w.state 0) a n (omega arith) (omega arith) in
    let once = head_once (w.state 0) n in
    let there : held (w.state a) ≡ held (w.state n) = ap (λ k. held (w.state k)) here in
    omega arith

-- a client that is told that it holds the lock
locked_sees : (w : LockWorld) (n : ℕ) (packets : List (Packet LockMsg)) → IsGuarded w → 0 < flying n w.packets
    → (later : LockTrace) → MaySee (after_at w n (Client true) packets) later → MaySee w (item.Output n told.Locked ∷ later)
locked_sees w n packets g comes later m = record {
  holders = λ a h. absurd (nobody_holds w n a g comes h);
  all = (m.holders n (rw (put-same w.state n (Client true) n refl) (omega arith)), m.all);
}

-- an event of which nothing comes
stays_safe : (w : LockWorld) (n : ℕ) (s : LockState) (packets : List (Packet LockMsg)) → IsGuarded w → w.state n ≡ s
    → ((c : ℕ) → flying c packets ≤ flying c w.packets) → IsSafe w packets (event_at n None (stays s))
stays_safe w n s packets g e fewer = record {
  guarded = stays_guarded w n s (packets ++ []) g e (λ c. let f = fewer c in let h = flying_none c packets in omega arith);
  sees = silent_sees w n s (packets ++ []) e;
}

-- an input
input_safe : (w : LockWorld) (n : ℕ) (i : LockInput) (s : LockState) → IsGuarded w → w.state n ≡ s → IsSafe w w.packets (event_at n (Some i) (input_effect s i))
input_safe w n i (Server queue) g e = record {
  guarded = stays_guarded w n (Server queue) (w.packets ++ []) g e (λ c. let h = flying_none c w.packets in omega arith);
  sees = input_sees w n (Server queue) (w.packets ++ []) i e;
}
input_safe w n ask.Lock (Client b) g e =
    let packets = w.packets ++ sent_by n ((0, msg.Lock) ∷ []) in
    record {
      guarded = stays_guarded w n (Client b) packets g e (λ c. let h = flying_sent c n 0 msg.Lock w.packets in omega arith);
      sees = input_sees w n (Client b) packets ask.Lock e;
    }
input_safe w n ask.Unlock (Client false) g e = record {
  guarded = stays_guarded w n (Client false) (w.packets ++ []) g e (λ c. let h = flying_none c w.packets in omega arith);
  sees = input_sees w n (Client false) (w.packets ++ []) ask.Unlock e;
}
input_safe w n ask.Unlock (Client true) g e =
    let packets = w.packets ++ sent_by n ((0, msg.Unlock) ∷ []) in
    record {
      guarded = client_guarded w n true false packets g e (λ c. let h = flying_sent c n 0 msg.Unlock w.packets in omega arith);
      sees = unlock_sees w n packets;
    }

-- the client at the head of the queue, of which the lock comes back
comes_back : (w : LockWorld) (holder : ℕ) (waiting : List ℕ) (source : ℕ) → IsGuarded w → w.state 0 ≡ Server (holder ∷ waiting) → 0 < flying source w.packets → source ≡ holder
comes_back w holder waiting source g e comes =
    let old = g.once source in
    let head : heads (w.state 0) source ≡ same holder source = ap (λ s. heads s source) e in
    elim (cases_eq holder source) [
      | inl here ↦ sym here
      | inr there ↦ let none = same_none holder source there in absurd (omega arith)
    ]

-- the server is asked for the lock
asked_safe : (w : LockWorld) (packets : List (Packet LockMsg)) (source : ℕ) (queue : List ℕ) → IsGuarded w → w.state 0 ≡ Server queue
    → ((c : ℕ) → flying c packets ≡ flying c w.packets) → IsSafe w packets (event_at 0 None (message_effect (Server queue) source msg.Lock))
asked_safe w packets source [] g e same_flying =
    let sent = packets ++ sent_by 0 ((source, msg.Locked) ∷ []) in
    record {
      guarded = server_guarded w [] (source ∷ []) sent g e (λ c. let f = same_flying c in let h = flying_sent c 0 source msg.Locked packets in omega arith);
      sees = server_sees w [] (source ∷ []) sent e;
    }
asked_safe w packets source (holder ∷ waiting) g e same_flying = record {
  guarded = server_guarded w (holder ∷ waiting) (holder ∷ waiting ++ source ∷ []) (packets ++ []) g e (λ c. let f = same_flying c in let h = flying_none c packets in omega arith);
  sees = server_sees w (holder ∷ waiting) (holder ∷ waiting ++ source ∷ []) (packets ++ []) e;
}

-- the server gets the lock back
returned_safe : (w : LockWorld) (packets : List (Packet LockMsg)) (source : ℕ) (queue : List ℕ) → IsGuarded w → w.state 0 ≡ Server queue
    → ((c : ℕ) → flying c packets + same source c ≡ flying c w.packets) → IsSafe w packets (event_at 0 None (message_effect (Server queue) source msg.Unlock))
returned_safe w packets source [] g e less = stays_safe w 0 (Server []) packets g e (λ c. let f = less c in omega arith)
returned_safe w packets source (holder ∷ []) g e less =
    let f = less source in
    let one = same_one source source refl in
    let back = comes_back w holder [] source g e (omega arith) in
    record {
      guarded = server_guarded w (holder ∷ []) [] (packets ++ []) g e (λ c. let k = less c in let h = flying_none c packets in let j = ap (λ x. same x c) back in omega arith);
      sees = server_sees w (holder ∷ []) [] (packets ++ []) e;
    }
returned_safe w packets source (holder ∷ following ∷ waiting) g e less =
    let f = less source in
    let one = same_one source source refl in
    let back = comes_back w holder (following ∷ waiting) source g e (omega arith) in
    let sent = packets ++ sent_by 0 ((following, msg.Locked) ∷ []) in
    record {
      guarded = server_guarded w (holder ∷ following ∷ waiting) (following ∷ waiting) sent g e (λ c. let k = less c in let h = flying_sent c 0 following msg.Locked packets in let j = ap (λ x. same x c) back in omega arith);
      sees = server_sees w (holder ∷ following ∷ waiting) (following ∷ waiting) sent e;
    }

-- a client is told that it holds the lock
told_safe : (w : LockWorld) (packets : List (Packet LockMsg)) (source n : ℕ) (b : Bool) → IsGuarded w → w.state n ≡ Client b
    → ((c : ℕ) → flying c packets + same n c ≡ flying c w.packets) → IsSafe w packets (event_at n None (message_effect (Client b) source msg.Locked))
told_safe w packets source n b g e less =
    let f = less n in
    let one = same_one n n refl in
    record {
      guarded = client_guarded w n b true (packets ++ []) g e (λ c. let k = less c in let h = flying_none c packets in omega arith);
      sees = locked_sees w n (packets ++ []) g (omega arith);
    }

-- a delivery, which takes one copy away
message_safe : (w : LockWorld) (packets : List (Packet LockMsg)) (source n : ℕ) (m : LockMsg) (s : LockState) → IsGuarded w → w.state n ≡ s
    → ((c : ℕ) → flying c packets + brings c source n m ≡ flying c w.packets) → IsSafe w packets (event_at n None (message_effect s source m))
message_safe w packets source n msg.Locked (Server queue) g e less = stays_safe w n (Server queue) packets g e (λ c. let f = less c in omega arith)
message_safe w packets source n msg.Lock (Client b) g e less = stays_safe w n (Client b) packets g e (λ c. let f = less c in omega arith)
message_safe w packets source n msg.Unlock (Client b) g e less = stays_safe w n (Client b) packets g e (λ c. let f = less c in omega arith)
message_safe w packets source n msg.Locked (Client b) g e less = told_safe w packets source n b g e less
message_safe w packets source n msg.Lock (Server queue) g e less =
    let z : n ≡ 0 = role_at w n (Server queue) g e in
    rw z (asked_safe w packets source queue g (rw z at e) (λ c. let f = less c in omega arith))
message_safe w packets source n msg.Unlock (Server queue) g e less =
    let z : n ≡ 0 = role_at w n (Server queue) g e in
    rw z (returned_safe w packets source queue g (rw z at e) (λ c. rw z at (less c)))

-- the same at the packet of a world
delivery_safe : (nodes : ℕ) (w : LockWorld) (k : ℕ) (o : Option (Packet LockMsg)) → IsGuarded w → slice_get w.packets k ≡ o → 0 < copies_of o
    → LeadsTo w (after_event (with_packets w (change_at one_less k w.packets)) (delivery (lock_server nodes) w o)) (items_of_event (delivery (lock_server nodes) w o))
delivery_safe nodes w k None g e copy = absurd (omega arith)
delivery_safe nodes w k (Some p) g e copy =
    message_safe w (change_at one_less k w.packets) p.source p.destination p.content (w.state p.destination) g refl (λ c. flying_less c k w.packets p e copy)

-- a step that a bag does not refuse
step_safe : (nodes : ℕ) (w : LockWorld) (s : Step LockInput) → IsGuarded w → refusal_of net.Bag (lock_server nodes) w s ≡ None
    → LeadsTo w (next (lock_server nodes) no_recovery w s) (items_of (lock_server nodes) w s)
step_safe nodes w (step.In n i) g e = input_safe w n i (w.state n) g refl
step_safe nodes w (step.Tick n) g e = stays_safe w n (w.state n) w.packets g refl (λ c. omega arith)
step_safe nodes w (step.Deliver k) g e = delivery_safe nodes w k (slice_get w.packets k) g refl (copy_there nodes w k e)
step_safe nodes w (step.Dup k) g e = cc
step_safe nodes w (step.Lose k) g e = cc
step_safe nodes w (step.Crash n) g e = cc
step_safe nodes w (step.Reboot n) g e = cc

-- what a schedule shows may be seen
run_safe : (nodes : ℕ) (w : LockWorld) (ss : List (Step LockInput)) → IsGuarded w → first_refused_from net.Bag (lock_server nodes) no_recovery w ss ≡ None
    → MaySee w (trace_from (lock_server nodes) no_recovery w ss)
run_safe nodes w [] g e = record { holders = λ a h. tt; all = tt }
run_safe nodes w (s ∷ ss) g e =
    let v = next (lock_server nodes) no_recovery w s in
    let both = place_and_why-none (refusal_of net.Bag (lock_server nodes) w s) (first_refused_from net.Bag (lock_server nodes) no_recovery v ss) e in
    let safe = step_safe nodes w s g both.0 in
    safe.sees (trace_from (lock_server nodes) no_recovery v ss) (run_safe nodes v ss safe.guarded both.1)

-- at first nobody holds the lock, and nothing is in flight
first_role : (n : ℕ) → HasRole n (first_state n)
first_role n = grind arith

first_held : (n : ℕ) → held (first_state n) ≡ 0
first_held n = grind arith

first_guarded : (nodes : ℕ) → IsGuarded (first_world (lock_server nodes))
first_guarded nodes = record {
  roles = first_role;
  once = λ c. let f = first_held c in omega arith;
}

-- after `locked` at a client no `locked` comes at another before the first gives an `unlock`
pub bag_excludes : (nodes : ℕ) (ss : List (Step LockInput)) → IsAllowed net.Bag (lock_server nodes) no_recovery ss → Excludes (trace (lock_server nodes) no_recovery ss)
bag_excludes nodes ss e = excludes (trace (lock_server nodes) no_recovery ss) (run_safe nodes (first_world (lock_server nodes)) ss (first_guarded nodes) e).all
