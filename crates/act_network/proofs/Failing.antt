-- Steps of the run of whole events: that they are allowed, what they make of its world, and what clients see.
use Rattle.std.proofs.Common.{◌≡◌, ℕ, zero, suc, true, false, List, [], ◌∷◌, ◌++◌, length, Option, Some, None, slice_get, refl, ap, ◌∙◌}
use Rattle.std.specs.Prelude.{nat_lt}
use Rattle.std.proofs.lemmas.List.{append-nil}
use Rattle.handler_trait.specs.Handling.{Meaning, Effect, Recovery}
use Rattle.vst_base.specs.declared.net.Net.TheVariants as net
use Rattle.vst_base.specs.declared.step.Step.{Step}
use Rattle.vst_base.specs.declared.step.Step.TheVariants as step
use Rattle.vst_base.specs.declared.step.StepRefusal.{StepRefusal}
use Rattle.vst_base.specs.declared.step.Item.{Item}
use Rattle.net_semantics.specs.Worlds.{World, Packet, put, change_at, one_less, one_more, sent_by, first_world}
use Rattle.net_semantics.specs.Steps.{next, refusal_of, items_of, crashed, rebooted, with_packets, event_of}
use Rattle.net_semantics.specs.Runs.{run, trace, first_refused, place_and_why}
use Rattle.net_semantics.specs.RunLaws.{later, run_from-append, trace_from-append, first_refused_from-append}
use Rattle.act_network.specs.ActWorlds.{Cause, Input, Fired, Came, step_of, input_of, Flying}
use Rattle.act_network.specs.Listing.{items_with}
use Rattle.act_network.proofs.Theres.{There, positive}

later-none : (n : ℕ) → later n None ≡ None
later-none zero = refl
later-none (suc n) = rw (later-none n) refl

-- the packets once an event has taken its copy
abbrev pub consumed : {I M : Type 0} → Cause I → List (Packet M) → List (Packet M)
consumed (Input i) ps = ps
consumed Fired ps = ps
consumed (Came k) ps = change_at one_less k ps

-- a packet that goes to this node has this number
pub record Comes {M : Type 0} (aps : List (Flying M)) (number n : ℕ) : Type 0 where
  pub place : ℕ
  pub flying : Flying M
  pub is : slice_get aps place ≡ Some flying
  pub number_is : flying.number ≡ number
  pub goes : flying.packet.destination ≡ n

-- the copy that an event takes is there
abbrev pub HasCopy : {I M : Type 0} → List (Packet M) → Cause I → Type 0
HasCopy {M = M} fps (Came k) = (s d : ℕ) (c : M) → There fps k s d c 0 → There fps k s d c 1
HasCopy fps c = Unit {0}

-- the world once an event has happened at a node
abbrev pub eventful : {S K I O M : Type 0} → World S K M → ℕ → Cause I → Effect S O M → World S K M
eventful f n c e = record { state = put f.state n e.state; is_up = f.is_up; kept = f.kept; packets = consumed c f.packets ++ sent_by n e.sends }

module _ {S K I O M : Type 0} (m : Meaning S I O M) (r : Recovery S K) where
  -- in this world the step is allowed, leads to the second, and clients see these items
  pub record Fires (f : World S K M) (s : Step I) (g : World S K M) (items : List (Item I O)) : Type 0 where
    pub allowed : refusal_of net.Fail m f s ≡ None
    pub next_is : next m r f s ≡ g
    pub items_are : items_of m f s ≡ items

  -- a schedule is allowed, leads to this world, and clients see these items
  pub record RunIs (ss : List (Step I)) (f : World S K M) (items : List (Item I O)) : Type 0 where
    pub allowed : first_refused net.Fail m r ss ≡ None
    pub run_is : run m r ss ≡ f
    pub seen : trace m r ss ≡ items

  pub goes : {ss : List (Step I)} {f g : World S K M} {xs ys : List (Item I O)} {s : Step I} → RunIs ss f xs → Fires f s g ys → RunIs (ss ++ s ∷ []) g (xs ++ ys)
  goes {ss = ss} {f = f} {g = g} {xs = xs} {ys = ys} {s = s} a b =
      let e : refusal_of net.Fail m (run m r ss) s ≡ None = ap (λ (w : World S K M). refusal_of net.Fail m w s) a.run_is ∙ b.allowed in
      let items : items_of m (run m r ss) s ≡ ys = ap (λ (w : World S K M). items_of m w s) a.run_is ∙ b.items_are in
      record {
        allowed = first_refused_from-append m r net.Fail (first_world m) ss (s ∷ []) a.allowed
            ∙ (ap (λ (o : Option StepRefusal). later (length ss) (place_and_why o None)) e ∙ later-none (length ss));
        run_is = run_from-append m r (first_world m) ss (s ∷ []) ∙ (ap (λ (w : World S K M). next m r w s) a.run_is ∙ b.next_is);
        seen = trace_from-append m r (first_world m) ss (s ∷ [])
            ∙ (ap (λ (zs : List (Item I O)). zs ++ (items_of m (run m r ss) s ++ [])) a.seen ∙ ap (λ (zs : List (Item I O)). xs ++ zs) (append-nil (items_of m (run m r ss) s) ∙ items));
      }

  -- the packet of this number goes to the node, and the handlers make this of it
  pub record Delivers (aps : List (Flying M)) (fps : List (Packet M)) (n : ℕ) (s : S) (number : ℕ) (e : Effect S O M) : Type 0 where
    pub comes : Comes aps number n
    pub source : ℕ
    pub content : M
    pub there : There fps number source n content 0
    pub effect_is : e ≡ m.message n s source content

  pub record Takes (n : ℕ) (s : S) (i : I) (e : Effect S O M) : Type 0 where
    pub exists : nat_lt n m.nodes ≡ true
    pub takes : m.takes_input n ≡ true
    pub effect_is : e ≡ m.input n s i

  pub record Ticks (n : ℕ) (s : S) (e : Effect S O M) : Type 0 where
    pub exists : nat_lt n m.nodes ≡ true
    pub effect_is : e ≡ m.timeout n s

  -- the event may happen at the node in this state, but for the copy that it takes, and the handlers make this of it
  abbrev pub Ready : List (Flying M) → List (Packet M) → ℕ → S → Cause I → Effect S O M → Type 0
  Ready aps fps n s (Input i) e = Takes n s i e
  Ready aps fps n s Fired e = Ticks n s e
  Ready aps fps n s (Came k) e = Delivers aps fps n s k e

  pub fires-event : (c : Cause I) (aps : List (Flying M)) {f : World S K M} (n : ℕ) {s : S} (e : Effect S O M) → f.is_up n ≡ true → f.state n ≡ s →
      Ready aps f.packets n s c e → HasCopy f.packets c → Fires f (step_of n c) (eventful f n c e) (items_with n (input_of c) e.outputs)
  fires-event (Input i) aps {f = f} n e up state r has =
      let exists = r.exists in
      let takes = r.takes in
      record {
        allowed = rw (exists, takes, up) refl;
        next_is = rw (state, r.effect_is) refl;
        items_are = rw (state, r.effect_is) refl;
      }
  fires-event Fired aps {f = f} n e up state r has =
      let exists = r.exists in
      record {
        allowed = rw (exists, up) refl;
        next_is = rw (state, r.effect_is) refl;
        items_are = rw (state, r.effect_is) refl;
      }
  fires-event (Came k) aps {f = f} n e up state r has =
      let t = has r.source n r.content r.there in
      let copies : nat_lt 0 t.packet.copies ≡ true = positive t.packet.copies t.enough in
      record {
        allowed = rw (t.is, t.destination_is, up, copies) refl;
        next_is = rw (t.is, t.destination_is, state, t.source_is, t.content_is, r.effect_is) refl;
        items_are = rw (t.is, t.destination_is, state, t.source_is, t.content_is, r.effect_is) refl;
      }

  pub fires-crash : {f : World S K M} {n : ℕ} → nat_lt n m.nodes ≡ true → f.is_up n ≡ true → Fires f (step.Crash n) (crashed r f n) []
  fires-crash exists up = record { allowed = rw (exists, up) refl; next_is = refl; items_are = refl }

  pub fires-reboot : {f : World S K M} {n : ℕ} {k : K} → nat_lt n m.nodes ≡ true → f.is_up n ≡ false → f.kept n ≡ Some k →
      Fires f (step.Reboot n) (rebooted r f n (Some k)) []
  fires-reboot exists down kept = record { allowed = rw (exists, down) refl; next_is = rw kept refl; items_are = refl }

  pub fires-dup : {f : World S K M} {k s d : ℕ} {c : M} → There f.packets k s d c 1 → Fires f (step.Dup k) (with_packets f (change_at one_more k f.packets)) []
  fires-dup t =
      let copies : nat_lt 0 t.packet.copies ≡ true = positive t.packet.copies t.enough in
      record { allowed = rw (t.is, copies) refl; next_is = refl; items_are = refl }

  pub fires-lose : {f : World S K M} {k s d : ℕ} {c : M} → There f.packets k s d c 1 → Fires f (step.Lose k) (with_packets f (change_at one_less k f.packets)) []
  fires-lose t =
      let copies : nat_lt 0 t.packet.copies ≡ true = positive t.packet.copies t.enough in
      record { allowed = rw (t.is, copies) refl; next_is = refl; items_are = refl }

  -- what happens at the node
  pub event-is : (c : Cause I) (aps : List (Flying M)) (f : World S K M) (n : ℕ) {s : S} (e : Effect S O M) → f.state n ≡ s →
      Ready aps f.packets n s c e → event_of m f (step_of n c) ≡ Some (record { node = n; input = input_of c; effect = e })
  event-is (Input i) aps f n e state r = rw (state, r.effect_is) refl
  event-is Fired aps f n e state r = rw (state, r.effect_is) refl
  event-is (Came k) aps f n e state r =
      let t = r.there in
      rw (t.is, t.destination_is, state, t.source_is, t.content_is, r.effect_is) refl
