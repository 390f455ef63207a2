-- What the steps of a network of single acts make of its world.
use Rattle.std.specs.Prelude.{ℕ, suc, ◌+◌, List, [], ◌∷◌, ◌++◌, length, Option, Some, None, slice_get, if◌then◌else◌}
use Rattle.handler_trait.specs.Handling.{Meaning, Effect, Recovery}
use Rattle.vst_base.specs.declared.step.Step.{Step}
use Rattle.vst_base.specs.declared.step.Step.TheVariants as step
use Rattle.net_semantics.specs.Worlds.{Packet, put, change_at, one_less, one_more}
use Rattle.act_network.specs.declared.step.ActStep.{ActStep}
use Rattle.act_network.specs.declared.step.ActStep.TheVariants as act
use Rattle.act_network.specs.Disks.{Disks, opens_new}
use Rattle.act_network.specs.ActWorlds.{Cause, Input, Fired, Came, step_of, input_of, Turn, Listed, Flying, ActWorld}
use Rattle.act_network.specs.Listing.{moved}

-- a turn that counts goes on, while sends or outputs are left of it
abbrev pub going_on : {S I O M A : Type 0} → Turn S I O M A → List (ℕ × M) → List O → Option (Turn S I O M A)
going_on t [] [] = None
going_on t [] (o ∷ os) = Some t
going_on t (s ∷ ss) os = Some t

abbrev pub going : {S I O M A : Type 0} → Turn S I O M A → Option (Turn S I O M A)
going t = going_on t t.sends t.outputs

abbrev pub listing : {S I O M : Type 0} → ℕ → Cause I → Effect S O M → Listed I O
listing n c e = record { node = n; input = input_of c; sent = []; unsent = e.outputs }

abbrev pub changed_copies : {M : Type 0} → (Packet M → Packet M) → Flying M → Flying M
changed_copies f p = record { packet = f p.packet; number = p.number }

abbrev pub sent_now : {M : Type 0} → ℕ → ℕ → ℕ × M → Flying M
sent_now n number s = record { packet = record { source = n; destination = s.0; content = s.1; copies = 1 }; number = number }

module _ {S I O M D A X : Type 0} where
  abbrev pub counting : ActWorld S I O M D A X → Cause I → Effect S O M → Turn S I O M A
  counting w c e = record { cause = c; effect = e; acts = []; sends = e.sends; outputs = e.outputs; place = length w.listed; number = w.sent }

  -- a turn counts: it is written down, and the node has its state
  abbrev pub counts : ActWorld S I O M D A X → ℕ → Cause I → Effect S O M → D → ActWorld S I O M D A X
  counts w n c e disk = record w {
    state = put w.state n e.state;
    disk = put w.disk n disk;
    turn = put w.turn n (going (counting w c e));
    image = w.image ++ step_of n c ∷ [];
    listed = w.listed ++ listing n c e ∷ [];
    sent = w.sent + length e.sends;
  }

  abbrev pub with_turn : ActWorld S I O M D A X → ℕ → D → Option (Turn S I O M A) → ActWorld S I O M D A X
  with_turn w n disk t = record w { disk = put w.disk n disk; turn = put w.turn n t }

  abbrev pub with_flying : ActWorld S I O M D A X → List (Flying M) → List (Step I) → ActWorld S I O M D A X
  with_flying w ps image = record w { packets = ps; image = image }

  abbrev pub with_listed : ActWorld S I O M D A X → List (Listed I O) → ActWorld S I O M D A X
  with_listed w ls = record w { listed = ls }

  -- a turn begins, and counts at once where nothing is to be saved
  abbrev pub begun_with : ActWorld S I O M D A X → ℕ → Cause I → Effect S O M → List A → ActWorld S I O M D A X
  begun_with w n c e [] = counts w n c e (w.disk n)
  begun_with w n c e (a ∷ more) =
      with_turn w n (w.disk n) (Some (record { cause = c; effect = e; acts = a ∷ more; sends = e.sends; outputs = e.outputs; place = 0; number = 0 }))

  -- a node stops, with this left of its areas
  abbrev pub stopped : ActWorld S I O M D A X → ℕ → X → ActWorld S I O M D A X
  stopped w n left = record w { turn = put w.turn n None; down = put w.down n (Some left); image = w.image ++ step.Crash n ∷ [] }

  abbrev pub started : ActWorld S I O M D A X → ℕ → S → D → ActWorld S I O M D A X
  started w n s disk = record w {
    state = put w.state n s;
    disk = put w.disk n disk;
    down = put w.down n None;
    image = w.image ++ step.Reboot n ∷ [];
  }

module _ {S K I O M D A X : Type 0} (m : Meaning S I O M) (r : Recovery S K) (d : Disks K D A X) where
  abbrev pub begun : ActWorld S I O M D A X → ℕ → Cause I → Effect S O M → ActWorld S I O M D A X
  begun w n c e = begun_with w n c e (d.acts (w.disk n) (r.keep e.state))

  abbrev pub delivered : ActWorld S I O M D A X → ℕ → Option (Flying M) → ActWorld S I O M D A X
  delivered w k None = w
  delivered w k (Some p) =
      begun (with_flying w (change_at (changed_copies one_less) k w.packets) w.image) p.packet.destination (Came p.number)
      (m.message p.packet.destination (w.state p.packet.destination) p.packet.source p.packet.content)

  -- the next act of a turn: on the areas, of which the last makes the turn count; a send; an output
  abbrev pub acts_on : ActWorld S I O M D A X → ℕ → Turn S I O M A → List A → List (ℕ × M) → List O → ActWorld S I O M D A X
  acts_on w n t (a ∷ []) ss os = counts w n t.cause t.effect (d.learns (r.keep t.effect.state) (d.does a (w.disk n)))
  acts_on w n t (a ∷ (b ∷ more)) ss os =
      with_turn w n (d.does a (w.disk n))
      (Some (record { cause = t.cause; effect = t.effect; acts = b ∷ more; sends = t.sends; outputs = t.outputs; place = t.place; number = t.number }))
  acts_on w n t [] (s ∷ ss) os =
      with_flying
      (with_turn w n (w.disk n)
      (going (record { cause = t.cause; effect = t.effect; acts = []; sends = ss; outputs = os; place = t.place; number = suc t.number })))
      (w.packets ++ sent_now n t.number s ∷ []) w.image
  acts_on w n t [] [] (o ∷ os) =
      with_listed
      (with_turn w n (w.disk n)
      (going (record { cause = t.cause; effect = t.effect; acts = []; sends = []; outputs = os; place = t.place; number = t.number })))
      (change_at moved t.place w.listed)
  acts_on w n t [] [] [] = w

  abbrev pub acted : ActWorld S I O M D A X → ℕ → Option (Turn S I O M A) → ActWorld S I O M D A X
  acted w n None = w
  acted w n (Some t) = acts_on w n t t.acts t.sends t.outputs

  -- a turn that a stop cuts before its last act on the areas counts where the areas open as its state
  abbrev pub cut_in : ActWorld S I O M D A X → ℕ → X → Turn S I O M A → List A → ActWorld S I O M D A X
  cut_in w n left t [] = stopped w n left
  cut_in w n left t (a ∷ more) =
      if opens_new d n (w.disk n) left then stopped (counts w n t.cause t.effect (w.disk n)) n left else stopped w n left

  abbrev pub cut_off : ActWorld S I O M D A X → ℕ → X → Option (Turn S I O M A) → ActWorld S I O M D A X
  cut_off w n left None = stopped w n left
  cut_off w n left (Some t) = cut_in w n left t t.acts

  abbrev pub started_as : ActWorld S I O M D A X → ℕ → X → Option K → ActWorld S I O M D A X
  started_as w n left None = w
  started_as w n left (Some k) = started w n (r.reboot n k) (d.reopened n left)

  abbrev pub restarted : ActWorld S I O M D A X → ℕ → Option X → ActWorld S I O M D A X
  restarted w n None = w
  restarted w n (Some left) = started_as w n left (d.opens n left)

  abbrev pub copied : ActWorld S I O M D A X → ℕ → Option (Flying M) → ActWorld S I O M D A X
  copied w k None = w
  copied w k (Some p) = with_flying w (change_at (changed_copies one_more) k w.packets) (w.image ++ step.Dup p.number ∷ [])

  abbrev pub lost : ActWorld S I O M D A X → ℕ → Option (Flying M) → ActWorld S I O M D A X
  lost w k None = w
  lost w k (Some p) = with_flying w (change_at (changed_copies one_less) k w.packets) (w.image ++ step.Lose p.number ∷ [])

  -- the world after a step that is not refused
  abbrev pub act_next : ActWorld S I O M D A X → ActStep I X → ActWorld S I O M D A X
  act_next w (act.In n i) = begun w n (Input i) (m.input n (w.state n) i)
  act_next w (act.Deliver k) = delivered w k (slice_get w.packets k)
  act_next w (act.Tick n) = begun w n Fired (m.timeout n (w.state n))
  act_next w (act.Act n) = acted w n (w.turn n)
  act_next w (act.Dup k) = copied w k (slice_get w.packets k)
  act_next w (act.Lose k) = lost w k (slice_get w.packets k)
  act_next w (act.Stop n left) = cut_off w n left (w.turn n)
  act_next w (act.Reboot n) = restarted w n (w.down n)
