-- Runs of single acts: which schedules the network takes, the run of whole events that one comes to, and the trace of the turns that
-- count.
use Rattle.std.specs.Prelude.{◌≡◌, ℕ, true, List, [], ◌∷◌, Option, Some, None, IfSome, slice_get}
use Rattle.handler_trait.specs.Handling.{Meaning, Effect, Recovery}
use Rattle.vst_base.specs.declared.step.Item.{Item}
use Rattle.vst_base.specs.declared.step.Step.{Step}
use Rattle.vst_base.specs.declared.step.StepRefusal.{StepRefusal}
use Rattle.net_semantics.specs.Runs.{place_and_why}
use Rattle.act_network.specs.declared.step.ActStep.{ActStep}
use Rattle.act_network.specs.declared.step.ActStep.TheVariants as act
use Rattle.act_network.specs.Disks.{Disks}
use Rattle.act_network.specs.ActWorlds.{ActWorld, Flying, first_act_world}
use Rattle.act_network.specs.ActRefusals.{act_refusal}
use Rattle.act_network.specs.ActSteps.{act_next}
use Rattle.act_network.specs.Listing.{shown}

module _ {S K I O M D A X : Type 0} (m : Meaning S I O M) (r : Recovery S K) (d : Disks K D A X) where
  -- the world after these steps
  abbrev pub acts_from : ActWorld S I O M D A X → List (ActStep I X) → ActWorld S I O M D A X
  acts_from w [] = w
  acts_from w (s ∷ ss) = acts_from (act_next m r d w s) ss

  abbrev pub acts_run : List (ActStep I X) → ActWorld S I O M D A X
  acts_run ss = acts_from (first_act_world m d) ss

  -- the first step that is refused, its place from 0, and why
  abbrev pub first_refused_act_from : ActWorld S I O M D A X → List (ActStep I X) → Option (ℕ × StepRefusal)
  first_refused_act_from w [] = None
  first_refused_act_from w (s ∷ ss) = place_and_why (act_refusal m w s) (first_refused_act_from (act_next m r d w s) ss)

  abbrev pub first_refused_act : List (ActStep I X) → Option (ℕ × StepRefusal)
  first_refused_act ss = first_refused_act_from (first_act_world m d) ss

  -- the run of whole events
  abbrev pub image_of : List (ActStep I X) → List (Step I)
  image_of ss = (acts_run ss).image

  -- the turns that count, listed in the order in which they count, each with its input and those of its outputs that were sent
  abbrev pub listed_trace : List (ActStep I X) → List (Item I O)
  listed_trace ss = shown (acts_run ss).listed

  -- what a stop leaves of the areas is one of what a crash may leave
  abbrev pub MayLeave : ActWorld S I O M D A X → ActStep I X → Type 0
  MayLeave w (act.In n i) = Unit {0}
  MayLeave w (act.Deliver k) = Unit {0}
  MayLeave w (act.Tick n) = Unit {0}
  MayLeave w (act.Act n) = Unit {0}
  MayLeave w (act.Dup k) = Unit {0}
  MayLeave w (act.Lose k) = Unit {0}
  MayLeave w (act.Stop n left) = d.may_leave (w.disk n) left ≡ true
  MayLeave w (act.Reboot n) = Unit {0}

  abbrev pub AreAllowed : ActWorld S I O M D A X → List (ActStep I X) → Type 0
  AreAllowed w [] = Unit {0}
  AreAllowed w (s ∷ ss) = (act_refusal m w s ≡ None) × MayLeave w s × AreAllowed (act_next m r d w s) ss

  -- the network of single acts allows the schedule
  abbrev pub IsActSchedule : List (ActStep I X) → Type 0
  IsActSchedule ss = AreAllowed (first_act_world m d) ss

  abbrev pub begins_at : ActWorld S I O M D A X → Option (Flying M) → Option (ℕ × Effect S O M)
  begins_at w None = None
  begins_at w (Some p) =
      Some (p.packet.destination, m.message p.packet.destination (w.state p.packet.destination) p.packet.source p.packet.content)

  -- the turn that a step begins: its node, and what the handlers make of its event
  abbrev pub begins : ActWorld S I O M D A X → ActStep I X → Option (ℕ × Effect S O M)
  begins w (act.In n i) = Some (n, m.input n (w.state n) i)
  begins w (act.Deliver k) = begins_at w (slice_get w.packets k)
  begins w (act.Tick n) = Some (n, m.timeout n (w.state n))
  begins w (act.Act n) = None
  begins w (act.Dup k) = None
  begins w (act.Lose k) = None
  begins w (act.Stop n left) = None
  begins w (act.Reboot n) = None

  module _ (CanSave : ℕ → K → K → Type 0) where
    abbrev pub MaySave : ActWorld S I O M D A X → ℕ → Effect S O M → Type 0
    MaySave w n e = CanSave n (r.keep (w.state n)) (r.keep e.state)

    -- what a stop leaves may be left, and the state after a turn that begins can be saved
    abbrev pub KeepsTo : ActWorld S I O M D A X → ActStep I X → Type 0
    KeepsTo w s = MayLeave w s × IfSome (begins w s) (λ b. MaySave w b.0 b.1)

    abbrev pub AreTaken : ActWorld S I O M D A X → List (ActStep I X) → Type 0
    AreTaken w [] = Unit {0}
    AreTaken w (s ∷ ss) = (act_refusal m w s ≡ None) × KeepsTo w s × AreTaken (act_next m r d w s) ss

    -- the network takes the schedule
    abbrev pub IsActRun : List (ActStep I X) → Type 0
    IsActRun ss = AreTaken (first_act_world m d) ss
