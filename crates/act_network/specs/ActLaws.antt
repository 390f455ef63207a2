-- What holds of every schedule of single acts.
use Rattle.std.specs.Prelude.{◌≡◌, ◌≢◌, ◌↔◌, ℕ, true, ◌≤◌, length, List, [], ◌∷◌, ◌++◌, IfSome, Some}
use Rattle.handler_trait.specs.Handling.{Meaning, Recovery}
use Rattle.vst_base.specs.declared.net.Net.TheVariants as net
use Rattle.vst_base.specs.declared.step.Step.{Step}
use Rattle.net_semantics.specs.Runs.{IsAllowed, run, trace}
use Rattle.net_semantics.specs.Steps.{event_of}
use Rattle.act_network.specs.declared.step.ActStep.{ActStep}
use Rattle.act_network.specs.Disks.{Disks, opens_new}
use Rattle.act_network.specs.ActWorlds.{Turn}
use Rattle.act_network.specs.Listing.{LeavesOut, whole}
use Rattle.act_network.specs.ActRuns.{acts_run, IsActRun, IsActSchedule, image_of, listed_trace}

module _ {S K I O M D A X : Type 0} (m : Meaning S I O M) (r : Recovery S K) (d : Disks K D A X) where
  -- the areas hold at first what first states keep, and a node that starts again keeps what it was given
  pub record IsRecoverable (Holds : ℕ → K → D → Type 0) : Type 0 where
    pub fresh : (n : ℕ) → Holds n (r.keep (m.init n)) (d.fresh n)
    pub keeps : (n : ℕ) (k : K) → r.keep (r.reboot n k) ≡ k

  -- The network `fail` allows the run of whole events. Its trace is that of the turns that count, listed in the order in which they
  -- count, with all their outputs; and the listed trace is it with just those outputs left out that were not sent.
  pub record IsExplained (ss : List (ActStep I X)) : Type 0 where
    pub allowed : IsAllowed net.Fail m r (image_of m r d ss)
    pub trace_is : trace m r (image_of m r d ss) ≡ whole (acts_run m r d ss).listed
    pub leaves_out : LeavesOut (listed_trace m r d ss) (trace m r (image_of m r d ss))

-- Whatever happens on the network `fail`, the state after an event can be saved over the one before it.
abbrev pub EventsCanSave : {S K I O M : Type 0} → Meaning S I O M → Recovery S K → (ℕ → K → K → Type 0) → Type 0
EventsCanSave {I = I} m r CanSave =
    (ss : List (Step I)) (s : Step I) → IsAllowed net.Fail m r (ss ++ s ∷ []) →
    IfSome (event_of m (run m r ss) s) (λ e. CanSave e.node (r.keep ((run m r ss).state e.node)) (r.keep e.effect.state))

module _ (S I O M : Type 0) {K D A X : Type 0} (d : Disks K D A X) where
  -- The run of whole events has no more steps than the schedule.
  abbrev pub ImageIsShort : Type 0
  ImageIsShort = (m : Meaning S I O M) (r : Recovery S K) (ss : List (ActStep I X)) → length (image_of m r d ss) ≤ length ss

  module _ (Holds : ℕ → K → D → Type 0) (CanSave : ℕ → K → K → Type 0) where
    -- Every schedule of single acts, with whatever a crash may leave at each stop.
    abbrev pub ActsAreEvents : Type 0
    ActsAreEvents =
        (m : Meaning S I O M) (r : Recovery S K) → IsRecoverable m r d Holds → (ss : List (ActStep I X)) → IsActRun m r d CanSave ss →
        IsExplained m r d ss

    -- The same where what is asked of saves is asked of runs of whole events alone.
    abbrev pub SchedulesAreEvents : Type 0
    SchedulesAreEvents =
        (m : Meaning S I O M) (r : Recovery S K) → IsRecoverable m r d Holds → EventsCanSave m r CanSave → (ss : List (ActStep I X)) →
        IsActSchedule m r d ss → IsExplained m r d ss

    -- Each node has the state of the run of whole events, also where it is down.
    abbrev pub StatesAgree : Type 0
    StatesAgree =
        (m : Meaning S I O M) (r : Recovery S K) → IsRecoverable m r d Holds → (ss : List (ActStep I X)) → IsActRun m r d CanSave ss →
        (n : ℕ) → (run m r (image_of m r d ss)).state n ≡ (acts_run m r d ss).state n

    -- A turn that a stop cuts in its acts on the areas counts just where they open as the state after it.
    abbrev pub StopsCountByState : Type 0
    StopsCountByState =
        (m : Meaning S I O M) (r : Recovery S K) → IsRecoverable m r d Holds → (ss : List (ActStep I X)) → IsActRun m r d CanSave ss →
        (n : ℕ) (left : X) (t : Turn S I O M A) → (acts_run m r d ss).turn n ≡ Some t → t.acts ≢ [] →
        d.may_leave ((acts_run m r d ss).disk n) left ≡ true →
        (opens_new d n ((acts_run m r d ss).disk n) left ≡ true) ↔ (d.opens n left ≡ Some (r.keep t.effect.state))

    -- What a stop left of a node that is down opens as a state. So a start that is not refused starts the node.
    abbrev pub DownNodesOpen : Type 0
    DownNodesOpen =
        (m : Meaning S I O M) (r : Recovery S K) → IsRecoverable m r d Holds → (ss : List (ActStep I X)) → IsActRun m r d CanSave ss →
        (n : ℕ) (left : X) → (acts_run m r d ss).down n ≡ Some left → (k : K) × (d.opens n left ≡ Some k)
