-- Each state that a turn saves is one that an event of a run of whole events makes.
use Rattle.std.proofs.Common.{◌≡◌, ℕ, List, [], ◌∷◌, Option, None, refl, subst}
use Rattle.std.specs.Prelude.{IfSome}
use Rattle.handler_trait.specs.Handling.{Meaning, Effect, Recovery}
use Rattle.net_semantics.specs.Worlds.{World}
use Rattle.net_semantics.specs.Steps.{Event, event_of}
use Rattle.act_network.specs.declared.step.ActStep.{ActStep}
use Rattle.act_network.specs.declared.step.ActStep.TheVariants as act
use Rattle.act_network.specs.Disks.{Disks, DiskLaws}
use Rattle.act_network.specs.ActWorlds.{Cause, Input, Fired, Came, ActWorld, first_act_world, step_of}
use Rattle.act_network.specs.ActRefusals.{act_refusal}
use Rattle.act_network.specs.ActSteps.{act_next}
use Rattle.act_network.specs.ActRuns.{AreAllowed, AreTaken, KeepsTo, MayLeave}
use Rattle.act_network.specs.ActLaws.{EventsCanSave, IsRecoverable, SchedulesAreEvents}
use Rattle.act_network.proofs.Failing.{event-is, fires-event, goes}
use Rattle.act_network.proofs.Following.{Owner, claim}
use Rattle.act_network.proofs.Counting.{copy-there}
use Rattle.act_network.proofs.Turning.{Reached, Pends}
use Rattle.act_network.proofs.Refusing.{copies-there, is-none, not-false, not-refused, packet-there}
use Rattle.act_network.proofs.Stepping.{acts_are_events, first-reached, pends, pends-at, step-reached}

module _ {S K I O M D A X : Type 0} (m : Meaning S I O M) (r : Recovery S K) (d : Disks K D A X) (CanSave : ℕ → K → K → Type 0) (laws : DiskLaws d CanSave)
    (home : IsRecoverable m r d laws.Holds) (can : EventsCanSave m r CanSave) where
  can-save : (w : ActWorld S I O M D A X) (f : World S K M) (owner : ℕ → Owner) (n : ℕ) (c : Cause I) (e : Effect S O M) → Pends m r d CanSave laws w f owner n c e →
      CanSave n (r.keep (w.state n)) (r.keep e.state)
  can-save w f owner n c e p =
      let fires = fires-event m r c w.packets n e p.up_is p.state_is p.ready (copy-there m r w.packets f.packets owner (λ i k. claim (w.turn i) k) n c (w.state n) e p.ready p.carried) in
      let allowed = (goes m r p.run fires).allowed in
      let all = can w.image (step_of n c) allowed in
      let at-f = subst (λ (g : World S K M). IfSome (event_of m g (step_of n c)) (λ (x : Event S I O M). CanSave x.node (r.keep (g.state x.node)) (r.keep x.effect.state))) p.run.run_is all in
      let at-e = subst (λ (o : Option (Event S I O M)). IfSome o (λ (x : Event S I O M). CanSave x.node (r.keep (f.state x.node)) (r.keep x.effect.state))) (event-is m r c w.packets f n e p.state_is p.ready) at-f in
      subst (λ (s : S). CanSave n (r.keep s) (r.keep e.state)) p.state_is at-e

  module _ (w : ActWorld S I O M D A X) (reached : Reached m r d CanSave laws w) where
    keeps-to : (s : ActStep I X) → act_refusal m w s ≡ None → MayLeave m r d w s → KeepsTo m r d CanSave w s
    keeps-to (act.In n i) e may =
        let h = not-refused m w (act.In n i) e in (
          may,
          can-save w reached.fail reached.owner n (Input i) (m.input n (w.state n) i)
              (pends-at m r d CanSave laws w reached n (Input i) (m.input n (w.state n) i) (λ k. refl) (is-none (w.down n) (not-false _ h.up_is)) (is-none (w.turn n) (not-false _ h.idle))
              (record { exists = not-false _ h.exists; takes = not-false _ h.takes; effect_is = refl })),
        )
    keeps-to (act.Tick n) e may =
        let h = not-refused m w (act.Tick n) e in (
          may,
          can-save w reached.fail reached.owner n Fired (m.timeout n (w.state n))
              (pends-at m r d CanSave laws w reached n Fired (m.timeout n (w.state n)) (λ k. refl) (is-none (w.down n) (not-false _ h.up_is)) (is-none (w.turn n) (not-false _ h.idle))
              (record { exists = not-false _ h.exists; effect_is = refl })),
        )
    keeps-to (act.Deliver k) e may =
        let h = not-refused m w (act.Deliver k) e in
        let p = copies-there w.packets k h.copy in
        let is = p.1 in
        let flies = packet-there w.packets k p.0 is in
        let down = rw flies at h.up_is in
        let idle = rw flies at h.idle in
        rw is (may, can-save _ reached.fail reached.owner p.0.packet.destination (Came p.0.number) _ (pends m r d CanSave laws w reached k p.0 p.1 p.2 (is-none (w.down p.0.packet.destination) (not-false _ down)) (is-none (w.turn p.0.packet.destination) (not-false _ idle))))
    keeps-to (act.Stop n left) e may = (may, tt)
    keeps-to (act.Act n) e may = (tt, tt)
    keeps-to (act.Dup k) e may = (tt, tt)
    keeps-to (act.Lose k) e may = (tt, tt)
    keeps-to (act.Reboot n) e may = (tt, tt)

  all-taken : (w : ActWorld S I O M D A X) → Reached m r d CanSave laws w → (ss : List (ActStep I X)) → AreAllowed m r d w ss → AreTaken m r d CanSave w ss
  all-taken w reached [] h = tt
  all-taken w reached (s ∷ ss) h =
      let keeps = keeps-to w reached s h.0 h.1 in
      (h.0, keeps, all-taken (act_next m r d w s) (step-reached m r d CanSave laws w reached home s h.0 keeps) ss h.2)

pub schedules_are_events : {K D A X : Type 0} (S I O M : Type 0) (d : Disks K D A X) (CanSave : ℕ → K → K → Type 0) (laws : DiskLaws d CanSave) →
    SchedulesAreEvents S I O M d laws.Holds CanSave
schedules_are_events S I O M d CanSave laws m r home can ss allowed =
    acts_are_events S I O M d CanSave laws m r home ss
    (all-taken m r d CanSave laws home can (first_act_world m d) (first-reached m r d CanSave laws home) ss allowed)
