-- What a node heard, as its device tells it.
use Rattle.std.proofs.Common.{◌≡◌, ℕ, List, [], ◌∷◌, Option, Some, None, Result, Ok, Err, IfOk, OnErr, OnSome, arith, refl, sym, subst, ◌∙◌}
use Rattle.disk.specs.Acts.{Act, Began, BeginFailed, Now, Took, Quiet, ReceiveFailed, Sent, SendFailed, Wrote, Cut, Synced, StoreFailed}
use Rattle.node_device.specs.Telling.{Told, told_after, Did, TellsOn, WhereTold}
use Rattle.node_progress.proofs.Going.{told_twice}
use Rattle.node_records.specs.RecordLaws.{Turns}
use Rattle.node_records.proofs.Turning.{turns_hear}
use Rattle.node_run.specs.Events.{event_of}
use Rattle.node_run.specs.Runs.{NodeView}
use Rattle.node_run.specs.Settings.{Settings, due}
use Rattle.node_run.specs.declared.due.Due.TheVariants.{Wait}
use Rattle.node_run.specs.declared.event.Event.{Event}
use Rattle.outside.specs.declared.device.Address.{Address}
use Rattle.vst_base.specs.Machines.{MachineMeaning}
use Rattle.wire_fields.specs.Formats.{Format}
use Rattle.udp_node.proofs.Telling.{then_told}
use Rattle.udp_node.specs.Serving.{StillTold}
use Rattle.udp_node.specs.Listening.{HasCutOff, HasHeard, HasReceived, HasStoppedHearing, Hears, IsCutOff, IsReceipt, StopsHearing}

module _ {S C O : Type 0} (settings : Settings) (f : Format C) (g : Format O) (node : NodeView S C O) (time wait : ℕ) (is : due node.deadline time ≡ Wait wait) where
  hear : (m : MachineMeaning S C O) → Turns settings m f g
  hear m = turns_hear settings m f g

  took : (m : MachineMeaning S C O) (from : Address) (bytes : List ℕ) (event : Option (Event C)) → event_of settings f from bytes ≡ event →
      Hears settings m f g node time (Now time ∷ Took wait from bytes ∷ []) event
  took m from bytes None e = (hear m).no_event node time wait from bytes is e
  took m from bytes (Some event) e = (hear m).event node time wait from bytes event is e

  received : (m : MachineMeaning S C O) (act : Act) (event : Option (Event C)) → IsReceipt settings f wait act event →
      Hears settings m f g node time (Now time ∷ act ∷ []) event
  received m (Took w from bytes) event r =
      subst (λ n. Hears settings m f g node time (Now time ∷ Took n from bytes ∷ []) event) (sym r.0) (took m from bytes event r.1)
  received m (Quiet w) event r =
      subst (λ n. Hears settings m f g node time (Now time ∷ Quiet n ∷ []) event) (sym r.0)
      (subst (λ e. Hears settings m f g node time (Now time ∷ Quiet wait ∷ []) e) (sym r.1) ((hear m).quiet node time wait is))
  received m (Began at dir) event r = absurd r
  received m (BeginFailed at dir) event r = absurd r
  received m (Now ms) event r = absurd r
  received m (ReceiveFailed w) event r = absurd r
  received m (Sent to bytes) event r = absurd r
  received m (SendFailed to bytes) event r = absurd r
  received m (Wrote area at bytes) event r = absurd r
  received m (Cut area len) event r = absurd r
  received m (Synced area) event r = absurd r
  received m (StoreFailed call) event r = absurd r

  -- the clock, and then a receive
  pub has_heard : (event : Option (Event C)) (before mid now : Told) → mid ≡ told_after before (Now time ∷ []) →
      HasReceived settings f wait event mid now → HasHeard S settings f g node time event before now
  has_heard event before mid now e r = record {
    acts = Now time ∷ r.act ∷ [];
    is = r.is ∙ subst (λ x. told_after x (r.act ∷ []) ≡ told_after before (Now time ∷ r.act ∷ [])) (sym e) (told_twice before (Now time ∷ []) (r.act ∷ []));
    heard = λ m. received m r.act event r.receipt;
  }

  took_stops : (m : MachineMeaning S C O) (from : Address) (bytes : List ℕ) (event : Option (Event C)) → event_of settings f from bytes ≡ event →
      StopsHearing settings m f g node (Now time ∷ Took wait from bytes ∷ [])
  took_stops m from bytes None e = record { done = []; count = 1; next = _; heard = (hear m).no_event node time wait from bytes is e; few = omega arith; one = omega arith }
  took_stops m from bytes (Some event) e = record { done = _; count = 1; next = _; heard = (hear m).event node time wait from bytes event is e; few = omega arith; one = omega arith }

  cut_off : (m : MachineMeaning S C O) (acts : List Act) → IsCutOff wait acts → StopsHearing settings m f g node (Now time ∷ acts)
  cut_off m [] c = record { done = []; count = 0; next = _; heard = (hear m).waits node time wait is; few = omega arith; one = omega arith }
  cut_off m (Took w from bytes ∷ []) c =
      subst (λ n. StopsHearing settings m f g node (Now time ∷ Took n from bytes ∷ [])) (sym c) (took_stops m from bytes (event_of settings f from bytes) refl)
  cut_off m (ReceiveFailed w ∷ []) c =
      subst (λ n. StopsHearing settings m f g node (Now time ∷ ReceiveFailed n ∷ [])) (sym c)
      (record { done = []; count = 0; next = _; heard = (hear m).failed node time wait is; few = omega arith; one = omega arith })
  cut_off m (Took w from bytes ∷ b ∷ acts) c = absurd c
  cut_off m (ReceiveFailed w ∷ b ∷ acts) c = absurd c
  cut_off m (Began at dir ∷ acts) c = absurd c
  cut_off m (BeginFailed at dir ∷ acts) c = absurd c
  cut_off m (Now ms ∷ acts) c = absurd c
  cut_off m (Quiet w ∷ acts) c = absurd c
  cut_off m (Sent to bytes ∷ acts) c = absurd c
  cut_off m (SendFailed to bytes ∷ acts) c = absurd c
  cut_off m (Wrote area at bytes ∷ acts) c = absurd c
  cut_off m (Cut area len ∷ acts) c = absurd c
  cut_off m (Synced area ∷ acts) c = absurd c
  cut_off m (StoreFailed call ∷ acts) c = absurd c

  pub has_stopped : (before mid now : Told) → mid ≡ told_after before (Now time ∷ []) → HasCutOff wait mid now →
      HasStoppedHearing S settings f g node before now
  has_stopped before mid now e r = record {
    acts = Now time ∷ r.acts;
    is = r.is ∙ subst (λ x. told_after x r.acts ≡ told_after before (Now time ∷ r.acts)) (sym e) (told_twice before (Now time ∷ []) r.acts);
    heard = λ m. cut_off m r.acts r.cut;
  }

  -- the same by the answers of the calls

  pub heard_told : {E : Type 0} (shown : ℕ) → shown ≡ time → (a b c : Option Told) (r : Result (Option (Event C)) E) → TellsOn 1 a b →
      OnSome b (Did a b (Now time ∷ [])) → IfOk r (λ e. WhereTold b c (HasReceived settings f wait e)) →
      IfOk r (λ e. StillTold 1 a c (HasHeard S settings f g node shown e))
  heard_told shown same a b c (Err e) tells did r = tt
  heard_told shown same a b c (Ok event) tells did r =
      subst (λ n. StillTold 1 a c (HasHeard S settings f g node n event)) (sym same)
      (then_told (HasReceived settings f wait event) (HasHeard S settings f g node time event) 1 a b c (Now time ∷ []) tells did r (has_heard event))

  pub stopped_told : {E : Type 0} (a b c : Option Told) (r : Result (Option (Event C)) E) → TellsOn 1 a b → OnSome b (Did a b (Now time ∷ [])) →
      OnErr r (WhereTold b c (HasCutOff wait)) → OnErr r (StillTold 1 a c (HasStoppedHearing S settings f g node))
  stopped_told a b c (Ok event) tells did r = tt
  stopped_told a b c (Err e) tells did r =
      then_told (HasCutOff wait) (HasStoppedHearing S settings f g node) 1 a b c (Now time ∷ []) tells did r has_stopped
