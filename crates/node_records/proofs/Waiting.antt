-- While a turn waits, every event that was decided is of a turn that has ended.
use Rattle.std.proofs.Common.{◌≡◌, ℕ, Bool, true, false, List, [], ◌∷◌, ◌++◌, length, Option, None, Some, refl, sym, ap, ◌∙◌, arith, if◌then◌else◌, inl, inr}
use Rattle.std.proofs.lemmas.Bool.{or_parts}
use Rattle.std.proofs.lemmas.List.{append-nil}
use Rattle.disk.specs.Acts.{Act, Now, Took}
use Rattle.disk.specs.Disk.{Image}
use Rattle.raft_types.specs.Messages.{KeptView}
use Rattle.slots.specs.Opening.{Found}
use Rattle.vst_base.specs.Machines.{MachineMeaning}
use Rattle.wire_fields.specs.Formats.{Format}
use Rattle.node_run.specs.Runs.{Done, NodeView, Stage, Starting, Between, Waiting, Step, begins, done_in, stage_after, step, takes_if}
use Rattle.node_run.specs.Events.{event_of}
use Rattle.node_run.specs.Settings.{Settings, due}
use Rattle.node_run.specs.declared.due.Due.{Due}
use Rattle.node_run.specs.declared.due.Due.TheVariants.{Timeout, Wait}
use Rattle.node_run.specs.declared.event.Event.{Event}
use Rattle.node_records.specs.Records.{begins_turn, ended_turns, reads_clock}
use Rattle.node_records.specs.Moments.{IsAt}

module _ {S C O : Type 0} (settings : Settings) (m : MachineMeaning S C O) (f : Format C) (g : Format O) where
  abbrev goes : Stage S C O → Act → Step S C O
  goes stage act = step settings m f g stage act

  abbrev decides : Stage S C O → List Act → List (Done C)
  decides stage acts = done_in settings m f g stage acts

  -- it waits in a turn that began then
  record Waits (stage : Stage S C O) : Type 0 where
    pub node : NodeView S C O
    pub time : ℕ
    pub is : stage ≡ Waiting node time

  -- what leads to a wait decides nothing

  begins_none : (node : NodeView S C O) (time : ℕ) (is : Due) → Waits (begins settings m f g node time is).stage → (begins settings m f g node time is).done ≡ []
  begins_none node time Timeout w = let e = w.is in cc
  begins_none node time (Wait ms) w = refl

  takes_none : (node : NodeView S C O) (time : ℕ) (event : Option (Event C)) → Waits (takes_if settings m f g node time event).stage →
      (takes_if settings m f g node time event).done ≡ []
  takes_none node time None w = refl
  takes_none node time (Some event) w = let e = w.is in cc

  step_none : (stage : Stage S C O) (act : Act) → Waits (goes stage act).stage → (goes stage act).done ≡ []
  step_none (Starting kept) (Now time) w = refl
  step_none (Between node) (Now time) w = begins_none node time (due node.deadline time) w
  step_none (Waiting node time) (Took wait from bytes) w = takes_none node time (event_of settings f from bytes) w
  step_none stage act w = refl

  -- and a wait that no clock value began was one before

  step_waits : (stage : Stage S C O) (act : Act) → reads_clock act ≡ false → Waits (goes stage act).stage → Waits stage
  step_waits (Waiting node time) act still w = record { node = node; time = time; is = refl }
  step_waits (Between node) (Now time) still w = cc
  step_waits (Starting kept) (Now time) still w = cc
  step_waits stage act still w = w

  waits_before : (stage : Stage S C O) (acts : List Act) → begins_turn acts ≡ false → Waits (stage_after settings m f g stage acts) → Waits stage
  waits_before stage [] still w = w
  waits_before stage (act ∷ acts) still w =
      let parts = or_parts (reads_clock act) (begins_turn acts) still in
      step_waits stage act parts.0 (waits_before (goes stage act).stage acts parts.1 w)

  quiet_none : (stage : Stage S C O) (acts : List Act) → begins_turn acts ≡ false → Waits (stage_after settings m f g stage acts) → decides stage acts ≡ []
  quiet_none stage [] still w = refl
  quiet_none stage (act ∷ acts) still w =
      let rest = (or_parts (reads_clock act) (begins_turn acts) still).1 in
      let next = (goes stage act).stage in
      ap (λ ds. (goes stage act).done ++ ds) (quiet_none next acts rest w)
      ∙ (append-nil (goes stage act).done ∙ step_none stage act (waits_before next acts rest w))

  -- so the events are those of the turns that have ended

  by_turn : (stage : Stage S C O) (act : Act) (acts : List Act) (b : Bool) → begins_turn acts ≡ b → Waits (stage_after settings m f g (goes stage act).stage acts) →
      decides (goes stage act).stage (ended_turns acts) ≡ decides (goes stage act).stage acts →
      decides stage (if b then act ∷ ended_turns acts else []) ≡ decides stage (act ∷ acts)
  by_turn stage act acts true is w same = ap (λ ds. (goes stage act).done ++ ds) same
  by_turn stage act acts false is w same =
      let next = (goes stage act).stage in
      sym
      (ap (λ ds. (goes stage act).done ++ ds) (quiet_none next acts is w)
      ∙ (append-nil (goes stage act).done ∙ step_none stage act (waits_before next acts is w)))

  all_ended : (stage : Stage S C O) (acts : List Act) → Waits (stage_after settings m f g stage acts) → decides stage (ended_turns acts) ≡ decides stage acts
  all_ended stage [] w = refl
  all_ended stage (act ∷ acts) w = by_turn stage act acts (begins_turn acts) refl w (all_ended (goes stage act).stage acts w)

  pub waiting_leaves : (found : List ℕ → Found (KeptView C)) (stage : Stage S C O) (kept : KeptView C) (acts : List Act) (image : Image) (node : NodeView S C O)
      (time : ℕ) → stage_after settings m f g stage acts ≡ Waiting node time → (at : IsAt settings m f g found stage kept acts image) →
      at.c ≡ length (decides stage acts)
  waiting_leaves found stage kept acts image node time is at =
      let all = ap (λ ds. length ds) (all_ended stage acts (record { node = node; time = time; is = is })) in
      elim (at.near) [ inl e ↦ e | inr e ↦ absurd (omega (arith, e, all, at.ended)) ]
