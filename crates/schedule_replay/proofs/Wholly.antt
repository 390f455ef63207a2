-- What a whole script comes to, from its trace: for rows that are too long to compute at once.
use Rattle.std.specs.Prelude.{◌≡◌, true, List, ◌++◌, None, refl}
use Rattle.std.proofs.Common.{ap, ◌∙◌}
use Rattle.vst_base.specs.declared.step.Item.{Item}
use Rattle.schedule_text.specs.Printing.{trace_text}
use Rattle.stacks.specs.ClaimTexts.{image_text}
use Rattle.schedule_text.specs.Schedules.{Script}
use Rattle.stacks.specs.Plays.{Play}
use Rattle.schedule_replay.specs.Explained.{steps_of}
use Rattle.schedule_replay.specs.Replaying.{Replayed, stop_at, taken_at, stop, taken, image_lines, ended, replayed_script}

module _ {I O G : Type 0} (st : Play I O G) (sc : Script I) (none : sc.fault ≡ None) (allowed : st.refused (steps_of sc) ≡ None) where
  pub taken-whole : replayed_script st true sc ≡ ended st true (steps_of sc) None
  taken-whole =
      let t : taken st sc ≡ steps_of sc = ap (taken_at sc) allowed in
      let s : stop st sc ≡ None = ap (stop_at sc) allowed ∙ none in
      rw (t, s) refl

  pub whole-out : (items : List (Item I O)) → st.trace (steps_of sc) ≡ items → (replayed_script st true sc).out ≡ trace_text st.texts.input_text st.texts.output_text items ++ image_lines st (steps_of sc)
  whole-out items traced = ap (λ (r : Replayed). r.out) taken-whole ∙ ap (λ xs. trace_text st.texts.input_text st.texts.output_text xs ++ image_lines st (steps_of sc)) traced

  -- and where the image's lines are made of the trace
  pub whole-out-by : (image_by : List (Item I O) → List G) → st.image (steps_of sc) ≡ image_by (st.trace (steps_of sc))
      → (items : List (Item I O)) → st.trace (steps_of sc) ≡ items
      → (replayed_script st true sc).out ≡ trace_text st.texts.input_text st.texts.output_text items ++ image_text st.below.header st.below.line (image_by items)
  whole-out-by image_by same items traced =
      whole-out items traced
      ∙ ap (λ (ls : List G). trace_text st.texts.input_text st.texts.output_text items ++ image_text st.below.header st.below.line ls) (same ∙ ap image_by traced)
