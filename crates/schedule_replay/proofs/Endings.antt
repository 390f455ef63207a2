-- What a replay comes to, by where its steps ended.
use Rattle.std.specs.Prelude.{◌≡◌, ℕ, Bool, true, false, ◌+◌, ◌-◌, ◌≤◌, List, [], ◌++◌, length, Option, Some, None, Ok, Err, refl}
use Rattle.std.proofs.Common.{ap, ◌∙◌, sym, subst, append_assoc, arith, length-append, zero-add}
use Rattle.std.proofs.lemmas.List.{append-nil}
use Rattle.vst_base.specs.declared.step.Step.{Step}
use Rattle.vst_base.specs.declared.step.Item.{Item}
use Rattle.outside.specs.Wholes.{Gained, GainedPrefix}
use Rattle.outside.proofs.Wholes.{gained-both, gained-some}
use Rattle.line_reader.specs.declared.why.Why.{Why}
use Rattle.line_reader.specs.Lines.{lines_of, whole_lines, decided}
use Rattle.line_reader.specs.Readers.{ReaderView, HasRest}
use Rattle.line_reader.specs.Outcomes.{StandsAt}
use Rattle.line_reader.specs.declared.write_fault.WriteFault.{WriteFault}
use Rattle.line_reader.specs.declared.write_fault.WriteFault.TheVariants as line
use Rattle.schedule_text.specs.Sending.{HasWriteCause}
use Rattle.schedule_replay.specs.Faults.{write_fault}
use Rattle.schedule_text.specs.Schedules.{Script, script}
use Rattle.xform_stack.specs.Running.{HasRun, Progress}
use Rattle.xform_stack.specs.SystemLaws.{IsCausal}
use Rattle.xform_stack.specs.Systems.{Played}
use Rattle.schedule_replay.specs.declared.done.Done.{Done}
use Rattle.schedule_replay.specs.declared.fault.ReplayFault.TheVariants as fault
use Rattle.schedule_replay.specs.declared.halt.Halt.{Halt}
use Rattle.schedule_replay.specs.declared.halt.Halt.TheVariants as halt
use Rattle.schedule_replay.specs.declared.tally.Tally.{Tally}
use Rattle.stacks.specs.ClaimTexts.{image_text}
use Rattle.stacks.specs.Plays.{ImageTexts, Play, Texts, play_of}
use Rattle.schedule_replay.specs.Tallying.{tallied}
use Rattle.schedule_replay.specs.Finishing.{counted_done}
use Rattle.schedule_replay.specs.Replaying.{Replayed, ended, replayed_script, stop, taken, trace_lines, image_lines, counts_of}
use Rattle.schedule_replay.specs.Rests.{stack_whole, stack_so_far}
use Rattle.schedule_replay.specs.Outcomes.{HasGiven, ComesTo, HasCause}
use Rattle.schedule_replay.specs.Playing.{TraceWritten, Halted}
use Rattle.schedule_replay.proofs.Plays.{written-front}

-- a script by what is taken of it and where it stops
pub ended-at : {I O G : Type 0} (st : Play I O G) (whole : Bool) (sc : Script I) (ss : List (Step I)) (o : Option (ℕ × Why)) → taken st sc ≡ ss → stop st sc ≡ o → replayed_script st whole sc ≡ ended st whole ss o
ended-at st whole sc ss o e f = rw (e, f) refl

-- what was given of a rest, where a reader stands at the byte that decided a line
pub given-of : (old new : ReaderView) (left' : Option (List ℕ)) (rest : List ℕ) (n : ℕ) → StandsAt old new left' rest n
    → (given : List ℕ) × HasGiven rest left' given × (length given ≤ decided (n - old.number) rest + 4096)
given-of old new left' rest n s = (
  s.used ++ new.ahead,
  record {
    others = s.left.unread;
    whole = s.whole ∙ (ap (λ xs. s.used ++ xs) s.left.rest_is ∙ sym (append_assoc s.used new.ahead s.left.unread));
    left_is = s.left.left_is;
  },
  omega (arith, length-append s.used new.ahead, s.decides, s.few),
)

counts-same : {I O G : Type 0} (run : Played I O G) (t : Texts I O) (i : ImageTexts G) (ss : List (Step I))
    → counted_done (tallied t.is_reply (record { inputs = 0; outputs = 0; replies = 0 }) (run.trace ss)) (length ss) (run.image ss) ≡ counts_of (play_of run t i) ss
counts-same run t i ss = rw (zero-add, zero-add, zero-add) refl

module _ {R I O G : Type 0} (run : Played I O G) (follows : R → List (Step I) → Type 0) (progress : R → Progress I O) (t : Texts I O) (i : ImageTexts G) where
  module _ (v : R) (tally : Tally) (old new : ReaderView) (left left' out mid : Option (List ℕ)) (rest : List ℕ) (has : HasRest old left rest) where
    all-gone : (x : Halt) (a : Halted run follows progress t i v tally old new left left' out mid x) → a.gone ≡ run.trace a.steps
    all-gone x a = sym (ap (λ items. a.gone ++ items) a.empty ∙ append-nil a.gone) ∙ a.ran.traced

    -- the whole trace was written
    all-written : (x : Halt) (a : Halted run follows progress t i v tally old new left left' out mid x) → TraceWritten t (run.trace a.steps) out mid tally
    all-written x a = subst (λ (items : List (Item I O)). TraceWritten t items out mid tally) (all-gone x a) a.written

    pub rest-read : IsCausal run → Halted run follows progress t i v tally old new left left' out mid halt.Read
        → ComesTo (stack_whole (play_of run t i) old) (stack_so_far (play_of run t i) old) old.number rest left' out mid (Err fault.Read)
    rest-read causal a =
        let by = a.halts rest has in
        let part = by.0 in
        let before = all-written halt.Read a in
        let same = ended-at (play_of run t i) false (script old.most t.input_of (old.number + 1) old.events (whole_lines part)) a.steps None by.2.1 by.2.0 in
        record {
          given = part;
          gave = record { others = by.1.rest'; whole = by.1.whole; left_is = by.1.left_is };
          short = by.1.short;
          taken = ap (λ (r : Replayed). r.refused) same;
          written = subst (λ (r : Replayed). Gained out mid r.out) (sym same) before.written;
          front = written-front a.ran causal t i (script old.most t.input_of (old.number + 1) old.events (lines_of rest)) (a.front rest has) a.written;
        }

    pub rest-refused : (line : ℕ) (why : Why) → Halted run follows progress t i v tally old new left left' out mid (halt.Refused line why)
        → ComesTo (stack_whole (play_of run t i) old) (stack_so_far (play_of run t i) old) old.number rest left' out mid (Err (fault.Refused line why))
    rest-refused line why a =
        let by = a.halts rest has in
        let before = all-written (halt.Refused line why) a in
        let same = ended-at (play_of run t i) true (script old.most t.input_of (old.number + 1) old.events (lines_of rest)) a.steps (Some (line, why)) by.2 by.1 in
        let gave = given-of old new left' rest line by.0 in
        record {
          refused = ap (λ (r : Replayed). r.refused) same;
          written = subst (λ (r : Replayed). Gained out mid r.out) (sym same) before.written;
          given = gave.0;
          gave = gave.1;
          later = by.0.later;
          ahead = gave.2;
        }

    -- what was written is a front of what the whole rest makes, also where no image was made
    pub rest-front : IsCausal run → (x : Halt) → Halted run follows progress t i v tally old new left left' out mid x
        → GainedPrefix out mid (stack_whole (play_of run t i) old rest).out
    rest-front causal x a = written-front a.ran causal t i (script old.most t.input_of (old.number + 1) old.events (lines_of rest)) (a.front rest has) a.written

    -- the image of the steps that were taken
    module _ (shown : List G) (shows : (ss : List (Step I)) (gone : List (Item I O)) → HasRun run follows progress ss gone v → shown ≡ run.image ss) where
      image-of : (a : Halted run follows progress t i v tally old new left left' out mid halt.End) → shown ≡ run.image a.steps
      image-of a = shows a.steps a.gone a.ran

      pub rest-finishing : (out' : Option (List ℕ)) → Halted run follows progress t i v tally old new left left' out mid halt.End → GainedPrefix mid out' (image_text i.header i.line shown)
          → GainedPrefix out out' (stack_whole (play_of run t i) old rest).out
      rest-finishing out' a more =
          let by = a.halts rest has in
          let before = all-written halt.End a in
          let same = ended-at (play_of run t i) true (script old.most t.input_of (old.number + 1) old.events (lines_of rest)) a.steps None by.2 by.1 in
          let image = ap (image_text i.header i.line) (image-of a) in
          let lines = trace_lines (play_of run t i) a.steps in
          let below = image_lines (play_of run t i) a.steps in
          subst (λ (r : Replayed). GainedPrefix out out' r.out) (sym same)
          (gained-some out mid out' lines below (lines ++ below) [] (ap (λ bs. lines ++ bs) (sym (append-nil below))) before.written (subst (λ (bs : List ℕ). GainedPrefix mid out' bs) image more))

      pub rest-done : (out' : Option (List ℕ)) (done : Done) (events : ℕ) → Halted run follows progress t i v tally old new left left' out mid halt.End → Gained mid out' (image_text i.header i.line shown)
          → done ≡ counted_done tally events shown → events ≡ (progress v).taken
          → ComesTo (stack_whole (play_of run t i) old) (stack_so_far (play_of run t i) old) old.number rest left' out out' (Ok done)
      rest-done out' done events a more counts taken =
          let by = a.halts rest has in
          let before = all-written halt.End a in
          let same = ended-at (play_of run t i) true (script old.most t.input_of (old.number + 1) old.events (lines_of rest)) a.steps None by.2 by.1 in
          let image = ap (image_text i.header i.line) (image-of a) in
          let lines = trace_lines (play_of run t i) a.steps in
          let below = image_lines (play_of run t i) a.steps in
          record {
            ended = by.0;
            taken = ap (λ (r : Replayed). r.refused) same;
            counts = counts
                ∙ (ap (λ n. counted_done tally n shown) (taken ∙ a.ran.counted)
                ∙ (ap (λ (gs : List G). counted_done tally (length a.steps) gs) (image-of a)
                ∙ (ap (λ (x : Tally). counted_done x (length a.steps) (run.image a.steps)) before.counted
                ∙ (counts-same run t i a.steps ∙ ap (λ (r : Replayed). r.counts) (sym same)))));
            written = subst (λ (r : Replayed). Gained out out' r.out) (sym same) (gained-both out mid out' lines below before.written (subst (λ (bs : List ℕ). Gained mid out' bs) image more));
          }

-- a write that failed, or want of memory
pub rest-fails : (whole so_far : List ℕ → Replayed) (before : ℕ) (rest : List ℕ) (left' out out' : Option (List ℕ)) (f f' : ℕ) (found : WriteFault) → HasWriteCause f f' found → GainedPrefix out out' (whole rest).out
    → ComesTo whole so_far before rest left' out out' (Err (write_fault found))
rest-fails whole so_far before rest left' out out' f f' line.Write cause front = front
rest-fails whole so_far before rest left' out out' f f' line.Memory cause front = front

pub fails-cause : (ended : Bool) (read read' f0 f f' : ℕ) (found : WriteFault) → f0 ≤ f → HasWriteCause f f' found → HasCause ended read read' f0 f' (write_fault found)
fails-cause ended read read' f0 f f' line.Write grew cause = (omega (arith, cause, grew), λ e. cc)
fails-cause ended read read' f0 f f' line.Memory grew cause = (tt, λ e. cc)
