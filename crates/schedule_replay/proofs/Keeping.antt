-- That a replay keeps up with what it is given: it has written the trace of all but the last bytes.
use Rattle.std.specs.Prelude.{◌≡◌, ◌⊎◌, ℕ, Bool, true, false, ◌≤◌, List, [], ◌∷◌, ◌++◌, length, take, Option, Some, None, refl}
use Rattle.std.proofs.Common.{inl, inr, ap, ◌∙◌, sym, subst, append_assoc}
use Rattle.std.proofs.lemmas.List.{append-nil}
use Rattle.vst_base.specs.declared.step.Item.{Item}
use Rattle.vst_base.specs.declared.step.Step.{Step}
use Rattle.outside.specs.Wholes.{Gained, GainedPrefix}
use Rattle.outside.proofs.Wholes.{gained-both, gained-nothing}
use Rattle.line_reader.specs.Lines.{whole_lines}
use Rattle.line_reader.specs.Readers.{ReaderView, HasRest}
use Rattle.line_reader.specs.Outcomes.{ReadsPast}
use Rattle.schedule_text.specs.Streams.{StepIsNear}
use Rattle.schedule_text.proofs.Skipping.{past-after}
use Rattle.xform_stack.specs.Running.{Progress}
use Rattle.xform_stack.specs.Systems.{Played}
use Rattle.stacks.specs.Plays.{ImageTexts, Texts, play_of}
use Rattle.schedule_replay.specs.declared.tally.Tally.{Tally}
use Rattle.schedule_replay.specs.Outcomes.{KeptUp}
use Rattle.schedule_replay.specs.Playing.{Waits, Writes}
use Rattle.schedule_replay.specs.Replaying.{Replayed, ended, stop_at, taken_at, trace_lines}
use Rattle.schedule_replay.specs.Rests.{stack_so_far}
use Rattle.schedule_replay.proofs.Endings.{ended-at}
use Rattle.schedule_replay.proofs.Plays.{HasPlayed, Standing, nothing-left, part-stops, script_from, text_of}
use Rattle.schedule_replay.proofs.Scripts.{all-taken, unnumbered}

-- of a front so many bytes were gained
front-bytes : (mid new : Option (List ℕ)) (text : List ℕ) → GainedPrefix mid new text → (n : ℕ) × Gained mid new (take n text)
front-bytes None new text front = (0, tt)
front-bytes (Some held) new text front = front

module _ {so_far : List ℕ → Replayed} {rest : List ℕ} {left' out mid : Option (List ℕ)} (kept : KeptUp so_far rest left' out mid) where
  -- the sink gained more
  pub kept-more : (new : Option (List ℕ)) (text : List ℕ) → Gained mid new text → KeptUp so_far rest left' out new
  kept-more new text gained = record {
    early = kept.early;
    past = kept.past;
    more = kept.more ++ text;
    written = subst (λ (bs : List ℕ). Gained out new bs) (append_assoc (so_far kept.early).out kept.more text)
        (gained-both out mid new ((so_far kept.early).out ++ kept.more) text kept.written gained);
  }

  pub kept-front : (new : Option (List ℕ)) (text : List ℕ) → GainedPrefix mid new text → KeptUp so_far rest left' out new
  kept-front new text front = let some = front-bytes mid new text front in kept-more new (take some.0 text) some.1

  -- also before the source is read again
  pub kept-before-reading : {R I O : Type 0} {follows : R → List (Step I) → Type 0} {progress : R → Progress I O} {t : Texts I O} {r : ReaderView}
      {v u : R} {tally tally' : Tally} {new : Option (List ℕ)} → Waits r v u tally tally' mid new ⊎ Writes follows progress t v u tally tally' mid new
      → KeptUp so_far rest left' out new
  kept-before-reading (inl w) = subst (λ (o : Option (List ℕ)). KeptUp so_far rest left' out o) (sym w.nothing) kept
  kept-before-reading {progress = progress} {t = t} {v = v} {new = new} (inr w) = kept-more new (text_of t (progress v).trace) w.written

-- before a step of the rest was taken
pub kept-start : {I O G : Type 0} (run : Played I O G) (none : run.refused [] ≡ None) (nothing : run.trace [] ≡ []) (t : Texts I O)
    (i : ImageTexts G) (r : ReaderView) (left out : Option (List ℕ)) (rest : List ℕ) → HasRest r left rest → length r.ahead ≤ 4096 → KeptUp (stack_so_far (play_of run t i) r) rest left out out
kept-start run none nothing t i r left out rest has few =
    let st = play_of run t i in
    let sc = script_from t.input_of r [] in
    let same = ended-at st false sc [] None (ap (taken_at sc) none) (ap (stop_at sc) none) in
    let empty : (stack_so_far st r []).out ≡ [] = ap (λ (x : Replayed). x.out) same ∙ ap (text_of t) nothing in
    record {
      early = [];
      past = record { late = r.ahead; others = has.unread; left_is = has.left_is; whole = has.rest_is; few = few };
      more = [];
      written = subst (λ (bs : List ℕ). Gained out out (bs ++ [])) (sym empty) (gained-nothing out);
    }

-- where the end was met nothing more is read
no-others : (xs ys zs : List ℕ) → xs ++ (ys ++ zs) ≡ [] → zs ≡ []
no-others [] [] zs e = e
no-others [] (y ∷ ys) zs e = cc
no-others (x ∷ xs) ys zs e = cc

pub past-end : (left' : Option (List ℕ)) (rest early : List ℕ) → ReadsPast left' rest early → rest ≡ [] → left' ≡ Some []
past-end left' rest early past none =
    past.left_is ∙ ap Some (no-others early past.late past.others (sym past.whole ∙ none))

module _ {R I O G : Type 0} {run : Played I O G} {follows : R → List (Step I) → Type 0} {progress : R → Progress I O}
    {t : Texts I O} {a b : Standing R} (p : HasPlayed run follows progress t a b) (i : ImageTexts G) (rest : List ℕ) (has : HasRest a.reader a.left rest)
    (after : Option (List ℕ)) (near : (later : List ℕ) → HasRest b.reader b.left later → StepIsNear t.input_of b.reader after later) where
  -- the whole trace was written, and then a step was read, or none
  kept-past : (progress b.running).trace ≡ [] → b.reader.ended ≡ false → KeptUp (stack_so_far (play_of run t i) a.reader) rest after a.written b.written
  kept-past none going =
      let st = play_of run t i in
      let r = p.reads rest has in
      let n = near r.uses.rest' r.uses.left in
      let early = r.used ++ n.0 in
      let sc = script_from t.input_of a.reader (whole_lines early) in
      let ss = unnumbered p.steps in
      let both = all-taken run p.steps p.ran.allowed None sc (part-stops r n.0 going n.2) in
      let same = ended-at st false sc ss None both.1 both.0 in
      let all : p.gone ≡ st.trace ss = sym (ap (λ (items : List (Item I O)). p.gone ++ items) none ∙ append-nil p.gone) ∙ p.ran.traced in
      let text : text_of t p.gone ≡ (ended st false ss None).out ++ [] = ap (text_of t) all ∙ sym (append-nil (trace_lines st ss)) in
      record {
        early = early;
        past = past-after a.reader b.reader b.left after rest r.used n.0 r.uses n.1;
        more = [];
        written = subst (λ (x : Replayed). Gained a.written b.written (x.out ++ [])) (sym same)
            (subst (λ (bs : List ℕ). Gained a.written b.written bs) text p.written.written);
      }

  -- the same where nothing more was given
  kept-still : after ≡ b.left → KeptUp (stack_so_far (play_of run t i) a.reader) rest b.left a.written b.written
      → KeptUp (stack_so_far (play_of run t i) a.reader) rest after a.written b.written
  kept-still same kept = subst (λ (left : Option (List ℕ)). KeptUp (stack_so_far (play_of run t i) a.reader) rest left a.written b.written) (sym same) kept

  -- whether the end was met before
  kept-by : (over : Bool) → b.reader.ended ≡ over → (progress b.running).trace ≡ [] → KeptUp (stack_so_far (play_of run t i) a.reader) rest b.left a.written b.written
      → KeptUp (stack_so_far (play_of run t i) a.reader) rest after a.written b.written
  kept-by false going none kept = kept-past none going
  kept-by true over none kept =
      let r = p.reads rest has in
      let empty = r.uses.left.at_end over in
      let n = near r.uses.rest' r.uses.left in
      let left = nothing-left b.reader b.left (subst (λ (xs : List ℕ). HasRest b.reader b.left xs) empty r.uses.left) in
      kept-still (past-end after r.uses.rest' n.0 n.1 empty ∙ sym left) kept

  -- whatever was read of a step, where the trace was written before or nothing was read
  pub kept-step : (after ≡ b.left) ⊎ ((progress b.running).trace ≡ []) → KeptUp (stack_so_far (play_of run t i) a.reader) rest b.left a.written b.written
      → KeptUp (stack_so_far (play_of run t i) a.reader) rest after a.written b.written
  kept-step (inl same) kept = kept-still same kept
  kept-step (inr none) kept = kept-by b.reader.ended refl none kept
