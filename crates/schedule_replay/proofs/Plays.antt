-- Playing the steps of a schedule one by one.
use Rattle.std.specs.Prelude.{◌≡◌, ◌⊎◌, ℕ, Bool, true, false, ◌+◌, List, [], ◌∷◌, ◌++◌, length, count_by, cond}
use Rattle.std.specs.Prelude.{Option, Some, None, Ok, refl}
use Rattle.std.specs.List.{flat_map}
use Rattle.std.proofs.Common.{inl, inr, ap, ◌∙◌, sym, subst, append_assoc, arith, length-append}
use Rattle.std.proofs.lemmas.List.{append-nil, map-append}
use Rattle.std.proofs.lemmas.List.Sums.{sum_by-append}
use Rattle.std.proofs.lemmas.Grind.{flat_map-append}
use Rattle.vst_base.specs.declared.step.Step.{Step}
use Rattle.vst_base.specs.declared.step.Item.{Item}
use Rattle.outside.specs.Wholes.{Gained, GainedPrefix}
use Rattle.outside.proofs.Wholes.{gained-both, gained-front, gained-some, gained-nothing}
use Rattle.line_reader.specs.declared.why.Why.{Why}
use Rattle.line_reader.specs.Lines.{lines_of, whole_lines}
use Rattle.line_reader.specs.Readers.{ReaderView, HasRest}
use Rattle.line_reader.specs.Outcomes.{Uses, StandsAt}
use Rattle.line_reader.proofs.Lining.{whole-append}
use Rattle.line_reader.proofs.Using.{uses-none, uses-more, lines-more, stands-after, breaks-after}
use Rattle.schedule_text.specs.Printing.{as_line, item_text, trace_text}
use Rattle.schedule_text.specs.Schedules.{Script, script, no_steps, with_step}
use Rattle.schedule_text.specs.Streams.{ReadsStep}
use Rattle.schedule_text.proofs.ScheduleLaws.{prefixed, script-after}
use Rattle.xform_stack.specs.Running.{HasRun, Progress}
use Rattle.xform_stack.specs.RunningLaws.{has_run-forget}
use Rattle.xform_stack.specs.SystemLaws.{IsCausal}
use Rattle.xform_stack.specs.Systems.{Played}
use Rattle.schedule_replay.specs.declared.halt.Halt.{Halt}
use Rattle.schedule_replay.specs.declared.halt.Halt.TheVariants as halt
use Rattle.schedule_replay.specs.declared.tally.Tally.{Tally}
use Rattle.stacks.specs.Plays.{ImageTexts, Play, Texts, play_of}
use Rattle.schedule_replay.specs.Tallying.{tallied}
use Rattle.schedule_replay.specs.Replaying.{is_input, is_output, is_reply_by, why_of, stop, taken}
use Rattle.schedule_replay.specs.Replaying.{trace_lines, image_lines, ended, replayed_script}
use Rattle.schedule_replay.specs.Playing.{TraceWritten, TookStep, HaltsBy, Halted, Waits, Writes}
use Rattle.schedule_replay.proofs.Scripts.{all-taken, refused-after, taken-front, unnumbered}

-- where the reading of a schedule stands, and the writing of what comes of it
pub record Standing (R : Type 0) : Type 0 where
  pub running : R
  pub tally : Tally
  pub reader : ReaderView
  pub left : Option (List ℕ)
  pub written : Option (List ℕ)

-- what lines say after where a reader stands
abbrev pub script_from : {I : Type 0} → (List ℕ → Option I) → ReaderView → List (List ℕ) → Script I
script_from f r ls = script r.most f (r.number + 1) r.events ls

abbrev pub text_of : {I O : Type 0} → Texts I O → List (Item I O) → List ℕ
text_of t items = trace_text t.input_text t.output_text items

-- the lines that were used of a rest say these steps
pub record Reads {I : Type 0} (f : List ℕ → Option I) (old now : ReaderView) (left' : Option (List ℕ)) (rest : List ℕ)
    (steps : List (ℕ × Step I)) : Type 0 where
  pub used : List ℕ
  pub uses : Uses old now left' rest used
  pub says : script_from f old (lines_of used) ≡ record { steps = steps; fault = None }
  pub events : now.events ≡ old.events + length steps
  pub most : now.most ≡ old.most

-- steps were taken, the part of their trace that was cleared was written, and the lines so far say them
pub record HasPlayed {R I O G : Type 0} (run : Played I O G) (follows : R → List (Step I) → Type 0) (progress : R → Progress I O)
    (t : Texts I O) (old now : Standing R) : Type 0 where
  pub steps : List (ℕ × Step I)
  pub gone : List (Item I O)
  pub ran : HasRun run follows progress (unnumbered steps) gone now.running
  pub written : TraceWritten t gone old.written now.written now.tally
  pub reads : (rest : List ℕ) → HasRest old.reader old.left rest → Reads t.input_of old.reader now.reader now.left rest steps

-- how a replay's text begins
module _ {I O G : Type 0} (st : Play I O G) where
  ended-front : (ss : List (Step I)) (o : Option (ℕ × Why)) → (more : List ℕ) × ((ended st true ss o).out ≡ trace_lines st ss ++ more)
  ended-front ss (Some y) = ([], sym (append-nil (trace_lines st ss)))
  ended-front ss None = (image_lines st ss, refl)

trace-front : {I O G : Type 0} (run : Played I O G) (causal : IsCausal run) (t : Texts I O) (i : ImageTexts G) (ss ts : List (Step I))
    → (more : List ℕ) × (trace_lines (play_of run t i) (ss ++ ts) ≡ trace_lines (play_of run t i) ss ++ more)
trace-front {I = I} {O = O} run causal t i ss ts =
    let f = λ (x : Item I O). as_line (item_text t.input_text t.output_text x) in
    let more = causal.trace ss ts in
    (flat_map f more.0, ap (λ xs. flat_map f xs) more.1 ∙ flat_map-append f (run.trace ss) more.0)

count-append : {X : Type 0} (p : X → Bool) (xs ys : List X) → count_by p (xs ++ ys) ≡ count_by p xs + count_by p ys
count-append p xs ys = sum_by-append (λ x. cond (p x) 1 0) xs ys

text-append : {I O : Type 0} (t : Texts I O) (xs ys : List (Item I O)) → text_of t (xs ++ ys) ≡ text_of t xs ++ text_of t ys
text-append t xs ys = flat_map-append (λ x. as_line (item_text t.input_text t.output_text x)) xs ys

tallied-append : {I O : Type 0} (is_reply : O → Bool) (n : Tally) (xs ys : List (Item I O))
    → tallied is_reply (tallied is_reply n xs) ys ≡ tallied is_reply n (xs ++ ys)
tallied-append is_reply n xs ys =
    let ins : (n.inputs + count_by is_input xs) + count_by is_input ys ≡ n.inputs + count_by is_input (xs ++ ys) =
    omega (arith, count-append is_input xs ys) in
    let outs : (n.outputs + count_by is_output xs) + count_by is_output ys ≡ n.outputs + count_by is_output (xs ++ ys) =
    omega (arith, count-append is_output xs ys) in
    let by = is_reply_by is_reply in
    let replies : (n.replies + count_by by xs) + count_by by ys ≡ n.replies + count_by by (xs ++ ys) =
    omega (arith, count-append by xs ys) in
    rw (ins, outs, replies) refl

-- what clients saw was written
module _ {R I O : Type 0} {follows : R → List (Step I) → Type 0} {progress : R → Progress I O} {t : Texts I O} where
  written-more : {v u : R} {gone : List (Item I O)} {tally tally' : Tally} {out mid out' : Option (List ℕ)}
      → TraceWritten t gone out mid tally → Writes follows progress t v u tally tally' mid out'
      → TraceWritten t (gone ++ (progress v).trace) out out' tally'
  written-more {v} {gone = gone} {out = out} {mid} {out'} before w =
      let items = (progress v).trace in
      record {
        written = subst (λ (bs : List ℕ). Gained out out' bs) (sym (text-append t gone items))
            (gained-both out mid out' (text_of t gone) (text_of t items) before.written w.written);
        counted = w.counted ∙ (ap (λ (x : Tally). tallied t.is_reply x items) before.counted
            ∙ tallied-append t.is_reply (record { inputs = 0; outputs = 0; replies = 0 }) gone items);
      }

  -- of no trace there is nothing to write
  pub writes-nothing : {v : R} {tally : Tally} {out : Option (List ℕ)} → (progress v).trace ≡ []
      → Writes follows progress t v v tally tally out out
  writes-nothing {v} {tally} {out} none =
      let ins : tally.inputs + 0 ≡ tally.inputs = omega arith in
      let outs : tally.outputs + 0 ≡ tally.outputs = omega arith in
      let replies : tally.replies + 0 ≡ tally.replies = omega arith in
      record {
        written = rw none (gained-nothing out);
        forgets = ap (λ (xs : List (Item I O)). record (progress v) { trace = xs }) none;
        stays = λ ss had. had;
        counted = rw (none, ins, outs, replies) refl;
      }

module _ {R I O G : Type 0} {run : Played I O G} {follows : R → List (Step I) → Type 0} {progress : R → Progress I O}
    {t : Texts I O} where
  run-written : {ss : List (Step I)} {gone : List (Item I O)} {v u : R} {tally tally' : Tally} {out out' : Option (List ℕ)}
      → HasRun run follows progress ss gone v → Writes follows progress t v u tally tally' out out'
      → HasRun run follows progress ss (gone ++ (progress v).trace) u
  run-written {ss} {gone} {v} {u} ran w = has_run-forget run follows progress ss gone v u w.forgets (w.stays ss ran.followed) ran

  -- before the first step
  pub played-start : {a : Standing R} → HasRun run follows progress [] [] a.running
      → a.tally ≡ record { inputs = 0; outputs = 0; replies = 0 } → HasPlayed run follows progress t a a
  played-start {a} ran is = record {
    steps = [];
    gone = [];
    ran = ran;
    written = record { written = gained-nothing a.written; counted = is };
    reads = λ rest has. record { used = []; uses = uses-none a.reader a.left rest has; says = refl; events = omega arith; most = refl };
  }

  -- once what clients saw was written, or waits while a line is at hand
  pub played-before-reading : {a b : Standing R} {u : R} {tally' : Tally} {out' : Option (List ℕ)} → HasPlayed run follows progress t a b
      → Waits b.reader b.running u b.tally tally' b.written out' ⊎ Writes follows progress t b.running u b.tally tally' b.written out'
      → HasPlayed run follows progress t a (record b { running = u; tally = tally'; written = out' })
  played-before-reading p (inl w) = rw (w.same, w.counts, w.nothing) p
  played-before-reading {b = b} p (inr w) = record {
    steps = p.steps;
    gone = p.gone ++ (progress b.running).trace;
    ran = run-written p.ran w;
    written = written-more p.written w;
    reads = p.reads;
  }

-- what lines say after those that were used
module _ {I : Type 0} {f : List ℕ → Option I} {old now : ReaderView} {left' : Option (List ℕ)} {rest : List ℕ} {steps : List (ℕ × Step I)}
    (r : Reads f old now left' rest steps) where
  script-moved : (done : List (ℕ × Step I)) (n e : ℕ) (ls : List (List ℕ)) → done ≡ steps → n ≡ now.number + 1 → e ≡ now.events
      → prefixed done (script old.most f n e ls) ≡ prefixed steps (script_from f now ls)
  script-moved done n e ls same there counted = let most = r.most in rw (same, there, counted, most) refl

  script-on : (ls : List (List ℕ)) → script_from f old (lines_of r.used ++ ls) ≡ prefixed steps (script_from f now ls)
  script-on ls =
      let before = script_from f old (lines_of r.used) in
      let none : before.fault ≡ None = ap (λ (sc : Script I). sc.fault) r.says in
      let done : before.steps ≡ steps = ap (λ (sc : Script I). sc.steps) r.says in
      script-after old.most f (old.number + 1) old.events (lines_of r.used) ls none
      ∙ script-moved before.steps ((old.number + 1) + length (lines_of r.used)) (old.events + length before.steps) ls done
      (omega (arith, r.uses.number)) (omega (arith, r.events, ap length done))

  -- where the lines that follow say no step
  script-stops : (fault : Option (ℕ × Why)) (ls : List (List ℕ)) → script_from f now ls ≡ record { steps = []; fault = fault }
      → script_from f old (lines_of r.used ++ ls) ≡ record { steps = steps; fault = fault }
  script-stops fault ls is =
      script-on ls ∙ (ap (prefixed steps) is ∙ ap (λ (done : List (ℕ × Step I)). record { steps = done; fault = fault }) (append-nil steps))

  -- what the whole rest says
  script-rest : script_from f old (lines_of rest) ≡ prefixed steps (script_from f now (lines_of r.uses.rest'))
  script-rest = ap (script_from f old) r.uses.lines ∙ script-on (lines_of r.uses.rest')

  rest-stops : (fault : Option (ℕ × Why)) → script_from f now (lines_of r.uses.rest') ≡ record { steps = []; fault = fault }
      → script_from f old (lines_of rest) ≡ record { steps = steps; fault = fault }
  rest-stops fault is = ap (script_from f old) r.uses.lines ∙ script-stops fault (lines_of r.uses.rest') is

  -- the whole lines of a part that a failed read broke off
  pub part-stops : (part : List ℕ) → now.ended ≡ false → script_from f now (whole_lines part) ≡ no_steps
      → script_from f old (whole_lines (r.used ++ part)) ≡ record { steps = steps; fault = None }
  part-stops part going is =
      ap (script_from f old) (whole-append r.used part (r.uses.closed going)) ∙ script-stops None (whole_lines part) is

  module _ (new : ReaderView) (after : Option (List ℕ)) (s : Step I) (read : ReadsStep f now new after r.uses.rest' (Ok s)) where
    -- one more step was read
    reads-more : new.events ≡ now.events + 1 → new.most ≡ now.most → Reads f old new after rest (steps ++ (new.number, s) ∷ [])
    reads-more counted most = record {
      used = r.used ++ read.0;
      uses = uses-more old now new left' after rest r.used read.0 r.uses read.1;
      says = ap (script_from f old) (lines-more old now new left' after rest r.used read.0 r.uses read.1)
          ∙ (script-on (lines_of read.0) ∙ ap (prefixed steps) read.3);
      events = omega (arith, counted, r.events, length-append steps ((new.number, s) ∷ []));
      most = most ∙ r.most;
    }

    -- it stands ahead in the rest
    step-ahead : (tail : Script I) × (script_from f old (lines_of rest) ≡ prefixed steps (with_step new.number s tail))
    step-ahead =
        let ls = lines_of read.0 in
        let ms = lines_of read.1.rest' in
        let first = script_from f now ls in
        let none : first.fault ≡ None = ap (λ (sc : Script I). sc.fault) read.3 in
        let tail = script now.most f ((now.number + 1) + length ls) (now.events + length first.steps) ms in (
          tail,
          script-rest ∙ ap (prefixed steps) (ap (script_from f now) read.1.lines
              ∙ (script-after now.most f (now.number + 1) now.events ls ms none
              ∙ ap (λ (done : List (ℕ × Step I)). prefixed done tail) (ap (λ (sc : Script I). sc.steps) read.3))),
        )

pub nothing-left : (new : ReaderView) (left : Option (List ℕ)) → HasRest new left [] → left ≡ Some []
nothing-left new left has = has.left_is ∙ ap Some (nothing-after new.ahead has.unread (sym has.rest_is)) where
  nothing-after : (xs ys : List ℕ) → xs ++ ys ≡ [] → ys ≡ []
  nothing-after [] ys e = e
  nothing-after (x ∷ xs) ys e = cc

-- after the steps that were played
module _ {R I O G : Type 0} {run : Played I O G} {follows : R → List (Step I) → Type 0} {progress : R → Progress I O}
    {t : Texts I O} {a b : Standing R} (p : HasPlayed run follows progress t a b) where
  -- one more was read and taken, or there is none, or it is refused
  abbrev pub Took : R → ReaderView → Option (List ℕ) → Option Halt → Type 0
  Took u new after x = TookStep run follows progress t.input_of u (unnumbered p.steps) p.gone b.reader new b.left after x

  pub played-more : {u : R} {new : ReaderView} {after : Option (List ℕ)} → Took u new after None → new.events ≡ b.reader.events + 1
      → new.most ≡ b.reader.most → HasPlayed run follows progress t a (record b { running = u; reader = new; left = after })
  played-more {u} {new} {after} (s, ran, reads) counted most = record {
    steps = p.steps ++ (new.number, s) ∷ [];
    gone = p.gone;
    ran = subst (λ (ss : List (Step I)). HasRun run follows progress ss p.gone u)
        (sym (map-append (λ (q : ℕ × Step I). q.1) p.steps ((new.number, s) ∷ []))) ran;
    written = p.written;
    reads = λ rest has.
        let r = p.reads rest has in
        reads-more r new after s (reads r.uses.rest' r.uses.left) counted most;
  }

  module _ (causal : IsCausal run) (i : ImageTexts G) where
    -- they are the first that are taken of the whole rest
    front : (rest : List ℕ) → HasRest a.reader a.left rest
        → (more : List (Step I)) × (taken (play_of run t i) (script_from t.input_of a.reader (lines_of rest)) ≡ unnumbered p.steps ++ more)
    front rest has =
        let r = p.reads rest has in
        taken-front run p.steps p.ran.allowed causal
        (script_from t.input_of b.reader (lines_of r.uses.rest')) (script_from t.input_of a.reader (lines_of rest)) (script-rest r)

    -- they are all that are taken of a script that says no others
    stops : (fault : Option (ℕ × Why)) (sc : Script I) → sc ≡ record { steps = p.steps; fault = fault }
        → (stop (play_of run t i) sc ≡ fault) × (taken (play_of run t i) sc ≡ unnumbered p.steps)
    stops fault sc is = all-taken run p.steps p.ran.allowed fault sc is

    -- where the steps end
    module _ (u : R) (new : ReaderView) (after : Option (List ℕ)) where
      halts-by : (x : Halt) → Took u new after (Some x) → (rest : List ℕ) → HasRest a.reader a.left rest
          → HaltsBy (play_of run t i) (unnumbered p.steps) a.reader new after rest x
      halts-by halt.End (same, reads) rest has =
          let r = p.reads rest has in
          let read = reads r.uses.rest' r.uses.left in
          let both = stops None (script_from t.input_of a.reader (lines_of rest)) (rest-stops r None read.1) in
          (nothing-left new after read.0.left, both.0, both.1)
      halts-by halt.Read (same, reads, going) rest has =
          let r = p.reads rest has in
          let read = reads r.uses.rest' r.uses.left in
          let part = r.used ++ read.0 in
          let both = stops None (script_from t.input_of a.reader (whole_lines part)) (part-stops r read.0 going read.2) in
          (part, breaks-after a.reader b.reader b.left after rest r.used read.0 r.uses (r.uses.closed going) read.1, both)
      halts-by (halt.Refused number w) (same, reads) rest has =
          let r = p.reads rest has in
          let sc = script_from t.input_of a.reader (lines_of rest) in
          elim (reads r.uses.rest' r.uses.left) [
            | inl read ↦
                let both = stops (Some (number, w)) sc (rest-stops r (Some (number, w)) read.1) in
                (stands-after a.reader b.reader new b.left after rest r.used number r.uses read.0, both.0, both.1)
            | inr found ↦
                let s = found.0 in
                let read = found.2 in
                let ahead = step-ahead r new after s read in
                let both = refused-after run p.steps p.ran.allowed causal new.number s ahead.0 sc found.1 ahead.1 found.4 in
                let stands = subst (λ (n : ℕ). StandsAt b.reader new after r.uses.rest' n) (sym found.3) read.2 in (
                  stands-after a.reader b.reader new b.left after rest r.used number r.uses stands,
                  both.0 ∙ (ap (λ n. Some (n, why_of found.1)) (sym found.3) ∙ ap (λ x. Some (number, x)) (sym found.5)),
                  both.1,
                )
          ]

      ran-at : (x : Halt) → Took u new after (Some x) → HasRun run follows progress (unnumbered p.steps) p.gone u
      ran-at halt.End took = took.0
      ran-at halt.Read took = took.0
      ran-at (halt.Refused number w) took = took.0

    -- and what clients saw last was written
    pub played-halts : {u z : R} {tally' : Tally} {new : ReaderView} {after out' : Option (List ℕ)} {x : Halt}
        → Took u new after (Some x) → Writes follows progress t u z b.tally tally' b.written out'
        → Halted run follows progress t i z tally' a.reader new a.left after a.written out' x
    played-halts {u} {new = new} {after = after} {x = x} took w =
        let ran = ran-at u new after x took in
        record {
          steps = unnumbered p.steps;
          gone = p.gone ++ (progress u).trace;
          ran = run-written ran w;
          empty = ap (λ (d : Progress I O). d.trace) w.forgets;
          written = written-more p.written w;
          halts = halts-by u new after x took;
          front = front;
        }

-- what was written is a front of what the whole rest makes
module _ {R I O G : Type 0} {run : Played I O G} {follows : R → List (Step I) → Type 0} {progress : R → Progress I O} {v : R}
    {steps : List (Step I)} {gone : List (Item I O)} (ran : HasRun run follows progress steps gone v) (causal : IsCausal run) (t : Texts I O) (i : ImageTexts G)
    (sc : Script I) (front : (more : List (Step I)) × (taken (play_of run t i) sc ≡ steps ++ more)) where
  text-front : (more : List ℕ)
      × ((replayed_script (play_of run t i) true sc).out ≡ text_of t gone ++ (text_of t (progress v).trace ++ more))
  text-front =
      let st = play_of run t i in
      let a = ended-front st (taken st sc) (stop st sc) in
      let b = trace-front run causal t i steps front.0 in
      let seen = text_of t (progress v).trace in
      let lines : trace_lines st steps ≡ text_of t gone ++ seen =
      ap (text_of t) (sym ran.traced) ∙ text-append t gone (progress v).trace in (
        b.0 ++ a.0,
        a.1 ∙ (ap (λ ss. trace_lines st ss ++ a.0) front.1 ∙ (ap (λ xs. xs ++ a.0) b.1 ∙ (append_assoc (trace_lines st steps) b.0 a.0
            ∙ (ap (λ xs. xs ++ (b.0 ++ a.0)) lines ∙ append_assoc (text_of t gone) seen (b.0 ++ a.0))))),
      )

  pub written-front : {out out' : Option (List ℕ)} {tally : Tally} → TraceWritten t gone out out' tally
      → GainedPrefix out out' (replayed_script (play_of run t i) true sc).out
  written-front {out} {out'} before =
      gained-front out out' (text_of t gone) (text_of t (progress v).trace ++ text-front.0) _ text-front.1 before.written

  -- also while what clients saw last is written
  writing-front : {out mid : Option (List ℕ)} {tally : Tally} (out' : Option (List ℕ)) → TraceWritten t gone out mid tally
      → GainedPrefix mid out' (text_of t (progress v).trace) → GainedPrefix out out' (replayed_script (play_of run t i) true sc).out
  writing-front {out} {mid} out' before more =
      gained-some out mid out' (text_of t gone) (text_of t (progress v).trace) _ text-front.0 text-front.1 before.written more

module _ {R I O G : Type 0} {run : Played I O G} {follows : R → List (Step I) → Type 0} {progress : R → Progress I O}
    {t : Texts I O} {a b : Standing R} (p : HasPlayed run follows progress t a b) (causal : IsCausal run) (i : ImageTexts G)
    (rest : List ℕ) (has : HasRest a.reader a.left rest) where
  abbrev whole : Script I
  whole = script_from t.input_of a.reader (lines_of rest)

  pub played-front : GainedPrefix a.written b.written (replayed_script (play_of run t i) true whole).out
  played-front = written-front p.ran causal t i whole (front p causal i rest has) p.written

  pub playing-front : (out' : Option (List ℕ)) → GainedPrefix b.written out' (text_of t (progress b.running).trace)
      → GainedPrefix a.written out' (replayed_script (play_of run t i) true whole).out
  playing-front out' more = writing-front p.ran causal t i whole (front p causal i rest has) out' p.written more
