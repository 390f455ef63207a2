-- What a line that was read after skipped ones makes of the header, or of the next step.
use Rattle.std.specs.Prelude.{◌≡◌, ℕ, Bool, true, false, ◌+◌, ◌<◌, ◌≤◌, nat_le, List, [], ◌∷◌, ◌++◌, length, Option, Some, None, Result, Ok, Err, cond, refl}
use Rattle.std.specs.Result.{result_ok}
use Rattle.std.proofs.Common.{ap, ◌∙◌, sym, subst, arith, not}
use Rattle.std.proofs.lemmas.Bool.Decides.{nat_tests}
use Rattle.std.proofs.lemmas.List.{append-nil}
use Rattle.vst_base.specs.Firsts.{first_of}
use Rattle.vst_base.specs.declared.step.Step.{Step}
use Rattle.line_reader.specs.declared.why.Why.{Why}
use Rattle.line_reader.specs.declared.why.Why.TheVariants as why
use Rattle.line_reader.specs.declared.read_fault.ReadFault.{ReadFault}
use Rattle.line_reader.specs.declared.read_fault.ReadFault.TheVariants as fault
use Rattle.line_reader.specs.Lines.{lines_of}
use Rattle.line_reader.specs.Whys.{line_refusals}
use Rattle.line_reader.specs.Readers.{ReaderView, HasRest}
use Rattle.line_reader.specs.Outcomes.{LineIsNear, Uses, StandsAt, ReadsLine, HasReadCause}
use Rattle.line_reader.proofs.Using.{uses-more, stands-after, stands-at-end, breaks-after}
use Rattle.schedule_text.specs.declared.header.Header.{Header}
use Rattle.schedule_text.specs.declared.line.Line.{Line}
use Rattle.schedule_text.specs.declared.line.Line.TheVariants as line
use Rattle.schedule_text.specs.declared.said.Said.{Said}
use Rattle.schedule_text.specs.declared.text_faults.TextFault.{TextFault}
use Rattle.schedule_text.specs.declared.text_faults.TextFault.TheVariants as text
use Rattle.schedule_text.specs.Reading.{is_skipped, is_told, and_then, line_of, line_says, said_of, step_of, step_or_refusal, step_said}
use Rattle.schedule_text.specs.Headers.{header_of}
use Rattle.schedule_text.specs.Schedules.{EndedAt, Opened, opened, opening, opening_refusal, script, script_line, no_steps, with_step, refused_script}
use Rattle.schedule_text.specs.Streams.{HasHeaderCause, HeaderIsNear, ReadsHeader, ReadsStep, StepIsNear, text_fault}
use Rattle.schedule_text.proofs.ScheduleLaws.{opening-front, opening-skips, opening-reads, opening-refuses, script-front, line-refused, line-said, script-by}
use Rattle.schedule_text.proofs.Skipping.{Skipped, goes-on, near-after, skipped-more, of-rest, of-part}

-- the cause of a header's fault is that of the line's
pub header-cause : (old : ReaderView) (n f f' : ℕ) (found : ReadFault) → HasReadCause old f f' found → HasHeaderCause old f f' (text_fault n found)
header-cause old n f f' fault.Read cause = cause
header-cause old n f f' fault.End cause = tt
header-cause old n f f' fault.Memory cause = tt
header-cause old n f f' (fault.Refused m w) cause = tt

-- it is a failed read where the line's is
pub header-other : (n : ℕ) (found : ReadFault) → (◌≡◌ {A = TextFault} (text_fault n found) text.Read → ⊥) → ◌≡◌ {A = ReadFault} found fault.Read → ⊥
header-other n found other is = other (ap (text_fault n) is)

-- a cause that was there before the last line is there still
pub cause-before : (old mid : ReaderView) (f0 f f' : ℕ) (why : ReadFault) → (old.ended ≡ true → mid.ended ≡ true) → f0 ≤ f → HasReadCause mid f f' why → HasReadCause old f0 f' why
cause-before old mid f0 f f' fault.Read stays grew cause = (omega (arith, cause.0, grew), by old.ended stays cause.1) where
  by : (t : Bool) → (t ≡ true → mid.ended ≡ true) → mid.ended ≡ false → t ≡ false
  by true h e = let both : ◌≡◌ {A = Bool} true false = sym (h refl) ∙ e in both
  by false h e = refl
cause-before old mid f0 f f' fault.End stays grew cause = tt
cause-before old mid f0 f f' fault.Memory stays grew cause = tt
cause-before old mid f0 f f' (fault.Refused n w) stays grew cause = tt

-- what was read past lines that were skipped, before the header and before a step
pub near-header : (old mid : ReaderView) (left left' : Option (List ℕ)) (rest : List ℕ) (s : Skipped (opening old.most) old mid left rest)
    → LineIsNear left' s.uses.rest' → HeaderIsNear old left' rest
near-header old mid left left' rest s near =
    let there = near-after (opening old.most) (λ o. (k : ℕ) × (o ≡ EndedAt k)) (λ n. (n, refl)) (opening-front old.most) old mid left left' rest s near in
    (there.0, there.1, there.2.0, there.2.1)

pub near-step : {I : Type 0} (f : List ℕ → Option I) (old mid : ReaderView) (left left' : Option (List ℕ)) (rest : List ℕ)
    (s : Skipped (λ n ls. script old.most f n old.events ls) old mid left rest) → LineIsNear left' s.uses.rest' → StepIsNear f old left' rest
near-step f old mid left left' rest s near =
    near-after (λ n ls. script old.most f n old.events ls) (λ sc. sc ≡ no_steps) (λ n. refl) (λ n ls ms is. script-front old.most f n old.events ls ms is)
    old mid left left' rest s near

module _ (old mid new : ReaderView) (left left' : Option (List ℕ)) (rest : List ℕ) (most : mid.most ≡ old.most) where
  -- what is known of a line that was read: its number, and that it is allowed
  next-number : (r used : List ℕ) (l : List ℕ) → Uses mid new left' r used → lines_of used ≡ l ∷ [] → new.number ≡ mid.number + 1
  next-number r used l u one = u.number ∙ ap (λ ls. mid.number + length ls) one

  allowed-there : (most' n : ℕ) (l : List ℕ) → most' ≡ old.most → n ≡ mid.number + 1 → first_of (line_refusals most' n l) ≡ None → first_of (line_refusals old.most (mid.number + 1) l) ≡ None
  allowed-there most' n l same there is = ap (λ k. first_of (line_refusals old.most k l)) (sym there) ∙ (ap (λ m. first_of (line_refusals m n l)) (sym same) ∙ is)

  module _ (s : Skipped (opening old.most) old mid left rest) where
    pub header-failed : (A : Type 0) (found : ReadFault) (f f' : ℕ) → new.number ≡ mid.number → HasReadCause mid f f' found → ReadsLine {A = A} mid new left' s.uses.rest' (Err found)
        → ReadsHeader old new left' rest (Err (text_fault (new.number + 1) found))
    header-failed A fault.End f f' still cause (ends, none) =
        let there = ap (λ n. n + 1) still in (
          stands-at-end old mid new left left' rest s.used s.uses (new.number + 1) none ends.left there,
          ap opening_refusal (of-rest (opening old.most) old mid left rest s ∙ ap (λ xs. opening old.most (mid.number + 1) (lines_of xs)) none) ∙ ap (λ n. Some (n, why.Header)) (sym there),
        )
    header-failed A fault.Memory f f' still cause reads = tt
    header-failed A fault.Read f f' still cause (part, breaks, none) = (
      s.used ++ part,
      breaks-after old mid left left' rest s.used part s.uses (s.uses.closed cause.1) breaks,
      mid.number + 1,
      of-part (opening old.most) old mid left rest s part cause.1 none,
    )
    header-failed A (fault.Refused n w) f f' still cause (stands, there, l, ls, first, refused) = (
      stands-after old mid new left left' rest s.used n s.uses stands,
      ap opening_refusal (of-rest (opening old.most) old mid left rest s ∙ (ap (opening old.most (mid.number + 1)) first
          ∙ opening-refuses old.most (mid.number + 1) l ls w (ap (λ k. first_of (line_refusals old.most k l)) (sym there) ∙ (ap (λ m. first_of (line_refusals m n l)) (sym most) ∙ refused))))
          ∙ ap (λ k. Some (k, w)) (sym there),
    )

    module _ (used : List ℕ) (u : Uses mid new left' s.uses.rest' used) (one : lines_of used ≡ new.line ∷ []) (stands : StandsAt mid new left' s.uses.rest' new.number)
        (allowed : first_of (line_refusals new.most new.number new.line) ≡ None) (same : new.most ≡ old.most) where
      there : new.number ≡ mid.number + 1
      there = next-number s.uses.rest' used new.line u one

      allows : first_of (line_refusals old.most (mid.number + 1) new.line) ≡ None
      allows = allowed-there new.most new.number new.line same there allowed

      first : lines_of s.uses.rest' ≡ new.line ∷ lines_of u.rest'
      first = u.lines ∙ ap (λ ls. ls ++ lines_of u.rest') one

      pub header-stands : StandsAt old new left' rest new.number
      header-stands = stands-after old mid new left left' rest s.used new.number s.uses stands

      pub header-read : (h : Header) → is_skipped new.line ≡ false → Some h ≡ header_of new.line → ReadsHeader old new left' rest (Ok h)
      header-read h read is = (
        s.used ++ used,
        uses-more old mid new left left' rest s.used used s.uses u,
        header-stands,
        ap (opening old.most (old.number + 1)) (sym (append-nil (lines_of (s.used ++ used))))
            ∙ (goes-on (opening old.most) old mid new left left' rest s used new.line u one []
            ∙ (opening-reads old.most (mid.number + 1) new.line [] allows read
            ∙ (ap (λ o. opened o (mid.number + 1) []) (sym is) ∙ ap (λ k. Opened h (k + 1) []) (sym there)))),
      )

      pub header-missing : is_skipped new.line ≡ false → None ≡ header_of new.line → ReadsHeader old new left' rest (Err (text.Refused new.number why.Header))
      header-missing read is = (
        header-stands,
        ap opening_refusal (of-rest (opening old.most) old mid left rest s ∙ (ap (opening old.most (mid.number + 1)) first
            ∙ (opening-reads old.most (mid.number + 1) new.line (lines_of u.rest') allows read
            ∙ ap (λ o. opened o (mid.number + 1) (lines_of u.rest')) (sym is))))
            ∙ ap (λ k. Some (k, why.Header)) (sym there),
      )

      pub header-skips : is_skipped new.line ≡ true → Skipped (opening old.most) old new left' rest
      header-skips skipped = skipped-more (opening old.most) old mid new left left' rest s used new.line u one there (λ ls. opening-skips old.most (mid.number + 1) new.line ls allows skipped)

-- a line that says a step is one, and few events stand before it
said-ok : {I : Type 0} (r : Result (Step I) Why) (s : Step I) → line_of r ≡ line.IsStep s → result_ok r ≡ Some s
said-ok (Ok x) s e = cc
said-ok (Err w) s e = cc

step-by : {I : Type 0} (f : List ℕ → Option I) (t c : Bool) (r : Result (Said (List ℕ)) Why) (s : Step I)
    → cond t line.Skipped (line_of (and_then r (λ x. cond c (Err why.TooManyEvents) (step_said f x)))) ≡ line.IsStep s
    → (result_ok (and_then r (λ x. step_said f x)) ≡ Some s) × (c ≡ false)
step-by f true c r s e = cc
step-by f false c (Err w) s e = cc
step-by f false true (Ok x) s e = cc
step-by f false false (Ok x) s e = (said-ok (step_said f x) s e, refl)

pub says-step : {I : Type 0} (f : List ℕ → Option I) (e : ℕ) (l : List ℕ) (s : Step I) → line.IsStep s ≡ line_says f e l → (step_of f l ≡ Some s) × (e < 1000000)
says-step f e l s is =
    let both = step-by f (is_skipped l) (nat_le 1000000 e) (said_of l) s (sym is) in
    let few = both.1 in
    (both.0, grind (arith, nat_tests))

said-something : {I : Type 0} (r : Result (Step I) Why) → line_of r ≡ line.Skipped → ⊥
said-something (Ok s) e = cc
said-something (Err w) e = cc

-- a line that is not skipped says something
pub not-skips : {I : Type 0} (f : List ℕ → Option I) (e : ℕ) (l : List ℕ) → is_skipped l ≡ false → line.Skipped ≡ line_says f e l → ⊥
not-skips f e l tells is =
    let said = step_or_refusal f e l in
    said-something said (sym (is ∙ ap (λ t. cond t line.Skipped (line_of said)) tells))

not-true : (t : Bool) → not t ≡ true → t ≡ false
not-true true e = cc
not-true false e = refl

-- what stands before the rest, where it is told
pub told-cut : (o : Option (List ℕ × List ℕ)) → is_told o ≡ true → (cut : List ℕ × List ℕ) × (o ≡ Some cut) × (is_skipped cut.0 ≡ false)
told-cut None e = cc
told-cut (Some cut) e = (cut, refl, not-true (is_skipped cut.0) e)

module _ {I : Type 0} (f : List ℕ → Option I) (old mid new : ReaderView) (left left' : Option (List ℕ)) (rest : List ℕ) (most : mid.most ≡ old.most) where
  module _ (s : Skipped (λ n ls. script old.most f n old.events ls) old mid left rest) where
    pub step-failed : (A : Type 0) (found : ReadFault) (f0 f' : ℕ) → HasReadCause mid f0 f' found → ReadsLine {A = A} mid new left' s.uses.rest' (Err found) → ReadsStep f old new left' rest (Err found)
    step-failed A fault.End f0 f' cause reads = (reads.0, of-rest (λ n ls. script old.most f n old.events ls) old mid left rest s ∙ ap (λ xs. script old.most f (mid.number + 1) old.events (lines_of xs)) reads.1)
    step-failed A fault.Memory f0 f' cause reads = tt
    step-failed A fault.Read f0 f' cause (part, breaks, none) = (
      s.used ++ part,
      breaks-after old mid left left' rest s.used part s.uses (s.uses.closed cause.1) breaks,
      of-part (λ n ls. script old.most f n old.events ls) old mid left rest s part cause.1 none,
    )
    step-failed A (fault.Refused n w) f0 f' cause (stands, there, l, ls, first, refused) = (
      stands-after old mid new left left' rest s.used n s.uses stands,
      of-rest (λ n ls. script old.most f n old.events ls) old mid left rest s
          ∙ (ap (script old.most f (mid.number + 1) old.events) first
          ∙ (script-by old.most f (mid.number + 1) old.events l ls (line.Refused w)
          (line-refused old.most f (mid.number + 1) old.events l w (ap (λ k. first_of (line_refusals old.most k l)) (sym there) ∙ (ap (λ m. first_of (line_refusals m n l)) (sym most) ∙ refused)))
          ∙ ap (λ k. refused_script k w) (sym there))),
    )

    module _ (used : List ℕ) (u : Uses mid new left' s.uses.rest' used) (one : lines_of used ≡ new.line ∷ []) (stands : StandsAt mid new left' s.uses.rest' new.number)
        (allowed : first_of (line_refusals new.most new.number new.line) ≡ None) (same : new.most ≡ old.most) where
      there' : new.number ≡ mid.number + 1
      there' = u.number ∙ ap (λ ls. mid.number + length ls) one

      says : (said : Line I) → said ≡ line_says f old.events new.line → (ls : List (List ℕ))
          → script old.most f (mid.number + 1) old.events (new.line ∷ ls) ≡ script_line said (mid.number + 1) old.events (λ k. script old.most f ((mid.number + 1) + 1) k ls)
      says said is ls =
          script-by old.most f (mid.number + 1) old.events new.line ls said
          (line-said old.most f (mid.number + 1) old.events new.line said
          (ap (λ k. first_of (line_refusals old.most k new.line)) (sym there') ∙ (ap (λ m. first_of (line_refusals m new.number new.line)) (sym same) ∙ allowed)) is)

      stands-there : StandsAt old new left' rest new.number
      stands-there = stands-after old mid new left left' rest s.used new.number s.uses stands

      pub step-skips : line.Skipped ≡ line_says f old.events new.line → Skipped (λ n ls. script old.most f n old.events ls) old new left' rest
      step-skips is = skipped-more (λ n ls. script old.most f n old.events ls) old mid new left left' rest s used new.line u one there' (λ ls. says line.Skipped is ls)

      pub step-refused : (w : Why) → line.Refused w ≡ line_says f old.events new.line → ReadsStep f old new left' rest (Err (fault.Refused new.number w))
      step-refused w is = (
        stands-there,
        of-rest (λ n ls. script old.most f n old.events ls) old mid left rest s
            ∙ (ap (script old.most f (mid.number + 1) old.events) (u.lines ∙ ap (λ ls. ls ++ lines_of u.rest') one)
            ∙ (says (line.Refused w) is (lines_of u.rest') ∙ ap (λ k. refused_script k w) (sym there'))),
      )

      pub step-read : (x : Step I) → line.IsStep x ≡ line_says f old.events new.line → ReadsStep f old new left' rest (Ok x)
      step-read x is = (
        s.used ++ used,
        uses-more old mid new left left' rest s.used used s.uses u,
        stands-there,
        ap (script old.most f (old.number + 1) old.events) (sym (append-nil (lines_of (s.used ++ used))))
            ∙ (goes-on (λ n ls. script old.most f n old.events ls) old mid new left left' rest s used new.line u one []
            ∙ (says (line.IsStep x) is [] ∙ ap (λ k. with_step k x no_steps) (sym there'))),
      )

-- counting an event leaves where the reader stands
pub stands-counted : (old r r' : ReaderView) (left' : Option (List ℕ)) (rest : List ℕ) (n k : ℕ) → r' ≡ record r { events = k } → StandsAt old r left' rest n → StandsAt old r' left' rest n
stands-counted old r r' left' rest n k same s = rw same (record { rest' = s.rest'; left = has-counted s.left; used = s.used; whole = s.whole; later = s.later; decides = s.decides; few = s.few }) where
  has-counted : {xs : List ℕ} → HasRest r left' xs → HasRest (record r { events = k }) left' xs
  has-counted h = record { unread = h.unread; left_is = h.left_is; rest_is = h.rest_is; at_end = h.at_end }

pub uses-counted : (old r r' : ReaderView) (left' : Option (List ℕ)) (rest used : List ℕ) (k : ℕ) → r' ≡ record r { events = k } → Uses old r left' rest used → Uses old r' left' rest used
uses-counted old r r' left' rest used k same u = rw same (record {
  rest' = u.rest';
  left = record { unread = u.left.unread; left_is = u.left.left_is; rest_is = u.left.rest_is; at_end = u.left.at_end };
  whole = u.whole;
  lines = u.lines;
  closed = u.closed;
  advanced = u.advanced;
  number = u.number;
  stays = u.stays;
})

pub read-counted : {I : Type 0} (f : List ℕ → Option I) (old r r' : ReaderView) (left' : Option (List ℕ)) (rest : List ℕ) (x : Step I) (k : ℕ) → r' ≡ record r { events = k }
    → ReadsStep f old r left' rest (Ok x) → ReadsStep f old r' left' rest (Ok x)
read-counted f old r r' left' rest x k same (used, u, stands, says) =
    let number : r'.number ≡ r.number = ap (λ (v : ReaderView). v.number) same in (
      used,
      uses-counted old r r' left' rest used k same u,
      subst (λ (n : ℕ). StandsAt old r' left' rest n) (sym number) (stands-counted old r r' left' rest r.number k same stands),
      says ∙ ap (λ n. with_step n x no_steps) (sym number),
    )
