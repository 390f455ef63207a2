-- The lines of a claim, read one after another from a source.
use Rattle.std.specs.Prelude.{◌≡◌, ℕ, Bool, true, false, ◌+◌, ◌-◌, ◌≤◌, List, [], ◌∷◌, ◌++◌, length, Option, Some, None, IfErr, Result, Ok, Err, refl}
use Rattle.std.proofs.Common.{ap, ◌∙◌, sym, append_assoc, arith, length-append}
use Rattle.vst_base.specs.Firsts.{first_of}
use Rattle.line_reader.specs.declared.why.Why.{Why}
use Rattle.line_reader.specs.declared.why.Why.TheVariants as why
use Rattle.line_reader.specs.declared.read_fault.ReadFault.{ReadFault}
use Rattle.line_reader.specs.declared.read_fault.ReadFault.TheVariants as fault
use Rattle.line_reader.specs.Whys.{line_refusals}
use Rattle.line_reader.specs.Lines.{decided, lines_of, whole_lines}
use Rattle.line_reader.specs.Readers.{ReaderView, fresh}
use Rattle.line_reader.specs.Outcomes.{Uses, StandsAt, BreaksOff, EndsAll, ReadsLine, HasReadCause}
use Rattle.line_reader.proofs.Lining.{whole-append}
use Rattle.line_reader.proofs.Using.{uses-none, uses-more, lines-more, breaks-after, stands-at-end, stands-after}
use Rattle.schedule_text.specs.declared.text_faults.TextFault.{TextFault}
use Rattle.schedule_text.specs.declared.text_faults.TextFault.TheVariants as text
use Rattle.check_text.specs.Claims.{Claim}
use Rattle.check_text.specs.Drafts.{Draft, EndsBy, EndsClaim, Finishes, TakesLine, comes_to, no_lines}
use Rattle.check_text.specs.Forms.{Form, claim_of}
use Rattle.check_text.specs.Outcomes.{HasReadFault, LooksAhead, ReadsClaim}
use Rattle.check_text.specs.Reading.{RefusedAt, refusal_of, refusal_so_far}
use Rattle.check_text.specs.TraceLines.{most_lines}
use Rattle.check_text.proofs.Takings.{line-limited, none-refused, read-same}

-- nothing stands before nothing
none-behind : (xs ys : List ℕ) → [] ≡ xs ++ ys → ys ≡ []
none-behind [] ys e = sym e
none-behind (x ∷ xs) ys e = cc

pub nothing-left : (new : ReaderView) (left' : Option (List ℕ)) → EndsAll new left' → left' ≡ Some []
nothing-left new left' ends = ends.left.left_is ∙ ap Some (none-behind new.ahead ends.left.unread ends.left.rest_is)

-- what was given, where a reader stands at the byte that decided a line
given-of : (new : ReaderView) (left' : Option (List ℕ)) (bytes : List ℕ) (n : ℕ) (w : Why) → StandsAt (fresh most_lines) new left' bytes n → LooksAhead left' bytes (text.Refused n w)
given-of new left' bytes n w s =
    let all : n - 0 ≡ n = omega arith in
    let decides : length s.used ≡ decided n bytes = s.decides ∙ ap (λ k. decided k bytes) all in (
      s.used ++ new.ahead,
      (s.left.unread, s.whole ∙ (ap (λ xs. s.used ++ xs) s.left.rest_is ∙ sym (append_assoc s.used new.ahead s.left.unread)), s.left.left_is),
      omega (arith, length-append s.used new.ahead, decides, s.few),
    )

module _ {I O X : Type 0} (f : Form I O X) where
  -- some lines were used, and the claim is what their draft comes to with the lines that follow
  pub record ReadSoFar (now : ReaderView) (d : Draft I O X) (left : Option (List ℕ)) (bytes : List ℕ) : Type 0 where
    pub used : List ℕ
    pub uses : Uses (fresh most_lines) now left bytes used
    pub goes : (ls : List (List ℕ)) → claim_of f (lines_of used ++ ls) ≡ comes_to f d (now.number + 1) ls

  pub none-so-far : (left : Option (List ℕ)) (bytes : List ℕ) → left ≡ Some bytes → ReadSoFar (fresh most_lines) no_lines left bytes
  none-so-far left bytes has = record {
    used = [];
    uses = uses-none (fresh most_lines) left bytes (record { unread = bytes; left_is = has; rest_is = refl; at_end = λ e. let both : ◌≡◌ {A = Bool} false true = e in cc });
    goes = λ ls. sym (read-same (claim_of f ls));
  }

  module _ (mid new : ReaderView) (d d' : Draft I O X) (left left' : Option (List ℕ)) (bytes : List ℕ) (s : ReadSoFar mid d left bytes) where
    -- the claim, by the lines that are left
    of-rest : claim_of f (lines_of bytes) ≡ comes_to f d (mid.number + 1) (lines_of s.uses.rest')
    of-rest = ap (claim_of f) s.uses.lines ∙ s.goes (lines_of s.uses.rest')

    module _ (used : List ℕ) (u : Uses mid new left' s.uses.rest' used) (one : lines_of used ≡ new.line ∷ []) (allowed : first_of (line_refusals new.most new.number new.line) ≡ None) (most : new.most ≡ most_lines) where
      next : new.number ≡ mid.number + 1
      next = u.number ∙ ap (λ ls. mid.number + length ls) one

      allows : first_of (line_refusals most_lines (mid.number + 1) new.line) ≡ None
      allows = ap (λ n. first_of (line_refusals most_lines n new.line)) (sym next) ∙ (ap (λ m. first_of (line_refusals m new.number new.line)) (sym most) ∙ allowed)

      pub line-taken : TakesLine f d d' new.line None → ReadSoFar new d' left' bytes
      line-taken takes = record {
        used = s.used ++ used;
        uses = uses-more (fresh most_lines) mid new left left' bytes s.used used s.uses u;
        goes = λ ls.
            ap (λ xs. claim_of f (xs ++ ls)) (lines-more (fresh most_lines) mid new left left' bytes s.used used s.uses u ∙ ap (λ xs. lines_of s.used ++ xs) one)
            ∙ (ap (claim_of f) (append_assoc (lines_of s.used) (new.line ∷ []) ls)
            ∙ (s.goes (new.line ∷ ls) ∙ (takes (mid.number + 1) ls allows ∙ ap (λ n. comes_to f d' (n + 1) ls) (sym next))));
      }

      pub line-refused : (w : Why) → TakesLine f d d' new.line (Some w) → refusal_of (claim_of f (lines_of bytes)) ≡ Some (new.number, w)
      line-refused w takes =
          ap refusal_of (of-rest
          ∙ (ap (comes_to f d (mid.number + 1)) (u.lines ∙ ap (λ ls. ls ++ lines_of u.rest') one)
          ∙ (takes (mid.number + 1) (lines_of u.rest') allows ∙ ap (λ n. RefusedAt n w) (sym next))))

    -- no further line was read
    line-broke : (cause : mid.ended ≡ false) (part : List ℕ) → BreaksOff left' s.uses.rest' part → whole_lines part ≡ [] → ReadsClaim f left' bytes (Err text.Read)
    line-broke going part breaks none = (
      s.used ++ part,
      breaks-after (fresh most_lines) mid left left' bytes s.used part s.uses (s.uses.closed going) breaks,
      ap (λ ls. refusal_so_far (claim_of f ls)) (whole-append s.used part (s.uses.closed going) ∙ ap (λ ls. lines_of s.used ++ ls) none)
          ∙ (ap refusal_so_far (s.goes []) ∙ none-refused f d (mid.number + 1)),
    )

    line-stopped : (n : ℕ) (w : Why) (l : List ℕ) (ls : List (List ℕ)) → mid.most ≡ most_lines → n ≡ mid.number + 1 → lines_of s.uses.rest' ≡ l ∷ ls
        → first_of (line_refusals mid.most n l) ≡ Some w → ReadsClaim f left' bytes (Err (text.Refused n w))
    line-stopped n w l ls most there first refused =
        ap refusal_of (of-rest
        ∙ (ap (comes_to f d (mid.number + 1)) first
        ∙ line-limited f d (mid.number + 1) l ls w (ap (λ k. first_of (line_refusals most_lines k l)) (sym there) ∙ (ap (λ m. first_of (line_refusals m n l)) (sym most) ∙ refused))))
        ∙ ap (λ k. Some (k, w)) (sym there)

    -- the text was read to its end
    claim-whole : (c : Claim I O X) → s.uses.rest' ≡ [] → EndsAll new left' → Finishes f d (Some c) → ReadsClaim f left' bytes (Ok c)
    claim-whole c none ends finishes = (nothing-left new left' ends, of-rest ∙ (ap (λ xs. comes_to f d (mid.number + 1) (lines_of xs)) none ∙ finishes (mid.number + 1)))

    claim-short : s.uses.rest' ≡ [] → new.number ≡ mid.number → Finishes f d None → ReadsClaim f left' bytes (Err (text.Refused (new.number + 1) why.Header))
    claim-short none still finishes =
        ap refusal_of (of-rest ∙ (ap (λ xs. comes_to f d (mid.number + 1) (lines_of xs)) none ∙ finishes (mid.number + 1))) ∙ ap (λ n. Some (n + 1, why.Header)) (sym still)

    claim-ends : (r : Result (Claim I O X) TextFault) → s.uses.rest' ≡ [] → EndsAll new left' → new.number ≡ mid.number → EndsClaim f d new.number r → ReadsClaim f left' bytes r
    claim-ends (Ok c) none ends still is = claim-whole c none ends is
    claim-ends (Err found) none ends still is = rw is.0 (claim-short none still is.1)

    pub claim-ended : (A : Type 0) (found : ReadFault) (r : Result (Claim I O X) TextFault) (f0 f' : ℕ) → mid.most ≡ most_lines → HasReadCause mid f0 f' found → ReadsLine {A = A} mid new left' s.uses.rest' (Err found)
        → new.number ≡ mid.number → EndsBy f d new.number found r → ReadsClaim f left' bytes r
    claim-ended A fault.End r f0 f' most cause reads still is = claim-ends r reads.1 reads.0 still is
    claim-ended A fault.Read r f0 f' most cause (part, breaks, none) still is = rw is (line-broke cause.1 part breaks none)
    claim-ended A fault.Memory r f0 f' most cause reads still is = rw is tt
    claim-ended A (fault.Refused n w) r f0 f' most cause (stands, there, l, ls, first, refused) still is = rw is (line-stopped n w l ls most there first refused)

    -- how much was given where a line is refused
    pub ahead-refused : (w : Why) → StandsAt mid new left' s.uses.rest' new.number → LooksAhead left' bytes (text.Refused new.number w)
    ahead-refused w stands = given-of new left' bytes new.number w (stands-after (fresh most_lines) mid new left left' bytes s.used new.number s.uses stands)

    ahead-ends : (r : Result (Claim I O X) TextFault) → s.uses.rest' ≡ [] → EndsAll new left' → new.number ≡ mid.number → EndsClaim f d new.number r → IfErr r (LooksAhead left' bytes)
    ahead-ends (Ok c) none ends still is = tt
    ahead-ends (Err found) none ends still is =
        rw is.0 (given-of new left' bytes (new.number + 1) why.Header (stands-at-end (fresh most_lines) mid new left left' bytes s.used s.uses (new.number + 1) none ends.left (ap (λ n. n + 1) still)))

    pub ahead-ended : (A : Type 0) (found : ReadFault) (r : Result (Claim I O X) TextFault) → ReadsLine {A = A} mid new left' s.uses.rest' (Err found) → new.number ≡ mid.number → EndsBy f d new.number found r
        → IfErr r (LooksAhead left' bytes)
    ahead-ended A fault.End r reads still is = ahead-ends r reads.1 reads.0 still is
    ahead-ended A fault.Read r reads still is = rw is tt
    ahead-ended A fault.Memory r reads still is = rw is tt
    ahead-ended A (fault.Refused n w) r reads still is =
        rw is (given-of new left' bytes n w (stands-after (fresh most_lines) mid new left left' bytes s.used n s.uses reads.0))

-- the cause of a fault
ends-quiet : {I O X : Type 0} (f : Form I O X) (d : Draft I O X) (n f0 f' : ℕ) (r : Result (Claim I O X) TextFault) → EndsClaim f d n r → IfErr r (HasReadFault f0 f')
ends-quiet f d n f0 f' (Ok c) is = tt
ends-quiet f d n f0 f' (Err found) is = rw is.0 tt

pub ends-cause : {I O X : Type 0} (f : Form I O X) (d : Draft I O X) (n : ℕ) (old : ReaderView) (f0 f1 f' : ℕ) (found : ReadFault) (r : Result (Claim I O X) TextFault) → f0 ≤ f1 → HasReadCause old f1 f' found
    → EndsBy f d n found r → IfErr r (HasReadFault f0 f')
ends-cause f d n old f0 f1 f' fault.End r grew cause is = ends-quiet f d n f0 f' r is
ends-cause f d n old f0 f1 f' fault.Read r grew cause is = rw is (omega (arith, grew, cause.0))
ends-cause f d n old f0 f1 f' fault.Memory r grew cause is = rw is tt
ends-cause f d n old f0 f1 f' (fault.Refused k w) r grew cause is = rw is tt

-- a failed read is told
pub ends-failed : {I O X : Type 0} (f : Form I O X) (d : Draft I O X) (n : ℕ) (found : ReadFault) (r : Result (Claim I O X) TextFault) → EndsBy f d n found r → found ≡ fault.Read → r ≡ Err text.Read
ends-failed f d n fault.Read r is e = is
ends-failed f d n fault.End r is e = cc
ends-failed f d n fault.Memory r is e = cc
ends-failed f d n (fault.Refused k w) r is e = cc
