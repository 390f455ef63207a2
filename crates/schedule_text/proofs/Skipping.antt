-- Lines that are skipped before the header or before a step. What lines mean is F of the number of the first and of them.
use Rattle.std.specs.Prelude.{◌≡◌, ℕ, Bool, true, false, ◌+◌, List, [], ◌∷◌, ◌++◌, Option, refl}
use Rattle.std.proofs.Common.{ap, ◌∙◌, sym, subst, append_assoc}
use Rattle.std.proofs.lemmas.List.{append-nil}
use Rattle.line_reader.specs.Lines.{last_line, lines_of, split_lines, whole_lines}
use Rattle.line_reader.specs.Readers.{ReaderView, HasRest}
use Rattle.line_reader.specs.Outcomes.{LineIsNear, ReadsPast, Uses}
use Rattle.line_reader.proofs.Lining.{whole-append}
use Rattle.line_reader.proofs.Using.{uses-none, uses-more, lines-more}
use Rattle.lists.specs.Places.{no_front}

-- what was read past a part, behind lines that were used
pub past-after : (old mid : ReaderView) (left left' : Option (List ℕ)) (rest used early : List ℕ) (u : Uses old mid left rest used)
    → ReadsPast left' u.rest' early → ReadsPast left' rest (used ++ early)
past-after old mid left left' rest used early u past = record {
  late = past.late;
  others = past.others;
  left_is = past.left_is;
  whole = u.whole ∙ (ap (λ xs. used ++ xs) past.whole ∙ sym (append_assoc used early (past.late ++ past.others)));
  few = past.few;
}

module _ {R : Type 0} (F : ℕ → List (List ℕ) → R) where
  -- some lines were used, and whatever follows means the same without them
  pub record Skipped (old now : ReaderView) (left : Option (List ℕ)) (rest : List ℕ) : Type 0 where
    pub used : List ℕ
    pub uses : Uses old now left rest used
    pub goes : (ls : List (List ℕ)) → F (old.number + 1) (lines_of used ++ ls) ≡ F (now.number + 1) ls

  pub skipped-none : (r : ReaderView) (left : Option (List ℕ)) (rest : List ℕ) → HasRest r left rest → Skipped r r left rest
  skipped-none r left rest has = record { used = []; uses = uses-none r left rest has; goes = λ ls. refl }

  -- what follows a line that was used after them
  pub goes-on : (old mid new : ReaderView) (left left' : Option (List ℕ)) (rest : List ℕ) (s : Skipped old mid left rest) (used : List ℕ) (l : List ℕ)
      → Uses mid new left' s.uses.rest' used → lines_of used ≡ l ∷ [] → (ls : List (List ℕ))
      → F (old.number + 1) (lines_of (s.used ++ used) ++ ls) ≡ F (mid.number + 1) (l ∷ ls)
  goes-on old mid new left left' rest s used l u one ls =
      ap (λ xs. F (old.number + 1) (xs ++ ls)) (lines-more old mid new left left' rest s.used used s.uses u ∙ ap (λ xs. lines_of s.used ++ xs) one)
      ∙ (ap (F (old.number + 1)) (append_assoc (lines_of s.used) (l ∷ []) ls) ∙ s.goes (l ∷ ls))

  pub skipped-more : (old mid new : ReaderView) (left left' : Option (List ℕ)) (rest : List ℕ) (s : Skipped old mid left rest) (used : List ℕ) (l : List ℕ)
      → Uses mid new left' s.uses.rest' used → lines_of used ≡ l ∷ [] → new.number ≡ mid.number + 1
      → ((ls : List (List ℕ)) → F (mid.number + 1) (l ∷ ls) ≡ F ((mid.number + 1) + 1) ls) → Skipped old new left' rest
  skipped-more old mid new left left' rest s used l u one next skips = record {
    used = s.used ++ used;
    uses = uses-more old mid new left left' rest s.used used s.uses u;
    goes = λ ls. goes-on old mid new left left' rest s used l u one ls ∙ (skips ls ∙ ap (λ n. F (n + 1) ls) (sym next));
  }

  -- what the whole rest means
  pub of-rest : (old mid : ReaderView) (left : Option (List ℕ)) (rest : List ℕ) (s : Skipped old mid left rest) → F (old.number + 1) (lines_of rest) ≡ F (mid.number + 1) (lines_of s.uses.rest')
  of-rest old mid left rest s = ap (F (old.number + 1)) s.uses.lines ∙ s.goes (lines_of s.uses.rest')

  -- and what the whole lines of a part of it mean, which a failed read broke off
  pub of-part : (old mid : ReaderView) (left : Option (List ℕ)) (rest : List ℕ) (s : Skipped old mid left rest) (part : List ℕ) → mid.ended ≡ false → whole_lines part ≡ []
      → F (old.number + 1) (whole_lines (s.used ++ part)) ≡ F (mid.number + 1) []
  of-part old mid left rest s part going none =
      ap (F (old.number + 1)) (whole-append s.used part (s.uses.closed going) ∙ ap (λ ls. lines_of s.used ++ ls) none) ∙ s.goes []

  -- of what no lines mean, and of what a front of such lines means that mean as much
  module _ (Q : R → Type 0) (none : (n : ℕ) → Q (F n [])) (front : (n : ℕ) (xs ys : List (List ℕ)) → Q (F n (xs ++ ys)) → Q (F n xs)) where
    near-by : (t : Bool) (old mid : ReaderView) (left left' : Option (List ℕ)) (rest : List ℕ) (s : Skipped old mid left rest) (early : List ℕ)
        → mid.ended ≡ t → ReadsPast left' s.uses.rest' early → whole_lines early ≡ [] → Q (F (old.number + 1) (whole_lines (s.used ++ early)))
    near-by false old mid left left' rest s early going past no_lines =
        subst Q (sym (of-part old mid left rest s early going no_lines)) (none (mid.number + 1))
    near-by true old mid left left' rest s early over past no_lines =
        let nothing : early ≡ [] = no_front early (past.late ++ past.others) (sym past.whole ∙ s.uses.left.at_end over) in
        let same : whole_lines (s.used ++ early) ≡ whole_lines s.used = ap (λ xs. whole_lines (s.used ++ xs)) nothing ∙ ap whole_lines (append-nil s.used) in
        let all : F (old.number + 1) (lines_of s.used) ≡ F (mid.number + 1) [] =
        ap (F (old.number + 1)) (sym (append-nil (lines_of s.used))) ∙ s.goes [] in
        subst (λ (ls : List (List ℕ)). Q (F (old.number + 1) ls)) (sym same)
        (front (old.number + 1) (whole_lines s.used) (last_line (split_lines s.used).1) (subst Q (sym all) (none (mid.number + 1))))

    pub near-after : (old mid : ReaderView) (left left' : Option (List ℕ)) (rest : List ℕ) (s : Skipped old mid left rest) → LineIsNear left' s.uses.rest'
        → (early : List ℕ) × ReadsPast left' rest early × Q (F (old.number + 1) (whole_lines early))
    near-after old mid left left' rest s (early, past, no_lines) = (
      s.used ++ early,
      past-after old mid left left' rest s.used early s.uses past,
      near-by mid.ended old mid left left' rest s early refl past no_lines,
    )
