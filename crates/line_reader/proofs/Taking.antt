-- How a line that was taken ends, and what is left after it.
use Rattle.std.specs.Prelude.{◌≡◌, ℕ, Bool, true, false, ◌+◌, ◌-◌, ◌<◌, ◌≤◌, nat_lt, List, [], ◌∷◌, ◌++◌, length, take, drop, Option, Some, None, Result, Ok, Err, cond, refl}
use Rattle.std.proofs.Common.{ap, ◌∙◌, sym, subst, append_assoc, arith, length-append, length-take, take-append-drop}
use Rattle.std.proofs.lemmas.Bool.Decides.{nat_tests}
use Rattle.std.proofs.lemmas.List.{append-nil, take-append-le}
use Rattle.vst_base.specs.Firsts.{first_of}
use Rattle.line_reader.specs.Lines.{cut_at, split_lines, lines_of, first_size, after_lines, decided}
use Rattle.line_reader.specs.Whys.{line_refusals}
use Rattle.line_reader.specs.Readers.{ReaderView, HasRest}
use Rattle.line_reader.specs.Outcomes.{ReadsLine, EndsLine, LineIsNear, TakesPiece}
use Rattle.line_reader.specs.declared.why.Why.{Why}
use Rattle.line_reader.specs.declared.why.Why.TheVariants as why
use Rattle.line_reader.specs.declared.piece.Piece.TheVariants as piece
use Rattle.line_reader.specs.declared.read_fault.ReadFault.{ReadFault}
use Rattle.line_reader.specs.declared.read_fault.ReadFault.TheVariants as fault
use Rattle.line_reader.proofs.Cutting.{cut-parts, none-append, none-take}
use Rattle.line_reader.proofs.Lining.{split-plain, whole-plain, lines-plain, lines-line, split-line, size-plain, drop-front}
use Rattle.lists.specs.Places.{no_back}

-- a line was begun: the rest of the text is what was taken into it and what comes later
pub record Begun (r : ReaderView) (left : Option (List ℕ)) (rest : List ℕ) : Type 0 where
  pub later : List ℕ
  pub left_is : HasRest r left later
  pub whole : rest ≡ r.line ++ later

-- a rest whose first line is this one, and takes up these bytes
record OneLine (rest line used rest' : List ℕ) : Type 0 where
  whole : rest ≡ used ++ rest'
  lines : lines_of rest ≡ lines_of used ++ lines_of rest'
  one : lines_of used ≡ line ∷ []
  size : first_size rest ≡ length used
  advanced : rest' ≡ after_lines 1 rest

behind-size : (rest used rest' : List ℕ) → rest ≡ used ++ rest' → first_size rest ≡ length used → rest' ≡ after_lines 1 rest
behind-size rest used rest' whole size = sym (ap (λ xs. drop (first_size rest) xs) whole ∙ drop-front used rest' (first_size rest) size)

with-newline : (rest line rest' : List ℕ) → cut_at 10 line ≡ None → rest ≡ line ++ 10 ∷ rest' → OneLine rest line (line ++ 10 ∷ []) rest'
with-newline rest line rest' plain is =
    let whole = is ∙ sym (append_assoc line (10 ∷ []) rest') in
    let one = lines-line line [] plain in
    let size : first_size rest ≡ length (line ++ 10 ∷ []) = ap first_size is ∙ (size-plain line (10 ∷ rest') plain ∙ sym (length-append line (10 ∷ []))) in
    record {
      whole = whole;
      lines = ap lines_of is ∙ (lines-line line rest' plain ∙ ap (λ ls. ls ++ lines_of rest') (sym one));
      one = one;
      size = size;
      advanced = behind-size rest (line ++ 10 ∷ []) rest' whole size;
    }

without-newline : (rest line : List ℕ) → cut_at 10 line ≡ None → 0 < length line → rest ≡ line → OneLine rest line line []
without-newline rest line plain some is =
    let whole = is ∙ sym (append-nil line) in
    let one = lines-plain line plain some in
    let size : first_size rest ≡ length line = ap first_size whole ∙ (size-plain line [] plain ∙ omega arith) in
    record {
      whole = whole;
      lines = ap lines_of is ∙ sym (append-nil (lines_of line));
      one = one;
      size = size;
      advanced = behind-size rest line [] whole size;
    }

-- the byte that decides a line that is short enough is its last
decides-line : (number before : ℕ) (rest line used rest' : List ℕ) → OneLine rest line used rest' → length used ≤ 4097 → number ≡ before + 1 → length used ≡ decided (number - before) rest
decides-line number before rest line used rest' h short is =
    let one : number - before ≡ 1 = omega (arith, is) in
    sym (ap (λ n. decided n rest) one ∙ omega (arith, h.size, short))

too-many : (t u : Bool) → t ≡ false → u ≡ true → cond t (Some why.LineTooLong) (cond u (Some why.TooManyEvents) None) ≡ Some why.TooManyEvents
too-many t u e f = rw (e, f) refl

refuses-number : (most number : ℕ) (line : List ℕ) → length line ≤ 4096 → most < number → first_of (line_refusals most number line) ≡ Some why.TooManyEvents
refuses-number most number line short over =
    too-many (nat_lt 4096 (length line)) (nat_lt most number) (grind (arith, nat_tests)) (grind (arith, nat_tests))

allowed : (t u : Bool) → t ≡ false → u ≡ false → cond t (Some why.LineTooLong) (cond u (Some why.TooManyEvents) None) ≡ None
allowed t u e f = rw (e, f) refl

pub allows : (most number : ℕ) (line : List ℕ) → length line ≤ 4096 → number ≤ most → first_of (line_refusals most number line) ≡ None
allows most number line short within =
    allowed (nat_lt 4096 (length line)) (nat_lt most number) (grind (arith, nat_tests)) (grind (arith, nat_tests))

too-long : (t : Bool) (o : Option Why) → t ≡ true → cond t (Some why.LineTooLong) o ≡ Some why.LineTooLong
too-long t o e = rw e refl

refuses-long : (most number : ℕ) (line : List ℕ) → 4096 < length line → first_of (line_refusals most number line) ≡ Some why.LineTooLong
refuses-long most number line long = too-long (nat_lt 4096 (length line)) _ (grind (arith, nat_tests))

-- a line was taken whole, and then ended
ends-line : (A : Type 0) (old r new : ReaderView) (left' : Option (List ℕ)) (rest used rest' : List ℕ) (result : Result A ReadFault)
    → OneLine rest r.line used rest' → HasRest r left' rest' → (r.ended ≡ false → (split_lines used).1 ≡ []) → length r.line ≤ 4096 → length used ≤ 4097
    → (old.ended ≡ true → r.ended ≡ true) → r.number ≡ old.number → r.most ≡ old.most → EndsLine {A = A} r new result → ReadsLine old new left' rest result
ends-line A old r new left' rest used rest' (Ok x) one left closed short fits stays number most ended =
    let same = ended.0 in
    let counted : new.number ≡ r.number + 1 = ap (λ (v : ReaderView). v.number) same in
    let line : new.line ≡ r.line = ap (λ (v : ReaderView). v.line) same in
    let ends : new.ended ≡ r.ended = ap (λ (v : ReaderView). v.ended) same in
    let ahead : new.ahead ≡ r.ahead = ap (λ (v : ReaderView). v.ahead) same in
    let left_new : HasRest new left' rest' = record { unread = left.unread; left_is = left.left_is; rest_is = left.rest_is ∙ ap (λ xs. xs ++ left.unread) (sym ahead); at_end = λ is. left.at_end (sym ends ∙ is) } in (
      used,
      record {
        rest' = rest';
        left = left_new;
        whole = one.whole;
        lines = one.lines;
        closed = λ is. closed (sym ends ∙ is);
        advanced = one.advanced ∙ ap (λ ls. after_lines (length ls) rest) (sym one.one);
        number = counted ∙ (ap (λ n. n + 1) number ∙ ap (λ ls. old.number + length ls) (sym one.one));
        stays = λ is. ends ∙ stays is;
      },
      record {
        rest' = rest';
        left = left_new;
        used = used;
        whole = one.whole;
        later = omega (arith, counted, number);
        decides = decides-line new.number old.number rest r.line used rest' one fits (counted ∙ ap (λ n. n + 1) number);
        few = ended.2;
      },
      one.one ∙ ap (λ l. l ∷ []) (sym line),
      allows new.most new.number new.line (omega (arith, short, ap length line)) ended.1,
    )
ends-line A old r new left' rest used rest' (Err found) one left closed short fits stays number most ended =
    let is = ended.0 in
    let same : new ≡ r = ended.1 in
    let next : r.number + 1 ≡ old.number + 1 = ap (λ n. n + 1) number in
    subst (λ (f : ReadFault). ReadsLine {A = A} old new left' rest (Err f)) (sym is) (
      record {
        rest' = rest';
        left = subst (λ (v : ReaderView). HasRest v left' rest') (sym same) left;
        used = used;
        whole = one.whole;
        later = omega (arith, next);
        decides = decides-line (r.number + 1) old.number rest r.line used rest' one fits next;
        few = subst (λ (v : ReaderView). length v.ahead ≤ 4096) (sym same) ended.3;
      },
      next,
      r.line,
      lines_of rest',
      one.lines ∙ ap (λ ls. ls ++ lines_of rest') one.one,
      refuses-number old.most (r.number + 1) r.line short (omega (arith, ended.2, most)),
    )

not-nothing : (xs ys : List ℕ) (y : ℕ) → xs ++ y ∷ ys ≡ [] → ⊥
not-nothing [] ys y e = cc
not-nothing (x ∷ xs) ys y e = cc

-- a line that its newline ended
pub by-newline : (A : Type 0) (old r r' new : ReaderView) (left' : Option (List ℕ)) (rest : List ℕ) (result : Result A ReadFault)
    → Begun r left' rest → cut_at 10 r.line ≡ None → TakesPiece r r' piece.Newline → length r'.line ≤ 4096
    → r'.ended ≡ r.ended → (old.ended ≡ true → r.ended ≡ true) → r'.number ≡ old.number → r'.most ≡ old.most → EndsLine {A = A} r' new result → ReadsLine old new left' rest result
by-newline A old r r' new left' rest result begun plain (part, taken, plain_part, line) short ended stays number most ends =
    let left = begun.left_is in
    let rest' = r'.ahead ++ left.unread in
    let later : begun.later ≡ part ++ 10 ∷ rest' = left.rest_is ∙ (ap (λ xs. xs ++ left.unread) taken ∙ append_assoc part (10 ∷ r'.ahead) left.unread) in
    let whole : rest ≡ r'.line ++ 10 ∷ rest' = begun.whole ∙ (ap (λ xs. r.line ++ xs) later ∙ (sym (append_assoc r.line part (10 ∷ rest')) ∙ ap (λ xs. xs ++ 10 ∷ rest') (sym line))) in
    let plain_line : cut_at 10 r'.line ≡ None = ap (cut_at 10) line ∙ none-append 10 r.line part plain plain_part in
    ends-line A old r' new left' rest (r'.line ++ 10 ∷ []) rest' result
    (with-newline rest r'.line rest' plain_line whole)
    (record { unread = left.unread; left_is = left.left_is; rest_is = refl; at_end = λ is. absurd (not-nothing part rest' 10 (sym later ∙ left.at_end (sym ended ∙ is))) })
    (λ is. ap (λ (s : List (List ℕ) × List ℕ). s.1) (split-line r'.line [] plain_line))
    short
    (omega (arith, short, length-append r'.line (10 ∷ [])))
    (λ is. ended ∙ stays is) number most ends

-- a line that the end of the source ended
pub by-end : (A : Type 0) (old r new : ReaderView) (left' : Option (List ℕ)) (rest : List ℕ) (result : Result A ReadFault)
    → Begun r left' rest → cut_at 10 r.line ≡ None → length r.line ≤ 4096 → 0 < length r.line → r.ended ≡ true
    → r.number ≡ old.number → r.most ≡ old.most → EndsLine {A = A} r new result → ReadsLine old new left' rest result
by-end A old r new left' rest result begun plain short some over number most ends =
    let none = begun.left_is.at_end over in
    let whole : rest ≡ r.line = begun.whole ∙ (ap (λ xs. r.line ++ xs) none ∙ append-nil r.line) in
    ends-line A old r new left' rest r.line [] result
    (without-newline rest r.line plain some whole)
    (subst (λ (xs : List ℕ). HasRest r left' xs) none begun.left_is)
    (λ is. let both : ◌≡◌ {A = Bool} true false = sym over ∙ is in cc)
    short (omega (arith, short)) (λ is. over) number most ends

-- no line is left
pub at-end : (A : Type 0) (old r : ReaderView) (left' : Option (List ℕ)) (rest : List ℕ)
    → Begun r left' rest → r.line ≡ [] → r.ended ≡ true → ReadsLine {A = A} old r left' rest (Err fault.End)
at-end A old r left' rest begun empty over =
    let none = begun.left_is.at_end over in (
      record { ended = over; left = subst (λ (xs : List ℕ). HasRest r left' xs) none begun.left_is },
      begun.whole ∙ (ap (λ xs. xs ++ begun.later) empty ∙ none),
    )

-- a read that failed within a line
pub by-read : (A : Type 0) (old r' : ReaderView) (left' : Option (List ℕ)) (rest : List ℕ)
    → Begun r' left' rest → cut_at 10 r'.line ≡ None → length r'.line ≤ 4096 → r'.ahead ≡ [] → ReadsLine {A = A} old r' left' rest (Err fault.Read)
by-read A old r' left' rest begun plain short none =
    let left = begun.left_is in (
      r'.line,
      record { rest' = left.unread; left_is = left.left_is; whole = begun.whole ∙ ap (λ xs. r'.line ++ xs) (left.rest_is ∙ ap (λ xs. xs ++ left.unread) none); short = subst (λ (xs : List ℕ). length xs ≤ 4096) (sym (ap (λ (s : List (List ℕ) × List ℕ). s.1) (split-plain r'.line plain))) short },
      whole-plain r'.line plain,
    )

-- the first line goes on after a front without a newline
record FirstLine (front rest : List ℕ) : Type 0 where
  line : List ℕ
  others : List (List ℕ)
  lines : lines_of rest ≡ line ∷ others
  long : length front ≤ length line

first-by : (front rest : List ℕ) (o : Option (List ℕ × List ℕ)) → cut_at 10 rest ≡ o → cut_at 10 front ≡ None → 0 < length front → FirstLine front (front ++ rest)
first-by front rest None is plain some = record {
  line = front ++ rest;
  others = [];
  lines = lines-plain (front ++ rest) (none-append 10 front rest plain is) (omega (arith, some, length-append front rest));
  long = omega (arith, length-append front rest);
}
first-by front rest (Some p) is plain some =
    let parts = cut-parts 10 rest p is in
    let whole : front ++ rest ≡ (front ++ p.0) ++ 10 ∷ p.1 = ap (λ xs. front ++ xs) parts.whole ∙ sym (append_assoc front p.0 (10 ∷ p.1)) in
    record {
      line = front ++ p.0;
      others = lines_of p.1;
      lines = ap lines_of whole ∙ lines-line (front ++ p.0) p.1 (none-append 10 front p.0 plain parts.front);
      long = omega (arith, length-append front p.0);
    }

-- a line that is too long
pub by-length : (A : Type 0) (old r r' : ReaderView) (left' : Option (List ℕ)) (rest : List ℕ)
    → Begun r left' rest → cut_at 10 r.line ≡ None → TakesPiece r r' piece.TooLong → r'.ended ≡ r.ended → r'.number ≡ old.number → length r'.ahead ≤ 4096
    → ReadsLine {A = A} old r' left' rest (Err (fault.Refused (r'.number + 1) why.LineTooLong))
by-length A old r r' left' rest begun plain (part, taken, plain_part, size) ended number few =
    let left = begun.left_is in
    let rest' = r'.ahead ++ left.unread in
    let later : begun.later ≡ part ++ rest' = left.rest_is ∙ (ap (λ xs. xs ++ left.unread) taken ∙ append_assoc part r'.ahead left.unread) in
    let front = r.line ++ part in
    let whole : rest ≡ front ++ rest' = begun.whole ∙ (ap (λ xs. r.line ++ xs) later ∙ sym (append_assoc r.line part rest')) in
    let long : length front ≡ 4097 = length-append r.line part ∙ size in
    let plain_front = none-append 10 r.line part plain plain_part in
    let first = first-by front rest' (cut_at 10 rest') refl plain_front (omega (arith, long)) in
    let next : r'.number + 1 ≡ old.number + 1 = ap (λ n. n + 1) number in
    let one : (r'.number + 1) - old.number ≡ 1 = omega (arith, next) in
    let sized = ap first_size whole ∙ size-plain front rest' plain_front in (
      record {
        rest' = rest';
        left = record { unread = left.unread; left_is = left.left_is; rest_is = refl; at_end = λ is. no_back part rest' (sym later ∙ left.at_end (sym ended ∙ is)) };
        used = front;
        whole = whole;
        later = omega (arith, next);
        decides = sym (ap (λ n. decided n rest) one ∙ omega (arith, sized, long));
        few = few;
      },
      next,
      first.line,
      first.others,
      ap lines_of whole ∙ first.lines,
      refuses-long old.most (r'.number + 1) first.line (omega (arith, first.long, long)),
    )

-- the steps of a line that goes on
pub begins : (old new : ReaderView) (left : Option (List ℕ)) (rest : List ℕ) → new ≡ record old { line = [] } → HasRest old left rest → Begun new left rest
begins old new left rest same has =
    let ahead : new.ahead ≡ old.ahead = ap (λ (v : ReaderView). v.ahead) same in
    let ended : new.ended ≡ old.ended = ap (λ (v : ReaderView). v.ended) same in
    record {
      later = rest;
      left_is = record { unread = has.unread; left_is = has.left_is; rest_is = has.rest_is ∙ ap (λ xs. xs ++ has.unread) (sym ahead); at_end = λ is. has.at_end (sym ended ∙ is) };
      whole = ap (λ xs. xs ++ rest) (sym (ap (λ (v : ReaderView). v.line) same));
    }

pub fills : (r r' : ReaderView) (left left' : Option (List ℕ)) (rest : List ℕ) → r'.line ≡ r.line → ((later : List ℕ) → HasRest r left later → HasRest r' left' later) → Begun r left rest → Begun r' left' rest
fills r r' left left' rest line told begun = record {
  later = begun.later;
  left_is = told begun.later begun.left_is;
  whole = begun.whole ∙ ap (λ xs. xs ++ begun.later) (sym line);
}

-- where some bytes are ahead, no more than those stand past a line without a newline
pub fills-near : (r r' : ReaderView) (left left' : Option (List ℕ)) (rest : List ℕ) → r'.line ≡ r.line → ((later : List ℕ) → HasRest r left later → HasRest r' left' later)
    → length r'.ahead ≤ 4096 → cut_at 10 r.line ≡ None → Begun r left rest → LineIsNear left' rest
fills-near r r' left left' rest line told few plain begun =
    let there = fills r r' left left' rest line told begun in (
      r'.line,
      record {
        late = r'.ahead;
        others = there.left_is.unread;
        left_is = there.left_is.left_is;
        whole = there.whole ∙ ap (λ xs. r'.line ++ xs) there.left_is.rest_is;
        few = few;
      },
      whole-plain r'.line (ap (cut_at 10) line ∙ plain),
    )

pub goes-on : (r r' : ReaderView) (left : Option (List ℕ)) (rest : List ℕ) → TakesPiece r r' piece.GoesOn → r'.ended ≡ r.ended → Begun r left rest → Begun r' left rest
goes-on r r' left rest (none, plain, line) ended begun =
    let has = begun.left_is in
    record {
      later = has.unread;
      left_is = record { unread = has.unread; left_is = has.left_is; rest_is = ap (λ xs. xs ++ has.unread) (sym none); at_end = λ is. no_back r.ahead has.unread (sym has.rest_is ∙ has.at_end (sym ended ∙ is)) };
      whole = begun.whole ∙ (ap (λ xs. r.line ++ xs) has.rest_is ∙ (sym (append_assoc r.line r.ahead has.unread) ∙ ap (λ xs. xs ++ has.unread) (sym line)));
    }

-- the front of what was read ahead that makes a line too long
pub overlong : (line ahead : List ℕ) → length line ≤ 4096 → 4096 < length line + length ahead → cut_at 10 (take (4097 - length line) ahead) ≡ None
    → (part : List ℕ) × (ahead ≡ part ++ drop (4097 - length line) ahead) × (cut_at 10 part ≡ None) × (length line + length part ≡ 4097)
overlong line ahead short long plain =
    let n = 4097 - length line in
    (take n ahead, sym (take-append-drop n ahead), plain, omega (arith, short, long, length-take n ahead))

pub plain-front : (line ahead part behind : List ℕ) → ahead ≡ part ++ 10 ∷ behind → cut_at 10 part ≡ None → length line ≤ 4096 → 4096 < length line + length part
    → cut_at 10 (take (4097 - length line) ahead) ≡ None
plain-front line ahead part behind whole plain short long =
    let n = 4097 - length line in
    ap (λ xs. cut_at 10 (take n xs)) whole ∙ (ap (cut_at 10) (take-append-le n part (10 ∷ behind) (omega (arith, short, long))) ∙ none-take 10 n part plain)

-- what stands after a newline that was used
pub behind-newline : (ahead part behind left : List ℕ) → ahead ≡ part ++ 10 ∷ behind → left ≡ drop (length part + 1) ahead → ahead ≡ part ++ 10 ∷ left
behind-newline ahead part behind left whole is =
    let again : ahead ≡ (part ++ 10 ∷ []) ++ behind = whole ∙ sym (append_assoc part (10 ∷ []) behind) in
    let same : left ≡ behind = is ∙ (ap (drop (length part + 1)) again ∙ drop-front (part ++ 10 ∷ []) behind (length part + 1) (omega (arith, length-append part (10 ∷ [])))) in
    whole ∙ ap (λ xs. part ++ 10 ∷ xs) (sym same)
