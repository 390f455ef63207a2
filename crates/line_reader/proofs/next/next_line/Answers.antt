use Rattle.std.proofs.Common.{◌≡◌, ◌≢◌, ◌==◌, ◌<◌, ◌∷◌, ◌++◌, ℕ, List, [], Option, None, Some, is_some, Result, Ok, Err, OnOk, true, false, length, refl, ap, ◌∙◌, sym, arith}
use Rattle.std.proofs.lemmas.Result.{err_from_is_err_and}
use Rattle.std.proofs.lemmas.Bool.Decides.{nat_tests}
use Rattle.line_reader.specs.Lines.{cut_at}
use Rattle.line_reader.specs.Readers.{ReaderView}
use Rattle.line_reader.specs.Outcomes.{EndsLine}
use Rattle.line_reader.specs.declared.read_fault.ReadFault.{ReadFault}
use Rattle.line_reader.specs.declared.read_fault.ReadFault.TheVariants as fault
use Rattle.line_reader.proofs.Cutting.{cut-here, none-append}
use Rattle.line_reader.proofs.Taking.{begins, fills, fills-near, goes-on, by-newline, by-end, at-end, by-read, by-length}
use Rattle.line_reader.proofs.next.next_line.Goals as goal

no-length : (xs : List ℕ) → (length xs == 0) ≡ true → xs ≡ []
no-length [] e = refl
no-length (x ∷ xs) e = absurd (grind (arith, nat_tests))

some-length : (xs : List ℕ) → (length xs == 0) ≡ false → 0 < length xs
some-length [] e = absurd (grind (arith, nat_tests))
some-length (x ∷ xs) e = omega arith

abbrev line_of : ReaderView → List ℕ
line_of v = v.line

abbrev ahead_of : ReaderView → List ℕ
ahead_of v = v.ahead

-- what has a newline is not empty
some-ahead : (xs ys : List ℕ) (cut : List ℕ × List ℕ) → cut_at 10 ys ≡ Some cut → xs ≡ ys → xs ≢ []
some-ahead xs ys cut is same none =
    let empty : None ≡ Some cut = ap (cut_at 10) (sym none ∙ same) ∙ is in
    cc

some-cut : (o : Option (List ℕ × List ℕ)) → is_some o ≡ true → (cut : List ℕ × List ℕ) × (o ≡ Some cut)
some-cut None e = cc
some-cut (Some cut) e = (cut, refl)

-- the line up to the newline that was read ahead
same-cut : (xs ahead part ys : List ℕ) (cut : List ℕ × List ℕ) → cut_at 10 xs ≡ Some cut → ahead ≡ xs → ahead ≡ part ++ 10 ∷ ys → cut_at 10 part ≡ None → part ≡ cut.0
same-cut xs ahead part ys cut is same whole plain =
    let both : Some (part, ys) ≡ Some cut = sym (cut-here 10 part ys plain refl) ∙ (ap (cut_at 10) (sym whole ∙ same) ∙ is) in
    let pair : (part, ys) ≡ cut = cc in
    ap (λ (p : List ℕ × List ℕ). p.0) pair

ends-ahead : {A : Type 0} (r r' : ReaderView) (line : List ℕ) (result : Result A ReadFault) → EndsLine r r' result → r.line ≡ line
    → (result ≢ Err fault.Read) × OnOk result (r'.line ≡ line)
ends-ahead r r' line (Ok x) ends is = ((λ e. cc), ap line_of ends.0 ∙ is)
ends-ahead r r' line (Err found) ends is = ((λ e. let found_is = ends.0 in cc), tt)

pub loop-reader-init : goal.loop-reader-init
loop-reader-init g c =
    let old = c.args.reader.now in
    let new = c.begin_line.new.self in
    let same = c.begin_line.ensures in
    let empty : new.line ≡ [] = ap line_of same in
    record {
      told = λ rest has. begins old new (g.S.Source.left c.args.source.now) rest same has;
      plain = ap (cut_at 10) empty;
      short = omega (arith, ap length empty);
      number = ap (λ (v : ReaderView). v.number) same;
      most = ap (λ (v : ReaderView). v.most) same;
      events = ap (λ (v : ReaderView). v.events) same;
      ended = ap (λ (v : ReaderView). v.ended) same;
      quiet = refl;
      first = λ cut is. (ap ahead_of same, empty, refl);
    }

pub returns-in_err-fill-clause-told : goal.returns-in_err-fill-clause-told
returns-in_err-fill-clause-told g c = λ rest has.
    let inv = c.loop-reader.invariant in
    let p = err_from_is_err_and c.from_residual.result c.from_residual.ensures.1 in
    let r = c.loop-reader.reader in
    let r' = c.fill.new.self in
    let s = g.S.Source in
    let kept = c.fill.ensures.kept in
    let failed = c.in_err-fill.ensures.failed in
    let begun = fills r r' (s.left c.loop-reader.source) (s.left c.fill.new.source) rest (ap line_of kept) c.fill.ensures.told (inv.told rest has) in
    let plain : cut_at 10 r'.line ≡ None = ap (λ (v : ReaderView). cut_at 10 v.line) kept ∙ inv.plain in
    rw (p.1, p.2, failed.0) (by-read (Unit {0}) c.args.reader.now r' (s.left c.fill.new.source) rest begun plain (omega (arith, inv.short, ap (λ (v : ReaderView). length v.line) kept)) failed.3)

pub returns-in_err-fill-clause-ahead : goal.returns-in_err-fill-clause-ahead
returns-in_err-fill-clause-ahead g c = λ cut is.
    let before = c.loop-reader.invariant.first cut is in
    let still = c.fill.ensures.still (some-ahead c.loop-reader.reader.ahead c.args.reader.now.ahead cut is before.0) in
    let both = sym c.in_err-fill.was ∙ still.0 in
    cc

pub returns-in-Newline-clause-ahead : goal.returns-in-Newline-clause-ahead
returns-in-Newline-clause-ahead g c = λ cut is.
    let before = c.loop-reader.invariant.first cut is in
    let still = c.fill.ensures.still (some-ahead c.loop-reader.reader.ahead c.args.reader.now.ahead cut is before.0) in
    let takes = rw c.in-Newline.is at c.in_ok-take_piece.ensures.takes in
    let part = same-cut c.args.reader.now.ahead c.fill.new.self.ahead takes.0 c.take_piece.new.self.ahead cut is (ap ahead_of still.1 ∙ before.0) takes.1 takes.2 in
    let line = takes.3 ∙ (ap (λ (v : ReaderView). v.line ++ takes.0) still.1 ∙ (ap (λ xs. xs ++ takes.0) before.1 ∙ part)) in
    ends-ahead c.take_piece.new.self c.end_line.new.self cut.0 c.end_line.result c.end_line.ensures.ends line

pub returns-clause-ahead : goal.returns-clause-ahead
returns-clause-ahead g c = λ cut is.
    let before = c.loop-reader.invariant.first cut is in
    let still = c.fill.ensures.still (some-ahead c.loop-reader.reader.ahead c.args.reader.now.ahead cut is before.0) in
    let both : Ok false ≡ Ok true = sym (c.in_ok-fill.was ∙ ap Ok c.if-branch.false) ∙ still.0 in
    cc

pub returns-in-Newline-clause-told : goal.returns-in-Newline-clause-told
returns-in-Newline-clause-told g c = λ rest has.
    let inv = c.loop-reader.invariant in
    let r = c.loop-reader.reader in
    let r1 = c.fill.new.self in
    let r2 = c.take_piece.new.self in
    let s = g.S.Source in
    let kept = c.fill.ensures.kept in
    let kept' = c.take_piece.ensures.kept in
    let begun = fills r r1 (s.left c.loop-reader.source) (s.left c.fill.new.source) rest (ap line_of kept) c.fill.ensures.told (inv.told rest has) in
    let plain : cut_at 10 r1.line ≡ None = ap (λ (v : ReaderView). cut_at 10 v.line) kept ∙ inv.plain in
    by-newline (Unit {0}) c.args.reader.now r1 r2 c.end_line.new.self (s.left c.fill.new.source) rest c.end_line.result begun plain (rw c.in-Newline.is at c.in_ok-take_piece.ensures.takes)
    c.in_ok-take_piece.ensures.room
    (ap (λ (v : ReaderView). v.ended) kept')
    (λ is. (c.in_ok-fill.ensures.going (ap Ok c.if-branch.true)).1 ∙ (inv.ended ∙ is))
    (ap (λ (v : ReaderView). v.number) kept' ∙ (ap (λ (v : ReaderView). v.number) kept ∙ inv.number))
    (ap (λ (v : ReaderView). v.most) kept' ∙ (ap (λ (v : ReaderView). v.most) kept ∙ inv.most))
    c.end_line.ensures.ends

pub loop-reader-preserved : goal.loop-reader-preserved
loop-reader-preserved g c =
    let inv = c.loop-reader.invariant in
    let r = c.loop-reader.reader in
    let r1 = c.fill.new.self in
    let r2 = c.take_piece.new.self in
    let s = g.S.Source in
    let kept = c.fill.ensures.kept in
    let kept' = c.take_piece.ensures.kept in
    let takes = rw c.in-GoesOn.is at c.in_ok-take_piece.ensures.takes in
    let plain : cut_at 10 r1.line ≡ None = ap (λ (v : ReaderView). cut_at 10 v.line) kept ∙ inv.plain in
    record {
      told = λ rest has. goes-on r1 r2 (s.left c.fill.new.source) rest takes (ap (λ (v : ReaderView). v.ended) kept')
          (fills r r1 (s.left c.loop-reader.source) (s.left c.fill.new.source) rest (ap line_of kept) c.fill.ensures.told (inv.told rest has));
      plain = ap (cut_at 10) takes.2 ∙ none-append 10 r1.line r1.ahead plain takes.1;
      short = c.in_ok-take_piece.ensures.room;
      number = ap (λ (v : ReaderView). v.number) kept' ∙ (ap (λ (v : ReaderView). v.number) kept ∙ inv.number);
      most = ap (λ (v : ReaderView). v.most) kept' ∙ (ap (λ (v : ReaderView). v.most) kept ∙ inv.most);
      events = ap (λ (v : ReaderView). v.events) kept' ∙ (ap (λ (v : ReaderView). v.events) kept ∙ inv.events);
      ended = ap (λ (v : ReaderView). v.ended) kept' ∙ ((c.in_ok-fill.ensures.going (ap Ok c.if-branch.true)).1 ∙ inv.ended);
      quiet = c.in_ok-fill.ensures.quiet (λ e. cc) ∙ inv.quiet;
      first = λ cut is.
          let before = inv.first cut is in
          let still = c.fill.ensures.still (some-ahead r.ahead c.args.reader.now.ahead cut is before.0) in
          let none : Some cut ≡ None = sym is ∙ (ap (cut_at 10) (sym before.0) ∙ (ap (λ (v : ReaderView). cut_at 10 v.ahead) (sym still.1) ∙ takes.1)) in
          cc;
    }

pub returns-in-TooLong-clause-told : goal.returns-in-TooLong-clause-told
returns-in-TooLong-clause-told g c = λ rest has.
    let inv = c.loop-reader.invariant in
    let r = c.loop-reader.reader in
    let r1 = c.fill.new.self in
    let r2 = c.take_piece.new.self in
    let s = g.S.Source in
    let kept = c.fill.ensures.kept in
    let kept' = c.take_piece.ensures.kept in
    let begun = fills r r1 (s.left c.loop-reader.source) (s.left c.fill.new.source) rest (ap line_of kept) c.fill.ensures.told (inv.told rest has) in
    let plain : cut_at 10 r1.line ≡ None = ap (λ (v : ReaderView). cut_at 10 v.line) kept ∙ inv.plain in
    rw c.refuse_next.ensures.is (by-length (Unit {0}) c.args.reader.now r1 r2 (s.left c.fill.new.source) rest begun plain (rw c.in-TooLong.is at c.in_ok-take_piece.ensures.takes)
    (ap (λ (v : ReaderView). v.ended) kept')
    (ap (λ (v : ReaderView). v.number) kept' ∙ (ap (λ (v : ReaderView). v.number) kept ∙ inv.number))
    c.refuse_next.ensures.few)

pub returns-then-is_empty-clause-told : goal.returns-then-is_empty-clause-told
returns-then-is_empty-clause-told g c = λ rest has.
    let inv = c.loop-reader.invariant in
    let r = c.loop-reader.reader in
    let r1 = c.fill.new.self in
    let s = g.S.Source in
    let kept = c.fill.ensures.kept in
    let begun = fills r r1 (s.left c.loop-reader.source) (s.left c.fill.new.source) rest (ap line_of kept) c.fill.ensures.told (inv.told rest has) in
    at-end (Unit {0}) c.args.reader.now r1 (s.left c.fill.new.source) rest begun (sym c.line.ensures ∙ no-length c.line.result.now (sym c.is_empty.ensures ∙ c.if-is_empty.true)) (c.in_ok-fill.ensures.over (ap Ok c.if-branch.false)).1

pub returns-clause-told : goal.returns-clause-told
returns-clause-told g c = λ rest has.
    let inv = c.loop-reader.invariant in
    let r = c.loop-reader.reader in
    let r1 = c.fill.new.self in
    let s = g.S.Source in
    let kept = c.fill.ensures.kept in
    let begun = fills r r1 (s.left c.loop-reader.source) (s.left c.fill.new.source) rest (ap line_of kept) c.fill.ensures.told (inv.told rest has) in
    let plain : cut_at 10 r1.line ≡ None = ap (λ (v : ReaderView). cut_at 10 v.line) kept ∙ inv.plain in
    by-end (Unit {0}) c.args.reader.now r1 c.end_line-2.new.self (s.left c.fill.new.source) rest c.end_line-2.result begun plain
    (omega (arith, inv.short, ap (λ (v : ReaderView). length v.line) kept))
    (omega (arith, ap length c.line.ensures, some-length c.line.result.now (sym c.is_empty.ensures ∙ c.if-is_empty.false)))
    (c.in_ok-fill.ensures.over (ap Ok c.if-branch.false)).1
    (ap (λ (v : ReaderView). v.number) kept ∙ inv.number)
    (ap (λ (v : ReaderView). v.most) kept ∙ inv.most)
    c.end_line-2.ensures.ends

pub returns-in_err-fill-clause-near : goal.returns-in_err-fill-clause-near
returns-in_err-fill-clause-near g c = λ rest has.
    fills-near c.loop-reader.reader c.fill.new.self (g.S.Source.left c.loop-reader.source) (g.S.Source.left c.fill.new.source) rest
    (ap line_of c.fill.ensures.kept) c.fill.ensures.told c.fill.ensures.few c.loop-reader.invariant.plain (c.loop-reader.invariant.told rest has)

pub returns-in_err-take_piece-clause-near : goal.returns-in_err-take_piece-clause-near
returns-in_err-take_piece-clause-near g c = λ rest has.
    fills-near c.loop-reader.reader c.fill.new.self (g.S.Source.left c.loop-reader.source) (g.S.Source.left c.fill.new.source) rest
    (ap line_of c.fill.ensures.kept) c.fill.ensures.told c.fill.ensures.few c.loop-reader.invariant.plain (c.loop-reader.invariant.told rest has)

pub returns-in-Newline-clause-near : goal.returns-in-Newline-clause-near
returns-in-Newline-clause-near g c = λ rest has.
    fills-near c.loop-reader.reader c.fill.new.self (g.S.Source.left c.loop-reader.source) (g.S.Source.left c.fill.new.source) rest
    (ap line_of c.fill.ensures.kept) c.fill.ensures.told c.fill.ensures.few c.loop-reader.invariant.plain (c.loop-reader.invariant.told rest has)

pub returns-in-TooLong-clause-near : goal.returns-in-TooLong-clause-near
returns-in-TooLong-clause-near g c = λ rest has.
    fills-near c.loop-reader.reader c.fill.new.self (g.S.Source.left c.loop-reader.source) (g.S.Source.left c.fill.new.source) rest
    (ap line_of c.fill.ensures.kept) c.fill.ensures.told c.fill.ensures.few c.loop-reader.invariant.plain (c.loop-reader.invariant.told rest has)

pub returns-then-is_empty-clause-near : goal.returns-then-is_empty-clause-near
returns-then-is_empty-clause-near g c = λ rest has.
    fills-near c.loop-reader.reader c.fill.new.self (g.S.Source.left c.loop-reader.source) (g.S.Source.left c.fill.new.source) rest
    (ap line_of c.fill.ensures.kept) c.fill.ensures.told c.fill.ensures.few c.loop-reader.invariant.plain (c.loop-reader.invariant.told rest has)

pub returns-clause-near : goal.returns-clause-near
returns-clause-near g c = λ rest has.
    fills-near c.loop-reader.reader c.fill.new.self (g.S.Source.left c.loop-reader.source) (g.S.Source.left c.fill.new.source) rest
    (ap line_of c.fill.ensures.kept) c.fill.ensures.told c.fill.ensures.few c.loop-reader.invariant.plain (c.loop-reader.invariant.told rest has)

pub returns-in_err-take_piece-clause-unread : goal.returns-in_err-take_piece-clause-unread
returns-in_err-take_piece-clause-unread g c = λ is.
    let cut = some-cut (cut_at 10 c.args.reader.now.ahead) is in
    let before = c.loop-reader.invariant.first cut.0 cut.1 in
    c.fill.ensures.unread (some-ahead c.loop-reader.reader.ahead c.args.reader.now.ahead cut.0 cut.1 before.0) ∙ before.2

pub returns-in-Newline-clause-unread : goal.returns-in-Newline-clause-unread
returns-in-Newline-clause-unread g c = λ is.
    let cut = some-cut (cut_at 10 c.args.reader.now.ahead) is in
    let before = c.loop-reader.invariant.first cut.0 cut.1 in
    c.fill.ensures.unread (some-ahead c.loop-reader.reader.ahead c.args.reader.now.ahead cut.0 cut.1 before.0) ∙ before.2
