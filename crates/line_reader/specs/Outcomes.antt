-- What reading a line comes to. What is said of the rest of a text holds where the source tells.
use Rattle.std.specs.Prelude.{◌≡◌, ℕ, true, false, ◌+◌, ◌-◌, ◌<◌, ◌≤◌, List, [], ◌∷◌, ◌++◌, length, Option, Some, None, Result, Ok, Err}
use Rattle.outside.specs.Counting.{Rose}
use Rattle.vst_base.specs.Firsts.{first_of}
use Rattle.line_reader.specs.Lines.{cut_at, split_lines, lines_of, whole_lines, after_lines, decided}
use Rattle.line_reader.specs.Whys.{line_refusals}
use Rattle.line_reader.specs.Readers.{ReaderView, HasRest}
use Rattle.line_reader.specs.declared.why.Why.TheVariants as why
use Rattle.line_reader.specs.declared.piece.Piece.{Piece}
use Rattle.line_reader.specs.declared.piece.Piece.TheVariants as piece
use Rattle.line_reader.specs.declared.read_fault.ReadFault.{ReadFault}
use Rattle.line_reader.specs.declared.read_fault.ReadFault.TheVariants as fault

-- some lines of the rest were used: it is these bytes and what is left of it. Each of their lines has its newline, unless
-- the end was met, and they are counted
pub record Uses (old new : ReaderView) (left' : Option (List ℕ)) (rest used : List ℕ) : Type 0 where
  pub rest' : List ℕ
  pub left : HasRest new left' rest'
  pub whole : rest ≡ used ++ rest'
  pub lines : lines_of rest ≡ lines_of used ++ lines_of rest'
  pub closed : new.ended ≡ false → (split_lines used).1 ≡ []
  pub advanced : rest' ≡ after_lines (length (lines_of used)) rest
  pub number : new.number ≡ old.number + length (lines_of used)
  pub stays : old.ended ≡ true → new.ended ≡ true

-- the end was met, and nothing is left
pub record EndsAll (new : ReaderView) (left' : Option (List ℕ)) : Type 0 where
  pub ended : new.ended ≡ true
  pub left : HasRest new left' []

-- the rest was used up to the byte that decided the line of this number, and at most 4,096 bytes were read past it
pub record StandsAt (old new : ReaderView) (left' : Option (List ℕ)) (rest : List ℕ) (number : ℕ) : Type 0 where
  pub rest' : List ℕ
  pub left : HasRest new left' rest'
  pub used : List ℕ
  pub whole : rest ≡ used ++ rest'
  pub later : old.number < number
  pub decides : length used ≡ decided (number - old.number) rest
  pub few : length new.ahead ≤ 4096

-- a read failed after this part of the rest, and what is left of it is with the source. What stands after the last newline
-- of the part is not too long yet
pub record BreaksOff (left' : Option (List ℕ)) (rest part : List ℕ) : Type 0 where
  pub rest' : List ℕ
  pub left_is : left' ≡ Some rest'
  pub whole : rest ≡ part ++ rest'
  pub short : length (split_lines part).1 ≤ 4096

-- what was read of a rest is this part of it, and at most 4,096 bytes more
pub record ReadsPast (left' : Option (List ℕ)) (rest early : List ℕ) : Type 0 where
  pub late : List ℕ
  pub others : List ℕ
  pub left_is : left' ≡ Some others
  pub whole : rest ≡ early ++ (late ++ others)
  pub few : length late ≤ 4096

-- at most 4,096 bytes were read past a part that has no whole line
abbrev pub LineIsNear : Option (List ℕ) → List ℕ → Type 0
LineIsNear left' rest = (early : List ℕ) × ReadsPast left' rest early × (whole_lines early ≡ [])

-- what the next line of a rest is
abbrev pub ReadsLine : {A : Type 0} → ReaderView → ReaderView → Option (List ℕ) → List ℕ → Result A ReadFault → Type 0
ReadsLine old new left' rest (Ok x) =
    (used : List ℕ) × Uses old new left' rest used × StandsAt old new left' rest new.number × (lines_of used ≡ new.line ∷ [])
    × (first_of (line_refusals new.most new.number new.line) ≡ None)
ReadsLine old new left' rest (Err fault.End) = EndsAll new left' × (rest ≡ [])
ReadsLine old new left' rest (Err (fault.Refused number w)) =
    StandsAt old new left' rest number × (number ≡ old.number + 1)
    × (l : List ℕ) × (ls : List (List ℕ)) × (lines_of rest ≡ l ∷ ls) × (first_of (line_refusals old.most number l) ≡ Some w)
ReadsLine old new left' rest (Err fault.Read) = (part : List ℕ) × BreaksOff left' rest part × (whole_lines part ≡ [])
ReadsLine old new left' rest (Err fault.Memory) = Unit {0}

-- a failed read has its fault, and does not come once the end was met
abbrev pub HasReadCause : ReaderView → ℕ → ℕ → ReadFault → Type 0
HasReadCause old faults faults' fault.Read = Rose faults faults' × (old.ended ≡ false)
HasReadCause old faults faults' fault.End = Unit {0}
HasReadCause old faults faults' fault.Memory = Unit {0}
HasReadCause old faults faults' (fault.Refused number w) = Unit {0}

-- where a reader stops that has no line. At the end nothing is ahead, and the end was met. At a failed read nothing is ahead,
-- the end was not met, and the line is what came of the one that broke off. At a refusal at most 4,096 bytes are ahead, and
-- at most as many in the line
abbrev pub StopsAt : ReaderView → ReadFault → Type 0
StopsAt new fault.End = (new.line ≡ []) × (new.ahead ≡ []) × (new.ended ≡ true)
StopsAt new fault.Read = (cut_at 10 new.line ≡ None) × (length new.line ≤ 4096) × (new.ahead ≡ []) × (new.ended ≡ false)
StopsAt new (fault.Refused number w) = (length new.line ≤ 4096) × (length new.ahead ≤ 4096)
StopsAt new fault.Memory = Unit {0}

-- the only fault of a read by itself
abbrev pub CannotRead : ReaderView → ReaderView → ℕ → ℕ → ReadFault → Type 0
CannotRead old new faults faults' found =
    (found ≡ fault.Read) × Rose faults faults' × (old.ended ≡ false) × (new.ahead ≡ []) × (new.ended ≡ false)

-- a piece of a line was taken from what was read ahead
abbrev pub TakesPiece : ReaderView → ReaderView → Piece → Type 0
TakesPiece old new piece.Newline =
    (part : List ℕ) × (old.ahead ≡ part ++ 10 ∷ new.ahead) × (cut_at 10 part ≡ None) × (new.line ≡ old.line ++ part)
TakesPiece old new piece.GoesOn = (new.ahead ≡ []) × (cut_at 10 old.ahead ≡ None) × (new.line ≡ old.line ++ old.ahead)
TakesPiece old new piece.TooLong =
    (part : List ℕ) × (old.ahead ≡ part ++ new.ahead) × (cut_at 10 part ≡ None) × (length old.line + length part ≡ 4097)

-- a line was ended, or its number is too great
abbrev pub EndsLine : {A : Type 0} → ReaderView → ReaderView → Result A ReadFault → Type 0
EndsLine old new (Ok x) = (new ≡ record old { number = old.number + 1 }) × (new.number ≤ new.most) × (length new.ahead ≤ 4096)
EndsLine old new (Err found) =
    (found ≡ fault.Refused (old.number + 1) why.TooManyEvents) × (new ≡ old) × (old.number ≡ old.most) × (length old.ahead ≤ 4096)
