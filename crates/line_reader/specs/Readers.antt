-- What contracts see of a reader of lines.
use Rattle.std.specs.Prelude.{◌≡◌, ℕ, Bool, true, false, List, [], ◌++◌, Option, Some}

-- what was read ahead, the line that was read last and its number, the greatest number of a line, how many events were
-- counted, and whether the end of the source was met
pub record ReaderView : Type 0 where
  pub ahead : List ℕ
  pub line : List ℕ
  pub number : ℕ
  pub most : ℕ
  pub events : ℕ
  pub ended : Bool

-- nothing was read yet
abbrev pub fresh : ℕ → ReaderView
fresh most = record { ahead = []; line = []; number = 0; most = most; events = 0; ended = false }

-- what a reader has before it, where its source tells: what was read ahead and what the source has left together, and
-- nothing once the end was met
pub record HasRest (r : ReaderView) (left : Option (List ℕ)) (rest : List ℕ) : Type 0 where
  pub unread : List ℕ
  pub left_is : left ≡ Some unread
  pub rest_is : rest ≡ r.ahead ++ unread
  pub at_end : r.ended ≡ true → rest ≡ []
