-- A node to run, as contracts see it.
use Rattle.std.specs.Prelude.{ℕ, List}

-- which node of its configuration it is, for how many turns it runs, and the bytes of its state's directory
pub record NodeWordsView : Type 0 where
  pub me : ℕ
  pub turns : ℕ
  pub state : List ℕ
