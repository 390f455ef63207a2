-- A packet as it is kept: what contracts see of it.
use Rattle.std.specs.Prelude.{ℕ, Option}

-- its ends, how many copies are in flight, and its content, which goes with the last copy
pub record Shown (M : Type 0) : Type 0 where
  pub source : ℕ
  pub destination : ℕ
  pub copies : ℕ
  pub content : Option M
