-- A machine on a cluster.
use Rattle.std.specs.Prelude.{ℕ}

-- the machine, and how many nodes there are
pub record Cluster (M : Type 0) : Type 0 where
  pub machine : M
  pub nodes : ℕ
