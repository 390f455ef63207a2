-- Entries of logs (the Raft paper).
use Rattle.std.specs.Prelude.{ℕ, ◌<◌, ◌≤◌}
use Rattle.vst_base.specs.declared.entry.TheConstants.{MAX_TERM}
use Rattle.vst_base.specs.declared.node.TheConstants.{MAX_NODES}
use Rattle.vst_base.specs.declared.what.What.{What}
use Rattle.vst_base.specs.declared.what.What.TheVariants.{Noop, Request}

-- the term in which a leader added the entry, and what it holds
pub record EntryView (C : Type 0) : Type 0 where
  pub term : ℕ
  pub what : What C

-- a term in which a node may be elected: term 0 is before the first election
abbrev pub IsElectionTerm : ℕ → Type 0
IsElectionTerm t = (1 ≤ t) × (t ≤ MAX_TERM)

-- a node that an entry names: one of a cluster
abbrev pub IsOrigin : ℕ → Type 0
IsOrigin n = n < MAX_NODES

-- a request was taken by a node of a cluster
abbrev pub HasOrigin : {C : Type 0} → What C → Type 0
HasOrigin Noop = Unit {0}
HasOrigin (Request client request origin cmd) = IsOrigin origin
