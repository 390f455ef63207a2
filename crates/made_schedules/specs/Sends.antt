-- Handlers whose events send few packets.
use Rattle.std.specs.Prelude.{ℕ, ◌≤◌, length}
use Rattle.handler_trait.specs.Handling.{Meaning}
use Rattle.vst_base.specs.declared.node.TheConstants.{MAX_NODES}

-- each event sends at most so many packets, in any state and at any node number: no node has to exist here
pub record SendsAtMost {S I O M : Type 0} (most : ℕ) (m : Meaning S I O M) : Type 0 where
  pub input : (n : ℕ) (s : S) (i : I) → length (m.input n s i).sends ≤ most
  pub message : (n : ℕ) (s : S) (from : ℕ) (c : M) → length (m.message n s from c).sends ≤ most
  pub timeout : (n : ℕ) (s : S) → length (m.timeout n s).sends ≤ most

-- no more than a cluster may have nodes
abbrev pub SendsFew : {S I O M : Type 0} → Meaning S I O M → Type 0
SendsFew m = SendsAtMost MAX_NODES m
