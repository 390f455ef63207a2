use Rattle.std.proofs.Common.{◌≡◌, take}
use Rattle.node_acts.specs.Stores.{terms_of}
use Rattle.node_state.proofs.common.terms_of.Given as goal

abbrev pub invariant-loop-entry : goal.invariant-loop-entry
invariant-loop-entry g l = l.terms.items ≡ terms_of (take l.entry-index l.entries)
