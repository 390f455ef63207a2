use Rattle.std.proofs.Common.{◌≡◌, drop}
use Rattle.vst_base.specs.Stacks.{named_among}
use Rattle.vst_base.proofs.stack.named_among.Given as goal

-- no row so far has the word, so the rest of them decide
abbrev pub invariant-loop-row : goal.invariant-loop-row
invariant-loop-row l = named_among (drop l.row-index l.rows) l.word ≡ named_among l.rows l.word
