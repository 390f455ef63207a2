use Rattle.std.proofs.Common.{◌≡◌, ◌++◌, take}
use Rattle.app_text.proofs.Printed.{spaced}
use Rattle.app_text.proofs.printing.push_args.Given as goal

-- what the words so far add
abbrev pub invariant-loop-word : goal.invariant-loop-word
invariant-loop-word l = l.out.items ≡ l.fn.out.items ++ spaced (take l.word-index l.args)
