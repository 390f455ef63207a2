use Rattle.std.proofs.Common.{◌≡◌, ◌++◌, drop}
use Rattle.net_semantics.specs.BelowPb.{inputs_at}
use Rattle.vst_base.specs.Machines.{fold, outputs_from}
use Rattle.claim_verdicts.proofs.answering.answers_of.Given as goal

-- the outputs so far and those of the inputs that are left are all
abbrev pub invariant-loop-item : goal.invariant-loop-item
invariant-loop-item g l =
    let m = g.M.Machine.meaning l.machine in
    l.outputs.items ++ outputs_from m l.state (inputs_at 0 (drop l.item-index l.trace)) ≡ fold m (inputs_at 0 l.trace)
