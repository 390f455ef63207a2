use Rattle.std.proofs.Common.{◌≡◌, ◌++◌, drop, map}
use Rattle.vst_base.specs.Machines.{fold, outputs_from}
use Rattle.claim_verdicts.proofs.outputs.outputs_of.Given as goal

-- the outputs so far and those of the requests that are left are all
abbrev pub invariant-loop-request : goal.invariant-loop-request
invariant-loop-request g l =
    let m = g.M.Machine.meaning l.machine in
    l.outputs.items ++ outputs_from m l.state (map (λ r. r.cmd) (drop l.request-index l.order)) ≡ fold m (map (λ r. r.cmd) l.order)
