use Rattle.std.proofs.Common.{List, ◌++◌, take}
use Rattle.vst_base.specs.declared.pb_out.PbOut.{PbOut}
use Rattle.vst_base.specs.declared.step.Item.{Item}
use Rattle.trace_maps.specs.SingleNode.{HasSeen}
use Rattle.trace_maps.proofs.replied_to.RepliedTo.see_all.Given as goal

abbrev pub invariant-loop-item : goal.invariant-loop-item
invariant-loop-item g l = (items : List (Item g.row.I.Denot (PbOut g.row.O.Denot))) → HasSeen l.initial.self items → HasSeen l.self (items ++ take l.item-index l.seen)
