use Rattle.std.proofs.Common.{rules}
use Rattle.std.proofs.lemmas.Iterator.{YieldsList-from_map_by, YieldsList-from_slice}
use Rattle.std.proofs.lemmas.Iterator.Consumers.{YieldsList-from_filter, map_from_collect}
use Rattle.vst_base.specs.Stacks.{rows, stack_word}
use Rattle.vst_base.specs.declared.stack.StackRow.{StackRow}
use Rattle.command_line.specs.CommandSet.{carries_packets}
use Rattle.command_line.proofs.command_set.packet_stack_words.Goals as goal

pub returns : goal.returns
returns c = map_from_collect _ c.collect.ensures.ran
    (YieldsList-from_map_by _ (λ word. word.now) (λ (row : StackRow). stack_word row.stack)
    (YieldsList-from_filter _ carries_packets (YieldsList-from_slice rows cc) c.filter.ensures.closure (λ x b q k. search rules))
    c.map.ensures.closure (λ x r q k. search rules))
