use Rattle.std.proofs.Common.{rules, sym, ◌∙◌}
use denote.Enum.Bare.{same_true, true_same}
use Rattle.vst_base.specs.contracts.stack.StackId.{the_type}
use Rattle.node_datagrams.proofs.Stacks.{same_byte}
use Rattle.node_datagrams.proofs.hearing.same_stack.Goals as goal

pub returns : goal.returns
returns c =
    same_byte c.args.a c.args.b c.eq.result c.requires (λ yes. same_true the_type (search rules) _ _ (sym c.eq.ensures ∙ yes))
    (λ is. c.eq.ensures ∙ true_same the_type _ _ is)
