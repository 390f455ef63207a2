use Rattle.std.proofs.Common.{◌≡◌, ◌∙◌, ap, ap₂, codes}
use Rattle.std.proofs.lemmas.Result.{IfOk-weaker}
use Rattle.clap.specs.Words.{rule_of, with_rule}
use Rattle.command_line.specs.CommandSet.{required_option, seeds, step_counts}
use Rattle.command_line.proofs.command_set.make_command.Goals as goal

pub returns : goal.returns
returns c =
    let seed : rule_of c.required_option-2.result ≡ required_option (codes "seed") seeds = c.required_option-2.ensures.rule ∙ ap (required_option (codes "seed")) c.seeds.ensures in
    let steps : rule_of c.required_option-3.result ≡ required_option (codes "steps") step_counts =
    c.required_option-3.ensures.rule ∙ ap (required_option (codes "steps")) c.step_counts.ensures in
    let with_stack = c.in_ok-arg.ensures.shape c.required_option.ensures.local ∙ ap₂ with_rule c.new.ensures.app c.required_option.ensures.rule in
    let with_seed = c.in_ok-arg-2.ensures.shape c.required_option-2.ensures.local ∙ ap₂ with_rule with_stack seed in
    let with_steps = c.in_ok-arg-3.ensures.shape c.required_option-3.ensures.local ∙ ap₂ with_rule with_seed steps in
    IfOk-weaker c.arg-4.result _ _ (λ command added. added.shape c.flag.ensures.local ∙ ap₂ with_rule with_steps c.flag.ensures.rule) c.arg-4.ensures
