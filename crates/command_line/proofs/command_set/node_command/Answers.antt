use Rattle.std.proofs.Common.{◌≡◌, ◌∙◌, ap, ap₂, codes}
use Rattle.std.proofs.lemmas.Result.{IfOk-weaker}
use Rattle.clap.specs.Words.{rule_of, with_rule}
use Rattle.command_line.specs.CommandSet.{directories, node_numbers, required_option, turn_counts}
use Rattle.command_line.proofs.command_set.node_command.Goals as goal

pub returns : goal.returns
returns c =
    let me : rule_of c.required_option.result ≡ required_option (codes "me") node_numbers = c.required_option.ensures.rule ∙ ap (required_option (codes "me")) c.node_numbers.ensures in
    let turns : rule_of c.required_option-2.result ≡ required_option (codes "turns") turn_counts =
    c.required_option-2.ensures.rule ∙ ap (required_option (codes "turns")) c.turn_counts.ensures in
    let state : rule_of c.required_option-3.result ≡ required_option (codes "state") directories =
    c.required_option-3.ensures.rule ∙ ap (required_option (codes "state")) c.directories.ensures in
    let with_me = c.in_ok-arg.ensures.shape c.required_option.ensures.local ∙ ap₂ with_rule c.new.ensures.app me in
    let with_turns = c.in_ok-arg-2.ensures.shape c.required_option-2.ensures.local ∙ ap₂ with_rule with_me turns in
    IfOk-weaker c.arg-3.result _ _ (λ command added. added.shape c.required_option-3.ensures.local ∙ ap₂ with_rule with_turns state) c.arg-3.ensures
