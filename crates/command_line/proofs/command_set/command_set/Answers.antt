use Rattle.std.proofs.Common.{rules, ◌≡◌, ◌∙◌, ap, ap₂, codes}
use Rattle.std.proofs.lemmas.Result.{IfOk-weaker}
use Rattle.clap.specs.Words.{App, Shape, app_of, new_app, with_subcommand}
use Rattle.command_line.specs.CommandSet.{check_command, make_command, with_subcommand_required}
use Rattle.command_line.proofs.Locals.{none_global}
use Rattle.command_line.proofs.command_set.command_set.Goals as goal

top_of : App → Shape
top_of a = a.top

pub returns : goal.returns
unfolding top_of
returns c =
    let program : app_of c.subcommand_required.result ≡ with_subcommand_required (new_app (codes "vst")) = search rules in
    let with_replay = c.in_ok-subcommand.ensures.shape c.new-2.ensures.local ∙ ap₂ with_subcommand program (ap top_of c.new-2.ensures.app) in
    let check = c.in_ok-check_command.ensures ∙ ap check_command c.into.ensures in
    let with_check = c.in_ok-subcommand-2.ensures.shape (none_global _ _ _ _ (ap (λ (a : App). a.top.is_plain) check)) ∙ ap₂ with_subcommand with_replay (ap top_of check) in
    let make = c.in_ok-make_command.ensures ∙ ap make_command c.into-2.ensures in
    let with_make = c.in_ok-subcommand-3.ensures.shape (none_global _ _ _ _ (ap (λ (a : App). a.top.is_plain) make)) ∙ ap₂ with_subcommand with_check (ap top_of make) in
    let node = c.in_ok-node_command.ensures in
    IfOk-weaker c.subcommand-4.result _ _ (λ command added. added.shape (none_global _ _ _ _ (ap (λ (a : App). a.top.is_plain) node)) ∙ ap₂ with_subcommand with_make (ap top_of node)) c.subcommand-4.ensures
