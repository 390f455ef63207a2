use Rattle.std.proofs.Common.{◌∙◌, List, ap, map, string_bytes}
use Rattle.std.proofs.lemmas.Result.{IfOk-weaker}
use Rattle.clap.specs.Walk.{Text, texts}
use Rattle.command_line.proofs.Reading.{IsCommandSet, made_can_be, node_can_be, refused_exactly, with_matches, without_matches}
use Rattle.command_line.proofs.words.read_words.Goals as goal

pub returns-in-Ok : goal.returns-in-Ok
returns-in-Ok c =
    let words : List Text = map string_bytes c.args.words.now in
    let is : IsCommandSet _ = record {
      stacks = _;
      packet_stacks = _;
      words = ap texts c.deref.ensures.value ∙ c.in_ok-stacks.ensures;
      packet_words = ap texts c.deref-2.ensures.value ∙ c.in_ok-packet_stacks.ensures;
      commands = c.in_ok-command_set.ensures;
    } in
    let answer = IfOk-weaker c.asked_entered.result _ _ (λ asked e. with_matches _ words c.in-Ok.matches asked is c.in-Ok.ensures.matches c.in-Ok.ensures.kinds e) c.asked_entered.ensures in
    record {
      asked = answer;
      refused = IfOk-weaker c.asked_entered.result _ _ (refused_exactly words) answer;
      made = IfOk-weaker c.asked_entered.result _ _ (made_can_be words) answer;
      node = IfOk-weaker c.asked_entered.result _ _ (node_can_be words) answer;
    }

pub returns : goal.returns
returns c =
    let words : List Text = map string_bytes c.args.words.now in
    let is : IsCommandSet _ = record {
      stacks = _;
      packet_stacks = _;
      words = ap texts c.deref.ensures.value ∙ c.in_ok-stacks.ensures;
      packet_words = ap texts c.deref-2.ensures.value ∙ c.in_ok-packet_stacks.ensures;
      commands = c.in_ok-command_set.ensures;
    } in
    let answer = without_matches _ words c.kind.result c.refused_by.result is (λ taken. c.kind.ensures ∙ c.in-Err.ensures.passes taken) c.refused_by.ensures.memory c.refused_by.ensures.refused in
    record {
      asked = answer;
      refused = IfOk-weaker c.refused_by.result _ _ (refused_exactly words) answer;
      made = IfOk-weaker c.refused_by.result _ _ (made_can_be words) answer;
      node = IfOk-weaker c.refused_by.result _ _ (node_can_be words) answer;
    }
