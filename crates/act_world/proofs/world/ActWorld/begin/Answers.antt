use Rattle.std.proofs.Common.{◌≡◌, ◌<◌, Some, ap, length, subst, sym, ◌∙◌}
use Rattle.std.proofs.lemmas.Result.{on_ok_weaker}
use Rattle.act_world.specs.Moves.{on_node, turn_begins}
use Rattle.act_world.specs.Nodes.{with_turn}
use Rattle.act_world.specs.declared.turn.Turn.TheVariants as turn
use Rattle.act_world.proofs.Coding.{is-empty, node-there, not-empty, saved-begins}
use Rattle.act_world.proofs.world.ActWorld.begin.Goals as goal

pub returns-clause-begins : goal.returns-clause-begins
returns-clause-begins g c =
    let v = c.args.self.now in let i = c.self.inside in let node = c.index-at.result.now in
    let n = c.args.node in let event = c.args.event in let sends = c.args.effects.sends in let outputs = c.args.effects.outputs in
    let handlers : i.handlers ≡ v.handlers = ap (λ x. x.handlers) c.self.view_is in
    let below : n < length i.nodes.items = subst (λ x. n < length x.nodes) (sym c.self.view_is) c.requires.node in
    let there = node-there i.handlers i.nodes.items i.flights.items i.notes i.taken v c.self.view_is n c.place.result node c.place.ensures below c.index-at.ensures in
    let made = c.in_ok-acts.acts in
    let some = not-empty made.len made.items made.ok.0 c.if-is_empty.ensures in
    record {
      node = node;
      there = there;
      after_is = c.set_turn.ensures ∙ (ap (λ t. on_node v n (with_turn (Some (turn.Saving t)))) c.new-turn.ensures
          ∙ (saved-begins v n event sends outputs made.items some ∙ ap (λ xs. turn_begins v n event sends outputs xs) (rw handlers at c.in_ok-acts.ensures)));
    }

pub returns-then-is_empty-clause-begins : goal.returns-then-is_empty-clause-begins
returns-then-is_empty-clause-begins g c =
    let v = c.args.self.now in let i = c.self.inside in let node = c.index-at.result.now in
    let n = c.args.node in let event = c.args.event in let sends = c.args.effects.sends in let outputs = c.args.effects.outputs in
    let handlers : i.handlers ≡ v.handlers = ap (λ x. x.handlers) c.self.view_is in
    let below : n < length i.nodes.items = subst (λ x. n < length x.nodes) (sym c.self.view_is) c.requires.node in
    let there = node-there i.handlers i.nodes.items i.flights.items i.notes i.taken v c.self.view_is n c.place.result node c.place.ensures below c.index-at.ensures in
    let made = c.in_ok-acts.acts in
    let none = is-empty made.len made.items made.ok.0 c.if-is_empty.ensures in
    on_ok_weaker c.count.result (λ done. record {
      node = node;
      there = there;
      after_is = done ∙ ap (λ xs. turn_begins v n event sends outputs xs) (sym none ∙ (rw handlers at c.in_ok-acts.ensures));
    }) c.count.ensures.counts

pub returns-clause-handlers : goal.returns-clause-handlers
returns-clause-handlers g c = ap (λ v. v.handlers) c.set_turn.ensures
