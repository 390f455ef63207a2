-- The acts of a whole run, by the rows of a node's turns.
use Rattle.std.proofs.Common.{◌≡◌, ℕ, [], ◌∷◌, ◌++◌, Option, None, Some, codes, refl, sym, ◌∙◌, arith}
use Rattle.node_config.specs.Examples.{local, sample_with}
use Rattle.node_device.specs.Examples.{counts}
use Rattle.node_device.specs.Telling.{told_after}
use Rattle.slots.specs.Opening.{BadSelector, Why}
use Rattle.udp_node.specs.Examples.{begun, fresh_opening, voting}
use Rattle.commands.specs.NodeExamples.{selecting, untouched}
use Rattle.commands.proofs.NodeTold.{configured_so, opens_so, served_so}
use Rattle.commands.proofs.node_told_examples.worked_turns.Goals as goal

pub returns-clause-served : goal.returns-clause-served
returns-clause-served c = record {
  config = sample_with 0 [];
  at = local 7000;
  configured_so = configured_so 3 (codes "d") _ _ c.worked_texts.ensures.whole;
  areas = c.worked_areas.ensures.why_fresh;
  turns = c.worked_serving.ensures.votes;
  counts = record { begin = refl; receive = refl; store = refl; send = omega arith };
}

pub returns-clause-a_turn_less : goal.returns-clause-a_turn_less
returns-clause-a_turn_less c = λ h.
    c.worked_serving.ensures.a_turn_less
    (served_so 2 (codes "d") untouched (told_after begun (fresh_opening ++ voting)) (counts 1 1) (counts 1 1) c.worked_texts.ensures.whole h)

pub returns-clause-a_turn_more : goal.returns-clause-a_turn_more
returns-clause-a_turn_more c = λ h.
    c.worked_serving.ensures.a_turn_more
    (served_so 4 (codes "d") untouched (told_after begun (fresh_opening ++ voting)) (counts 1 1) (counts 1 1) c.worked_texts.ensures.whole h)

pub returns-clause-in_another_directory : goal.returns-clause-in_another_directory
returns-clause-in_another_directory c = λ h.
    c.worked_serving.ensures.in_another_directory
    (served_so 3 (codes "e") untouched (told_after begun (fresh_opening ++ voting)) (counts 1 1) (counts 1 1) c.worked_texts.ensures.whole h)

pub returns-clause-with_a_fault : goal.returns-clause-with_a_fault
returns-clause-with_a_fault c = λ h. let e : ◌≡◌ {A = ℕ} 2 1 = h.counts.store in omega (arith, e)

not_fresh : ◌≡◌ {A = Option Why} (Some BadSelector) None → ⊥
not_fresh e = cc

pub returns-clause-on_refused_areas : goal.returns-clause-on_refused_areas
returns-clause-on_refused_areas c = λ h.
    not_fresh
    (sym c.worked_areas.ensures.why_two_selectors
    ∙ opens_so 3 (codes "d") (selecting (0 ∷ 0 ∷ [])) (told_after begun (fresh_opening ++ voting)) (counts 1 1) (counts 1 1)
    c.worked_texts.ensures.whole h)
