-- Runs that a fault ended, by the rows of a node's faults.
use Rattle.std.proofs.Common.{◌≡◌, [], ◌∷◌, ◌++◌, Option, None, Some, codes, take, refl, sym, ◌∙◌, arith}
use Rattle.disk.specs.Acts.{Now, ReceiveFailed, StoreFailed, Sync}
use Rattle.node_acts.specs.Examples.{three_syncs}
use Rattle.node_body.specs.declared.why.Why.TheVariants as why
use Rattle.node_config.specs.Examples.{local, sample_with}
use Rattle.node_device.specs.Examples.{counts}
use Rattle.node_device.specs.Telling.{told_after}
use Rattle.node_state.specs.declared.opening.Refusal.TheVariants as refusal
use Rattle.slots.specs.Opening.{BadSelector, Why}
use Rattle.udp_node.specs.Examples.{begun, begun_doubly, fresh_opening}
use Rattle.udp_node.specs.declared.fault.NodeFault.TheVariants as fault
use Rattle.commands.specs.NodeExamples.{selecting, untouched}
use Rattle.commands.proofs.NodeTold.{breaks_third, configured_so, ended_so, heard_so}
use Rattle.commands.proofs.node_told_examples.worked_endings.Goals as goal

pub returns-clause-in_a_receive : goal.returns-clause-in_a_receive
returns-clause-in_a_receive c = record {
  config = sample_with 0 [];
  at = local 7000;
  configured_so = configured_so 3 (codes "d") _ _ c.worked_texts.ensures.whole;
  areas = c.worked_areas.ensures.why_fresh;
  ended = c.worked_faults.ensures.in_a_receive;
  counts = record { begin = refl; receive = omega arith; store = refl; send = omega arith };
}

pub returns-clause-in_the_third_turn : goal.returns-clause-in_the_third_turn
returns-clause-in_the_third_turn c = record {
  config = sample_with 0 [];
  at = local 7000;
  configured_so = configured_so 3 (codes "d") _ _ c.worked_texts.ensures.whole;
  areas = c.worked_areas.ensures.why_fresh;
  ended = breaks_third;
  counts = record { begin = refl; receive = omega arith; store = refl; send = omega arith };
}

pub returns-clause-after_another_wait : goal.returns-clause-after_another_wait
returns-clause-after_another_wait c = λ h.
    c.worked_faults.ensures.after_another_wait
    (ended_so 3 (codes "d") untouched (told_after begun (fresh_opening ++ (Now 0 ∷ Now 0 ∷ ReceiveFailed 299 ∷ []))) (counts 1 1) (counts 2 1)
    c.worked_texts.ensures.whole fault.Receive h)

pub returns-clause-in_the_first_sync : goal.returns-clause-in_the_first_sync
returns-clause-in_the_first_sync c = record {
  config = sample_with 0 [];
  at = local 7000;
  configured_so = configured_so 3 (codes "d") _ _ c.worked_texts.ensures.whole;
  areas = tt;
  ended = c.worked_faults.ensures.in_the_first_sync;
  counts = record { begin = refl; receive = refl; store = omega arith; send = omega arith };
}

pub returns-clause-in_a_sync_as_a_receive : goal.returns-clause-in_a_sync_as_a_receive
returns-clause-in_a_sync_as_a_receive c = λ h.
    c.worked_faults.ensures.in_a_sync_as_a_receive
    (ended_so 3 (codes "d") untouched (told_after begun (StoreFailed (Sync 0) ∷ [])) (counts 1 1) (counts 2 1) c.worked_texts.ensures.whole
    fault.Receive h)

pub returns-clause-for_want_of_memory : goal.returns-clause-for_want_of_memory
returns-clause-for_want_of_memory c = record {
  config = sample_with 0 [];
  at = local 7000;
  configured_so = configured_so 3 (codes "d") _ _ c.worked_texts.ensures.whole;
  areas = tt;
  ended = c.worked_faults.ensures.for_want_of_memory;
  counts = record { begin = refl; receive = refl; store = refl; send = omega arith };
}

pub returns-clause-refused : goal.returns-clause-refused
returns-clause-refused c = record {
  config = sample_with 0 [];
  at = local 7000;
  configured_so = configured_so 3 (codes "d") _ _ c.worked_texts.ensures.whole;
  areas = c.worked_areas.ensures.why_two_selectors;
  ended = c.worked_areas.ensures.refused;
  counts = record { begin = refl; receive = refl; store = refl; send = omega arith };
}

pub returns-clause-refused_unsynced : goal.returns-clause-refused_unsynced
returns-clause-refused_unsynced c = λ h.
    c.worked_areas.ensures.refused_unsynced
    (ended_so 3 (codes "d") (selecting (0 ∷ 0 ∷ [])) (told_after begun_doubly (take 2 three_syncs)) (counts 1 1) (counts 1 1)
    c.worked_texts.ensures.whole (fault.Refused refusal.Selector) h)

pub returns-clause-refused_for_another : goal.returns-clause-refused_for_another
returns-clause-refused_for_another c = λ h.
    c.worked_areas.ensures.refused_for_another
    (ended_so 3 (codes "d") (selecting (0 ∷ 0 ∷ [])) (told_after begun_doubly three_syncs) (counts 1 1) (counts 1 1)
    c.worked_texts.ensures.whole (fault.Refused (refusal.Slot why.Slot)) h)

pub returns-clause-refused_though_fresh : goal.returns-clause-refused_though_fresh
returns-clause-refused_though_fresh c = λ h.
    c.worked_areas.ensures.refused_though_fresh
    (ended_so 3 (codes "d") untouched (told_after begun three_syncs) (counts 1 1) (counts 1 1) c.worked_texts.ensures.whole
    (fault.Refused refusal.Selector) h)

not_fresh : ◌≡◌ {A = Option Why} (Some BadSelector) None → ⊥
not_fresh e = cc

pub returns-clause-heard_on_refused_areas : goal.returns-clause-heard_on_refused_areas
returns-clause-heard_on_refused_areas c = λ h.
    not_fresh
    (sym c.worked_areas.ensures.why_two_selectors
    ∙ heard_so 3 (codes "d") (selecting (0 ∷ 0 ∷ [])) (told_after begun_doubly three_syncs) (counts 1 1) (counts 2 1)
    c.worked_texts.ensures.whole h)
