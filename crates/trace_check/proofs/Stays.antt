-- Without its repeats, and in the order of its packets, a schedule of steps that have texts has such steps again, and no more of them. Where
-- packets are sent again until they are acknowledged it has such steps again, and no more events.
use Rattle.std.specs.Prelude.{false, refl}
use Rattle.std.proofs.Common.{arith, inl, inr}
use Rattle.schedule_text.specs.Spellable.{IsSpellable}
use Rattle.stacks.specs.Kinds.{Service}
use Rattle.transformers.specs.Ordering.{ordering}
use Rattle.transformers.specs.Numbering.{numbering}
use Rattle.transformers.specs.Retransmission.{retransmission}
use Rattle.trace_check.specs.Spelled.{HasInputText, StaysSpelled}
use Rattle.trace_check.proofs.Counts.{once-few}
use Rattle.trace_check.proofs.Events.{once-events}
use Rattle.trace_check.proofs.OrderStays.{ordered-each, ordered-events, ordered-few}
use Rattle.trace_check.proofs.RetryStays.{retried-each, retried-events}
use Rattle.trace_check.proofs.Scripts.{once-each}

pub numbering-stays : (s : Service) → StaysSpelled numbering s
numbering-stays s = record {
  texts = λ n ss allowed steps. once-each (IsSpellable (HasInputText s.texts)) (λ _. false) ss steps;
  few = λ n ss allowed. once-events (λ _. false) ss;
  steps = inr (record { lower = λ same. cc; few = λ n ss allowed. once-few (λ _. false) ss });
}

-- an earlier packet has the smaller number
pub ordering-stays : (s : Service) → StaysSpelled ordering s
ordering-stays s = record {
  texts = λ n ss allowed steps. ordered-each (s.handlers n) (IsSpellable (HasInputText s.texts)) (λ j k le small. omega (arith, le, small)) ss allowed steps;
  few = λ n ss allowed. ordered-events (s.handlers n) ss;
  steps = inr (record { lower = λ same. cc; few = λ n ss allowed. ordered-few (s.handlers n) ss });
}

-- what data carries was first sent no later
pub retransmission-stays : (s : Service) → StaysSpelled retransmission s
retransmission-stays s = record {
  texts = λ n ss allowed steps.
      retried-each (s.handlers n) (IsSpellable (HasInputText s.texts)) (λ j k le small. (omega (arith, le, small), omega (arith, le, small))) ss steps;
  few = λ n ss allowed. retried-events (s.handlers n) ss;
  steps = inl refl;
}
