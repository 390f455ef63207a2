-- What an event makes of a node and of what was gathered, once its packets are handed on as bytes.
use Rattle.std.specs.Prelude.{◌≡◌, ℕ, List, [], ◌++◌, Option, Some, Result, Ok, Err, OnOk}
use Rattle.std.proofs.Common.{ap, ◌∙◌, sym, subst}
use Rattle.handler_trait.specs.Handling.{Gathered, Does, Effect, Meaning}
use Rattle.vst_base.specs.declared.stack.StackId.{StackId}
use Rattle.wire_fields.specs.Formats.{Format}
use Rattle.wired.specs.Wiring.{Named, after_message, in_bytes, sent}

module _ {S O M E : Type 0} (f : Format M) (stack : StackId) (name : List ℕ) (n : ℕ) (e : Effect S O M) (new : S) (first within : Gathered O M) (before lent after : Gathered O (List ℕ)) where
  handed : (r : Result (Unit {0}) E) → first.outputs ≡ before.outputs → first.sends ≡ [] → lent.sends ≡ before.sends → Does e new first within
      → OnOk r (after.outputs ≡ within.outputs) → OnOk r (after.sends ≡ lent.sends ++ sent f stack name n within.sends)
      → OnOk r (Does (in_bytes f stack name n e) new before after)
  handed (Ok x) lent_outputs no_sends same_sends does outputs sends = record {
    state = does.state;
    outputs = outputs ∙ (does.outputs ∙ ap (λ os. os ++ e.outputs) lent_outputs);
    sends = sends ∙ (ap (λ ps. ps ++ sent f stack name n within.sends) same_sends
        ∙ ap (λ ps. before.sends ++ sent f stack name n ps) (does.sends ∙ ap (λ ps. ps ++ e.sends) no_sends));
  }
  handed (Err x) lent_outputs no_sends same_sends does outputs sends = tt

-- a message that was heard
module _ {H S I O M E : Type 0} (f : Format M) (meaning : H → Meaning S I O M) (w : Named H) (n from : ℕ) (old new : S) (o : Option M) (message : M) where
  pub handed_heard : (first within : Gathered O M) (before lent after : Gathered O (List ℕ)) (r : Result (Unit {0}) E) → o ≡ Some message
      → first.outputs ≡ before.outputs → first.sends ≡ [] → lent.sends ≡ before.sends
      → Does ((meaning w.inner).message n old from message) new first within
      → OnOk r (after.outputs ≡ within.outputs) → OnOk r (after.sends ≡ lent.sends ++ sent f w.stack w.name n within.sends)
      → OnOk r (Does (in_bytes f w.stack w.name n (after_message (meaning w.inner) n old from o)) new before after)
  handed_heard first within before lent after r is lent_outputs no_sends same_sends does outputs sends =
      subst (λ o. OnOk r (Does (in_bytes f w.stack w.name n (after_message (meaning w.inner) n old from o)) new before after)) (sym is)
      (handed f w.stack w.name n ((meaning w.inner).message n old from message) new first within before lent after r lent_outputs no_sends
      same_sends does outputs sends)
