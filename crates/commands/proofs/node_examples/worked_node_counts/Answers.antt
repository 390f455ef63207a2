use Rattle.std.proofs.Common.{◌≡◌, ◌⊎◌, ℕ, [], Result, Err, inl, inr, arith, refl, subst, sym}
use Rattle.node_config.specs.declared.config.Config.{Config}
use Rattle.node_config.specs.declared.key.ConfigKey.{ConfigKey}
use Rattle.node_config.specs.declared.key.ConfigKey.TheVariants as key
use Rattle.node_device.specs.Examples.{sends, untold}
use Rattle.commands.specs.NodeComplete.{IsStatusOf, NoneRose}
use Rattle.commands.specs.NodeExamples.{fed, in_silence}
use Rattle.commands.proofs.node_examples.worked_node_counts.Goals as goal

-- the status of a configuration of which this is said
of : (is is' : Result Config ConfigKey) (result : ℕ) → is' ≡ is → IsStatusOf is untold result ⊎ (result ≡ 8) → IsStatusOf is' untold result ⊎ (result ≡ 8)
of is is' result same p = subst (λ of. IsStatusOf of untold result ⊎ (result ≡ 8)) (sym same) p

none_rose : NoneRose (fed [] (in_silence (sends 1) (sends 2)))
none_rose = record {
  reads = λ rose. omega (arith, rose);
  writes = λ rose. omega (arith, rose);
  complains = λ rose. omega (arith, rose);
  begins = λ rose. omega (arith, rose);
  receives = λ rose. omega (arith, rose);
  stores = λ rose. omega (arith, rose);
}

pub returns-clause-none_rose : goal.returns-clause-none_rose
returns-clause-none_rose c = record {
  reads = none_rose.reads;
  writes = none_rose.writes;
  complains = none_rose.complains;
  begins = none_rose.begins;
  receives = none_rose.receives;
  stores = none_rose.stores;
}

pub returns-clause-one_rose : goal.returns-clause-one_rose
returns-clause-one_rose c = λ h. h.begins (omega arith)

pub returns-clause-refused : goal.returns-clause-refused
returns-clause-refused c = λ none. of _ _ 3 c.worked_texts.ensures.no_text (inl refl)

not_done : IsStatusOf (Err key.Stack) untold 0 ⊎ (◌≡◌ {A = ℕ} 0 8) → ⊥
not_done (inl e) = let is : ◌≡◌ {A = ℕ} 0 3 = e in omega (arith, is)
not_done (inr e) = omega (arith, e)

pub returns-clause-refused_as_done : goal.returns-clause-refused_as_done
returns-clause-refused_as_done c = λ h. not_done (of _ _ 0 (sym c.worked_texts.ensures.no_text) (h none_rose))

pub returns-clause-kept : goal.returns-clause-kept
returns-clause-kept c = record {
  streams = record { reads = omega arith; writes = omega arith; complains = omega arith };
  begin = omega arith;
  receive = omega arith;
  store = omega arith;
  send = omega arith;
}

pub returns-clause-a_send_found_again : goal.returns-clause-a_send_found_again
returns-clause-a_send_found_again c = λ h. omega (arith, h.send)

pub returns-clause-a_beginning_found_again : goal.returns-clause-a_beginning_found_again
returns-clause-a_beginning_found_again c = λ h. omega (arith, h.begin)

pub returns-clause-a_receive_found_again : goal.returns-clause-a_receive_found_again
returns-clause-a_receive_found_again c = λ h. omega (arith, h.receive)

pub returns-clause-a_store_found_again : goal.returns-clause-a_store_found_again
returns-clause-a_store_found_again c = λ h. omega (arith, h.store)
