-- A network of inputs alone takes the commands of a machine at its node one by one, and nothing else.
use Rattle.std.specs.Prelude.{◌≡◌, zero, suc, true, false, nat_lt, List, [], ◌∷◌, Some, None, refl}
use Rattle.std.proofs.Common.{ap, arith}
use Rattle.std.proofs.lemmas.Bool.{le-ltb}
use Rattle.handler_trait.specs.Handling.{Recovery}
use Rattle.vst_base.specs.Machines.{MachineMeaning}
use Rattle.vst_base.specs.declared.net.Net.TheVariants as net
use Rattle.vst_base.specs.declared.step.Step.{Step}
use Rattle.vst_base.specs.declared.step.Step.TheVariants as step
use Rattle.vst_base.specs.declared.step.Item.TheVariants as item
use Rattle.vst_base.specs.declared.step.StepRefusal.TheVariants as refusal
use Rattle.net_semantics.specs.Worlds.{World}
use Rattle.net_semantics.specs.Steps.{next, refusal_of}
use Rattle.net_semantics.specs.Runs.{first_refused_from, machine_trace_from, trace_from}
use Rattle.net_semantics.specs.RunLaws.{place_and_why-none}
use Rattle.trace_maps.specs.SingleNode.{commands, single_node, alone}

module _ {S K C O : Type 0} (m : MachineMeaning S C O) (r : Recovery S K) where
  -- the step that such a network takes first is not refused
  taken : (w : World S K (Unit {0})) (s : Step C) (ss : List (Step C)) → first_refused_from net.One (single_node m) r w (s ∷ ss) ≡ None → refusal_of net.One (single_node m) w s ≡ None
  taken w s ss allowed = (place_and_why-none (refusal_of net.One (single_node m) w s) (first_refused_from net.One (single_node m) r (next (single_node m) r w s) ss) allowed).0

  pub from-any-state : (w : World S K (Unit {0})) (ss : List (Step C)) → first_refused_from net.One (single_node m) r w ss ≡ None
      → trace_from (single_node m) r w ss ≡ machine_trace_from m (w.state 0) (commands ss)
  from-any-state w [] allowed = refl
  from-any-state w (step.In zero c ∷ ss) allowed =
      let after = next (single_node m) r w (step.In 0 c) in
      let rest = place_and_why-none (refusal_of net.One (single_node m) w (step.In 0 c)) (first_refused_from net.One (single_node m) r after ss) allowed in
      ap (λ items. item.Input 0 c ∷ item.Output 0 (m.apply (w.state 0) c).1 ∷ items) (from-any-state after ss rest.1)
  from-any-state w (step.In (suc n) c ∷ ss) allowed =
      let no_node : nat_lt (suc n) 1 ≡ false = le-ltb (suc n) 1 (omega arith) in
      let clash : Some refusal.NoSuchNode ≡ None = rw no_node at (taken w (step.In (suc n) c) ss allowed) in
      cc
  from-any-state w (step.Deliver k ∷ ss) allowed = let clash : Some refusal.NotThisNet ≡ None = taken w (step.Deliver k) ss allowed in cc
  from-any-state w (step.Tick n ∷ ss) allowed = let clash : Some refusal.NotThisNet ≡ None = taken w (step.Tick n) ss allowed in cc
  from-any-state w (step.Dup k ∷ ss) allowed = let clash : Some refusal.NotThisNet ≡ None = taken w (step.Dup k) ss allowed in cc
  from-any-state w (step.Lose k ∷ ss) allowed = let clash : Some refusal.NotThisNet ≡ None = taken w (step.Lose k) ss allowed in cc
  from-any-state w (step.Crash n ∷ ss) allowed = let clash : Some refusal.NotThisNet ≡ None = taken w (step.Crash n) ss allowed in cc
  from-any-state w (step.Reboot n ∷ ss) allowed = let clash : Some refusal.NotThisNet ≡ None = taken w (step.Reboot n) ss allowed in cc

  -- a node that is up takes any commands
  pub any-commands : (w : World S K (Unit {0})) (cs : List C) → w.is_up 0 ≡ true → first_refused_from net.One (single_node m) r w (alone cs) ≡ None
  any-commands w [] up = refl
  any-commands w (c ∷ cs) up = rw (up, any-commands (next (single_node m) r w (step.In 0 c)) cs up) refl

pub all-of-them : {C : Type 0} (cs : List C) → commands (alone cs) ≡ cs
all-of-them [] = refl
all-of-them (c ∷ cs) = ap (λ rest. c ∷ rest) (all-of-them cs)
