use Rattle.std.proofs.Common.{◌≡◌, ℕ, inl, inr, false, [], ◌∷◌, ◌++◌, length, refl, arith}
use Rattle.std.proofs.lemmas.Bool.Decides.{eqb_tells}
use Rattle.lists.specs.Each.{Each}
use Rattle.vst_base.specs.declared.step.Step.TheVariants as step
use Rattle.linearizability.specs.Linearizable.{is_named}
use Rattle.raft_reads.specs.Clusters.{world_after}
use Rattle.raft_reads.specs.Erasing.{erased}
use Rattle.raft_safety.specs.Applied.{applied_by}
use Rattle.reads_safety.specs.Examples.{counters, five, led, started_again}
use Rattle.reads_safety.proofs.examples.worked_starts.Goals as goal

pub returns-clause-it_had_waited : goal.returns-clause-it_had_waited
returns-clause-it_had_waited c = record { before = led; after = step.Deliver 6 ∷ step.Crash 0 ∷ step.Reboot 0 ∷ []; node = 0; is = refl; came = refl }

nowhere : (j : ℕ) → Each (λ x. is_named 8 1 x.input ≡ false) ((world_after (counters 3) started_again).state j).reads.waiting
nowhere j = elim (eqb_tells j 0) [
  | inl q ↦ rw (q.1) tt
  | inr q ↦ elim (eqb_tells j 1) [ inl p ↦ rw (p.1) tt | inr p ↦ rw (q.0, p.0) tt ]
]

pub returns-clause-and_is_gone : goal.returns-clause-and_is_gone
returns-clause-and_is_gone c = record { nowhere = nowhere; unanswered = tt }

pub returns-clause-had_read_index : goal.returns-clause-had_read_index
returns-clause-had_read_index c =
    let many : length (applied_by (counters 3).machine 3 (erased (counters 3) (led ++ step.In 0 five ∷ step.Deliver 6 ∷ step.Deliver 8 ∷ []))) ≡ 2 = refl in
    let commit : ((world_after (counters 3) (led ++ step.In 0 five ∷ step.Deliver 6 ∷ step.Deliver 8 ∷ [])).state 0).raft.commit ≡ 2 = refl in
    record {
      early = led ++ step.In 0 five ∷ step.Deliver 6 ∷ step.Deliver 8 ∷ [];
      late = step.Deliver 9 ∷ step.Deliver 11 ∷ [];
      node = 0;
      is = refl;
      came = refl;
      committed = omega (arith, many, commit);
      applied = omega (arith, commit);
    }
