-- These print numbers, whose digits have to be computed.
use Rattle.schedule_text.specs.Headers.{header_of}
use Rattle.std.proofs.Common.{◌≡◌, ◌⊎◌, ℕ, [], ap, arith, codes, inl, inr, lit≤, refl}
use Rattle.std.specs.Prelude.{get_or, length, unwrap_or}
use Rattle.std.specs.Fmt.{digits}
use Rattle.outside.specs.Counting.{Rose}
use Rattle.schedule_replay.proofs.KeptRows.{kept-few}
use Rattle.top_call.proofs.examples.worked_texts.Goals as goal

-- no fault was counted
none : Rose 0 0 → ⊥
none e = omega (arith, e)

neither : (n a b : ℕ) → (n ≡ a → ⊥) → (n ≡ b → ⊥) → (n ≡ a) ⊎ (n ≡ b) → ⊥
neither n a b first second (inl e) = first e
neither n a b first second (inr e) = second e

not_done : (n : ℕ) → (n ≡ 2) ⊎ (n ≡ 5) ⊎ (n ≡ 8) → n ≡ 0 → ⊥
not_done n (inl e) is = omega (arith, e, is)
not_done n (inr (inl e)) is = omega (arith, e, is)
not_done n (inr (inr e)) is = omega (arith, e, is)

pub returns-clause-status : goal.returns-clause-status
unfolding header_of
returns-clause-status c = λ command ws r n h. h.status

pub returns-clause-another_status : goal.returns-clause-another_status
unfolding header_of
returns-clause-another_status c = λ h. neither 5 0 8 (λ e. omega (arith, e)) (λ e. omega (arith, e)) (h.complete none none none)

pub returns-clause-done_without_an_image : goal.returns-clause-done_without_an_image
unfolding digits header_of
returns-clause-done_without_an_image c = λ h. let e : ◌≡◌ {A = ℕ} 6 28 = ap (λ o. length (unwrap_or o [])) (h.done refl).out in omega (arith, e)

pub returns-clause-done_of_no_words : goal.returns-clause-done_of_no_words
unfolding header_of
returns-clause-done_of_no_words c = λ ws r h. not_done 0 h.status refl

pub returns-clause-denied_replay : goal.returns-clause-denied_replay
unfolding header_of
returns-clause-denied_replay c = λ ws r h. (h.denied refl).refuted

-- the line of a refused line begins otherwise
pub returns-clause-refused_as_a_configuration : goal.returns-clause-refused_as_a_configuration
unfolding header_of
returns-clause-refused_as_a_configuration c = λ h. let e : ◌≡◌ {A = ℕ} 99 108 = ap (λ o. get_or (unwrap_or o []) 0 0) (h.refused refl).err in omega (arith, e)

pub returns-clause-read_that_did_not_fail : goal.returns-clause-read_that_did_not_fail
unfolding header_of
returns-clause-read_that_did_not_fail c = λ h. none (h.read refl).rose

pub returns-clause-write : goal.returns-clause-write
unfolding digits header_of
returns-clause-write c = record {
  status = inr (inr (inr (inr (inl refl))));
  complete = λ reads writes complains. absurd (writes (lit≤ tt));
  done = λ e. absurd (omega (arith, e));
  denied = λ e. absurd (omega (arith, e));
  refused = λ e. absurd (omega (arith, e));
  read = λ e. absurd (omega (arith, e));
  write = λ e. record {
    front = record { out = (3, refl); verdict = tt; kept_up = kept-few (codes "schedule 1 bag lock 2\n") (codes "bel") (lit≤ tt) };
    failed = inl (record { rose = lit≤ tt; wants = refl; reads = refl; err = refl });
  };
  memory = λ e. absurd (omega (arith, e));
  counts = record { reads = lit≤ tt; writes = lit≤ tt; complains = lit≤ tt };
}

pub returns-clause-memory : goal.returns-clause-memory
unfolding digits header_of
returns-clause-memory c = record {
  status = inr (inr (inr (inr (inr refl))));
  complete = λ reads writes complains. inr refl;
  done = λ e. absurd (omega (arith, e));
  denied = λ e. absurd (omega (arith, e));
  refused = λ e. absurd (omega (arith, e));
  read = λ e. absurd (omega (arith, e));
  write = λ e. absurd (omega (arith, e));
  memory = λ e. record {
    front = record { out = (3, refl); verdict = tt; kept_up = kept-few (codes "schedule 1 bag lock 2\n") (codes "bel") (lit≤ tt) };
    writes = refl;
    complains = refl;
    wanted = inl (record { err = refl; reads = refl });
  };
  counts = record { reads = lit≤ tt; writes = lit≤ tt; complains = lit≤ tt };
}

pub returns-clause-memory_for_a_failed_write : goal.returns-clause-memory_for_a_failed_write
unfolding header_of
returns-clause-memory_for_a_failed_write c = λ h. let e : ◌≡◌ {A = ℕ} 1 0 = (h.memory refl).writes in omega (arith, e)

pub returns-clause-a_count_that_fell : goal.returns-clause-a_count_that_fell
unfolding header_of
returns-clause-a_count_that_fell c = λ h. omega (arith, h.counts.writes)
