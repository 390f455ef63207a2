-- These print numbers, whose digits have to be computed.
use Rattle.schedule_text.specs.Headers.{header_of}
use Rattle.std.proofs.Common.{◌≡◌, ℕ, zero, suc, List, Option, None, Some, ap, arith, codes, inl, lit≤, refl}
use Rattle.std.specs.Prelude.{get_or, length, take}
use Rattle.std.specs.Fmt.{digits}
use Rattle.commands.specs.Examples.{one_tick, one_tick_text}
use Rattle.commands.specs.Seen.{CountsNothing}
use Rattle.commands.specs.declared.complaint.Complaint.TheVariants as complaint
use Rattle.commands.proofs.make_examples.worked_make_statuses.Goals as goal

-- a sink without counts
nothing : {written written' : Option (List ℕ)} → CountsNothing (record { written = written; faults = 0; wants = 0 }) (record { written = written'; faults = 0; wants = 0 })
nothing = record { faults = refl; wants = refl }

abbrev written_length : Option (List ℕ) → ℕ
written_length None = 0
written_length (Some bytes) = length bytes

abbrev written_first : Option (List ℕ) → ℕ
written_first None = 0
written_first (Some bytes) = get_or bytes 0 0

pub returns-clause-made : goal.returns-clause-made
unfolding digits header_of
returns-clause-made c = record {
  ended = tt;
  status = refl;
  out = refl;
  verdict = tt;
  err = refl;
  explained = record {
    whole = c.made_schedules_are_replayed.ensures.taken one_tick.stack one_tick.seed one_tick.steps (λ e. cc) (lit≤ tt);
    counts = c.made_schedules_are_replayed.ensures.counts one_tick.stack one_tick.seed one_tick.steps (λ e. cc) (lit≤ tt);
  };
  quiet = record { reads = refl; writes = record { out = nothing; err = nothing } };
}

pub returns-clause-a_step_missing : goal.returns-clause-a_step_missing
unfolding digits header_of
returns-clause-a_step_missing c = λ h. let e : 22 ≡ 29 = ap written_length h.out in omega (arith, e)

pub returns-clause-summarized_as_a_text : goal.returns-clause-summarized_as_a_text
unfolding digits header_of
returns-clause-summarized_as_a_text c = λ h. let e : 115 ≡ 101 = ap written_first h.out in omega (arith, e)

pub returns-clause-write : goal.returns-clause-write
unfolding digits header_of
returns-clause-write c = record {
  front = record { out = (3, refl); verdict = tt; kept_up = tt };
  failed = inl (record { rose = lit≤ tt; wants = refl; reads = refl; err = refl });
}

another : (n : ℕ) → Some (codes "tick") ≡ Some (take n one_tick_text) → ⊥
another zero e = let d : 4 ≡ 0 = ap written_length e in omega (arith, d)
another (suc n) e = let d : 116 ≡ 115 = ap written_first e in omega (arith, d)

pub returns-clause-write_of_another_text : goal.returns-clause-write_of_another_text
unfolding digits header_of
returns-clause-write_of_another_text c = λ h. another h.front.out.0 h.front.out.1

pub returns-clause-memory : goal.returns-clause-memory
unfolding digits header_of
returns-clause-memory c = record {
  front = record { out = (3, refl); verdict = tt; kept_up = tt };
  writes = refl;
  complains = refl;
  wanted = inl (record { err = refl; reads = refl });
}

pub returns-clause-says_memory : goal.returns-clause-says_memory
returns-clause-says_memory c =
    record { saying = complaint.Memory; cause = tt; hides = record { reads = inl refl; writes = refl; wants = inl refl }; line_is = refl }
