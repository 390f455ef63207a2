-- The line of the turns has a number in it, whose digits have to be computed.
use Rattle.schedule_text.specs.Headers.{header_of}
use Rattle.std.proofs.Common.{◌≡◌, ℕ, inl, inr, ap, arith, refl}
use Rattle.std.specs.Fmt.{digits}
use Rattle.node_device.specs.Examples.{node_at}
use Rattle.node_state.specs.declared.opening.Refusal.TheVariants as refusal
use Rattle.commands.specs.Seen.{SinkSeen}
use Rattle.commands.specs.NodeExamples.{alone}
use Rattle.commands.proofs.NodeSilent.{configured, served, sized}
use Rattle.commands.proofs.node_examples.worked_ends.Goals as goal

pub returns-clause-done : goal.returns-clause-done
unfolding digits header_of
returns-clause-done c = record {
  served = served _ _ (record { begin = refl; receive = refl; store = refl; send = omega arith });
  out = refl;
  err = refl;
  quiet = record { faults = refl; wants = refl };
}

pub returns-clause-done_without_the_line : goal.returns-clause-done_without_the_line
unfolding digits header_of
returns-clause-done_without_the_line c = λ h. let e : ◌≡◌ {A = ℕ} 0 8 = ap sized h.out in omega (arith, e)

pub returns-clause-done_after_a_failed_write : goal.returns-clause-done_after_a_failed_write
returns-clause-done_after_a_failed_write c = λ h. let e : ◌≡◌ {A = ℕ} 1 0 = h.quiet.faults in omega (arith, e)

pub returns-clause-done_with_a_complaint : goal.returns-clause-done_with_a_complaint
returns-clause-done_with_a_complaint c = λ h. let e : ◌≡◌ {A = ℕ} 3 0 = ap (λ (k : SinkSeen). sized k.written) h.err in omega (arith, e)

pub returns-clause-unbegun : goal.returns-clause-unbegun
returns-clause-unbegun c = inl (record {
  came = record { config = alone; at = node_at 7000; configured_so = configured _ _; told = refl; counts = (omega arith, refl) };
  out = refl;
  err = refl;
  quiet = record { faults = refl; wants = refl };
})

pub returns-clause-unbegun_uncounted : goal.returns-clause-unbegun_uncounted
returns-clause-unbegun_uncounted c = λ h. elim h [
  | inl x ↦ omega (arith, x.came.counts.0)
  | inr x ↦ omega (arith, x.came.counts.receive)
]

pub returns-clause-unheard : goal.returns-clause-unheard
returns-clause-unheard c = inr (record {
  came = record {
    config = alone;
    at = node_at 7000;
    configured_so = configured _ _;
    areas = tt;
    ended = refl;
    counts = record { begin = refl; receive = omega arith; store = refl; send = omega arith };
  };
  out = refl;
  err = refl;
  quiet = record { faults = refl; wants = refl };
})

pub returns-clause-unheard_for_a_store : goal.returns-clause-unheard_for_a_store
returns-clause-unheard_for_a_store c = λ h. elim h [
  | inl x ↦ omega (arith, x.came.counts.0)
  | inr x ↦ omega (arith, x.came.counts.receive)
]

pub returns-clause-areas : goal.returns-clause-areas
returns-clause-areas c = (
  refusal.Selector,
  record {
    came = record {
      config = alone;
      at = node_at 7000;
      configured_so = configured _ _;
      areas = tt;
      ended = refl;
      counts = record { begin = refl; receive = refl; store = refl; send = omega arith };
    };
    out = refl;
    err = refl;
    quiet = record { faults = refl; wants = refl };
  },
)

pub returns-clause-areas_for_a_store : goal.returns-clause-areas_for_a_store
returns-clause-areas_for_a_store c = λ h. let e : ◌≡◌ {A = ℕ} 2 1 = h.1.came.counts.store in omega (arith, e)
