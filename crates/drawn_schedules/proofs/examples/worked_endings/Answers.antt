-- These print the number of a line, whose digits have to be computed.
use Rattle.schedule_text.specs.Headers.{header_of}
use Rattle.std.proofs.Common.{◌≡◌, ◌∙◌, ap, arith, codes, inl, inr, refl, sym, ℕ, List, [], Option, None, Some}
use Rattle.std.specs.Prelude.{slice_index, unwrap_or}
use Rattle.std.specs.Fmt.{digits}
use Rattle.line_reader.specs.declared.why.Why.{Why}
use Rattle.line_reader.specs.declared.why.Why.TheVariants as why
use Rattle.schedule_text.specs.Printing.{refusal_line}
use Rattle.commands.specs.Examples.{quiet_run}
use Rattle.drawn_schedules.specs.Endings.{EndsAs}
use Rattle.drawn_schedules.specs.Examples.{refused_text}
use Rattle.drawn_schedules.proofs.examples.worked_endings.Goals as goal

pub returns-clause-refused : goal.returns-clause-refused
unfolding digits header_of
returns-clause-refused c = inr (inl (
  refl,
  record {
    line = 3;
    why = why.NoCopy;
    refused = refl;
    out = refl;
    err = refl;
    quiet = record {
      reads = refl;
      writes = record { out = record { faults = refl; wants = refl }; err = record { faults = refl; wants = refl } };
    };
  },
))

-- the line that names a refusal, where there is one
abbrev line_of : Option (ℕ × Why) → List ℕ
line_of None = []
line_of (Some r) = refusal_line r.0 r.1

-- the line that was said has the digit 2 where that of the refusal has 3
another : EndsAs (quiet_run refused_text [] [] (codes "line 2: no copy\n")) 3 → ⊥
unfolding digits header_of
another (inl p) = let e : 3 ≡ 0 = p.0 in omega (arith, e)
another (inr (inl p)) =
    let r = p.1 in
    let e : 50 ≡ 51 = ap (λ o. slice_index (unwrap_or o []) 5) r.err ∙ sym (ap (λ o. slice_index (line_of o) 5) r.refused) in
    omega (arith, e)
another (inr (inr (inl p))) = let e : 3 ≡ 4 = p.0 in omega (arith, e)
another (inr (inr (inr (inl p)))) = let e : 3 ≡ 5 = p.0 in omega (arith, e)
another (inr (inr (inr (inr p)))) = let e : 3 ≡ 8 = p.0 in omega (arith, e)

pub returns-clause-another_line : goal.returns-clause-another_line
returns-clause-another_line c = another
