-- These print numbers, whose digits have to be computed.
use Rattle.schedule_text.specs.Headers.{header_of}
use Rattle.std.proofs.Common.{arith, codes, inl, inr, lit≤, refl, sym, ◌∙◌, ap, ◌≡◌, Some, []}
use Rattle.std.specs.Prelude.{slice_index}
use Rattle.std.specs.Fmt.{digits}
use Rattle.line_reader.specs.declared.why.Why.TheVariants as why
use Rattle.command_line.specs.declared.command.Command.TheVariants as command
use Rattle.commands.specs.Lines.{memory_line, read_failed_line}
use Rattle.commands.specs.Complaints.{HasCause, line_of}
use Rattle.commands.specs.Examples.{quiet_run}
use Rattle.commands.specs.declared.complaint.Complaint.{Complaint}
use Rattle.commands.specs.declared.complaint.Complaint.TheVariants as complaint
use Rattle.commands.proofs.status_examples.worked_complaints.Goals as goal

pub returns-clause-usage : goal.returns-clause-usage
returns-clause-usage c = record { saying = complaint.Words; cause = refl; hides = record { reads = inl refl; writes = refl; wants = inl refl }; line_is = refl }

pub returns-clause-refused_line : goal.returns-clause-refused_line
unfolding digits header_of
returns-clause-refused_line c = record {
  saying = complaint.Line 2 why.NoCopy;
  cause = (refl, record { status = refl; line = refl });
  hides = record { reads = inl refl; writes = refl; wants = inl refl };
  line_is = refl;
}

pub returns-clause-condition : goal.returns-clause-condition
unfolding digits header_of
returns-clause-condition c = record {
  saying = complaint.Condition 5 1;
  cause = (refl, record { status = refl; line = refl });
  hides = record { reads = inl refl; writes = refl; wants = inl refl };
  line_is = refl;
}

pub returns-clause-memory : goal.returns-clause-memory
returns-clause-memory c = record { saying = complaint.Memory; cause = tt; hides = record { reads = inl refl; writes = refl; wants = inl refl }; line_is = refl }

pub returns-clause-saying_a_front : goal.returns-clause-saying_a_front
returns-clause-saying_a_front c = record {
  line = memory_line;
  may = record { saying = complaint.Memory; cause = tt; hides = record { reads = inl refl; writes = refl; wants = inl refl }; line_is = refl };
  front = (3, refl);
}

-- a read that failed before the first line was whole
pub returns-clause-read : goal.returns-clause-read
returns-clause-read c = record {
  saying = complaint.Read;
  cause = (refl, lit≤ tt, record { given = []; gave = (codes "\n", refl, refl); short = lit≤ tt; taken = refl; out = refl });
  hides = record { reads = inr refl; writes = refl; wants = inl refl };
  line_is = refl;
}

pub returns-clause-saying_for_a_failed_read : goal.returns-clause-saying_for_a_failed_read
returns-clause-saying_for_a_failed_read c = record {
  line = read_failed_line;
  may = record {
    saying = complaint.Read;
    cause = (refl, lit≤ tt, record { given = []; gave = (codes "\n", refl, refl); short = lit≤ tt; taken = refl; out = refl });
    hides = record { reads = inr refl; writes = refl; wants = inl refl };
    line_is = refl;
  };
  front = (3, refl);
}

-- the only refused line is that of the answer
another : (c : Complaint) → HasCause (Some command.Replay) (quiet_run (codes "schedule 1 bag lock 2\ndeliver 7\n") [] [] []) c → codes "line 1: no copy\n" ≡ line_of c → ⊥
unfolding digits header_of
another (complaint.Condition condition line) cause is = cc (cause.0)
another complaint.Words cause is = cc cause
another (complaint.Line line w) cause is =
    let e : codes "line 1: no copy\n" ≡ codes "line 2: no copy\n" = is ∙ sym cause.1.line in
    let d : 49 ≡ 50 = ap (λ xs. slice_index xs 5) e in
    omega (arith, d)
another complaint.Read cause is = let d : 108 ≡ 114 = ap (λ xs. slice_index xs 0) is in omega (arith, d)
another complaint.Memory cause is = let d : 108 ≡ 109 = ap (λ xs. slice_index xs 0) is in omega (arith, d)

pub returns-clause-another_line : goal.returns-clause-another_line
returns-clause-another_line c = λ m. another m.saying m.cause m.line_is
