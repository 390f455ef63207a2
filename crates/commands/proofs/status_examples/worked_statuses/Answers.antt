-- These print numbers, whose digits have to be computed.
use Rattle.schedule_text.specs.Headers.{header_of}
use Rattle.std.proofs.Common.{◌≡◌, ◌++◌, ◌∙◌, ap, arith, codes, inl, inr, lit≤, refl, ℕ, List, [], Option, Some}
use Rattle.std.specs.Fmt.{digits}
use Rattle.line_reader.specs.declared.why.Why.TheVariants as why
use Rattle.vst_base.specs.declared.stack.StackId.TheVariants as stack
use Rattle.schedule_replay.specs.Examples.{one_input}
use Rattle.schedule_replay.specs.Outcomes.{KeptUp}
use Rattle.schedule_replay.specs.Replays.{replayed, replayed_so_far}
use Rattle.schedule_replay.proofs.KeptRows.{all-given, hashes, kept-few, kept-input}
use Rattle.commands.specs.Lines.{memory_line, read_failed_line}
use Rattle.commands.specs.Seen.{CountsNothing}
use Rattle.commands.specs.declared.complaint.Complaint.TheVariants as complaint
use Rattle.command_line.proofs.OnLiterals.{words_on_literals}
use Rattle.commands.proofs.status_examples.worked_statuses.Goals as goal

-- a sink without counts
nothing : {written written' : Option (List ℕ)} → CountsNothing (record { written = written; faults = 0; wants = 0 }) (record { written = written'; faults = 0; wants = 0 })
nothing = record { faults = refl; wants = refl }

pub returns-clause-replayed : goal.returns-clause-replayed
unfolding digits header_of
returns-clause-replayed c =
    let bytes = codes "schedule 1 bag lock 2\n" in
    record {
      ended = refl;
      status = refl;
      out = refl;
      verdict = tt;
      err = refl;
      explained = ((replayed bytes).out, refl, c.replays_are_explained.ensures.explained bytes refl);
      quiet = record { reads = refl; writes = record { out = nothing; err = nothing } };
    }

pub returns-clause-permitted : goal.returns-clause-permitted
unfolding digits header_of
returns-clause-permitted c = record {
  ended = refl;
  status = refl;
  out = refl;
  verdict = refl;
  err = refl;
  explained = (c.permitted_claims_are_explained.ensures.explained stack.Lock (codes "below\nschedule 1 bag lock 2\n")).0 refl;
  quiet = record { reads = refl; writes = record { out = nothing; err = nothing } };
}

pub returns-clause-denied : goal.returns-clause-denied
unfolding digits header_of
returns-clause-denied c = record {
  condition = 5;
  line = 1;
  ended = refl;
  status = refl;
  named = refl;
  out = refl;
  err = refl;
  refuted = c.permitted_claims_are_explained.ensures.refuted stack.Lock (codes "out 1 locked\nbelow\nschedule 1 bag lock 2\n") 5 1 refl;
  quiet = record { reads = refl; writes = record { out = nothing; err = nothing } };
}

pub returns-clause-words : goal.returns-clause-words
unfolding words_on_literals
returns-clause-words c = record {
  not_taken = refl;
  input = refl;
  out = refl;
  err = refl;
  quiet = record { reads = refl; writes = record { out = nothing; err = nothing } };
}

pub returns-clause-refused : goal.returns-clause-refused
unfolding digits header_of
returns-clause-refused c = record {
  line = 2;
  why = why.NoCopy;
  reading = refl;
  status = refl;
  named = refl;
  ahead = (codes "schedule 1 bag lock 2\ndeliver 7\n", ([], refl, refl), lit≤ tt);
  out = refl;
  verdict = tt;
  err = refl;
  quiet = record { reads = refl; writes = record { out = nothing; err = nothing } };
}

pub returns-clause-read : goal.returns-clause-read
unfolding digits header_of
returns-clause-read c = record {
  reading = refl;
  rose = lit≤ tt;
  given = record {
    given = codes "schedule 1 bag lock 2\nin 1";
    gave = (codes " lock\n", refl, refl);
    short = lit≤ tt;
    taken = refl;
    out = refl;
  };
  verdict = tt;
  err = refl;
  quiet = record { out = nothing; err = nothing };
}

pub returns-clause-write : goal.returns-clause-write
unfolding digits header_of
returns-clause-write c = record {
  front = record { out = (3, refl); verdict = (3, refl); kept_up = tt };
  failed = inl (record { rose = lit≤ tt; wants = refl; reads = refl; err = refl });
}

pub returns-clause-write_of_a_line : goal.returns-clause-write_of_a_line
unfolding digits header_of
returns-clause-write_of_a_line c = record {
  front = record { out = (0, refl); verdict = tt; kept_up = kept-few (codes "schedule 1 bag lock 2\ndeliver 7\n") [] (lit≤ tt) };
  failed = inr (record {
    rose = lit≤ tt;
    wants = refl;
    saying = record {
      line = codes "line 2: no copy\n";
      may = record {
        saying = complaint.Line 2 why.NoCopy;
        cause = (refl, record { status = refl; line = refl });
        hides = record { reads = inl refl; writes = refl; wants = inl refl };
        line_is = refl;
      };
      front = (4, refl);
    };
  });
}

pub returns-clause-memory : goal.returns-clause-memory
unfolding digits header_of
returns-clause-memory c = record {
  front = record { out = (3, refl); verdict = tt; kept_up = kept-few (codes "schedule 1 bag lock 2\n") (codes "bel") (lit≤ tt) };
  writes = refl;
  complains = refl;
  wanted = inl (record { err = refl; reads = refl });
}

pub returns-clause-memory_of_the_error_stream : goal.returns-clause-memory_of_the_error_stream
unfolding digits header_of
returns-clause-memory_of_the_error_stream c = record {
  front = record { out = (0, refl); verdict = tt; kept_up = kept-few (codes "schedule 1 bag lock 2\n") [] (lit≤ tt) };
  writes = refl;
  complains = refl;
  wanted = inr (
    lit≤ tt,
    record {
      line = memory_line;
      may = record { saying = complaint.Memory; cause = tt; hides = record { reads = inl refl; writes = refl; wants = inl refl }; line_is = refl };
      front = (3, refl);
    },
  );
}

-- a read failed at the end of this input
pub returns-clause-memory_while_it_said_read : goal.returns-clause-memory_while_it_said_read
unfolding digits header_of
returns-clause-memory_while_it_said_read c = record {
  front = record { out = (0, refl); verdict = tt; kept_up = kept-few (codes "schedule 1 bag lock 2\n") [] (lit≤ tt) };
  writes = refl;
  complains = refl;
  wanted = inr (
    lit≤ tt,
    record {
      line = read_failed_line;
      may = record {
        saying = complaint.Read;
        cause = (refl, lit≤ tt, record { given = codes "schedule 1 bag lock 2\n"; gave = ([], refl, refl); short = lit≤ tt; taken = refl; out = refl });
        hides = record { reads = inr refl; writes = refl; wants = inl refl };
        line_is = refl;
      };
      front = (2, refl);
    },
  );
}

nothing_kept : KeptUp replayed_so_far (one_input ++ hashes 8192) (Some []) (Some []) (Some []) → ⊥
nothing_kept x =
    let line = kept-input 8192 x.early x.past.late (all-given 8192 x.early x.past) x.past.few (omega arith) in
    let out : ◌≡◌ {A = Option (List ℕ)} (Some []) (Some (codes "in 1 lock\n" ++ x.more)) = x.written ∙ ap (λ xs. Some (xs ++ x.more)) line in
    cc out

pub returns-clause-write_held_back : goal.returns-clause-write_held_back
returns-clause-write_held_back c = λ x. nothing_kept x.front.kept_up

pub returns-clause-memory_with_all_held_back : goal.returns-clause-memory_with_all_held_back
returns-clause-memory_with_all_held_back c = λ x. nothing_kept x.front.kept_up
