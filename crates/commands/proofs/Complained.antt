-- What telling a complaint comes to, by the status of the run.
use Rattle.std.specs.Prelude.{◌≡◌, ◌⊎◌, ℕ, List, Option, Some, None, IfSome, IsTrue, Bool, true, false}
use Rattle.std.specs.Bool.{OnTrue}
use Rattle.std.proofs.Common.{inl, inr, ap, ◌∙◌, subst, sym, append-nil, arith, refl}
use Rattle.outside.specs.Wholes.{Gained, GainedPrefix}
use Rattle.line_reader.specs.declared.why.Why.{Why}
use Rattle.schedule_replay.specs.Outcomes.{KeptUp}
use Rattle.schedule_replay.specs.Replays.{replayed_so_far}
use Rattle.schedule_replay.proofs.Openings.{kept-unread}
use Rattle.command_line.specs.declared.command.Command.{Command}
use Rattle.command_line.specs.declared.command.Command.TheVariants as command
use Rattle.commands.specs.Runs.{KeepsUp}
use Rattle.commands.specs.Lines.{memory_line}
use Rattle.commands.specs.Answers.{answer_by, input_of, is_check, permitted_line}
use Rattle.commands.specs.Saying.{Said}
use Rattle.commands.specs.Complaints.{HasCause, HidesNothing, Told, WasSaying, is_made, line_of, status_of}
use Rattle.commands.specs.Seen.{CountsNothing, Run, SinkSeen}
use Rattle.commands.specs.Statuses.{HasErrFailed, HasWriteFailed, IsOutOfMemory, WroteFront}
use Rattle.commands.specs.declared.complaint.Complaint.{Complaint}
use Rattle.commands.specs.declared.complaint.Complaint.TheVariants as complaint
use Rattle.lists.specs.Options.{if_any}

-- no complaint has the status of a failed write
not-five : (c : Complaint) → status_of c ≡ 5 → ⊥
not-five (complaint.Condition condition line) e = omega (arith, e)
not-five complaint.Words e = omega (arith, e)
not-five (complaint.Line line why) e = omega (arith, e)
not-five complaint.Read e = omega (arith, e)
not-five complaint.Memory e = omega (arith, e)

-- and that of want of memory has its line
eight : (c : Complaint) → status_of c ≡ 8 → line_of c ≡ memory_line
eight (complaint.Condition condition line) e = absurd (omega (arith, e))
eight complaint.Words e = absurd (omega (arith, e))
eight (complaint.Line line why) e = absurd (omega (arith, e))
eight complaint.Read e = absurd (omega (arith, e))
eight complaint.Memory e = refl

-- a line that was written whole
said-whole : (status : ℕ) (line : List ℕ) (b a : SinkSeen) (r : ℕ) → Said status line b a r → (r ≡ 5 → ⊥) → (r ≡ 8 → ⊥) → (r ≡ status) × Gained b.written a.written line × CountsNothing b a
said-whole status line b a r (inl whole) written kept = whole
said-whole status line b a r (inr (inl failed)) written kept = absurd (written failed.0)
said-whole status line b a r (inr (inr wants)) written kept = absurd (kept wants.0)

pub told-whole : (c : Complaint) (b a : SinkSeen) (r : ℕ) → Told c b a r → (r ≡ 5 → ⊥) → (r ≡ 8 → ⊥) → (r ≡ status_of c) × Gained b.written a.written (line_of c) × CountsNothing b a
told-whole c b a r (inl said) written kept = said-whole (status_of c) (line_of c) b a r said written kept
told-whole c b a r (inr made) written kept = absurd (kept (said-whole 8 memory_line b a r made.1 written kept).0)

-- what holds unless a complaint is that of another status
unless : {A : Type 0} {c d : Complaint} → (status_of c ≡ status_of d → ⊥) → A ⊎ (c ≡ d) → A
unless other (inl a) = a
unless other (inr e) = absurd (other (ap status_of e))

-- no read failed before a complaint whose line is made
made-reads : (c : Complaint) → IsTrue (is_made c) → status_of c ≡ status_of complaint.Read → ⊥
made-reads (complaint.Condition condition line) made e = omega (arith, e)
made-reads complaint.Words made e = omega (arith, e)
made-reads (complaint.Line line why) made e = omega (arith, e)
made-reads complaint.Read made e = cc
made-reads complaint.Memory made e = omega (arith, e)

-- where its line cannot be made, want of memory is the complaint
wanting : (c : Complaint) (run : Run) → IsTrue (is_made c) → HidesNothing c run → HidesNothing complaint.Memory run
wanting c run made hides = record { reads = inl (unless (made-reads c made) hides.reads); writes = hides.writes; wants = inr refl }

-- a line that the run was saying
saying : (command : Option Command) (run : Run) (c : Complaint) → HasCause command run c → HidesNothing c run → GainedPrefix run.before.err.written run.after.err.written (line_of c) → WasSaying command run
saying command run c cause hides front = record {
  line = line_of c;
  may = record { saying = c; cause = cause; hides = hides; line_is = refl };
  front = front;
}

said-failed : (command : Option Command) (run : Run) (c : Complaint) (r : ℕ) → HasCause command run c → HidesNothing c run → Said (status_of c) (line_of c) run.before.err run.after.err r → r ≡ 5
    → HasErrFailed command run
said-failed command run c r cause hides (inl whole) is = absurd (not-five c (sym whole.0 ∙ is))
said-failed command run c r cause hides (inr (inl failed)) is = record { rose = failed.2; wants = failed.3; saying = saying command run c cause hides failed.1 }
said-failed command run c r cause hides (inr (inr wants)) is = absurd (omega (arith, wants.0, is))

-- the only complaint with the status of want of memory is that
said-memory : (command : Option Command) (run : Run) (c : Complaint) (r : ℕ) → HasCause command run c → HidesNothing c run → WroteFront command run
    → Said (status_of c) (line_of c) run.before.err run.after.err r → r ≡ 8 → IsOutOfMemory command run
said-memory command run c r cause hides front (inl whole) is =
    let eighth = sym whole.0 ∙ is in
    record {
      front = front;
      writes = hides.writes;
      complains = whole.2.faults;
      wanted = inl (record {
        err = subst (λ line. Gained run.before.err.written run.after.err.written line) (eight c eighth) whole.1;
        reads = unless (λ e. omega (arith, e, eighth)) hides.reads;
      });
    }
said-memory command run c r cause hides front (inr (inl failed)) is = absurd (omega (arith, failed.0, is))
said-memory command run c r cause hides front (inr (inr wants)) is =
    record { front = front; writes = hides.writes; complains = wants.2; wanted = inr (wants.3, saying command run c cause hides wants.1) }

-- a run that ends so where a write of its complaint fails
pub told_failed : (command : Option Command) (run : Run) (c : Complaint) (r : ℕ) → Told c run.before.err run.after.err r → r ≡ 5 → HasCause command run c → HidesNothing c run
    → WroteFront command run → HasWriteFailed command run
told_failed command run c r (inl said) is cause hides front = record { front = front; failed = inr (said-failed command run c r cause hides said is) }
told_failed command run c r (inr made) is cause hides front =
    record { front = front; failed = inr (said-failed command run complaint.Memory r tt (wanting c run made.0 hides) made.1 is) }

-- and where memory is wanted
pub told_memory : (command : Option Command) (run : Run) (c : Complaint) (r : ℕ) → Told c run.before.err run.after.err r → r ≡ 8 → HasCause command run c → HidesNothing c run
    → WroteFront command run → IsOutOfMemory command run
told_memory command run c r (inl said) is cause hides front = said-memory command run c r cause hides front said is
told_memory command run c r (inr made) is cause hides front = said-memory command run complaint.Memory r tt (wanting c run made.0 hides) front made.1 is

-- a complaint hides nothing where no other call was made, or none of them failed
pub none-hidden : (c : Complaint) (run : Run) → run.after.input.faults ≡ run.before.input.faults → run.after.out ≡ run.before.out → HidesNothing c run
none-hidden c run reads same = record { reads = inl reads; writes = ap (λ sink. sink.faults) same; wants = inl (ap (λ sink. sink.wants) same) }

pub read-told : (run : Run) → run.after.out.faults ≡ run.before.out.faults → run.after.out.wants ≡ run.before.out.wants → HidesNothing complaint.Read run
read-told run writes wants = record { reads = inr refl; writes = writes; wants = inl wants }

pub line-told : (run : Run) (line : ℕ) (why : Why) → run.after.input.faults ≡ run.before.input.faults → run.after.out.faults ≡ run.before.out.faults
    → run.after.out.wants ≡ run.before.out.wants → HidesNothing (complaint.Line line why) run
line-told run line why reads writes wants = record { reads = inl reads; writes = writes; wants = inl wants }

pub memory-told : (run : Run) → run.after.input.faults ≡ run.before.input.faults → run.after.out.faults ≡ run.before.out.faults → HidesNothing complaint.Memory run
memory-told run reads writes = record { reads = inl reads; writes = writes; wants = inr refl }

on-true : (b : Bool) {P : Type 0} → P → OnTrue b P
on-true true p = p
on-true false p = tt

-- nothing is a front of any text
front-none : (o o' : Option (List ℕ)) (text : List ℕ) → o' ≡ o → GainedPrefix o o' text
front-none None o' text same = tt
front-none (Some held) o' text same = (0, same ∙ ap Some (sym (append-nil held)))

-- an output that is as it was has a front of any answer
pub unwritten : (command : Option Command) (run : Run) → KeepsUp command run → run.after.out ≡ run.before.out → WroteFront command run
unwritten command run kept same =
    let left = ap (λ sink. sink.written) same in
    record {
      out = if_any _ (input_of command run.before.input.left) (λ bytes. front-none run.before.out.written run.after.out.written (answer_by command bytes).out left);
      verdict = on-true (is_check command) (front-none run.before.out.written run.after.out.written permitted_line left);
      kept_up = kept;
    }

-- and so has a run that was given nothing
unread-told : (left left' out out' : Option (List ℕ)) → left' ≡ left → out' ≡ out → IfSome left (λ bytes. KeptUp replayed_so_far bytes left' out out')
unread-told None left' out out' same unwritten = tt
unread-told (Some bytes) left' out out' same unwritten =
    subst (λ (o : Option (List ℕ)). KeptUp replayed_so_far bytes left' out o) (sym unwritten) (kept-unread left' out bytes same)

pub unread-kept : (command : Option Command) (run : Run) → run.after.input ≡ run.before.input → run.after.out ≡ run.before.out → KeepsUp command run
unread-kept None run same unwritten = tt
unread-kept (Some command.Replay) run same unwritten =
    unread-told run.before.input.left run.after.input.left run.before.out.written run.after.out.written (ap (λ source. source.left) same) (ap (λ sink. sink.written) unwritten)
unread-kept (Some (command.Check stack)) run same unwritten = tt
unread-kept (Some (command.Make s)) run same unwritten = tt
unread-kept (Some (command.Summarize s)) run same unwritten = tt
