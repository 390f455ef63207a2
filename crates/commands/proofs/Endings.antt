-- How a run ends where a line is refused.
use Rattle.std.specs.Prelude.{◌≡◌, ℕ, ◌+◌, ◌-◌, ◌≤◌, List, [], ◌++◌, length, Option, Some, None, Result, Ok, Err, IfSome}
use Rattle.std.proofs.Common.{ap, ◌∙◌, append-nil, arith, refl, subst, sym}
use Rattle.std.proofs.Math.Seq.{take-length}
use Rattle.outside.specs.Wholes.{Gained, GainedPrefix, Gave}
use Rattle.line_reader.specs.Lines.{decided}
use Rattle.line_reader.specs.declared.why.Why.{Why}
use Rattle.schedule_text.specs.Printing.{refusal_line}
use Rattle.schedule_replay.specs.declared.fault.ReplayFault.TheVariants as fault
use Rattle.schedule_replay.specs.Outcomes.{ComesTo}
use Rattle.schedule_replay.specs.Replays.{replayed, replayed_so_far}
use Rattle.vst_base.specs.declared.stack.StackId.{StackId}
use Rattle.claim_verdicts.specs.declared.verdict.Verdict.{Verdict}
use Rattle.claim_verdicts.specs.declared.verdict.Verdict.TheVariants as says
use Rattle.stacks.specs.Checks.{IsNotPermitted, checked, refused_so_far}
use Rattle.trace_check.specs.Outcomes as checks
use Rattle.trace_check.specs.Outcomes.{LooksAhead}
use Rattle.trace_check.specs.declared.fault.CheckFault.TheVariants as claim
use Rattle.command_line.specs.declared.command.Command.TheVariants as command
use Rattle.commands.specs.Answers.{answer_to_claim, condition_line, permitted_line, refusal_status, refusal_text}
use Rattle.commands.specs.Complaints.{HasCause}
use Rattle.commands.specs.Seen.{CountsNothing, IsQuiet, Run}
use Rattle.commands.specs.Runs.{BrokeOff, KeepsUp}
use Rattle.commands.specs.Statuses.{IsDenied, IsLineRefused, WroteFront}
use Rattle.commands.specs.declared.complaint.Complaint.TheVariants as complaint
use Rattle.lists.specs.Options.{if_some_weaker}

-- a text that gained nothing
gained-none : (o o' : Option (List ℕ)) → o' ≡ o → Gained o o' []
gained-none None o' same = tt
gained-none (Some held) o' same = same ∙ ap Some (sym (append-nil held))

-- a text is a front of itself
pub front-whole : (o o' : Option (List ℕ)) (text : List ℕ) → Gained o o' text → GainedPrefix o o' text
front-whole None o' text gained = tt
front-whole (Some held) o' text gained = (length text, gained ∙ ap (λ xs. Some (held ++ xs)) (sym (take-length text)))

-- how far past the byte that decided a refused line the input was given
abbrev IsGivenUpTo : Option (List ℕ) → Option (List ℕ) → ℕ → Type 0
IsGivenUpTo left left' line = IfSome left (λ bytes. (given : List ℕ) × Gave left left' given × (length given ≤ decided line bytes + 4096))

-- ---- a line of a claim

-- a check of this text refuses this line
abbrev RefusesClaim : StackId → ℕ → Why → List ℕ → Type 0
RefusesClaim stack line why bytes = checked stack bytes ≡ Err (line, why)

-- what follows of a part of what a text comes to, where it is told what that is
as-told : {A B : Type 0} (f : List ℕ → B) (b : B) (left : Option (List ℕ)) (part : B → A) → IfSome left (λ bytes. f bytes ≡ b) → IfSome left (λ bytes. part (f bytes) ≡ part b)
as-told f b None part told = tt
as-told f b (Some bytes) part told = ap part told

-- what is told of its answer
claim-as : {A : Type 0} (stack : StackId) (line : ℕ) (why : Why) (left : Option (List ℕ)) (part : Result Verdict (ℕ × Why) → A) → IfSome left (RefusesClaim stack line why)
    → IfSome left (λ bytes. part (checked stack bytes) ≡ part (Err (line, why)))
claim-as stack line why left part told = as-told (checked stack) (Err (line, why)) left part told

claim-ahead : (left left' : Option (List ℕ)) (line : ℕ) (why : Why) → IfSome left (λ bytes. LooksAhead left' bytes (claim.Refused line why)) → IsGivenUpTo left left' line
claim-ahead None left' line why ahead = tt
claim-ahead (Some bytes) left' line why ahead = ahead

pub claim-cause : (stack : StackId) (r : Run) (line : ℕ) (why : Why) → IfSome r.before.input.left (RefusesClaim stack line why) → HasCause (Some (command.Check stack)) r (complaint.Line line why)
claim-cause stack r line why told = (refl, if_some_weaker r.before.input.left (λ bytes e. record { status = ap (λ v. (answer_to_claim v).status) e; line = ap (λ v. (answer_to_claim v).err) e }) told)

pub claim-refused : (stack : StackId) (r : Run) (line : ℕ) (why : Why) → IfSome r.before.input.left (RefusesClaim stack line why)
    → IfSome r.before.input.left (λ bytes. LooksAhead r.after.input.left bytes (claim.Refused line why)) → r.after.input.faults ≡ r.before.input.faults → r.after.out ≡ r.before.out
    → Gained r.before.err.written r.after.err.written (refusal_line line why) → CountsNothing r.before.err r.after.err → IsLineRefused (Some (command.Check stack)) r
claim-refused stack r line why told ahead unfailed same said kept = record {
  line = line;
  why = why;
  reading = refl;
  status = claim-as stack line why r.before.input.left (λ v. (answer_to_claim v).status) told;
  named = claim-as stack line why r.before.input.left (λ v. (answer_to_claim v).err) told;
  ahead = claim-ahead r.before.input.left r.after.input.left line why ahead;
  out = if_some_weaker r.before.input.left (λ bytes e. subst (λ v. Gained r.before.out.written r.after.out.written (answer_to_claim v).out) (sym e) (gained-none r.before.out.written r.after.out.written (ap (λ sink. sink.written) same))) told;
  verdict = same;
  err = said;
  quiet = record { reads = unfailed; writes = record { out = record { faults = ap (λ sink. sink.faults) same; wants = ap (λ sink. sink.wants) same }; err = kept } };
}

-- ---- a line of a schedule

-- a replay of this text refused this line
abbrev RefusesLine : Run → ℕ → Why → List ℕ → Type 0
RefusesLine r line why bytes = ComesTo replayed replayed_so_far 0 bytes r.after.input.left r.before.out.written r.after.out.written (Err (fault.Refused line why))

pub line-cause : (r : Run) (line : ℕ) (why : Why) → IfSome r.before.input.left (RefusesLine r line why) → HasCause (Some command.Replay) r (complaint.Line line why)
line-cause r line why told = (refl, if_some_weaker r.before.input.left (λ bytes t. record { status = ap refusal_status t.refused; line = ap refusal_text t.refused }) told)

-- the trace before it was written
pub line-front : (r : Run) (line : ℕ) (why : Why) → KeepsUp (Some command.Replay) r → IfSome r.before.input.left (RefusesLine r line why) → WroteFront (Some command.Replay) r
line-front r line why kept told = record {
  out = if_some_weaker r.before.input.left (λ bytes t. front-whole r.before.out.written r.after.out.written (replayed bytes).out t.written) told;
  verdict = tt;
  kept_up = kept;
}

minus-none : (n : ℕ) → n - 0 ≡ n
minus-none n = omega arith

line-ahead : (left left' out out' : Option (List ℕ)) (line : ℕ) (why : Why)
    → IfSome left (λ bytes. ComesTo replayed replayed_so_far 0 bytes left' out out' (Err (fault.Refused line why))) → IsGivenUpTo left left' line
line-ahead None left' out out' line why told = tt
line-ahead (Some bytes) left' out out' line why told = (
  told.given,
  (told.gave.others, told.gave.whole, told.gave.left_is),
  subst (λ n. length told.given ≤ decided n bytes + 4096) (minus-none line) told.ahead,
)

-- which line it was
line-told : (r : Run) (line : ℕ) (why : Why) (left : Option (List ℕ)) → IfSome left (RefusesLine r line why) → IfSome left (λ bytes. (replayed bytes).refused ≡ Some (line, why))
line-told r line why None told = tt
line-told r line why (Some bytes) told = told.refused

-- and its line was said
pub line-refused : (r : Run) (line : ℕ) (why : Why) → IfSome r.before.input.left (RefusesLine r line why)
    → Gained r.before.err.written r.after.err.written (refusal_line line why) → IsQuiet r → IsLineRefused (Some command.Replay) r
line-refused r line why told said quiet = record {
  line = line;
  why = why;
  reading = refl;
  status = as-told (λ bytes. (replayed bytes).refused) (Some (line, why)) r.before.input.left refusal_status (line-told r line why r.before.input.left told);
  named = as-told (λ bytes. (replayed bytes).refused) (Some (line, why)) r.before.input.left refusal_text (line-told r line why r.before.input.left told);
  ahead = line-ahead r.before.input.left r.after.input.left r.before.out.written r.after.out.written line why told;
  out = if_some_weaker r.before.input.left (λ bytes t. t.written) told;
  verdict = tt;
  err = said;
  quiet = quiet;
}

broke-told : (r : Run) (left : Option (List ℕ)) → r.before.input.left ≡ left
    → IfSome left (λ bytes. ComesTo replayed replayed_so_far 0 bytes r.after.input.left r.before.out.written r.after.out.written (Err fault.Read))
    → IfSome left (λ bytes. BrokeOff (Some command.Replay) r)
broke-told r None same told = tt
broke-told r (Some bytes) same told = record {
  given = told.given;
  gave = subst (λ left. Gave left r.after.input.left told.given) (sym same) (told.gave.others, told.gave.whole, told.gave.left_is);
  short = told.short;
  taken = told.taken;
  out = told.written;
}

-- the whole lines before a read that failed left their trace
pub broke-front : (r : Run) → KeepsUp (Some command.Replay) r → IfSome r.before.input.left (λ bytes. ComesTo replayed replayed_so_far 0 bytes r.after.input.left r.before.out.written r.after.out.written (Err fault.Read))
    → WroteFront (Some command.Replay) r
broke-front r kept told = record { out = if_some_weaker r.before.input.left (λ bytes t. t.front) told; verdict = tt; kept_up = kept }

-- and the bytes that they came from
pub broke-line : (r : Run) → IfSome r.before.input.left (λ bytes. ComesTo replayed replayed_so_far 0 bytes r.after.input.left r.before.out.written r.after.out.written (Err fault.Read))
    → IfSome r.before.input.left (λ bytes. BrokeOff (Some command.Replay) r)
broke-line r told = broke-told r r.before.input.left refl told

-- and where memory is wanted a front of the answer was written
pub wanting-front : (r : Run) → KeepsUp (Some command.Replay) r → IfSome r.before.input.left (λ bytes. ComesTo replayed replayed_so_far 0 bytes r.after.input.left r.before.out.written r.after.out.written (Err fault.Memory))
    → WroteFront (Some command.Replay) r
wanting-front r kept told = record { out = told; verdict = tt; kept_up = kept }

-- ---- the line of a check that says yes

pub permitted-front : (stack : StackId) (r : Run) → IfSome r.before.input.left (λ bytes. (r.after.input.left ≡ Some []) × (checked stack bytes ≡ Ok says.Yes))
    → GainedPrefix r.before.out.written r.after.out.written permitted_line → WroteFront (Some (command.Check stack)) r
permitted-front stack r told front = record {
  out = if_some_weaker r.before.input.left (λ bytes t. subst (λ v. GainedPrefix r.before.out.written r.after.out.written (answer_to_claim v).out) (sym t.1) front) told;
  verdict = front;
  kept_up = tt;
}

-- a claim of which a condition is false has the answer that names it
pub denied-cause : (stack : StackId) (r : Run) (condition line : ℕ) → IfSome r.before.input.left (λ bytes. (r.after.input.left ≡ Some []) × (checked stack bytes ≡ Ok (says.No condition line)))
    → HasCause (Some (command.Check stack)) r (complaint.Condition condition line)
denied-cause stack r condition line told =
    (refl, if_some_weaker r.before.input.left (λ bytes t. record { status = ap (λ v. (answer_to_claim v).status) t.1; line = ap (λ v. (answer_to_claim v).err) t.1 }) told)

-- it is denied, where a check says no of such claims alone whose images do not explain them
as-second : (A : Type 0) {B : Type 0} (f : List ℕ → B) (b : B) (left : Option (List ℕ)) → IfSome left (λ bytes. A × (f bytes ≡ b)) → IfSome left (λ bytes. f bytes ≡ b)
as-second A f b None told = tt
as-second A f b (Some bytes) told = told.1

as-first : (A : Type 0) (P : List ℕ → Type 0) (left : Option (List ℕ)) → IfSome left (λ bytes. A × P bytes) → IfSome left (λ bytes. A)
as-first A P None told = tt
as-first A P (Some bytes) told = told.0

pub claim-denied : (stack : StackId) (r : Run) (condition line : ℕ)
    → ((bytes : List ℕ) (condition line : ℕ) → checked stack bytes ≡ Ok (says.No condition line) → IsNotPermitted stack bytes)
    → IfSome r.before.input.left (λ bytes. (r.after.input.left ≡ Some []) × (checked stack bytes ≡ Ok (says.No condition line)))
    → r.after.input.faults ≡ r.before.input.faults → r.after.out ≡ r.before.out
    → Gained r.before.err.written r.after.err.written (condition_line condition line) → CountsNothing r.before.err r.after.err → IsDenied (Some (command.Check stack)) r
claim-denied stack r condition line refuted told unfailed same said kept =
    let left = r.before.input.left in
    let no = Ok (says.No condition line) in
    let is = as-second (r.after.input.left ≡ Some []) (checked stack) no left told in
    record {
      condition = condition;
      line = line;
      ended = as-first (r.after.input.left ≡ Some []) (λ bytes. checked stack bytes ≡ no) left told;
      status = as-told (checked stack) no left (λ v. (answer_to_claim v).status) is;
      named = as-told (checked stack) no left (λ v. (answer_to_claim v).err) is;
      out = same;
      err = said;
      refuted = if_some_weaker {P = λ bytes. checked stack bytes ≡ no} {Q = IsNotPermitted stack} left (λ bytes e. refuted bytes condition line e) is;
      quiet = record { reads = unfailed; writes = record { out = record { faults = ap (λ sink. sink.faults) same; wants = ap (λ sink. sink.wants) same }; err = kept } };
    }

-- a claim that broke off
claim-told : (stack : StackId) (r : Run) (left : Option (List ℕ)) → r.before.input.left ≡ left → r.after.out.written ≡ r.before.out.written
    → IfSome left (λ bytes. checks.ComesTo (checked stack) (refused_so_far stack) bytes r.after.input.left (Err claim.Read)) → IfSome left (λ bytes. BrokeOff (Some (command.Check stack)) r)
claim-told stack r None same unwritten told = tt
claim-told stack r (Some bytes) same unwritten told = record {
  given = told.0;
  gave = subst (λ left. Gave left r.after.input.left told.0) (sym same) (told.1.rest', told.1.whole, told.1.left_is);
  short = told.1.short;
  taken = told.2;
  out = gained-none r.before.out.written r.after.out.written unwritten;
}

pub claim-broke : (stack : StackId) (r : Run) → r.after.out.written ≡ r.before.out.written
    → IfSome r.before.input.left (λ bytes. checks.ComesTo (checked stack) (refused_so_far stack) bytes r.after.input.left (Err claim.Read))
    → IfSome r.before.input.left (λ bytes. BrokeOff (Some (command.Check stack)) r)
claim-broke stack r unwritten told = claim-told stack r r.before.input.left refl unwritten told
