-- A run that ends by a complaint answers so: each status of it, by what telling the complaint comes to.
use Rattle.std.specs.Prelude.{◌≡◌, ◌⊎◌, ℕ, List, Option, Some, None, false}
use Rattle.std.proofs.Common.{inl, inr, ap, ◌∙◌, subst, sym, arith, refl}
use Rattle.outside.specs.Counting.{Rose}
use Rattle.outside.specs.Wholes.{Gained}
use Rattle.command_line.specs.CommandSet.{takes_words}
use Rattle.command_line.specs.declared.command.Command.{Command}
use Rattle.commands.specs.Lines.{memory_line}
use Rattle.commands.specs.Saying.{Said}
use Rattle.commands.specs.Seen.{CountsNothing, KeepsCounts, Run, SinkSeen, SourceSeen}
use Rattle.commands.specs.Answers.{Answer, answer_by, input_of}
use Rattle.commands.specs.Complaints.{Complains, HasCause, HidesNothing, Told, line_of, status_of}
use Rattle.commands.specs.Outcomes.{AnswersCommand, RefusesWords}
use Rattle.commands.specs.Runs.{IfAnswered, IsComplete}
use Rattle.commands.specs.Statuses.{HasReadFailed, IsDenied, IsLineRefused, IsTextStatus, WroteFront}
use Rattle.commands.specs.declared.complaint.Complaint.{Complaint}
use Rattle.commands.specs.declared.complaint.Complaint.TheVariants as complaint
use Rattle.commands.proofs.Complained.{none-hidden, told-whole, told_failed, told_memory, unwritten}
use Rattle.lists.specs.Options.{if_any, if_some_weaker}

-- what the status of a complaint says of the run of a command, where its line is written whole
abbrev pub SaysOf : Command → Complaint → Run → Type 0
SaysOf command (complaint.Condition condition line) r = IsDenied (Some command) r
SaysOf command complaint.Words r = ⊥
SaysOf command (complaint.Line line why) r = IsLineRefused (Some command) r
SaysOf command complaint.Read r = HasReadFailed (Some command) r
SaysOf command complaint.Memory r = Unit {0}

-- telling comes to one of these
data Telling (c : Complaint) (r : Run) (result : ℕ) : Type 0 where
  Whole : result ≡ status_of c → Telling c r result
  Failed : result ≡ 5 → Rose r.before.err.faults r.after.err.faults → Telling c r result
  Wanted : result ≡ 8 → Telling c r result

module _ (c : Complaint) (r : Run) (result : ℕ) where
  made : Said 8 memory_line r.before.err r.after.err result → Telling c r result
  made (inl whole) = Wanted whole.0
  made (inr (inl failed)) = Failed failed.0 failed.2
  made (inr (inr wanted)) = Wanted wanted.0

  said : Said (status_of c) (line_of c) r.before.err r.after.err result → Telling c r result
  said (inl whole) = Whole whole.0
  said (inr (inl failed)) = Failed failed.0 failed.2
  said (inr (inr wanted)) = Wanted wanted.0

  telling : Told c r.before.err r.after.err result → Telling c r result
  telling (inl told) = said told
  telling (inr told) = made told.1

-- ---- the status

no_words : (command : Command) → Some command ≡ None → ⊥
no_words command e = cc

status_in : (command : Command) (c : Complaint) (r : Run) → HasCause (Some command) r c → IsTextStatus (status_of c)
status_in command (complaint.Condition condition line) r cause = inr (inl refl)
status_in command complaint.Words r cause = absurd (no_words command cause)
status_in command (complaint.Line line why) r cause = inr (inr (inl refl))
status_in command complaint.Read r cause = inr (inr (inr (inl refl)))
status_in command complaint.Memory r cause = inr (inr (inr (inr (inr refl))))

status_told : (command : Command) (c : Complaint) (r : Run) (result : ℕ) → HasCause (Some command) r c → Telling c r result → IsTextStatus result
status_told command c r result cause (Whole is) = subst IsTextStatus (sym is) (status_in command c r cause)
status_told command c r result cause (Failed is rose) = inr (inr (inr (inr (inl is))))
status_told command c r result cause (Wanted is) = inr (inr (inr (inr (inr is))))

-- ---- which one it is where no call failed

abbrev Completes : Run → ℕ → Answer → Type 0
Completes r result answer = ¬ Rose r.before.input.faults r.after.input.faults → ¬ Rose r.before.out.faults r.after.out.faults
    → ¬ Rose r.before.err.faults r.after.err.faults → (result ≡ answer.status) ⊎ (result ≡ 8)

any_completes : (command : Option Command) (r : Run) (result : ℕ) → ((answer : Answer) → Completes r result answer) → IsComplete command r result
any_completes command r result each =
    if_any (λ bytes. Completes r result (answer_by command bytes)) (input_of command r.before.input.left) (λ bytes. each (answer_by command bytes))

answer_completes : (command : Command) (c : Complaint) (r : Run) (result : ℕ) → result ≡ status_of c → IfAnswered (Some command) r (Complains c) → IsComplete (Some command) r result
answer_completes command c r result is told =
    if_some_weaker {P = λ bytes. Complains c (answer_by (Some command) bytes)} {Q = λ bytes. Completes r result (answer_by (Some command) bytes)}
    (input_of (Some command) r.before.input.left) (λ bytes says reads writes complains. inl (is ∙ sym says.status)) told

whole_complete : (command : Command) (c : Complaint) (r : Run) (result : ℕ) → HasCause (Some command) r c → result ≡ status_of c → IsComplete (Some command) r result
whole_complete command (complaint.Condition condition line) r result cause is = answer_completes command (complaint.Condition condition line) r result is cause.1
whole_complete command complaint.Words r result cause is = absurd (no_words command cause)
whole_complete command (complaint.Line line why) r result cause is = answer_completes command (complaint.Line line why) r result is cause.1
whole_complete command complaint.Read r result cause is = any_completes (Some command) r result (λ answer reads writes complains. absurd (reads cause.1))
whole_complete command complaint.Memory r result cause is = any_completes (Some command) r result (λ answer reads writes complains. inr is)

complete_told : (command : Command) (c : Complaint) (r : Run) (result : ℕ) → HasCause (Some command) r c → Telling c r result → IsComplete (Some command) r result
complete_told command c r result cause (Whole is) = whole_complete command c r result cause is
complete_told command c r result cause (Failed is rose) = any_completes (Some command) r result (λ answer reads writes complains. absurd (complains rose))
complete_told command c r result cause (Wanted is) = any_completes (Some command) r result (λ answer reads writes complains. inr is)

-- ---- what it says

not_zero : (c : Complaint) → status_of c ≡ 0 → ⊥
not_zero (complaint.Condition condition line) is = omega (arith, is)
not_zero complaint.Words is = omega (arith, is)
not_zero (complaint.Line line why) is = omega (arith, is)
not_zero complaint.Read is = omega (arith, is)
not_zero complaint.Memory is = omega (arith, is)

module _ (command : Command) (r : Run) where
  denied_of : (c : Complaint) → status_of c ≡ 1 → SaysOf command c r → IsDenied (Some command) r
  denied_of (complaint.Condition condition line) is says = says
  denied_of complaint.Words is says = absurd says
  denied_of (complaint.Line line why) is says = absurd (omega (arith, is))
  denied_of complaint.Read is says = absurd (omega (arith, is))
  denied_of complaint.Memory is says = absurd (omega (arith, is))

  refused_of : (c : Complaint) → status_of c ≡ 3 → SaysOf command c r → IsLineRefused (Some command) r
  refused_of (complaint.Condition condition line) is says = absurd (omega (arith, is))
  refused_of complaint.Words is says = absurd says
  refused_of (complaint.Line line why) is says = says
  refused_of complaint.Read is says = absurd (omega (arith, is))
  refused_of complaint.Memory is says = absurd (omega (arith, is))

  read_of : (c : Complaint) → status_of c ≡ 4 → SaysOf command c r → HasReadFailed (Some command) r
  read_of (complaint.Condition condition line) is says = absurd (omega (arith, is))
  read_of complaint.Words is says = absurd says
  read_of (complaint.Line line why) is says = absurd (omega (arith, is))
  read_of complaint.Read is says = says
  read_of complaint.Memory is says = absurd (omega (arith, is))

-- its line was written whole where the status is another than those of a failed write and of want of memory
whole_at : (n : ℕ) (c : Complaint) (b a : SinkSeen) (result : ℕ) → Told c b a result → result ≡ n → (n ≡ 5 → ⊥) → (n ≡ 8 → ⊥)
    → (status_of c ≡ n) × Gained b.written a.written (line_of c) × CountsNothing b a
whole_at n c b a result told is failed wanted =
    let whole = told-whole c b a result told (λ e. failed (sym is ∙ e)) (λ e. wanted (sym is ∙ e)) in
    (sym whole.0 ∙ is, whole.1, whole.2)

-- a command that complains
pub complained : (command : Command) (c : Complaint) (r : Run) (result : ℕ) → Told c r.before.err r.after.err result → HasCause (Some command) r c → HidesNothing c r
    → WroteFront (Some command) r → KeepsCounts r
    → (Gained r.before.err.written r.after.err.written (line_of c) → CountsNothing r.before.err r.after.err → SaysOf command c r)
    → AnswersCommand command r result
complained command c r result told cause hides front counts says =
    let at = λ (n : ℕ) (is : result ≡ n) (failed : n ≡ 5 → ⊥) (wanted : n ≡ 8 → ⊥). whole_at n c r.before.err r.after.err result told is failed wanted in
    record {
      status = status_told command c r result cause (telling c r result told);
      complete = complete_told command c r result cause (telling c r result told);
      done = λ is. absurd (not_zero c (at 0 is (λ e. omega (arith, e)) (λ e. omega (arith, e))).0);
      denied = λ is. let whole = at 1 is (λ e. omega (arith, e)) (λ e. omega (arith, e)) in denied_of command r c whole.0 (says whole.1 whole.2);
      refused = λ is. let whole = at 3 is (λ e. omega (arith, e)) (λ e. omega (arith, e)) in refused_of command r c whole.0 (says whole.1 whole.2);
      read = λ is. let whole = at 4 is (λ e. omega (arith, e)) (λ e. omega (arith, e)) in read_of command r c whole.0 (says whole.1 whole.2);
      write = λ is. told_failed (Some command) r c result told is cause hides front;
      memory = λ is. told_memory (Some command) r c result told is cause hides front;
      counts = counts;
    }

-- one that wanted memory says nothing else
pub wanted_memory : (command : Command) (r : Run) (result : ℕ) → Told complaint.Memory r.before.err r.after.err result → HidesNothing complaint.Memory r
    → WroteFront (Some command) r → KeepsCounts r → AnswersCommand command r result
wanted_memory command r result told hides front counts = complained command complaint.Memory r result told tt hides front counts (λ line quiet. tt)

-- ---- words that ask for nothing

none_status : (r : Run) (result : ℕ) → Telling complaint.Words r result → (result ≡ 2) ⊎ (result ≡ 5) ⊎ (result ≡ 8)
none_status r result (Whole is) = inl is
none_status r result (Failed is rose) = inr (inl is)
none_status r result (Wanted is) = inr (inr is)

none_complete : (r : Run) (result : ℕ) → Telling complaint.Words r result → IsComplete None r result
none_complete r result (Whole is) = λ reads writes complains. inl is
none_complete r result (Failed is rose) = λ reads writes complains. absurd (complains rose)
none_complete r result (Wanted is) = λ reads writes complains. inr is

-- they are refused
pub words_refused : (words : List (List ℕ)) (r : Run) (result : ℕ) → Told complaint.Words r.before.err r.after.err result → takes_words words ≡ false
    → r.after.input ≡ r.before.input → r.after.out ≡ r.before.out → KeepsCounts r → RefusesWords words r result
words_refused words r result told not_taken unread same counts =
    let reads = ap (λ (s : SourceSeen). s.faults) unread in
    let hides = none-hidden complaint.Words r reads same in
    record {
      status = none_status r result (telling complaint.Words r result told);
      complete = none_complete r result (telling complaint.Words r result told);
      words = λ is.
          let whole = whole_at 2 complaint.Words r.before.err r.after.err result told is (λ e. omega (arith, e)) (λ e. omega (arith, e)) in
          record {
            not_taken = not_taken;
            input = unread;
            out = same;
            err = whole.1;
            quiet = record {
              reads = reads;
              writes = record { out = record { faults = ap (λ (k : SinkSeen). k.faults) same; wants = ap (λ (k : SinkSeen). k.wants) same }; err = whole.2 };
            };
          };
      write = λ is. told_failed None r complaint.Words result told is refl hides (unwritten None r tt same);
      memory = λ is. told_memory None r complaint.Words result told is refl hides (unwritten None r tt same);
      counts = counts;
    }

wanting_status : (r : Run) (result : ℕ) → Telling complaint.Memory r result → (result ≡ 2) ⊎ (result ≡ 5) ⊎ (result ≡ 8)
wanting_status r result (Whole is) = inr (inr is)
wanting_status r result (Failed is rose) = inr (inl is)
wanting_status r result (Wanted is) = inr (inr is)

wanting_complete : (r : Run) (result : ℕ) → Telling complaint.Memory r result → IsComplete None r result
wanting_complete r result (Whole is) = λ reads writes complains. inr is
wanting_complete r result (Failed is rose) = λ reads writes complains. absurd (complains rose)
wanting_complete r result (Wanted is) = λ reads writes complains. inr is

-- or memory was wanted before that
pub words_unread : (words : List (List ℕ)) (r : Run) (result : ℕ) → Told complaint.Memory r.before.err r.after.err result
    → r.after.input.faults ≡ r.before.input.faults → r.after.out ≡ r.before.out → KeepsCounts r → RefusesWords words r result
words_unread words r result told reads same counts =
    let hides = none-hidden complaint.Memory r reads same in
    record {
      status = wanting_status r result (telling complaint.Memory r result told);
      complete = wanting_complete r result (telling complaint.Memory r result told);
      words = λ is.
          let whole = whole_at 2 complaint.Memory r.before.err r.after.err result told is (λ e. omega (arith, e)) (λ e. omega (arith, e)) in
          absurd (omega (arith, whole.0));
      write = λ is. told_failed None r complaint.Memory result told is tt hides (unwritten None r tt same);
      memory = λ is. told_memory None r complaint.Memory result told is tt hides (unwritten None r tt same);
      counts = counts;
    }
