-- What a log does with a machine, from the first state and no sessions on.
use Rattle.std.proofs.Common.{◌≡◌, ℕ, List, [], ◌∷◌, ◌++◌, Option, None, Some, refl, ap, sym, ◌∙◌}
use Rattle.std.proofs.lemmas.List.{append_assoc}
use Rattle.std.specs.FinMap.{empty, get, get-empty}
use Rattle.std.specs.List.{All}
use Rattle.std.specs.Option.{option_or}
use Rattle.std.specs.Ordering.{nat_cmp}
use Rattle.vst_base.specs.Machines.{MachineMeaning, state_after}
use Rattle.vst_base.specs.declared.entry.Entry.{Entry}
use Rattle.raft_clients.proofs.Answering.{answers_all, held_none}
use Rattle.raft_clients.proofs.Executing.{Executes, executes_all}
use Rattle.raft_clients.proofs.Known.{knows_none}
use Rattle.raft_clients.specs.Executed.{executed, commands, requests}
use Rattle.raft_clients.specs.Executions.{IsAnswered, executions, last_session}
use Rattle.raft_clients.specs.Sessions.{AppliedAll, Sessions, answer, applied, applied_after, applied_all, with_answer}

or_none : {A : Type 0} (o : Option A) → option_or o None ≡ o
or_none None = refl
or_none (Some x) = refl

module _ {S C O : Type 0} (m : MachineMeaning S C O) where
  whole : (es : List (Entry C)) → Executes m m.init empty (executed (requests es)) (applied_all m m.init empty es)
  whole es = executes_all m m.init empty [] es knows_none

  pub applied-state : (es : List (Entry C)) → (applied_all m m.init empty es).state ≡ state_after m m.init (commands (executed (requests es)))
  applied-state es = (whole es).state

  pub applied-sessions : (es : List (Entry C)) (client : ℕ) → get (applied_all m m.init empty es).sessions client ≡ last_session (executions m (requests es)) client
  applied-sessions es client = (whole es).sessions client ∙ ap (option_or (last_session (executions m (requests es)) client)) (get-empty nat_cmp client) ∙ or_none _

  pub applied-answers : (es : List (Entry C)) → All (IsAnswered (executions m (requests es))) (applied_all m m.init empty es).answers
  applied-answers es = answers_all m (executions m (requests es)) m.init empty [] es [] knows_none held_none refl

  answered_before : (e : Entry C) (output : Option O) (before : AppliedAll S C O) (es : List (Entry C)) →
      with_answer e output (applied_after m before es) ≡ applied_after m (with_answer e output before) es
  answered_before e output before es = ap (λ all. record (applied_all m before.state before.sessions es) { answers = all }) (sym (append_assoc (answer e output) before.answers _))

  pub applied-append : (s : S) (ss : Sessions O) (xs ys : List (Entry C)) → applied_all m s ss (xs ++ ys) ≡ applied_after m (applied_all m s ss xs) ys
  applied-append s ss [] ys = refl
  applied-append s ss (x ∷ xs) ys =
      ap (with_answer x (applied m s ss x).output) (applied-append (applied m s ss x).state (applied m s ss x).sessions xs ys)
      ∙ answered_before x (applied m s ss x).output (applied_all m (applied m s ss x).state (applied m s ss x).sessions xs) ys
