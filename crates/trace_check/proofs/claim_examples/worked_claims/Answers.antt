-- These print numbers, whose digits have to be computed, and look keys up.
use Rattle.std.specs.Prelude.{◌≡◌, ℕ, [], ◌∷◌, Some, None, Result, Ok, codes, refl}
use Rattle.std.specs.Fmt.{digits}
use Rattle.schedule_text.specs.Headers.{header_of}
use Rattle.std.proofs.Common.{inl, subst, sym}
use Rattle.app_text.specs.KvTexts.{kv_out}
use Rattle.kv_machine.specs.Kv.{kv}
use Rattle.kv_machine.specs.declared.cmd.KvCmd.{KvCmd}
use Rattle.kv_machine.specs.declared.cmd.KvCmd.TheVariants.{Put}
use Rattle.kv_machine.specs.declared.out.KvOut.{KvOut}
use Rattle.linearizability.specs.Linearizable.{IsLinearizable, Seen}
use Rattle.lock_server.specs.Locks.{lock_server}
use Rattle.raft_text.specs.RaftTexts.{asked}
use Rattle.raft_types.specs.declared.client.RaftInput.{RaftInput}
use Rattle.raft_types.specs.declared.client.RaftOut.TheVariants as told
use Rattle.line_reader.specs.declared.why.Why.{Why}
use Rattle.claim_verdicts.proofs.Lookups.{lookups}
use Rattle.claim_verdicts.specs.Clusters.{ClusterClaim}
use Rattle.claim_verdicts.specs.Schedules.{ScheduleClaim}
use Rattle.claim_verdicts.specs.declared.verdict.Verdict.{Verdict}
use Rattle.claim_verdicts.specs.declared.verdict.Verdict.TheVariants.{No, Yes}
use Rattle.stacks.specs.Kinds.{IsWhatClientsSee, nodes_of}
use Rattle.stacks.specs.Checks.{checked}
use Rattle.vst_base.specs.declared.lock.LockInput.{LockInput}
use Rattle.vst_base.specs.declared.lock.LockInput.TheVariants as ask
use Rattle.vst_base.specs.declared.lock.LockOutput.{LockOutput}
use Rattle.vst_base.specs.declared.lock.LockOutput.TheVariants as answer
use Rattle.vst_base.specs.declared.net.Net.TheVariants as net
use Rattle.vst_base.specs.declared.stack.StackId.TheVariants as stack
use Rattle.vst_base.specs.declared.step.Item.TheVariants as item
use Rattle.vst_base.specs.declared.step.Step.TheVariants as step
use Rattle.trace_check.proofs.claim_examples.worked_claims.Goals as goal

abbrev put : RaftInput KvCmd
put = asked 7 1 (Put (codes "a") (codes "x"))

abbrev seen : Seen KvCmd KvOut
seen = item.Input 0 put ∷ item.Output 0 (told.Reply 7 1 (kv_out (codes "a") (Some (codes "x")) None)) ∷ []

abbrev without_order : ClusterClaim KvCmd KvOut
without_order = record { trace = seen; header = None; image = [] }

-- a client asks for the lock, and so many of its messages come
abbrev locks : ScheduleClaim LockInput LockOutput
locks = record { trace = item.Input 1 ask.Lock ∷ item.Output 1 answer.Locked ∷ []; header = Some (record { net = net.Bag; stack = stack.Lock; nodes = 2 }); image = step.In 1 ask.Lock ∷ step.Deliver 0 ∷ step.Deliver 1 ∷ [] }

abbrev locks_too_early : ScheduleClaim LockInput LockOutput
locks_too_early = record { trace = locks.trace; header = locks.header; image = step.In 1 ask.Lock ∷ step.Deliver 0 ∷ [] }

other-verdict : (r : Result Verdict (ℕ × Why)) → r ≡ Ok Yes → r ≡ Ok (No 7 2) → ⊥
other-verdict r first second = cc

pub returns-clause-in_order : goal.returns-clause-in_order
returns-clause-in_order c = record {
  claim = record { trace = seen; header = None; image = put ∷ [] };
  read = refl;
  so = record { requested = record { once = (tt, tt); put_in = (inl refl, tt) }; outputs = (simp lookups, tt); in_time = ((inl refl, tt), tt) };
}

pub returns-clause-not_in_the_order : goal.returns-clause-not_in_the_order
returns-clause-not_in_the_order c = λ p.
    let same : without_order ≡ p.claim = cc in
    let missing = (subst (λ claim. IsLinearizable kv claim.image claim.trace) (sym same) p.so).outputs.0 in
    cc

pub returns-clause-no_image : goal.returns-clause-no_image
returns-clause-no_image c = λ p. let read = p.read in cc

pub returns-clause-locked : goal.returns-clause-locked
unfolding header_of
returns-clause-locked c = record { claim = locks; read = refl; so = record { allowed = refl; trace = refl } }

pub returns-clause-locked_too_early : goal.returns-clause-locked_too_early
unfolding header_of
returns-clause-locked_too_early c = λ p.
    let same : locks_too_early ≡ p.claim = cc in
    let shown = (subst (λ claim. IsWhatClientsSee net.Bag (lock_server (nodes_of claim.header)) claim) (sym same) p.so).trace in
    cc

pub returns-clause-replied : goal.returns-clause-replied
unfolding digits header_of
returns-clause-replied c = (c.permitted_claims_are_explained.ensures.explained stack.KvPb (codes "in 0 put a x\nout 0 a =x -\nin 1 get a\nout 1 redirect\nbelow\nschedule 1 one kv 1\nin 0 put a x\n")).0 (simp lookups)

-- the check says no
pub returns-clause-another_reply : goal.returns-clause-another_reply
unfolding digits header_of
returns-clause-another_reply c = λ p.
    let text = codes "in 0 put a x\nout 0 a =y -\nbelow\nschedule 1 one kv 1\nin 0 put a x\n" in
    other-verdict (checked stack.KvPb text) ((c.permitted_claims_are_explained.ensures.explained stack.KvPb text).1 p) refl

pub returns-clause-refused_step : goal.returns-clause-refused_step
unfolding header_of
returns-clause-refused_step c = c.permitted_claims_are_explained.ensures.refuted stack.LockSeq (codes "in 1 lock\nbelow\nschedule 1 bag lock 2\nin 1 lock\ndeliver 1\n") 4 5 refl

pub returns-clause-read_misses_the_write : goal.returns-clause-read_misses_the_write
unfolding digits header_of
returns-clause-read_misses_the_write c =
    c.permitted_claims_are_explained.ensures.refuted stack.Kv (codes "in 0 put a x\nout 0 a =x -\nin 0 get a\nout 0 a - -\nbelow\nschedule 1 one kv 1\nin 0 put a x\nin 0 get a\n") 5 4 (simp lookups)
