-- What nodes of a cluster make of entries that have texts has texts: the machine's state stays sound, and each output that is kept
-- for a client has a text.
use Rattle.std.specs.Prelude.{ℕ, ◌==◌, List, [], ◌∷◌, nat_lt, Option, Some, None}
use Rattle.std.specs.Cmp.{nat_cmp_total}
use Rattle.std.specs.FinMap.{get}
use Rattle.std.specs.FinMap as map
use Rattle.std.specs.Ordering.{nat_cmp}
use Rattle.raft_clients.specs.Executed.{asked_by, request_of}
use Rattle.raft_clients.specs.Sessions.{Applied, AppliedAll, Sessions, answer, applied, applied_all, applied_by, applied_request, executes, kept_output, passes}
use Rattle.raft_clients.specs.declared.session.Session.{Session}
use Rattle.raft_text.specs.RaftTexts.{IsRaftInput, IsRaftOutput}
use Rattle.raft_types.specs.declared.client.RaftInput.{RaftInput}
use Rattle.raft_types.specs.declared.client.RaftOut.TheVariants as told
use Rattle.raft_xform.specs.Applying.{replies, reply}
use Rattle.vst_base.specs.Machines.{MachineMeaning}
use Rattle.vst_base.specs.declared.entry.Entry.{Entry}
use Rattle.vst_base.specs.declared.what.What.{What}
use Rattle.vst_base.specs.declared.what.What.TheVariants.{Noop, Request}
use Rattle.trace_check.proofs.Eaches.{IfThere, either}
use Rattle.trace_check.proofs.Machines.{MachineKeeps}
use Rattle.trace_check.proofs.Maps.{EachValue, each-empty, each-insert}
use Rattle.lists.specs.Each.{Each, each_append}

module _ {S C O : Type 0} (m : MachineMeaning S C O) (HasIn : C → Type 0) (HasOut : O → Type 0) (Sound : S → Type 0) (keeps : MachineKeeps m HasIn HasOut Sound) where
  -- what it asks for has a text, if it asks for anything
  abbrev pub IsTextEntry : Entry C → Type 0
  IsTextEntry e = IfThere (IsRaftInput HasIn) (request_of e)

  abbrev IsTextSession : Session O → Type 0
  IsTextSession s = HasOut s.output

  abbrev pub AreTextSessions : Sessions O → Type 0
  AreTextSessions sessions = EachValue nat_cmp IsTextSession sessions

  pub no-sessions : AreTextSessions map.empty
  no-sessions = each-empty nat_cmp IsTextSession

  record IsTextApplied (a : Applied S O) : Type 0 where
    state : Sound a.state
    sessions : AreTextSessions a.sessions
    output : IfThere HasOut a.output

  module _ (state : S) (sessions : Sessions O) (sound : Sound state) (kept : AreTextSessions sessions) where
    executes-text : (r : RaftInput C) → IsRaftInput HasIn r → IsTextApplied (executes m state sessions r)
    executes-text r has =
        let output = keeps.output state r.cmd sound has.2 in
        record {
          state = keeps.state state r.cmd sound has.2;
          sessions = each-insert nat_cmp IsTextSession nat_cmp_total sessions kept r.client (record { request = r.request; output = (m.apply state r.cmd).1 }) output;
          output = output;
        }

    passes-text : (output : Option O) → IfThere HasOut output → IsTextApplied (passes state sessions output)
    passes-text output has = record { state = sound; sessions = kept; output = has }

    applied-by : (r : RaftInput C) → IsRaftInput HasIn r → (o : Option (Session O)) → IfThere IsTextSession o → IsTextApplied (applied_by m state sessions r o)
    applied-by r has None text = executes-text r has
    applied-by r has (Some session) text =
        either IsTextApplied (nat_lt session.request r.request) (executes m state sessions r) (passes state sessions (kept_output session r.request)) (executes-text r has)
        (passes-text (kept_output session r.request) (either (IfThere HasOut) (r.request == session.request) (Some session.output) None text tt))

    applied-request : (o : Option (RaftInput C)) → IfThere (IsRaftInput HasIn) o → IsTextApplied (applied_request m state sessions o)
    applied-request None has = passes-text None tt
    applied-request (Some r) has = applied-by r has (get sessions r.client) (kept r.client)

  abbrev IsTextAnswer : Entry C × O → Type 0
  IsTextAnswer a = IsTextEntry a.0 × HasOut a.1

  pub record AreTextApplied (a : AppliedAll S C O) : Type 0 where
    pub state : Sound a.state
    pub sessions : AreTextSessions a.sessions
    pub answers : Each IsTextAnswer a.answers

  answer-text : (e : Entry C) (o : Option O) → IsTextEntry e → IfThere HasOut o → Each IsTextAnswer (answer e o)
  answer-text e None has text = tt
  answer-text e (Some output) has text = ((has, text), tt)

  pub all-text : (state : S) (sessions : Sessions O) (es : List (Entry C)) → Sound state → AreTextSessions sessions → Each IsTextEntry es → AreTextApplied (applied_all m state sessions es)
  all-text state sessions [] sound kept has = record { state = sound; sessions = kept; answers = tt }
  all-text state sessions (e ∷ es) sound kept has =
      let first = applied-request state sessions sound kept (request_of e) has.0 in
      let rest = all-text (applied m state sessions e).state (applied m state sessions e).sessions es first.state first.sessions has.1 in
      record {
        state = rest.state;
        sessions = rest.sessions;
        answers = each_append IsTextAnswer (answer e (applied m state sessions e).output) (applied_all m (applied m state sessions e).state (applied m state sessions e).sessions es).answers (answer-text e (applied m state sessions e).output has.0 first.output) rest.answers;
      }

  -- what a node tells its clients
  reply-text : (me : ℕ) (what : What C) (output : O) → IfThere (IsRaftInput HasIn) (asked_by what) → HasOut output → Each (IsRaftOutput HasOut) (reply me what output)
  reply-text me Noop output has text = tt
  reply-text me (Request client request origin cmd) output has text =
      either (Each (IsRaftOutput HasOut)) (origin == me) (told.Reply client request output ∷ []) [] ((has.0, has.1, text), tt) tt

  pub replies-text : (me : ℕ) (answers : List (Entry C × O)) → Each IsTextAnswer answers → Each (IsRaftOutput HasOut) (replies me answers)
  replies-text me [] has = tt
  replies-text me (a ∷ rest) has =
      each_append (IsRaftOutput HasOut) (reply me a.0.what a.1) (replies me rest) (reply-text me a.0.what a.1 has.0.0 has.0.1) (replies-text me rest has.1)
