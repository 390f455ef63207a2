-- Applied in order, the entries of a log do with the machine what its executed requests do.
use Rattle.std.proofs.Common.{◌≡◌, ℕ, Bool, true, false, cond, eqb, List, [], ◌∷◌, ◌++◌, Option, None, Some, refl, ap, ◌∙◌}
use Rattle.std.specs.FinMap.{get, insert}
use Rattle.std.specs.List.{cons_option, zip}
use Rattle.std.specs.Option.{option_or}
use Rattle.vst_base.specs.Machines.{MachineMeaning, outputs_from, state_after}
use Rattle.vst_base.specs.declared.entry.Entry.{Entry}
use Rattle.raft_clients.proofs.Known.{Knows, knows_kept, knows_passed, session_of}
use Rattle.raft_clients.proofs.Views.{get-written}
use Rattle.raft_clients.specs.Executed.{executed_after, commands, request_of, requests}
use Rattle.raft_clients.specs.Executions.{last_session}
use Rattle.raft_clients.specs.Sessions.{AppliedAll, Sessions, applied_all, applied_by, applied_request, executes, is_new, kept_output, passes, with_answer}
use Rattle.raft_clients.specs.declared.session.Session.{Session}
use Rattle.raft_types.specs.declared.client.RaftInput.{RaftInput}

-- what is answered to a request that is not new, from the session if there is one
abbrev pub kept : {O : Type 0} → Option (Session O) → ℕ → Option O
kept None request = None
kept (Some session) request = kept_output session request

module _ {S C O : Type 0} (m : MachineMeaning S C O) where
  -- the machine's next state and its output, and the sessions then
  abbrev pub next : S → RaftInput C → S
  next s r = (m.apply s r.cmd).0

  abbrev pub told : S → RaftInput C → O
  told s r = (m.apply s r.cmd).1

  abbrev pub noted : S → Sessions O → RaftInput C → Sessions O
  noted s ss r = insert ss r.client (session_of r (told s r))

  pub applied_new : (s : S) (ss : Sessions O) (r : RaftInput C) (o : Option (Session O)) → is_new o r.request ≡ true → applied_by m s ss r o ≡ executes m s ss r
  applied_new s ss r None new = refl
  applied_new s ss r (Some session) new = ap (λ b. cond b (executes m s ss r) (passes s ss (kept_output session r.request))) new

  pub applied_old : (s : S) (ss : Sessions O) (r : RaftInput C) (o : Option (Session O)) → is_new o r.request ≡ false → applied_by m s ss r o ≡ passes s ss (kept o r.request)
  applied_old s ss r None old = absurd (cc)
  applied_old s ss r (Some session) old = ap (λ b. cond b (executes m s ss r) (passes s ss (kept_output session r.request))) old

  -- the executions of requests that are new to the machine in this state
  abbrev pub outcomes : S → List (RaftInput C) → List (RaftInput C × O)
  outcomes s rs = zip rs (outputs_from m s (commands rs))

  -- what entries make of a state and of sessions, where these of their requests are new
  pub record Executes (s : S) (ss : Sessions O) (news : List (RaftInput C)) (all : AppliedAll S C O) : Type 0 where
    pub state : all.state ≡ state_after m s (commands news)
    pub sessions : (client : ℕ) → get all.sessions client ≡ option_or (last_session (outcomes s news) client) (get ss client)

  last_written : (later : Option (Session O)) (b : Bool) (session : Session O) (before : Option (Session O)) →
      option_or later (cond b (Some session) before) ≡ option_or (option_or later (cond b (Some session) None)) before
  last_written (Some s) b session before = refl
  last_written None true session before = refl
  last_written None false session before = refl

  -- an entry and those after it, by what it asks for
  abbrev pub from_request : S → Sessions O → Entry C → List (Entry C) → Option (RaftInput C) → AppliedAll S C O
  from_request s ss e es o = with_answer e (applied_request m s ss o).output (applied_all m (applied_request m s ss o).state (applied_request m s ss o).sessions es)

  pub executes_all : (s : S) (ss : Sessions O) (earlier : List (RaftInput C)) (es : List (Entry C)) → Knows ss earlier → Executes s ss (executed_after Some earlier (requests es)) (applied_all m s ss es)
  executes_all s ss earlier [] knows = record { state = refl; sessions = λ client. refl }
  executes_all s ss earlier (e ∷ es) knows =
      by_request (request_of e) (executes_all s ss earlier es knows)
      (λ r new. executes_all (next s r) (noted s ss r) (earlier ++ r ∷ []) es (knows_kept ss earlier r knows (told s r) new))
      (λ r old. executes_all s ss (earlier ++ r ∷ []) es (knows_passed ss earlier r knows old))
    where
      by_request : (o : Option (RaftInput C)) → Executes s ss (executed_after Some earlier (requests es)) (applied_all m s ss es) →
          ((r : RaftInput C) → is_new (get ss r.client) r.request ≡ true → Executes (next s r) (noted s ss r) (executed_after Some (earlier ++ r ∷ []) (requests es)) (applied_all m (next s r) (noted s ss r) es)) →
          ((r : RaftInput C) → is_new (get ss r.client) r.request ≡ false → Executes s ss (executed_after Some (earlier ++ r ∷ []) (requests es)) (applied_all m s ss es)) →
          Executes s ss (executed_after Some earlier (cons_option o (requests es))) (from_request s ss e es o)
      by_request None none new old = record { state = none.state; sessions = none.sessions }
      by_request (Some r) none new old = go (is_new (get ss r.client) r.request) refl
        where
          go : (b : Bool) → is_new (get ss r.client) r.request ≡ b → Executes s ss (executed_after Some earlier (r ∷ requests es)) (from_request s ss e es (Some r))
          go true t = rw (knows.tells r.client r.request ∙ t, applied_new s ss r (get ss r.client) t) (record {
            state = (new r t).state;
            sessions = λ client. (new r t).sessions client
                ∙ ap (option_or (last_session (outcomes (next s r) (executed_after Some (earlier ++ r ∷ []) (requests es))) client)) (get-written ss r.client (session_of r (told s r)) client)
                ∙ last_written _ (eqb r.client client) (session_of r (told s r)) (get ss client);
          })
          go false t = rw (knows.tells r.client r.request ∙ t, applied_old s ss r (get ss r.client) t) (record { state = (old r t).state; sessions = (old r t).sessions })
