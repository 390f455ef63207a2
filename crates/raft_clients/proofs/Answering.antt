-- What entries are answered is what the machine answers to the executed requests.
use Rattle.std.proofs.Common.{◌≡◌, ℕ, Bool, true, false, cond, eqb, List, [], ◌∷◌, ◌++◌, length, Option, None, Some, refl, ap, sym, ◌∙◌, subst}
use Rattle.std.proofs.lemmas.Bool.{eqb-true}
use Rattle.std.proofs.lemmas.List.{append_assoc}
use Rattle.std.proofs.lemmas.List.Elements.{All-nil, All-cons}
use Rattle.std.specs.FinMap.{empty, get, insert, get-empty}
use Rattle.std.specs.List.{All, cons_option, slice_get}
use Rattle.std.specs.Ordering.{nat_cmp}
use Rattle.vst_base.specs.Machines.{MachineMeaning}
use Rattle.vst_base.specs.declared.entry.Entry.{Entry}
use Rattle.raft_clients.proofs.Executing.{applied_new, applied_old, from_request, kept, next, noted, outcomes, told}
use Rattle.raft_clients.proofs.Known.{Knows, knows_kept, knows_passed, session_of}
use Rattle.raft_clients.proofs.Views.{get-written}
use Rattle.raft_clients.specs.Executed.{executed_after, request_of, requests}
use Rattle.raft_clients.specs.Executions.{IsAnswered, IsExecution}
use Rattle.raft_clients.specs.Sessions.{Sessions, answer, applied_all, is_new}
use Rattle.raft_clients.specs.declared.session.Session.{Session}
use Rattle.raft_types.specs.declared.client.RaftInput.{RaftInput}
use Rattle.lists.specs.Places.{slice_get_front, slice_get_seam}

module _ {C O : Type 0} where
  later : (done more : List (RaftInput C × O)) (client request : ℕ) (output : O) → IsExecution done client request output → IsExecution (done ++ more) client request output
  later done more client request output is =
      record { place = is.place; executed = is.executed; there = slice_get_front done more is.place (is.executed, output) is.there; client = is.client; request = is.request }

  -- what is kept of a client is its execution
  pub record Held (ss : Sessions O) (done : List (RaftInput C × O)) : Type 0 where
    pub at : (client : ℕ) (session : Session O) → get ss client ≡ Some session → IsExecution done client session.request session.output

  pub held_none : Held empty []
  held_none = record { at = λ client session g. let none : None ≡ Some session = sym (get-empty nat_cmp client) ∙ g in absurd (cc) }

  held_kept : (ss : Sessions O) (done : List (RaftInput C × O)) (r : RaftInput C) (o : O) → Held ss done → Held (insert ss r.client (session_of r o)) (done ++ (r, o) ∷ [])
  held_kept ss done r o held = record { at = λ client session g. go client session (eqb r.client client) refl (sym (get-written ss r.client (session_of r o) client) ∙ g) }
    where
      go : (client : ℕ) (session : Session O) (b : Bool) → eqb r.client client ≡ b → cond b (Some (session_of r o)) (get ss client) ≡ Some session →
          IsExecution (done ++ (r, o) ∷ []) client session.request session.output
      go client session true t g =
          let same : session_of r o ≡ session = cc in
          record {
            place = length done;
            executed = r;
            there = slice_get_seam done (r, o) [] ∙ ap (λ s. Some (r, s.output)) same;
            client = eqb-true r.client client t;
            request = ap (λ s. s.request) same;
          }
      go client session false t g = later done ((r, o) ∷ []) client session.request session.output (held.at client session g)

  pub repeated : (whole : List (RaftInput C × O)) (e : Entry C) (r : RaftInput C) (o : Option (Session O)) (rest : List (Entry C × O)) → request_of e ≡ Some r →
      ((session : Session O) → o ≡ Some session → IsExecution whole r.client session.request session.output) →
      All (IsAnswered whole) rest → All (IsAnswered whole) (answer e (kept o r.request) ++ rest)
  repeated whole e r None rest by held all = all
  repeated whole e r (Some session) rest by held all = go (eqb r.request session.request) refl
    where
      go : (b : Bool) → eqb r.request session.request ≡ b → All (IsAnswered whole) (answer e (cond b (Some session.output) None) ++ rest)
      go true t =
          let same : session.request ≡ r.request = sym (eqb-true r.request session.request t) in
          All-cons (IsAnswered whole) _ _ (record { asked = r; by = by; execution = rw (← same) (held session refl) }) all
      go false t = all

module _ {S C O : Type 0} (m : MachineMeaning S C O) (whole : List (RaftInput C × O)) where
  -- the answers of entries whose executions end the whole list
  pub answers_all : (s : S) (ss : Sessions O) (earlier : List (RaftInput C)) (es : List (Entry C)) (done : List (RaftInput C × O)) → Knows ss earlier → Held ss done →
      done ++ outcomes m s (executed_after Some earlier (requests es)) ≡ whole → All (IsAnswered whole) (applied_all m s ss es).answers
  answers_all s ss earlier [] done knows held is = All-nil (IsAnswered whole)
  answers_all s ss earlier (e ∷ es) done knows held is =
      by_request (request_of e) refl is (answers_all s ss earlier es done knows held)
      (λ r new. answers_all (next m s r) (noted m s ss r) (earlier ++ r ∷ []) es (done ++ (r, told m s r) ∷ []) (knows_kept ss earlier r knows (told m s r) new) (held_kept ss done r (told m s r) held))
      (λ r old. answers_all s ss (earlier ++ r ∷ []) es done (knows_passed ss earlier r knows old) held)
    where
      by_request : (o : Option (RaftInput C)) → request_of e ≡ o → done ++ outcomes m s (executed_after Some earlier (cons_option o (requests es))) ≡ whole →
          (done ++ outcomes m s (executed_after Some earlier (requests es)) ≡ whole → All (IsAnswered whole) (applied_all m s ss es).answers) →
          ((r : RaftInput C) → is_new (get ss r.client) r.request ≡ true → (done ++ (r, told m s r) ∷ []) ++ outcomes m (next m s r) (executed_after Some (earlier ++ r ∷ []) (requests es)) ≡ whole →
          All (IsAnswered whole) (applied_all m (next m s r) (noted m s ss r) es).answers) →
          ((r : RaftInput C) → is_new (get ss r.client) r.request ≡ false → done ++ outcomes m s (executed_after Some (earlier ++ r ∷ []) (requests es)) ≡ whole → All (IsAnswered whole) (applied_all m s ss es).answers) →
          All (IsAnswered whole) (from_request m s ss e es o).answers
      by_request None by is none new old = none is
      by_request (Some r) by is none new old = go (is_new (get ss r.client) r.request) refl
        where
          go : (b : Bool) → is_new (get ss r.client) r.request ≡ b → All (IsAnswered whole) (from_request m s ss e es (Some r)).answers
          go true t =
              let rest : done ++ (r, told m s r) ∷ outcomes m (next m s r) (executed_after Some (earlier ++ r ∷ []) (requests es)) ≡ whole = rw (knows.tells r.client r.request ∙ t) at is in
              let there : slice_get whole (length done) ≡ Some (r, told m s r) = ap (λ l. slice_get l (length done)) (sym rest) ∙ slice_get_seam done (r, told m s r) _ in
              rw (applied_new m s ss r (get ss r.client) t) (All-cons (IsAnswered whole) _ _
              (record { asked = r; by = by; execution = record { place = length done; executed = r; there = there; client = refl; request = refl } }) (new r t (append_assoc done ((r, told m s r) ∷ []) _ ∙ rest)))
          go false t =
              let rest : done ++ outcomes m s (executed_after Some (earlier ++ r ∷ []) (requests es)) ≡ whole = rw (knows.tells r.client r.request ∙ t) at is in
              let again = λ (session : Session O) (g : get ss r.client ≡ Some session). subst (λ l. IsExecution l r.client session.request session.output) rest (later done _ _ _ _ (held.at r.client session g)) in
              rw (applied_old m s ss r (get ss r.client) t) (repeated whole e r (get ss r.client) _ by again (old r t rest))
