-- Sessions tell which requests of their clients are new, as the requests do that came before.
use Rattle.std.proofs.Common.{◌≡◌, ℕ, Bool, true, false, cond, not, ◌&&◌, ◌||◌, eqb, ltb, List, [], ◌∷◌, ◌++◌, Option, None, Some, refl, ap, sym, ◌∙◌, arith}
use Rattle.std.proofs.Math.Bool.{and-true, and-false}
use Rattle.std.proofs.lemmas.Bool.{eqb-true, ltb-true, ltb-false, lt-ltb}
use Rattle.std.proofs.lemmas.List.Folds.{list_all-append}
use Rattle.std.specs.FinMap.{empty, get, insert, get-empty}
use Rattle.std.specs.Ordering.{nat_cmp}
use Rattle.raft_clients.proofs.Views.{get-written}
use Rattle.raft_clients.specs.Executed.{exceeds}
use Rattle.raft_clients.specs.Sessions.{Sessions, is_new}
use Rattle.raft_clients.specs.declared.session.Session.{Session}
use Rattle.raft_types.specs.declared.client.RaftInput.{RaftInput}

-- a request is new to its client's session exactly where it exceeds the earlier ones
pub record Knows {C O : Type 0} (sessions : Sessions O) (earlier : List (RaftInput C)) : Type 0 where
  pub tells : (client request : ℕ) → exceeds earlier client request ≡ is_new (get sessions client) request

pub knows_none : {C O : Type 0} → Knows {C = C} {O = O} empty []
knows_none = record { tells = λ client request. sym (ap (λ s. is_new s request) (get-empty nat_cmp client)) }

new_more : {O : Type 0} (s : Option (Session O)) (q r : ℕ) → is_new s q ≡ true → ltb q r ≡ true → is_new s r ≡ true
new_more None q r h l = refl
new_more (Some s) q r h l = let a = ltb-true s.request q h in let b = ltb-true q r l in lt-ltb s.request r (omega arith)

new_passed : {O : Type 0} (s : Option (Session O)) (q r : ℕ) → is_new s q ≡ false → is_new s r ≡ true → ltb q r ≡ true
new_passed None q r h l = cc
new_passed (Some s) q r h l = let a = ltb-false s.request q h in let b = ltb-true s.request r l in lt-ltb q r (omega arith)

exceeds_more : {C : Type 0} (earlier : List (RaftInput C)) (e : RaftInput C) (client request : ℕ) →
    exceeds (earlier ++ e ∷ []) client request ≡ (exceeds earlier client request && ((not (eqb e.client client) || ltb e.request request) && true))
exceeds_more earlier e client request = list_all-append (λ d. not (eqb d.client client) || ltb d.request request) earlier (e ∷ [])

-- what is kept of a request
abbrev pub session_of : {C O : Type 0} → RaftInput C → O → Session O
session_of e output = record { request = e.request; output = output }

module _ {C O : Type 0} (sessions : Sessions O) (earlier : List (RaftInput C)) (e : RaftInput C) (knows : Knows sessions earlier) where
  pub knows_kept : (output : O) → is_new (get sessions e.client) e.request ≡ true →
      Knows (insert sessions e.client (session_of e output)) (earlier ++ e ∷ [])
  knows_kept output new = record {
    tells = λ q r. exceeds_more earlier e q r ∙ go q r (eqb e.client q) refl (ltb e.request r) refl ∙ sym (ap (λ o. is_new o r) (get-written sessions e.client (session_of e output) q));
  }
    where
      go : (q r : ℕ) (b : Bool) → eqb e.client q ≡ b → (l : Bool) → ltb e.request r ≡ l →
          (exceeds earlier q r && ((not b || l) && true)) ≡ is_new (cond b (Some (session_of e output)) (get sessions q)) r
      go q r false t l m = and-true _ ∙ knows.tells q r
      go q r true t false m = and-false _ ∙ sym m
      go q r true t true m =
          let new_here : is_new (get sessions q) e.request ≡ true = ap (λ k. is_new (get sessions k) e.request) (sym (eqb-true e.client q t)) ∙ new in
          and-true _ ∙ knows.tells q r ∙ new_more (get sessions q) e.request r new_here m ∙ sym m

  pub knows_passed : is_new (get sessions e.client) e.request ≡ false → Knows sessions (earlier ++ e ∷ [])
  knows_passed old = record { tells = λ q r. exceeds_more earlier e q r ∙ go q r (eqb e.client q) refl (is_new (get sessions q) r) refl }
    where
      go : (q r : ℕ) (b : Bool) → eqb e.client q ≡ b → (l : Bool) → is_new (get sessions q) r ≡ l →
          (exceeds earlier q r && ((not b || ltb e.request r) && true)) ≡ l
      go q r false t l m = and-true _ ∙ knows.tells q r ∙ m
      go q r true t false m = ap (λ b. b && (ltb e.request r && true)) (knows.tells q r ∙ m)
      go q r true t true m =
          let old_here : is_new (get sessions q) e.request ≡ false = ap (λ k. is_new (get sessions k) e.request) (sym (eqb-true e.client q t)) ∙ old in
          ap (λ b. b && (ltb e.request r && true)) (knows.tells q r ∙ m) ∙ and-true _ ∙ new_passed (get sessions q) e.request r old_here m
