-- One more entry after those that there are.
use Rattle.std.proofs.Common.{◌≡◌, ℕ, ◌+◌, Bool, true, false, cond, List, [], ◌∷◌, ◌++◌, length, map, Option, None, Some, refl, ap, sym, subst, ◌∙◌, arith}
use Rattle.std.proofs.lemmas.List.{append-nil, length-append, map-append}
use Rattle.std.proofs.lemmas.List.Elements.{filter_map-append}
use Rattle.std.specs.FinMap.{empty, get}
use Rattle.std.specs.List.{cons_option, enumerate_from, filter_map}
use Rattle.std.specs.Option.{option_to_list}
use Rattle.vst_base.specs.declared.entry.Entry.{Entry}
use Rattle.raft_clients.proofs.Known.{Knows, knows_kept, knows_none, knows_passed}
use Rattle.raft_clients.proofs.Listed.{executed-append, executed_after-append}
use Rattle.raft_clients.specs.Executed.{executed, executed_after, is_executed, request_of, requests}
use Rattle.raft_clients.specs.Sessions.{is_new}
use Rattle.raft_types.specs.declared.client.RaftInput.{RaftInput}
use Rattle.applied_order.specs.Orders.{HasFollowed, OrderView, counted, executed_indexes, with_executed, with_entry}

pub followed_none : {C : Type 0} → HasFollowed {C = C} (record { entries = 0; sessions = empty; requests = []; indexes = [] }) []
followed_none {C = C} =
    let none : Knows {C = C} {O = Unit {0}} empty [] = knows_none in
    record { entries = refl; sessions = λ client request. sym (none.tells client request); requests = refl; indexes = refl }

module _ {C : Type 0} where
  option_alone : (o : Option (RaftInput C)) → cons_option o [] ≡ option_to_list o
  option_alone None = refl
  option_alone (Some r) = refl

  requests-more : (es : List (Entry C)) (e : Entry C) → requests (es ++ e ∷ []) ≡ requests es ++ option_to_list (request_of e)
  requests-more es e = filter_map-append request_of es (e ∷ []) ∙ ap (λ rs. requests es ++ rs) (option_alone (request_of e))

  abbrev asked_at : ℕ × Entry C → Option (RaftInput C)
  asked_at p = request_of p.1

  abbrev index_at : ℕ × Entry C → ℕ
  index_at p = p.0

  -- the indexes of one entry alone
  index_alone : (earlier : List (RaftInput C)) (n : ℕ) (e : Entry C) (b : Bool) → is_executed earlier (request_of e) ≡ b →
      map index_at (executed_after asked_at earlier ((n, e) ∷ [])) ≡ cond b (n ∷ []) []
  index_alone earlier n e true t = rw t refl
  index_alone earlier n e false t = rw t refl

  numbered-more : (n : ℕ) (es : List (Entry C)) (e : Entry C) → enumerate_from n (es ++ e ∷ []) ≡ enumerate_from n es ++ (n + length es, e) ∷ []
  numbered-more n [] e = ap (λ k. (k, e) ∷ []) (omega arith)
  numbered-more n (x ∷ es) e =
      let one : n + 1 + length es ≡ n + length (x ∷ es) = omega arith in
      ap (λ ps. (n, x) ∷ ps) (numbered-more (n + 1) es e ∙ ap (λ k. enumerate_from (n + 1) es ++ (k, e) ∷ []) one)

  requests-numbered : (n : ℕ) (es : List (Entry C)) → filter_map asked_at (enumerate_from n es) ≡ requests es
  requests-numbered n [] = refl
  requests-numbered n (e ∷ es) = ap (cons_option (request_of e)) (requests-numbered (n + 1) es)

  indexes-more : (es : List (Entry C)) (e : Entry C) (b : Bool) → is_executed (requests es) (request_of e) ≡ b →
      executed_indexes (es ++ e ∷ []) ≡ executed_indexes es ++ cond b ((length es + 1) ∷ []) []
  indexes-more es e b t =
      let before = enumerate_from 1 es in
      let one : 1 + length es ≡ length es + 1 = omega arith in
      let all : enumerate_from 1 (es ++ e ∷ []) ≡ before ++ (length es + 1, e) ∷ [] =
      numbered-more 1 es e ∙ ap (λ k. before ++ (k, e) ∷ []) one in
      ap (λ ps. map index_at (executed_after asked_at [] ps)) all
      ∙ ap (map index_at) (executed_after-append asked_at [] before ((length es + 1, e) ∷ []))
      ∙ map-append index_at (executed_after asked_at [] before) (executed_after asked_at (filter_map asked_at before) ((length es + 1, e) ∷ []))
      ∙ ap (λ rs. executed_indexes es ++ map index_at (executed_after asked_at rs ((length es + 1, e) ∷ []))) (requests-numbered 1 es)
      ∙ ap (λ ks. executed_indexes es ++ ks) (index_alone (requests es) (length es + 1) e b t)

module _ {C : Type 0} (o : OrderView C) (es : List (Entry C)) (e : Entry C) (had : HasFollowed o es) where
  knows : Knows o.sessions (requests es)
  knows = record { tells = λ client request. sym (had.sessions client request) }

  longer_by_one : o.entries + 1 ≡ length (es ++ e ∷ [])
  longer_by_one = omega (arith, had.entries, length-append es (e ∷ []))

  -- the requests and the executed requests, by what the entry holds and whether that is executed
  requests_now : (a : Option (RaftInput C)) → request_of e ≡ a → requests (es ++ e ∷ []) ≡ requests es ++ option_to_list a
  requests_now a by = requests-more es e ∙ ap (λ a. requests es ++ option_to_list a) by

  executed_now : (r : RaftInput C) → request_of e ≡ Some r → (b : Bool) → is_executed (requests es) (Some r) ≡ b →
      executed (requests (es ++ e ∷ [])) ≡ executed (requests es) ++ cond b (r ∷ []) []
  executed_now r by b t =
      ap executed (requests_now (Some r) by) ∙ executed-append (requests es) (r ∷ [])
      ∙ ap (λ c. executed (requests es) ++ cond c (r ∷ []) []) t

  indexes_now : (a : Option (RaftInput C)) → request_of e ≡ a → (b : Bool) → is_executed (requests es) a ≡ b →
      executed_indexes (es ++ e ∷ []) ≡ executed_indexes es ++ cond b ((length es + 1) ∷ []) []
  indexes_now a by b t = indexes-more es e b (ap (is_executed (requests es)) by ∙ t)

  indexes_stay : (a : Option (RaftInput C)) → request_of e ≡ a → is_executed (requests es) a ≡ false →
      o.indexes ≡ executed_indexes (es ++ e ∷ [])
  indexes_stay a by t = had.indexes ∙ sym (indexes_now a by false t ∙ append-nil (executed_indexes es))

  pub followed_noop : request_of e ≡ None → HasFollowed (counted o) (es ++ e ∷ [])
  followed_noop by =
      let same : requests (es ++ e ∷ []) ≡ requests es = requests_now None by ∙ append-nil (requests es) in
      record {
        entries = longer_by_one;
        sessions = rw same had.sessions;
        requests = had.requests ∙ ap executed (sym same);
        indexes = indexes_stay None by refl;
      }

  pub followed_executed : (r : RaftInput C) → request_of e ≡ Some r → is_new (get o.sessions r.client) r.request ≡ true →
      HasFollowed (with_executed o r) (es ++ e ∷ [])
  followed_executed r by new =
      let exceeds : is_executed (requests es) (Some r) ≡ true = sym (had.sessions r.client r.request) ∙ new in
      let now = knows_kept o.sessions (requests es) r knows tt new in
      record {
        entries = longer_by_one;
        sessions = rw (requests_now (Some r) by) (λ client request. sym (now.tells client request));
        requests = ap (λ rs. rs ++ r ∷ []) had.requests ∙ sym (executed_now r by true exceeds);
        indexes =
            ap (λ k. o.indexes ++ (k + 1) ∷ []) had.entries
            ∙ (ap (λ ks. ks ++ (length es + 1) ∷ []) had.indexes ∙ sym (indexes_now (Some r) by true exceeds));
      }

  pub followed_passed : (r : RaftInput C) → request_of e ≡ Some r → is_new (get o.sessions r.client) r.request ≡ false →
      HasFollowed (counted o) (es ++ e ∷ [])
  followed_passed r by old =
      let exceeds : is_executed (requests es) (Some r) ≡ false = sym (had.sessions r.client r.request) ∙ old in
      let now = knows_passed o.sessions (requests es) r knows old in
      record {
        entries = longer_by_one;
        sessions = rw (requests_now (Some r) by) (λ client request. sym (now.tells client request));
        requests = had.requests ∙ sym (executed_now r by false exceeds ∙ append-nil (executed (requests es)));
        indexes = indexes_stay (Some r) by exceeds;
      }

  -- what is kept of the entry, whatever it holds
  pub followed_more : (next : OrderView C) → next ≡ with_entry o (request_of e) → HasFollowed next (es ++ e ∷ [])
  followed_more next is = subst (λ n. HasFollowed n (es ++ e ∷ [])) (sym is) (go (request_of e) refl)
    where
      go : (a : Option (RaftInput C)) → request_of e ≡ a → HasFollowed (with_entry o a) (es ++ e ∷ [])
      go None by = followed_noop by
      go (Some r) by = by_test (is_new (get o.sessions r.client) r.request) refl
        where
          by_test : (b : Bool) → is_new (get o.sessions r.client) r.request ≡ b →
              HasFollowed (cond b (with_executed o r) (counted o)) (es ++ e ∷ [])
          by_test true t = followed_executed r by t
          by_test false t = followed_passed r by t
