-- What one more happening, and what several more, add to states, packets and items.
use Rattle.std.proofs.Common.{◌≡◌, ℕ, Bool, true, false, List, [], ◌∷◌, ◌++◌, cond, eqb, refl, sym, ap, ◌∙◌, subst, append_assoc, inl, inr}
use Rattle.std.proofs.lemmas.Bool.{eq-eqb, ne_eqb, cases_eq}
use Rattle.std.proofs.lemmas.List.{append-nil}
use Rattle.handler_trait.specs.Handling.{Meaning, Recovery}
use Rattle.net_semantics.specs.Worlds.{Packet, put, sent_by}
use Rattle.net_semantics.proofs.Places.{put-there, put-elsewhere}
use Rattle.vst_base.specs.declared.step.Item.{Item}
use Rattle.node_histories.specs.Histories.{Happening, History, NothingForged_since, WasSent, effect_after, effect_of, items_of, items_of_one, items_since, own, packets_of, packets_since, state_from, state_of}

pub own-append : {A : Type 0} (n : ℕ) (xs ys : List (ℕ × A)) → own n (xs ++ ys) ≡ own n xs ++ own n ys
own-append n [] ys = refl
own-append n (x ∷ xs) ys = go (eqb n x.0) (own-append n xs ys)
  where
    go : (b : Bool) → own n (xs ++ ys) ≡ own n xs ++ own n ys → cond b (x.1 ∷ own n (xs ++ ys)) (own n (xs ++ ys)) ≡ cond b (x.1 ∷ own n xs) (own n xs) ++ own n ys
    go true e = ap (λ zs. x.1 ∷ zs) e
    go false e = e

module _ {S K I O M : Type 0} (m : Meaning S I O M) (r : Recovery S K) where
  state_from-append : (n : ℕ) (s : S) (xs ys : List (Happening I M)) → state_from m r n s (xs ++ ys) ≡ state_from m r n (state_from m r n s xs) ys
  state_from-append n s [] ys = refl
  state_from-append n s (x ∷ xs) ys = state_from-append n (effect_of m r n s x).state xs ys

  own_then : (before : History I M) (h : ℕ × Happening I M) (k : ℕ) (b : Bool) → eqb k h.0 ≡ b
      → state_of m r (before ++ h ∷ []) k ≡ state_from m r k (state_of m r before k) (cond b (h.1 ∷ []) [])
  own_then before h k b e =
      ap (state_from m r k (m.init k)) (own-append k before (h ∷ []))
      ∙ (state_from-append k (m.init k) (own k before) (own k (h ∷ []))
      ∙ ap (λ t. state_from m r k (state_of m r before k) (cond t (h.1 ∷ []) [])) e)

  -- one more happening changes its node alone
  pub state_of-more : (before : History I M) (h : ℕ × Happening I M) (k : ℕ) → state_of m r (before ++ h ∷ []) k ≡ put (state_of m r before) h.0 (effect_after m r before h).state k
  state_of-more before h k = elim (cases_eq k h.0) [
    | inl e ↦ own_then before h k true (eq-eqb k h.0 e)
        ∙ (ap (λ n. (effect_of m r n (state_of m r before n) h.1).state) e ∙ sym (put-there (state_of m r before) h.0 (effect_after m r before h).state k e))
    | inr ne ↦ own_then before h k false (ne_eqb k h.0 ne) ∙ sym (put-elsewhere (state_of m r before) h.0 (effect_after m r before h).state k ne)
  ]

  pub packets_since-append : (before xs ys : History I M) → packets_since m r before (xs ++ ys) ≡ packets_since m r before xs ++ packets_since m r (before ++ xs) ys
  packets_since-append before [] ys = ap (λ zs. packets_since m r zs ys) (sym (append-nil before))
  packets_since-append before (x ∷ xs) ys =
      let sends : List (Packet M) = sent_by x.0 (effect_after m r before x).sends in
      ap (λ zs. sends ++ zs) (packets_since-append (before ++ x ∷ []) xs ys)
      ∙ (ap (λ zs. sends ++ (packets_since m r (before ++ x ∷ []) xs ++ packets_since m r zs ys)) (append_assoc before (x ∷ []) xs)
      ∙ sym (append_assoc sends (packets_since m r (before ++ x ∷ []) xs) (packets_since m r (before ++ x ∷ xs) ys)))

  -- one more happening adds what it sends
  pub packets_of-more : (before : History I M) (h : ℕ × Happening I M) → packets_of m r (before ++ h ∷ []) ≡ packets_of m r before ++ sent_by h.0 (effect_after m r before h).sends
  packets_of-more before h = packets_since-append [] before (h ∷ []) ∙ ap (λ zs. packets_of m r before ++ zs) (append-nil (sent_by h.0 (effect_after m r before h).sends))

  pub items_since-append : (before xs ys : History I M) → items_since m r before (xs ++ ys) ≡ items_since m r before xs ++ items_since m r (before ++ xs) ys
  items_since-append before [] ys = ap (λ zs. items_since m r zs ys) (sym (append-nil before))
  items_since-append before (x ∷ xs) ys =
      let items : List (Item I O) = items_of_one m r before x in
      ap (λ zs. items ++ zs) (items_since-append (before ++ x ∷ []) xs ys)
      ∙ (ap (λ zs. items ++ (items_since m r (before ++ x ∷ []) xs ++ items_since m r zs ys)) (append_assoc before (x ∷ []) xs)
      ∙ sym (append_assoc items (items_since m r (before ++ x ∷ []) xs) (items_since m r (before ++ x ∷ xs) ys)))

  -- one more happening adds what clients see of it
  pub items_of-more : (before : History I M) (h : ℕ × Happening I M) → items_of m r (before ++ h ∷ []) ≡ items_of m r before ++ items_of_one m r before h
  items_of-more before h = items_since-append [] before (h ∷ []) ∙ ap (λ zs. items_of m r before ++ zs) (append-nil (items_of_one m r before h))

  pub not_forged_more : (before xs : History I M) (n : ℕ) (h : Happening I M) → NothingForged_since m r before xs → WasSent m r (before ++ xs) n h → NothingForged_since m r before (xs ++ (n, h) ∷ [])
  not_forged_more before [] n h all sent = (subst (λ zs. WasSent m r zs n h) (append-nil before) sent, tt)
  not_forged_more before (x ∷ xs) n h all sent = (all.0, not_forged_more (before ++ x ∷ []) xs n h all.1 (subst (λ zs. WasSent m r zs n h) (sym (append_assoc before (x ∷ []) xs)) sent))

  pub nothing_forged_rest : (before xs ys : History I M) → NothingForged_since m r before (xs ++ ys) → NothingForged_since m r (before ++ xs) ys
  nothing_forged_rest before [] ys h = subst (λ zs. NothingForged_since m r zs ys) (sym (append-nil before)) h
  nothing_forged_rest before (x ∷ xs) ys h = subst (λ zs. NothingForged_since m r zs ys) (append_assoc before (x ∷ []) xs) (nothing_forged_rest (before ++ x ∷ []) xs ys h.1)
