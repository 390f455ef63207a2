-- The copies in flight as a list: each with its destination and content, in the order of sending.
use Rattle.std.proofs.Common.{◌≡◌, ℕ, zero, suc, ◌-◌, ◌<◌, List, [], ◌∷◌, ◌++◌, replicate, Some, refl, ap, sym, subst, ◌∙◌, arith, append_assoc}
use Rattle.std.specs.Prelude.{slice_get}
use Rattle.net_semantics.specs.Worlds.{Packet, change_at, one_less, sent_by}

module _ {M : Type 0} where
  abbrev pub in_flight : List (Packet M) → List (ℕ × M)
  in_flight [] = []
  in_flight (p ∷ ps) = replicate p.copies (p.destination, p.content) ++ in_flight ps

  in_flight-append : (ps qs : List (Packet M)) → in_flight (ps ++ qs) ≡ in_flight ps ++ in_flight qs
  in_flight-append [] qs = refl
  in_flight-append (p ∷ ps) qs =
      let here = replicate p.copies (p.destination, p.content) in
      ap (λ xs. here ++ xs) (in_flight-append ps qs) ∙ sym (append_assoc here (in_flight ps) (in_flight qs))

  in_flight-sent_by : (n : ℕ) (sends : List (ℕ × M)) → in_flight (sent_by n sends) ≡ sends
  in_flight-sent_by n [] = refl
  in_flight-sent_by n (x ∷ xs) = ap (λ ys. x ∷ ys) (in_flight-sent_by n xs)

  -- what is sent joins what is in flight
  pub in_flight-send : (ps : List (Packet M)) (n : ℕ) (sends fs : List (ℕ × M)) → in_flight ps ≡ fs → in_flight (ps ++ sent_by n sends) ≡ fs ++ sends
  in_flight-send ps n sends fs e =
      in_flight-append ps (sent_by n sends) ∙ (ap (λ xs. in_flight ps ++ xs) (in_flight-sent_by n sends) ∙ ap (λ xs. xs ++ sends) e)

  -- a copy in flight, between those before it and after it, which alone are left once it is taken away
  pub record IsTaken (all rest : List (ℕ × M)) (x : ℕ × M) : Type 0 where
    pub before : List (ℕ × M)
    pub behind : List (ℕ × M)
    pub among : all ≡ before ++ x ∷ behind
    pub left : rest ≡ before ++ behind

  taken_first : (n : ℕ) (x : ℕ × M) (fs : List (ℕ × M)) → 0 < n → IsTaken (replicate n x ++ fs) (replicate (n - 1) x ++ fs) x
  taken_first zero x fs h = absurd (omega arith)
  taken_first (suc n) x fs h =
      let e : suc n - 1 ≡ n = omega arith in
      record { before = []; behind = replicate n x ++ fs; among = refl; left = ap (λ k. replicate k x ++ fs) e }

  taken_behind : (here all left : List (ℕ × M)) (x : ℕ × M) → IsTaken all left x → IsTaken (here ++ all) (here ++ left) x
  taken_behind here all left x t = record {
    before = here ++ t.before;
    behind = t.behind;
    among = ap (λ xs. here ++ xs) t.among ∙ sym (append_assoc here t.before (x ∷ t.behind));
    left = ap (λ xs. here ++ xs) t.left ∙ sym (append_assoc here t.before t.behind);
  }

  pub taken : (k : ℕ) (ps : List (Packet M)) (p : Packet M) → slice_get ps k ≡ Some p → 0 < p.copies
      → IsTaken (in_flight ps) (in_flight (change_at one_less k ps)) (p.destination, p.content)
  taken k [] p e copy = cc
  taken zero (q ∷ qs) p e copy =
      let f : q ≡ p = cc in
      subst (λ (r : Packet M). IsTaken (in_flight (r ∷ qs)) (in_flight (change_at one_less 0 (r ∷ qs))) (p.destination, p.content)) (sym f)
      (taken_first p.copies (p.destination, p.content) (in_flight qs) copy)
  taken (suc k) (q ∷ qs) p e copy = taken_behind (replicate q.copies (q.destination, q.content)) (in_flight qs) (in_flight (change_at one_less k qs)) (p.destination, p.content) (taken k qs p e copy)

  -- nothing is taken where nothing is in flight; and where one copy is, that one
  pub none_taken : (a b : List (ℕ × M)) (x : ℕ × M) → a ++ x ∷ b ≡ [] → ⊥
  none_taken [] b x e = cc
  none_taken (y ∷ a) b x e = cc

  pub one_taken : (a b : List (ℕ × M)) (x y : ℕ × M) → a ++ x ∷ b ≡ y ∷ [] → (x ≡ y) × (a ++ b ≡ [])
  one_taken [] b x y e = let f : x ≡ y = cc in let g : b ≡ [] = cc in (f, g)
  one_taken (z ∷ a) b x y e = let f : a ++ x ∷ b ≡ [] = cc in absurd (none_taken a b x f)
