-- What an event of retrying handlers sends: data with the next numbers of its node, and then at most one packet that bears no new name.
use Rattle.std.specs.Prelude.{◌≡◌, ◌≢◌, ℕ, zero, suc, ◌+◌, ◌<◌, ◌≤◌, ◌==◌, ◌&&◌, not, Bool, true, false, cond, List, [], ◌∷◌, ◌++◌, length, Option, Some, None, is_some, slice_get}
use Rattle.std.proofs.Common.{ap, append_assoc, arith, inl, inr, refl, subst, sym, ◌∙◌}
use Rattle.std.proofs.lemmas.Bool.{cases_eq, eq-eqb, ne_eqb}
use Rattle.std.proofs.lemmas.List.{append-nil, length-append, take_at}
use Rattle.std.proofs.lemmas.Option.{none-some, same_Some, slice_get_past}
use Rattle.lists.specs.Each.{each_append, each_weaker}
use Rattle.lists.specs.Places.{slice_get_seam}
use Rattle.handler_trait.specs.Handling.{Effect}
use Rattle.net_semantics.specs.Worlds.{sent_by}
use Rattle.vst_base.specs.declared.retry.RetryMsg.{RetryMsg}
use Rattle.vst_base.specs.declared.retry.RetryMsg.TheVariants as msg
use Rattle.retry_xform.specs.Keeping.{AreBelow, Kept, Retrying, acknowledged, is_meant, numbered_from, rotated}
use Rattle.retry_xform.specs.Retransmission.{all_as_data, as_data, drop_acknowledged, kept_and_sent, with_acknowledgement, with_first_resent}
use Rattle.retry_xform.specs.Image.{place_of}
use Rattle.retry_xform.proofs.Names.{place-kept, with-known}
use Rattle.retry_observer.specs.Places.{ComeAfter, Comes, IsKnown, carried_by, named, number_in, numbers_at, numbers_in, up_to}
use Rattle.retry_observer.proofs.Naming.{grows-named, is-used, named-append, named-new, numbers-push, with-there}

-- data of a node with so many consecutive numbers, from this one on
abbrev pub new_numbers : ℕ → ℕ → ℕ → List (ℕ × Option ℕ)
new_numbers n x zero = []
new_numbers n x (suc c) = (n, Some x) ∷ new_numbers n (x + 1) c

-- a last packet, if there is one
abbrev pub ending : ℕ → Option (Option ℕ) → List (ℕ × Option ℕ)
ending n None = []
ending n (Some o) = (n, o) ∷ []

-- which bears no new name, and carries this
abbrev pub EndsIn : List (ℕ × Option ℕ) → ℕ → Option (Option ℕ) → Option ℕ → Type 0
EndsIn bs n None carried = Unit {0}
EndsIn bs n (Some o) carried = IsKnown carried bs n o

-- its number, if it bears one, was given before
abbrev pub HasNumberBelow : ℕ → Option ℕ → Type 0
HasNumberBelow x None = Unit {0}
HasNumberBelow x (Some y) = y < x

abbrev pub EndsBelow : ℕ → Option (Option ℕ) → Type 0
EndsBelow x None = Unit {0}
EndsBelow x (Some o) = HasNumberBelow x o

-- what is known stays known
known-on : (bs cs : List (ℕ × Option ℕ)) (n : ℕ) (o carried : Option ℕ) → IsKnown carried bs n o → IsKnown carried (bs ++ cs) n o
known-on bs cs n None carried known = record { carries = known.carries; same = refl }
known-on bs cs n (Some x) carried known =
    let there = with-there (n, x) (named bs) in
    let at : place_of (n, x) (named bs) ≡ Some there.0 = ap (place_of (n, x)) (sym known.same) ∙ there.1 in
    let grows = grows-named (named bs) cs in
    let longer : named (bs ++ cs) ≡ named bs ++ grows.more = named-append [] bs cs ∙ grows.is in
    let still : place_of (n, x) (named (bs ++ cs)) ≡ Some there.0 = ap (place_of (n, x)) longer ∙ place-kept (n, x) (named bs) grows.more there.0 at in
    record { carries = still ∙ (sym at ∙ known.carries); same = with-known (n, x) (named (bs ++ cs)) there.0 still }

ends-on : (bs cs : List (ℕ × Option ℕ)) (n : ℕ) (last : Option (Option ℕ)) (carried : Option ℕ) → EndsIn bs n last carried → EndsIn (bs ++ cs) n last carried
ends-on bs cs n None carried ends = tt
ends-on bs cs n (Some o) carried ends = known-on bs cs n o carried ends

-- nothing more comes
pub come-nil : (known : Bool) (carried : Option ℕ) (bs : List (ℕ × Option ℕ)) → ComeAfter (length bs) known carried (bs ++ [])
come-nil known carried bs k n o le at = absurd (none-some (n, o) (sym (slice_get_past (bs ++ []) k (omega (arith, le, length-append bs []))) ∙ at))

abbrev is_nil : List (ℕ × Option ℕ) → Bool
is_nil [] = true
is_nil (b ∷ bs) = false

-- one packet comes, and then more
come-cons : (known : Bool) (carried : Option ℕ) (bs : List (ℕ × Option ℕ)) (b : ℕ × Option ℕ) (more : List (ℕ × Option ℕ)) → Comes (known && is_nil more) carried bs b.0 b.1
    → ComeAfter (length (bs ++ b ∷ [])) known carried ((bs ++ b ∷ []) ++ more) → ComeAfter (length bs) known carried (bs ++ b ∷ more)
come-cons known carried bs b more first rest k n o le at = elim (cases_eq k (length bs)) [
  | inl here ↦
      let same : b ≡ (n, o) = same_Some b (n, o) (sym (slice_get_seam bs b more) ∙ (ap (slice_get (bs ++ b ∷ more)) (sym here) ∙ at)) in
      let last : (k + 1 == length (bs ++ b ∷ more)) ≡ is_nil more = is_last here more in
      subst (λ (x : Bool × List (ℕ × Option ℕ) × (ℕ × Option ℕ)). Comes (known && x.0) carried x.1 x.2.0 x.2.1) (λ i. (sym last i, sym (take_at bs (b ∷ more) k (sym here)) i, same i)) first
  | inr ne ↦
      let joined = append_assoc bs (b ∷ []) more in
      subst (λ xs. ComeAfter (length (bs ++ b ∷ [])) known carried xs) joined rest k n o (omega (arith, le, ne, length-append bs (b ∷ []))) at
] where
  is_last : k ≡ length bs → (xs : List (ℕ × Option ℕ)) → (k + 1 == length (bs ++ b ∷ xs)) ≡ is_nil xs
  is_last here [] = eq-eqb (k + 1) (length (bs ++ b ∷ [])) (omega (arith, here, length-append bs (b ∷ [])))
  is_last here (c ∷ xs) = ne_eqb (k + 1) (length (bs ++ b ∷ c ∷ xs)) (λ e. omega (arith, e, here, length-append bs (b ∷ c ∷ xs)))

-- the numbers of a node that are in turn stay so
next-turn : (bs : List (ℕ × Option ℕ)) (n x : ℕ) → numbers_at n (named bs) ≡ up_to x → numbers_at n (named (bs ++ (n, Some x) ∷ [])) ≡ up_to (x + 1)
next-turn bs n x in_turn =
    let one_more : suc x ≡ x + 1 = omega arith in
    ap (numbers_at n) (named-new bs n x in_turn) ∙ (numbers-push n (n, x) (named bs) ∙ (rw (eq-eqb n n refl) (ap (λ ks. ks ++ x ∷ []) in_turn) ∙ ap up_to one_more))

-- data with the next numbers of a node comes, and then what ends the event
pub come-new : (c : ℕ) (bs : List (ℕ × Option ℕ)) (n x : ℕ) (last : Option (Option ℕ)) (carried : Option ℕ) → numbers_at n (named bs) ≡ up_to x → EndsIn bs n last carried
    → ComeAfter (length bs) (is_some last) carried (bs ++ (new_numbers n x c ++ ending n last))
come-new zero bs n x None carried in_turn ends = come-nil false carried bs
come-new zero bs n x (Some o) carried in_turn ends = come-cons true carried bs (n, o) [] ends (come-nil true carried (bs ++ (n, o) ∷ []))
come-new (suc c) bs n x last carried in_turn ends =
    come-cons (is_some last) carried bs (n, Some x) (new_numbers n (x + 1) c ++ ending n last)
    (subst (λ b. Comes b carried bs n (Some x)) (sym (not_last c last)) (record { number = x; is = refl; next = in_turn }))
    (come-new c (bs ++ (n, Some x) ∷ []) n (x + 1) last carried (next-turn bs n x in_turn) (ends-on bs ((n, Some x) ∷ []) n last carried ends))
  where
    not_last : (c : ℕ) (last : Option (Option ℕ)) → (is_some last && is_nil (new_numbers n (x + 1) c ++ ending n last)) ≡ false
    not_last c None = refl
    not_last zero (Some o) = refl
    not_last (suc c) (Some o) = refl

-- so many numbers are given
pub turns-new : (c : ℕ) (bs : List (ℕ × Option ℕ)) (n x : ℕ) → numbers_at n (named bs) ≡ up_to x → numbers_at n (named (bs ++ new_numbers n x c)) ≡ up_to (x + c)
turns-new zero bs n x in_turn = let none : x ≡ x + 0 = omega arith in ap (λ l. numbers_at n (named l)) (append-nil bs) ∙ (in_turn ∙ ap up_to none)
turns-new (suc c) bs n x in_turn =
    let more : x + 1 + c ≡ x + suc c = omega arith in
    ap (λ l. numbers_at n (named l)) (sym (append_assoc bs ((n, Some x) ∷ []) (new_numbers n (x + 1) c))) ∙ (turns-new c (bs ++ (n, Some x) ∷ []) n (x + 1) (next-turn bs n x in_turn) ∙ ap up_to more)

-- no number of another node is given
pub turns-elsewhere : (a : ℕ) (c : ℕ) (bs : List (ℕ × Option ℕ)) (n x : ℕ) → a ≢ n → numbers_at n (named bs) ≡ up_to x → numbers_at a (named (bs ++ new_numbers n x c)) ≡ numbers_at a (named bs)
turns-elsewhere a zero bs n x other in_turn = ap (λ l. numbers_at a (named l)) (append-nil bs)
turns-elsewhere a (suc c) bs n x other in_turn =
    ap (λ l. numbers_at a (named l)) (sym (append_assoc bs ((n, Some x) ∷ []) (new_numbers n (x + 1) c)))
    ∙ (turns-elsewhere a c (bs ++ (n, Some x) ∷ []) n (x + 1) other (next-turn bs n x in_turn)
    ∙ (ap (numbers_at a) (named-new bs n x in_turn) ∙ (numbers-push a (n, x) (named bs) ∙ rw (ne_eqb a n other) refl)))

-- where the numbers of a node are in turn, each that was given is among them
pub ends-in : (bs : List (ℕ × Option ℕ)) (n x : ℕ) (o : Option ℕ) → numbers_at n (named bs) ≡ up_to x → HasNumberBelow x o → IsKnown (carried_by (named bs) n o) bs n o
ends-in bs n x None in_turn below = record { carries = refl; same = refl }
ends-in bs n x (Some y) in_turn below = let used = is-used n x y (named bs) in_turn below in record { carries = refl; same = with-known (n, y) (named bs) used.0 used.1 }

pub named-ending : (bs : List (ℕ × Option ℕ)) (n x : ℕ) (last : Option (Option ℕ)) (cs : List (ℕ × Option ℕ)) → numbers_at n (named bs) ≡ up_to x → EndsBelow x last → named (bs ++ (cs ++ ending n last)) ≡ named (bs ++ cs)
named-ending bs n x None cs in_turn below = ap (λ l. named (bs ++ l)) (append-nil cs)
named-ending bs n x (Some o) cs in_turn below =
    ap named (sym (append_assoc bs cs ((n, o) ∷ []))) ∙ (named-append [] (bs ++ cs) ((n, o) ∷ []) ∙ (known-on bs cs n o (carried_by (named bs) n o) (ends-in bs n x o in_turn below)).same)

module _ {M : Type 0} where
  pub numbers-more : (n : ℕ) (xs ys : List (ℕ × RetryMsg M)) → numbers_in (sent_by n (xs ++ ys)) ≡ numbers_in (sent_by n xs) ++ numbers_in (sent_by n ys)
  numbers-more n [] ys = refl
  numbers-more n (x ∷ xs) ys = ap (λ l. (n, number_in x.1) ∷ l) (numbers-more n xs ys)

  numbers-data : (n x : ℕ) (ss : List (ℕ × M)) → numbers_in (sent_by n (all_as_data (numbered_from x ss))) ≡ new_numbers n x (length ss)
  numbers-data n x [] = refl
  numbers-data n x (s ∷ ss) = ap (λ l. (n, Some x) ∷ l) (numbers-data n (x + 1) ss)

  below-numbered : (x more : ℕ) (ss : List (ℕ × M)) → x + length ss ≤ more → AreBelow more (numbered_from x ss)
  below-numbered x more [] le = tt
  below-numbered x more (s ∷ ss) le = (omega (arith, le), below-numbered (x + 1) more ss (omega (arith, le)))

  below-rotated : (x : ℕ) (ks : List (Kept M)) → AreBelow x ks → AreBelow x (rotated ks)
  below-rotated x [] below = tt
  below-rotated x (k ∷ ks) below = each_append (λ (i : Kept M). i.number < x) ks (k ∷ []) below.1 (below.0, tt)

  below-acknowledged : (x from number : ℕ) (ks : List (Kept M)) → AreBelow x ks → AreBelow x (acknowledged from number ks)
  below-acknowledged x from number [] below = tt
  below-acknowledged x from number (k ∷ ks) below = by-case (not (is_meant from number k)) (below-acknowledged x from number ks below.1) where
    by-case : (b : Bool) → AreBelow x (acknowledged from number ks) → AreBelow x (cond b (k ∷ acknowledged from number ks) (acknowledged from number ks))
    by-case true rest = (below.0, rest)
    by-case false rest = rest

  -- the last packet of a tick
  abbrev pub again_last : Option (Kept M) → Option (Option ℕ)
  again_last None = None
  again_last (Some k) = Some (Some k.number)

module _ {S O M : Type 0} (n : ℕ) (s : Retrying S M) where
  -- an event numbers its data after those that its node numbered before, and may end in one packet more
  pub record Makes (e : Effect (Retrying S M) O (RetryMsg M)) (last : Option (Option ℕ)) : Type 0 where
    pub count : ℕ
    pub sends : numbers_in (sent_by n e.sends) ≡ new_numbers n s.next count ++ ending n last
    pub next : e.state.next ≡ s.next + count
    pub below : AreBelow e.state.next e.state.kept

  module _ (below : AreBelow s.next s.kept) where
    below-made : (e : Effect S O M) → AreBelow (s.next + length e.sends) (s.kept ++ numbered_from s.next e.sends)
    below-made e =
        each_append (λ (k : Kept M). k.number < s.next + length e.sends) s.kept (numbered_from s.next e.sends)
        (each_weaker (λ (k : Kept M). k.number < s.next) (λ (k : Kept M). k.number < s.next + length e.sends) (λ k lt. omega (arith, lt)) s.kept below)
        (below-numbered s.next (s.next + length e.sends) e.sends (omega arith))

    pub made : (e : Effect S O M) → Makes (kept_and_sent s e) None
    made e = record { count = length e.sends; sends = numbers-data n s.next e.sends ∙ sym (append-nil (new_numbers n s.next (length e.sends))); next = refl; below = below-made e }

    pub made-acknowledged : (from number : ℕ) (e : Effect S O M) → Makes (with_acknowledgement from number (kept_and_sent s e)) (Some None)
    made-acknowledged from number e = record {
      count = length e.sends;
      sends = numbers-more n (kept_and_sent s e).sends ((from, msg.Ack number) ∷ []) ∙ ap (λ l. l ++ (n, None) ∷ []) (numbers-data n s.next e.sends);
      next = refl;
      below = below-made e;
    }

    pub made-again : (ks : List (Kept M)) (e : Effect S O M) → Makes (with_first_resent ks (kept_and_sent s e)) (again_last (slice_get ks 0))
    made-again [] e = made e
    made-again (k ∷ ks) e = record {
      count = length e.sends;
      sends = numbers-more n (kept_and_sent s e).sends (as_data k ∷ []) ∙ ap (λ l. l ++ (n, Some k.number) ∷ []) (numbers-data n s.next e.sends);
      next = refl;
      below = below-rotated (s.next + length e.sends) (s.kept ++ numbered_from s.next e.sends) (below-made e);
    }

    pub made-dropped : (from number : ℕ) → Makes (drop_acknowledged from number s) None
    made-dropped from number = record { count = 0; sends = refl; next = omega arith; below = below-acknowledged s.next from number s.kept below }
