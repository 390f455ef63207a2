-- Entries that are applied after those that there are, one by one.
use Rattle.std.proofs.Common.{◌≡◌, ℕ, ◌+◌, ◌<◌, ◌≤◌, Bool, true, false, cond, ltb, List, [], ◌∷◌, ◌++◌, length, take, get_or, refl, ap, sym, subst, ◌∙◌, arith}
use Rattle.std.proofs.lemmas.Bool.{ltb-false, ltb-true}
use Rattle.std.proofs.lemmas.List.{take_all, take_more}
use Rattle.vst_base.specs.declared.entry.Entry.{Entry}
use Rattle.raft_safety.specs.Applied.{longer}
use Rattle.applied_order.specs.Orders.{HasFollowed, OrderView}
use Rattle.lists.specs.Prefixes.{IsPrefix}
use Rattle.lists.specs.Places.{take_less}

-- of two prefixes of a list the shorter is a prefix of the longer
pub front_of : {A : Type 0} (es xs all : List A) → IsPrefix es all → IsPrefix xs all → length es ≤ length xs → es ≡ take (length es) xs
front_of es xs all begins was short =
    sym begins ∙ sym (take_less (length es) (length xs) all short) ∙ ap (take (length es)) was

-- what is kept once it was told of the first i of these entries
pub record CaughtUp {C : Type 0} (old now : OrderView C) (xs : List (Entry C)) (i : ℕ) : Type 0 where
  pub entries : now.entries ≡ i
  pub followed : HasFollowed old (take old.entries xs) → HasFollowed now (take i xs)
  pub stays : i ≡ old.entries → now ≡ old
  pub ahead : length xs ≤ old.entries → i ≡ old.entries

module _ {C : Type 0} (old now : OrderView C) (xs : List (Entry C)) (i : ℕ) (was : CaughtUp old now xs i) where
  pub caught_more : (next : OrderView C) (e : Entry C) → old.entries ≤ i → i < length xs → e ≡ get_or xs i e →
      next.entries ≡ now.entries + 1 →
      ((es : List (Entry C)) → HasFollowed now es → HasFollowed next (es ++ e ∷ [])) → CaughtUp old next xs (i + 1)
  caught_more next e from below is counts follows =
      let longer : take (i + 1) xs ≡ take i xs ++ e ∷ [] = take_more xs i e below ∙ ap (λ x. take i xs ++ x ∷ []) (sym is) in
      record {
        entries = omega (arith, counts, was.entries);
        followed = λ h. subst (HasFollowed next) (sym longer) (follows (take i xs) (was.followed h));
        stays = λ same. absurd (omega arith);
        ahead = λ past. absurd (omega arith);
      }

  pub caught_all : (es all : List (Entry C)) → (old.entries ≤ length xs → i ≡ length xs) →
      IsPrefix es all → IsPrefix xs all → HasFollowed old es → HasFollowed now (longer es xs)
  caught_all es all lags begins applied had = go (ltb (length es) (length xs)) refl
    where
      counted : old.entries ≡ length es
      counted = had.entries

      go : (b : Bool) → ltb (length es) (length xs) ≡ b → HasFollowed now (cond b xs es)
      go true t =
          let less = ltb-true _ _ t in
          let short : length es ≤ length xs = omega (arith, less) in
          let at : i ≡ length xs = lags (omega (arith, counted, short)) in
          let front : es ≡ take old.entries xs = front_of es xs all begins applied short ∙ ap (λ n. take n xs) (sym counted) in
          subst (HasFollowed now) (ap (λ n. take n xs) at ∙ take_all (length xs) xs (omega arith)) (was.followed (subst (HasFollowed old) front had))
      go false t =
          let more = ltb-false _ _ t in
          let same : now ≡ old = was.stays (was.ahead (omega (arith, counted, more))) in
          subst (λ o. HasFollowed o es) (sym same) had
