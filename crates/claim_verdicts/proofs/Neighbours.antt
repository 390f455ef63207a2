-- What stands at a primary and its backup, once an item more is there.
use Rattle.std.specs.Prelude.{◌≡◌, ℕ, zero, suc, ◌+◌, ◌<◌, ◌≤◌, Bool, true, false, ◌==◌, List, [], ◌∷◌, ◌++◌, length, take, drop, Option, Some, None, IfSome, MatchOption, cond, slice_get, refl}
use mir.Val.{bool_byte}
use Rattle.std.specs.Borrow.{Bor}
use Rattle.std.specs.Option.{option_copied}
use Rattle.std.proofs.Common.{ap, ◌∙◌, sym, arith, get_or}
use Rattle.std.proofs.lemmas.List.{take_more}
use Rattle.std.proofs.lemmas.Option.{slice_get_past, slice_get_read}
use Rattle.vst_base.specs.declared.pb_out.PbOut.{PbOut}
use Rattle.vst_base.specs.declared.step.Item.{Item}
use Rattle.vst_base.specs.declared.step.Item.TheVariants as item
use Rattle.net_semantics.specs.BelowPb.{inputs_at, outputs_at}
use Rattle.claim_verdicts.specs.Backups.{Items, answers, asks, last_of}

module _ {C O : Type 0} where
  inputs-push : (xs : Items C O) (x : Item C (PbOut O)) → length (inputs_at 0 (xs ++ x ∷ [])) ≡ length (inputs_at 0 xs) + cond (asks x) 1 0
  inputs-push [] (item.Input n c) = by (n == 0) where
    by : (b : Bool) → length (cond b (c ∷ []) []) ≡ 0 + cond b 1 0
    by true = omega arith
    by false = omega arith
  inputs-push [] (item.Output n o) = omega arith
  inputs-push (item.Input n c ∷ xs) x = by (inputs-push xs x) (n == 0) where
    by : length (inputs_at 0 (xs ++ x ∷ [])) ≡ length (inputs_at 0 xs) + cond (asks x) 1 0 → (b : Bool) → length (cond b (c ∷ inputs_at 0 (xs ++ x ∷ [])) (inputs_at 0 (xs ++ x ∷ []))) ≡ length (cond b (c ∷ inputs_at 0 xs) (inputs_at 0 xs)) + cond (asks x) 1 0
    by behind true = omega (arith, behind)
    by behind false = behind
  inputs-push (item.Output n o ∷ xs) x = inputs-push xs x

  pub outputs-push : (xs : Items C O) (x : Item C (PbOut O)) → length (outputs_at 0 (xs ++ x ∷ [])) ≡ length (outputs_at 0 xs) + cond (answers x) 1 0
  outputs-push [] (item.Output n o) = by (n == 0) where
    by : (b : Bool) → length (cond b (o ∷ []) []) ≡ 0 + cond b 1 0
    by true = omega arith
    by false = omega arith
  outputs-push [] (item.Input n c) = omega arith
  outputs-push (item.Output n o ∷ xs) x = by (outputs-push xs x) (n == 0) where
    by : length (outputs_at 0 (xs ++ x ∷ [])) ≡ length (outputs_at 0 xs) + cond (answers x) 1 0 → (b : Bool) → length (cond b (o ∷ outputs_at 0 (xs ++ x ∷ [])) (outputs_at 0 (xs ++ x ∷ []))) ≡ length (cond b (o ∷ outputs_at 0 xs) (outputs_at 0 xs)) + cond (answers x) 1 0
    by behind true = omega (arith, behind)
    by behind false = behind
  outputs-push (item.Input n c ∷ xs) x = outputs-push xs x

  grown : (xs : Items C O) (i : ℕ) (x : Item C (PbOut O)) → i < length xs → x ≡ get_or xs i x → take (i + 1) xs ≡ take i xs ++ x ∷ []
  grown xs i x within at = take_more xs i x within ∙ ap (λ y. take i xs ++ y ∷ []) (sym at)

  pub asked-more : (xs : Items C O) (i : ℕ) (x : Item C (PbOut O)) → i < length xs → x ≡ get_or xs i x → length (inputs_at 0 (take (i + 1) xs)) ≡ length (inputs_at 0 (take i xs)) + cond (asks x) 1 0
  asked-more xs i x within at = ap (λ (ys : Items C O). length (inputs_at 0 ys)) (grown xs i x within at) ∙ inputs-push (take i xs) x

  pub answered-more : (xs : Items C O) (i : ℕ) (x : Item C (PbOut O)) → i < length xs → x ≡ get_or xs i x → length (outputs_at 0 (take (i + 1) xs)) ≡ length (outputs_at 0 (take i xs)) + cond (answers x) 1 0
  answered-more xs i x within at = ap (λ (ys : Items C O). length (outputs_at 0 ys)) (grown xs i x within at) ∙ outputs-push (take i xs) x

  last-push : (xs : Items C O) (x : Item C (PbOut O)) → last_of (xs ++ x ∷ []) ≡ Some x
  last-push [] x = refl
  last-push (y ∷ []) x = refl
  last-push (y ∷ z ∷ rest) x = last-push (z ∷ rest) x

  pub last-more : (xs : Items C O) (i : ℕ) (x : Item C (PbOut O)) → i < length xs → x ≡ get_or xs i x → last_of (take (i + 1) xs) ≡ Some x
  last-more xs i x within at = ap last_of (grown xs i x within at) ∙ last-push (take i xs) x

  -- what stands next
  pub next-is : (xs : Items C O) (i : ℕ) → slice_get (drop i xs) 0 ≡ slice_get xs i
  next-is xs zero = refl
  next-is [] (suc i) = refl
  next-is (x ∷ xs) (suc i) = next-is xs i

pub at-most-one : (b : Bool) → cond b 1 0 ≤ 1
at-most-one true = omega arith
at-most-one false = omega arith

-- what a slice was asked for
pub copied-is : {A : Type 0} (P : Bor A → Type 0) (xs : List A) (i : ℕ) (o : Option (Bor A)) → IfSome o (λ x. x.now ≡ get_or xs i x.now) → MatchOption o (length xs ≤ i) (λ x. (i < length xs) × P x) → slice_get xs i ≡ option_copied o
copied-is P xs i None at is = slice_get_past xs i is
copied-is P xs i (Some x) at is = slice_get_read xs (length xs) i x.now refl is.0 at

pub byte-is : (b : Bool) → bool_byte b ≡ cond b 1 0
byte-is true = refl
byte-is false = refl
