-- Numbers that were given are below the next one.
use Rattle.std.specs.Prelude.{◌≡◌, ◌≢◌, ℕ, ◌+◌, ◌<◌, ◌≤◌, List, [], ◌∷◌, ◌++◌, length, refl}
use Rattle.std.proofs.Common.{arith}
use Rattle.lists.specs.Each.{Each, each_append, each_weaker}
use Rattle.handler_trait.specs.Handling.{AreSentBelow}
use Rattle.retry_xform.specs.Keeping.{Kept, Retrying, AreBelow, ArePending, IsPending, numbered_from, rotated, acknowledged}
use Rattle.retry_xform.specs.KeepingLaws.{each-acknowledged, each-rotated}
use Rattle.retry_xform.specs.Retransmission.{IsRetrying}

pub none-there : {X : Type 0} (xs : List X) → length xs ≡ 0 → xs ≡ []
none-there [] none = refl
none-there (x ∷ xs) none = absurd (omega (arith, none))

module _ {M : Type 0} where
  pub below-push : (n : ℕ) (ks : List (Kept M)) (k : Kept M) → AreBelow n ks → k.number ≡ n → AreBelow (n + 1) (ks ++ k ∷ [])
  below-push n ks k below is =
      each_append (λ (j : Kept M). j.number < n + 1) ks (k ∷ []) (each_weaker (λ (j : Kept M). j.number < n) (λ (j : Kept M). j.number < n + 1) (λ j lt. omega (arith, lt)) ks below) (omega (arith, is), tt)

  pub unused-below : (n : ℕ) (ks : List (Kept M)) → AreBelow n ks → Each (λ k. k.number ≢ n) ks
  unused-below n ks below = each_weaker (λ (k : Kept M). k.number < n) (λ (k : Kept M). k.number ≢ n) (λ k lt. (λ same. omega (arith, lt, same))) ks below

  pub below-pending : (next nodes : ℕ) (ks : List (Kept M)) → ArePending next nodes ks → AreBelow next ks
  below-pending next nodes ks pending = each_weaker (IsPending next nodes) (λ (k : Kept M). k.number < next) (λ k is. is.number) ks pending

  grown : (next more nodes : ℕ) (ks : List (Kept M)) → next ≤ more → ArePending next nodes ks → ArePending more nodes ks
  grown next more nodes ks le pending =
      each_weaker (IsPending next nodes) (IsPending more nodes) (λ k is. record { number = omega (arith, is.number, le); destination = is.destination }) ks pending

  numbered-pending : (next more nodes : ℕ) (ps : List (ℕ × M)) → next + length ps ≤ more → AreSentBelow nodes ps → ArePending more nodes (numbered_from next ps)
  numbered-pending next more nodes [] le below = tt
  numbered-pending next more nodes (p ∷ ps) le below = (record { number = omega (arith, le); destination = below.0 }, numbered-pending (next + 1) more nodes ps (omega (arith, le)) below.1)

  pub pending-sent : (next nodes : ℕ) (ks : List (Kept M)) (ps : List (ℕ × M)) → ArePending next nodes ks → AreSentBelow nodes ps → ArePending (next + length ps) nodes (ks ++ numbered_from next ps)
  pending-sent next nodes ks ps pending below =
      each_append (IsPending (next + length ps) nodes) ks (numbered_from next ps) (grown next (next + length ps) nodes ks (omega arith) pending)
      (numbered-pending next (next + length ps) nodes ps (omega arith) below)

  pub pending-rotated : (next nodes : ℕ) (ks : List (Kept M)) → ArePending next nodes ks → ArePending next nodes (rotated ks)
  pending-rotated next nodes ks pending = each-rotated (IsPending next nodes) ks pending

  pub pending-acknowledged : (next nodes from number : ℕ) (ks : List (Kept M)) → ArePending next nodes ks → ArePending next nodes (acknowledged from number ks)
  pending-acknowledged next nodes from number ks pending = each-acknowledged (IsPending next nodes) from number ks pending

-- a state that is sound, once what the handlers within sent is kept
pub retrying-after : {S M : Type 0} (sound : S → Type 0) (nodes : ℕ) (s : Retrying S M) (inner : S) (next : ℕ) (kept : List (Kept M)) (ps : List (ℕ × M)) → IsRetrying sound nodes s → sound inner → AreSentBelow nodes ps
    → next ≡ s.next + length ps → kept ≡ s.kept ++ numbered_from s.next ps → IsRetrying sound nodes (record { inner = inner; next = next; kept = kept })
retrying-after sound nodes s inner next kept ps was ok below is_next is_kept = record {
  inner = ok;
  pending = rw (is_next, is_kept) (pending-sent s.next nodes s.kept ps was.pending below);
}

-- what an event sends, where nothing was sent before
pub sends-below : {M : Type 0} (nodes : ℕ) (after before made : List (ℕ × M)) → after ≡ before ++ made → before ≡ [] → AreSentBelow nodes made → AreSentBelow nodes after
sends-below nodes after before made is none below = rw (is, none) below
