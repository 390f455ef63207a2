-- The numbers seen, sender by sender.
use Rattle.std.specs.Prelude.{◌≡◌, ℕ, zero, suc, ◌<◌, ◌≤◌, [], ◌∷◌, ◌++◌, length, refl}
use Rattle.std.specs.FinSet as set
use Rattle.std.specs.FinSet.{FinSet}
use Rattle.std.specs.Ordering.{nat_cmp}
use Rattle.std.proofs.Common.{ap, arith, get_or}
use Rattle.std.proofs.Common.{set as put_at}
use Rattle.seqnum_xform.specs.Numbering.{Seen, with_seen}

-- a sender of whom nothing was seen may have a place or none
pub with_seen-reached : (ss : Seen) (sender n : ℕ) → length ss ≤ sender → with_seen (ss ++ set.empty ∷ []) sender n ≡ with_seen ss sender n
with_seen-reached [] zero n le = refl
with_seen-reached [] (suc sender) n le = refl
with_seen-reached (s ∷ ss) zero n le = absurd (omega arith)
with_seen-reached (s ∷ ss) (suc sender) n le = ap (λ xs. s ∷ xs) (with_seen-reached ss sender n (omega arith))

-- in its place
pub with_seen-placed : (ss : Seen) (sender n : ℕ) (d : FinSet nat_cmp) → sender < length ss → put_at ss sender (set.insert (get_or ss sender d) n) ≡ with_seen ss sender n
with_seen-placed [] sender n d lt = absurd (omega arith)
with_seen-placed (s ∷ ss) zero n d lt = refl
with_seen-placed (s ∷ ss) (suc sender) n d lt = ap (λ xs. s ∷ xs) (with_seen-placed ss sender n d (omega arith))
