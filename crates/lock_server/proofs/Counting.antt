-- Where the lock is: with a client that holds it, or with a copy in flight that brings it there or back.
use Rattle.std.proofs.Common.{◌≡◌, ◌≢◌, ℕ, zero, suc, ◌+◌, ◌-◌, ◌*◌, ◌<◌, ◌≤◌, true, false, List, [], ◌∷◌, ◌++◌, Some, ap, arith, subst, sym, inl, inr}
use Rattle.std.proofs.lemmas.Bool.{cases_eq}
use Rattle.std.specs.Prelude.{◌==◌, if◌then◌else◌, slice_get}
use Rattle.vst_base.specs.declared.lock.LockMsg.{LockMsg}
use Rattle.vst_base.specs.declared.lock.LockMsg.TheVariants as msg
use Rattle.net_semantics.specs.Worlds.{Packet, put, change_at, one_less, sent_by}
use Rattle.lock_server.specs.declared.state.LockState.{LockState}
use Rattle.lock_server.specs.declared.state.LockState.TheVariants.{Server, Client}

-- 1 at equal numbers
abbrev pub same : ℕ → ℕ → ℕ
same a b = if a == b then 1 else 0

-- whether a state holds the lock, as a number
abbrev pub held : LockState → ℕ
held (Server queue) = 0
held (Client true) = 1
held (Client false) = 0

-- whether client c is at the head of the server's queue, as a number
abbrev pub heads : LockState → ℕ → ℕ
heads (Server []) c = 0
heads (Server (holder ∷ waiting)) c = same holder c
heads (Client held) c = 0

-- whether a copy of the packet brings the lock to client c, or from there back to the server, as a number
abbrev pub brings : ℕ → ℕ → ℕ → LockMsg → ℕ
brings c source destination msg.Lock = 0
brings c source destination msg.Locked = same destination c
brings c source destination msg.Unlock = if destination == 0 then same source c else 0

-- how many copies in flight do
abbrev pub flying : ℕ → List (Packet LockMsg) → ℕ
flying c [] = 0
flying c (p ∷ ps) = p.copies * brings c p.source p.destination p.content + flying c ps

pub flying-append : (c : ℕ) (ps qs : List (Packet LockMsg)) → flying c (ps ++ qs) ≡ flying c ps + flying c qs
flying-append c [] qs = omega arith
flying-append c (p ∷ ps) qs = let e = flying-append c ps qs in omega arith

-- nothing is sent; one packet is
pub flying_none : (c : ℕ) (ps : List (Packet LockMsg)) → flying c (ps ++ []) ≡ flying c ps
flying_none c ps = let e = flying-append c ps [] in omega arith

pub flying_sent : (c n d : ℕ) (m : LockMsg) (ps : List (Packet LockMsg)) → flying c (ps ++ sent_by n ((d, m) ∷ [])) ≡ flying c ps + brings c n d m
flying_sent c n d m ps = let e = flying-append c ps (sent_by n ((d, m) ∷ [])) in omega arith

one_weighed : (n w f : ℕ) → 0 < n → (n - 1) * w + f + w ≡ n * w + f
one_weighed n w f h = let e : n ≡ n - 1 + 1 = omega arith in omega (arith, ap (λ k. k * w) e)

-- a copy that is taken away counts no longer
pub flying_less : (c k : ℕ) (ps : List (Packet LockMsg)) (p : Packet LockMsg) → slice_get ps k ≡ Some p → 0 < p.copies
    → flying c (change_at one_less k ps) + brings c p.source p.destination p.content ≡ flying c ps
flying_less c k [] p e copy = cc
flying_less c zero (q ∷ qs) p e copy =
    let f : q ≡ p = cc in
    let here = one_weighed p.copies (brings c p.source p.destination p.content) (flying c qs) copy in
    subst (λ r. flying c (change_at one_less 0 (r ∷ qs)) + brings c p.source p.destination p.content ≡ flying c (r ∷ qs)) (sym f) here
flying_less c (suc k) (q ∷ qs) p e copy = let f = flying_less c k qs p e copy in omega arith

pub same_one : (a b : ℕ) → a ≡ b → same a b ≡ 1
same_one a b e = grind arith

pub same_none : (a b : ℕ) → a ≢ b → same a b ≡ 0
same_none a b e = grind arith

-- one client is at the head, and once
pub one_head : (s : LockState) (a b : ℕ) → 0 < heads s a → 0 < heads s b → a ≡ b
one_head s a b ha hb = grind arith

pub head_once : (s : LockState) (a : ℕ) → heads s a ≤ 1
head_once s a = grind arith

-- the states with one put anew: there, elsewhere, and anywhere if it is the one that was there
pub put-same : (f : ℕ → LockState) (n : ℕ) (s : LockState) (k : ℕ) → k ≡ n → put f n s k ≡ s
put-same f n s k e = grind arith

pub put-other : (f : ℕ → LockState) (n : ℕ) (s : LockState) (k : ℕ) → k ≢ n → put f n s k ≡ f k
put-other f n s k ne = grind arith

pub put-stays : (f : ℕ → LockState) (n : ℕ) (s : LockState) (k : ℕ) → f n ≡ s → put f n s k ≡ f k
put-stays f n s k e = elim (cases_eq k n) [
  | inl here ↦ let g = put-same f n s k here in let h = ap f here in cc
  | inr there ↦ put-other f n s k there
]
