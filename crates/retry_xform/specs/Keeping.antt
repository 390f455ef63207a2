-- What a node keeps of the packets that it sent, until they are acknowledged.
use Rattle.std.specs.Prelude.{ℕ, ◌+◌, ◌<◌, ◌==◌, ◌&&◌, not, Bool, List, [], ◌∷◌, ◌++◌, filter, refl}
use Rattle.std.specs.Coded.{Coded, code_by, coded×, coded_list, coded_ℕ}
use Rattle.lists.specs.Each.{Each}

-- a packet that was sent and not acknowledged
pub record Kept (M : Type 0) : Type 0 where
  pub number : ℕ
  pub destination : ℕ
  pub content : M

-- the state of the handlers within, the number of the next packet, and what is kept, in the order in which it is sent again
pub record Retrying (S M : Type 0) : Type 0 where
  pub inner : S
  pub next : ℕ
  pub kept : List (Kept M)

abbrev pub kept_code : {M : Type 0} → Coded M → Coded (Kept M)
kept_code {M} code =
    code_by (ℕ × (ℕ × M)) (coded× coded_ℕ (coded× coded_ℕ code))
    (λ k. (k.number, (k.destination, k.content))) (λ p. record { number = p.0; destination = p.1.0; content = p.1.1 }) (λ _. refl)

abbrev pub retrying_code : {S M : Type 0} → Coded S → Coded M → Coded (Retrying S M)
retrying_code {S} {M} s m =
    code_by (S × (ℕ × List (Kept M))) (coded× s (coded× coded_ℕ (coded_list (kept_code m))))
    (λ r. (r.inner, (r.next, r.kept))) (λ p. record { inner = p.0; next = p.1.0; kept = p.1.1 }) (λ _. refl)

module _ {M : Type 0} where
  -- packets with consecutive numbers, from this one on
  abbrev pub numbered_from : ℕ → List (ℕ × M) → List (Kept M)
  numbered_from n [] = []
  numbered_from n (p ∷ ps) = record { number = n; destination = p.0; content = p.1 } ∷ numbered_from (n + 1) ps

  -- whether a node that acknowledges a number means this packet
  abbrev pub is_meant : ℕ → ℕ → Kept M → Bool
  is_meant from number k = (k.number == number) && (k.destination == from)

  -- what is still kept once a node acknowledged a number
  abbrev pub acknowledged : ℕ → ℕ → List (Kept M) → List (Kept M)
  acknowledged from number ks = filter (λ k. not (is_meant from number k)) ks

  -- the first goes to the end
  abbrev pub rotated : List (Kept M) → List (Kept M)
  rotated [] = []
  rotated (k ∷ ks) = ks ++ k ∷ []

  -- each has a number below this
  abbrev pub AreBelow : ℕ → List (Kept M) → Type 0
  AreBelow next ks = Each (λ k. k.number < next) ks

  -- a packet of this network with a number that was given
  pub record IsPending (next nodes : ℕ) (k : Kept M) : Type 0 where
    pub number : k.number < next
    pub destination : k.destination < nodes

  -- and several
  abbrev pub ArePending : ℕ → ℕ → List (Kept M) → Type 0
  ArePending next nodes ks = Each (IsPending next nodes) ks
