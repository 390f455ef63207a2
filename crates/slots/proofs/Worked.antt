-- What rows are proved by.
use Rattle.std.proofs.Common.{◌≡◌, ℕ, ◌%◌, Bool, true, false, List, [], ◌∷◌, refl, arith, ◌⊎◌, inl, inr, cond, eqb}
use Rattle.disk.specs.Disk.{may_become, settled, NothingPending}
use Rattle.disk.specs.Between.{Crash}
use Rattle.disk.proofs.Between.{IsCrash, by_model}
use Rattle.slots.specs.Opening.{Why, Is, Opening, Fresh, Held, Refused}
use Rattle.slots.specs.Saving.{save_acts}
use Rattle.slots.specs.SavingLaws.{Rests}
use Rattle.slots.specs.PatchLaws.{TornIsEither}
use Rattle.slots.specs.TurnLaws.{Keeps}
use Rattle.slots.specs.Examples.{counted_found, gated_found, journal, slot, at_rest}
use Rattle.slots.proofs.Patching.{gate_is_either}
use Rattle.slots.proofs.Turning.{keeps_save}

-- by what answers differ
abbrev pub first_of : List ℕ → ℕ
first_of [] = 0
first_of (x ∷ xs) = x

abbrev pub state_of : Opening (List ℕ) → ℕ
state_of Fresh = 0
state_of (Held kept s) = first_of kept
state_of (Refused why) = 0

pub not_held : (why : Why) (kept : List ℕ) (s : ℕ) → Refused why ≡ Held kept s → ⊥
not_held why kept s e = absurd (cc e)

pub calm : (a b c : List ℕ) → NothingPending (record { slot0 = settled a; slot1 = settled b; selector = settled c })
calm a b c = record {
  slot0 = record { ranges = refl; lengths = refl };
  slot1 = record { ranges = refl; lengths = refl };
  selector = record { ranges = refl; lengths = refl };
}

pub rests : Rests counted_found (1 ∷ []) 0 at_rest
rests = record { pending = calm (slot (1 ∷ [])) (slot (1 ∷ [])) (0 ∷ []); opens = refl }

pub first_save : Keeps counted_found (1 ∷ []) (2 ∷ []) 1 (save_acts 0 (slot (2 ∷ []))) at_rest
first_save = keeps_save may_become by_model counted_found at_rest 0 (1 ∷ []) (2 ∷ []) (slot (2 ∷ [])) rests refl

-- a gate that may be any byte leaves the state before the record or the one after it
by_parity : (is_even : Bool) → (cond is_even (Is 1) (journal 2 (0 ∷ [])) ≡ Is 1) ⊎ (cond is_even (Is 1) (journal 2 (0 ∷ [])) ≡ Is 2)
by_parity true = inl refl
by_parity false = inr refl

pub any_gate_is_either : (crash : Crash) → IsCrash crash → TornIsEither crash gated_found 1 2 (1 ∷ 0 ∷ 2 ∷ 0 ∷ []) 1 (1 ∷ [])
any_gate_is_either crash is_crash = gate_is_either crash is_crash gated_found 1 2 (1 ∷ 0 ∷ 2 ∷ 0 ∷ []) 1 1 (omega arith) (λ v. by_parity (eqb (v % 2) 0))
