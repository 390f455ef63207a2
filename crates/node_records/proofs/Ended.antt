-- Turns that have ended, among acts.
use Rattle.std.proofs.Common.{◌≡◌, ℕ, zero, suc, Bool, true, false, List, [], ◌∷◌, ◌++◌, take, refl, ap, ◌∙◌, ◌||◌, if◌then◌else◌, ◌⊎◌, inl, inr}
use Rattle.std.proofs.lemmas.Bool.{or_parts}
use Rattle.disk.specs.Acts.{Act, Now}
use Rattle.slots.specs.Turns.{Says}
use Rattle.node_records.specs.Records.{Stores, begins_turn, ended_turns, reads_clock}
use Rattle.lists.specs.Each.{Each}

-- whether a turn begins

or_true : (b x y : Bool) → (x ≡ true → y ≡ true) → (b || x) ≡ true → (b || y) ≡ true
or_true true x y so e = refl
or_true false x y so e = so e

always : (b : Bool) → (b || true) ≡ true
always true = refl
always false = refl

begins_take : (n : ℕ) (xs : List Act) → begins_turn (take n xs) ≡ true → begins_turn xs ≡ true
begins_take zero xs e = cc
begins_take (suc n) [] e = e
begins_take (suc n) (x ∷ xs) e = or_true (reads_clock x) (begins_turn (take n xs)) (begins_turn xs) (begins_take n xs) e

begins_later : (xs ys : List Act) → begins_turn ys ≡ true → begins_turn (xs ++ ys) ≡ true
begins_later [] ys e = e
begins_later (x ∷ xs) ys e = ap (λ b. reads_clock x || b) (begins_later xs ys e) ∙ always (reads_clock x)

begins_before : (xs ys : List Act) → begins_turn ys ≡ false → begins_turn (xs ++ ys) ≡ begins_turn xs
begins_before [] ys e = e
begins_before (x ∷ xs) ys e = ap (λ b. reads_clock x || b) (begins_before xs ys e)

-- the acts of turns that have ended

pub ended_later : (xs ys : List Act) → begins_turn ys ≡ true → ended_turns (xs ++ ys) ≡ xs ++ ended_turns ys
ended_later [] ys e = refl
ended_later (x ∷ xs) ys e =
    ap (λ b. if b then x ∷ ended_turns (xs ++ ys) else []) (begins_later xs ys e) ∙ ap (λ acts. x ∷ acts) (ended_later xs ys e)

pub none_ended : (ys : List Act) → begins_turn ys ≡ false → ended_turns ys ≡ []
none_ended [] e = refl
none_ended (y ∷ ys) e = ap (λ b. if b then y ∷ ended_turns ys else []) (or_parts (reads_clock y) (begins_turn ys) e).1

pub ended_before : (xs ys : List Act) → begins_turn ys ≡ false → ended_turns (xs ++ ys) ≡ ended_turns xs
ended_before [] ys e = none_ended ys e
ended_before (x ∷ xs) ys e =
    ap (λ b. if b then x ∷ ended_turns (xs ++ ys) else []) (begins_before xs ys e)
    ∙ ap (λ acts. if begins_turn xs then x ∷ acts else []) (ended_before xs ys e)

-- They are the first acts, and those of the first acts are among them.

pub record IsFirst (some all : List Act) : Type 0 where
  pub n : ℕ
  pub is : some ≡ take n all

first_more : (x : Act) (some all : List Act) (b c : Bool) → (b ≡ true → c ≡ true) → IsFirst some all →
    IsFirst (if b then x ∷ some else []) (if c then x ∷ all else [])
first_more x some all false c so f = record { n = 0; is = refl }
first_more x some all true true so f = record { n = suc f.n; is = ap (λ acts. x ∷ acts) f.is }
first_more x some all true false so f = let e : false ≡ true = so refl in cc

pub ended_take : (n : ℕ) (xs : List Act) → IsFirst (ended_turns (take n xs)) (ended_turns xs)
ended_take zero xs = record { n = 0; is = refl }
ended_take (suc n) [] = record { n = 0; is = refl }
ended_take (suc n) (x ∷ xs) =
    first_more x (ended_turns (take n xs)) (ended_turns xs) (begins_turn (take n xs)) (begins_turn xs) (begins_take n xs) (ended_take n xs)

ended_more : (x : Act) (some all : List Act) (b : Bool) → IsFirst some all → IsFirst (if b then x ∷ some else []) (x ∷ all)
ended_more x some all true f = record { n = suc f.n; is = ap (λ acts. x ∷ acts) f.is }
ended_more x some all false f = record { n = 0; is = refl }

pub ended_first : (xs : List Act) → IsFirst (ended_turns xs) xs
ended_first [] = record { n = 0; is = refl }
ended_first (x ∷ xs) = ended_more x (ended_turns xs) xs (begins_turn xs) (ended_first xs)

-- what follows what was heard begins no turn

follows_one : (act : Act) → Stores act ⊎ Says act → reads_clock act ≡ false
follows_one (Now ms) h = absurd (elim h [ inl s ↦ s | inr s ↦ s ])
follows_one act h = refl

pub follows_begins : (acts : List Act) → Each (λ act. Stores act ⊎ Says act) acts → begins_turn acts ≡ false
follows_begins [] h = refl
follows_begins (act ∷ acts) h = ap (λ b. b || begins_turn acts) (follows_one act h.0) ∙ follows_begins acts h.1
