-- Requests of different names that clients put in are no more than the inputs.
use Rattle.std.specs.Prelude.{◌≡◌, ℕ, suc, ◌≤◌, Bool, true, false, ◌==◌, List, [], ◌∷◌, length, count_by, cond, refl}
use Rattle.std.proofs.Common.{ap, ◌∙◌, sym, inl, inr, arith}
use Rattle.std.proofs.lemmas.Bool.{and_from}
use Rattle.std.proofs.lemmas.Bool.Decides.{nat_tests}
use Rattle.linearizability.specs.Linearizable.{AreDistinct, AreOther, HasInput, is_named}
use Rattle.raft_types.specs.declared.client.RaftInput.{RaftInput}
use Rattle.vst_base.specs.declared.step.Item.{Item}
use Rattle.vst_base.specs.declared.step.Item.TheVariants as item
use Rattle.schedule_replay.specs.Replaying.{is_input}
use Rattle.trace_check.proofs.Counts.{counted-first}
use Rattle.trace_check.proofs.Eaches.{either}
use Rattle.lists.specs.Each.{Each}

same-number : (n : ℕ) → (n == n) ≡ true
same-number n = grind (arith, nat_tests)

own-name : {C : Type 0} (r : RaftInput C) → is_named r.client r.request r ≡ true
own-name r = and_from (r.client == r.client) (r.request == r.request) (same-number r.client) (same-number r.request)

module _ {C : Type 0} (j : RaftInput C) where
  -- all but the first that has the name of this one
  abbrev without : List (RaftInput C) → List (RaftInput C)
  without [] = []
  without (a ∷ xs) = cond (is_named j.client j.request a) xs (a ∷ without xs)

  one-less : (xs : List (RaftInput C)) → length xs ≤ suc (length (without xs))
  one-less [] = omega arith
  one-less (a ∷ xs) =
      let rest = one-less xs in
      either (λ ys. suc (length xs) ≤ suc (length ys)) (is_named j.client j.request a) xs (a ∷ without xs) (omega arith) (omega (arith, rest))

  each-without : (P : RaftInput C → Type 0) (xs : List (RaftInput C)) → Each P xs → Each P (without xs)
  each-without P [] all = tt
  each-without P (a ∷ xs) all = either (Each P) (is_named j.client j.request a) xs (a ∷ without xs) all.1 (all.0, each-without P xs all.1)

  distinct-without : (xs : List (RaftInput C)) → AreDistinct xs → AreDistinct (without xs)
  distinct-without [] distinct = tt
  distinct-without (a ∷ xs) distinct =
      either AreDistinct (is_named j.client j.request a) xs (a ∷ without xs) distinct.1 (each-without (AreOther a) xs distinct.0, distinct-without xs distinct.1)

  module _ {O : Type 0} (n : ℕ) (seen : List (Item (RaftInput C) O)) where
    -- the others were put in elsewhere
    not-this : (x : RaftInput C) → (j ≡ x → ⊥) → HasInput (item.Input n j ∷ seen) x → HasInput seen x
    not-this x other (inl same) = absurd (other same)
    not-this x other (inr later) = later

    others-there : (a : RaftInput C) (xs : List (RaftInput C)) → is_named j.client j.request a ≡ true → Each (AreOther a) xs → Each (HasInput (item.Input n j ∷ seen)) xs → Each (HasInput seen) xs
    others-there a [] named other all = tt
    others-there a (x ∷ xs) named other all =
        (not-this x (λ same. let clash : is_named j.client j.request a ≡ false = ap (λ (q : RaftInput C). is_named q.client q.request a) same ∙ other.0 in cc) all.0, others-there a xs named other.1 all.1)

    there-by : (b : Bool) (a : RaftInput C) (xs ys : List (RaftInput C)) → is_named j.client j.request a ≡ b → Each (AreOther a) xs → HasInput (item.Input n j ∷ seen) a → Each (HasInput (item.Input n j ∷ seen)) xs → Each (HasInput seen) ys
        → Each (HasInput seen) (cond b xs (a ∷ ys))
    there-by true a xs ys named other has all rest = others-there a xs named other all
    there-by false a xs ys named other has all rest =
        (not-this a (λ same. let clash : is_named j.client j.request a ≡ true = ap (λ (q : RaftInput C). is_named j.client j.request q) (sym same) ∙ own-name j in cc) has, rest)

    there-without : (xs : List (RaftInput C)) → AreDistinct xs → Each (HasInput (item.Input n j ∷ seen)) xs → Each (HasInput seen) (without xs)
    there-without [] distinct all = tt
    there-without (a ∷ xs) distinct all = there-by (is_named j.client j.request a) a xs (without xs) refl distinct.0 all.0 all.1 (there-without xs distinct.1 all.1)

pub requests-few : {C O : Type 0} (seen : List (Item (RaftInput C) O)) (order : List (RaftInput C)) → AreDistinct order → Each (HasInput seen) order → length order ≤ count_by is_input seen
requests-few [] [] distinct all = omega arith
requests-few [] (r ∷ order) distinct all = absurd all.0
requests-few (item.Input n j ∷ seen) order distinct all =
    let rest = requests-few seen (without j order) (distinct-without j order distinct) (there-without j n seen order distinct all) in
    omega (arith, rest, one-less j order, counted-first (item.Input n j) seen)
requests-few (item.Output n o ∷ seen) order distinct all =
    let rest = requests-few seen order distinct all in
    omega (arith, rest, counted-first (item.Output n o) seen)
