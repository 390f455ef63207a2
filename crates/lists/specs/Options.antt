-- What holds of a value that may be there.
use Rattle.std.proofs.Common.{Option, Some, None, IfSome, ◌≡◌, refl, subst}
use Rattle.std.proofs.lemmas.Option.{same_Some}

module _ {A : Type 0} (P : A → Type 0) where
  -- where it is there, it holds of it
  pub if_some : (o : Option A) → ((a : A) → o ≡ Some a → P a) → IfSome o P
  if_some None so = tt
  if_some (Some a) so = so a refl

  pub if_any : (o : Option A) → ((a : A) → P a) → IfSome o P
  if_any o so = if_some o (λ a _. so a)

  pub some_holds : (o : Option A) (a : A) → o ≡ Some a → P a → IfSome o P
  some_holds o a is holds = rw is holds

  pub of_some : (o : Option A) (a : A) → o ≡ Some a → IfSome o P → P a
  of_some None a is all = absurd (cc (is))
  of_some (Some b) a is all = subst P (same_Some b a is) all

-- what follows from it holds as well
pub if_some_weaker : {A : Type 0} {P Q : A → Type 0} (o : Option A) → ((a : A) → P a → Q a) → IfSome o P → IfSome o Q
if_some_weaker None so all = tt
if_some_weaker (Some a) so all = so a all
