-- Texts tell the values apart that have one.
use Rattle.std.specs.Prelude.{◌≡◌, ℕ, List, Option}
use Rattle.std.proofs.Common.{ap, ◌∙◌, sym}
use Rattle.app_text.specs.Spelling.{IsSpelling}
use Rattle.std.proofs.lemmas.Option.{same_Some}

pub told-apart : {V : Type 0} (HasText : V → Type 0) (value_of : List ℕ → Option V) (text_of : V → List ℕ) → IsSpelling HasText value_of text_of → (a b : V) → HasText a → HasText b → text_of a ≡ text_of b → a ≡ b
told-apart HasText value_of text_of s a b one two e = same_Some a b (sym (s.reads_back a one) ∙ (ap value_of e ∙ s.reads_back b two))
