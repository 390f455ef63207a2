-- What a check says of a text, by what the verdict on each claim means that the text may be.
use Rattle.std.specs.Prelude.{◌≡◌, ◌↔◌, ℕ, List, Err, Ok, refl}
use Rattle.std.proofs.Common.{ap, ◌∙◌}
use Rattle.check_text.specs.Claims.{Claim}
use Rattle.check_text.specs.Forms.{claim_of}
use Rattle.check_text.specs.Reading.{Reading, Whole, RefusedAt, EndedAt}
use Rattle.claim_verdicts.specs.declared.verdict.Verdict.TheVariants.{No, Yes}
use Rattle.line_reader.specs.Lines.{lines_of}
use Rattle.line_reader.specs.declared.why.Why.TheVariants as why
use Rattle.stacks.specs.Checks.{IsClaim, checked_on, form_on, said}
use Rattle.stacks.specs.Claimed.{AnyClaims}
use Rattle.stacks.specs.Plays.{Found, Here, IfFound, Nowhere, found_or}

-- the verdict on each claim that is read is yes exactly where its image explains its trace
abbrev pub IsDecided : ℕ → AnyClaims → Type 0
IsDecided nodes a =
    (ls : List (List ℕ)) (c : Claim a.plays.Input a.plays.Output a.plays.Line) → claim_of (form_on nodes a.plays.play a.claimed) ls ≡ Whole c → (a.claimed.verdict c ≡ Yes) ↔ a.plays.Explains c

module _ (nodes : ℕ) (a : AnyClaims) (decided : IsDecided nodes a) (bytes : List ℕ) where
  -- the text is read so
  abbrev IsReadAs : Reading (Claim a.plays.Input a.plays.Output a.plays.Line) → Type 0
  IsReadAs r = claim_of (form_on nodes a.plays.play a.claimed) (lines_of bytes) ≡ r

  yes-by : (r : Reading (Claim a.plays.Input a.plays.Output a.plays.Line)) → IsReadAs r → said a.claimed.verdict r ≡ Ok Yes → IsClaim a nodes a.plays.Explains bytes
  yes-by (Whole c) is e = let yes : a.claimed.verdict c ≡ Yes = cc in record { claim = c; read = is; so = (decided (lines_of bytes) c is).0 yes }
  yes-by (RefusedAt number w) is e = cc
  yes-by (EndedAt number) is e = cc

  permitted-as : (checked_on nodes a.plays.play a.claimed (lines_of bytes) ≡ Ok Yes) ↔ IsClaim a nodes a.plays.Explains bytes
  permitted-as = (
    yes-by (claim_of (form_on nodes a.plays.play a.claimed) (lines_of bytes)) refl,
    λ p. ap (said a.claimed.verdict) p.read ∙ ap Ok ((decided (lines_of bytes) p.claim p.read).1 p.so),
  )

  -- a claim that its image explained would have got a yes
  no-by : (condition line : ℕ) (r : Reading (Claim a.plays.Input a.plays.Output a.plays.Line)) → IsReadAs r → said a.claimed.verdict r ≡ Ok (No condition line) → IsClaim a nodes (λ c. ¬ a.plays.Explains c) bytes
  no-by condition line (Whole c) is e = record {
    claim = c;
    read = is;
    so = λ so. let yes : a.claimed.verdict c ≡ Yes = (decided (lines_of bytes) c is).1 so in cc;
  }
  no-by condition line (RefusedAt number w) is e = cc
  no-by condition line (EndedAt number) is e = cc

  refuted-as : (condition line : ℕ) → checked_on nodes a.plays.play a.claimed (lines_of bytes) ≡ Ok (No condition line) → IsClaim a nodes (λ c. ¬ a.plays.Explains c) bytes
  refuted-as condition line e = no-by condition line (claim_of (form_on nodes a.plays.play a.claimed) (lines_of bytes)) refl e

-- of what the table has
abbrev pub AreDecided : ℕ → Found AnyClaims → Type 0
AreDecided nodes f = IfFound f (IsDecided nodes)

module _ (nodes : ℕ) (bytes : List ℕ) where
  pub permitted : (f : Found AnyClaims) → AreDecided nodes f
      → (found_or (Err (1, why.Header)) (λ a. checked_on nodes a.plays.play a.claimed (lines_of bytes)) f ≡ Ok Yes) ↔ IfFound f (λ a. IsClaim a nodes a.plays.Explains bytes)
  permitted Nowhere decided = absurd decided
  permitted (Here a) decided = permitted-as nodes a decided bytes

  pub refuted : (f : Found AnyClaims) → AreDecided nodes f → (condition line : ℕ)
      → found_or (Err (1, why.Header)) (λ a. checked_on nodes a.plays.play a.claimed (lines_of bytes)) f ≡ Ok (No condition line)
      → IfFound f (λ a. IsClaim a nodes (λ c. ¬ a.plays.Explains c) bytes)
  refuted Nowhere decided condition line e = absurd decided
  refuted (Here a) decided condition line is = refuted-as nodes a decided bytes condition line is
