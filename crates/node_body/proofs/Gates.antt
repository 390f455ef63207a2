-- What following the gates finds at one of them, by the answer that the whole journal has.
use Rattle.std.proofs.Common.{◌≡◌, ℕ, zero, suc, ◌-◌, ◌%◌, List, [], ◌∷◌, length, Option, None, Some, refl, sym, ap, ◌∙◌, arith}
use Rattle.std.proofs.lemmas.Bool.{eq-eqb, ne_eqb}
use Rattle.raft_types.specs.Messages.{KeptView}
use Rattle.wire_fields.specs.Formats.{Format}
use Rattle.node_body.specs.JournalLaws.{gate_closed, gate_missing, gate_open, gate_past}
use Rattle.node_body.specs.Journals.{from_gate, go_on, journal_as, next_state}
use Rattle.node_body.specs.declared.journal.Journal.{Journal}
use Rattle.node_body.specs.declared.records.Record.{Record}

module _ {C : Type 0} (f : Format (Record C)) (k : KeptView C) (all : Option (Journal C)) where
  pub finds_no_gate : (n : ℕ) (bs : List ℕ) → from_gate f n k bs ≡ all → bs ≡ [] → None ≡ all
  finds_no_gate n bs is none = sym (gate_missing f n k) ∙ ap (λ bs. from_gate f n k bs) (sym none) ∙ is

  pub finds_closed : (n g hidden : ℕ) (bs rest : List ℕ) → from_gate f n k bs ≡ all → bs ≡ g ∷ rest → g % 2 ≡ 0 → hidden ≡ length rest → Some (journal_as k n hidden) ≡ all
  finds_closed n g hidden bs rest is there even size =
      ap (λ (h : ℕ). let found : Option (Journal C) = Some (journal_as k n h) in found) size
      ∙ sym (gate_closed f n k g rest (eq-eqb (g % 2) 0 even)) ∙ ap (λ bs. from_gate f n k bs) (sym there) ∙ is

  pub finds_past : (n g : ℕ) (bs rest : List ℕ) → from_gate f n k bs ≡ all → bs ≡ g ∷ rest → n ≡ 0 → (g % 2 ≡ 0 → ⊥) → None ≡ all
  finds_past n g bs rest is there last odd =
      sym (gate_past f k g rest (ne_eqb (g % 2) 0 odd)) ∙ ap (λ (n : ℕ). from_gate f n k (g ∷ rest)) (sym last) ∙ ap (λ bs. from_gate f n k bs) (sym there) ∙ is

  steps : (n g : ℕ) (bs rest : List ℕ) (o : Option (KeptView C × List ℕ)) → from_gate f (suc n) k bs ≡ all → bs ≡ g ∷ rest → (g % 2 ≡ 0 → ⊥) → next_state f k rest ≡ o → go_on o (λ next more. from_gate f n next more) ≡ all
  steps n g bs rest o is there odd next =
      ap (λ o. go_on o (λ next more. from_gate f n next more)) (sym next)
      ∙ sym (gate_open f n k g rest (ne_eqb (g % 2) 0 odd)) ∙ ap (λ bs. from_gate f (suc n) k bs) (sym there) ∙ is

  pub finds_no_record : (n g : ℕ) (bs rest : List ℕ) → from_gate f n k bs ≡ all → bs ≡ g ∷ rest → (n ≡ 0 → ⊥) → (g % 2 ≡ 0 → ⊥) → next_state f k rest ≡ None → None ≡ all
  finds_no_record zero g bs rest is there some odd none = absurd (some refl)
  finds_no_record (suc n) g bs rest is there some odd none = steps n g bs rest None is there odd none

  pub finds_next : (n g : ℕ) (bs rest : List ℕ) (next : KeptView C) (more : List ℕ) → from_gate f n k bs ≡ all → bs ≡ g ∷ rest → (n ≡ 0 → ⊥) → (g % 2 ≡ 0 → ⊥) → next_state f k rest ≡ Some (next, more)
      → from_gate f (n - 1) next more ≡ all
  finds_next zero g bs rest next more is there some odd found = absurd (some refl)
  finds_next (suc n) g bs rest next more is there some odd found =
      let less : suc n - 1 ≡ n = omega arith in
      ap (λ (n : ℕ). from_gate f n next more) less ∙ steps n g bs rest (Some (next, more)) is there odd found
