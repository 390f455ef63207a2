-- What a step comes to where pairs are checked.
use Rattle.std.specs.Prelude.{◌≡◌, ℕ, suc, Bool, true, false, List, [], ◌∷◌, ◌++◌, length, Option, Some, None, option_map, unwrap_or, refl}
use Rattle.std.proofs.Common.{ap, ◌∙◌, sym, arith, cond, subst}
use Rattle.std.proofs.lemmas.Bool.{le-ltb}
use Rattle.std.proofs.lemmas.List.{append_assoc, append-nil}
use Rattle.std.proofs.lemmas.List.Elements.{filter_map-append}
use Rattle.std.specs.List.{cons_option}
use Rattle.std.specs.Option.{option_to_list}
use Rattle.vst_base.specs.declared.step.Item.{Item}
use Rattle.vst_base.specs.declared.step.Step.{Step}
use Rattle.vst_base.specs.declared.step.Step.TheVariants as step
use Rattle.vst_base.specs.declared.step.StepRefusal.{StepRefusal}
use Rattle.vst_base.specs.declared.step.StepRefusal.TheVariants as refusal
use Rattle.raft_types.specs.declared.client.RaftInput.{RaftInput}
use Rattle.raft_reads.specs.Clusters.{input_of}
use Rattle.xform_stack.specs.Running.{HasRun, Progress}
use Rattle.xform_stack.specs.Systems.{Played}
use Rattle.read_observer.specs.CheckedLaws.{both-none, or-none}
use Rattle.read_observer.specs.Pairs.{CheckedView, HasNoted, checked, first_of_both, first_used, first_used_after, inputs_in, uses_again}

-- what puts in nothing
pub no_input : {C : Type 0} (s : Step (RaftInput C)) → ((n : ℕ) (i : RaftInput C) → s ≡ step.In n i → ⊥) → input_of s ≡ None
no_input (step.In n i) other = absurd (other n i refl)
no_input (step.Deliver k) other = refl
no_input (step.Tick n) other = refl
no_input (step.Dup k) other = refl
no_input (step.Lose k) other = refl
no_input (step.Crash n) other = refl
no_input (step.Reboot n) other = refl

module _ {C : Type 0} (is_read : C → Bool) where
  option_alone : (o : Option (RaftInput C)) → cons_option o [] ≡ option_to_list o
  option_alone None = refl
  option_alone (Some i) = refl

  pub inputs-more : (ss : List (Step (RaftInput C))) (s : Step (RaftInput C)) → inputs_in (ss ++ s ∷ []) ≡ inputs_in ss ++ option_to_list (input_of s)
  inputs-more ss s = filter_map-append input_of ss (s ∷ []) ∙ ap (λ rs. inputs_in ss ++ rs) (option_alone (input_of s))

  one_first : (rs : List (RaftInput C)) (o : Option (RaftInput C)) (later : List (RaftInput C)) → (rs ++ option_to_list o) ++ later ≡ rs ++ cons_option o later
  one_first rs None later = ap (λ xs. xs ++ later) (append-nil rs)
  one_first rs (Some i) later = append_assoc rs (i ∷ []) later

  -- the first place of one step more, where none of those before uses a pair again
  used-more : (rs : List (RaftInput C)) (ss : List (Step (RaftInput C))) (s : Step (RaftInput C)) (b : Bool) → first_used_after is_read rs ss ≡ None
      → uses_again is_read (rs ++ inputs_in ss) (input_of s) ≡ b → first_used_after is_read rs (ss ++ s ∷ []) ≡ cond b (Some (length ss)) None
  used-more rs [] s b none again = ap (λ c. cond c (Some 0) None) (ap (λ xs. uses_again is_read xs (input_of s)) (sym (append-nil rs)) ∙ again)
  used-more rs (x ∷ ss) s b none again =
      let more = rs ++ option_to_list (input_of x) in
      let both = or-none is_read (uses_again is_read rs (input_of x)) (first_used_after is_read more ss) none in
      let rest = used-more more ss s b both.1 (ap (λ xs. uses_again is_read xs (input_of s)) (one_first rs (input_of x) (inputs_in ss)) ∙ again) in
      ap (λ c. cond c (Some 0) (option_map suc (first_used_after is_read more (ss ++ s ∷ [])))) both.0 ∙ ap (option_map suc) rest ∙ later b
    where
      later : (b : Bool) → option_map suc (cond b (Some (length ss)) None) ≡ cond b (Some (suc (length ss))) None
      later true = refl
      later false = refl

  module _ {R M O G : Type 0} (p : Played (RaftInput C) O G) (follows : R → List (Step (RaftInput C)) → Type 0) (progress : R → Progress (RaftInput C) O) where
    -- what has run is checked
    abbrev pub Checks : List (Step (RaftInput C)) → List (Item (RaftInput C) O) → CheckedView M R → Type 0
    Checks ss gone c =
        HasRun (checked is_read p) (λ x xs. follows x.running xs × HasNoted is_read x.pairs (inputs_in xs)) (λ x. progress x.running) ss gone c

    module _ (ss : List (Step (RaftInput C))) (gone : List (Item (RaftInput C) O)) (c : CheckedView M R) (had : Checks ss gone c) where
      pub within : HasRun p follows progress ss gone c.running
      within = record {
        followed = had.followed.0;
        traced = had.traced;
        allowed = (both-none is_read (p.refused ss) (first_used is_read ss) had.allowed).0;
        counted = had.counted;
      }

      -- a step that uses no pair again is refused where it is refused within
      pub refused-within : (s : Step (RaftInput C)) → uses_again is_read (inputs_in ss) (input_of s) ≡ false
          → (checked is_read p).refused (ss ++ s ∷ []) ≡ p.refused (ss ++ s ∷ [])
      refused-within s unused =
          ap (first_of_both (p.refused (ss ++ s ∷ [])))
          (used-more [] ss s false (both-none is_read (p.refused ss) (first_used is_read ss) had.allowed).1 unused)

      -- one that does is refused as it is within, or else for that
      pub refused-pair : (s : Step (RaftInput C)) (o : Option StepRefusal) → uses_again is_read (inputs_in ss) (input_of s) ≡ true
          → p.refused (ss ++ s ∷ []) ≡ option_map (λ why. (length ss, why)) o
          → (checked is_read p).refused (ss ++ s ∷ []) ≡ Some (length ss, unwrap_or o refusal.PairUsed)
      refused-pair s o again refused =
          ap (first_of_both (p.refused (ss ++ s ∷ [])))
          (used-more [] ss s true (both-none is_read (p.refused ss) (first_used is_read ss) had.allowed).1 again)
          ∙ ap (λ a. first_of_both a (Some (length ss))) refused ∙ go o
        where
          go : (o : Option StepRefusal) → first_of_both (option_map (λ why. (length ss, why)) o) (Some (length ss)) ≡ Some (length ss, unwrap_or o refusal.PairUsed)
          go None = refl
          go (Some why) = ap (λ b. cond b (Some (length ss, refusal.PairUsed)) (Some (length ss, why))) (le-ltb (length ss) (length ss) (omega arith))

      -- and it goes on where it uses none again
      pub goes-on : (d : CheckedView M R) (s : Step (RaftInput C)) → uses_again is_read (inputs_in ss) (input_of s) ≡ false
          → HasRun p follows progress (ss ++ s ∷ []) gone d.running → HasNoted is_read d.pairs (inputs_in ss ++ option_to_list (input_of s))
          → Checks (ss ++ s ∷ []) gone d
      goes-on d s unused ran noted = record {
        followed = (ran.followed, subst (HasNoted is_read d.pairs) (sym (inputs-more ss s)) noted);
        traced = ran.traced;
        allowed = refused-within s unused ∙ ran.allowed;
        counted = ran.counted;
      }
