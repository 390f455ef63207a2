-- Which steps of a schedule use a pair of a client and a number again where a read is concerned, and a run that refuses the first.
use Rattle.std.specs.Prelude.{◌≡◌, ℕ, suc, Bool, false, ◌&&◌, ◌||◌, ◌==◌, nat_lt, List, [], ◌∷◌, ◌++◌, Option, Some, None, option_map, if◌then◌else◌}
use Rattle.std.specs.List.{filter, filter_map, list_any}
use Rattle.std.specs.Map.{lookup}
use Rattle.std.specs.Option.{option_to_list}
use Rattle.vst_base.specs.declared.step.Step.{Step}
use Rattle.vst_base.specs.declared.step.StepRefusal.{StepRefusal}
use Rattle.vst_base.specs.declared.step.StepRefusal.TheVariants as refusal
use Rattle.raft_types.specs.declared.client.RaftInput.{RaftInput}
use Rattle.linearizability.specs.Linearizable.{is_named}
use Rattle.raft_reads.specs.Clusters.{input_of}
use Rattle.xform_stack.specs.Systems.{Played}

module _ {C : Type 0} (is_read : C → Bool) where
  -- the later request has the pair of the earlier one, and one of the two reads
  abbrev pub clashes : RaftInput C → RaftInput C → Bool
  clashes i j = is_named j.client j.request i && (is_read i.cmd || is_read j.cmd)

  -- an input uses a pair again after these
  abbrev pub uses_again : List (RaftInput C) → Option (RaftInput C) → Bool
  uses_again earlier None = false
  uses_again earlier (Some j) = list_any (λ i. clashes i j) earlier

  -- the place of the first step that does, from 0
  abbrev pub first_used_after : List (RaftInput C) → List (Step (RaftInput C)) → Option ℕ
  first_used_after earlier [] = None
  first_used_after earlier (s ∷ ss) =
      if uses_again earlier (input_of s) then Some 0 else option_map suc (first_used_after (earlier ++ option_to_list (input_of s)) ss)

  abbrev pub first_used : List (Step (RaftInput C)) → Option ℕ
  first_used ss = first_used_after [] ss

  -- whether a read is among these; nothing is said of none
  abbrev pub any_reads : List (RaftInput C) → Option Bool
  any_reads [] = None
  any_reads (i ∷ rest) = Some (list_any (λ x. is_read x.cmd) (i ∷ rest))

  -- of each pair that is among these requests it is kept whether one of them reads, and of no other pair
  abbrev pub HasNoted : List ((ℕ × ℕ) × Bool) → List (RaftInput C) → Type 0
  HasNoted pairs rs =
      (client request : ℕ) → lookup (λ p. client == p.0 && request == p.1) pairs ≡ any_reads (filter (is_named client request) rs)

-- what these steps put in
abbrev pub inputs_in : {C : Type 0} → List (Step (RaftInput C)) → List (RaftInput C)
inputs_in ss = filter_map input_of ss

-- the earlier of a refusal and of a pair that is used again; at one step the refusal comes first
abbrev pub first_of_both : Option (ℕ × StepRefusal) → Option ℕ → Option (ℕ × StepRefusal)
first_of_both r None = r
first_of_both None (Some k) = Some (k, refusal.PairUsed)
first_of_both (Some r) (Some k) = if nat_lt k r.0 then Some (k, refusal.PairUsed) else Some r

-- the same run, but that it is refused a pair that is used again
abbrev pub checked : {C O G : Type 0} → (C → Bool) → Played (RaftInput C) O G → Played (RaftInput C) O G
checked is_read p = record {
  refused = λ ss. first_of_both (p.refused ss) (first_used is_read ss);
  trace = p.trace;
  image = p.image;
}

-- what contracts see of a running schedule whose pairs are checked: it, the machine that tells which commands read, and the pairs so far
pub record CheckedView (M R : Type 0) : Type 0 where
  pub running : R
  pub machine : M
  pub pairs : List ((ℕ × ℕ) × Bool)
