-- A stack as one value: how its schedules play, how claims on it are read and judged, and the schedules that are made for it.
use Rattle.std.specs.Prelude.{◌≡◌, ◌⊎◌, ℕ, List, [], ◌∷◌}
use Rattle.check_text.specs.Claims.{Claim}
use Rattle.schedule_text.specs.declared.header.Header.{Header}
use Rattle.vst_base.specs.declared.stack.StackId.{StackId}
use Rattle.vst_base.specs.declared.step.Step.{Step}
use Rattle.stacks.specs.Claimed.{Claimed, cluster_claimed, layers_claimed}
use Rattle.stacks.specs.Plays.{Found, found_map, AnyPlay, Play, any_play}
use Rattle.stacks.specs.Kinds.{Clustered, Kind, Steady, cluster_plays, service, steady_plays}
use Rattle.stacks.specs.Made.{cluster_made, layers_made}
use Rattle.stacks.specs.Table.{kind_at}

pub record AnyStack : Type 1 where
  pub plays : AnyPlay
  pub claimed : Claimed plays.Input plays.Output plays.Line
  pub made : ℕ → ℕ → List (Step plays.Input)

abbrev pub any_stack : {I O G : Type 0} → Play I O G → (Claim I O G → Type 0) → Claimed I O G → (ℕ → ℕ → List (Step I)) → AnyStack
any_stack play Explains claimed made = record { plays = any_play play Explains; claimed = claimed; made = made }

-- that of a kind, of so many nodes
abbrev pub stack : Kind → ℕ → AnyStack
stack (Steady l) n = record { plays = steady_plays (service l) n; claimed = layers_claimed l; made = layers_made l n }
stack (Clustered k) n = record { plays = cluster_plays k n; claimed = cluster_claimed k.application; made = cluster_made k n }

-- and that of a header
abbrev pub stack_at : Header → Found AnyStack
stack_at h = found_map (λ k. stack k h.nodes) (kind_at h.net h.stack)

-- it is one of these stacks
abbrev pub IsOneOf : List StackId → StackId → Type 0
IsOneOf [] i = ⊥
IsOneOf (s ∷ ss) i = (i ≡ s) ⊎ IsOneOf ss i
