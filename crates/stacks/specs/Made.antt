-- The schedules that are made for a stack, by a number and by how many steps they have.
use Rattle.std.specs.Prelude.{ℕ, List}
use Rattle.raft_types.specs.declared.client.RaftInput.{RaftInput}
use Rattle.schedule_make.specs.Inputs.{asked_by_client}
use Rattle.schedule_make.specs.Made.{Inputs, made}
use Rattle.schedule_text.specs.declared.header.Header.{Header}
use Rattle.vst_base.specs.declared.step.Step.{Step}
use Rattle.xform_stack.specs.Systems.{System, system_of}
use Rattle.stacks.specs.Clusters.{cluster_system}
use Rattle.stacks.specs.Plays.{Found, found_map, AnyPlay}
use Rattle.stacks.specs.Kinds.{Alone, Backed, Clustered, Itself, Kind, Layers, OnCluster, Own, Steady, Through, plays, service}
use Rattle.stacks.specs.Table.{kind_at}

abbrev pub made_on : {S K I O M : Type 0} → System S K I O M → Inputs I → ℕ → ℕ → List (Step I)
made_on sys inputs seed steps = made sys.net sys.meaning sys.recovery inputs seed steps

-- the inputs of made schedules: with transformers those without
abbrev pub layers_make : (l : Layers) → Inputs (service l).Input
layers_make (Own h) = h.makes
layers_make (Alone p) = p.makes
layers_make (Backed p) = p.makes
layers_make (Through t l) = layers_make l
layers_make (Itself i l) = layers_make l

abbrev pub layers_made : (l : Layers) → ℕ → ℕ → ℕ → List (Step (service l).Input)
layers_made l n = made_on (system_of (service l).net ((service l).handlers n)) (layers_make l)

abbrev pub cluster_made : (k : OnCluster) → ℕ → ℕ → ℕ → List (Step (RaftInput k.application.Command))
cluster_made k n = made_on (cluster_system k.cluster n) (asked_by_client k.application.makes)

-- a stack of so many nodes, and the schedules that are made for it
pub record AnyMade : Type 1 where
  pub plays : AnyPlay
  pub made : ℕ → ℕ → List (Step plays.Input)

abbrev pub makes : Kind → ℕ → AnyMade
makes (Steady l) n = record { plays = plays (Steady l) n; made = layers_made l n }
makes (Clustered k) n = record { plays = plays (Clustered k) n; made = cluster_made k n }

-- those of a header
abbrev pub makes_at : Header → Found AnyMade
makes_at h = found_map (λ k. makes k h.nodes) (kind_at h.net h.stack)
