-- How claims on a stack are read and judged.
use Rattle.std.specs.Prelude.{ℕ, List}
use Rattle.vst_base.specs.Stacks.{row_of}
use Rattle.vst_base.specs.declared.net.Net.{Net}
use Rattle.vst_base.specs.declared.net.Net.TheVariants as net
use Rattle.vst_base.specs.declared.stack.StackId.{StackId}
use Rattle.vst_base.specs.declared.step.Step.{Step}
use Rattle.check_text.specs.Claims.{Claim}
use Rattle.check_text.specs.ImageLines.{order_says, step_says}
use Rattle.check_text.specs.declared.image_line.ImageLine.{ImageLine}
use Rattle.claim_verdicts.specs.Backups.{backup_verdict}
use Rattle.claim_verdicts.specs.Clusters.{cluster_verdict}
use Rattle.claim_verdicts.specs.Schedules.{schedule_verdict}
use Rattle.claim_verdicts.specs.declared.verdict.Verdict.{Verdict}
use Rattle.handler_trait.specs.Handling.{Meaning}
use Rattle.raft_text.specs.RaftTexts.{raft_input_of}
use Rattle.raft_types.specs.declared.client.RaftInput.{RaftInput}
use Rattle.raft_types.specs.declared.client.RaftOut.{RaftOut}
use Rattle.trace_maps.specs.SingleNode.{single_node}
use Rattle.stacks.specs.Plays.{Found, found_map, AnyPlay, Texts}
use Rattle.stacks.specs.Kinds.{Alone, Application, Backed, Clustered, Itself, Kind, Layers, Own, Steady, Through, nodes_of, plays, service}
use Rattle.stacks.specs.Table.{kind_at}

-- what a line of an image says, and the verdict on a claim that was read
pub record Claimed (I O G : Type 0) : Type 0 where
  pub says : List ℕ → ImageLine G
  pub verdict : Claim I O G → Verdict

-- an image that is a schedule of handlers on as many nodes as its header says
abbrev pub of_itself : {S I O M : Type 0} → Net → (ℕ → Meaning S I O M) → Texts I O → Claimed I O (Step I)
of_itself on handlers t = record {
  says = step_says t.input_of;
  verdict = λ c. schedule_verdict t.input_text t.output_text on (handlers (nodes_of c.header)) c;
}

-- with transformers the claims are those without
abbrev pub layers_claimed : (l : Layers) → Claimed (service l).Input (service l).Output (service l).Line
layers_claimed (Own h) = of_itself (row_of h.own).net h.handlers h.texts
layers_claimed (Alone p) = record {
  says = step_says p.texts.input_of;
  verdict = schedule_verdict p.texts.input_text p.texts.output_text net.One (single_node p.machine);
}
layers_claimed (Backed p) = record {
  says = step_says p.texts.input_of;
  verdict = backup_verdict p.texts.input_text p.texts.output_text p.machine;
}
layers_claimed (Through t l) = layers_claimed l
layers_claimed (Itself i l) = of_itself (service l).net (service l).handlers (service l).texts

abbrev pub cluster_claimed : (p : Application) → Claimed (RaftInput p.Command) (RaftOut p.Output) (RaftInput p.Command)
cluster_claimed p = record {
  says = order_says (raft_input_of p.texts.input_of);
  verdict = cluster_verdict p.texts.input_text p.texts.output_text p.machine;
}

-- a stack of so many nodes, and the claims on it
pub record AnyClaims : Type 1 where
  pub plays : AnyPlay
  pub claimed : Claimed plays.Input plays.Output plays.Line

abbrev pub claims : Kind → ℕ → AnyClaims
claims (Steady l) n = record { plays = plays (Steady l) n; claimed = layers_claimed l }
claims (Clustered k) n = record { plays = plays (Clustered k) n; claimed = cluster_claimed k.application }

-- claims on a stack are those on its own network, on as many nodes as it may have
abbrev pub claims_on : StackId → Found AnyClaims
claims_on i = found_map (λ k. claims k (row_of i).most) (kind_at (row_of i).net i)
