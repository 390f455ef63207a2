-- What schedules are run on, and what running one comes to; a cluster as such a system.
use Rattle.std.specs.Prelude.{ℕ, List, Option}
use Rattle.handler_trait.specs.Handling.{Meaning, Recovery}
use Rattle.net_semantics.specs.Runs.{first_refused, no_recovery, run, trace}
use Rattle.net_semantics.specs.Worlds.{World}
use Rattle.vst_base.specs.declared.net.Net.{Net}
use Rattle.vst_base.specs.declared.step.Item.{Item}
use Rattle.vst_base.specs.declared.step.Step.{Step}
use Rattle.vst_base.specs.declared.step.StepRefusal.{StepRefusal}
use Rattle.vst_base.specs.Machines.{MachineMeaning}
use Rattle.vst_base.specs.declared.net.Net.TheVariants as net
use Rattle.raft_types.specs.Messages.{KeptView}
use Rattle.raft_types.specs.declared.client.RaftInput.{RaftInput}
use Rattle.raft_types.specs.declared.client.RaftOut.{RaftOut}
use Rattle.raft_types.specs.declared.msg.RaftMsg.{RaftMsg}
use Rattle.raft_xform.specs.Nodes.{RaftView}
use Rattle.raft_xform.specs.Raft.{raft, raft_recovery}

-- handlers on a network, and what a node that stops keeps
pub record System (S K I O M : Type 0) : Type 0 where
  pub net : Net
  pub meaning : Meaning S I O M
  pub recovery : Recovery S K

-- those of a network without crashes
abbrev pub system_of : {S I O M : Type 0} → Net → Meaning S I O M → System S S I O M
system_of net m = record { net = net; meaning = m; recovery = no_recovery }

-- the world after these steps
abbrev pub world_of : {S K I O M : Type 0} → System S K I O M → List (Step I) → World S K M
world_of sys ss = run sys.meaning sys.recovery ss

-- of a schedule the first step that is refused, what clients see, and the image
pub record Played (I O G : Type 0) : Type 0 where
  pub refused : List (Step I) → Option (ℕ × StepRefusal)
  pub trace : List (Step I) → List (Item I O)
  pub image : List (Step I) → List G

-- that of handlers on a network
abbrev pub played_on : {S K I O M G : Type 0} → System S K I O M → (List (Step I) → List G) → Played I O G
played_on sys image = record {
  refused = first_refused sys.net sys.meaning sys.recovery;
  trace = trace sys.meaning sys.recovery;
  image = image;
}

abbrev pub cluster_of : {S C O : Type 0} → MachineMeaning S C O → ℕ →
    System (RaftView S C O) (KeptView C) (RaftInput C) (RaftOut O) (RaftMsg C)
cluster_of m nodes = record { net = net.Fail; meaning = raft nodes m; recovery = raft_recovery m }
