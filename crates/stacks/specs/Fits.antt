-- That a kind of stack fits the row of a stack: its network, its numbers of nodes, that each transformer carries what it stands on, and that
-- a cluster acts as one machine.
use Rattle.std.specs.Prelude.{◌≡◌, ℕ, ◌≤◌}
use Rattle.vst_base.specs.Stacks.{row_of}
use Rattle.vst_base.specs.declared.net.Net.{Net}
use Rattle.vst_base.specs.declared.net.Net.TheVariants as net
use Rattle.vst_base.specs.declared.node.TheConstants.{MAX_NODES}
use Rattle.vst_base.specs.declared.stack.StackRow.{StackRow}
use Rattle.transformers.specs.Transformers.{Carries, Transformer}
use Rattle.stacks.specs.Clusters.{ActsAs}
use Rattle.stacks.specs.Kinds.{Alone, Backed, Clustered, Itself, Kind, Layers, OnCluster, Own, Service, Steady, Through, service}

-- the network that schedules of a kind of stack run on
abbrev pub net_of : Kind → Net
net_of (Steady l) = (service l).net
net_of (Clustered k) = net.Fail

-- a stack has so many nodes, no fewer and no more
pub record HasNodes (row : StackRow) (few many : ℕ) : Type 0 where
  pub least : row.least ≡ few
  pub most : row.most ≡ many

-- so many nodes of a stack whose image is a schedule at one node
pub record IsOfOne (row own : StackRow) (n : ℕ) : Type 0 where
  pub nodes : HasNodes row n n
  pub image : HasNodes own 1 1

-- handlers run on as many nodes as by themselves, a machine on one node, or on a primary and its backup, with transformers on as many as
-- without; and layers whose image is their own schedule on as many as the stack of that schedule
abbrev pub HasItsNodes : StackRow → Layers → Type 0
HasItsNodes row (Own h) = HasNodes row (row_of h.own).least (row_of h.own).most
HasItsNodes row (Alone p) = IsOfOne row (row_of p.own) 1
HasItsNodes row (Backed p) = IsOfOne row (row_of p.own) 2
HasItsNodes row (Through t l) = HasItsNodes row l
HasItsNodes row (Itself i l) = HasNodes row (row_of i).least (row_of i).most × HasItsNodes row l

-- a transformer stands on the network that it carries handlers from, and carries these
pub record IsCarriedBy (t : Transformer) (s : Service) : Type 0 where
  pub stands : s.net ≡ t.lower
  pub carries : Carries t s.State s.Input s.Output s.Msg

abbrev pub AreCarried : Layers → Type 0
AreCarried (Own h) = Unit {0}
AreCarried (Alone p) = Unit {0}
AreCarried (Backed p) = Unit {0}
AreCarried (Through t l) = IsCarriedBy t (service l) × AreCarried l
AreCarried (Itself i l) = ((row_of i).net ≡ (service l).net) × AreCarried l

-- what a row asks of layers, and of a cluster, which has any size
pub record AreLayersOf (row : StackRow) (l : Layers) : Type 0 where
  pub nodes : HasItsNodes row l
  pub carried : AreCarried l

pub record IsClusterOf (row : StackRow) (k : OnCluster) : Type 0 where
  pub nodes : HasNodes row 1 MAX_NODES
  pub acts : ActsAs k.application.machine k.cluster

abbrev pub IsOfItsNodes : StackRow → Kind → Type 0
IsOfItsNodes row (Steady l) = AreLayersOf row l
IsOfItsNodes row (Clustered k) = IsClusterOf row k

pub record IsFit (row : StackRow) (k : Kind) : Type 0 where
  pub net : row.net ≡ net_of k
  pub some : 1 ≤ row.least
  pub few : row.most ≤ MAX_NODES
  pub nodes : IsOfItsNodes row k
