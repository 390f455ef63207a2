-- The kinds of stacks that schedules are made for: what is asked of their handlers, inputs and transformers.
use Rattle.std.specs.Prelude.{◌≡◌, ℕ, ◌+◌, ◌≤◌, List, Option, Some, None}
use Rattle.app_text.specs.Spelling.{IsSpelling}
use Rattle.handler_trait.specs.Handling.{Meaning}
use Rattle.schedule_make.specs.Made.{Inputs}
use Rattle.schedule_text.specs.Spellable.{AreSpellable}
use Rattle.stacks.specs.Clusters.{cluster_allows}
use Rattle.stacks.specs.Kinds.{Alone, Application, Backed, Clustered, Itself, Kind, Layers, OnCluster, Own, OwnHandlers, Service, Steady, Through, service}
use Rattle.stacks.specs.Made.{AnyMade, cluster_made}
use Rattle.stacks.specs.Plays.{Texts}
use Rattle.transformers.specs.Transformers.{Transformer}
use Rattle.vst_base.specs.declared.node.TheConstants.{MAX_NODES}
use Rattle.vst_base.specs.declared.step.TheConstants.{MAX_STEPS}
use Rattle.made_schedules.specs.Sends.{SendsAtMost, SendsFew}
use Rattle.made_schedules.specs.Texts.{HaveTexts}

-- a value that is read back from its text
abbrev pub IsReadBack : {V : Type 0} → (List ℕ → Option V) → (V → List ℕ) → V → Type 0
IsReadBack value_of text_of v = value_of (text_of v) ≡ Some v

-- each input has one text, of one line; and those that are made are read back, from texts of at most so many bytes
pub record MakesTexts {I O : Type 0} (most : ℕ) (t : Texts I O) (inputs : Inputs I) : Type 0 where
  pub spelled : IsSpelling (IsReadBack t.input_of t.input_text) t.input_of t.input_text
  pub texts : HaveTexts most (IsReadBack t.input_of t.input_text) t.input_text inputs

-- the most packets that an event sends of handlers without a transformer
abbrev pub own_sends : ℕ
own_sends = 1

-- handlers have as many nodes as are asked for, their events send few packets, and their inputs have short texts
pub record OwnMakes (h : OwnHandlers) : Type 0 where
  pub nodes : (n : ℕ) → (h.handlers n).nodes ≡ n
  pub sends : (n : ℕ) → SendsAtMost own_sends (h.handlers n)
  pub inputs : MakesTexts 4000 h.texts h.makes

-- a machine's commands leave room for a client's number and the request's
abbrev pub MachineMakes : Application → Type 0
MachineMakes p = MakesTexts 3900 p.texts p.makes

-- transformed handlers have the nodes of those within, and their events send one packet more at most
pub record KeepsFew (t : Transformer) (s : Service) : Type 0 where
  pub nodes : (m : Meaning s.State s.Input s.Output s.Msg) → (t.transforms m).nodes ≡ m.nodes
  pub sends : (most : ℕ) (m : Meaning s.State s.Input s.Output s.Msg) → SendsAtMost most m → SendsAtMost (most + 1) (t.transforms m)

-- schedules can be made for such layers, and for such a kind of stack
abbrev pub LayersMake : Layers → Type 0
LayersMake (Own h) = OwnMakes h
LayersMake (Alone p) = MachineMakes p
LayersMake (Backed p) = MachineMakes p
LayersMake (Through t l) = KeepsFew t (service l) × LayersMake l
LayersMake (Itself i l) = LayersMake l

-- the most packets that an event of layers sends then
abbrev pub most_sends : Layers → ℕ
most_sends (Own h) = own_sends
most_sends (Alone p) = own_sends
most_sends (Backed p) = own_sends
most_sends (Through t l) = most_sends l + 1
most_sends (Itself i l) = most_sends l

pub record SteadyMakes (l : Layers) : Type 0 where
  pub layers : LayersMake l
  pub sends : most_sends l ≤ MAX_NODES

-- a cluster has as many nodes as are asked for, its events send few packets, its machine's commands have short texts, and it refuses no made
-- schedule that its network allows
pub record ClusterMakes (k : OnCluster) : Type 0 where
  pub nodes : (n : ℕ) → (k.cluster.handlers n).nodes ≡ n
  pub sends : (n : ℕ) → n ≤ MAX_NODES → SendsFew (k.cluster.handlers n)
  pub inputs : MachineMakes k.application
  pub allowed : (n seed steps : ℕ) → cluster_allows k.cluster n (cluster_made k n seed steps) → k.cluster.refused n (cluster_made k n seed steps) ≡ None

abbrev pub KindMakes : Kind → Type 0
KindMakes (Steady l) = SteadyMakes l
KindMakes (Clustered k) = ClusterMakes k

-- whatever the number that a schedule is made from, and however many steps it has, its steps have lines
abbrev pub AllHaveLines : AnyMade → Type 0
AllHaveLines a =
    let t = a.plays.play.texts in
    (seed steps : ℕ) → steps ≤ MAX_STEPS → AreSpellable (IsReadBack t.input_of t.input_text) t.input_text (a.made seed steps)
