-- That what stands in the schedules and claims of a stack has texts, and that what the stack makes of it has too.
use Rattle.std.specs.Prelude.{◌≡◌, ◌≢◌, ◌⊎◌, ℕ, ◌<◌, ◌≤◌, ◌+◌, List, [], ◌∷◌, length, Some, codes}
use Rattle.app_text.specs.Spelling.{IsSpelling}
use Rattle.net_semantics.specs.Runs.{IsAllowed, no_recovery, trace}
use Rattle.raft_text.specs.RaftTexts.{IsRaftInput, IsRaftOutput}
use Rattle.raft_types.specs.declared.client.RaftInput.{RaftInput}
use Rattle.schedule_text.specs.Spellable.{IsSpellable}
use Rattle.stacks.specs.Clusters.{cluster_allows, cluster_trace}
use Rattle.stacks.specs.Kinds.{Alone, Application, Backed, Clustered, Itself, Kind, Layers, OnCluster, Own, OwnHandlers, Service, Steady, Through, service}
use Rattle.stacks.specs.Plays.{Texts}
use Rattle.transformers.specs.Transformers.{IsAllowedAbove, Transformer}
use Rattle.vst_base.specs.Machines.{fold}
use Rattle.vst_base.specs.Stacks.{row_of}
use Rattle.vst_base.specs.declared.net.Net.TheVariants as net
use Rattle.vst_base.specs.declared.step.Item.{Item}
use Rattle.vst_base.specs.declared.step.Item.TheVariants as item
use Rattle.vst_base.specs.declared.step.Step.{Step}
use Rattle.vst_base.specs.declared.step.Step.TheVariants as step
use Rattle.lists.specs.Each.{Each}

-- the most bytes that a text of an application has
abbrev pub most_bytes : ℕ
most_bytes = 4000

-- a value has a text: it is read back from its own
module _ {I O : Type 0} (t : Texts I O) where
  abbrev pub HasInputText : I → Type 0
  HasInputText i = t.input_of (t.input_text i) ≡ Some i

  abbrev pub HasOutputText : O → Type 0
  HasOutputText o = t.output_of (t.output_text o) ≡ Some o

  -- each value has one text, on one line of a length that a line of a schedule or a claim has room for
  pub record AreSpelled : Type 0 where
    pub inputs : IsSpelling HasInputText t.input_of t.input_text
    pub outputs : IsSpelling HasOutputText t.output_of t.output_text
    pub short_inputs : (i : I) → HasInputText i → length (t.input_text i) ≤ most_bytes
    pub short_outputs : (o : O) → HasOutputText o → length (t.output_text o) ≤ most_bytes

-- an item at a node below so many, whose input or output has a text
abbrev pub IsTextItem : {I O : Type 0} → ℕ → (I → Type 0) → (O → Type 0) → Item I O → Type 0
IsTextItem nodes HasIn HasOut (item.Input n i) = (n < nodes) × HasIn i
IsTextItem nodes HasIn HasOut (item.Output n o) = (n < nodes) × HasOut o

-- an input, a tick and a delivery are events at a node, of which clients may see something. How many of these steps are
abbrev pub event_count : {I : Type 0} → Step I → ℕ
event_count (step.In n i) = 1
event_count (step.Deliver k) = 1
event_count (step.Tick n) = 1
event_count (step.Dup k) = 0
event_count (step.Lose k) = 0
event_count (step.Crash n) = 0
event_count (step.Reboot n) = 0

abbrev pub events_in : {I : Type 0} → List (Step I) → ℕ
events_in [] = 0
events_in (s ∷ ss) = event_count s + events_in ss

-- a machine answers commands that have texts with outputs that have, none of which reads as a redirection
pub record IsSpelledMachine (p : Application) : Type 0 where
  pub texts : AreSpelled p.texts
  pub no_redirect : (o : p.Output) → HasOutputText p.texts o → p.texts.output_text o ≢ codes "redirect"
  pub answers : (cs : List p.Command) → Each (HasInputText p.texts) cs → Each (HasOutputText p.texts) (fold p.machine cs)

-- there are as many nodes as handlers are made for. On at most as many as the stack has, of a schedule that its network allows and whose
-- inputs have texts, each item that clients see has one; and of any schedule they see two items an event at most
pub record AreSpelledHandlers (h : OwnHandlers) : Type 0 where
  pub texts : AreSpelled h.texts
  pub nodes : (n : ℕ) → (h.handlers n).nodes ≡ n
  pub items : (n : ℕ) (ss : List (Step h.Input)) → n ≤ (row_of h.own).most → IsAllowed (row_of h.own).net (h.handlers n) (no_recovery {S = h.State}) ss
      → Each (IsSpellable (HasInputText h.texts)) ss
      → Each (IsTextItem n (HasInputText h.texts) (HasOutputText h.texts)) (trace (h.handlers n) (no_recovery {S = h.State}) ss)
  pub few : (n : ℕ) (ss : List (Step h.Input)) → length (trace (h.handlers n) (no_recovery {S = h.State}) ss) ≤ events_in ss + events_in ss

-- a transformer that adds no step, from a network that loses no packet: of each schedule that the network above allows for these
-- handlers the schedule within has no more steps
pub record AddsNoStep (t : Transformer) (s : Service) : Type 0 where
  pub lower : t.lower ≢ net.Loss
  pub few : (n : ℕ) (ss : List (Step s.Input)) → IsAllowedAbove t (s.handlers n) ss → length (t.within (s.handlers n) ss) ≤ length ss

-- of each schedule that the network above a transformer allows for these handlers, whose inputs have texts: the schedule within has
-- steps of this kind again, and no more events; and no more steps either, unless the network above loses packets
pub record StaysSpelled (t : Transformer) (s : Service) : Type 0 where
  pub texts : (n : ℕ) (ss : List (Step s.Input)) → IsAllowedAbove t (s.handlers n) ss → Each (IsSpellable (HasInputText s.texts)) ss
      → Each (IsSpellable (HasInputText s.texts)) (t.within (s.handlers n) ss)
  pub few : (n : ℕ) (ss : List (Step s.Input)) → IsAllowedAbove t (s.handlers n) ss → events_in (t.within (s.handlers n) ss) ≤ events_in ss
  pub steps : (t.upper ≡ net.Loss) ⊎ AddsNoStep t s

-- so it is of layers, down to what they are made of
abbrev pub AreSpelledLayers : Layers → Type 0
AreSpelledLayers (Own h) = AreSpelledHandlers h
AreSpelledLayers (Alone p) = IsSpelledMachine p
AreSpelledLayers (Backed p) = IsSpelledMachine p
AreSpelledLayers (Through t l) = StaysSpelled t (service l) × AreSpelledLayers l
AreSpelledLayers (Itself i l) = AreSpelledLayers l

-- on a cluster of a spelled machine, of a schedule that its network allows and whose requests have texts, each item that clients see has one
pub record IsSpelledCluster (k : OnCluster) : Type 0 where
  pub machine : IsSpelledMachine k.application
  pub items : (n : ℕ) (ss : List (Step (RaftInput k.application.Command))) → cluster_allows k.cluster n ss
      → Each (IsSpellable (IsRaftInput (HasInputText k.application.texts))) ss
      → Each (IsTextItem n (IsRaftInput (HasInputText k.application.texts)) (IsRaftOutput (HasOutputText k.application.texts))) (cluster_trace k.cluster n ss)

-- and of what a kind of stack is a stack of
abbrev pub IsSpelledKind : Kind → Type 0
IsSpelledKind (Steady l) = AreSpelledLayers l
IsSpelledKind (Clustered k) = IsSpelledCluster k
