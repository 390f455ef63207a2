-- What a step makes of what contracts see of an `ActWorld`, where a word says what a stop leaves of the areas.
use Rattle.std.specs.Prelude.{◌≡◌, ◌≢◌, ℕ, ◌+◌, List, Some, Result, IfErr, OnOk, slice_get}
use Rattle.handler_trait.specs.Facts.{RebootPromises, RebootableFacts, reboot_promises_of}
use Rattle.net_semantics.specs.Steps.{IsAnswer}
use Rattle.net_semantics.specs.declared.fault.StepFault.{StepFault}
use Rattle.net_semantics.specs.declared.fault.StepFault.TheVariants as fault
use Rattle.act_network.specs.ActRefusals.{act_refusal}
use Rattle.act_network.specs.ActRuns.{acts_run}
use Rattle.act_network.specs.ActSteps.{act_next}
use Rattle.act_network.specs.ActWorlds.{ActWorld}
use Rattle.act_network.specs.Disks.{Disks}
use Rattle.act_network.specs.Words.{by_words, left_by}
use Rattle.act_network.specs.declared.step.ActStep.{ActStep}
use Rattle.act_world.specs.ActViews.{ActView, IsSoundAct, ShowsAct}
use Rattle.act_world.specs.Moves.{on_node}
use Rattle.act_world.specs.Nodes.{with_disk}
use Rattle.act_world.specs.declared.act_node.ActNode.{ActNode}

-- what is left of a node's disk is moved out of it; the disk still tells the held state from others
pub record LeavesSo {H S K D I A O M X : Type 0} (d : Disks K D A X) (n : ℕ) (before after : ActView H S D I A O M X) (left_of : D → X) (left : X) : Type 0 where
  pub node : ActNode S D I A O M X
  pub there : slice_get before.nodes n ≡ Some node
  pub left_is : left ≡ left_of node.disk
  pub disk : D
  pub knows : (k : K) → d.is_held disk k ≡ d.is_held node.disk k
  pub after_is : after ≡ on_node before n (with_disk (λ _. disk))

module _ {H S K D I A O M X W : Type 0} (d : Disks K D A X) (by_word : D → W → X) where
  -- after the step that before took
  pub record TakesWord (h : RebootPromises S K I O M) (s : ActStep I W) (before after : ActView H S D I A O M X) : Type 0 where
    pub leads : (w : ActWorld S I O M D A X) → ShowsAct before w → ShowsAct after (act_next h.handlers.meaning h.recovery d w (left_by by_word w s))
    pub counts : after.taken ≡ before.taken + 1
    pub keeps : IsSoundAct h.handlers after

  -- what a step answers, and what it makes of the world
  pub record AnswersWord {R : Type 0} (h : RebootPromises S K I O M) (s : ActStep I W) (before after : ActView H S D I A O M X) (answer : Result R StepFault) : Type 0 where
    pub refused : (w : ActWorld S I O M D A X) → ShowsAct before w → IsAnswer answer (act_refusal h.handlers.meaning w (left_by by_word w s))
    pub unchanged : IfErr answer (λ why. why ≢ fault.Memory → after ≡ before)
    pub taken : OnOk answer (TakesWord h s before after)
    pub same_handlers : after.handlers ≡ before.handlers

-- the same by what the handlers promise
abbrev pub AnswersWordBy : {H S K D I A O M X W R : Type 0} → RebootableFacts H S K I O M → Disks K D A X → (D → W → X) → ActStep I W → ActView H S D I A O M X → ActView H S D I A O M X → Result R StepFault → Type 0
AnswersWordBy f d by_word s before after answer = AnswersWord d by_word (reboot_promises_of f before.handlers) s before after answer

-- a world is that after these steps
abbrev pub HasFollowedWords : {H S K D I A O M X W : Type 0} → RebootableFacts H S K I O M → Disks K D A X → (D → W → X) → ActView H S D I A O M X → List (ActStep I W) → Type 0
HasFollowedWords f d by_word v ss =
    ShowsAct v (acts_run (f.meaning v.handlers) (f.recovery v.handlers) d (by_words (f.meaning v.handlers) (f.recovery v.handlers) d by_word ss))
