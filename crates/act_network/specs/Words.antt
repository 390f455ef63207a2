-- Schedules whose stops say by a word what is left of the areas.
use Rattle.std.specs.Prelude.{◌≡◌, ℕ, true, List, [], ◌∷◌, None}
use Rattle.handler_trait.specs.Handling.{Meaning, Recovery}
use Rattle.act_network.specs.declared.step.ActStep.{ActStep}
use Rattle.act_network.specs.declared.step.ActStep.TheVariants as act
use Rattle.act_network.specs.Disks.{Disks}
use Rattle.act_network.specs.ActWorlds.{ActWorld, first_act_world}
use Rattle.act_network.specs.ActSteps.{act_next}
use Rattle.act_network.specs.ActRuns.{IsActSchedule, first_refused_act}

-- the step, where a word leaves this of a disk
abbrev pub left_by : {S I O M D A X W : Type 0} → (D → W → X) → ActWorld S I O M D A X → ActStep I W → ActStep I X
left_by by_word w (act.In n i) = act.In n i
left_by by_word w (act.Deliver k) = act.Deliver k
left_by by_word w (act.Tick n) = act.Tick n
left_by by_word w (act.Act n) = act.Act n
left_by by_word w (act.Dup k) = act.Dup k
left_by by_word w (act.Lose k) = act.Lose k
left_by by_word w (act.Stop n word) = act.Stop n (by_word (w.disk n) word)
left_by by_word w (act.Reboot n) = act.Reboot n

module _ {S K I O M D A X W : Type 0} (m : Meaning S I O M) (r : Recovery S K) (d : Disks K D A X) (by_word : D → W → X) where
  abbrev pub by_words_from : ActWorld S I O M D A X → List (ActStep I W) → List (ActStep I X)
  by_words_from w [] = []
  by_words_from w (s ∷ ss) = left_by by_word w s ∷ by_words_from (act_next m r d w (left_by by_word w s)) ss

  -- each step in the world that the steps before it make
  abbrev pub by_words : List (ActStep I W) → List (ActStep I X)
  by_words ss = by_words_from (first_act_world m d) ss

-- it holds of every disk that acts lead to
pub record HoldsOfDisks {K D A X : Type 0} (d : Disks K D A X) (P : D → Type 0) : Type 0 where
  pub fresh : (n : ℕ) → P (d.fresh n)
  pub does : (a : A) (disk : D) → P disk → P (d.does a disk)
  pub learns : (k : K) (disk : D) → P disk → P (d.learns k disk)
  pub reopened : (n : ℕ) (left : X) → P (d.reopened n left)

-- Where each word leaves of such a disk what a crash may leave, the network allows each schedule by words of which it refuses no step.
abbrev pub WordsMayBeLeft : (S I O M : Type 0) → {K D A X W : Type 0} → Disks K D A X → (D → W → X) → (D → Type 0) → Type 0
WordsMayBeLeft S I O M {K} {D} {A} {X} {W} d by_word P =
    HoldsOfDisks d P → ((disk : D) (word : W) → P disk → d.may_leave disk (by_word disk word) ≡ true) →
    (m : Meaning S I O M) (r : Recovery S K) (ss : List (ActStep I W)) → first_refused_act m r d (by_words m r d by_word ss) ≡ None →
    IsActSchedule m r d (by_words m r d by_word ss)
