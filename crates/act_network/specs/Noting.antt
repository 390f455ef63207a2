-- What clients note of single acts at the moments of them: an input when it begins a turn, an output when it is sent.
use Rattle.std.specs.Prelude.{ℕ, List, [], ◌∷◌, ◌++◌, Option, Some, None}
use Rattle.handler_trait.specs.Handling.{Meaning, Recovery}
use Rattle.vst_base.specs.declared.step.Item.{Item}
use Rattle.vst_base.specs.declared.step.Item.TheVariants as item
use Rattle.act_network.specs.declared.step.ActStep.{ActStep}
use Rattle.act_network.specs.declared.step.ActStep.TheVariants as act
use Rattle.act_network.specs.Disks.{Disks}
use Rattle.act_network.specs.ActWorlds.{ActWorld, Turn, first_act_world}
use Rattle.act_network.specs.ActSteps.{act_next}

-- by the next act of a turn, of which these are left: acts on the areas, then sends, then outputs
abbrev pub noted_next : {I O M A : Type 0} → ℕ → List A → List (ℕ × M) → List O → List (Item I O)
noted_next n (a ∷ acts) sends outputs = []
noted_next n [] (s ∷ sends) outputs = []
noted_next n [] [] (o ∷ outputs) = item.Output n o ∷ []
noted_next n [] [] [] = []

abbrev pub noted_in : {S I O M A : Type 0} → ℕ → Option (Turn S I O M A) → List (Item I O)
noted_in n None = []
noted_in n (Some t) = noted_next n t.acts t.sends t.outputs

-- by a step
abbrev pub noted_at : {S I O M D A X : Type 0} → ActWorld S I O M D A X → ActStep I X → List (Item I O)
noted_at w (act.In n i) = item.Input n i ∷ []
noted_at w (act.Deliver k) = []
noted_at w (act.Tick n) = []
noted_at w (act.Act n) = noted_in n (w.turn n)
noted_at w (act.Dup k) = []
noted_at w (act.Lose k) = []
noted_at w (act.Stop n left) = []
noted_at w (act.Reboot n) = []

module _ {S K I O M D A X : Type 0} (m : Meaning S I O M) (r : Recovery S K) (d : Disks K D A X) where
  abbrev pub noted_from : ActWorld S I O M D A X → List (ActStep I X) → List (Item I O)
  noted_from w [] = []
  noted_from w (s ∷ ss) = noted_at w s ++ noted_from (act_next m r d w s) ss

  abbrev pub noted : List (ActStep I X) → List (Item I O)
  noted ss = noted_from (first_act_world m d) ss
