-- What the code writes down of an output.
use Rattle.std.proofs.Common.{◌≡◌, ℕ, ◌<◌, List, get_or, length, set, ap, subst, ◌∙◌}
use Rattle.vst_base.specs.declared.step.Step.{Step}
use Rattle.net_semantics.proofs.Places.{set-change_at}
use Rattle.act_world.specs.Notes.{output_sent, told}
use Rattle.act_world.specs.Views.{NotesView, SeenTurn}

module _ {I O : Type 0} (image : List (Step I)) (listed : List (SeenTurn I O)) (sent : ℕ) where
  abbrev pub written : List (SeenTurn I O) → NotesView I O
  written ls = record { image = image; listed = ls; sent = sent }

  pub output-is : (v : NotesView I O) → written listed ≡ v → (place : ℕ) (o : O) (t y : SeenTurn I O) → place < length listed → t ≡ get_or listed place t → y ≡ told o t →
      written (set listed place y) ≡ output_sent v place o
  output-is v is place o t y below read e =
      subst (λ x. written (set listed place y) ≡ output_sent x place o) is (ap written (set-change_at (told o) listed place t y below (e ∙ ap (told o) read)))
