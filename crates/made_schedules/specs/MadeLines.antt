-- Which made schedules have lines.
use Rattle.std.specs.Prelude.{ℕ, ◌≤◌, List}
use Rattle.handler_trait.specs.Handling.{Meaning, Recovery}
use Rattle.schedule_make.specs.Made.{Inputs, made}
use Rattle.schedule_text.specs.Spellable.{AreSpellable}
use Rattle.vst_base.specs.declared.net.Net.{Net}
use Rattle.vst_base.specs.declared.step.TheConstants.{MAX_STEPS}

-- whatever the number that a schedule is made from, and however many steps it has, its steps have lines
abbrev pub HaveLines : {S K I O M : Type 0} → (I → Type 0) → (I → List ℕ) → Net → Meaning S I O M → Recovery S K → Inputs I → Type 0
HaveLines HasText input_text net m r inputs =
    (seed steps : ℕ) → steps ≤ MAX_STEPS → AreSpellable HasText input_text (made net m r inputs seed steps)
