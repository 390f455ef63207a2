-- The steps that have a line.
use Rattle.std.specs.Prelude.{ℕ, ◌+◌, ◌<◌, ◌≤◌, List, [], ◌∷◌, length}
use Rattle.vst_base.specs.declared.step.Step.{Step}
use Rattle.vst_base.specs.declared.step.Step.TheVariants as step
use Rattle.schedule_text.specs.Printing.{step_text}

-- a step whose number is in range and whose input, if it has one, has a text
abbrev pub IsSpellable : {I : Type 0} → (I → Type 0) → Step I → Type 0
IsSpellable HasText (step.In n i) = (n < 4294967296) × HasText i
IsSpellable HasText (step.Deliver k) = k < 4294967296
IsSpellable HasText (step.Tick n) = n < 4294967296
IsSpellable HasText (step.Dup k) = k < 4294967296
IsSpellable HasText (step.Lose k) = k < 4294967296
IsSpellable HasText (step.Crash n) = n < 4294967296
IsSpellable HasText (step.Reboot n) = n < 4294967296

-- steps that have lines, none of them too long
abbrev pub AreSpellable : {I : Type 0} → (I → Type 0) → (I → List ℕ) → List (Step I) → Type 0
AreSpellable HasText input_text [] = Unit {0}
AreSpellable HasText input_text (s ∷ ss) = IsSpellable HasText s × (length (step_text input_text s) ≤ 4096) × AreSpellable HasText input_text ss

-- steps with the numbers of their lines, from this number on
abbrev pub numbered_steps : {I : Type 0} → ℕ → List (Step I) → List (ℕ × Step I)
numbered_steps n [] = []
numbered_steps n (s ∷ ss) = (n, s) ∷ numbered_steps (n + 1) ss
