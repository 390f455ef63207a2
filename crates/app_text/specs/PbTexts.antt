-- The outputs of primary-backup, by the texts of the machine's.
use Rattle.std.specs.Prelude.{ℕ, Bool, true, false, List, Option, Some, codes, if◌then◌else◌}
use Rattle.std.specs.Option.{option_map}
use Rattle.std.specs.Str.{bytes_eq}
use Rattle.vst_base.specs.declared.pb_out.PbOut.{PbOut}
use Rattle.vst_base.specs.declared.pb_out.PbOut.TheVariants.{Reply, Redirect}

-- the machine's output, or that the node is not the primary
abbrev pub pb_output_of : {O : Type 0} → (List ℕ → Option O) → List ℕ → Option (PbOut O)
pb_output_of output_of bs = if bytes_eq bs (codes "redirect") then Some Redirect else option_map (λ o. Reply o) (output_of bs)

abbrev pub pb_output_text : {O : Type 0} → (O → List ℕ) → PbOut O → List ℕ
pb_output_text output_text (Reply o) = output_text o
pb_output_text output_text Redirect = codes "redirect"

-- the outputs that answer a command
abbrev pub pb_replies : {O : Type 0} → PbOut O → Bool
pb_replies (Reply o) = true
pb_replies Redirect = false

abbrev pub IsPbOutput : {O : Type 0} → (O → Type 0) → PbOut O → Type 0
IsPbOutput IsOutput (Reply o) = IsOutput o
IsPbOutput IsOutput Redirect = Unit {0}
