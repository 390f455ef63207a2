-- What reading a text answers.
use Rattle.std.specs.Prelude.{◌≡◌, Option, None, Some, IsSome, Result, Ok, Err}
use Rattle.app_text.specs.declared.text.TextFault.{TextFault}
use Rattle.app_text.specs.declared.text.TextFault.TheVariants.{NotText, Memory}

-- by the value that the text spells: that value, or NotText exactly where there is none
abbrev pub Reads : {V : Type 0} → Result V TextFault → Option V → Type 0
Reads (Ok v) spelled = spelled ≡ Some v
Reads (Err NotText) spelled = spelled ≡ None
Reads (Err Memory) spelled = IsSome spelled
