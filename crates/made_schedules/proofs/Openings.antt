-- The text of a made schedule opens with its header, as computing shows for each stack. The last equation stands for each but the first.
use Rattle.std.specs.Prelude.{◌≡◌, ℕ, List, ◌++◌, refl}
use Rattle.std.specs.Fmt.{digits}
use Rattle.line_reader.specs.Lines.{lines_of}
use Rattle.schedule_replay.specs.Explained.{most_lines}
use Rattle.schedule_text.specs.Headers.{header_of, header_text}
use Rattle.schedule_text.specs.Printing.{as_line}
use Rattle.schedule_text.specs.Schedules.{Opened, opening}
use Rattle.vst_base.specs.declared.stack.StackId.{StackId}
use Rattle.vst_base.specs.declared.stack.StackId.TheVariants as stack
use Rattle.made_schedules.specs.MadeTexts.{made_header}

pub opens : (i : StackId) (rest : List ℕ) → opening most_lines 1 (lines_of (as_line (header_text (made_header i)) ++ rest)) ≡ Opened (made_header i) 2 (lines_of rest)
unfolding digits header_of
opens stack.Lock rest = refl
opens _ rest = refl
