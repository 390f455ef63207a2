-- Lines on the error stream that more than one command says.
use Rattle.std.specs.Prelude.{ℕ, List, codes}
use Rattle.schedule_text.specs.Printing.{as_line}

abbrev pub read_failed_line : List ℕ
read_failed_line = as_line (codes "read")

abbrev pub memory_line : List ℕ
memory_line = as_line (codes "memory")
