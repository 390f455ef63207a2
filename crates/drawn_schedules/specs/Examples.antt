-- What the definitions are computed on.
use Rattle.std.specs.Prelude.{ℕ, List, None, Some, codes}
use Rattle.commands.specs.Seen.{Run, SinkSeen}

-- a schedule of which no line is refused, and one whose line 3 is, since no such packet was sent
abbrev pub taken_text : List ℕ
taken_text = codes "schedule 1 bag lock 2\nin 1 lock\ndeliver 0\n"

abbrev pub refused_text : List ℕ
refused_text = codes "schedule 1 bag lock 2\nin 1 lock\ndeliver 7\n"

-- a sink that holds this, on which so many writes failed and so many wanted memory
abbrev pub sink : List ℕ → ℕ → ℕ → SinkSeen
sink written faults wants = record { written = Some written; faults = faults; wants = wants }

-- this run, over an input that does not tell what it holds
abbrev pub untold : Run → Run
untold r = record r { before = record r.before { input = record r.before.input { left = None } } }
