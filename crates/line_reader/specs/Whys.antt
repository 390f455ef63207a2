-- Why any line may be refused, whatever it says, and the words of all reasons.
use Rattle.std.specs.Prelude.{ℕ, List, codes, Bool, nat_lt, [], ◌∷◌, length}
use Rattle.line_reader.specs.declared.why.Why.{Why}
use Rattle.line_reader.specs.declared.why.Why.TheVariants as why

-- in the order in which they are tried, where lines have at most this number
abbrev pub line_refusals : ℕ → ℕ → List ℕ → List (Why × Bool)
line_refusals most number line =
    (why.LineTooLong, nat_lt 4096 (length line))
    ∷ (why.TooManyEvents, nat_lt most number)
    ∷ []

abbrev pub why_text : Why → List ℕ
why_text why.LineTooLong = codes "line too long"
why_text why.TooManyEvents = codes "too many events"
why_text why.Header = codes "header"
why_text why.UnknownWord = codes "unknown word"
why_text why.Number = codes "number"
why_text why.Text = codes "text"
why_text why.NotThisNet = codes "not this network"
why_text why.NoSuchNode = codes "no such node"
why_text why.NoInputHere = codes "no input here"
why_text why.NodeDown = codes "node down"
why_text why.NodeUp = codes "node up"
why_text why.NoCopy = codes "no copy"
why_text why.NotFirst = codes "not first"
why_text why.NodeBusy = codes "node busy"
why_text why.NodeIdle = codes "node idle"
why_text why.PairUsed = codes "pair used"
