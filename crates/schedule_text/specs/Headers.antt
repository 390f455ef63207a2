-- The header of a schedule: `schedule 1 <net> <stack> <nodes>`.
use Rattle.std.specs.Prelude.{◌≡◌, ℕ, ◌≤◌, ◌⊎◌, ◌==◌, ◌&&◌, nat_le, List, [], ◌∷◌, ◌++◌, Option, Some, None, option_and_then, if◌then◌else◌, codes}
use Rattle.vst_base.specs.declared.net.Net.{Net}
use Rattle.vst_base.specs.declared.net.Net.TheVariants as net
use Rattle.vst_base.specs.declared.stack.StackId.{StackId}
use Rattle.vst_base.specs.declared.stack.StackRow.{StackRow}
use Rattle.vst_base.specs.Stacks.{rows, stack_word}
use Rattle.std.specs.Fmt.{decimal}
use Rattle.schedule_text.specs.declared.header.Header.{Header}
use Rattle.schedule_text.specs.Words.{number_up_to}

-- the words of networks
abbrev pub net_word : Net → List ℕ
net_word net.One = codes "one"
net_word net.Bag = codes "bag"
net_word net.Dup = codes "dup"
net_word net.Fail = codes "fail"
net_word net.Ord = codes "ord"
net_word net.Loss = codes "loss"
net_word net.Acts = codes "acts"

-- a word and the space after it
abbrev pub spaced : List ℕ → List ℕ
spaced word = word ++ 32 ∷ []

-- a header up to its number of nodes, and a whole one
abbrev pub header_front : Net → StackId → List ℕ
header_front n s = codes "schedule 1 " ++ (spaced (net_word n) ++ spaced (stack_word s))

abbrev pub header_text : Header → List ℕ
header_text h = header_front h.net h.stack ++ decimal h.nodes

-- a header by a pairing, and by one of several
pub record IsBy (r : StackRow) (h : Header) : Type 0 where
  pub net : h.net ≡ r.net
  pub stack : h.stack ≡ r.stack
  pub least : r.least ≤ h.nodes
  pub most : h.nodes ≤ r.most

abbrev pub IsAmong : List StackRow → Header → Type 0
IsAmong [] h = ⊥
IsAmong (r ∷ rs) h = IsBy r h ⊎ IsAmong rs h

-- the headers that there are
abbrev pub IsHeader : Header → Type 0
IsHeader h = IsAmong rows h

-- what stands after a front
abbrev pub strip_prefix : List ℕ → List ℕ → Option (List ℕ)
strip_prefix [] line = Some line
strip_prefix (f ∷ fs) [] = None
strip_prefix (f ∷ fs) (b ∷ bs) = if b == f then strip_prefix fs bs else None

abbrev pub nodes_within : ℕ → ℕ → ℕ → Option ℕ
nodes_within least most n = if nat_le least n && nat_le n most then Some n else None

abbrev pub header_by : StackRow → List ℕ → Option Header
header_by r line =
    option_and_then (λ digits. option_and_then (λ n. option_and_then (λ m. Some (record { net = r.net; stack = r.stack; nodes = m })) (nodes_within r.least r.most n))
    (number_up_to 4294967295 digits)) (strip_prefix (header_front r.net r.stack) line)

abbrev pub or_else : Option Header → Option Header → Option Header
or_else None h = h
or_else (Some g) h = Some g

abbrev pub header_among : List StackRow → List ℕ → Option Header
header_among [] line = None
header_among (r ∷ rs) line = or_else (header_by r line) (header_among rs line)

-- the header that a line is, if it is one: that of the first pairing that it fits
unfoldable pub header_of : List ℕ → Option Header
header_of line = header_among rows line
