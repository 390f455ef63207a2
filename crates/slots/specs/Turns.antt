-- The acts of a node's turn by kind: it hears, saves, and then says.
use Rattle.std.specs.Prelude.{ℕ, List, [], ◌∷◌}
use Rattle.outside.specs.declared.device.Address.{Address}
use Rattle.disk.specs.Acts.{Act, Now, Took, Quiet, ReceiveFailed, Sent, SendFailed, Wrote, Cut, Synced}

abbrev pub Hears : Act → Type 0
Hears (Now ms) = Unit {0}
Hears (Took wait from bytes) = Unit {0}
Hears (Quiet wait) = Unit {0}
Hears (ReceiveFailed wait) = Unit {0}
Hears act = ⊥

abbrev pub Says : Act → Type 0
Says (Sent to bytes) = Unit {0}
Says (SendFailed to bytes) = Unit {0}
Says act = ⊥

abbrev pub OnAreas : Act → Type 0
OnAreas (Wrote area at bytes) = Unit {0}
OnAreas (Cut area len) = Unit {0}
OnAreas (Synced area) = Unit {0}
OnAreas act = ⊥

-- what was sent, or lost in sending
abbrev pub datagrams : List Act → List (Address × List ℕ)
datagrams [] = []
datagrams (Sent to bytes ∷ acts) = (to, bytes) ∷ datagrams acts
datagrams (SendFailed to bytes ∷ acts) = (to, bytes) ∷ datagrams acts
datagrams (act ∷ acts) = datagrams acts
