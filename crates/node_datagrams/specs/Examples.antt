-- A device that had read its clock, and then said something to node 1.
use Rattle.std.specs.Prelude.{ℕ, List, [], ◌∷◌}
use Rattle.disk.specs.Acts.{Act, Now, Sent, SendFailed}
use Rattle.disk.specs.Disk.{settled}
use Rattle.node_device.specs.Telling.{Told, told_after}
use Rattle.node_run.specs.Examples.{at_port, datagram, number_of_eight, votes}
use Rattle.outside.specs.declared.device.Address.{Address}
use Rattle.node_datagrams.specs.Saying.{HasBegunToSay, HasSaid}

abbrev pub before : Told
before = record { acts = Now 0 ∷ []; disk = record { slot0 = settled []; slot1 = settled []; selector = settled [] } }

-- a vote in term 1, given or not
abbrev pub vote : ℕ → List ℕ
vote granted = datagram 5 0 0 1 (votes (number_of_eight 1) granted)

abbrev pub sent : ℕ → Act
sent granted = Sent (at_port 7001) (vote granted)

abbrev pub lost : ℕ → Act
lost granted = SendFailed (at_port 7001) (vote granted)

-- both of these, in order
abbrev pub both : List (Address × List ℕ)
both = (at_port 7001, vote 0) ∷ (at_port 7001, vote 1) ∷ []

abbrev pub has_said : List Act → Type 0
has_said acts = HasSaid both before (told_after before acts)

abbrev pub has_begun : List Act → Type 0
has_begun acts = HasBegunToSay both before (told_after before acts)
