-- The bytes of a node's datagrams, and sending them, as its device tells it.
use Rattle.std.specs.Prelude.{◌≡◌, ◌≤◌, ℕ, List}
use Rattle.disk.specs.Acts.{Act}
use Rattle.node_device.specs.Faults.{Faults}
use Rattle.node_device.specs.Telling.{Told, told_after}
use Rattle.node_run.specs.Events.{own_heading}
use Rattle.node_run.specs.Settings.{Settings}
use Rattle.outside.specs.declared.device.Address.{Address}
use Rattle.slots.specs.Turns.{Says, datagrams}
use Rattle.wire_codec.specs.Datagrams.{spell_datagram}
use Rattle.wire_codec.specs.declared.kind.Kind.{Kind}
use Rattle.wire_fields.specs.Formats.{Format}
use Rattle.lists.specs.Each.{Each}
use Rattle.lists.specs.Prefixes.{IsPrefix}

-- the bytes of a datagram of the node: of which kind, to whom and with which message
abbrev pub bytes_of : {M : Type 0} → Format M → Settings → Kind → ℕ → M → List ℕ
bytes_of f settings k to message = spell_datagram f (own_heading settings k to) message

-- just these datagrams were sent, or lost in sending, and nothing else was done
pub record HasSaid (said : List (Address × List ℕ)) (before now : Told) : Type 0 where
  pub did : List Act
  pub is : now ≡ told_after before did
  pub says : Each Says did
  pub datagrams : datagrams did ≡ said

-- the same of the first of these, up to some place
pub record HasBegunToSay (said : List (Address × List ℕ)) (before now : Told) : Type 0 where
  pub did : List Act
  pub is : now ≡ told_after before did
  pub says : Each Says did
  pub datagrams : IsPrefix (datagrams did) said

-- no count of faults changed but that of sends, which did not fall
pub record SendsOnly (old new : Faults) : Type 0 where
  pub begin : new.begin ≡ old.begin
  pub receive : new.receive ≡ old.receive
  pub store : new.store ≡ old.store
  pub send : old.send ≤ new.send
