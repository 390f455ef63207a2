-- A message of Raft with a round has bytes where the message has, and the round is in range; and eight more than the message at most.
use Rattle.std.specs.Prelude.{ℕ, ◌*◌, ◌≤◌, ◌==◌, Bool, true, false, length, if◌then◌else◌}
use Rattle.std.specs.List.{flat_map}
use Rattle.std.proofs.Common.{arith, length-append}
use Rattle.node_body.specs.CommandLengths.{entries_length}
use Rattle.node_body.specs.declared.commands.TheConstants.{MAX_COMMAND}
use Rattle.raft_reads.specs.Reads.{round_of}
use Rattle.raft_types.specs.Rounds.{ReadMsg, greatest_round}
use Rattle.raft_types.specs.declared.limits.TheConstants.{MAX_ROUND}
use Rattle.raft_types.specs.declared.msg.RaftMsg.{RaftMsg}
use Rattle.raft_types.specs.declared.msg.RaftMsg.TheVariants as msg
use Rattle.wire_fields.specs.ByteLaws.{length-number_bytes}
use Rattle.wire_fields.specs.Formats.{Format}
use Rattle.wire_messages.specs.EntryBytes.{entry}
use Rattle.wire_messages.specs.RaftBytes.{raft_message}
use Rattle.wire_messages.specs.ReadBytes.{read_message}
use Rattle.wired.specs.RaftSending.{HasRead, longest_read}

module _ {C : Type 0} (f : Format C) where
  abbrev in_round : RaftMsg C → ℕ → ReadMsg C
  in_round x round = record { raft = x; round = round }

  pub with_round_fits : (x : RaftMsg C) (round : ℕ) → (raft_message f).Fits x → round ≤ greatest_round x → (read_message f).Fits (in_round x round)
  with_round_fits (msg.RequestVote r) round fits most = (fits, omega (arith, most))
  with_round_fits (msg.Vote v) round fits most = (fits, omega (arith, most))
  with_round_fits (msg.Append a) round fits most =
      ((fits.0.0, (fits.0.1.0, (fits.0.1.1.0, (fits.0.1.1.1.0, ((omega arith, most), fits.0.1.1.1.1))))), fits.1)
  with_round_fits (msg.Appended a) round fits most = (fits, (omega arith, most))

  -- each part of a message that fits
  pub parts_fit : (x : RaftMsg C) (round : ℕ) → (read_message f).Fits (in_round x round) → (raft_message f).Fits x × (round ≤ MAX_ROUND)
  parts_fit (msg.RequestVote r) round fits = (fits.0, omega (arith, fits.1))
  parts_fit (msg.Vote v) round fits = (fits.0, omega (arith, fits.1))
  parts_fit (msg.Append a) round fits =
      (((fits.0.0, (fits.0.1.0, (fits.0.1.1.0, (fits.0.1.1.1.0, fits.0.1.1.1.1.1)))), fits.1), fits.0.1.1.1.1.0.1)
  parts_fit (msg.Appended a) round fits = (fits.0, fits.1.1)

  -- the round with which a node sends a message is in the range of its kind
  pub round_in_range : (own term round : ℕ) (x : RaftMsg C) → own ≤ MAX_ROUND → round ≤ MAX_ROUND → round_of own term round x ≤ greatest_round x
  round_in_range own term round (msg.RequestVote r) few heard = omega arith
  round_in_range own term round (msg.Vote v) few heard = omega arith
  round_in_range own term round (msg.Append a) few heard = few
  round_in_range own term round (msg.Appended a) few heard = go (a.term == term)
    where
      go : (b : Bool) → (if b then round else 0) ≤ MAX_ROUND
      go true = heard
      go false = omega arith

  sized : ((c : C) → f.Fits c → length (f.spell c) ≤ MAX_COMMAND) → (x : RaftMsg C) (round : ℕ) → (read_message f).Fits (in_round x round)
      → length ((read_message f).spell (in_round x round)) ≤ longest_read
  sized short (msg.RequestVote r) round fits = simp (length-append, length-number_bytes) (omega arith)
  sized short (msg.Vote v) round fits = simp (length-append, length-number_bytes) (omega arith)
  sized short (msg.Append a) round fits =
      let few : length a.entries ≤ 8 = fits.0.1.1.1.1.1.0.1 in
      let some : length (flat_map (entry f).spell a.entries) ≤ length a.entries * 2145 = entries_length f short a.entries fits.0.1.1.1.1.1.1.1 in
      simp (length-append, length-number_bytes) (omega (arith, few, some))
  sized short (msg.Appended a) round fits = simp (length-append, length-number_bytes) (omega arith)

  pub read_fits : ((c : C) → f.Fits c → length (f.spell c) ≤ MAX_COMMAND) → (from to : ℕ) (x : ReadMsg C) → HasRead f from to x
      → (read_message f).Fits x × (length ((read_message f).spell x) ≤ longest_read)
  read_fits short from to x has = (has, sized short x.raft x.round has)
