-- What nodes do, for worked rows.
use Rattle.std.specs.Prelude.{ℕ, true, List, [], ◌∷◌, ◌++◌, Option, None, Some}
use Rattle.handler_trait.specs.Echo.{echo, echo_recovery}
use Rattle.linearizability.specs.Examples.{asks}
use Rattle.node_histories.specs.Histories.{Asked, Fired, Heard, History, own}
use Rattle.raft_safety.specs.Examples.{five, sent_first}
use Rattle.raft_types.specs.Messages.{KeptView}
use Rattle.raft_types.specs.declared.client.RaftInput.{RaftInput}
use Rattle.raft_types.specs.declared.client.RaftOut.{RaftOut}
use Rattle.raft_types.specs.declared.client.RaftOut.TheVariants as told
use Rattle.raft_types.specs.declared.msg.RaftMsg.{RaftMsg}
use Rattle.raft_types.specs.declared.msg.RaftMsg.TheVariants as msg
use Rattle.raft_xform.specs.Raft.{raft, raft_recovery}
use Rattle.vst_base.specs.Examples.{counter}
use Rattle.vst_base.specs.LogExamples.{noop}
use Rattle.cluster_histories.specs.Alone.{DoTheirParts, DoesItsPart}
use Rattle.cluster_histories.specs.ClusterLaws.{RaftDeeds, RaftMoves}
use Rattle.cluster_histories.specs.DeedLaws.{MayBeKept, MayOpenAfter}
use Rattle.cluster_histories.specs.Deeds.{AllStoreFirst, Answered, Decided, Deed, Deeds, Opened, Said, StoresFirst}
use Rattle.cluster_histories.specs.Moves.{AreAllowed, ComesTo, Keeps, Move, Moves, Sends, StartsAgain, Tells, counted_by}

-- three nodes of the small application of handler_trait, which keep half of their state
abbrev pub AreAllowedAtThree : Moves ℕ ℕ ℕ → Type 0
AreAllowedAtThree moves = AreAllowed (echo 3) echo_recovery moves

abbrev pub DoesItsPartAtThree : ℕ → List (Move ℕ ℕ ℕ) → Type 0
DoesItsPartAtThree n moves = DoesItsPart (echo 3) echo_recovery n moves

abbrev pub DoTheirPartsAtThree : Moves ℕ ℕ ℕ → Type 0
DoTheirPartsAtThree moves = DoTheirParts (echo 3) echo_recovery moves

abbrev pub StoresFirstAtThree : ℕ → List (Deed ℕ ℕ ℕ ℕ) → Type 0
StoresFirstAtThree n deeds = StoresFirst (echo 3) echo_recovery n deeds

abbrev pub AllStoreFirstAtThree : Deeds ℕ ℕ ℕ ℕ → Type 0
AllStoreFirstAtThree deeds = AllStoreFirst (echo 3) echo_recovery deeds

abbrev pub MayOpenAtThree : ℕ → List (Deed ℕ ℕ ℕ ℕ) → ℕ → Type 0
MayOpenAtThree n deeds k = MayOpenAfter (echo 3) echo_recovery n deeds k

abbrev pub MayBeKeptAtThree : Moves ℕ ℕ ℕ → ℕ → ℕ → Type 0
MayBeKeptAtThree moves n k = MayBeKept (echo 3) echo_recovery moves n k

abbrev pub counted_at_three : Moves ℕ ℕ ℕ → History ℕ ℕ
counted_at_three moves = counted_by moves

-- node 1 is asked for 5, keeps it, and sends it to node 0
abbrev pub comes_to_5 : ℕ × Move ℕ ℕ ℕ
comes_to_5 = (1, ComesTo (Asked 5))

abbrev pub keeps_5 : ℕ × Move ℕ ℕ ℕ
keeps_5 = (1, Keeps)

abbrev pub sends_5 : ℕ × Move ℕ ℕ ℕ
sends_5 = (1, Sends 0 5)

-- node 1 is asked, keeps it, tells its client and node 0; node 2 is asked and stops before it keeps it; node 0 hears node 1
abbrev pub one_is_lost : Moves ℕ ℕ ℕ
one_is_lost =
    comes_to_5 ∷ (2, ComesTo (Asked 7)) ∷ keeps_5 ∷ (1, Tells 5) ∷ (2, StartsAgain) ∷ sends_5
    ∷ (0, ComesTo (Heard 1 5)) ∷ (1, StartsAgain) ∷ (0, Keeps) ∷ []

-- node 1 sends again what it sent before its timer fired and it started again
abbrev pub sent_again : Moves ℕ ℕ ℕ
sent_again =
    comes_to_5 ∷ keeps_5 ∷ sends_5 ∷ (1, ComesTo Fired) ∷ (1, Keeps) ∷ (1, StartsAgain) ∷ sends_5 ∷ (1, Sends 1 9) ∷ (1, Tells 40) ∷ []

-- node 1 is asked, answers and starts again; and is asked again, and stops before that is stored
abbrev pub one_is_not_stored : Deeds ℕ ℕ ℕ ℕ
one_is_not_stored =
    (1, Decided (Asked 2)) ∷ (1, Answered 2) ∷ (1, Opened 1) ∷ (1, Decided (Asked 20)) ∷ (1, Opened 1) ∷ []

-- three nodes of a counter's cluster
abbrev pub NodeDoesItsPart : ℕ → RaftMoves ℕ ℕ → Type 0
NodeDoesItsPart n moves = DoesItsPart (raft 3 counter) (raft_recovery counter) n (own n moves)

abbrev pub ClusterDoesItsPart : RaftMoves ℕ ℕ → Type 0
ClusterDoesItsPart moves = DoTheirParts (raft 3 counter) (raft_recovery counter) moves

abbrev pub RaftDeed : Type 0
RaftDeed = Deed (RaftInput ℕ) (RaftOut ℕ) (RaftMsg ℕ) (KeptView ℕ)

abbrev pub NodeStoresFirst : ℕ → List RaftDeed → Type 0
NodeStoresFirst n deeds = StoresFirst (raft 3 counter) (raft_recovery counter) n deeds

abbrev pub ClusterStoresFirst : RaftDeeds ℕ ℕ → Type 0
ClusterStoresFirst deeds = AllStoreFirst (raft 3 counter) (raft_recovery counter) deeds

-- areas of a node in this term with this vote and no log
abbrev pub areas : ℕ → Option ℕ → KeptView ℕ
areas term voted = record { term = term; voted = voted; log = [] }

abbrev pub asks_for_votes : RaftMsg ℕ
asks_for_votes = msg.RequestVote (record { term = 1; last_index = 0; last_term = 0 })

abbrev pub votes : RaftMsg ℕ
votes = msg.Vote (record { term = 1; granted = true })

abbrev pub has_both : RaftMsg ℕ
has_both = msg.Appended (record { term = 1; ok = true; index = 2 })

-- node 0 asks a node for its vote
abbrev pub is_asked_by_0 : RaftDeed
is_asked_by_0 = Decided (Heard 0 asks_for_votes)

-- node 1 votes for node 0, once it keeps its vote
abbrev pub elects : RaftMoves ℕ ℕ
elects =
    (0, ComesTo Fired) ∷ (0, Keeps) ∷ (0, Sends 1 asks_for_votes) ∷ (1, ComesTo (Heard 0 asks_for_votes)) ∷ (1, Keeps)
    ∷ (1, Sends 0 votes) ∷ (0, ComesTo (Heard 1 votes)) ∷ (0, Keeps) ∷ []

-- client 7 asks node 0, and client 9 asks node 2, which stops before it keeps that
abbrev pub asked : RaftMoves ℕ ℕ
asked =
    elects
    ++ (0, ComesTo (Asked (asks 7 1 5))) ∷ (2, ComesTo (Asked (asks 9 1 3))) ∷ (0, Keeps) ∷ (2, StartsAgain)
    ∷ (0, Sends 1 (msg.Append sent_first)) ∷ (1, ComesTo (Heard 0 (msg.Append sent_first))) ∷ []

-- node 1 keeps the entry before it says so, and node 0 tells the client after that, once and again
abbrev pub told_twice : RaftMoves ℕ ℕ
told_twice =
    asked
    ++ (1, Keeps) ∷ (1, Sends 0 has_both) ∷ (0, ComesTo (Heard 1 has_both)) ∷ (0, Keeps) ∷ (0, Tells (told.Reply 7 1 0))
    ∷ (1, StartsAgain) ∷ (0, Tells (told.Reply 7 1 0)) ∷ []

-- the same as deeds, where node 1 opens as after the entry, and node 2 as before its vote, of which nobody heard
abbrev pub tells_as_deeds : RaftDeeds ℕ ℕ
tells_as_deeds =
    (0, Decided Fired) ∷ (0, Said 1 asks_for_votes) ∷ (0, Said 2 asks_for_votes) ∷ (1, is_asked_by_0) ∷ (2, is_asked_by_0)
    ∷ (2, Opened (areas 0 None)) ∷ (1, Said 0 votes) ∷ (0, Decided (Heard 1 votes)) ∷ (0, Decided (Asked (asks 7 1 5)))
    ∷ (2, Decided (Asked (asks 9 1 3))) ∷ (0, Said 1 (msg.Append sent_first)) ∷ (1, Decided (Heard 0 (msg.Append sent_first)))
    ∷ (1, Said 0 has_both) ∷ (0, Decided (Heard 1 has_both)) ∷ (0, Answered (told.Reply 7 1 0))
    ∷ (1, Opened (record { term = 1; voted = Some 0; log = noop 1 ∷ five 1 0 ∷ [] })) ∷ []
