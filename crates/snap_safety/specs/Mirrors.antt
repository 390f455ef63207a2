-- When a node of Raft with free choices, over whole logs, mirrors a node with a snapshot, and its packets mirror this one's.
use Rattle.std.specs.Prelude.{◌≡◌, ℕ, ◌≤◌, Bool, true, false, List, [], ◌++◌, length, take, Option, Some, None, if◌then◌else◌}
use Rattle.std.specs.FinMap as map
use Rattle.vst_base.specs.Machines.{MachineMeaning}
use Rattle.vst_base.specs.Logs as list
use Rattle.vst_base.specs.declared.entry.Entry.{Entry}
use Rattle.raft_clients.specs.Sessions.{AppliedAll, Sessions, applied_all}
use Rattle.raft_commit.specs.Peers.{matched_of}
use Rattle.raft_election.specs.Ballots.{has_vote}
use Rattle.raft_free.specs.Events.{In}
use Rattle.raft_free.specs.Nodes as free
use Rattle.raft_snapshots.specs.Logs.{LogView, last_index}
use Rattle.raft_snapshots.specs.Nodes.{NodeView}
use Rattle.raft_snapshots.specs.Snapshots.{InstallView, Install, Installed, PartView, Plain, SnapMsg, SnapNode, SnapView, Snapshot, Way, place_of}
use Rattle.raft_safety.specs.Mirrors.{free_packet, free_role}

-- a packet of a free run, by its parts
abbrev pub packet : {C : Type 0} → ℕ → ℕ → ℕ → free.Message C → free.Packet C
packet source destination term message = record { source = source; destination = destination; term = term; message = message }

-- these bytes stand after an offset of a whole, and are its last exactly where this says so
pub record IsPiece (whole : List ℕ) (offset : ℕ) (bytes : List ℕ) (done : Bool) : Type 0 where
  pub before : List ℕ
  pub behind : List ℕ
  pub is : before ++ (bytes ++ behind) ≡ whole
  pub at : length before ≡ offset
  pub last : done ≡ true → behind ≡ []
  pub only_last : behind ≡ [] → done ≡ true

-- the leader of a term sent all its entries up to an index, the last of this term, with a commit that it had
pub record SentAll {C : Type 0} (packets : List (free.Packet C)) (from to term index last_term : ℕ) (es : List (Entry C)) : Type 0 where
  pub there : In (packet from to term (free.Append 0 0 es index)) packets
  pub all : length es ≡ index
  pub last : list.last_term es ≡ last_term

module _ {S C O X : Type 0} where
  -- the free node has the whole log: these entries, which are gone here, and those that this node has
  abbrev pub free_node : List (Entry C) → Bool → NodeView S C O X → free.NodeState C
  free_node front is_up s = record {
    is_up = is_up;
    term = s.ballot.term;
    voted = s.ballot.voted;
    log = front ++ s.log.entries;
    role = if is_up then free_role s.role else free.Follower;
    votes = has_vote s.ballot.votes;
    matched = matched_of s.peers;
    commit = s.commit;
    applied = s.applied;
  }

module _ {S C O : Type 0} (m : MachineMeaning S C O) where
  -- from the first state and no sessions on
  abbrev pub all_of : List (Entry C) → AppliedAll S C O
  all_of es = applied_all m m.init map.empty es

  abbrev pub snapshot_of : List (Entry C) → Snapshot S O
  snapshot_of es = record { state = (all_of es).state; sessions = (all_of es).sessions }

module _ {S C O X : Type 0} (m : MachineMeaning S C O) (Own : List (Entry C) → X → Type 0) where
  -- what a node of any kind knows, with the entries that are gone, and with what its kind holds beside
  pub record Holds (front : List (Entry C)) (log : LogView C) (commit applied : ℕ) (machine : S) (sessions : Sessions O)
      (more : X) : Type 0 where
    pub gone : length front ≡ log.base
    pub gone_term : list.last_term front ≡ log.base_term
    pub now : snapshot_of m (take applied (front ++ log.entries)) ≡ record { state = machine; sessions = sessions }
    pub base : log.base ≤ applied
    pub behind : applied ≤ commit
    pub committed : commit ≤ last_index log
    pub own : Own front more

  abbrev pub HoldsNode : List (Entry C) → NodeView S C O X → Type 0
  HoldsNode front s = Holds front s.log s.commit s.applied s.machine s.sessions s.more

module _ {S C O : Type 0} (m : MachineMeaning S C O) (way : Way S C O) where
  -- a piece of a snapshot is mirrored by all the entries that the snapshot holds
  pub record MirrorsInstall (packets : List (free.Packet C)) (from to : ℕ) (q : InstallView) : Type 0 where
    pub entries : List (Entry C)
    pub sent : SentAll packets from to q.term q.index q.last_term entries
    pub piece : IsPiece (way.spell (snapshot_of m entries)) q.offset q.bytes q.done

  -- a message of Raft by itself, and one that wants more of a snapshot by a refusal
  abbrev pub MirrorsMessage : List (free.Packet C) → ℕ → ℕ → SnapMsg C → Type 0
  MirrorsMessage packets from to (Plain r) = In (free_packet from to r) packets
  MirrorsMessage packets from to (Install q) = MirrorsInstall packets from to q
  MirrorsMessage packets from to (Installed a) = In (packet from to a.term (free.Appended false a.index)) packets

  -- what is kept of a snapshot is the beginning of its spelling
  pub record IsPart (packets : List (free.Packet C)) (i : ℕ) (p : PartView) : Type 0 where
    pub from : ℕ
    pub entries : List (Entry C)
    pub sent : SentAll packets from i p.term p.index p.last_term entries
    pub rest : List ℕ
    pub is : p.bytes ++ rest ≡ way.spell (snapshot_of m entries)

  abbrev pub IsKeptPart : List (free.Packet C) → ℕ → Option PartView → Type 0
  IsKeptPart packets i None = Unit {0}
  IsKeptPart packets i (Some p) = IsPart packets i p

  -- its snapshot is of the entries that are gone, the part is of a snapshot that is sent to it, and no place is past the end
  pub record OwnSnapshot (packets : List (free.Packet C)) (i : ℕ) (front : List (Entry C)) (more : SnapView S C O) : Type 0 where
    pub snapshot : snapshot_of m front ≡ more.snapshot
    pub part : IsKeptPart packets i more.part
    pub places : (node : ℕ) → place_of more node ≤ length (way.spell more.snapshot)

  abbrev pub SnapHolds : List (free.Packet C) → ℕ → List (Entry C) → SnapNode S C O → Type 0
  SnapHolds packets i front s = HoldsNode m (OwnSnapshot packets i) front s

  -- a free node mirrors a node, which is up or not
  pub record MirrorsNode (packets : List (free.Packet C)) (i : ℕ) (is_up : Bool) (s : SnapNode S C O) (x : free.NodeState C) : Type 0 where
    pub front : List (Entry C)
    pub is : x ≡ free_node front is_up s
    pub holds : SnapHolds packets i front s
