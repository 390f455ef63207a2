-- Each event of a node with snapshots is a list of events with free choices over its whole log, and keeps what the node holds.
use Rattle.std.proofs.Common.{◌≡◌, ◌≢◌, ℕ, ◌<◌, ◌≤◌, false, List, [], refl, ap, ◌∙◌, arith}
use Rattle.std.proofs.lemmas.List.{take_at}
use Rattle.vst_base.specs.Machines.{MachineMeaning}
use Rattle.vst_base.specs.Elections.{nobody}
use Rattle.vst_base.specs.declared.entry.Entry.{Entry}
use Rattle.vst_base.specs.declared.what.What.TheVariants.{Noop, Request}
use Rattle.raft_election.proofs.Sets.{votes_are_sets}
use Rattle.raft_free.specs.Events.{Allowed, Reboot, becomes}
use Rattle.raft_free.specs.Nodes as free
use Rattle.raft_types.specs.declared.client.RaftInput.{RaftInput}
use Rattle.raft_snapshots.specs.Electing.{heard}
use Rattle.raft_snapshots.specs.Snapshots.{Install, Installed, Plain, SnapMsg, SnapNode, Way, by_snap_message, fresh, snap, snap_first, snap_input, snap_keep, snap_message, snap_reboot, snap_term_of, snap_timeout}
use Rattle.raft_safety.proofs.Peers.{matched_new}
use Rattle.snap_safety.specs.Mirrors.{MirrorsMessage, SnapHolds, free_node, snapshot_of}
use Rattle.snap_safety.proofs.Installing.{install_turned, installed_turned}
use Rattle.snap_safety.proofs.Lawful.{At}
use Rattle.snap_safety.proofs.KindLaws.{Knows, Law, nowhere, up}
use Rattle.snap_safety.proofs.Handling.{hears, raft_goes}
use Rattle.snap_safety.proofs.Snapping.{IsKnown, shows_term, snap_law}
use Rattle.snap_safety.proofs.Refining.{Came, Turned, input_turned, tick_turned}

module _ {S C O : Type 0} (m : MachineMeaning S C O) (way : Way S C O) (n i : ℕ) (P : Entry C → Type 0) (packets : List (free.Packet C)) (bound : ℕ) (idle : (term : ℕ) → P (record { term = term; what = Noop })) where
  abbrev pub its : Law m (snap way) n i P
  its = snap_law m way n i P packets

  -- a node that is up, at the start of an event
  begins : (front : List (Entry C)) (s : SnapNode S C O) → SnapHolds m way packets i front s → Knows n s → s.applied ≤ bound → Came its packets bound idle (up front s) front (fresh s)
  begins front s h k le = record {
    path = nowhere its packets refl;
    holds = record {
      gone = h.gone;
      gone_term = h.gone_term;
      now = h.now;
      base = h.base;
      behind = h.behind;
      committed = h.committed;
      own = record { snapshot = h.own.snapshot; part = h.own.part; places = h.own.places };
    };
    knows = k;
    nothing = refl;
    within = le;
  }

  pub input_goes : (front : List (Entry C)) (s : SnapNode S C O) (q : RaftInput C) → SnapHolds m way packets i front s → Knows n s → s.applied ≤ bound →
      P (record { term = s.ballot.term; what = Request q.client q.request i q.cmd }) → Turned its packets bound idle (up front s) (snap_input way m n i s q)
  input_goes front s q h k le p = input_turned its packets bound idle (up front s) front (fresh s) q (begins front s h k le) p

  pub timeout_goes : (front : List (Entry C)) (s : SnapNode S C O) → SnapHolds m way packets i front s → Knows n s → s.applied ≤ bound →
      Turned its packets bound idle (up front s) (snap_timeout way m n i s)
  timeout_goes front s h k le = tick_turned its packets bound idle (up front s) front (fresh s) (begins front s h k le)

  snap_goes : (x : free.NodeState C) (front : List (Entry C)) (s : SnapNode S C O) (from : ℕ) (message : SnapMsg C) → Came its packets bound idle x front s → At n i packets (up front s) →
      from < n → from ≢ i → snap_term_of message ≤ s.ballot.term → IsKnown bound message → MirrorsMessage m way packets from i message →
      Turned its packets bound idle x (by_snap_message way m n i s from message)
  snap_goes x front s from (Plain r) c there below ne le most came = raft_goes its packets bound idle x front s from r c there below ne le came
  snap_goes x front s from (Install q) c there below ne le most came = install_turned m way n i P packets bound idle x front s from q c (below, ne) there le most came
  snap_goes x front s from (Installed a) c there below ne le most came = installed_turned m way n i P packets bound idle x front s from a c (below, ne)

  pub message_goes : (front : List (Entry C)) (s : SnapNode S C O) (from : ℕ) (message : SnapMsg C) → SnapHolds m way packets i front s → Knows n s → s.applied ≤ bound → At n i packets (up front s) →
      from < n → from ≢ i → IsKnown bound message → MirrorsMessage m way packets from i message → Turned its packets bound idle (up front s) (snap_message way m n i s from message)
  message_goes front s from message h k le there below ne most came =
      let shown = shows_term m way packets from i message came in
      let r = hears its packets bound idle front (fresh s) from (snap_term_of message) shown.shown (begins front s h k le) there shown.there in
      snap_goes (up front s) front (heard (snap_term_of message) (fresh s)) from message r.came r.there below ne r.reached most came

module _ {S C O : Type 0} (m : MachineMeaning S C O) (way : Way S C O) where
  -- a node that starts again holds what its snapshot and its log hold
  pub reboot_holds : (packets : List (free.Packet C)) (i : ℕ) (front : List (Entry C)) (s : SnapNode S C O) → SnapHolds m way packets i front s →
      SnapHolds m way packets i front (snap_reboot (snap_keep s))
  reboot_holds packets i front s h = record {
    gone = h.gone;
    gone_term = h.gone_term;
    now = ap (snapshot_of m) (take_at front s.log.entries s.log.base h.gone) ∙ h.own.snapshot;
    base = omega arith;
    behind = omega arith;
    committed = omega arith;
    own = record { snapshot = h.own.snapshot; part = tt; places = λ node. omega arith };
  }

  -- and is what free choices make of a node that starts again with so much committed and applied
  pub reboot_is : (front : List (Entry C)) (s : SnapNode S C O) (i : ℕ) →
      up front (snap_reboot (snap_keep s)) ≡ becomes (free_node front false s) (Reboot i s.log.base s.log.base)
  reboot_is front s i =
      ap (λ f. record (up front (snap_reboot (snap_keep s))) { votes = f }) votes_are_sets.none
      ∙ ap (λ f. record (up front (snap_reboot (snap_keep s))) { votes = nobody; matched = f }) (matched_new 0 0)

  pub reboot_allowed : (n : ℕ) (packets : List (free.Packet C)) (i : ℕ) (front : List (Entry C)) (s : SnapNode S C O) → SnapHolds m way packets i front s →
      Allowed n packets (free_node front false s) (Reboot i s.log.base s.log.base)
  reboot_allowed n packets i front s h = (refl, omega (arith, h.base, h.behind), omega arith)

  -- and a node that starts for the first time
  pub first_holds : (packets : List (free.Packet C)) (i : ℕ) → SnapHolds m way packets i [] (snap_first m)
  first_holds packets i = record {
    gone = refl;
    gone_term = refl;
    now = refl;
    base = omega arith;
    behind = omega arith;
    committed = omega arith;
    own = record { snapshot = refl; part = tt; places = λ node. omega arith };
  }

  pub first_is : up [] (snap_first m) ≡ free.first_node C
  first_is =
      ap (λ f. record (up {S = S} {O = O} [] (snap_first m)) { votes = f }) votes_are_sets.none
      ∙ ap (λ f. record (up {S = S} {O = O} [] (snap_first m)) { votes = nobody; matched = f }) (matched_new 0 0)
