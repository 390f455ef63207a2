-- The messages of Raft, for each kind.
use Rattle.std.proofs.Common.{◌≡◌, ◌≢◌, ℕ, ◌<◌, ◌≤◌, Bool, true, false, None, List, [], ltb, cond, refl, arith}
use Rattle.std.proofs.lemmas.Bool.{false≢true, ltb-false, ltb-true}
use Rattle.vst_base.specs.Machines.{MachineMeaning}
use Rattle.vst_base.specs.declared.entry.Entry.{Entry}
use Rattle.vst_base.specs.declared.what.What.TheVariants.{Noop}
use Rattle.raft_free.specs.Events.{Allowed, Event, In, Learn}
use Rattle.raft_free.specs.Nodes as free
use Rattle.raft_types.specs.Terms.{term_of}
use Rattle.raft_types.specs.declared.msg.RaftMsg.{RaftMsg}
use Rattle.raft_types.specs.declared.msg.RaftMsg.TheVariants as msg
use Rattle.raft_snapshots.specs.Electing.{heard}
use Rattle.raft_safety.specs.Mirrors.{free_packet}
use Rattle.raft_xform.specs.declared.role.Role.TheVariants.{Follower}
use Rattle.raft_snapshots.specs.Nodes.{Kind, NodeView}
use Rattle.raft_snapshots.specs.Raft.{by_raft_message}
use Rattle.snap_safety.specs.Mirrors.{packet}
use Rattle.snap_safety.proofs.Acting.{Kept}
use Rattle.snap_safety.proofs.Answering.{appended_turned}
use Rattle.snap_safety.proofs.Appending.{append_turned}
use Rattle.snap_safety.proofs.KindLaws.{Law, by_one, on, up}
use Rattle.snap_safety.proofs.Lawful.{At, at_more}
use Rattle.snap_safety.proofs.Refining.{Came, Turned, request_turned, vote_turned}

module _ {S C O X M : Type 0} {m : MachineMeaning S C O} {kind : Kind S C O X M} {n i : ℕ} {P : Entry C → Type 0} (law : Law m kind n i P) (packets : List (free.Packet C)) (bound : ℕ)
    (idle : (term : ℕ) → P (record { term = term; what = Noop })) where
  -- the node has heard of a term
  pub record Hears (x : free.NodeState C) (front : List (Entry C)) (term : ℕ) (t : NodeView S C O X) : Type 0 where
    pub came : Came law packets bound idle x front t
    pub there : At n i packets (up front t)
    pub reached : term ≤ t.ballot.term

  pub hears : (front : List (Entry C)) (s : NodeView S C O X) (from term : ℕ) (shown : free.Message C) → Came law packets bound idle (up front s) front s → At n i packets (up front s) →
      In (packet from i term shown) packets → Hears (up front s) front term (heard term s)
  hears front s from term shown c there here = go (ltb s.ballot.term term) refl
    where
      learned : NodeView S C O X
      learned = record s { role = Follower; ballot = record s.ballot { term = term; voted = None } }

      event : Event C
      event = Learn i (packet from i term shown)

      go : (b : Bool) → ltb s.ballot.term term ≡ b → Hears (up front s) front term (cond b learned s)
      go true e =
          let ok : (sent : List (free.Packet C)) → Kept packets sent → Allowed n sent (up front s) event = λ sent k. (refl, k _ here, refl, ltb-true _ _ e) in
          record {
            came = record {
              path = on law packets {out = []} c.path (by_one law packets event (refl, tt) ok refl);
              holds = c.holds;
              knows = λ l. absurd (false≢true l);
              nothing = c.nothing;
              within = c.within;
            };
            there = at_more there event refl (ok packets (λ p z. z));
            reached = omega arith;
          }
      go false e = record { came = c; there = there; reached = ltb-false _ _ e }

  pub raft_goes : (x : free.NodeState C) (front : List (Entry C)) (s : NodeView S C O X) (from : ℕ) (message : RaftMsg C) → Came law packets bound idle x front s → At n i packets (up front s) →
      from < n → from ≢ i → term_of message ≤ s.ballot.term → In (free_packet from i message) packets → Turned law packets bound idle x (by_raft_message kind m n i s from message)
  raft_goes x front s from (msg.RequestVote r) c there below ne le came = request_turned law packets bound idle x front s from r c (below, ne) came
  raft_goes x front s from (msg.Vote v) c there below ne le came = vote_turned law packets bound idle x front s from v c came
  raft_goes x front s from (msg.Append a) c there below ne le came = append_turned law packets bound idle x front s from a c (below, ne) there le came
  raft_goes x front s from (msg.Appended a) c there below ne le came = appended_turned law packets bound idle x front s from a c below ne came
