-- What a leader does with the answer to its entries is a list of events with free choices.
use Rattle.std.proofs.Common.{◌≡◌, ◌≢◌, ℕ, suc, ◌<◌, ◌≤◌, Bool, true, false, ◌&&◌, List, [], ◌∷◌, length, eqb, ltb, leb, cond, set, refl, ap, ◌∙◌, arith}
use Rattle.std.proofs.lemmas.Bool.{and_parts, eqb-true, leb-true, ltb-true}
use Rattle.std.proofs.lemmas.List.{get_or-map, length-set}
use Rattle.vst_base.specs.Machines.{MachineMeaning}
use Rattle.vst_base.specs.declared.entry.Entry.{Entry}
use Rattle.vst_base.specs.declared.what.What.TheVariants.{Noop}
use Rattle.raft_commit.specs.Peers.{PeerView, is_news, is_refusal, matched_of, new_peer, peer_after}
use Rattle.raft_commit.specs.declared.peer.Moved.{Moved}
use Rattle.raft_commit.specs.declared.peer.Moved.TheVariants as moves
use Rattle.raft_free.specs.Events.{In, Match}
use Rattle.raft_free.specs.Nodes as free
use Rattle.raft_types.specs.Messages.{AppendedView}
use Rattle.raft_types.specs.declared.msg.RaftMsg.TheVariants as msg
use Rattle.raft_snapshots.specs.Applying.{settled}
use Rattle.raft_snapshots.specs.Logs.{last_index}
use Rattle.raft_safety.specs.Mirrors.{free_packet}
use Rattle.raft_snapshots.specs.Nodes.{Kind, NodeView, RaftEffect, stays}
use Rattle.raft_xform.specs.Nodes.{is_leader, peer_at}
use Rattle.raft_snapshots.specs.Replicating.{known, moved_by, on_appended, on_moved}
use Rattle.raft_snapshots.specs.Sending.{says_rest}
use Rattle.raft_snapshots.proofs.Fronts.{whole_length}
use Rattle.raft_safety.proofs.Peers.{matched_same, matched_set}
use Rattle.snap_safety.specs.Mirrors.{HoldsNode}
use Rattle.snap_safety.proofs.Catching.{Settles, knows_still, settle}
use Rattle.snap_safety.proofs.KindLaws.{Knows, KnowsPeers, Law, Moves, by_one, gone, leads_true, nowhere, on, up}
use Rattle.snap_safety.proofs.Peers.{next_set}
use Rattle.snap_safety.proofs.Refining.{Came, Turned, sends_it, still}
use Rattle.snap_safety.proofs.Telling.{AreFit, fit_none, fit_one}

module _ {S C O X M : Type 0} {m : MachineMeaning S C O} {kind : Kind S C O X M} {n i : ℕ} {P : Entry C → Type 0} (law : Law m kind n i P) (packets : List (free.Packet C)) (bound : ℕ) (idle : (term : ℕ) → P (record { term = term; what = Noop })) where
  moved_turned : (x : free.NodeState C) (front : List (Entry C)) (s : NodeView S C O X) (from : ℕ) (a : AppendedView) → Came law packets bound idle x front s →
      from < n → from ≢ i → is_leader s.role ≡ true → a.term ≡ s.ballot.term → In (free_packet from i (msg.Appended a)) packets →
      Turned law packets bound idle x (on_moved kind m n i (known s from a) from (moved_by s from a))
  moved_turned x front s from a c below ne l t came = by_answer a.ok refl
    where
      h : HoldsNode m law.Own front s
      h = c.holds

      p : PeerView
      p = peer_at s.peers from

      ps : KnowsPeers n (last_index s.log) s.peers
      ps = c.knows l

      known_by : Moved → NodeView S C O X
      known_by v = record s { peers = set s.peers from (peer_after p a.index v) }

      inside : from < length s.peers
      inside = omega (arith, ps.each)

      knows_by : (v : Moved) → (peer_after p a.index v).next ≤ suc (last_index s.log) → Knows n (known_by v)
      knows_by v le q = record {
        each = length-set s.peers from (peer_after p a.index v) ∙ ps.each;
        next = next_set s.peers from (peer_after p a.index v) (suc (last_index s.log)) inside le ps.next;
      }

      -- nothing is noted
      same : (v : Moved) → (peer_after p a.index v).matched ≡ p.matched → (peer_after p a.index v).next ≤ suc (last_index s.log) → Came law packets bound idle x front (known_by v)
      same v e le = record {
        path = on law packets {out = []} c.path
            (nowhere law packets (ap (λ f. record (up front s) { matched = f }) (matched_same s.peers from (peer_after p a.index v) inside e)));
        holds = h;
        knows = knows_by v le;
        nothing = c.nothing;
        within = c.within;
      }

      notes : a.ok ≡ true → p.matched < a.index → a.index ≤ last_index s.log → Came law packets bound idle x front (known_by moves.Raised)
      notes ok more le = record {
        path = on law packets {out = []} c.path
            (by_one law packets (Match i from a.index) (refl, tt)
            (λ sent k. (refl, rw (← t, ← ok) (k _ came), leads_true _ l, less, omega (arith, le, whole_length front s.log (gone law packets front s h))))
            (ap (λ f. record (up front s) { matched = f }) (matched_set s.peers from (peer_after p a.index moves.Raised) inside)));
        holds = h;
        knows = knows_by moves.Raised (omega (arith, le));
        nothing = c.nothing;
        within = c.within;
      }
        where
          less : matched_of s.peers from < a.index
          less = rw (get_or-map (λ (q : PeerView). q.matched) s.peers from (new_peer 0) 0 inside) more

      raised : (b : Bool) → is_news p a.index (last_index s.log) ≡ b → a.ok ≡ true →
          Turned law packets bound idle x (on_moved kind m n i (known_by (cond b moves.Raised moves.Nothing)) from (cond b moves.Raised moves.Nothing))
      raised false e ok = still law packets bound idle x front (known_by moves.Nothing) (same moves.Nothing refl (ps.next from))
      raised true e ok = record {
        after = r.after;
        does = on law packets {out = []} r.does rest;
        holds = r.holds;
        knows = k;
        noted = record { just = r.noted.just; noted = r.noted.noted; long = r.noted.long; from = omega (arith, r.noted.from, c.within); is = r.noted.is };
        told = r.told;
        known = rest_known (leb (peer_at u.peers from).next (last_index u.log));
      }
        where
          q : (ltb p.matched a.index ≡ true) × (leb a.index (last_index s.log) ≡ true)
          q = and_parts (ltb p.matched a.index) (leb a.index (last_index s.log)) e

          d : Came law packets bound idle x front (known_by moves.Raised)
          d = notes ok (ltb-true _ _ q.0) (leb-true _ _ q.1)

          out : RaftEffect S C O X M
          out = settled kind m n i (known_by moves.Raised)

          u : NodeView S C O X
          u = out.state

          r : Settles law packets x (known_by moves.Raised) out
          r = settle law packets front (known_by moves.Raised) d.holds l x d.path

          k : Knows n u
          k = knows_still law packets (known_by moves.Raised) out r d.knows

          rest_known : (b : Bool) → AreFit (law.Fits u.applied) n i (cond b ((from, kind.says u from) ∷ []) [])
          rest_known true = fit_one (law.Fits u.applied) n i from _ (below, ne) (law.says_fits r.after u r.holds from)
          rest_known false = fit_none (law.Fits u.applied) n i

          rest : Moves law packets (up r.after u) (up r.after u) (says_rest kind u from)
          rest = go (leb (peer_at u.peers from).next (last_index u.log))
            where
              go : (b : Bool) → Moves law packets (up r.after u) (up r.after u) (cond b ((from, kind.says u from) ∷ []) [])
              go true = λ sent kept. law.says r.after u r.holds (ap is_leader r.role ∙ l) k from ne sent
              go false = nowhere law packets refl

      back : (b : Bool) → is_refusal p a.index ≡ b →
          Turned law packets bound idle x (on_moved kind m n i (known_by (cond b moves.Back moves.Nothing)) from (cond b moves.Back moves.Nothing))
      back false e = still law packets bound idle x front (known_by moves.Nothing) (same moves.Nothing refl (ps.next from))
      back true e =
          let q = and_parts (eqb (suc a.index) p.next) (ltb p.matched a.index) e in
          let d = same moves.Back refl (let f = eqb-true _ _ q.0 in let le = ps.next from in omega (arith, f, le)) in
          sends_it law packets bound idle x front (known_by moves.Back) _ d
          (λ sent kept. law.says front (known_by moves.Back) d.holds l d.knows from ne sent)
          (fit_one (law.Fits s.applied) n i from _ (below, ne) (law.says_fits front (known_by moves.Back) d.holds from))

      by_answer : (ok : Bool) → a.ok ≡ ok → Turned law packets bound idle x (on_moved kind m n i (known s from a) from (moved_by s from a))
      by_answer true e = rw e (raised (is_news p a.index (last_index s.log)) refl e)
      by_answer false e = rw e (back (is_refusal p a.index) refl)

  pub appended_turned : (x : free.NodeState C) (front : List (Entry C)) (s : NodeView S C O X) (from : ℕ) (a : AppendedView) → Came law packets bound idle x front s →
      from < n → from ≢ i → In (free_packet from i (msg.Appended a)) packets → Turned law packets bound idle x (on_appended kind m n i s from a)
  appended_turned x front s from a c below ne came = go (is_leader s.role && eqb a.term s.ballot.term) refl
    where
      go : (b : Bool) → (is_leader s.role && eqb a.term s.ballot.term) ≡ b →
          Turned law packets bound idle x (cond b (on_moved kind m n i (known s from a) from (moved_by s from a)) (stays s))
      go true e =
          let p = and_parts (is_leader s.role) (eqb a.term s.ballot.term) e in
          moved_turned x front s from a c below ne p.0 (eqb-true _ _ p.1) came
      go false e = still law packets bound idle x front s c
