-- What always holds of nodes and packets, by a history of the run; it holds of them when more was noted.
use Rattle.std.proofs.Common.{◌≡◌, ℕ, ◌≤◌, true, false, Some, sym, ◌∙◌, arith}
use Rattle.raft_histories.specs.Histories.{History, IsCommitted, IsSoundHistory}
use Rattle.raft_histories.proofs.Bookkeeping.{Aside, Asked, Grows, IsSoundKept, Leads, Replicated, Stands}
use Rattle.raft_histories.proofs.Growing.{committed_front, committed_grow, follows_grow, kept_grow}
use Rattle.raft_free.specs.Events.{In}
use Rattle.raft_free.specs.Nodes.{Append, Appended, Candidate, FreeWorld, Leader, Message, NodeState, Packet, RequestVote, Vote}

pub record IsSoundNode {C : Type 0} (m : ℕ) (g : History C) (i : ℕ) (x : NodeState C) : Type 0 where
  pub kept : IsSoundKept g i x.term x.voted x.log
  pub leads : x.role ≡ Leader → Leads g i x.term x.log x.matched
  pub stands : x.role ≡ Candidate → Stands g i x.term x.log x.votes
  pub committed : IsCommitted m g x.log x.commit x.term
  pub applied : x.applied ≤ x.commit

-- what a message of the term u tells, by its ends
abbrev pub Told : {C : Type 0} → ℕ → History C → ℕ → ℕ → ℕ → Message C → Type 0
Told m g source destination u (RequestVote last last_t) = Asked g source u last last_t
Told m g source destination u (Vote true) = g.vote u source ≡ Some destination
Told m g source destination u (Vote false) = Unit {0}
Told m g source destination u (Append prev prev_t es commit) = Replicated m g source destination u prev prev_t es commit
Told m g source destination u (Appended true index) = index ≤ g.acked u source
Told m g source destination u (Appended false index) = Unit {0}

pub record IsSoundWorld {C : Type 0} (m : ℕ) (w : FreeWorld C) (g : History C) : Type 0 where
  pub past : IsSoundHistory m g
  pub node : (i : ℕ) → IsSoundNode m g i (w.node i)
  pub sent : (p : Packet C) → In p w.sent → Told m g p.source p.destination p.term p.message

pub told_grow : {C : Type 0} (m : ℕ) {g h : History C} (source destination u : ℕ) (x : Message C) → Grows g h →
    Told m g source destination u x → Told m h source destination u x
told_grow m source destination u (RequestVote last last_t) gr t = record { log = t.log; candidacy = gr.candidacy u source t.log t.candidacy; at = t.at; term = t.term }
told_grow m source destination u (Vote true) gr t = gr.vote u source destination t
told_grow m source destination u (Vote false) gr t = tt
told_grow m {g = g} {h = h} source destination u (Append prev prev_t es commit) gr t =
    record {
      leader = gr.leader u source t.leader;
      other = t.other;
      follows = follows_grow (gr.leader_log u) t.follows;
      committed = committed_front (g.leader_log u) (h.leader_log u) (gr.leader_log u) (committed_grow (g.leader_log u) gr u (omega arith) t.committed);
    }
told_grow m source destination u (Appended true index) gr t = let a = gr.acked u source in omega arith
told_grow m source destination u (Appended false index) gr t = tt

pub node_grow : {C : Type 0} {m : ℕ} {g h : History C} {j : ℕ} {x : NodeState C} → IsSoundHistory m g → Grows g h → Aside j g h →
    IsSoundNode m g j x → IsSoundNode m h j x
node_grow {g = g} {h = h} {j = j} {x = x} ok gr aside nk =
    record {
      kept = kept_grow ok gr aside.apart nk.kept;
      leads = λ r. let l = nk.leads r in
          record {
            leader = gr.leader x.term j l.leader;
            own = l.own ∙ sym (aside.leader_log x.term l.leader);
            heard = λ k. let a = l.heard k in let b = gr.acked x.term k in omega arith;
          };
      stands = λ r. let s = nk.stands r in
          record {
            candidacy = gr.candidacy x.term j x.log s.candidacy;
            fresh = λ e. s.fresh (aside.leader x.term e);
            cast = λ v e. gr.vote x.term v j (s.cast v e);
          };
      committed = committed_grow x.log gr x.term (omega arith) nk.committed;
      applied = nk.applied;
    }
