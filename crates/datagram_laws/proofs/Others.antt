-- A node sends nothing to itself.
use Rattle.std.proofs.Common.{◌≡◌, ◌≢◌, ◌==◌, ◌&&◌, ℕ, zero, suc, Bool, true, false, not, nat_le, nat_lt, List, [], ◌∷◌, length, if◌then◌else◌, refl, sym, ◌∙◌}
use Rattle.std.proofs.lemmas.Bool.{eq-eqb, false≢true}
use Rattle.lists.specs.Each.{Each, each_append}
use Rattle.raft_commit.specs.declared.peer.Moved.{Moved}
use Rattle.raft_commit.specs.declared.peer.Moved.TheVariants as moves
use Rattle.raft_election.specs.Ballots.{grants, may_start}
use Rattle.raft_types.specs.Messages.{AppendView, VoteView}
use Rattle.raft_types.specs.Terms.{term_of}
use Rattle.raft_types.specs.declared.client.RaftInput.{RaftInput}
use Rattle.raft_types.specs.declared.limits.TheConstants.{MAX_INDEX}
use Rattle.raft_types.specs.declared.msg.RaftMsg.{RaftMsg}
use Rattle.raft_types.specs.declared.msg.RaftMsg.TheVariants as msg
use Rattle.raft_xform.specs.Applying.{settled}
use Rattle.raft_xform.specs.Electing.{candidate, has_won, heard, lead, on_vote, sees_up_to_date, tick, voted}
use Rattle.raft_xform.specs.Nodes.{RaftEffect, RaftView, is_candidate, is_leader, peer_at}
use Rattle.raft_xform.specs.Raft.{by_message, on_message}
use Rattle.raft_xform.specs.Replicating.{known, may_take, moved_by, on_append, on_input, on_moved}
use Rattle.raft_xform.specs.Sending.{append, append_rest, to_others}
use Rattle.vst_base.specs.Machines.{MachineMeaning}

module _ {C : Type 0} (me : ℕ) where
  abbrev AreToOthers : List (ℕ × RaftMsg C) → Type 0
  AreToOthers sends = Each (λ p. me ≢ p.0) sends

  to_each : (nodes : ℕ) (message : ℕ → RaftMsg C) → AreToOthers (to_others nodes me message)
  to_each zero message = tt
  to_each (suc n) message = each_append (λ p. me ≢ p.0) (to_others n me message) _ (to_each n message) (go (n == me) refl)
    where
      go : (b : Bool) → (n == me) ≡ b → AreToOthers (if b then [] else (n, message n) ∷ [])
      go true e = tt
      go false e = ((λ same. absurd (false≢true (sym e ∙ eq-eqb n me (sym same)))), tt)

  module _ {S O : Type 0} where
    -- an effect whose packets go to others
    pub record Others (effect : RaftEffect S C O) : Type 0 where
      pub are : AreToOthers effect.sends

    either : (b : Bool) {e d : RaftEffect S C O} → Others e → Others d → Others (if b then e else d)
    either true e d = e
    either false e d = d

    module _ (nodes : ℕ) (m : MachineMeaning S C O) where
      leads : (s : RaftView S C O) → Others (lead m nodes me s)
      leads s = record { are = to_each nodes _ }

      pub tick_to_others : (s : RaftView S C O) → Others (tick m nodes me s)
      tick_to_others s =
          either (is_leader s.role) (record { are = to_each nodes _ })
          (either (may_start s.ballot) (either (has_won nodes (candidate me s)) (leads (candidate me s))
          (record { are = to_each nodes _ })) (record { are = tt }))

      pub input_to_others : (s : RaftView S C O) (i : RaftInput C) → Others (on_input m nodes me s i)
      input_to_others s i = either (not (is_leader s.role)) (record { are = tt }) (either (length s.log == MAX_INDEX)
          (record { are = tt }) (record { are = to_each nodes _ }))

      vote_to_others : (s : RaftView S C O) (from : ℕ) (v : VoteView) → Others (on_vote m nodes me s from v)
      vote_to_others s from v =
          either (is_candidate s.role && v.term == s.ballot.term && v.granted)
          (either (has_won nodes (voted s from)) (leads (voted s from)) (record { are = tt })) (record { are = tt })

      append_to_others : (s : RaftView S C O) (from : ℕ) (a : AppendView C) → me ≢ from → Others (on_append m me s from a)
      append_to_others s from a another =
          either (nat_lt a.term s.ballot.term) (record { are = (another, tt) })
          (either (is_leader s.role) (record { are = tt }) (either (may_take s a) (record { are = (another, tt) }) (record {
            are =
                (another, tt);
          })))

      rest_to_others : (s : RaftView S C O) (from : ℕ) → me ≢ from → AreToOthers (append_rest s from)
      rest_to_others s from another = go (nat_le (peer_at s.peers from).next (length s.log))
        where
          go : (b : Bool) → AreToOthers (if b then (from, append s from) ∷ [] else [])
          go true = (another, tt)
          go false = tt

      moved_to_others : (s : RaftView S C O) (from : ℕ) (moved : Moved) → me ≢ from → Others (on_moved m nodes me s from moved)
      moved_to_others s from moves.Raised another = record { are = rest_to_others (settled m nodes me s).state from another }
      moved_to_others s from moves.Back another = record { are = (another, tt) }
      moved_to_others s from moves.Nothing another = record { are = tt }

      by_message_to_others : (s : RaftView S C O) (from : ℕ) (x : RaftMsg C) → me ≢ from → Others (by_message m nodes me s from x)
      by_message_to_others s from (msg.RequestVote r) another = either (grants s.ballot r.term from (sees_up_to_date s r))
          (record { are = (another, tt) }) (record { are = (another, tt) })
      by_message_to_others s from (msg.Vote v) another = vote_to_others s from v
      by_message_to_others s from (msg.Append a) another = append_to_others s from a another
      by_message_to_others s from (msg.Appended a) another =
          either (is_leader s.role && a.term == s.ballot.term) (moved_to_others (known s from a) from (moved_by s from a) another)
          (record { are = tt })

      pub message_to_others : (s : RaftView S C O) (from : ℕ) (x : RaftMsg C) → me ≢ from → Others (on_message m nodes me s from x)
      message_to_others s from x another = by_message_to_others (heard (term_of x) s) from x another
