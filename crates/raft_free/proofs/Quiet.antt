-- The events of which nothing is noted.
use Rattle.std.proofs.Common.{◌≡◌, ℕ, suc, ◌<◌, ◌≤◌, true, false, Option, Some, None, List, ◌++◌, length, take, drop, inl, inr, refl, ap, ◌∙◌, arith, eqb, cond}
use Rattle.std.proofs.lemmas.Bool.Decides.{eqb_tells}
use Rattle.std.proofs.lemmas.List.{take-append-drop, length-take-le}
use Rattle.vst_base.specs.declared.entry.Entry.{Entry}
use Rattle.vst_base.specs.Logs.{term_at}
use Rattle.raft_histories.specs.Histories.{History, IsCommitted}
use Rattle.raft_histories.specs.Prefixes.{Follows}
use Rattle.raft_histories.proofs.Bookkeeping.{IsSoundKept}
use Rattle.raft_histories.proofs.Growing.{committed_grow, committed_less, has_or_lost_grow}
use Rattle.raft_histories.proofs.Putting.{with_node_cases}
use Rattle.raft_free.specs.Events.{Allowed, Apply, Ask, Count, Crash, IsRefusal, Learn, Match, Reboot, Refuse, Replicate, StepDown, becomes}
use Rattle.raft_free.specs.Nodes.{Append, Appended, Follower, FreeWorld, Message, NodeState, Packet, RequestVote, Vote}
use Rattle.raft_free.proofs.Sound.{IsSoundNode, IsSoundWorld, Told}
use Rattle.raft_free.proofs.Stepping.{Next, grows_self, quiet, say_none, say_one}

-- a node that follows
pub follower_sound : {C : Type 0} {m : ℕ} {g : History C} {i : ℕ} (x : NodeState C) → IsSoundKept g i x.term x.voted x.log →
    IsCommitted m g x.log x.commit x.term → x.applied ≤ x.commit → x.role ≡ Follower → IsSoundNode m g i x
follower_sound x k s a e = record { kept = k; leads = λ r. absurd cc; stands = λ r. absurd cc; committed = s; applied = a }

pub ask : {C : Type 0} {m : ℕ} {w : FreeWorld C} {g : History C} (i j : ℕ) → IsSoundWorld m w g → Allowed m w.sent (w.node i) (Ask i j) → Next m w (Ask i j) g
ask {w = w} i j sound ok =
    let s = (sound.node i).stands ok.1 in
    quiet (Ask i j) sound (sound.node i) (say_one _ _ _ (record { log = (w.node i).log; candidacy = s.candidacy; at = refl; term = refl }))

-- a node learns of a greater term
later_kept : {C : Type 0} {g : History C} {i term : ℕ} {voted : Option ℕ} {log : List (Entry C)} (u : ℕ) → term < u →
    IsSoundKept g i term voted log → IsSoundKept g i u None log
later_kept {g = g} {term = term} {log = log} u lt k =
    record {
      descend = k.descend;
      terms = λ n. let h = k.terms n in omega arith;
      past = λ t n a. let h = k.past t n a in omega arith;
      acks = λ t n a. has_or_lost_grow log (grows_self g) (suc u) (omega arith) (k.acks t n a);
      votes = λ v c e. let h = k.votes v c e in record { le = omega (arith, h.le); now = λ e. absurd (omega (arith, h.le)); cast = h.cast };
      candidacies = λ v its e. let h = k.candidacies v its e in omega arith;
    }

pub learn : {C : Type 0} {m : ℕ} {w : FreeWorld C} {g : History C} (i : ℕ) (p : Packet C) → IsSoundWorld m w g →
    Allowed m w.sent (w.node i) (Learn i p) → Next m w (Learn i p) g
learn {w = w} {g = g} i p sound ok =
    let nk = sound.node i in
    quiet (Learn i p) sound
    (follower_sound (becomes (w.node i) (Learn i p)) (later_kept p.term ok.3 nk.kept) (committed_grow (w.node i).log (grows_self g) p.term (omega arith) nk.committed) nk.applied refl)
    (say_none _ _)

refusal_told : {C : Type 0} (m : ℕ) (g : History C) (source destination u : ℕ) (x : Message C) → IsRefusal x → Told m g source destination u x
refusal_told m g source destination u (RequestVote last last_t) r = absurd r
refusal_told m g source destination u (Vote true) r = absurd cc
refusal_told m g source destination u (Vote false) r = tt
refusal_told m g source destination u (Append prev prev_t es commit) r = absurd r
refusal_told m g source destination u (Appended true index) r = absurd cc
refusal_told m g source destination u (Appended false index) r = tt

pub refuse : {C : Type 0} {m : ℕ} {w : FreeWorld C} {g : History C} (i j : ℕ) (x : Message C) → IsSoundWorld m w g →
    Allowed m w.sent (w.node i) (Refuse i j x) → Next m w (Refuse i j x) g
refuse {m = m} {w = w} {g = g} i j x sound ok = quiet (Refuse i j x) sound (sound.node i) (say_one _ _ _ (refusal_told m g i j (w.node i).term x ok.1))

pub counted : {C : Type 0} {m : ℕ} {w : FreeWorld C} {g : History C} (i v : ℕ) → IsSoundWorld m w g → Allowed m w.sent (w.node i) (Count i v) → Next m w (Count i v) g
counted {w = w} {g = g} i v sound ok =
    let nk = sound.node i in
    let cast : g.vote (w.node i).term v ≡ Some i = sound.sent _ ok.1 in
    quiet (Count i v) sound
    (record {
      kept = nk.kept;
      leads = λ r. absurd (cc (ok.2));
      stands = λ r. let s = nk.stands r in
          record {
            candidacy = s.candidacy;
            fresh = s.fresh;
            cast = λ j e. elim (with_node_cases v (w.node i).votes j e) [ inl h ↦ rw h cast | inr h ↦ s.cast j h ];
          };
      committed = nk.committed;
      applied = nk.applied;
    })
    (say_none _ _)

follows_self : {C : Type 0} (log : List (Entry C)) (prev many : ℕ) → prev ≤ length log → Follows log prev (term_at log prev) (take many (drop prev log))
follows_self log prev many le =
    record {
      front = take prev log;
      rest = drop many (drop prev log);
      whole = ap (λ r. take prev log ++ r) (take-append-drop many (drop prev log)) ∙ take-append-drop prev log;
      at = length-take-le prev log le;
      term = refl;
    }

pub replicate : {C : Type 0} {m : ℕ} {w : FreeWorld C} {g : History C} (i j prev many commit : ℕ) → IsSoundWorld m w g →
    Allowed m w.sent (w.node i) (Replicate i j prev many commit) → Next m w (Replicate i j prev many commit) g
replicate {w = w} {g = g} i j prev many commit sound ok =
    let nk = sound.node i in
    let l = nk.leads ok.1 in
    quiet (Replicate i j prev many commit) sound nk
    (say_one _ _ _ (record {
      leader = l.leader;
      other = ok.2;
      follows = rw (← l.own) (follows_self (w.node i).log prev many ok.3);
      committed = rw (← l.own) (committed_less (w.node i).log commit ok.4 nk.committed);
    }))

pub stepped_down : {C : Type 0} {m : ℕ} {w : FreeWorld C} {g : History C} (i l prev prev_t : ℕ) (es : List (Entry C)) (commit : ℕ) → IsSoundWorld m w g →
    Allowed m w.sent (w.node i) (StepDown i l prev prev_t es commit) → Next m w (StepDown i l prev prev_t es commit) g
stepped_down {w = w} i l prev prev_t es commit sound ok =
    let nk = sound.node i in
    quiet (StepDown i l prev prev_t es commit) sound (follower_sound (becomes (w.node i) (StepDown i l prev prev_t es commit)) nk.kept nk.committed nk.applied refl) (say_none _ _)

pub matched : {C : Type 0} {m : ℕ} {w : FreeWorld C} {g : History C} (i j index : ℕ) → IsSoundWorld m w g →
    Allowed m w.sent (w.node i) (Match i j index) → Next m w (Match i j index) g
matched {w = w} {g = g} i j index sound ok =
    let nk = sound.node i in
    let told : index ≤ g.acked (w.node i).term j = sound.sent _ ok.1 in
    let l = nk.leads ok.2 in
    quiet (Match i j index) sound
    (record {
      kept = nk.kept;
      leads = λ r. record {
        leader = l.leader;
        own = l.own;
        heard = λ k. elim (eqb_tells k j) as (λ s. cond (eqb k j) index ((w.node i).matched k) ≤ g.acked (w.node i).term k)
            [ inl t ↦ rw (t.0, t.1) told | inr t ↦ rw (t.0) (l.heard k) ];
      };
      stands = λ r. absurd (cc (ok.2));
      committed = nk.committed;
      applied = nk.applied;
    })
    (say_none _ _)

pub apply : {C : Type 0} {m : ℕ} {w : FreeWorld C} {g : History C} (i index : ℕ) → IsSoundWorld m w g →
    Allowed m w.sent (w.node i) (Apply i index) → Next m w (Apply i index) g
apply i index sound ok =
    let nk = sound.node i in
    quiet (Apply i index) sound (record { kept = nk.kept; leads = nk.leads; stands = nk.stands; committed = nk.committed; applied = ok.2 }) (say_none _ _)

pub crash : {C : Type 0} {m : ℕ} {w : FreeWorld C} {g : History C} (i : ℕ) → IsSoundWorld m w g → Allowed m w.sent (w.node i) (Crash i) → Next m w (Crash i) g
crash {w = w} i sound ok =
    let nk = sound.node i in
    quiet (Crash i) sound (follower_sound (becomes (w.node i) (Crash i)) nk.kept nk.committed nk.applied refl) (say_none _ _)

pub reboot : {C : Type 0} {m : ℕ} {w : FreeWorld C} {g : History C} (i commit applied : ℕ) → IsSoundWorld m w g →
    Allowed m w.sent (w.node i) (Reboot i commit applied) → Next m w (Reboot i commit applied) g
reboot {w = w} i commit applied sound ok =
    let nk = sound.node i in
    quiet (Reboot i commit applied) sound (follower_sound (becomes (w.node i) (Reboot i commit applied)) nk.kept (committed_less (w.node i).log commit ok.1 nk.committed) ok.2 refl) (say_none _ _)
