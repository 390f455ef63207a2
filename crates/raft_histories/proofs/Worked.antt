-- The histories that the definitions are computed on: which are sound, and why the others are not.
use Rattle.std.proofs.Common.{◌≡◌, ℕ, zero, suc, ◌<◌, ◌≤◌, Bool, true, false, Some, List, [], ◌∷◌, length, inl, inr, refl, arith, eqb, ltb, cond, ◌&&◌}
use Rattle.std.proofs.lemmas.Bool.{and_right, ltb-true}
use Rattle.std.proofs.lemmas.Bool.Decides.{eqb_tells}
use Rattle.vst_base.specs.declared.entry.Entry.{Entry}
use Rattle.vst_base.specs.declared.what.What.{What}
use Rattle.vst_base.specs.Elections.{Shared, is_majority}
use Rattle.vst_base.specs.Logs.{term_at}
use Rattle.vst_base.proofs.Majorities.{majorities_meet}
use Rattle.raft_histories.specs.Histories.{Descends, Election, History, IsCandidacy, IsCommitted, IsSoundHistory, OnMajority}
use Rattle.raft_histories.specs.HistoryExamples.{EmptyIsSound, ItsEntryIsCommitted, NoGreaterTerm, OneElectionIsSound, OneHolderCommitsNothing, OneVoteElectsNobody, WhatAVoterHadIsKept, entry, forgotten, one, one_election, two}
use Rattle.raft_histories.specs.Prefixes.{Same}
use Rattle.raft_histories.proofs.Completing.{majority_is_kept}
use Rattle.raft_histories.proofs.Logs.{same_refl}

pub empty_is_sound : (C : Type 0) → EmptyIsSound C
empty_is_sound C nodes = record {
  descend = λ u. record { at = λ n le. record { eq = refl } };
  terms = λ u n. omega arith;
  none = λ u e. refl;
  reach = λ u v. omega arith;
  candidacies = λ u c log e. absurd (cc (e));
  elections = λ u c e. absurd (cc (e));
}

-- nobody has had more of a log than there is
reach : {X : Type 0} (x : X) (u : ℕ) (held : Bool) → cond (eqb u 1 && held) 1 0 ≤ length (cond (eqb u 1) (x ∷ []) [])
reach x u true = elim (eqb_tells u 1) [ inl t ↦ rw (t.0) (omega arith) | inr t ↦ rw (t.0) (omega arith) ]
reach x u false = elim (eqb_tells u 1) [ inl t ↦ rw (t.0) (omega arith) | inr t ↦ rw (t.0) (omega arith) ]

-- the election is sound, whoever has had the entry
election_sound : {C : Type 0} (what : What C) (holders : ℕ → Bool) → IsSoundHistory 3 (one_election two (entry 1 what) holders)
election_sound {C = C} what holders = record {
  descend = λ u. elim (eqb_tells u 1) [ inl t ↦ rw (t.0) (record { at = its }) | inr t ↦ rw (t.0) empty ];
  terms = λ u n. elim (eqb_tells u 1) [ inl t ↦ rw (t.0, t.1) (its_term n) | inr t ↦ rw (t.0) (omega arith) ];
  none = λ u e. elim (eqb_tells u 1) [ inl t ↦ absurd (cc (rw (t.0) at e)) | inr t ↦ rw (t.0) refl ];
  reach = λ u v. reach (entry 1 what) u (holders v);
  candidacies = candidacies;
  elections = λ u c e. elim (eqb_tells u 1) [
    | inl t ↦ (let same : 0 ≡ c = cc (rw (t.0) at e) in rw (t.1, ← same) election)
    | inr t ↦ absurd (cc (rw (t.0) at e))
  ];
}
  where
    g : History C
    g = one_election two (entry 1 what) holders

    log : List (Entry C)
    log = entry 1 what ∷ []

    its : (n : ℕ) → n ≤ 1 → Same n log (g.leader_log (term_at log n))
    its zero le = record { eq = refl }
    its (suc zero) le = same_refl _ _
    its (suc (suc n)) le = absurd (omega arith)

    its_term : (n : ℕ) → term_at log n ≤ 1
    its_term zero = omega arith
    its_term (suc zero) = omega arith
    its_term (suc (suc n)) = omega arith

    empty : Descends g []
    empty = record { at = λ n le. same_refl n [] }

    candidacies : (u c : ℕ) (first : List (Entry C)) → g.candidacy u c ≡ Some first → IsCandidacy g u first
    candidacies u c first e = elim (eqb_tells u 1) [
      | inl t ↦ elim (eqb_tells c 0) [
        | inl s ↦ (let same : [] ≡ first = cc (rw (t.0, s.0) at e) in
            rw (t.1, ← same) (record { pos = omega arith; descend = empty; terms = λ n. omega arith }))
        | inr s ↦ absurd (cc (rw (t.0, s.0) at e))
      ]
      | inr t ↦ absurd (cc (rw (t.0) at e))
    ]

    election : Election 3 g 1 0
    election = record {
      log = [];
      candidacy = refl;
      front = refl;
      quorum = two;
      most = refl;
      voted = λ v q. rw q refl;
      kept = λ v q t n lt a. absurd (omega (arith, a.pos));
    }

pub one_election_is_sound : (C : Type 0) → OneElectionIsSound C
one_election_is_sound C what = election_sound what two

on_majority : {C : Type 0} (what : What C) → OnMajority 3 (one_election two (entry 1 what) two) 1 1
on_majority what = record { pos = omega arith; has = refl; quorum = two; most = refl; held = λ v q. rw q (omega arith) }

pub its_entry_is_committed : (C : Type 0) → ItsEntryIsCommitted C
its_entry_is_committed C what = (
  on_majority what,
  inr (record { by = 1; index = 1; le = omega arith; upto = omega arith; on_majority = on_majority what; same = same_refl 1 _ }),
)

-- a majority of three has a node that is not the first
record Another (quorum : ℕ → Bool) : Type 0 where
  who : ℕ
  within : quorum who ≡ true
  other : one who ≡ false

another : (quorum : ℕ → Bool) → is_majority 3 quorum ≡ true → Another quorum
another quorum most =
    let s : Shared 3 quorum (λ v. ltb 0 v) = majorities_meet 3 quorum (λ v. ltb 0 v) most refl in
    let pos : 0 < s.who = ltb-true 0 s.who s.in_right in
    record {
      who = s.who;
      within = s.in_left;
      other = elim (eqb_tells s.who 0) [ inl t ↦ absurd (omega (arith, t.1)) | inr t ↦ rw (t.0) refl ];
    }

pub one_holder_commits_nothing : (C : Type 0) → OneHolderCommitsNothing C
one_holder_commits_nothing C what = (election_sound what one, λ m. nowhere 1 1 (omega arith) m, committed)
  where
    g : History C
    g = one_election two (entry 1 what) one

    nowhere : (t n : ℕ) → 1 ≤ n → OnMajority 3 g t n → ⊥
    nowhere t n le m =
        let a = another m.quorum m.most in
        let h : n ≤ 0 = rw (a.other, and_right (eqb t 1) false refl) at (m.held a.who a.within) in
        absurd (omega arith)

    committed : IsCommitted 3 g (entry 1 what ∷ []) 1 1 → ⊥
    committed (inl e) = absurd (omega arith)
    committed (inr s) = nowhere s.by s.index s.upto s.on_majority

pub one_vote_elects_nobody : (C : Type 0) → OneVoteElectsNobody C
one_vote_elects_nobody C what s =
    let el : Election 3 (one_election one (entry 1 what) two) 1 0 = s.elections 1 0 refl in
    let a = another el.quorum el.most in
    absurd (cc (rw (a.other) at (el.voted a.who a.within)))

pub no_greater_term : (C : Type 0) → NoGreaterTerm C
no_greater_term C what s = absurd (let t : 2 ≤ 1 = s.terms 1 1 in omega arith)

pub what_a_voter_had_is_kept : (C : Type 0) → WhatAVoterHadIsKept C
what_a_voter_had_is_kept C what s =
    let kept = majority_is_kept C 3 (forgotten (entry 1 what)) 1 1 2 2 [] s held (omega arith) refl refl in absurd (omega (arith, kept.0))
  where
    m : OnMajority 3 (one_election two (entry 1 what) two) 1 1
    m = on_majority what

    held : OnMajority 3 (forgotten (entry 1 what)) 1 1
    held = record { pos = m.pos; has = m.has; quorum = m.quorum; most = m.most; held = m.held }
