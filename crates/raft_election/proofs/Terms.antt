-- What rules keep: terms never fall, and a vote stays as long as its term, so one candidate gets it.
use Rattle.std.proofs.Common.{◌≡◌, ℕ, ◌≤◌, Bool, true, false, cond, nat_lt, Option, Some, None, List, [], ◌∷◌, ap, arith, refl, sym, ◌∙◌}
use Rattle.std.proofs.lemmas.Bool.{and_parts, eqb-true, ltb-true}
use Rattle.vst_base.specs.Elections.{is_free_for}
use Rattle.raft_election.specs.Ballots.{Ask, BallotView, Grant, Learn, OneVoteATerm, Rule, Start, after, becomes, grants, learned, may_start, started, voted_for}

-- one rule lets no term fall
rises : (b : BallotView) (r : Rule) → b.term ≤ (becomes b r).term
rises b (Start me) = go (may_start b)
  where
    go : (t : Bool) → b.term ≤ (cond t (started me b) b).term
    go true = omega arith
    go false = omega arith
rises b (Ask term c up) = go (grants b term c up)
  where
    go : (t : Bool) → b.term ≤ (cond t (voted_for c b) b).term
    go true = omega arith
    go false = omega arith
rises b (Grant voter) = omega arith
rises b (Learn term) = go (nat_lt b.term term) refl
  where
    go : (t : Bool) → nat_lt b.term term ≡ t → b.term ≤ (cond t (learned term b) b).term
    go true e = let l = ltb-true _ _ e in omega arith
    go false e = omega arith

terms_never_fall : (rules : List Rule) (b : BallotView) → b.term ≤ (after b rules).term
terms_never_fall [] b = omega arith
terms_never_fall (r ∷ rs) b = let first = rises b r in let later = terms_never_fall rs (becomes b r) in omega arith

-- one rule that lets the term stand lets the vote stand
stands : (b : BallotView) (r : Rule) (c : ℕ) → b.voted ≡ Some c → (becomes b r).term ≡ b.term → (becomes b r).voted ≡ Some c
stands b (Start me) c v = go (may_start b)
  where
    go : (t : Bool) → (cond t (started me b) b).term ≡ b.term → (cond t (started me b) b).voted ≡ Some c
    go true e = absurd (omega arith)
    go false e = v
stands b (Ask term d up) c v = λ e. go (grants b term d up) refl
  where
    same : (w : Option ℕ) → w ≡ Some c → is_free_for w d ≡ true → Some d ≡ Some c
    same None w f = absurd (cc w)
    same (Some k) w f = sym (ap (λ n. Some n) (eqb-true k d f)) ∙ w

    go : (t : Bool) → grants b term d up ≡ t → (cond t (voted_for d b) b).voted ≡ Some c
    go true g = same b.voted v ((and_parts _ _ ((and_parts _ _ g).0)).1)
    go false g = v
stands b (Grant voter) c v = λ e. v
stands b (Learn term) c v = go (nat_lt b.term term) refl
  where
    go : (t : Bool) → nat_lt b.term term ≡ t → (cond t (learned term b) b).term ≡ b.term → (cond t (learned term b) b).voted ≡ Some c
    go true l e = absurd (let m = ltb-true _ _ l in omega arith)
    go false l e = v

votes_stay : (rules : List Rule) (b : BallotView) (c : ℕ) → b.voted ≡ Some c → (after b rules).term ≡ b.term → (after b rules).voted ≡ Some c
votes_stay [] b c v e = v
votes_stay (r ∷ rs) b c v e =
    let first = rises b r in
    let later = terms_never_fall rs (becomes b r) in
    let here : (becomes b r).term ≡ b.term = omega arith in
    votes_stay rs (becomes b r) c (stands b r c v here) (e ∙ sym here)

-- a vote is granted in the node's term, to one that it is free for
granted : (b : BallotView) (t c : ℕ) (up : Bool) → grants b t c up ≡ true → (b.term ≡ t) × (is_free_for b.voted c ≡ true)
granted b t c up g = let first = (and_parts _ _ g).0 in (eqb-true _ _ (and_parts _ _ first).0, (and_parts _ _ first).1)

one_candidate : (rules : List Rule) (b : BallotView) (t c d : ℕ) (up up' : Bool) → grants b t c up ≡ true
    → grants (after (voted_for c b) rules) t d up' ≡ true → d ≡ c
one_candidate rules b t c d up up' g g' =
    let before = granted b t c up g in
    let behind = granted (after (voted_for c b) rules) t d up' g' in
    let stayed = votes_stay rules (voted_for c b) c refl (behind.0 ∙ sym before.0) in
    same (after (voted_for c b) rules).voted stayed behind.1
  where
    same : (w : Option ℕ) → w ≡ Some c → is_free_for w d ≡ true → d ≡ c
    same None w f = absurd (cc w)
    same (Some k) w f = let k_is_d = eqb-true k d f in cc (w, k_is_d)

pub one_vote_a_term : OneVoteATerm
one_vote_a_term = record { terms_never_fall = terms_never_fall; votes_stay = votes_stay; one_candidate = one_candidate }
