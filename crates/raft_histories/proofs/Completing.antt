-- What a majority has had, each later leader has.
use Rattle.std.proofs.Common.{◌≡◌, ◌≢◌, ℕ, zero, suc, ◌<◌, ◌≤◌, true, false, Option, Some, None, List, length, ◌⊎◌, inl, inr, refl, sym, ap, ◌∙◌, arith, eqb, leb, ltb, ◌&&◌}
use Rattle.std.proofs.lemmas.Bool.{and_parts, eqb-true, leb-true, ltb-true, or_cases}
use Rattle.std.proofs.lemmas.Bool.Decides.{eqb_tells}
use Rattle.vst_base.specs.declared.entry.Entry.{Entry}
use Rattle.vst_base.specs.Elections.{Shared, is_up_to_date}
use Rattle.vst_base.specs.Logs.{last_term, term_at}
use Rattle.raft_histories.specs.Claims.{CommittedAgree, MajorityIsKept}
use Rattle.raft_histories.specs.Histories.{Acked, CommittedBy, Descends, Election, HasOrLost, History, IsCandidacy, IsSoundHistory, OnMajority}
use Rattle.raft_histories.specs.Prefixes.{Agree, Same}
use Rattle.raft_histories.proofs.Bookkeeping.{IsSoundKept}
use Rattle.raft_histories.proofs.Growing.{majority_in}
use Rattle.raft_histories.proofs.Logs.{front_same, front_term, same_length, same_less, same_refl, same_sym, same_term, same_trans, term_in, term_index}
use Rattle.vst_base.proofs.Majorities.{majorities_meet}

pub agree : {C : Type 0} {g : History C} {x y : List (Entry C)} → Descends g x → Descends g y → Agree x y
agree {g = g} {x = x} {y = y} dx dy =
    record { at = λ n h k e. same_trans (dx.at n h) (rw e (same_sym (dy.at n k))) }

-- a leader of a later term began with it. One who did not would have a voter that had had it, and then an
-- earlier leader would have begun without it
pub complete : {C : Type 0} {m : ℕ} {g : History C} {t n : ℕ} → IsSoundHistory m g → OnMajority m g t n → (bound u c : ℕ) → u < bound → g.leader u ≡ Some c → t < u →
    (log : List (Entry C)) → g.candidacy u c ≡ Some log → term_at log n ≡ t
complete ok s zero u c below ch lt log its = absurd (omega arith)
complete {C = C} {m = m} {g = g} {t = t} {n = n} ok s (suc bound) u c below ch lt log its =
    let el : Election m g u c = ok.elections u c ch in
    let same : el.log ≡ log = cc (el.candidacy, its) in
    let sh : Shared m el.quorum s.quorum = majorities_meet m el.quorum s.quorum el.most s.most in
    elim (el.kept sh.who sh.in_left t n lt (record { pos = s.pos; reach = s.held sh.who sh.in_right; has = s.has })) [
      | inl e ↦ rw same at e
      | inr l ↦ absurd (l.lacks (complete ok s bound l.by l.who (omega (arith, l.below)) l.leader l.above l.log l.candidacy))
    ]

-- so a later leader's first log has it, with all before it
pub majority_in_candidacy : {C : Type 0} {m : ℕ} {g : History C} {t n : ℕ} → IsSoundHistory m g → OnMajority m g t n → (u c : ℕ) →
    g.leader u ≡ Some c → t < u → (log : List (Entry C)) → g.candidacy u c ≡ Some log → (n ≤ length log) × Same n log (g.leader_log t)
majority_in_candidacy {t = t} {n = n} ok s u c ch lt log its =
    let has : term_at log n ≡ t = complete ok s (suc u) u c (omega arith) ch lt log its in
    let fits : n ≤ length log = term_in log n (omega (arith, s.pos)) in
    (fits, rw has at ((ok.candidacies u c log its).descend.at n fits))

pub majority_is_kept : (C : Type 0) → MajorityIsKept C
majority_is_kept C m g t n u c log ok s lt ch its = majority_in_candidacy ok s u c ch lt log its

majority_in_later : {C : Type 0} {m : ℕ} {g : History C} {t n : ℕ} → IsSoundHistory m g → OnMajority m g t n → (u c : ℕ) →
    g.leader u ≡ Some c → t < u → Same n (g.leader_log u) (g.leader_log t)
majority_in_later {m = m} {g = g} {t = t} {n = n} ok s u c ch lt =
    let el : Election m g u c = ok.elections u c ch in
    let b = majority_in_candidacy ok s u c ch lt el.log el.candidacy in
    same_trans (same_sym (front_same _ n b.0 el.front)) b.1

record Elected {C : Type 0} (g : History C) (u : ℕ) : Type 0 where
  who : ℕ
  leader : g.leader u ≡ Some who

-- a term with entries had an election
elected : {C : Type 0} {m : ℕ} {g : History C} → IsSoundHistory m g → (u : ℕ) → 0 < length (g.leader_log u) → Elected g u
elected {C = C} {g = g} ok u pos = go (g.leader u) refl
  where
    go : (c : Option ℕ) → g.leader u ≡ c → Elected g u
    go (Some c) e = record { who = c; leader = e }
    go None e = absurd (let h = ap length (ok.none u e) in omega (arith, h))

cases_le : (a b : ℕ) → (a < b) ⊎ (a ≡ b) ⊎ (b < a)
cases_le a b = grind arith

majority_order : {C : Type 0} {m : ℕ} {g : History C} {t n u k : ℕ} → IsSoundHistory m g → OnMajority m g t n → OnMajority m g u k →
    t < u → Same n (g.leader_log u) (g.leader_log t)
majority_order {g = g} {u = u} {k = k} ok s r lt =
    let h = term_index (g.leader_log u) k (omega (arith, r.pos, r.has)) in
    let el = elected ok u (omega (arith, majority_in r, h)) in
    majority_in_later ok s u el.who el.leader lt

-- two logs are equal as far as both are committed
committed_both : {C : Type 0} {m : ℕ} {g : History C} {x y : List (Entry C)} {j k t u : ℕ} → IsSoundHistory m g → CommittedBy m g x j t → CommittedBy m g y k u →
    (n : ℕ) → n ≤ j → n ≤ k → Same n x y
committed_both {m = m} {g = g} {x = x} {y = y} ok a b n p q =
    same_trans (same_less n p a.same) (same_trans (go (cases_le a.by b.by)) (same_sym (same_less n q b.same)))
  where
    go : (a.by < b.by) ⊎ (a.by ≡ b.by) ⊎ (b.by < a.by) → Same n (g.leader_log a.by) (g.leader_log b.by)
    go (inl lt) = same_sym (same_less n (omega (arith, a.upto)) (majority_order ok a.on_majority b.on_majority lt))
    go (inr (inl e)) = rw e (same_refl n _)
    go (inr (inr lt)) = same_less n (omega (arith, b.upto)) (majority_order ok b.on_majority a.on_majority lt)

pub committed_agree : (C : Type 0) → CommittedAgree C
committed_agree C m g x y j k t u n ok (inl e) s p q = let z : n ≡ 0 = omega arith in rw z (record { eq = refl })
committed_agree C m g x y j k t u n ok (inr r) (inl e) p q = let z : n ≡ 0 = omega arith in rw z (record { eq = refl })
committed_agree C m g x y j k t u n ok (inr r) (inr s) p q = committed_both ok r s n p q

-- the leader of a term that is no earlier has what is committed
pub committed_leader : {C : Type 0} {m : ℕ} {g : History C} {x : List (Entry C)} {k u : ℕ} → IsSoundHistory m g → CommittedBy m g x k u →
    (c : ℕ) → g.leader u ≡ Some c → Same k x (g.leader_log u)
committed_leader {m = m} {g = g} {x = x} {k = k} {u = u} ok s c ch = same_trans s.same (go (grind (arith, s.le)))
  where
    go : (s.by < u) ⊎ (s.by ≡ u) → Same k (g.leader_log s.by) (g.leader_log u)
    go (inl lt) = same_sym (same_less k s.upto (majority_in_later ok s.on_majority u c ch lt))
    go (inr e) = rw e (same_refl k _)

-- the log with which a later leader began has what is committed
pub committed_in_candidacy : {C : Type 0} {m : ℕ} {g : History C} {x : List (Entry C)} {k t : ℕ} → IsSoundHistory m g →
    CommittedBy m g x k t → (u c : ℕ) → g.leader u ≡ Some c → t < u → (log : List (Entry C)) → g.candidacy u c ≡ Some log → (k ≤ length log) × Same k log x
committed_in_candidacy {k = k} ok s u c ch lt log its =
    let b = majority_in_candidacy ok s.on_majority u c ch (omega (arith, s.le)) log its in
    (omega (arith, b.0, s.upto), same_trans (same_less k s.upto b.1) (same_sym s.same))

-- a candidate whose last entry is of a greater term has it, or the leader of that term began without it
of_a_later_term : {C : Type 0} {m : ℕ} {g : History C} {t : ℕ} {its : List (Entry C)} → IsSoundHistory m g → IsCandidacy g t its →
    (x u n : ℕ) → u < t → last_term its ≡ x → u < x → 0 < u → HasOrLost g its u n (suc t)
of_a_later_term {C = C} {m = m} {g = g} {t = t} {its = its} ok b x u n lt ex more pos = go (eqb_tells (term_at el.log n) u)
  where
    ours : Same (length its) its (g.leader_log x)
    ours = rw ex at (b.descend.at (length its) (omega arith))

    filled : 0 < length (g.leader_log x)
    filled = let h = term_index its (length its) (omega arith) in let k = same_length ours (omega arith) in omega arith

    who : Elected g x
    who = elected ok x filled

    el : Election m g x who.who
    el = ok.elections x who.who who.leader

    started : IsCandidacy g x el.log
    started = ok.candidacies x who.who el.log el.candidacy

    short_at : (length its ≤ length el.log) ⊎ (length el.log < length its) → length el.log < length its
    short_at (inr l) = l
    short_at (inl l) =
        absurd (let h = started.terms (length its) in let k = front_term _ (length its) l el.front in let j = same_term (length its) (omega arith) ours in omega arith)

    short : length el.log < length its
    short = short_at (grind arith)

    go : ((eqb (term_at el.log n) u ≡ true) × (term_at el.log n ≡ u)) ⊎ ((eqb (term_at el.log n) u ≡ false) × (term_at el.log n ≢ u)) → HasOrLost g its u n (suc t)
    go (inl h) =
        let fits : n ≤ length el.log = term_in el.log n (omega (arith, h.1)) in
        inl (same_term n (omega (arith, short)) ours ∙ (sym (front_term _ n fits el.front) ∙ h.1))
    go (inr h) =
        let below = b.terms (length its) in
        inr (record { by = x; who = who.who; log = el.log; above = more; below = omega arith; leader = who.leader; candidacy = el.candidacy; lacks = h.1 })

-- what the test tells
up_to_date_tells : {C : Type 0} (log : List (Entry C)) (last last_t : ℕ) → is_up_to_date log last last_t ≡ true →
    (last_term log < last_t) ⊎ ((last_t ≡ last_term log) × (length log ≤ last))
up_to_date_tells log last last_t e = go (or_cases (ltb (last_term log) last_t) (eqb last_t (last_term log) && leb (length log) last) e)
  where
    go : (ltb (last_term log) last_t ≡ true) ⊎ ((eqb last_t (last_term log) && leb (length log) last) ≡ true) →
        (last_term log < last_t) ⊎ ((last_t ≡ last_term log) × (length log ≤ last))
    go (inl h) = inl (ltb-true _ _ h)
    go (inr h) = let p = and_parts (eqb last_t (last_term log)) (leb (length log) last) h in inr (eqb-true _ _ p.0, leb-true _ _ p.1)

-- a candidate that is up to date for a voter has what the voter has had, unless it was lost before
pub up_to_date : {C : Type 0} {m : ℕ} {g : History C} {i t : ℕ} {voted : Option ℕ} {log its : List (Entry C)} → IsSoundHistory m g →
    IsSoundKept g i t voted log → IsCandidacy g t its →
    is_up_to_date log (length its) (last_term its) ≡ true → (u n : ℕ) → u < t → Acked g u i n → HasOrLost g its u n (suc t)
up_to_date {C = C} {m = m} {g = g} {i = i} {t = t} {log = log} {its = its} ok k b up u n lt a = first (k.acks u n a)
  where
    mine : Same (length log) log (g.leader_log (last_term log))
    mine = k.descend.at (length log) (omega arith)

    theirs : Same (length its) its (g.leader_log (last_term its))
    theirs = b.descend.at (length its) (omega arith)

    longer : term_at log n ≡ u → n ≤ length log → last_term its ≡ last_term log → length log ≤ length its → HasOrLost g its u n (suc t)
    longer e fits eq le =
        let s : Same n log its = same_trans (same_less n fits mine) (rw (← eq) (same_sym (same_less n (omega arith) theirs))) in
        inl (sym (same_term n (omega arith) s) ∙ e)

    later : (x : ℕ) → last_term its ≡ x → term_at log n ≡ u → n ≤ length log → last_term log < x → HasOrLost g its u n (suc t)
    later x ex e fits more = of_a_later_term ok b x u n lt ex (let h = ok.terms (last_term log) n in omega (arith, same_term n fits mine)) a.pos

    first : HasOrLost g log u n (suc t) → HasOrLost g its u n (suc t)
    first (inr l) = inr l
    first (inl e) =
        let fits : n ≤ length log = term_in log n (omega (arith, a.pos)) in
        elim (up_to_date_tells log (length its) (last_term its) up) [ inl h ↦ later (last_term its) refl e fits h | inr h ↦ longer e fits h.0 h.1 ]
