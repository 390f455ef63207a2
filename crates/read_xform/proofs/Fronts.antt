-- Of reads in the order in which they came, those that may be answered are a front.
use Rattle.std.proofs.Common.{◌≡◌, ℕ, Bool, true, false, not, ◌&&◌, List, [], ◌∷◌, ◌++◌, length, map, nat_le, get_or, Option, Some, None, IfSome, IsTrue, refl, sym, ap, ◌∙◌, arith, append-nil, append_assoc}
use Rattle.std.specs.Prelude.{option_to_list, slice_index_or}
use Rattle.std.proofs.lemmas.Bool.{and_from, and_parts, both_ways, le-leb, leb-true}
use Rattle.std.specs.List.{filter}
use Rattle.lists.specs.Each.{Each}
use Rattle.vst_base.specs.Elections.{holders, is_majority, with_node}
use Rattle.vst_base.specs.Machines.{MachineMeaning}
use Rattle.raft_commit.proofs.Holding.{held_below}
use Rattle.raft_types.specs.declared.client.RaftOut.{RaftOut}
use Rattle.raft_xform.specs.Nodes.{RaftView}
use Rattle.raft_reads.specs.ReadRaft.{read_reply}
use Rattle.raft_reads.specs.Reads.{Reads, Waiting, acked_by}
use Rattle.read_xform.specs.Rounds.{IsBlocked, may_answer, without}
use Rattle.read_xform.specs.Sound.{AreInOrder, IsBefore}

module _ {C : Type 0} (me applied : ℕ) (r : Reads C) where
  -- an earlier read may be answered where a later one may
  earlier : (x y : Waiting C) → IsBefore x y → may_answer me applied r y ≡ true → may_answer me applied r x ≡ true
  earlier x y before h =
      let parts = and_parts _ _ h in
      let applied_to = leb-true y.read_index applied parts.1 in
      and_from _ _ (held_below (length r.acked) me (acked_by r) x.round y.round (omega (arith, before.round)) parts.0)
      (le-leb x.read_index applied (omega (arith, before.read_index)))

  -- none after one that has to wait
  none_later : (x : Waiting C) (xs : List (Waiting C)) → may_answer me applied r x ≡ false → Each (IsBefore x) xs →
      (filter (may_answer me applied r) xs ≡ []) × (filter (λ z. not (may_answer me applied r z)) xs ≡ xs)
  none_later x [] blocked later = (refl, refl)
  none_later x (y ∷ ys) blocked later = go (may_answer me applied r y) refl (none_later x ys blocked later.1)
    where
      go : (b : Bool) → may_answer me applied r y ≡ b →
          (filter (may_answer me applied r) ys ≡ []) × (filter (λ z. not (may_answer me applied r z)) ys ≡ ys) →
          (filter (may_answer me applied r) (y ∷ ys) ≡ []) × (filter (λ z. not (may_answer me applied r z)) (y ∷ ys) ≡ y ∷ ys)
      go true e rest = absurd (both_ways _ blocked (earlier x y later.0 e))
      go false e rest = (rw e rest.0, rw e (ap (λ zs. y ∷ zs) rest.1))

  -- where the first has to wait, all do
  pub all_wait : (xs : List (Waiting C)) → AreInOrder xs → IsBlocked (may_answer me applied r) xs →
      (filter (may_answer me applied r) xs ≡ []) × (filter (λ z. not (may_answer me applied r z)) xs ≡ xs)
  all_wait [] in_order blocked = (refl, refl)
  all_wait (x ∷ xs) in_order blocked = let rest = none_later x xs blocked in_order.0 in (rw blocked rest.0, rw blocked (ap (λ zs. x ∷ zs) rest.1))

-- who may be answered depends on what the node has applied and was acknowledged alone
same_answers : {C : Type 0} (me a b : ℕ) (r q : Reads C) (x : Waiting C) → a ≡ b → r.acked ≡ q.acked → may_answer me a r x ≡ may_answer me b q x
same_answers me a b r q x e f =
    ap (λ (acked : List ℕ). is_majority (length acked) (with_node me (λ node. nat_le x.round (slice_index_or acked node 0))) && nat_le x.read_index a) f
    ∙ ap (λ (n : ℕ). may_answer me n q x) e

still_blocked : {C : Type 0} (me a b : ℕ) (r q : Reads C) (xs : List (Waiting C)) → a ≡ b → r.acked ≡ q.acked → IsBlocked (may_answer me a r) xs → IsBlocked (may_answer me b q) xs
still_blocked me a b r q [] e f blocked = tt
still_blocked me a b r q (x ∷ xs) e f blocked = sym (same_answers me a b r q x e f) ∙ blocked

module _ {A : Type 0} (p : A → Bool) where
  filter_first : (x : A) (xs : List A) → p x ≡ true → filter p (x ∷ xs) ≡ x ∷ filter p xs
  filter_first x xs e = rw e refl

  filter_not_first : (x : A) (xs : List A) → p x ≡ true → filter (λ z. not (p z)) (x ∷ xs) ≡ filter (λ z. not (p z)) xs
  filter_not_first x xs e = rw e refl

same_reads : {C : Type 0} (r : Reads C) (round : ℕ) (acked : List ℕ) (waiting : List (Waiting C)) → r.round ≡ round → r.acked ≡ acked → r.waiting ≡ waiting →
    r ≡ record { round = round; acked = acked; waiting = waiting }
same_reads {C = C} r round acked waiting a b c =
    ap (λ (n : ℕ). record { round = n; acked = r.acked; waiting = r.waiting }) a
    ∙ (ap (λ (xs : List ℕ). record { round = round; acked = xs; waiting = r.waiting }) b
    ∙ ap (λ (xs : List (Waiting C)). record { round = round; acked = acked; waiting = xs }) c)

-- whether the code sees that a read may be answered
pub seen_ready : {C : Type 0} (me applied : ℕ) (r : Reads C) (acked : List ℕ) (x : Waiting C) (seen is : Bool) → acked ≡ r.acked →
    seen ≡ (is_majority (length acked) (holders me (λ node. slice_index_or acked node 0) x.round) && nat_le x.read_index applied) → seen ≡ is → may_answer me applied r x ≡ is
seen_ready me applied r acked x seen is same as_seen so =
    ap (λ (given : List ℕ). is_majority (length given) (holders me (λ node. slice_index_or given node 0) x.round) && nat_le x.read_index applied) (sym same)
    ∙ (sym as_seen ∙ so)

-- the first of a queue
pub blocked_first : {C : Type 0} (ready : Waiting C → Bool) (xs : List (Waiting C)) (x : Waiting C) → x ≡ get_or xs 0 x → ready x ≡ false → IsBlocked ready xs
blocked_first ready [] x is waits = tt
blocked_first ready (y ∷ ys) x is waits = sym (ap ready is) ∙ waits

pub ready_first : {C : Type 0} (ready : Waiting C → Bool) (xs rest : List (Waiting C)) (x : Waiting C) (o : Option (Waiting C)) → x ≡ get_or xs 0 x → ready x ≡ true →
    xs ≡ option_to_list o ++ rest → IfSome o (λ y. IsTrue (ready y))
ready_first ready xs rest x None is may all = tt
ready_first {C = C} ready xs rest x (Some y) is may all = let same : x ≡ y = is ∙ ap (λ (zs : List (Waiting C)). get_or zs 0 x) all in sym (ap ready same) ∙ may

-- reads are answered in turn: what was done so far and what is owed for those that wait is what is owed for all
pub record Answering {S C O : Type 0} (is_read : C → Bool) (m : MachineMeaning S C O) (me : ℕ) (s was : RaftView S C O) (r first : Reads C) (done before : List (Waiting C)) (outputs earlier : List (RaftOut O)) : Type 0 where
  pub node : s ≡ was
  pub round : r.round ≡ first.round
  pub acked : r.acked ≡ first.acked
  pub waiting : filter (λ z. not (may_answer me was.applied first z)) r.waiting ≡ filter (λ z. not (may_answer me was.applied first z)) first.waiting
  pub answered : done ++ filter (may_answer me was.applied first) r.waiting ≡ before ++ filter (may_answer me was.applied first) first.waiting
  pub told : outputs ++ map (read_reply m was.machine) (filter (may_answer me was.applied first) r.waiting)
      ≡ earlier ++ map (read_reply m was.machine) (filter (may_answer me was.applied first) first.waiting)
  pub in_order : AreInOrder r.waiting
  pub reads : Each (λ x. IsTrue (is_read x.input.cmd)) r.waiting

module _ {S C O : Type 0} (is_read : C → Bool) (m : MachineMeaning S C O) (me : ℕ) (was : RaftView S C O) (first : Reads C) (before : List (Waiting C)) (earlier : List (RaftOut O)) where
  -- the first is
  pub answers_one : (node after : RaftView S C O) (r rest : Reads C) (done more : List (Waiting C)) (outputs longer : List (RaftOut O)) (x : Waiting C) (applied : ℕ) →
      Answering is_read m me node was r first done before outputs earlier →
      r.waiting ≡ x ∷ rest.waiting → may_answer me applied r x ≡ true → applied ≡ node.applied → rest.round ≡ r.round → rest.acked ≡ r.acked →
      after ≡ node → more ≡ done ++ x ∷ [] → longer ≡ outputs ++ read_reply m node.machine x ∷ [] →
      Answering is_read m me after was rest first more before longer earlier
  answers_one node after r rest done more outputs longer x applied k is ready same round acked stays adds tells =
      let p : Waiting C → Bool = may_answer me was.applied first in
      let here : p x ≡ true = sym (same_answers me applied was.applied r first x (same ∙ ap (λ s. s.applied) k.node) k.acked) ∙ ready in
      let reply : Waiting C → RaftOut O = read_reply m was.machine in
      let order : AreInOrder (x ∷ rest.waiting) = rw is at k.in_order in
      let each : Each (λ z. IsTrue (is_read z.input.cmd)) (x ∷ rest.waiting) = rw is at k.reads in
      record {
        node = stays ∙ k.node;
        round = round ∙ k.round;
        acked = acked ∙ k.acked;
        waiting = sym (filter_not_first p x rest.waiting here) ∙ (ap (filter (λ z. not (p z))) (sym is) ∙ k.waiting);
        answered = ap (λ xs. xs ++ filter p rest.waiting) adds ∙ (append_assoc done (x ∷ []) (filter p rest.waiting)
            ∙ (ap (λ xs. done ++ xs) (sym (filter_first p x rest.waiting here) ∙ ap (filter p) (sym is)) ∙ k.answered));
        told = ap (λ os. os ++ map reply (filter p rest.waiting)) (tells ∙ ap (λ (s : RaftView S C O). outputs ++ read_reply m s.machine x ∷ []) k.node)
            ∙ (append_assoc outputs (reply x ∷ []) (map reply (filter p rest.waiting))
            ∙ (ap (λ xs. outputs ++ map reply xs) (sym (filter_first p x rest.waiting here) ∙ ap (filter p) (sym is)) ∙ k.told));
        in_order = order.1;
        reads = each.1;
      }

  -- what was done once the first has to wait
  pub record Answered (s : RaftView S C O) (r : Reads C) (done : List (Waiting C)) (outputs : List (RaftOut O)) : Type 0 where
    pub node : s ≡ was
    pub reads : r ≡ without (may_answer me was.applied first) first
    pub answered : done ≡ before ++ filter (may_answer me was.applied first) first.waiting
    pub told : outputs ≡ earlier ++ map (read_reply m was.machine) (filter (may_answer me was.applied first) first.waiting)

  pub answers_all : (node : RaftView S C O) (r rest : Reads C) (done : List (Waiting C)) (outputs : List (RaftOut O)) (applied : ℕ) →
      Answering is_read m me node was r first done before outputs earlier →
      IsBlocked (may_answer me applied r) r.waiting → applied ≡ node.applied → rest.waiting ≡ r.waiting → rest.round ≡ r.round → rest.acked ≡ r.acked →
      Answered node rest done outputs
  answers_all node r rest done outputs applied k blocked same waiting round acked =
      let p : Waiting C → Bool = may_answer me was.applied first in
      let none = all_wait me was.applied first r.waiting k.in_order (still_blocked me applied was.applied r first r.waiting (same ∙ ap (λ s. s.applied) k.node) k.acked blocked) in
      let left : rest.waiting ≡ filter (λ z. not (p z)) first.waiting = waiting ∙ (sym none.1 ∙ k.waiting) in
      let same_round = round ∙ k.round in
      let same_acked = acked ∙ k.acked in
      record {
        node = k.node;
        reads = same_reads rest first.round first.acked _ same_round same_acked left;
        answered = sym (append-nil done) ∙ (ap (λ xs. done ++ xs) (sym none.0) ∙ k.answered);
        told = sym (append-nil outputs) ∙ (ap (λ xs. outputs ++ map (read_reply m was.machine) xs) (sym none.0) ∙ k.told);
      }
