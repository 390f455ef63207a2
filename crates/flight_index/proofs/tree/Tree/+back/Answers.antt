use Rattle.std.proofs.Common.{◌≡◌, ◌<◌, ◌≤◌, ◌+◌, ◌-◌, ℕ, List, Option, Some, ◌++◌, length, get_or, set, rules, arith, ap, sym, subst, ◌∙◌}
use Rattle.std.proofs.lemmas.List.{length-set}
use Rattle.flight_index.specs.Flights.{IsCounted}
use Rattle.flight_index.specs.Trees.{packets_of, HasPackets}
use Rattle.flight_index.proofs.Counts.{counted-back, room-back}
use Rattle.flight_index.proofs.Trees.{changed-left, changed-right}
use Rattle.flight_index.proofs.tree.Tree.+back.Goals as goal
use Rattle.flight_index.proofs.tree.Tree.+back.Goals.{in-Page, in-Fork+then-k-len, in-Fork+else-k-len}

pub overflow_add-self : goal.overflow_add-self
overflow_add-self t c =
    let h = subst (λ (ps : List (Option ℕ)). IsCounted ps c.self.inside.len c.self.inside.counts) c.self.view_is c.self.invariant.1 in
    let few : c.self.inside.len < 4294967296 = search rules in
    omega (arith, few, ap (λ n. get_or c.self.inside.counts n 0) c.index.ensures, room-back h c.requires.place c.requires.node c.requires.none)

-- the packets after it
changed : (t : ℕ) (c : goal.Joined-self t) → packets_of c.match-self.self-inside.branch ≡ set c.args.self.now c.args.k (Some c.args.to)
changed t c = elim c.match-self.branch [
  | in-Page w ↦
      ap (λ v. packets_of v.branch) w.self-inside-is ∙ ap (λ xs. set xs c.args.k (Some c.args.to)) (sym (ap packets_of w.in-Page.is) ∙ c.self.view_is)
  | in-Fork+then-k-len w ↦
      let e : c.args.self.now ≡ w.in-Fork.left.value ++ w.in-Fork.right.value = sym c.self.view_is ∙ ap packets_of w.in-Fork.is in
      let n = w.len.ensures ∙ ap length w.deref.ensures in
      let inside : c.args.k < length w.in-Fork.left.value = omega (arith, n, w.if-k-len.true) in
      ap (λ v. packets_of v.branch) w.self-inside-is
      ∙ changed-left w.in-Fork.left.value w.in-Fork.right.value c.args.k (Some c.args.to) e inside (w.back.ensures ∙ ap (λ xs. set xs c.args.k (Some c.args.to)) w.deref_mut.ensures.value)
  | in-Fork+else-k-len w ↦
      let e : c.args.self.now ≡ w.in-Fork.left.value ++ w.in-Fork.right.value = sym c.self.view_is ∙ ap packets_of w.in-Fork.is in
      let n = w.len.ensures ∙ ap length w.deref.ensures in
      let m = w.len-else-k-len.ensures ∙ ap length w.deref-else-k-len.ensures in
      let after : w.len-else-k-len.result ≤ c.args.k = omega (arith, n, m, w.if-k-len.false) in
      ap (λ v. packets_of v.branch) w.self-inside-is
      ∙ changed-right w.in-Fork.left.value w.in-Fork.right.value c.args.k w.len-else-k-len.result (Some c.args.to) e (sym m) after
      (w.back-else-k-len.ensures ∙ ap (λ xs. set xs (c.args.k - w.len-else-k-len.result) (Some c.args.to)) w.deref_mut-else-k-len.ensures.value)
]

some : (t : ℕ) (c : goal.Joined-self t) → HasPackets c.match-self.self-inside.branch
some t c = elim c.match-self.branch [
  | in-Page w ↦
      let was = subst HasPackets w.in-Page.is c.self.invariant.0 in
      subst (λ v. HasPackets v.branch) (sym w.self-inside-is) (omega (arith, length-set w.in-Page.packets.items c.args.k (Some c.args.to), was))
  | in-Fork+then-k-len w ↦
      let was = subst HasPackets w.in-Fork.is c.self.invariant.0 in
      let new = w.back.ensures ∙ ap (λ xs. set xs c.args.k (Some c.args.to)) w.deref_mut.ensures.value in
      subst (λ v. HasPackets v.branch) (sym w.self-inside-is) (omega (arith, ap length new, length-set w.in-Fork.left.value c.args.k (Some c.args.to), was.0), was.1)
  | in-Fork+else-k-len w ↦
      let was = subst HasPackets w.in-Fork.is c.self.invariant.0 in
      let j = c.args.k - w.len-else-k-len.result in
      let new = w.back-else-k-len.ensures ∙ ap (λ xs. set xs j (Some c.args.to)) w.deref_mut-else-k-len.ensures.value in
      subst (λ v. HasPackets v.branch) (sym w.self-inside-is) (was.0, omega (arith, ap length new, length-set w.in-Fork.right.value j (Some c.args.to), was.1))
]

-- nothing else changes but how many are counted
counts : (t : ℕ) (c : goal.Joined-self t) → (c.match-self.self-inside.len ≡ c.self.inside.len)
    × (c.match-self.self-inside.counts ≡ set c.self.inside.counts c.index.result (get_or c.self.inside.counts c.index.result 0 + 1))
counts t c = elim c.match-self.branch [
  | in-Page w ↦ (ap (λ v. v.len) w.self-inside-is, ap (λ v. v.counts) w.self-inside-is)
  | in-Fork+then-k-len w ↦ (ap (λ v. v.len) w.self-inside-is, ap (λ v. v.counts) w.self-inside-is)
  | in-Fork+else-k-len w ↦ (ap (λ v. v.len) w.self-inside-is, ap (λ v. v.counts) w.self-inside-is)
]

pub invariant_of-self : goal.invariant_of-self
invariant_of-self t c =
    let h = subst (λ (ps : List (Option ℕ)). IsCounted ps c.self.inside.len c.self.inside.counts) c.self.view_is c.self.invariant.1 in
    let now = counted-back h c.requires.place c.requires.node c.requires.none in
    (some t c, rw (changed t c, (counts t c).0, (counts t c).1, c.index.ensures) now)

pub returns : goal.returns
returns t c = changed t c
