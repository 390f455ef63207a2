use Rattle.std.proofs.Common.{◌≡◌, ℕ, Bool, List, [], ◌∷◌, Option, Some, None, ap, arith, refl, sym, ◌∙◌, if◌then◌else◌, nat_eq}
use Rattle.act_world.proofs.examples.worked_words.Goals as goal
use Rattle.act_world.specs.Examples.{SmallNode, cell, node_on}

abbrev durable_of : Option SmallNode → ℕ
durable_of None = 0
durable_of (Some n) = n.disk.durable

abbrev first_durable : List SmallNode → ℕ
first_durable [] = 0
first_durable (n ∷ ns) = n.disk.durable

abbrev number : Bool → ℕ
number b = if b then 1 else 0

pub returns-clause-durable : goal.returns-clause-durable
returns-clause-durable c = record { node = node_on (cell 0 5) None; there = refl; left_is = refl; disk = cell 0 5; knows = λ k. refl; after_is = refl }

pub returns-clause-read : goal.returns-clause-read
returns-clause-read c = record { node = node_on (cell 0 5) None; there = refl; left_is = refl; disk = cell 0 5; knows = λ k. refl; after_is = refl }

pub returns-clause-not_what_another_leaves : goal.returns-clause-not_what_another_leaves
returns-clause-not_what_another_leaves c = λ l. (let e = l.left_is ∙ sym (ap durable_of l.there) in omega (arith, e))

pub returns-clause-moved_out : goal.returns-clause-moved_out
returns-clause-moved_out c = record { node = node_on (cell 0 5) None; there = refl; left_is = refl; disk = cell 0 0; knows = λ k. refl; after_is = refl }

pub returns-clause-not_the_held_state : goal.returns-clause-not_the_held_state
returns-clause-not_the_held_state c = λ l.
    (let before : 0 ≡ l.node.disk.durable = ap durable_of l.there in
    let after : 5 ≡ l.disk.durable = ap (λ v. first_durable v.nodes) l.after_is in
    let knows : number (nat_eq 0 5) ≡ number (nat_eq 0 0) =
    ap (λ n. number (nat_eq 0 n)) after ∙ (ap number (l.knows 0) ∙ sym (ap (λ n. number (nat_eq 0 n)) before)) in
    omega (arith, knows))
