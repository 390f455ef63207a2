use Rattle.std.proofs.Common.{◌≡◌, ℕ, zero, suc, [], ◌∷◌, Option, Some, None, ap, arith, length, refl, subst, if◌then◌else◌, is_none}
use Rattle.act_network.specs.ActWorlds.{ActWorld}
use Rattle.act_network.specs.Cells.{CellAct, CellDisk, all_kept, cell_word, cells, summing}
use Rattle.act_network.specs.Words.{by_words}
use Rattle.act_world.proofs.examples.worked_stops.Goals as goal
use Rattle.act_world.specs.ActViews.{ShowsNodes}
use Rattle.act_world.specs.Examples.{SmallNode, cell, node_on, small_run, stopped_by}
use Rattle.act_world.specs.Nodes.{ShowsNode}

abbrev node_in : SmallNode → Option SmallNode → SmallNode
node_in other None = other
node_in other (Some n) = n

-- the world after a stop by this word
abbrev world : ℕ → ActWorld ℕ ℕ ℕ ℕ CellDisk CellAct ℕ
world word = small_run (by_words summing all_kept cells cell_word (stopped_by word))

abbrev Stands : ℕ → ℕ → SmallNode → Type 0
Stands word n node = ShowsNode (world word).listed n node ((world word).state n) ((world word).disk n) ((world word).turn n) ((world word).down n)

nodes_stand : (word left : ℕ) → Stands word 0 (node_on (cell 0 5) (Some left)) → Stands word 1 (node_on (cell 0 0) None) →
    ShowsNodes (node_on (cell 0 5) (Some left) ∷ node_on (cell 0 0) None ∷ []) (world word).listed (world word).state (world word).disk (world word).turn (world word).down
nodes_stand word left first second zero node is = subst (λ (x : SmallNode). Stands word 0 x) (ap (node_in node) is) first
nodes_stand word left first second (suc zero) node is = subst (λ (x : SmallNode). Stands word 1 x) (ap (node_in node) is) second
nodes_stand word left first second (suc (suc n)) node is =
    let e : 0 ≡ 1 = ap (λ (o : Option SmallNode). let number : ℕ = if is_none o then 0 else 1 in number) is in absurd (omega (arith, e))

pub returns-clause-never_counts : goal.returns-clause-never_counts
returns-clause-never_counts c = record { nodes = nodes_stand 0 0 (refl, refl, refl) (refl, refl); flights = λ k. tt; image = refl; listed = refl; sent = refl }

pub returns-clause-counts : goal.returns-clause-counts
returns-clause-counts c = record { nodes = nodes_stand 1 5 (refl, refl, refl) (refl, refl); flights = λ k. tt; image = refl; listed = refl; sent = refl }

pub returns-clause-not_by_its_acts : goal.returns-clause-not_by_its_acts
returns-clause-not_by_its_acts c = λ s. (let e = ap length s.image in omega (arith, e))

pub returns-clause-not_what_another_leaves : goal.returns-clause-not_what_another_leaves
returns-clause-not_what_another_leaves c = λ s. (let e = ap length s.image in omega (arith, e))
