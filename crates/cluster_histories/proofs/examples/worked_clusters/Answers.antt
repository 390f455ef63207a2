-- Node by node, and by what a map has at a number after a change.
use Rattle.std.proofs.Common.{ℕ, zero, suc, ◌<◌, refl, arith, inl, inr, rules}
use Rattle.raft_clients.proofs.Lookups.{lookups}
use Rattle.node_histories.specs.Histories.{own}
use Rattle.cluster_histories.specs.Examples.{NodeDoesItsPart, NodeStoresFirst, tells_as_deeds, told_twice}
use Rattle.cluster_histories.proofs.examples.worked_clusters.Goals as goal

node_0 : NodeDoesItsPart 0 told_twice
node_0 = (tt, (tt, ((0, omega arith, refl), (tt, (tt, (refl, (tt, ((4, omega arith, refl), (tt, (tt, (simp lookups (0, omega arith, refl), (simp lookups (0, omega arith, refl), tt))))))))))))

node_1 : NodeDoesItsPart 1 told_twice
node_1 = (tt, (tt, ((0, omega arith, refl), (tt, (tt, ((1, omega arith, refl), (tt, tt)))))))

node_2 : NodeDoesItsPart 2 told_twice
node_2 = (refl, (tt, tt))

each : (n : ℕ) → n < 3 → NodeDoesItsPart n told_twice
each zero below = node_0
each (suc zero) below = node_1
each (suc (suc zero)) below = node_2
each (suc (suc (suc n))) below = absurd (omega arith)

pub returns-clause-told : goal.returns-clause-told
returns-clause-told c = record {
  at_nodes = search rules;
  each = each;
  not_forged = (tt, (tt, (tt, ((0, omega arith, refl), (tt, (tt, ((0, omega arith, refl), (tt, (tt, (tt, (tt, (tt, (tt, ((0, omega arith, refl), (tt, (tt, ((0, omega arith, refl), (tt, (tt, (tt, (tt, tt)))))))))))))))))))));
}

stores_0 : NodeStoresFirst 0 (own 0 tells_as_deeds)
stores_0 = (tt, ((0, omega arith, refl), ((1, omega arith, refl), (tt, (refl, ((0, omega arith, refl), (tt, (simp lookups (0, omega arith, refl), tt))))))))

stores_1 : NodeStoresFirst 1 (own 1 tells_as_deeds)
stores_1 = (tt, ((0, omega arith, refl), (tt, ((0, omega arith, refl), (inl refl, tt)))))

stores_2 : NodeStoresFirst 2 (own 2 tells_as_deeds)
stores_2 = (tt, (inr refl, (refl, tt)))

each_stores : (n : ℕ) → n < 3 → NodeStoresFirst n (own n tells_as_deeds)
each_stores zero below = stores_0
each_stores (suc zero) below = stores_1
each_stores (suc (suc zero)) below = stores_2
each_stores (suc (suc (suc n))) below = absurd (omega arith)

pub returns-clause-told_by_deeds : goal.returns-clause-told_by_deeds
returns-clause-told_by_deeds c = record {
  at_nodes = search rules;
  each = each_stores;
  not_forged = (tt, (tt, (tt, ((1, omega arith, refl), ((0, omega arith, refl), (tt, (tt, ((0, omega arith, refl), (tt, (tt, (tt, ((0, omega arith, refl), (tt, ((0, omega arith, refl), (tt, (tt, tt))))))))))))))));
}
