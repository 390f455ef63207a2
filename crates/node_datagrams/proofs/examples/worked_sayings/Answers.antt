-- Datagrams that were sent, or lost in sending.
use Rattle.std.proofs.Common.{[], ◌∷◌, refl}
use Rattle.node_datagrams.specs.Examples.{lost, sent}
use Rattle.node_datagrams.proofs.examples.worked_sayings.Goals as goal

pub returns-clause-both : goal.returns-clause-both
returns-clause-both c = record { did = sent 0 ∷ sent 1 ∷ []; is = refl; says = (tt, (tt, tt)); datagrams = refl }

pub returns-clause-one_lost : goal.returns-clause-one_lost
returns-clause-one_lost c = record { did = lost 0 ∷ sent 1 ∷ []; is = refl; says = (tt, (tt, tt)); datagrams = refl }

pub returns-clause-nothing : goal.returns-clause-nothing
returns-clause-nothing c = record { did = []; is = refl; says = tt; datagrams = refl }

pub returns-clause-begun : goal.returns-clause-begun
returns-clause-begun c = record { did = sent 0 ∷ []; is = refl; says = (tt, tt); datagrams = refl }

pub returns-clause-not_begun : goal.returns-clause-not_begun
returns-clause-not_begun c = record { did = []; is = refl; says = tt; datagrams = refl }

pub returns-clause-all : goal.returns-clause-all
returns-clause-all c = record { did = sent 0 ∷ lost 1 ∷ []; is = refl; says = (tt, (tt, tt)); datagrams = refl }
