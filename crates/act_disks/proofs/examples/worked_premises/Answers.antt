use Rattle.std.proofs.Common.{◌≡◌, false, true, refl}
use Rattle.node_body.specs.Journals.{from_gate}
use Rattle.wire_fields.specs.Bytes.{has_bytes, number_bytes, number_in, read_number}
use Rattle.act_disks.proofs.examples.worked_premises.Goals as goal

pub returns-clause-no_short_name : goal.returns-clause-no_short_name
returns-clause-no_short_name g h = cc

pub returns-clause-taken : goal.returns-clause-taken
unfolding number_bytes number_in has_bytes read_number from_gate
returns-clause-taken g = (refl, (refl, tt), (refl, (tt, tt), tt))

pub returns-clause-not_left : goal.returns-clause-not_left
unfolding number_bytes number_in has_bytes read_number from_gate
returns-clause-not_left g h = let clash : false ≡ true = h.1.0 in cc

pub returns-clause-not_up : goal.returns-clause-not_up
returns-clause-not_up g h = let clash = h.0 in cc
