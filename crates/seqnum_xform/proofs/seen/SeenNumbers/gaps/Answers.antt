use Rattle.std.proofs.Common.{◌≡◌, ◌≤◌, ap, arith, length}
use Rattle.std.proofs.lemmas.Option.{slice_get_past}
use Rattle.std.specs.Prelude.{None, slice_get}
use Rattle.number_set.specs.NumberSetLaws.{nothing-marked}
use Rattle.seqnum_xform.specs.Numbering.{Seen}
use Rattle.seqnum_xform.proofs.seen.SeenNumbers.gaps.Goals as goal

-- a sender without a place
pub returns-in-None : goal.returns-in-None
returns-in-None c =
    let seen : Seen = c.args.self.now in
    let past : length seen ≤ c.args.sender = omega (arith, c.in-None.ensures.lookup.3, ap length c.deref.ensures.value, ap length c.self.view_is) in
    let none : slice_get seen c.args.sender ≡ None = slice_get_past seen c.args.sender past in
    rw none nothing-marked
