use Rattle.std.proofs.Common.{◌≡◌, ◌∷◌, arith, rules}
use Rattle.std.specs.Fmt.{decimal}
use Rattle.schedule_make.proofs.Letters.{letter-number}
use Rattle.schedule_make.proofs.inputs.word.Goals as goal

pub from_token-requires : goal.from_token-requires
from_token-requires g c =
    let is : c.deref.result.now ≡ c.args.letter ∷ decimal c.args.n = search rules in
    (omega arith, rw is (letter-number _ c.args.letter c.args.n c.requires.room c.requires.letter (omega (arith, c.ranges.n.fits))))
