use Rattle.std.proofs.Common.{ap, ◌∙◌}
use Rattle.claim_verdicts.specs.Marks.{is_name}
use Rattle.claim_verdicts.specs.Places.{place_of}
use Rattle.claim_verdicts.proofs.Naming.{position-place}
use Rattle.claim_verdicts.proofs.names.Names.place.Goals as goal

pub returns-clause-place : goal.returns-clause-place
returns-clause-place c =
    let index = rw (c.number.ensures, c.number-2.ensures) at c.get_index_of.ensures.index in
    let test = is_name c.args.client c.args.request in
    index ∙ (position-place test c.self.inside.names.keys ∙ ap (place_of test) c.self.view_is)
