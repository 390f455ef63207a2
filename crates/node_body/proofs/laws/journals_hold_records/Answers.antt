use Rattle.node_body.specs.Bodies.{entry_in}
use Rattle.node_body.specs.BodyLaws.{entry_in_is_format}
use Rattle.node_body.specs.GatedRecordLaws.{records_alone, records_are_found}
use Rattle.node_body.specs.JournalLaws.{change_is_format}
use Rattle.node_body.specs.Journals.{change}
use Rattle.node_body.proofs.laws.journals_hold_records.Goals as goal

pub returns-clause-found : goal.returns-clause-found
returns-clause-found g c = λ version nodes.
    records_are_found (change nodes (entry_in version g.C.Wire.format))
    (change_is_format nodes (entry_in version g.C.Wire.format) (entry_in_is_format version g.C.Wire.format g.met.C.Wire.is_format))

pub returns-clause-alone : goal.returns-clause-alone
returns-clause-alone g c = λ version nodes.
    records_alone (change nodes (entry_in version g.C.Wire.format))
    (change_is_format nodes (entry_in version g.C.Wire.format) (entry_in_is_format version g.C.Wire.format g.met.C.Wire.is_format))
