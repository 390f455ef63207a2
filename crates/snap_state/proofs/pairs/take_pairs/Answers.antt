use Rattle.std.proofs.Common.{subst, arith}
use Rattle.wire_fields.specs.Fields.{Reads}
use Rattle.snap_state.specs.Tables.{a_count}
use Rattle.snap_state.specs.TableLaws.{none_few}
use Rattle.snap_state.proofs.pairs.take_pairs.Goals as goal

pub returns-then-count-most : goal.returns-then-count-most
returns-then-count-most g c =
    none_few g.K.Ord.cmp g.K.Wire.format g.V.Wire.format c.args.most g.met.K.Wire.is_format g.met.V.Wire.is_format c.args.input.now c.in-Some.count c.u32.new.self
    (subst (λ o. Reads a_count c.args.input.now c.u32.new.self o) c.in-Some.is c.u32.ensures.value) (omega arith)
