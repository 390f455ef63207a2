use Rattle.std.proofs.Common.{◌≡◌, ◌∙◌, sym, subst, arith}
use Rattle.std.proofs.lemmas.Bool.{false≢true}
use Rattle.toml.specs.View.{table_view}
use Rattle.node_config.specs.Outcomes.{Comes}
use Rattle.node_config.proofs.Making.{read-table, refuse-text}
use Rattle.node_config.proofs.reading.config_in.Goals as goal

pub returns-in-Ok : goal.returns-in-Ok
returns-in-Ok c =
    let read = c.in-Ok.ensures.ok in
    subst (λ is. Comes is c.config_of.result) (sym (read-table c.args.me c.args.text.now (table_view c.in-Ok.table) (omega arith) read.0 read.1)) c.config_of.ensures

pub returns-in-Err-2 : goal.returns-in-Err-2
returns-in-Err-2 c =
    refuse-text c.args.me c.args.text.now (c.in-Err-2.ensures.refused (λ wants.
    let same : c.in-Err.error ≡ c.in-Err-2.field-0 = cc (sym c.in-Err.is ∙ c.in-Err-2.is) in
    false≢true (sym c.if-is_memory.false ∙ c.is_memory.ensures.1 (rw same wants))))
