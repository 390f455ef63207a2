use Rattle.std.proofs.Common.{◌≡◌, ap, subst, take, ◌∙◌}
use Rattle.node_config.specs.Configs.{configured}
use Rattle.node_config.specs.Outcomes.{Tells}
use Rattle.node_config.proofs.Making.{comes-fits, comes-tells}
use Rattle.node_config.proofs.Texts.{configured-front}
use Rattle.node_config.proofs.reading.read_config.Goals as goal
use Rattle.lists.specs.Options.{if_some, of_some}

pub returns-clause-told : goal.returns-clause-told
returns-clause-told g c =
    let s = g.S.Source in
    let me = c.args.me in
    if_some _ (s.left c.args.source.now) (λ bytes is.
    let front = of_some (λ given. c.in_ok-text.text.items ≡ take 65537 given) (s.left c.args.source.now) bytes is c.in_ok-text.ensures.text in
    subst (λ found. Tells found c.config_in.result) (ap (configured me) (c.deref.ensures.value ∙ front) ∙ configured-front me bytes)
    (comes-tells _ c.config_in.result c.config_in.ensures))

pub returns-clause-fits : goal.returns-clause-fits
returns-clause-fits g c = comes-fits c.args.me _ c.config_in.result c.config_in.ensures
