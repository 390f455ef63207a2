use Rattle.std.proofs.Common.{◌∙◌, refl, sym}
use Rattle.std.specs.Prelude.{slice_get}
use Rattle.lists.specs.Options.{if_some_weaker, of_some}
use Rattle.act_world.specs.Refusals.{left_at}
use Rattle.act_world.proofs.Delivering.{on_ok_two, starts-none, starts-some}
use Rattle.act_world.proofs.world.ActWorld.start.Goals as goal

pub returns-in-Some-clause-starts : goal.returns-in-Some-clause-starts
returns-in-Some-clause-starts g c =
    let v = c.args.self.now in let n = c.args.node in let d = g.D.SavesStates.disks in let k = c.in-Some.kept in
    let r = g.H.Rebootable.recovery v.handlers in
    let fits = g.H.Rebootable.fits v.handlers in
    on_ok_two c.start_from.result (λ starts keeps.
    starts-some d n r fits (g.H.Handlers.sound v.handlers n) v c.start_from.new.self c.requires.down c.in_ok-found.found c.in_ok-found.ensures.found k c.in-Some.is
    (of_some fits c.in_ok-found.found k c.in-Some.is c.in_ok-found.ensures.fits) keeps starts) c.start_from.ensures.starts c.start_from.ensures.sound

pub returns-in-None-clause-starts : goal.returns-in-None-clause-starts
returns-in-None-clause-starts g c =
    let v = c.args.self.now in
    starts-none g.D.SavesStates.disks c.args.node (g.H.Rebootable.recovery v.handlers) (g.H.Rebootable.fits v.handlers) (g.H.Handlers.sound v.handlers c.args.node) v v c.requires.down
    c.in_ok-found.found c.in_ok-found.ensures.found c.in-None.is refl

pub start_from-requires-clause-fits : goal.start_from-requires-clause-fits
start_from-requires-clause-fits g c = of_some (g.H.Rebootable.fits c.args.self.now.handlers) c.in_ok-found.found c.in-Some.kept c.in-Some.is c.in_ok-found.ensures.fits

pub start_from-requires-clause-opens : goal.start_from-requires-clause-opens
start_from-requires-clause-opens g c =
    if_some_weaker (left_at (slice_get c.args.self.now.nodes c.args.node)) (λ left is. sym is ∙ c.in-Some.is) c.in_ok-found.ensures.found
