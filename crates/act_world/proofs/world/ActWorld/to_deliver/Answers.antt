use Rattle.std.proofs.Common.{◌≡◌, Some, arith, length, refl, subst}
use Rattle.std.specs.Prelude.{slice_get}
use Rattle.std.proofs.lemmas.Option.{slice_get_read}
use Rattle.lists.specs.Options.{of_some}
use Rattle.net_semantics.specs.Shown.{IsSoundPacket}
use Rattle.act_world.proofs.world.ActWorld.to_deliver.Goals as goal

pub is_up-requires : goal.is_up-requires
is_up-requires g c =
    let v = c.args.self.now in let i = c.self.inside in let f = c.in-Some.flight.now in let xs = c.deref.result.now in let k = c.args.k in
    let found = c.in-Some.ensures.lookup in
    let read : slice_get xs k ≡ Some f = slice_get_read xs (length xs) k f refl found.3.0 found.1 in
    let inside : slice_get i.flights.items k ≡ Some f = subst (λ ys. slice_get ys k ≡ Some f) c.deref.ensures.value read in
    let there : slice_get v.flights k ≡ Some f = subst (λ x. slice_get x.flights k ≡ Some f) c.self.view_is inside in
    let sound = of_some (λ x. IsSoundPacket (g.H.Handlers.meaning v.handlers).nodes v.taken x.packet) (slice_get v.flights k) f there (c.requires.sound.flights k) in
    let a = sound.destination in let b = c.requires.sound.nodes in let dest = c.destination-node.ensures in
    omega (arith, a, b, dest)

pub is_idle-requires : goal.is_idle-requires
is_idle-requires g c =
    let v = c.args.self.now in let i = c.self.inside in let f = c.in-Some.flight.now in let xs = c.deref.result.now in let k = c.args.k in
    let found = c.in-Some.ensures.lookup in
    let read : slice_get xs k ≡ Some f = slice_get_read xs (length xs) k f refl found.3.0 found.1 in
    let inside : slice_get i.flights.items k ≡ Some f = subst (λ ys. slice_get ys k ≡ Some f) c.deref.ensures.value read in
    let there : slice_get v.flights k ≡ Some f = subst (λ x. slice_get x.flights k ≡ Some f) c.self.view_is inside in
    let sound = of_some (λ x. IsSoundPacket (g.H.Handlers.meaning v.handlers).nodes v.taken x.packet) (slice_get v.flights k) f there (c.requires.sound.flights k) in
    let a = sound.destination in let b = c.requires.sound.nodes in let dest = c.destination-node.ensures in
    omega (arith, a, b, dest)
