-- What a world tells of a packet.
use Rattle.std.specs.Prelude.{ℕ, ◌<◌, IfSome, Option, Some, None}
use Rattle.std.proofs.Common.{subst}
use Rattle.net_semantics.specs.Shown.{IsSoundPacket, Shown, ShowsAt}
use Rattle.net_semantics.specs.Worlds.{Packet, ends_of}

-- an end that a sound world tells is one of its nodes
pub ends_below : {N : Type 0} (nodes taken : ℕ) (o : Option (Shown N)) (told : Option (Packet N)) → ShowsAt o told → IfSome o (IsSoundPacket nodes taken)
    → IfSome (ends_of told) (λ e. e.1 < nodes)
ends_below nodes taken None None shows sound = tt
ends_below nodes taken (Some p) (Some q) shows sound = subst (λ n. n < nodes) shows.destination sound.destination
ends_below nodes taken None (Some q) shows sound = absurd shows
ends_below nodes taken (Some p) None shows sound = absurd shows
