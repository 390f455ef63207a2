-- What a world in bytes tells of its packets is what the world within tells.
use Rattle.std.specs.Prelude.{◌≡◌, ℕ, List, length, Option, Some, None, option_map, slice_get, refl}
use Rattle.std.proofs.Common.{ap, ◌∙◌}
use Rattle.std.proofs.lemmas.List.{length-map}
use Rattle.std.proofs.lemmas.Option.{slice_get-map}
use Rattle.net_semantics.specs.Worlds.{Packet, World, copies, copies_of, ends, ends_of}
use Rattle.vst_base.specs.declared.stack.StackId.{StackId}
use Rattle.wire_fields.specs.Formats.{Format}
use Rattle.wired.specs.WiredRuns.{packet_in_bytes, world_in_bytes}

module _ {M : Type 0} (f : Format M) (stack : StackId) (name : List ℕ) where
  abbrev within : Option (Packet M) → Option (Packet (List ℕ))
  within = option_map (packet_in_bytes f stack name)

  same_copies : (o : Option (Packet M)) → copies_of (within o) ≡ copies_of o
  same_copies None = refl
  same_copies (Some p) = refl

  same_ends : (o : Option (Packet M)) → ends_of (within o) ≡ ends_of o
  same_ends None = refl
  same_ends (Some p) = refl

  module _ {S K : Type 0} (w : World S K M) where
    pub as_many_sent : length (world_in_bytes f stack name w).packets ≡ length w.packets
    as_many_sent = length-map w.packets (packet_in_bytes f stack name)

    pub as_many_copies : (k : ℕ) → copies (world_in_bytes f stack name w) k ≡ copies w k
    as_many_copies k = ap copies_of (slice_get-map (packet_in_bytes f stack name) w.packets k) ∙ same_copies (slice_get w.packets k)

    pub ends_alike : (k : ℕ) → ends (world_in_bytes f stack name w) k ≡ ends w k
    ends_alike k = ap ends_of (slice_get-map (packet_in_bytes f stack name) w.packets k) ∙ same_ends (slice_get w.packets k)
