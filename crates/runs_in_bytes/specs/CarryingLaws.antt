-- Where a network in bytes is shown, it holds the bytes of each message in flight, and of no other.
use Rattle.std.specs.Prelude.{◌≡◌, ℕ, List, map, Option, None, Some, IfSome, option_map, slice_get, refl}
use Rattle.std.proofs.Common.{subst, ◌∙◌}
use Rattle.std.proofs.lemmas.Option.{slice_get-map}
use Rattle.net_semantics.specs.Shown.{Shown, IsSoundPacket, ShowsAt}
use Rattle.net_semantics.specs.Worlds.{Packet}
use Rattle.vst_base.specs.declared.stack.StackId.{StackId}
use Rattle.wire_fields.specs.Formats.{Format}
use Rattle.wired.specs.WiredRuns.{packet_in_bytes}
use Rattle.wired.specs.Wiring.{no_name}
use Rattle.runs_in_bytes.specs.Carrying.{IsCarried, held_content}

-- what is kept of a packet goes with its last copy
abbrev pub GoesWithLast : Option (Shown (List ℕ)) → Type 0
GoesWithLast o = IfSome o (λ p. p.copies ≡ 0 → p.content ≡ None)

goes : (o : Option (Shown (List ℕ))) (nodes taken : ℕ) → IfSome o (IsSoundPacket nodes taken) → GoesWithLast o
goes None nodes taken is = tt
goes (Some p) nodes taken is = is.gone

module _ {M : Type 0} (f : Format M) (stack : StackId) where
  carried_at : (o : Option (Shown (List ℕ))) (q : Option (Packet M)) → GoesWithLast o → ShowsAt o (option_map (packet_in_bytes f stack no_name) q)
      → IsCarried f stack (held_content o) q
  carried_at None None goes_so shows = refl
  carried_at None (Some q) goes_so shows = absurd shows
  carried_at (Some p) None goes_so shows = absurd shows
  carried_at (Some p) (Some q) goes_so shows = (shows.content, λ none. goes_so (shows.copies ∙ none))

  pub carried : (name : List ℕ) (ps : List (Packet M)) (o : Option (Shown (List ℕ))) (k nodes taken : ℕ) → name ≡ no_name
      → IfSome o (IsSoundPacket nodes taken) → ShowsAt o (slice_get (map (packet_in_bytes f stack name) ps) k)
      → IsCarried f stack (held_content o) (slice_get ps k)
  carried name ps o k nodes taken named sound shows =
      let as_named = subst (λ (x : List ℕ). ShowsAt o (slice_get (map (packet_in_bytes f stack x) ps) k)) named shows in
      carried_at o (slice_get ps k) (goes o nodes taken sound)
      (subst (λ q. ShowsAt o q) (slice_get-map (packet_in_bytes f stack no_name) ps k) as_named)
