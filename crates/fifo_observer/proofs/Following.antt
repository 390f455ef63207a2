-- A run over FIFO channels goes on by a step: its image, what clients saw, and the packets that were sent.
use Rattle.std.specs.Prelude.{◌≡◌, ℕ, zero, suc, ◌+◌, ◌≤◌, List, [], ◌∷◌, ◌++◌, length, take, Option, Some, None, option_map, slice_get}
use Rattle.std.proofs.Common.{ap, append_assoc, arith, refl, subst, sym, ◌∙◌}
use Rattle.std.proofs.lemmas.List.{append-nil, length-map, map-append, take_all}
use Rattle.std.proofs.lemmas.Option.{slice_get-map}
use Rattle.lists.specs.Places.{take_next}
use Rattle.handler_trait.specs.Handling.{Meaning, Recovery}
use Rattle.net_semantics.specs.Runs.{IsAllowed, no_recovery, run, run_from, trace}
use Rattle.net_semantics.specs.RunLaws.{run_from-append, trace_from-append}
use Rattle.net_semantics.specs.Steps.{Event, after_event, copied, delivered, delivery, items_of, next, next_in, rebooted, event_in}
use Rattle.net_semantics.specs.Worlds.{Packet, World, change_at, ends_of, first_world, sent_by}
use Rattle.vst_base.specs.Nets.{Copied, Delivered, Fate, Lost, StepView, AtNode, OfPacket, Starts, Stops, view_of}
use Rattle.vst_base.specs.declared.net.Net.{Net}
use Rattle.vst_base.specs.declared.seq.SeqMsg.{SeqMsg}
use Rattle.vst_base.specs.declared.step.Item.{Item}
use Rattle.vst_base.specs.declared.step.Step.{Step}
use Rattle.fifo_xform.specs.Fifo.{FifoState, fifo}
use Rattle.fifo_xform.specs.Image.{fifo_image, fifo_image_from, gives_packet, image_of_step}
use Rattle.fifo_observer.specs.Channels.{ChannelsView, Follows, ends_in}
use Rattle.fifo_observer.specs.Observed.{HasFollowed, IsGiven}

module _ {S K I O M : Type 0} (m : Meaning S I O M) (r : Recovery S K) where
  -- packets that were sent keep their ends, and further ones come after them
  pub record Grows (before after : World S K M) : Type 0 where
    pub more : List (ℕ × ℕ)
    pub is : ends_in after.packets ≡ ends_in before.packets ++ more

  ends-copied : (fate : Fate) (k : ℕ) (ps : List (Packet M)) → ends_in (change_at (copied fate) k ps) ≡ ends_in ps
  ends-copied fate k [] = refl
  ends-copied Delivered zero (p ∷ ps) = refl
  ends-copied Copied zero (p ∷ ps) = refl
  ends-copied Lost zero (p ∷ ps) = refl
  ends-copied fate (suc k) (p ∷ ps) = ap (λ es. (p.source, p.destination) ∷ es) (ends-copied fate k ps)

  grows-event : (w v : World S K M) (e : Option (Event S I O M)) → ends_in v.packets ≡ ends_in w.packets → Grows w (after_event v e)
  grows-event w v None same = record { more = []; is = same ∙ sym (append-nil (ends_in w.packets)) }
  grows-event w v (Some e) same = record {
    more = ends_in (sent_by e.node e.effect.sends);
    is = map-append (λ p. (p.source, p.destination)) v.packets (sent_by e.node e.effect.sends) ∙ ap (λ es. es ++ ends_in (sent_by e.node e.effect.sends)) same;
  }

  grows-start : (w : World S K M) (n : ℕ) (o : Option K) → ends_in (rebooted r w n o).packets ≡ ends_in w.packets
  grows-start w n None = refl
  grows-start w n (Some x) = refl

  grows-next : (w : World S K M) (v : StepView I) → Grows w (next_in m r w v)
  grows-next w (AtNode n input) = grows-event w w (event_in m w (AtNode n input)) refl
  grows-next w (OfPacket k fate) = grows-event w _ (delivery m w (delivered fate (slice_get w.packets k))) (ends-copied fate k w.packets)
  grows-next w (Stops n) = grows-event w _ None refl
  grows-next w (Starts n) = grows-event w _ None (grows-start w n (w.kept n))

  pub grows-run : (ss : List (Step I)) (s : Step I) → Grows (run m r ss) (run m r (ss ++ s ∷ []))
  grows-run ss s = subst (Grows (run m r ss)) (sym (run_from-append m r (first_world m) ss (s ∷ []))) (grows-next (run m r ss) (view_of s))

-- the ends of a packet, by its place
pub ends-at : {M : Type 0} (ps : List (Packet M)) (k : ℕ) → ends_of (slice_get ps k) ≡ slice_get (ends_in ps) k
ends-at {M = M} ps k = by-packet (slice_get ps k) ∙ sym (slice_get-map (λ (p : Packet M). (p.source, p.destination)) ps k) where
  by-packet : (o : Option (Packet M)) → ends_of o ≡ option_map (λ p. (p.source, p.destination)) o
  by-packet None = refl
  by-packet (Some p) = refl

-- the packets up to k were added, and packet k is
pub caught-one : {M : Type 0} (ps : List (Packet M)) (xs : List (ℕ × ℕ)) (k : ℕ) (e : ℕ × ℕ) (c d : ChannelsView) → ends_in ps ≡ xs → ends_of (slice_get ps k) ≡ Some e
    → ((es : List (ℕ × ℕ)) → Follows c es → Follows d (es ++ e ∷ [])) → Follows c (take k xs) → Follows d (take (k + 1) xs)
caught-one ps xs k e c d is at pushes f =
    let there : slice_get xs k ≡ Some e = ap (λ es. slice_get es k) (sym is) ∙ (sym (ends-at ps k) ∙ at) in
    let next : suc k ≡ k + 1 = omega arith in
    subst (Follows d) (take_next xs k e there ∙ ap (λ n. take n xs) next) (pushes (take k xs) f)

-- all were added
pub caught-all : {M : Type 0} (ps : List (Packet M)) (xs : List (ℕ × ℕ)) (k : ℕ) (c : ChannelsView) → ends_in ps ≡ xs → length ps ≤ k → Follows c (take k xs) → Follows c xs
caught-all {M = M} ps xs k c is le f = subst (Follows c) (take_all k xs (omega (arith, le, ap length is, length-map {B = ℕ × ℕ} ps (λ p. (p.source, p.destination))))) f

module _ {S I O M : Type 0} (m : Meaning S I O M) where
  image-more : {K : Type 0} (r : Recovery (FifoState S M) K) (w : World (FifoState S M) K (SeqMsg M)) (ss : List (Step I)) (s : Step I) → fifo_image_from m r w (ss ++ s ∷ [])
      ≡ fifo_image_from m r w ss ++ image_of_step s (gives_packet m.nodes (run_from (fifo m) r w ss) s)
  image-more r w [] s = append-nil (image_of_step s (gives_packet m.nodes w s))
  image-more r w (t ∷ ss) s =
      let first = image_of_step t (gives_packet m.nodes w t) in
      ap (λ xs. first ++ xs) (image-more r (next (fifo m) r w t) ss s)
      ∙ sym (append_assoc first (fifo_image_from m r (next (fifo m) r w t) ss) (image_of_step s (gives_packet m.nodes (run_from (fifo m) r w (t ∷ ss)) s)))

  module _ {F : Type 0} (follows : F → List (Step I) → List (Item I O) → Type 0) (r : Recovery (FifoState S M) (FifoState S M)) (same : r ≡ no_recovery) (net : Net) (ss : List (Step I)) (s : Step I) where
    -- the map has taken the image of one more step, and seen what clients saw of it, and the channels have the packets that it sent
    pub followed-more : (old mid new : F) (c d : ChannelsView) (given : Option ℕ) (seen : List (Item I O))
        → ((xs : List (Step I)) (items : List (Item I O)) → follows old xs items → follows mid (xs ++ image_of_step s given) items)
        → ((xs : List (Step I)) (items : List (Item I O)) → follows mid xs items → follows new xs (items ++ seen))
        → ((es more : List (ℕ × ℕ)) → ends_in (run (fifo m) r (ss ++ s ∷ [])).packets ≡ es ++ more → Follows c es → Follows d (es ++ more))
        → HasFollowed m r follows (record { map = old; channels = c }) ss → IsGiven m r given ss s → IsAllowed net (fifo m) r (ss ++ s ∷ [])
        → seen ≡ items_of (fifo m) (run (fifo m) r ss) s → HasFollowed m r follows (record { map = new; channels = d }) (ss ++ s ∷ [])
    followed-more old mid new c d given seen take_step see caught had looked allowed saw =
        let given_is : given ≡ gives_packet m.nodes (run (fifo m) no_recovery ss) s = looked net same allowed ∙ ap (λ x. gives_packet m.nodes (run (fifo m) x ss) s) same in
        let image_is : fifo_image m ss ++ image_of_step s given ≡ fifo_image m (ss ++ s ∷ []) =
        ap (λ o. fifo_image m ss ++ image_of_step s o) given_is ∙ sym (image-more no_recovery (first_world (fifo m)) ss s) in
        let trace_is : trace (fifo m) r ss ++ seen ≡ trace (fifo m) r (ss ++ s ∷ []) =
        ap (λ xs. trace (fifo m) r ss ++ xs) (saw ∙ sym (append-nil (items_of (fifo m) (run (fifo m) r ss) s))) ∙ sym (trace_from-append (fifo m) r (first_world (fifo m)) ss (s ∷ [])) in
        let steps = see (fifo_image m ss ++ image_of_step s given) (trace (fifo m) r ss) (take_step (fifo_image m ss) (trace (fifo m) r ss) had.map) in
        let grows = grows-run (fifo m) r ss s in
        record {
          map = subst (λ (x : List (Step I) × List (Item I O)). follows new x.0 x.1) (λ i. (image_is i, trace_is i)) steps;
          channels = subst (Follows d) (sym grows.is) (caught (ends_in (run (fifo m) r ss).packets) grows.more grows.is had.channels);
        }
