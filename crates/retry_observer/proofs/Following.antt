-- A run of retrying handlers goes on by a step: its image, what clients saw, and the packets that were sent.
use Rattle.std.specs.Prelude.{◌≡◌, ℕ, Bool, false, List, [], ◌∷◌, ◌++◌, length, Option, Some, None, is_some, option_map, slice_get}
use Rattle.std.proofs.Common.{ap, append_assoc, refl, subst, sym, ◌∙◌}
use Rattle.std.proofs.lemmas.List.{append-nil}
use Rattle.std.proofs.lemmas.Option.{slice_get-map}
use Rattle.handler_trait.specs.Handling.{Meaning, Effect, Recovery}
use Rattle.net_semantics.specs.Runs.{IsAllowed, no_recovery, run, run_from, trace}
use Rattle.net_semantics.specs.RunLaws.{run_from-append, trace_from-append}
use Rattle.net_semantics.specs.StepLaws.{delivered_there}
use Rattle.net_semantics.specs.Steps.{after_event, copied, delivered, delivery, items_of, next, next_in, rebooted, with_packets}
use Rattle.net_semantics.specs.Worlds.{Packet, World, change_at, first_world, sent_by}
use Rattle.vst_base.specs.Nets.{Fate, StepView, AtNode, OfPacket, Starts, Stops, view_of}
use Rattle.vst_base.specs.declared.net.Net.{Net}
use Rattle.vst_base.specs.declared.step.Item.{Item}
use Rattle.vst_base.specs.declared.step.Step.{Step}
use Rattle.vst_base.specs.declared.retry.RetryMsg.{RetryMsg}
use Rattle.vst_base.specs.declared.retry.RetryMsg.TheVariants as msg
use Rattle.retry_xform.specs.Image.{image_from, image_in, image_step, names, of_packet, of_place, retried_image}
use Rattle.retry_xform.specs.Keeping.{Kept, Retrying}
use Rattle.retry_xform.specs.Retransmission.{kept_and_sent, retrying, takes_message, with_first_resent}
use Rattle.retry_observer.specs.Observed.{HasFollowed, IsLooked, carried_again, carried_in, carried_last, image_of_step, image_with, last_carries, looked_in}
use Rattle.retry_observer.specs.Places.{ComeAfter, Follows, PlacesView, carried_by, named, number_in, numbers_at, numbers_in, up_to}
use Rattle.retry_observer.proofs.Carrying.{names-are, sent-there}
use Rattle.retry_observer.proofs.Naming.{is-used}
use Rattle.retry_observer.proofs.Sending.{EndsBelow, EndsIn, Makes, again_last, come-new, come-nil, ending, ends-in, made, made-again, new_numbers}
use Rattle.observer_parts.specs.PartLaws.{allowed-before}
use Rattle.retry_observer.proofs.Worlds.{AreNamed, ack_last, again-below, are-named, message-makes, numbers-copied, numbers-sent}

module _ {S I O M : Type 0} (m : Meaning S I O M) where
  abbrev RetryWorld : Type 0
  RetryWorld = World (Retrying S M) (Retrying S M) (RetryMsg M)

  -- these packets are those of a world and more, of which the last may be known
  pub record Sends (w : RetryWorld) (known : Bool) (carried : Option ℕ) (ps : List (Packet (RetryMsg M))) : Type 0 where
    pub more : List (ℕ × Option ℕ)
    pub is : numbers_in ps ≡ numbers_in w.packets ++ more
    pub come : ComeAfter (length (numbers_in w.packets)) known carried (numbers_in w.packets ++ more)

  sends-none : (w : RetryWorld) (known : Bool) (carried : Option ℕ) (ps : List (Packet (RetryMsg M))) → numbers_in ps ≡ numbers_in w.packets → Sends w known carried ps
  sends-none w known carried ps same = record { more = []; is = same ∙ sym (append-nil (numbers_in w.packets)); come = come-nil known carried (numbers_in w.packets) }

  sends-event : (w : RetryWorld) (ps : List (Packet (RetryMsg M))) (n : ℕ) (e : Effect (Retrying S M) O (RetryMsg M)) (last : Option (Option ℕ)) (known : Bool) (carried : Option ℕ)
      → AreNamed m w → numbers_in ps ≡ numbers_in w.packets → Makes n (w.state n) e last → EndsIn (numbers_in w.packets) n last carried → is_some last ≡ known → Sends w known carried (ps ++ sent_by n e.sends)
  sends-event w ps n e last known carried h same is ends so = record {
    more = new_numbers n (w.state n).next is.count ++ ending n last;
    is = numbers-sent n ps e.sends ∙ (λ i. same i ++ is.sends i);
    come = subst (λ b. ComeAfter (length (numbers_in w.packets)) b carried (numbers_in w.packets ++ (new_numbers n (w.state n).next is.count ++ ending n last))) so
        (come-new is.count (numbers_in w.packets) n (w.state n).next last carried (h.turns n) ends);
  }

  -- what a tick sends again was sent before
  again-ends : (bs : List (ℕ × Option ℕ)) (n x : ℕ) (o : Option (Kept M)) → numbers_at n (named bs) ≡ up_to x → EndsBelow x (again_last o)
      → EndsIn bs n (again_last o) (carried_again (named bs) n o) × (is_some (again_last o) ≡ is_some (carried_again (named bs) n o))
  again-ends bs n x None in_turn below = (tt, refl)
  again-ends bs n x (Some k) in_turn below = let used = is-used n x k.number (named bs) in_turn below in (ends-in bs n x (Some k.number) in_turn below, sym (ap is_some used.1))

  -- what comes of a packet that was sent
  ack-ends : (bs : List (ℕ × Option ℕ)) (n : ℕ) (c : RetryMsg M) → EndsIn bs n (ack_last c) None
  ack-ends bs n (msg.Data number inner) = record { carries = refl; same = refl }
  ack-ends bs n (msg.Ack number) = tt

  ack-known : (bs : List (ℕ × Option ℕ)) (k source : ℕ) (c : RetryMsg M) → slice_get bs k ≡ Some (source, number_in c) → is_some (ack_last c) ≡ is_some (carried_by (named bs) source (number_in c))
  ack-known bs k source (msg.Data number inner) at = sym (ap is_some (sent-there bs [] k source number at).1)
  ack-known bs k source (msg.Ack number) at = refl

  sends-delivery : (w : RetryWorld) (fate : Fate) (k : ℕ) (o : Option (Packet (RetryMsg M))) → AreNamed m w → delivered fate (slice_get w.packets k) ≡ o
      → Sends w (is_some (carried_in (names w.packets) o)) None (after_event (with_packets w (change_at (copied fate) k w.packets)) (delivery {I = I} (retrying m) w o)).packets
  sends-delivery w fate k None h at = sends-none w false None (change_at (copied fate) k w.packets) (numbers-copied fate k w.packets)
  sends-delivery w fate k (Some p) h at =
      let bs = numbers_in w.packets in
      let there : slice_get bs k ≡ Some (p.source, number_in p.content) =
      slice_get-map (λ (q : Packet (RetryMsg M)). (q.source, number_in q.content)) w.packets k ∙ ap (option_map (λ (q : Packet (RetryMsg M)). (q.source, number_in q.content))) (delivered_there fate (slice_get w.packets k) p at) in
      let known = ack-known bs k p.source p.content there ∙ ap (λ ns. is_some (carried_by ns p.source (number_in p.content))) (sym (names-are w.packets)) in
      let d = p.destination in
      sends-event w (change_at (copied fate) k w.packets) d (takes_message m d (w.state d) p.source p.content) (ack_last p.content) _ None h (numbers-copied fate k w.packets)
      (message-makes m d p.source (w.state d) p.content (h.below d)) (ack-ends bs d p.content) known

  sends-start : (w : RetryWorld) (n : ℕ) (o : Option (Retrying S M)) (known : Bool) (carried : Option ℕ) → Sends w known carried (rebooted no_recovery w n o).packets
  sends-start w n None known carried = sends-none w known carried w.packets refl
  sends-start w n (Some x) known carried = sends-none w known carried w.packets refl

  -- what a step sends
  sends-next : (w : RetryWorld) (v : StepView I) → AreNamed m w → Sends w (is_some (looked_in w v)) (carried_last v (looked_in w v)) (next_in (retrying m) no_recovery w v).packets
  sends-next w (AtNode n (Some i)) h = sends-event w w.packets n (kept_and_sent (w.state n) (m.input n (w.state n).inner i)) None false None h refl (made n (w.state n) (h.below n) (m.input n (w.state n).inner i)) tt refl
  sends-next w (AtNode n None) h =
      let bs = numbers_in w.packets in
      let s = w.state n in
      let first = slice_get s.kept 0 in
      let ends = again-ends bs n s.next first (h.turns n) (again-below m s.next s.kept (h.below n)) in
      let sent = sends-event w w.packets n (with_first_resent s.kept (kept_and_sent s (m.timeout n s.inner))) (again_last first) (is_some (carried_again (named bs) n first)) (carried_again (named bs) n first)
      h refl (made-again n s (h.below n) s.kept (m.timeout n s.inner)) ends.0 ends.1 in
      subst (λ ns. Sends w (is_some (carried_again ns n first)) (carried_again ns n first) (next_in (retrying m) no_recovery w (AtNode n None)).packets) (sym (names-are w.packets)) sent
  sends-next w (OfPacket k fate) h = sends-delivery w fate k (delivered fate (slice_get w.packets k)) h refl
  sends-next w (Stops n) h = sends-none w _ _ w.packets refl
  sends-next w (Starts n) h = sends-start w n (w.kept n) _ _

  -- the image of a step, by what was found before it
  image-packet : (ns : List (ℕ × ℕ)) (o : Option (Packet (RetryMsg M))) → of_packet {I = I} ns o ≡ of_place (carried_in ns o)
  image-packet ns None = refl
  image-packet ns (Some p) = by-content p.content where
    by-content : (c : RetryMsg M) → of_packet {I = I} ns (Some (record { source = p.source; destination = p.destination; content = c; copies = p.copies })) ≡ of_place (carried_by ns p.source (number_in c))
    by-content (msg.Data number inner) = refl
    by-content (msg.Ack number) = refl

  image-is : (w : RetryWorld) (v : StepView I) → image_in w v ≡ image_with v (looked_in w v)
  image-is w (AtNode n (Some i)) = refl
  image-is w (AtNode n None) = refl
  image-is w (OfPacket k fate) = image-packet (names w.packets) (delivered fate (slice_get w.packets k))
  image-is w (Stops n) = refl
  image-is w (Starts n) = refl

  image-more : (w : RetryWorld) (ss : List (Step I)) (s : Step I) → image_from m w (ss ++ s ∷ []) ≡ image_from m w ss ++ image_step (run_from (retrying m) no_recovery w ss) s
  image-more w [] s = append-nil (image_step w s)
  image-more w (t ∷ ss) s =
      ap (λ xs. image_step w t ++ xs) (image-more (next (retrying m) no_recovery w t) ss s)
      ∙ sym (append_assoc (image_step w t) (image_from m (next (retrying m) no_recovery w t) ss) (image_step (run_from (retrying m) no_recovery w (t ∷ ss)) s))

  module _ {F : Type 0} (follows : F → List (Step I) → List (Item I O) → Type 0) (net : Net) (ss : List (Step I)) (s : Step I)
      (old mid new : F) (c d : PlacesView) (looked : Option ℕ) (seen : List (Item I O))
      (take_step : (xs : List (Step I)) (items : List (Item I O)) → follows old xs items → follows mid (xs ++ image_of_step s looked) items)
      (see : (xs : List (Step I)) (items : List (Item I O)) → follows mid xs items → follows new xs (items ++ seen)) where
    -- the map takes the image of one more step, and sees what clients saw of it, and the packets that it sent are added
    abbrev pub FollowsOn : Recovery (Retrying S M) (Retrying S M) → Type 0
    FollowsOn r =
        ((bs more : List (ℕ × Option ℕ)) → numbers_in (run (retrying m) r (ss ++ s ∷ [])).packets ≡ bs ++ more → ComeAfter (length bs) (is_some looked) (last_carries s looked) (bs ++ more) → Follows c bs → Follows d (bs ++ more))
        → HasFollowed m r follows (record { map = old; places = c }) ss → IsLooked m r looked ss s → IsAllowed net (retrying m) r (ss ++ s ∷ [])
        → seen ≡ items_of (retrying m) (run (retrying m) r ss) s → HasFollowed m r follows (record { map = new; places = d }) (ss ++ s ∷ [])

    follows-on : FollowsOn no_recovery
    follows-on caught had found allowed saw =
        let w = run (retrying m) no_recovery ss in
        let is = found net refl allowed in
        let named_so = are-named m net ss (allowed-before net (retrying m) no_recovery ss s (first_world (retrying m)) allowed).0 in
        let image_is : retried_image m ss ++ image_of_step s looked ≡ retried_image m (ss ++ s ∷ []) =
        ap (λ xs. retried_image m ss ++ xs) (ap (image_of_step s) is ∙ sym (image-is w (view_of s))) ∙ sym (image-more (first_world (retrying m)) ss s) in
        let trace_is : trace (retrying m) no_recovery ss ++ seen ≡ trace (retrying m) no_recovery (ss ++ s ∷ []) =
        ap (λ xs. trace (retrying m) no_recovery ss ++ xs) (saw ∙ sym (append-nil (items_of (retrying m) w s))) ∙ sym (trace_from-append (retrying m) no_recovery (first_world (retrying m)) ss (s ∷ [])) in
        let steps = see (retried_image m ss ++ image_of_step s looked) (trace (retrying m) no_recovery ss) (take_step (retried_image m ss) (trace (retrying m) no_recovery ss) had.map) in
        let sends = subst (λ o. Sends w (is_some o) (last_carries s o) (next (retrying m) no_recovery w s).packets) (sym is) (sends-next w (view_of s) named_so) in
        let sent = ap (λ (u : RetryWorld). numbers_in u.packets) (run_from-append (retrying m) no_recovery (first_world (retrying m)) ss (s ∷ [])) ∙ sends.is in
        record {
          map = subst (λ (x : List (Step I) × List (Item I O)). follows new x.0 x.1) (λ i. (image_is i, trace_is i)) steps;
          places = subst (Follows d) (sym sent) (caught (numbers_in w.packets) sends.more sent sends.come had.places);
        }

    pub followed-more : (r : Recovery (Retrying S M) (Retrying S M)) → r ≡ no_recovery → FollowsOn r
    followed-more r same = subst FollowsOn (sym same) follows-on
