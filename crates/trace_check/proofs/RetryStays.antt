-- Of any schedule of retrying handlers: each step of the image is a step of the schedule, or copies or delivers a packet that was first sent no
-- later than one which the schedule delivers; and there are no more events.
use Rattle.std.specs.Prelude.{◌≡◌, ℕ, zero, suc, ◌+◌, ◌≤◌, Bool, true, false, List, [], ◌∷◌, ◌++◌, length, Option, Some, None, cond, is_some, option_map, slice_get, refl}
use Rattle.std.proofs.Common.{ap, arith, sym, ◌∙◌, length-append}
use Rattle.std.proofs.lemmas.Option.{none-some, same_Some}
use Rattle.handler_trait.specs.Handling.{Meaning}
use Rattle.vst_base.specs.declared.step.Step.{Step}
use Rattle.vst_base.specs.declared.step.Step.TheVariants as step
use Rattle.net_semantics.specs.Runs.{no_recovery}
use Rattle.net_semantics.specs.Steps.{next}
use Rattle.net_semantics.specs.Worlds.{Packet, World, first_world}
use Rattle.vst_base.specs.declared.retry.RetryMsg.{RetryMsg}
use Rattle.vst_base.specs.declared.retry.RetryMsg.TheVariants as msg
use Rattle.retry_xform.specs.Image.{image_from, image_step, is_same, names, names_after, of_content, of_packet, of_place, place_of, retried_image, with_content, with_name}
use Rattle.retry_xform.specs.Keeping.{Retrying}
use Rattle.retry_xform.specs.Retransmission.{retrying}
use Rattle.retry_xform.proofs.Names.{place-kept, place-there, with-known}
use Rattle.trace_check.specs.Spelled.{event_count, events_in}
use Rattle.trace_check.proofs.Events.{events-append}
use Rattle.lists.specs.Each.{Each, each_append}

-- a name that is there has its place among the names that there are
place-below : (a : ℕ × ℕ) (ns : List (ℕ × ℕ)) (j : ℕ) → place_of a ns ≡ Some j → suc j ≤ length ns
place-below a [] j at = absurd (none-some j at)
place-below a (b ∷ ns) j at = by (is_same a b) (place_of a ns) (λ i is. place-below a ns i is) at
  where
    by : (t : Bool) (o : Option ℕ) → ((i : ℕ) → o ≡ Some i → suc i ≤ length ns) → cond t (Some 0) (option_map suc o) ≡ Some j → suc j ≤ suc (length ns)
    by true o more e = let same : 0 ≡ j = same_Some 0 j e in omega (arith, same)
    by false None more e = absurd (none-some j e)
    by false (Some i) more e = let same : suc i ≡ j = same_Some (suc i) j e in omega (arith, same, more i refl)

-- one packet more is one name more at most
name-more : (a : ℕ × ℕ) (ns : List (ℕ × ℕ)) (t : Bool) → length (cond t ns (ns ++ a ∷ [])) ≤ suc (length ns)
name-more a ns true = omega arith
name-more a ns false = omega (arith, length-append ns (a ∷ []))

-- data has its name among these then, at the end if it is new
name-there : (a : ℕ × ℕ) (ns : List (ℕ × ℕ)) → (j : ℕ) × (j ≤ length ns) × (place_of a (with_name a ns) ≡ Some j)
name-there a ns = by (place_of a ns) refl
  where
    by : (o : Option ℕ) → place_of a ns ≡ o → (j : ℕ) × (j ≤ length ns) × (place_of a (with_name a ns) ≡ Some j)
    by (Some j) at = let below = place-below a ns j at in (j, omega (arith, below), ap (place_of a) (with-known a ns j at) ∙ at)
    by None none = (length ns, omega arith, ap (λ t. place_of a (cond t ns (ns ++ a ∷ []))) (ap is_some none) ∙ place-there a ns [] none)

-- a copy and a delivery are one event
place-events : (I : Type 0) (o : Option ℕ) → events_in (of_place {I = I} o) ≤ 1
place-events I None = omega arith
place-events I (Some j) = omega arith

module _ {I : Type 0} (P : Step I → Type 0) where
  place-each : (o : Option ℕ) → ((j : ℕ) → o ≡ Some j → P (step.Dup j) × P (step.Deliver j)) → Each P (of_place o)
  place-each None all = tt
  place-each (Some j) all = let both = all j refl in (both.0, (both.1, tt))

module _ {M : Type 0} where
  -- so it is of any packet
  content-more : (source : ℕ) (c : RetryMsg M) (ns : List (ℕ × ℕ)) → length (with_content source c ns) ≤ suc (length ns)
  content-more source (msg.Data number inner) ns = name-more (source, number) ns (is_some (place_of (source, number) ns))
  content-more source (msg.Ack number) ns = omega arith

  -- names that there are keep their places
  content-kept : (source : ℕ) (c : RetryMsg M) (ns : List (ℕ × ℕ)) (a : ℕ × ℕ) (j : ℕ) → place_of a ns ≡ Some j → place_of a (with_content source c ns) ≡ Some j
  content-kept source (msg.Data number inner) ns a j at = by (is_some (place_of (source, number) ns))
    where
      by : (t : Bool) → place_of a (cond t ns (ns ++ (source, number) ∷ [])) ≡ Some j
      by true = at
      by false = place-kept a ns ((source, number) ∷ []) j at
  content-kept source (msg.Ack number) ns a j at = at

  names-kept : (ns : List (ℕ × ℕ)) (ps : List (Packet (RetryMsg M))) (a : ℕ × ℕ) (j : ℕ) → place_of a ns ≡ Some j → place_of a (names_after ns ps) ≡ Some j
  names-kept ns [] a j at = at
  names-kept ns (p ∷ ps) a j at = names-kept (with_content p.source p.content ns) ps a j (content-kept p.source p.content ns a j at)

  -- so packet k that is data carries packet k of the run within, or an earlier one
  carried-early : (k : ℕ) (ns : List (ℕ × ℕ)) (ps : List (Packet (RetryMsg M))) (p : Packet (RetryMsg M)) (number : ℕ) (inner : M) → slice_get ps k ≡ Some p → p.content ≡ msg.Data number inner
      → (j : ℕ) × (j ≤ length ns + k) × (place_of (p.source, number) (names_after ns ps) ≡ Some j)
  carried-early k ns [] p number inner there is = absurd (none-some p there)
  carried-early zero ns (q ∷ ps) p number inner there is =
      let a : ℕ × ℕ = (p.source, number) in
      let same : with_content q.source q.content ns ≡ with_name a ns =
      ap (λ (r : Packet (RetryMsg M)). with_content r.source r.content ns) (same_Some q p there) ∙ ap (λ (c : RetryMsg M). with_content p.source c ns) is in
      let first = name-there a ns in
      (first.0, omega (arith, first.1), names-kept (with_content q.source q.content ns) ps a first.0 (ap (place_of a) same ∙ first.2))
  carried-early (suc k) ns (q ∷ ps) p number inner there is =
      let more = content-more q.source q.content ns in
      let rest = carried-early k (with_content q.source q.content ns) ps p number inner there is in
      (rest.0, omega (arith, more, rest.1), rest.2)

  module _ {I : Type 0} (P : Step I → Type 0) (earlier : (j k : ℕ) → j ≤ k → P (step.Deliver k) → P (step.Dup j) × P (step.Deliver j)) where
    content-each : (k : ℕ) (ps : List (Packet (RetryMsg M))) (p : Packet (RetryMsg M)) (c : RetryMsg M) → slice_get ps k ≡ Some p → p.content ≡ c → P (step.Deliver k) → Each P (of_content (names ps) p.source c)
    content-each k ps p (msg.Data number inner) there is has =
        let at = carried-early k [] ps p number inner there is in
        place-each P (place_of (p.source, number) (names ps)) (λ j found. let same : j ≡ at.0 = same_Some j at.0 (sym found ∙ at.2) in earlier j k (omega (arith, same, at.1)) has)
    content-each k ps p (msg.Ack number) there is has = tt

    packet-each : (k : ℕ) (ps : List (Packet (RetryMsg M))) (o : Option (Packet (RetryMsg M))) → slice_get ps k ≡ o → P (step.Deliver k) → Each P (of_packet (names ps) o)
    packet-each k ps None there has = tt
    packet-each k ps (Some p) there has = content-each k ps p p.content there refl has

    step-each : {S K : Type 0} (w : World (Retrying S M) K (RetryMsg M)) (s : Step I) → P s → Each P (image_step w s)
    step-each w (step.In n i) has = (has, tt)
    step-each w (step.Tick n) has = (has, tt)
    step-each w (step.Deliver k) has = packet-each k w.packets (slice_get w.packets k) refl has
    step-each w (step.Dup k) has = tt
    step-each w (step.Lose k) has = tt
    step-each w (step.Crash n) has = tt
    step-each w (step.Reboot n) has = tt

  content-events : (I : Type 0) (ns : List (ℕ × ℕ)) (source : ℕ) (c : RetryMsg M) → events_in (of_content {I = I} ns source c) ≤ 1
  content-events I ns source (msg.Data number inner) = place-events I (place_of (source, number) ns)
  content-events I ns source (msg.Ack number) = omega arith

  packet-events : (I : Type 0) (ns : List (ℕ × ℕ)) (o : Option (Packet (RetryMsg M))) → events_in (of_packet {I = I} ns o) ≤ 1
  packet-events I ns None = omega arith
  packet-events I ns (Some p) = content-events I ns p.source p.content

  step-events : {S K I : Type 0} (w : World (Retrying S M) K (RetryMsg M)) (s : Step I) → events_in (image_step w s) ≤ event_count s
  step-events w (step.In n i) = omega arith
  step-events w (step.Tick n) = omega arith
  step-events {I = I} w (step.Deliver k) = packet-events I (names w.packets) (slice_get w.packets k)
  step-events w (step.Dup k) = omega arith
  step-events w (step.Lose k) = omega arith
  step-events w (step.Crash n) = omega arith
  step-events w (step.Reboot n) = omega arith

module _ {S I O M : Type 0} (m : Meaning S I O M) where
  module _ (P : Step I → Type 0) (earlier : (j k : ℕ) → j ≤ k → P (step.Deliver k) → P (step.Dup j) × P (step.Deliver j)) where
    each-from : (w : World (Retrying S M) (Retrying S M) (RetryMsg M)) (ss : List (Step I)) → Each P ss → Each P (image_from m w ss)
    each-from w [] all = tt
    each-from w (s ∷ ss) all =
        each_append P (image_step w s) (image_from m (next (retrying m) no_recovery w s) ss) (step-each P earlier w s all.0) (each-from (next (retrying m) no_recovery w s) ss all.1)

    -- what holds of each step, and of a copy and of the delivery of an earlier packet where of the delivery of a later one, holds of each step
    -- of the image
    pub retried-each : (ss : List (Step I)) → Each P ss → Each P (retried_image m ss)
    retried-each ss all = each-from (first_world (retrying m)) ss all

  events-from : (w : World (Retrying S M) (Retrying S M) (RetryMsg M)) (ss : List (Step I)) → events_in (image_from m w ss) ≤ events_in ss
  events-from w [] = omega arith
  events-from w (s ∷ ss) =
      let first = step-events w s in
      let rest = events-from (next (retrying m) no_recovery w s) ss in
      omega (arith, first, rest, events-append (image_step w s) (image_from m (next (retrying m) no_recovery w s) ss))

  pub retried-events : (ss : List (Step I)) → events_in (retried_image m ss) ≤ events_in ss
  retried-events ss = events-from (first_world (retrying m)) ss
