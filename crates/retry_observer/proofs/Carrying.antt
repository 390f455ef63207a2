-- What a step delivers, or sends again, by what is kept of the packets.
use Rattle.std.specs.Prelude.{◌≡◌, ℕ, zero, suc, List, [], ◌∷◌, Option, Some, None, option_map, slice_get}
use Rattle.std.proofs.Common.{ap, refl, sym, ◌∙◌}
use Rattle.std.proofs.lemmas.Option.{none-some, same_Some, slice_get-map}
use Rattle.net_semantics.specs.Worlds.{Packet}
use Rattle.vst_base.specs.declared.retry.RetryMsg.{RetryMsg}
use Rattle.vst_base.specs.declared.retry.RetryMsg.TheVariants as msg
use Rattle.retry_xform.specs.Image.{place_of, names, names_after, with_content}
use Rattle.retry_xform.specs.Keeping.{Kept}
use Rattle.retry_observer.specs.Observed.{carried_again, carried_in}
use Rattle.retry_observer.specs.Places.{carried_at, if_sent, named, named_from, number_in, numbers_in, with_number}
use Rattle.retry_observer.proofs.Naming.{carried-there}

-- data that was sent has a name
pub sent-there : (bs : List (ℕ × Option ℕ)) (ns : List (ℕ × ℕ)) (k n x : ℕ) → slice_get bs k ≡ Some (n, Some x) → (j : ℕ) × (place_of (n, x) (named_from ns bs) ≡ Some j)
sent-there [] ns k n x at = absurd (none-some (n, Some x) at)
sent-there (b ∷ bs) ns zero n x at =
    let there = carried-there n x ns bs in
    let same : b ≡ (n, Some x) = same_Some b (n, Some x) at in
    (there.0, ap (λ (a : ℕ × Option ℕ). place_of (n, x) (named_from (with_number a.0 a.1 ns) bs)) same ∙ there.1)
sent-there (b ∷ bs) ns (suc k) n x at = sent-there bs (with_number b.0 b.1 ns) k n x at

module _ {M : Type 0} where
  with-content : (n : ℕ) (c : RetryMsg M) (ns : List (ℕ × ℕ)) → with_content n c ns ≡ with_number n (number_in c) ns
  with-content n (msg.Data number inner) ns = refl
  with-content n (msg.Ack number) ns = refl

  names-from : (ns : List (ℕ × ℕ)) (ps : List (Packet (RetryMsg M))) → names_after ns ps ≡ named_from ns (numbers_in ps)
  names-from ns [] = refl
  names-from ns (p ∷ ps) = ap (λ ms. names_after ms ps) (with-content p.source p.content ns) ∙ names-from (with_number p.source (number_in p.content) ns) ps

  -- the names of packets are those of their numbers
  pub names-are : (ps : List (Packet (RetryMsg M))) → names ps ≡ named (numbers_in ps)
  names-are ps = names-from [] ps

  if-sent : (ns : List (ℕ × ℕ)) (o : Option (Packet (RetryMsg M))) → if_sent ns (option_map (λ p. (p.source, number_in p.content)) o) ≡ carried_in ns o
  if-sent ns None = refl
  if-sent ns (Some p) = refl

  -- what packet k carries
  pub carried-is : (ps : List (Packet (RetryMsg M))) (k : ℕ) → carried_at (numbers_in ps) k ≡ carried_in (names ps) (slice_get ps k)
  carried-is ps k =
      ap (if_sent (named (numbers_in ps))) (slice_get-map (λ (p : Packet (RetryMsg M)). (p.source, number_in p.content)) ps k)
      ∙ (if-sent (named (numbers_in ps)) (slice_get ps k) ∙ ap (λ ns. carried_in ns (slice_get ps k)) (sym (names-are ps)))

  -- what is sent again where a node keeps this first
  pub again-is : (ps : List (Packet (RetryMsg M))) (n number : ℕ) (o : Option (Kept M)) (k : Kept M) → o ≡ Some k → k.number ≡ number → place_of (n, number) (named (numbers_in ps)) ≡ carried_again (names ps) n o
  again-is ps n number o k is same = (λ i. place_of (n, sym same i) (sym (names-are ps) i)) ∙ ap (carried_again (names ps) n) (sym is)
