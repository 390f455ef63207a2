-- Packets that were sent are added one by one.
use Rattle.std.specs.Prelude.{◌≡◌, ℕ, suc, ◌+◌, ◌≤◌, ◌==◌, ◌&&◌, Bool, List, [], ◌∷◌, ◌++◌, length, take, Option, Some, None, option_map, slice_get}
use Rattle.std.proofs.Common.{ap, arith, refl, subst, sym, ◌∙◌}
use Rattle.std.proofs.lemmas.List.{length-map, take_all}
use Rattle.std.proofs.lemmas.Option.{none-some, same_Some, slice_get-map}
use Rattle.lists.specs.Places.{take_next}
use Rattle.net_semantics.specs.Worlds.{Packet, ends_of}
use Rattle.vst_base.specs.declared.retry.RetryMsg.{RetryMsg}
use Rattle.retry_observer.specs.Places.{ComeAfter, Comes, Follows, PlacesView, carried_by, named, number_in, numbers_in}

module _ {M : Type 0} where
  -- the packets up to k were added, and packet k is
  pub caught-one : (ps : List (Packet (RetryMsg M))) (bs more : List (ℕ × Option ℕ)) (k sent source destination : ℕ) (known is_known : Bool) (carried : Option ℕ) (c d : PlacesView)
      → numbers_in ps ≡ bs ++ more → sent ≡ length ps → ends_of (slice_get ps k) ≡ Some (source, destination) → is_known ≡ (known && (k + 1 == sent))
      → (first : PlacesView) → Follows first bs → length first.carried ≤ k
      → ((xs : List (ℕ × Option ℕ)) (o : Option ℕ) → Follows c xs → Comes is_known carried xs source o → Follows d (xs ++ (source, o) ∷ []))
      → ComeAfter (length bs) known carried (bs ++ more) → Follows c (take k (bs ++ more)) → Follows d (take (k + 1) (bs ++ more))
  caught-one ps bs more k sent source destination known is_known carried c d is long at known_is first begun start push come f = by-packet (slice_get ps k) refl at where
    next : suc k ≡ k + 1
    next = omega arith

    before : length bs ≤ k
    before = omega (arith, start, ap length begun.carried, length-map {B = Option ℕ} bs (λ b. carried_by (named bs) b.0 b.1))

    total : sent ≡ length (bs ++ more)
    total = long ∙ (sym (length-map {B = ℕ × Option ℕ} ps (λ p. (p.source, number_in p.content))) ∙ ap length is)

    by-packet : (o : Option (Packet (RetryMsg M))) → slice_get ps k ≡ o → ends_of o ≡ Some (source, destination) → Follows d (take (k + 1) (bs ++ more))
    by-packet None there ends = absurd (none-some (source, destination) ends)
    by-packet (Some p) there ends =
        let from : p.source ≡ source = ap (λ (e : ℕ × ℕ). e.0) (same_Some (p.source, p.destination) (source, destination) ends) in
        let here : slice_get (bs ++ more) k ≡ Some (source, number_in p.content) =
        ap (λ xs. slice_get xs k) (sym is)
        ∙ (slice_get-map (λ (q : Packet (RetryMsg M)). (q.source, number_in q.content)) ps k
        ∙ (ap (option_map (λ (q : Packet (RetryMsg M)). (q.source, number_in q.content))) there ∙ ap (λ n. Some (n, number_in p.content)) from)) in
        let comes = come k source (number_in p.content) before here in
        let so : is_known ≡ (known && (k + 1 == length (bs ++ more))) = known_is ∙ ap (λ n. known && (k + 1 == n)) total in
        subst (Follows d) (take_next (bs ++ more) k (source, number_in p.content) here ∙ ap (λ n. take n (bs ++ more)) next)
        (push (take k (bs ++ more)) (number_in p.content) f (subst (λ b. Comes b carried (take k (bs ++ more)) source (number_in p.content)) (sym so) comes))

  -- all were added
  pub caught-all : (ps : List (Packet (RetryMsg M))) (xs : List (ℕ × Option ℕ)) (k : ℕ) (c : PlacesView) → numbers_in ps ≡ xs → length ps ≤ k → Follows c (take k xs) → Follows c xs
  caught-all ps xs k c is le f = subst (Follows c) (take_all k xs (omega (arith, le, ap length is, length-map {B = ℕ × Option ℕ} ps (λ p. (p.source, number_in p.content))))) f
