-- An event at a node, from what the handlers do with its state.
use Rattle.std.proofs.Common.{◌≡◌, ℕ, ◌<◌, List, [], ◌++◌, length, get_or, set, Some, refl, ap, sym, ◌∙◌, subst}
use Rattle.std.specs.Prelude.{slice_get, IfSome}
use Rattle.std.proofs.lemmas.Option.{slice_get_read}
use Rattle.handler_trait.specs.Handling.{Effect, Does, Gathered}
use Rattle.net_semantics.specs.Worlds.{change_at}
use Rattle.net_semantics.specs.Taking.{Happens}
use Rattle.net_semantics.proofs.Places.{set-change_at, change_at-there}
use Rattle.lists.specs.Options.{some_holds}

module _ {S O M : Type 0} (f : S → Effect S O M) (n i : ℕ) (states : List S) (d new : S) (same : i ≡ n) (lt : n < length states) (read : d ≡ get_or states i d) where
  stands : slice_get states n ≡ Some d
  stands = slice_get_read states (length states) n d refl lt (subst (λ j. d ≡ get_or states j d) same read)

  pub happens_at : (before after : Gathered O M) → before.outputs ≡ [] → before.sends ≡ [] → Does (f d) new before after → Happens f n states (set states i new) after
  happens_at before after outs sends does = record {
    put = subst (λ j. set states j new ≡ change_at (λ s. (f s).state) n states) (sym same) (set-change_at (λ s. (f s).state) states n d new lt (does.state ∙ ap (λ s. (f s).state) (subst (λ j. d ≡ get_or states j d) same read)));
    outputs = some_holds (λ s. after.outputs ≡ (f s).outputs) (slice_get states n) d stands (does.outputs ∙ ap (λ xs. xs ++ (f d).outputs) outs);
    sends = some_holds (λ s. after.sends ≡ (f s).sends) (slice_get states n) d stands (does.sends ∙ ap (λ xs. xs ++ (f d).sends) sends);
  }

  pub sound_at : (P : S → Type 0) → P new → IfSome (slice_get (set states i new) n) P
  sound_at P p =
      let e : set states i new ≡ change_at (λ _. new) n states = subst (λ j. set states j new ≡ change_at (λ _. new) n states) (sym same) (set-change_at (λ _. new) states n d new lt refl) in
      some_holds P (slice_get (set states i new) n) new (ap (λ xs. slice_get xs n) e ∙ change_at-there (λ _. new) states n d stands) p
