-- A source that gave some bytes and gives more has given both.
use Rattle.std.specs.Prelude.{◌≡◌, ℕ, List, ◌++◌, take, drop, Option, None, Some, IfSome, option_map}
use Rattle.std.proofs.Common.{ap, sym, subst, ◌∙◌, append_assoc, take-append-drop}
use Rattle.outside.specs.Streams.{Gives}
use Rattle.outside.specs.Wholes.{Gave}

-- bytes of which a read gave some are those, and the others
gave-front : (bytes before piece : List ℕ) (n : ℕ) → Gives bytes n before piece → bytes ≡ take n piece ++ drop n bytes
gave-front bytes before piece n gives = sym (take-append-drop n bytes) ∙ ap (λ (x : List ℕ). x ++ drop n bytes) (sym gives.front)

pub gave-more :
    (old mid new : Option (List ℕ)) (gone before piece : List ℕ) (n : ℕ)
    → Gave old mid gone
    → new ≡ option_map (drop n) mid
    → IfSome mid (λ bytes. Gives bytes n before piece)
    → Gave old new (gone ++ take n piece)
gave-more None mid new gone before piece n gave left front = tt
gave-more (Some bytes) mid new gone before piece n gave left front =
    let rest = gave.0 in
    let given : Gives rest n before piece = subst (λ (m : Option (List ℕ)). IfSome m (λ bytes. Gives bytes n before piece)) gave.2 front in
    let parts = gave-front rest before piece n given in (
      drop n rest,
      gave.1 ∙ ap (λ (x : List ℕ). gone ++ x) parts ∙ sym (append_assoc gone (take n piece) (drop n rest)),
      left ∙ ap (option_map (drop n)) gave.2,
    )
