-- Reads and writes one after another.
use Rattle.std.specs.Prelude.{◌≡◌, ℕ, List, [], ◌++◌, length, take, drop, Option, Some, None, option_map}
use Rattle.std.proofs.Common.{ap, ◌∙◌, sym, subst, append_assoc, take-append-drop}
use Rattle.std.proofs.lemmas.List.{append-nil}
use Rattle.std.proofs.Math.Seq.{take-append_seam}
use Rattle.outside.specs.Wholes.{Gained, GainedPrefix}

-- a sink that has gained some text gains more
pub gained-more : (old mid new : Option (List ℕ)) (done more : List ℕ) → Gained old mid done → new ≡ option_map (λ bytes. bytes ++ more) mid → Gained old new (done ++ more)
gained-more None mid new done more gained is = tt
gained-more (Some held) mid new done more gained is = is ∙ (ap (option_map (λ bytes. bytes ++ more)) gained ∙ ap Some (append_assoc held done more))

-- some of a text, and then the rest of it
pub gained-front : (old new : Option (List ℕ)) (done rest text : List ℕ) → text ≡ done ++ rest → Gained old new done → GainedPrefix old new text
gained-front None new done rest text whole gained = tt
gained-front (Some held) new done rest text whole gained =
    (length done, gained ∙ ap (λ front. Some (held ++ front)) (sym (rw whole (take-append_seam done rest))))

-- a text, and then more of it
pub gained-both : (old mid new : Option (List ℕ)) (done more : List ℕ) → Gained old mid done → Gained mid new more → Gained old new (done ++ more)
gained-both None mid new done more first next = tt
gained-both (Some held) mid new done more first next =
    let then : new ≡ Some ((held ++ done) ++ more) = subst (λ (o : Option (List ℕ)). Gained o new more) first next in
    then ∙ ap Some (append_assoc held done more)

pub gained-some : (old mid new : Option (List ℕ)) (done more text rest : List ℕ) → text ≡ done ++ (more ++ rest) → Gained old mid done → GainedPrefix mid new more → GainedPrefix old new text
gained-some None mid new done more text rest whole first next = tt
gained-some (Some held) mid new done more text rest whole first next =
    let then : (n : ℕ) × (new ≡ Some ((held ++ done) ++ take n more)) = subst (λ (o : Option (List ℕ)). GainedPrefix o new more) first next in
    let part = take then.0 more in
    let again : text ≡ (done ++ part) ++ (drop then.0 more ++ rest) =
    whole ∙ (ap (λ xs. done ++ (xs ++ rest)) (sym (take-append-drop then.0 more)) ∙ (ap (λ xs. done ++ xs) (append_assoc part (drop then.0 more) rest) ∙ sym (append_assoc done part (drop then.0 more ++ rest)))) in
    gained-front (Some held) new (done ++ part) (drop then.0 more ++ rest) text again (then.1 ∙ ap Some (append_assoc held done part))

-- nothing was gained yet
pub gained-nothing : (old : Option (List ℕ)) → Gained old old []
gained-nothing None = tt
gained-nothing (Some held) = ap Some (sym (append-nil held))
