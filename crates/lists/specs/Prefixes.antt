-- Lists that others begin with.
use Rattle.std.proofs.Common.{◌≤◌, List, [], ◌∷◌, ◌++◌, length, take, drop, ◌≡◌, refl, ap, sym, ◌∙◌, append_assoc, arith}
use Rattle.std.proofs.lemmas.List.{length-append, take-append-drop, take_all}

-- the first list is a prefix of the second
abbrev pub IsPrefix : {A : Type 0} → List A → List A → Type 0
IsPrefix xs ys = take (length xs) ys ≡ xs

module _ {A : Type 0} where
  -- what follows a prefix is the rest of the list
  pub prefix_joined : {xs ys : List A} → IsPrefix xs ys → xs ++ drop (length xs) ys ≡ ys
  prefix_joined {xs = xs} {ys = ys} is = ap (λ front. front ++ drop (length xs) ys) (sym is) ∙ take-append-drop (length xs) ys

  pub prefix_append : (xs rest : List A) → IsPrefix xs (xs ++ rest)
  prefix_append [] rest = refl
  prefix_append (x ∷ xs) rest = ap (λ l. x ∷ l) (prefix_append xs rest)

  pub prefix_of : (xs rest ys : List A) → xs ++ rest ≡ ys → IsPrefix xs ys
  prefix_of xs rest ys is = rw (← is) (prefix_append xs rest)

  pub prefix_self : (xs : List A) → IsPrefix xs xs
  prefix_self xs = take_all (length xs) xs (omega arith)

  pub prefix_nil : (xs : List A) → IsPrefix [] xs
  prefix_nil xs = refl

  pub prefix_length : {xs : List A} (ys : List A) → IsPrefix xs ys → length xs ≤ length ys
  prefix_length {xs = xs} ys is = omega (arith, ap length (prefix_joined is), length-append xs (drop (length xs) ys))

  -- with the same list before both
  pub prefix_behind : (xs : List A) {ys : List A} (zs : List A) → IsPrefix ys zs → IsPrefix (xs ++ ys) (xs ++ zs)
  prefix_behind [] zs is = is
  prefix_behind (x ∷ xs) zs is = ap (λ l. x ∷ l) (prefix_behind xs zs is)

  -- a prefix of a prefix
  pub prefix_trans : {xs ys : List A} (zs : List A) → IsPrefix xs ys → IsPrefix ys zs → IsPrefix xs zs
  prefix_trans {xs = xs} {ys = ys} zs first second =
      prefix_of xs (drop (length xs) ys ++ drop (length ys) zs) zs
      (sym (append_assoc xs (drop (length xs) ys) (drop (length ys) zs)) ∙ ap (λ l. l ++ drop (length ys) zs) (prefix_joined first) ∙ prefix_joined second)

  -- what stands before more of a prefix
  pub prefix_before : (xs more ys : List A) → IsPrefix (xs ++ more) ys → IsPrefix xs ys
  prefix_before xs more ys is = prefix_trans ys (prefix_append xs more) is
