-- Acts one after another, where they are told.
use Rattle.std.proofs.Common.{◌≡◌, ℕ, ◌+◌, ◌<◌, true, List, [], ◌∷◌, ◌++◌, length, map, take, drop, get_or, Option, Some, None, option_map, Result, Ok, Err, OnOk, OnErr, IfErr, IsErrAnd, refl, sym, ap, subst, ◌∙◌, append_assoc, inl, inr}
use Rattle.std.proofs.lemmas.List.{append-nil, drop_more, map-append, take-append-drop, take_more}
use Rattle.disk.specs.Acts.{StoreCall, Act, StoreFailed}
use Rattle.disk.specs.Disk.{Disk, may_hold}
use Rattle.disk.specs.DiskLaws.{Fails, IsCutShort}
use Rattle.slots.proofs.Elsewhere.{after_append}
use Rattle.node_device.specs.Telling.{Told, told_after, Did, WhereTold, Recorded, StoppedIn}

abbrev told_of : List Act → Disk → Told
told_of acts disk = record { acts = acts; disk = disk }

joined : {xs ys : List Act} {d e : Disk} → xs ≡ ys → d ≡ e → told_of xs d ≡ told_of ys e
joined p q = rw (p, q) refl

-- acts, and then more
pub did_both : (a b c : Option Told) (xs ys : List Act) → Did a b xs → Did b c ys → Did a c (xs ++ ys)
did_both None b c xs ys d e = e ∙ ap (option_map (λ told. told_after told ys)) d
did_both (Some t) b c xs ys d e =
    e ∙ (ap (option_map (λ told. told_after told ys)) d ∙ ap Some (joined (append_assoc t.acts xs ys) (sym (after_append t.disk xs ys))))

pub cut_short_append : (xs did ys : List Act) → IsCutShort xs did → IsCutShort (xs ++ ys) did
cut_short_append xs [] ys c = tt
cut_short_append [] (d ∷ did) [] c = c
cut_short_append [] (d ∷ did) (y ∷ ys) c = inr (inr c.0, c.1)
cut_short_append (x ∷ xs) (d ∷ did) ys (inl c) = inl (c.0, cut_short_append xs did ys c.1)
cut_short_append (x ∷ xs) (d ∷ did) ys (inr c) = inr c

pub cut_short_behind : (xs ys did : List Act) → IsCutShort ys did → IsCutShort (xs ++ ys) (xs ++ did)
cut_short_behind [] ys did c = c
cut_short_behind (x ∷ xs) ys did c = inl (refl, cut_short_behind xs ys did c)

-- cut short within the first of two lists of acts
pub stopped_early : (a b : Option Told) (xs ys : List Act) → StoppedIn a b xs → StoppedIn a b (xs ++ ys)
stopped_early None b xs ys s = s
stopped_early (Some t) None xs ys s = s
stopped_early (Some t) (Some u) xs ys s = (s.0, cut_short_append xs s.0 ys s.1, s.2)

-- or within the second
pub stopped_late : (a b c : Option Told) (xs ys : List Act) → Did a b xs → StoppedIn b c ys → StoppedIn a c (xs ++ ys)
stopped_late None b c xs ys d s = subst (λ (o : Option Told). StoppedIn o c ys) d s
stopped_late (Some t) b c xs ys d s = go c (subst (λ (o : Option Told). StoppedIn o c ys) d s)
  where
    go : (c : Option Told) → StoppedIn (Some (told_after t xs)) c ys → StoppedIn (Some t) c (xs ++ ys)
    go None s = s
    go (Some u) s = (
      xs ++ s.0,
      cut_short_behind xs ys s.0 s.1,
      record {
        acts = s.2.acts ∙ append_assoc t.acts xs s.0;
        disk = λ image m. subst (λ (d : Disk). may_hold d image ≡ true) (sym (after_append t.disk xs s.0)) (s.2.disk image m);
      },
    )

-- at the first act, for want of memory
pub stopped_before : (a b : Option Told) (acts : List Act) → b ≡ a → StoppedIn a b acts
stopped_before None b acts e = e
stopped_before (Some t) b acts e = subst (λ (o : Option Told). StoppedIn (Some t) o acts) (sym e) ([], tt, record { acts = sym (append-nil t.acts); disk = λ image m. m })

-- at the first act, which failed
pub stopped_at : (a b : Option Told) (act : Act) (call : StoreCall) (acts : List Act) → Fails act (StoreFailed call) → WhereTold a b (Recorded (StoreFailed call ∷ [])) → StoppedIn a b (act ∷ acts)
stopped_at None b act call acts f r = r
stopped_at (Some t) None act call acts f r = r
stopped_at (Some t) (Some u) act call acts f r = (StoreFailed call ∷ [], inr (inl f, refl), r)

pub on_err : {T E : Type 0} (r : Result T E) (P : Type 0) → P → OnErr r P
on_err (Ok x) P p = tt
on_err (Err e) P p = p

-- more acts, where they were done
pub did_next : {T E : Type 0} (r : Result T E) (a b c : Option Told) (xs ys : List Act) → Did a b xs → OnOk r (Did b c ys) → OnOk r (Did a c (xs ++ ys))
did_next (Ok x) a b c xs ys d e = did_both a b c xs ys d e
did_next (Err x) a b c xs ys d e = tt

-- a fault that is handed on
pub on_fault : {T E : Type 0} (r : Result T E) (e : E) (P : E → Type 0) → IsErrAnd r (λ y. y ≡ e) → P e → IfErr r P
on_fault (Ok x) e P h p = tt
on_fault (Err y) e P h p = subst P (sym h) p

-- one act more of a list of them, and where it stops there
module _ {X : Type 0} (act_of : X → Act) where
  acts_parted : (xs : List X) (i : ℕ) (x : X) → i < length xs → x ≡ get_or xs i x → map act_of xs ≡ map act_of (take i xs) ++ (act_of x ∷ map act_of (drop (i + 1) xs))
  acts_parted xs i x less there =
      let parts : xs ≡ take i xs ++ (x ∷ drop (i + 1) xs) =
      sym (take-append-drop i xs) ∙ ap (λ ys. take i xs ++ ys) (drop_more xs i x less ∙ ap (λ (y : X). y ∷ drop (i + 1) xs) (sym there)) in
      ap (map act_of) parts ∙ map-append act_of (take i xs) (x ∷ drop (i + 1) xs)

  pub did_more : (xs : List X) (i : ℕ) (x : X) (a b c : Option Told) → i < length xs → x ≡ get_or xs i x → Did a b (map act_of (take i xs)) →
      Did b c (act_of x ∷ []) → Did a c (map act_of (take (i + 1) xs))
  did_more xs i x a b c less there so_far one =
      let more : take (i + 1) xs ≡ take i xs ++ x ∷ [] = take_more xs i x less ∙ ap (λ (y : X). take i xs ++ y ∷ []) (sym there) in
      subst (λ (acts : List Act). Did a c acts) (sym (ap (map act_of) more ∙ map-append act_of (take i xs) (x ∷ [])))
      (did_both a b c (map act_of (take i xs)) (act_of x ∷ []) so_far one)

  pub stopped_more : (xs : List X) (i : ℕ) (x : X) (a b c : Option Told) → i < length xs → x ≡ get_or xs i x → Did a b (map act_of (take i xs)) →
      StoppedIn b c (act_of x ∷ []) → StoppedIn a c (map act_of xs)
  stopped_more xs i x a b c less there so_far one =
      subst (λ (acts : List Act). StoppedIn a c acts) (sym (acts_parted xs i x less there))
      (stopped_late a b c (map act_of (take i xs)) (act_of x ∷ map act_of (drop (i + 1) xs)) so_far
      (stopped_early b c (act_of x ∷ []) (map act_of (drop (i + 1) xs)) one))
