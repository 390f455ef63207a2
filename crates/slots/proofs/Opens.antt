-- Each moment of an opening.
use Rattle.std.proofs.Common.{◌≡◌, ◌≢◌, ℕ, zero, suc, ◌<◌, ◌≤◌, true, List, [], ◌∷◌, ◌++◌, length, take, refl, sym, ap, subst, ◌∙◌, arith, ◌⊎◌, inl, inr}
use Rattle.std.proofs.lemmas.List.{take-append-le}
use Rattle.disk.specs.Acts.{Act, Sync, Synced, StoreFailed}
use Rattle.disk.specs.Areas.{area_at, each}
use Rattle.disk.specs.Disk.{Area, Disk, Image, contents, settled, IsSettled, NothingPending, synced, effect, after}
use Rattle.disk.specs.Between.{Crash, holds_by, leaves_by}
use Rattle.disk.specs.DiskLaws.{Fails, IsReadFault, IsCutShort}
use Rattle.disk.proofs.Between.{IsCrash}
use Rattle.disk.proofs.CutShort.{faults_add_nothing_by}
use Rattle.disk.proofs.Disks.{settled_stays, sync_takes_away}
use Rattle.slots.specs.Opening.{Found, Is, Fresh, Held, opening, by_selector, OpensAs}
use Rattle.slots.specs.Saving.{slot_acts, flip_acts, save_acts, sync_acts, fresh_acts, open_acts, move_acts}
use Rattle.slots.specs.SavingLaws.{Rests, Interrupted, StaysFound, Opens, Moves}
use Rattle.slots.proofs.Elsewhere.{Apart, take_none}
use Rattle.slots.proofs.Images.{selector_apart, either, held_from, image_settled, pending_from}
use Rattle.slots.proofs.Saves.{saves, slot_done, slot_else, slot_else_done, flip_else, flip_done, flip_length, settled_from}
use Rattle.lists.specs.Places.{not_empty}

begins : (bytes first : List ℕ) → take 3 (open_acts bytes first) ≡ sync_acts
begins [] first = refl
begins (s ∷ rest) first = refl

pub calm : (disk : Disk) → NothingPending (each synced disk)
calm disk = pending_from (each synced disk) at
  where
    at : (n : ℕ) → IsSettled (area_at (each synced disk) n)
    at zero = record { ranges = refl; lengths = refl }
    at (suc zero) = record { ranges = refl; lengths = refl }
    at (suc (suc n)) = record { ranges = refl; lengths = refl }

-- the acts on a directory whose selector is empty

blank : {K : Type 0} (found : List ℕ → Found K) (image : Image) → image.selector ≡ [] → opening found image ≡ Fresh
blank found image e = ap (by_selector found image) e

one_or_none : {K : Type 0} (found : List ℕ → Found K) (first : K) (image : Image) → length image.selector ≤ 1 → found image.slot0 ≡ Is first → found image.slot1 ≡ Is first →
    (opening found image ≡ Fresh) ⊎ OpensAs found first image
one_or_none found first image l e f = go image.selector refl l
  where
    go : (bytes : List ℕ) → image.selector ≡ bytes → length bytes ≤ 1 → (opening found image ≡ Fresh) ⊎ OpensAs found first image
    go [] is h = inl (blank found image is)
    go (v ∷ []) is h = inr (v, held_from found image first v is (either (λ n. found (area_at image n) ≡ Is first) 0 v e f))
    go (v ∷ w ∷ rest) is h = absurd (omega arith)

slots01 : (slot : ℕ) → slot < 2 → Apart 2 slot
slots01 slot h = selector_apart slot h

abbrev first_done : List ℕ → Disk → Disk
first_done bytes disk = after disk (slot_acts 0 bytes)

abbrev both_done : List ℕ → Disk → Disk
both_done bytes disk = after (first_done bytes disk) (slot_acts 1 bytes)

both_slot0 : (bytes : List ℕ) (disk : Disk) → area_at (both_done bytes disk) 0 ≡ settled bytes
both_slot0 bytes disk = slot_else_done 1 0 bytes (first_done bytes disk) ((λ e. omega arith), inl (omega arith)) ∙ slot_done 0 bytes disk

both_slot1 : (bytes : List ℕ) (disk : Disk) → area_at (both_done bytes disk) 1 ≡ settled bytes
both_slot1 bytes disk = slot_done 1 bytes (first_done bytes disk)

first_selector : (bytes : List ℕ) (disk : Disk) → disk.selector ≡ settled [] → (first_done bytes disk).selector ≡ settled []
first_selector bytes disk e = slot_else_done 0 2 bytes disk (slots01 0 (omega arith)) ∙ e

both_selector : (bytes : List ℕ) (disk : Disk) → disk.selector ≡ settled [] → (both_done bytes disk).selector ≡ settled []
both_selector bytes disk e = slot_else_done 1 2 bytes (first_done bytes disk) (slots01 1 (omega arith)) ∙ first_selector bytes disk e

fresh_end : {K : Type 0} (found : List ℕ → Found K) (first : K) (disk : Disk) (bytes : List ℕ) → found bytes ≡ Is first → disk.selector ≡ settled [] →
    Rests found first 0 (after (both_done bytes disk) (flip_acts 0))
fresh_end found first disk bytes f e = record {
  pending = settled_from end 0 bytes bytes (0 ∷ []) zeroth oneth sel;
  opens = held_from found (contents end) first 0 (ap (λ (x : Area). x.bytes) sel) (ap found (ap (λ (x : Area). x.bytes) zeroth) ∙ f);
}
  where
    end : Disk
    end = after (both_done bytes disk) (flip_acts 0)

    zeroth : area_at end 0 ≡ settled bytes
    zeroth = flip_else 0 0 2 (both_done bytes disk) (omega arith) ∙ both_slot0 bytes disk

    oneth : area_at end 1 ≡ settled bytes
    oneth = flip_else 0 1 2 (both_done bytes disk) (omega arith) ∙ both_slot1 bytes disk

    sel : end.selector ≡ settled (0 ∷ [])
    sel = flip_done 0 (both_done bytes disk) (rw (both_selector bytes disk e) (omega arith))

-- by what area 2 reads as

found_end : {K : Type 0} (found : List ℕ → Found K) (disk : Disk) (first bytes : List ℕ) (kept : K) (s : ℕ) → disk.selector.bytes ≡ bytes → opening found (contents disk) ≡ Held kept s →
    Rests found kept s (after disk (open_acts bytes first))
found_end found disk first [] kept s is e = absurd (cc (blank found (contents disk) is, e))
found_end found disk first (t ∷ rest) kept s is e = record { pending = calm disk; opens = e }

opening_end : {K : Type 0} (found : List ℕ → Found K) (first : K) (disk : Disk) (slot bytes : List ℕ) → found slot ≡ Is first → disk.selector.bytes ≡ bytes → bytes ≡ [] →
    Rests found first 0 (after disk (open_acts bytes slot))
opening_end found first disk slot (s ∷ rest) f is e = absurd (cc e)
opening_end found first disk slot [] f is e = fresh_end found first (each synced disk) slot f (ap settled is)

-- where a fault cuts the acts short

sync_is_no_fault : (area : ℕ) (did : Act) → did ≡ Synced area → Fails (Synced area) did ⊎ IsReadFault did → ⊥
sync_is_no_fault area did e (inl f) = let g : did ≡ StoreFailed (Sync area) = f in absurd (cc (e, g))
sync_is_no_fault area did e (inr r) = subst IsReadFault e r

places : (more did : List Act) → IsCutShort (sync_acts ++ more) did → (length did ≤ 3) ⊎ (take 3 did ≡ sync_acts)
places more [] c = inl (omega arith)
places more (a ∷ []) c = inl (omega arith)
places more (a ∷ b ∷ []) c = inl (omega arith)
places more (a ∷ b ∷ d ∷ []) c = inl (omega arith)
places more (a ∷ b ∷ d ∷ x ∷ rest) (inr c) = absurd (not_empty b (d ∷ x ∷ rest) c.1)
places more (a ∷ b ∷ d ∷ x ∷ rest) (inl c) = second c.1
  where
    third : b ≡ Synced 1 → IsCutShort (Synced 2 ∷ more) (d ∷ x ∷ rest) → (length (a ∷ b ∷ d ∷ x ∷ rest) ≤ 3) ⊎ (take 3 (a ∷ b ∷ d ∷ x ∷ rest) ≡ sync_acts)
    third e (inl k) = inr (rw (c.0, e, k.0) refl)
    third e (inr k) = absurd (not_empty x rest k.1)

    second : IsCutShort (Synced 1 ∷ Synced 2 ∷ more) (b ∷ d ∷ x ∷ rest) → (length (a ∷ b ∷ d ∷ x ∷ rest) ≤ 3) ⊎ (take 3 (a ∷ b ∷ d ∷ x ∷ rest) ≡ sync_acts)
    second (inl k) = third k.0 k.1
    second (inr k) = absurd (not_empty d (x ∷ rest) k.1)

-- the three syncs, and then acts that were cut short
record Past (more did : List Act) : Type 0 where
  pub rest : List Act
  pub is : did ≡ sync_acts ++ rest
  pub short : IsCutShort more rest

past_syncs : (more did : List Act) → IsCutShort (sync_acts ++ more) did → take 3 did ≡ sync_acts → Past more did
past_syncs more [] c e = absurd (cc e)
past_syncs more (a ∷ []) c e = absurd (cc e)
past_syncs more (a ∷ b ∷ []) c e = absurd (cc e)
past_syncs more (a ∷ b ∷ d ∷ rest) c e = first c
  where
    third : IsCutShort (Synced 2 ∷ more) (d ∷ rest) → Past more (a ∷ b ∷ d ∷ rest)
    third (inl k) = record { rest = rest; is = ap (λ xs. xs ++ rest) e; short = k.1 }
    third (inr k) = let h : a ∷ b ∷ d ∷ [] ≡ Synced 0 ∷ Synced 1 ∷ Synced 2 ∷ [] = e in absurd (sync_is_no_fault 2 d (cc h) k.0)

    second : IsCutShort (Synced 1 ∷ Synced 2 ∷ more) (b ∷ d ∷ rest) → Past more (a ∷ b ∷ d ∷ rest)
    second (inl k) = third k.1
    second (inr k) = absurd (not_empty d rest k.1)

    first : IsCutShort (sync_acts ++ more) (a ∷ b ∷ d ∷ rest) → Past more (a ∷ b ∷ d ∷ rest)
    first (inl k) = second k.1
    first (inr k) = absurd (not_empty b (d ∷ rest) k.1)

small : (n l : ℕ) → (n ≡ l) ⊎ (suc n ≡ l) → l ≤ 3 → n ≤ 3
small n l (inl e) h = omega arith
small n l (inr e) h = omega arith

-- a slot of an older form

still : {K : Type 0} (found : List ℕ → Found K) (disk : Disk) (s : ℕ) (kept : K) → opening found (contents disk) ≡ Held kept s → Rests found kept s (each synced disk)
still found disk s kept h = record { pending = calm disk; opens = h }

-- each moment, by a test of what a crash may make of an area
module _ (crash : Crash) (is_crash : IsCrash crash) where
  -- only syncs
  only_syncs : (disk : Disk) (image : Image) (n : ℕ) → n ≤ 3 → leaves_by crash disk (take n sync_acts) image ≡ true → holds_by crash disk image ≡ true
  only_syncs disk image zero h m = m
  only_syncs disk image (suc zero) h m = sync_takes_away crash is_crash 0 disk image m
  only_syncs disk image (suc (suc zero)) h m = sync_takes_away crash is_crash 0 disk image (sync_takes_away crash is_crash 1 (effect (Synced 0) disk) image m)
  only_syncs disk image (suc (suc (suc zero))) h m =
      sync_takes_away crash is_crash 0 disk image (sync_takes_away crash is_crash 1 (effect (Synced 0) disk) image (sync_takes_away crash is_crash 2 (effect (Synced 1) (effect (Synced 0) disk)) image m))
  only_syncs disk image (suc (suc (suc (suc n)))) h m = absurd (omega arith)

  syncing : (disk : Disk) (bytes first : List ℕ) (n : ℕ) (image : Image) → n ≤ 3 → leaves_by crash disk (take n (open_acts bytes first)) image ≡ true → holds_by crash disk image ≡ true
  syncing disk bytes first n image h m = only_syncs disk image n h (subst (λ (a : List Act). leaves_by crash disk a image ≡ true) (early bytes n h) m)
    where
      early : (bytes : List ℕ) (n : ℕ) → n ≤ 3 → take n (open_acts bytes first) ≡ take n sync_acts
      early [] n h = take-append-le n sync_acts (fresh_acts first) h
      early (s ∷ rest) n h = refl

  slot_blank : {K : Type 0} (found : List ℕ → Found K) (disk : Disk) (slot n : ℕ) (bytes : List ℕ) (image : Image) → slot < 2 → disk.selector ≡ settled [] →
      leaves_by crash disk (take n (slot_acts slot bytes)) image ≡ true → opening found image ≡ Fresh
  slot_blank found disk slot n bytes image h e m =
      blank found image (image_settled crash is_crash _ image m 2 [] (slot_else slot 2 n bytes disk (slots01 slot h) ∙ e))

  flipping : {K : Type 0} (found : List ℕ → Found K) (first : K) (disk : Disk) (n : ℕ) (bytes : List ℕ) (image : Image) → found bytes ≡ Is first → disk.selector ≡ settled [] →
      leaves_by crash (both_done bytes disk) (take n (flip_acts 0)) image ≡ true → (opening found image ≡ Fresh) ⊎ OpensAs found first image
  flipping found first disk n bytes image f e m =
      one_or_none found first image
      (flip_length crash is_crash 0 1 0 n (both_done bytes disk) image [] (both_selector bytes disk e) (omega arith) (omega arith) (omega arith) (omega arith) (omega arith) m).1
      (ap found (image_settled crash is_crash later image m 0 bytes (flip_else 0 0 n (both_done bytes disk) (omega arith) ∙ both_slot0 bytes disk)) ∙ f)
      (ap found (image_settled crash is_crash later image m 1 bytes (flip_else 0 1 n (both_done bytes disk) (omega arith) ∙ both_slot1 bytes disk)) ∙ f)
    where
      later : Disk
      later = after (both_done bytes disk) (take n (flip_acts 0))

  second_moment : {K : Type 0} (found : List ℕ → Found K) (first : K) (disk : Disk) (bytes : List ℕ) (image : Image) → found bytes ≡ Is first → disk.selector ≡ settled [] → (n : ℕ) →
      leaves_by crash (first_done bytes disk) (take n (slot_acts 1 bytes ++ flip_acts 0)) image ≡ true → (opening found image ≡ Fresh) ⊎ OpensAs found first image
  second_moment found first disk bytes image f e zero m = inl (slot_blank found (first_done bytes disk) 1 0 bytes image (omega arith) (first_selector bytes disk e) m)
  second_moment found first disk bytes image f e (suc zero) m = inl (slot_blank found (first_done bytes disk) 1 1 bytes image (omega arith) (first_selector bytes disk e) m)
  second_moment found first disk bytes image f e (suc (suc zero)) m = inl (slot_blank found (first_done bytes disk) 1 2 bytes image (omega arith) (first_selector bytes disk e) m)
  second_moment found first disk bytes image f e (suc (suc (suc n))) m = flipping found first disk n bytes image f e m

  fresh_moment : {K : Type 0} (found : List ℕ → Found K) (first : K) (disk : Disk) (bytes : List ℕ) (image : Image) → found bytes ≡ Is first → disk.selector ≡ settled [] → (n : ℕ) →
      leaves_by crash disk (take n (fresh_acts bytes)) image ≡ true → (opening found image ≡ Fresh) ⊎ OpensAs found first image
  fresh_moment found first disk bytes image f e zero m = inl (slot_blank found disk 0 0 bytes image (omega arith) e m)
  fresh_moment found first disk bytes image f e (suc zero) m = inl (slot_blank found disk 0 1 bytes image (omega arith) e m)
  fresh_moment found first disk bytes image f e (suc (suc zero)) m = inl (slot_blank found disk 0 2 bytes image (omega arith) e m)
  fresh_moment found first disk bytes image f e (suc (suc (suc n))) m = second_moment found first disk bytes image f e n m

  found_moment : (disk : Disk) (first : List ℕ) (bytes : List ℕ) → bytes ≢ [] → (n : ℕ) (image : Image) → 3 ≤ n → leaves_by crash disk (take n (open_acts bytes first)) image ≡ true →
      image ≡ contents disk
  found_moment disk first [] ne n image h m = absurd (ne refl)
  found_moment disk first (s ∷ rest) ne zero image h m = absurd (omega arith)
  found_moment disk first (s ∷ rest) ne (suc zero) image h m = absurd (omega arith)
  found_moment disk first (s ∷ rest) ne (suc (suc zero)) image h m = absurd (omega arith)
  found_moment disk first (s ∷ rest) ne (suc (suc (suc zero))) image h m = settled_stays crash is_crash (each synced disk) image (calm disk) m
  found_moment disk first (s ∷ rest) ne (suc (suc (suc (suc n)))) image h m = settled_stays crash is_crash (each synced disk) image (calm disk) m

  opening_fresh : {K : Type 0} (found : List ℕ → Found K) (first : K) (disk : Disk) (slot bytes : List ℕ) → found slot ≡ Is first → disk.selector.bytes ≡ bytes → bytes ≡ [] →
      (n : ℕ) (image : Image) → 3 ≤ n → leaves_by crash disk (take n (open_acts bytes slot)) image ≡ true → (opening found image ≡ Fresh) ⊎ OpensAs found first image
  opening_fresh found first disk slot (s ∷ rest) f is e n image h m = absurd (cc e)
  opening_fresh found first disk slot [] f is e zero image h m = absurd (omega arith)
  opening_fresh found first disk slot [] f is e (suc zero) image h m = absurd (omega arith)
  opening_fresh found first disk slot [] f is e (suc (suc zero)) image h m = absurd (omega arith)
  opening_fresh found first disk slot [] f is e (suc (suc (suc n))) image h m = fresh_moment found first (each synced disk) slot image f (ap settled is) n m

  -- after the syncs an image is one that the acts after them may leave at some moment
  after_syncs : (disk : Disk) (more did : List Act) (image : Image) → IsCutShort (sync_acts ++ more) did → take 3 did ≡ sync_acts → leaves_by crash disk did image ≡ true →
      (n : ℕ) × (leaves_by crash (each synced disk) (take n more) image ≡ true)
  after_syncs disk more did image c e m =
      let p = past_syncs more did c e in
      let w = faults_add_nothing_by crash (each synced disk) more p.rest image p.short (subst (λ (a : List Act). leaves_by crash disk a image ≡ true) p.is m) in
      (w.0, w.2)

  before_short : (disk : Disk) (more did : List Act) (image : Image) → IsCutShort (sync_acts ++ more) did → length did ≤ 3 → leaves_by crash disk did image ≡ true →
      holds_by crash disk image ≡ true
  before_short disk more did image c l m =
      let w = faults_add_nothing_by crash disk (sync_acts ++ more) did image c m in
      let h : w.0 ≤ 3 = small w.0 (length did) w.1 l in
      only_syncs disk image w.0 h (subst (λ (a : List Act). leaves_by crash disk a image ≡ true) (take-append-le w.0 sync_acts more h) w.2)

  held_short : (disk : Disk) (did : List Act) (image : Image) → IsCutShort sync_acts did → take 3 did ≡ sync_acts → leaves_by crash disk did image ≡ true → image ≡ contents disk
  held_short disk did image c e m =
      let w = after_syncs disk [] did image c e m in
      settled_stays crash is_crash (each synced disk) image (calm disk) (subst (λ (a : List Act). leaves_by crash (each synced disk) a image ≡ true) (take_none Act w.0 [] refl) w.1)

  opening_short : {K : Type 0} (found : List ℕ → Found K) (first : K) (disk : Disk) (slot bytes : List ℕ) → (bytes ≡ [] → found slot ≡ Is first) → disk.selector.bytes ≡ bytes →
      Interrupted crash (open_acts bytes slot) disk (λ image. StaysFound found first disk image)
  opening_short found first disk slot [] f is = record {
    places = places (fresh_acts slot);
    before = before_short disk (fresh_acts slot);
    stays = λ did image c e m.
        let w = after_syncs disk (fresh_acts slot) did image c e m in
        record { held = λ no. absurd (no is); fresh = λ z. fresh_moment found first (each synced disk) slot image (f refl) (ap settled is) w.0 w.1 };
  }
  opening_short found first disk slot (s ∷ rest) f is = record {
    places = places [];
    before = before_short disk [];
    stays = λ did image c e m. record { held = λ no. held_short disk did image c e m; fresh = λ z. absurd (not_empty s rest (sym is ∙ z)) };
  }

  pub opens : {K : Type 0} (found : List ℕ → Found K) (disk : Disk) (first : K) (slot : List ℕ) → (disk.selector.bytes ≡ [] → found slot ≡ Is first) →
      Opens crash found first (open_acts disk.selector.bytes slot) disk
  opens found disk first slot f = record {
    syncs = begins disk.selector.bytes slot;
    before = λ n image h m. syncing disk disk.selector.bytes slot n image h m;
    found_stays = found_moment disk slot disk.selector.bytes;
    found_done = λ kept s e. found_end found disk slot disk.selector.bytes kept s refl e;
    fresh = λ e. opening_fresh found first disk slot disk.selector.bytes (f e) refl e;
    fresh_done = λ e. opening_end found first disk slot disk.selector.bytes (f e) refl e;
    short = opening_short found first disk slot disk.selector.bytes f refl;
  }

  move_moment : {K : Type 0} (found : List ℕ → Found K) (disk : Disk) (s : ℕ) (kept : K) (bytes : List ℕ) → opening found (contents disk) ≡ Held kept s → found bytes ≡ Is kept →
      (n : ℕ) (image : Image) → 3 ≤ n → leaves_by crash disk (take n (move_acts s bytes)) image ≡ true → OpensAs found kept image
  move_moment found disk s kept bytes h f zero image l m = absurd (omega arith)
  move_moment found disk s kept bytes h f (suc zero) image l m = absurd (omega arith)
  move_moment found disk s kept bytes h f (suc (suc zero)) image l m = absurd (omega arith)
  move_moment found disk s kept bytes h f (suc (suc (suc n))) image l m =
      elim ((saves crash is_crash found (each synced disk) s kept kept bytes (still found disk s kept h) f).flip n image m) [ inl o ↦ o | inr o ↦ o ]

  pub moves : {K : Type 0} (found : List ℕ → Found K) (disk : Disk) (s : ℕ) (kept : K) (bytes : List ℕ) → opening found (contents disk) ≡ Held kept s → found bytes ≡ Is kept →
      Moves crash found kept s (move_acts s bytes) disk
  moves found disk s kept bytes h f = record {
    syncs = refl;
    before = λ n image l m. only_syncs disk image n l (subst (λ (a : List Act). leaves_by crash disk a image ≡ true) (take-append-le n sync_acts (save_acts s bytes) l) m);
    stays = move_moment found disk s kept bytes h f;
    done = (saves crash is_crash found (each synced disk) s kept kept bytes (still found disk s kept h) f).done;
    short = record {
      places = places (save_acts s bytes);
      before = before_short disk (save_acts s bytes);
      stays = λ did image c e m.
          let w = after_syncs disk (save_acts s bytes) did image c e m in
          elim ((saves crash is_crash found (each synced disk) s kept kept bytes (still found disk s kept h) f).flip w.0 image w.1) [ inl o ↦ o | inr o ↦ o ];
    };
  }
