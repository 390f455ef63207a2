-- What is known of an opening that is told.
use Rattle.std.proofs.Common.{◌≡◌, ℕ, ◌<◌, ◌≤◌, arith, slice_index_or, List, [], ◌∷◌, ◌++◌, length, take, Option, Some, None, IfSome, Result, Ok, Err, IfOk, OnOk, OnErr, refl, sym, ap, subst, ◌∙◌, inl, inr}
use Rattle.disk.specs.Acts.{Act}
use Rattle.disk.specs.Areas.{area_at}
use Rattle.disk.specs.Disk.{contents}
use Rattle.disk.specs.DiskLaws.{IsCutShort}
use Rattle.disk.proofs.CutShort.{fronts_are_cut_short}
use Rattle.raft_types.specs.Messages.{KeptView}
use Rattle.slots.specs.Opening.{Not, Refused, by_selector, named, opening}
use Rattle.slots.specs.Opening.{opened as slots_opened}
use Rattle.slots.specs.Opening as area
use Rattle.slots.proofs.Images.{contents_at}
use Rattle.slots.specs.Saving.{sync_acts}
use Rattle.vst_base.specs.declared.stack.StackId.{StackId}
use Rattle.wire_fields.specs.Formats.{Format, IsFormat}
use Rattle.node_acts.specs.StateActs.{first_kept, acts_by_selector, acts_on_slot, opening_acts, renewing_acts, store_found}
use Rattle.node_acts.specs.StateLaws.{OpeningFits}
use Rattle.node_acts.specs.Stores.{StoreView, Holds, found_by}
use Rattle.node_acts.proofs.StateOpens.{calm_at, fresh_is_held, found_is_held, opening_leaves, opens_found, syncs_leave}
use Rattle.node_body.specs.Bodies.{body, body_of}
use Rattle.node_body.specs.Fronts.{hides_more}
use Rattle.node_body.specs.Slots.{slot_found}
use Rattle.node_body.specs.declared.commands.TheConstants.{MAX_COMMAND}
use Rattle.node_body.specs.declared.slot.Held as slot
use Rattle.node_body.specs.declared.version.Version.TheVariants.{One}
use Rattle.node_body.specs.declared.who.Who.{Who}
use Rattle.node_body.specs.declared.why.Why.{Why}
use Rattle.node_device.specs.Telling.{Told, told_after, Did, WhereTold, StoppedIn}
use Rattle.node_state.specs.Answers.{Answers, FoundSo, IfRefused, OpenedSo, RenewedFits, acts_told, kept_in, refusal_of, slot_acts_told, store_in}
use Rattle.node_state.specs.Crashes.{LeavesFound, StoppedWith}
use Rattle.node_state.specs.Fronts.{FoundByFront}
use Rattle.node_state.specs.declared.opening.Opened.{Opened}
use Rattle.node_state.specs.declared.opening.Opened.TheVariants as opened
use Rattle.node_state.specs.declared.opening.OpenFault.{OpenFault}
use Rattle.node_state.specs.declared.opening.OpenFault.TheVariants as fault
use Rattle.node_state.proofs.Crashing.{stopped_with}
use Rattle.node_state.proofs.Stopping.{did_both, stopped_late}

whole : (acts : List Act) → IsCutShort acts acts
whole [] = tt
whole (a ∷ acts) = inl (refl, whole acts)

module _ {C : Type 0} (s : StackId) (f : Format C) (is_f : IsFormat f) (short : (c : C) → f.Fits c → length (f.spell c) ≤ MAX_COMMAND) (who : Who) where
  answer_told : (o : Opened C) (told : Told) → OpenedSo s f who o told → Answers o (opening (found_by s f who) (contents told.disk))
  answer_told (opened.Fresh store) told so = ap (by_selector (found_by s f who) (contents told.disk)) so.0
  answer_told (opened.Held store kept) told so =
      subst (λ (k : KeptView C). Answers (opened.Held store k) (opening (found_by s f who) (contents told.disk))) (sym so.2.kept_is)
      (so.0, opens_found s f is_f short who told.disk so.0 so.2.slot so.1 so.2.found)

  pub answer_any : {E : Type 0} (r : Result (Opened C) E) (a : Option Told) → IfOk r (λ o. IfSome a (OpenedSo s f who o)) →
      IfOk r (λ o. IfSome a (λ told. Answers o (opening (found_by s f who) (contents told.disk))))
  answer_any (Ok o) None so = tt
  answer_any (Ok o) (Some told) so = answer_told o told so
  answer_any (Err x) a so = tt

  holds_did : (o : Opened C) (told : Told) → OpenedSo s f who o told → Holds s f (store_in o) (kept_in o) (told_after told (opening_acts s f who (contents told.disk))).disk
  holds_did (opened.Fresh store) told so =
      subst (λ (x : StoreView). Holds s f x first_kept (told_after told (opening_acts s f who (contents told.disk))).disk) (sym so.1)
      (fresh_is_held s f is_f short who told.disk so.0 so.2)
  holds_did (opened.Held store kept) told so =
      subst (λ (k : KeptView C). Holds s f store k (told_after told (opening_acts s f who (contents told.disk))).disk) (sym so.2.kept_is)
      (subst (λ (x : StoreView). Holds s f x so.2.slot.journal.kept (told_after told (opening_acts s f who (contents told.disk))).disk) (sym so.2.store_is)
      (found_is_held s f is_f short who told.disk so.0 so.2.slot so.1 so.2.found so.2.fits))

  holds_told : (o : Opened C) (a b : Option Told) → IfSome a (OpenedSo s f who o) → Did a b (acts_told s f who a) → IfSome b (λ told. Holds s f (store_in o) (kept_in o) told.disk)
  holds_told o None b so did = subst (λ (x : Option Told). IfSome x (λ told. Holds s f (store_in o) (kept_in o) told.disk)) (sym did) tt
  holds_told o (Some told) b so did = subst (λ (x : Option Told). IfSome x (λ told. Holds s f (store_in o) (kept_in o) told.disk)) (sym did) (holds_did o told so)

  pub holds_any : {E : Type 0} (r : Result (Opened C) E) (a b : Option Told) → IfOk r (λ o. IfSome a (OpenedSo s f who o)) → OnOk r (Did a b (acts_told s f who a)) →
      IfOk r (λ o. IfSome b (λ told. Holds s f (store_in o) (kept_in o) told.disk))
  holds_any (Ok o) a b so did = holds_told o a b so did
  holds_any (Err x) a b so did = tt

  -- cut short
  stopped_told : (P : Type 0) (a b : Option Told) → StoppedWith P a b sync_acts (acts_told s f who a) → StoppedIn a b (acts_told s f who a)
  stopped_told P None b (inl x) = x
  stopped_told P None b (inr x) = x.1
  stopped_told P (Some told) b x = stopped_with P (Some told) b sync_acts (acts_by_selector s f who (contents told.disk) told.disk.selector.bytes) x

  pub stopped_any : {T E : Type 0} (r : Result T E) (P : Type 0) (a b : Option Told) → OnErr r (StoppedWith P a b sync_acts (acts_told s f who a)) → OnErr r (StoppedIn a b (acts_told s f who a))
  stopped_any (Ok x) P a b stopped = tt
  stopped_any (Err x) P a b stopped = stopped_told P a b stopped

  -- what a crash leaves
  same_slot : (a b : slot.Held C) → ◌≡◌ {A = Result (slot.Held C) Why} (Ok a) (Ok b) → a ≡ b
  same_slot a b e = cc

  opened_fits : (o : Opened C) (told : Told) → OpenedSo s f who o told → OpeningFits s f who told.disk
  opened_fits (opened.Fresh store) told so = record {
    first = λ e. so.2;
    renewed = λ selector found is e one. absurd (cc (so.0, is));
  }
  opened_fits (opened.Held store kept) told so = record {
    first = λ e. absurd (cc (so.1, e));
    renewed = λ selector found is e one. renewed_fits selector found is e one;
  }
    where
      renewed_fits : (selector : ℕ) (found : slot.Held C) → told.disk.selector.bytes ≡ selector ∷ [] → slot_found s f who (area_at told.disk (named selector)).bytes ≡ Ok found → found.version ≡ One →
          (body s f).Fits (body_of who found.journal.kept)
      renewed_fits selector found is e one =
          let same : so.0 ≡ selector = cc (so.1, is) in
          let there : slot_found s f who (area_at told.disk (named selector)).bytes ≡ Ok so.2.slot =
          subst (λ n. slot_found s f who (area_at told.disk (named n)).bytes ≡ Ok so.2.slot) same so.2.found in
          let slots : so.2.slot ≡ found = same_slot so.2.slot found (sym there ∙ e) in
          subst (λ (x : slot.Held C). (body s f).Fits (body_of who x.journal.kept)) slots (so.2.fits (ap (λ (x : slot.Held C). x.version) slots ∙ one))

  leaves_did : (o : Opened C) (a b : Option Told) → IfSome a (OpenedSo s f who o) → Did a b (acts_told s f who a) → WhereTold a b (LeavesFound s f who)
  leaves_did o None b so did = did
  leaves_did o (Some told) b so did =
      let acts : List Act = opening_acts s f who (contents told.disk) in
      subst (λ (x : Option Told). WhereTold (Some told) x (LeavesFound s f who)) (sym did)
      (record {
        did = opening_acts s f who (contents told.disk);
        acts = refl;
        each = λ n image m third. opening_leaves s f is_f short who told.disk (take n acts) image (fronts_are_cut_short acts acts n (whole acts)) (opened_fits o told so) m third;
      })

  leaves_stopped : (a b : Option Told) → StoppedWith (IfSome a (λ told. OpeningFits s f who told.disk)) a b sync_acts (acts_told s f who a) → WhereTold a b (LeavesFound s f who)
  leaves_stopped None b (inl x) = x
  leaves_stopped None b (inr x) = x.1
  leaves_stopped (Some told) None (inl x) = x
  leaves_stopped (Some told) None (inr x) = x.1
  leaves_stopped (Some told) (Some new) (inl x) =
      record { did = x.0; acts = x.2.acts; each = λ n image m third. inl (syncs_leave told.disk (take n x.0) image (fronts_are_cut_short sync_acts x.0 n x.1) m third) }
  leaves_stopped (Some told) (Some new) (inr x) =
      let acts : List Act = opening_acts s f who (contents told.disk) in
      record {
        did = x.1.0;
        acts = x.1.2.acts;
        each = λ n image m third. opening_leaves s f is_f short who told.disk (take n x.1.0) image (fronts_are_cut_short acts x.1.0 n x.1.1) x.0 m third;
      }

  pub crash_any : {E : Type 0} (r : Result (Opened C) E) (a b : Option Told) → IfOk r (λ o. IfSome a (OpenedSo s f who o)) → OnOk r (Did a b (acts_told s f who a)) →
      OnErr r (StoppedWith (IfSome a (λ told. OpeningFits s f who told.disk)) a b sync_acts (acts_told s f who a)) → WhereTold a b (LeavesFound s f who)
  crash_any (Ok o) a b so did stopped = leaves_did o a b so did
  crash_any (Err x) a b so did stopped = leaves_stopped a b stopped

module _ {C : Type 0} (s : StackId) (f : Format C) (who : Who) (selector len : ℕ) where
  -- what was found of the slot that is told
  abbrev SlotSo : Result (slot.Held C) Why → Told → Type 0
  SlotSo found told = FoundByFront s f who (area_at told.disk (named selector)).bytes len found

  fits_of_found : (told : Told) (found : slot.Held C) → SlotSo (Ok found) told → (found.version ≡ One → (body s f).Fits (body_of who found.journal.kept)) → RenewedFits s f who selector told
  fits_of_found told found is fits = λ other there one.
      let slots : hides_more is.others found ≡ other = cc (sym is.slot ∙ there) in
      subst (λ (x : slot.Held C). (body s f).Fits (body_of who x.journal.kept)) slots (fits (ap (λ (x : slot.Held C). x.version) slots ∙ one))

  -- the acts on it
  pub slot_stopped : (a b : Option Told) (found : slot.Held C) → IfSome a (SlotSo (Ok found)) →
      StoppedWith (found.version ≡ One → (body s f).Fits (body_of who found.journal.kept)) a b [] (renewing_acts s f who selector found.version found.journal.kept) →
      StoppedWith (IfSome a (RenewedFits s f who selector)) a b [] (slot_acts_told s f who selector a)
  slot_stopped None b found is (inl x) = inl x
  slot_stopped None b found is (inr x) = inr (tt, x.1)
  slot_stopped (Some told) b found is (inl x) = inl x
  slot_stopped (Some told) b found is (inr x) =
      inr (fits_of_found told found is x.0, subst (λ acts. StoppedIn (Some told) b acts) (ap (λ r. acts_on_slot s f who selector r) (sym is.slot)) x.1)

-- one byte was read of area 2
pub one_selector : (items bytes : List ℕ) → 1 ≤ length items → length items < 2 → items ≡ take 2 bytes → bytes ≡ slice_index_or items 0 0 ∷ []
one_selector items [] some few e = absurd (omega (arith, some, ap length e))
one_selector items (b ∷ []) some few e = ap (λ xs. slice_index_or xs 0 0 ∷ []) (sym e)
one_selector items (b ∷ c ∷ bytes) some few e = absurd (omega (arith, few, ap length e))

pub names_read : (m : Option Told) (items slice : List ℕ) → slice ≡ items → 1 ≤ length slice → length slice < 2 → IfSome m (λ told. items ≡ take 2 (area_at told.disk 2).bytes) →
    IfSome m (λ told. told.disk.selector.bytes ≡ slice_index_or slice 0 0 ∷ [])
names_read None items slice e some few read = tt
names_read (Some told) items slice e some few read = one_selector slice told.disk.selector.bytes some few (e ∙ read)

module _ {C : Type 0} (s : StackId) (f : Format C) (who : Who) (n : ℕ) where
  acts_split : (told : Told) → told.disk.selector.bytes ≡ n ∷ [] → sync_acts ++ slot_acts_told s f who n (Some (told_after told sync_acts)) ≡ acts_told s f who (Some told)
  acts_split told is =
      ap (λ bytes. sync_acts ++ acts_on_slot s f who n (slot_found s f who bytes)) (calm_at told.disk (named n) ∙ sym (contents_at told.disk (named n)))
      ∙ ap (λ bytes. sync_acts ++ acts_by_selector s f who (contents told.disk) bytes) (sym is)

  -- the selector of the areas that are told
  abbrev pub Names : Option Told → Type 0
  Names m = IfSome m (λ told. told.disk.selector.bytes ≡ n ∷ [])

  pub areas_did : (a m b : Option Told) → Did a m sync_acts → Names m → Did m b (slot_acts_told s f who n m) → Did a b (acts_told s f who a)
  areas_did None m b d is e = subst (λ (o : Option Told). Did o b (slot_acts_told s f who n o)) d e
  areas_did (Some told) m b d is e =
      let there = subst (λ (o : Option Told). Names o) d is in
      subst (λ acts. Did (Some told) b acts) (acts_split told there)
      (did_both (Some told) (Some (told_after told sync_acts)) b sync_acts (slot_acts_told s f who n (Some (told_after told sync_acts))) refl
      (subst (λ (o : Option Told). Did o b (slot_acts_told s f who n o)) d e))

  areas_fit : (told : Told) → told.disk.selector.bytes ≡ n ∷ [] → RenewedFits s f who n (told_after told sync_acts) → OpeningFits s f who told.disk
  areas_fit told is fits = record {
    first = λ e. absurd (cc (is, e));
    renewed = λ selector found there e one.
        let same : selector ≡ n = cc (is, there) in
        fits found (ap (λ bytes. slot_found s f who bytes) (calm_at told.disk (named n)) ∙ subst (λ m. slot_found s f who (area_at told.disk (named m)).bytes ≡ Ok found) same e) one;
  }

  pub areas_stopped : (a m b : Option Told) → Did a m sync_acts → Names m → StoppedWith (IfSome m (RenewedFits s f who n)) m b [] (slot_acts_told s f who n m) →
      StoppedWith (IfSome a (λ told. OpeningFits s f who told.disk)) a b sync_acts (acts_told s f who a)
  areas_stopped None m b d is (inl x) = inl (subst (λ (o : Option Told). StoppedIn o b []) d x)
  areas_stopped None m b d is (inr x) = inl (subst (λ (o : Option Told). StoppedIn o b (slot_acts_told s f who n o)) d x.1)
  areas_stopped (Some told) m b d is (inl x) = inl (stopped_late (Some told) m b sync_acts [] d x)
  areas_stopped (Some told) m b d is (inr x) =
      let there = subst (λ (o : Option Told). Names o) d is in
      let fits = subst (λ (o : Option Told). IfSome o (RenewedFits s f who n)) d x.0 in
      inr (
        areas_fit told there fits,
        subst (λ acts. StoppedIn (Some told) b acts) (acts_split told there)
            (stopped_late (Some told) (Some (told_after told sync_acts)) b sync_acts (slot_acts_told s f who n (Some (told_after told sync_acts))) refl
            (subst (λ (o : Option Told). StoppedIn o b (slot_acts_told s f who n o)) d x.1)),
      )

  areas_opened_told : (told : Told) (store : StoreView) (kept : KeptView C) → told.disk.selector.bytes ≡ n ∷ [] → FoundSo s f who n store kept (told_after told sync_acts) →
      OpenedSo s f who (opened.Held store kept) told
  areas_opened_told told store kept is so =
      let calm = calm_at told.disk (named n) in (
        n,
        is,
        record {
          slot = so.slot;
          found = ap (slot_found s f who) (sym calm) ∙ so.found;
          store_is = so.store_is ∙ ap (λ bytes. store_found s f who n (length bytes) so.slot.version so.slot) calm;
          kept_is = so.kept_is;
          fits = so.fits;
        },
      )

  pub areas_opened : (a m : Option Told) (store : StoreView) (kept : KeptView C) → Did a m sync_acts → Names m → IfSome m (FoundSo s f who n store kept) →
      IfSome a (OpenedSo s f who (opened.Held store kept))
  areas_opened None m store kept d is so = tt
  areas_opened (Some told) m store kept d is so =
      areas_opened_told told store kept (subst (λ (o : Option Told). Names o) d is) (subst (λ (o : Option Told). IfSome o (FoundSo s f who n store kept)) d so)

  refused_told : (told : Told) (why : area.Why) → told.disk.selector.bytes ≡ n ∷ [] → found_by s f who (area_at (told_after told sync_acts).disk (named n)).bytes ≡ Not why →
      opening (found_by s f who) (contents told.disk) ≡ Refused why
  refused_told told why is e =
      ap (by_selector (found_by s f who) (contents told.disk)) is
      ∙ ap (λ x. slots_opened x n) (ap (found_by s f who) (contents_at told.disk (named n) ∙ sym (calm_at told.disk (named n))) ∙ e)

  refused_some : (a m : Option Told) (why : area.Why) → Did a m sync_acts → Names m → IfSome m (λ told. found_by s f who (area_at told.disk (named n)).bytes ≡ Not why) →
      IfSome a (λ told. opening (found_by s f who) (contents told.disk) ≡ Refused why)
  refused_some None m why d is e = tt
  refused_some (Some told) m why d is e =
      refused_told told why (subst (λ (o : Option Told). Names o) d is) (subst (λ (o : Option Told). IfSome o (λ told. found_by s f who (area_at told.disk (named n)).bytes ≡ Not why)) d e)

  pub areas_refused : (a m b : Option Told) (e : OpenFault) → Did a m sync_acts → Names m →
      IfRefused e (λ why. (b ≡ m) × IfSome m (λ told. found_by s f who (area_at told.disk (named n)).bytes ≡ Not why)) →
      IfRefused e (λ why. Did a b sync_acts × IfSome a (λ told. opening (found_by s f who) (contents told.disk) ≡ Refused why))
  areas_refused a m b fault.Store d is h = tt
  areas_refused a m b fault.Memory d is h = tt
  areas_refused a m b (fault.Refused why) d is h = (h.0 ∙ d, refused_some a m (refusal_of why) d is h.1)
