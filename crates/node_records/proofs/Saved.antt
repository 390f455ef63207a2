-- What a crash leaves of whole turns: of the events that are saved, each counts.
use Rattle.std.proofs.Common.{◌≡◌, ℕ, suc, ◌+◌, ◌-◌, ◌<◌, ◌≤◌, Bool, true, false, nat_le, List, [], ◌∷◌, ◌++◌, length, length-take-le, take, drop, refl, sym, ap, subst, ◌∙◌, arith, ◌⊎◌, inl, inr, length-append, take-append-drop, if◌then◌else◌}
use Rattle.std.proofs.lemmas.Bool.{cases_lt, le-leb, lt-leb}
use Rattle.std.proofs.lemmas.List.{take-append-le}
use Rattle.disk.specs.Acts.{Act}
use Rattle.disk.specs.Disk.{Disk, Image, after, may_hold, may_leave}
use Rattle.raft_types.specs.Messages.{KeptView}
use Rattle.slots.specs.Opening.{Found, OpensAs}
use Rattle.slots.specs.SavingLaws.{Rests}
use Rattle.slots.specs.Turns.{Hears, Says, datagrams}
use Rattle.slots.proofs.Elsewhere.{after_append}
use Rattle.vst_base.specs.Machines.{MachineMeaning}
use Rattle.vst_base.specs.declared.stack.StackId.{StackId}
use Rattle.wire_fields.specs.Formats.{Format}
use Rattle.node_acts.specs.StateActs.{state_acts, store_after}
use Rattle.node_acts.specs.Stores.{StoreView}
use Rattle.node_run.specs.Runs.{Done, NodeView, Stage, Between, done_in, said_in, stage_after}
use Rattle.node_run.specs.Settings.{Settings}
use Rattle.node_records.specs.Records.{Stores, HearsAs, kept_by, saves_of, store_acts, store_by}
use Rattle.node_records.specs.Moments.{IsAt, IsSavedAt, LeavesSaved, saved_by}
use Rattle.node_records.specs.MomentLaws.{OpensAsEither, OpensThenAs}
use Rattle.node_records.proofs.ActKinds.{hears_after, hears_silent, hears_store, store_acts_append, stores_store}
use Rattle.node_records.proofs.Folds.{done_append}
use Rattle.node_records.proofs.Leaving.{after_hearing, hearing, later, later_counts, none_early, past, said_then, settling, settling_counts}
use Rattle.node_records.proofs.Turning.{Follows, turn, turn_follows}
use Rattle.lists.specs.Each.{Each, each_take}
use Rattle.lists.specs.Prefixes.{IsPrefix, prefix_of}

-- events that are saved

module _ {C : Type 0} (s : StackId) (f : Format C) where
  one_at_most : (store : StoreView) (d : Done C) (n : ℕ) → saved_by s f store (d ∷ []) n ≤ 1
  one_at_most store d n = by (nat_le (length (state_acts s f store d.kept)) n)
    where
      by : (b : Bool) → (if b then 1 else 0) ≤ 1
      by true = omega arith
      by false = omega arith

  not_yet : (store : StoreView) (d : Done C) (n : ℕ) → n < length (state_acts s f store d.kept) → saved_by s f store (d ∷ []) n ≡ 0
  not_yet store d n l = ap (λ b. if b then 1 else 0) (lt-leb (length (state_acts s f store d.kept)) n l)

  -- after all saves of some events, those of others
  saved_later : (store : StoreView) (ds es : List (Done C)) (n : ℕ) →
      saved_by s f store (ds ++ es) (length (saves_of s f store ds) + n) ≡ length ds + saved_by s f (store_by s f store ds) es n
  saved_later store [] es n =
      let same : 0 + n ≡ n = omega arith in
      omega (arith, ap (λ k. saved_by s f store es k) same)
  saved_later store (d ∷ ds) es n =
      let save = state_acts s f store d.kept in
      let next = store_after s f store d.kept in
      let rest = length (saves_of s f next ds) in
      let sum : length (save ++ saves_of s f next ds) + n ≡ length save + (rest + n) = omega (arith, length-append save (saves_of s f next ds)) in
      let left : length save + (rest + n) - length save ≡ rest + n = omega arith in
      let whole : nat_le (length save) (length save + (rest + n)) ≡ true = le-leb _ _ (omega arith) in
      let first = ap (λ k. saved_by s f store (d ∷ (ds ++ es)) k) sum
      ∙ (ap (λ b. if b then suc (saved_by s f next (ds ++ es) (length save + (rest + n) - length save)) else 0) whole
      ∙ ap (λ k. suc (saved_by s f next (ds ++ es) k)) left) in
      omega (arith, first, saved_later next ds es n)

module _ {S C O : Type 0} (settings : Settings) (m : MachineMeaning S C O) (f : Format C) (g : Format O) where
  abbrev decides : Stage S C O → List Act → List (Done C)
  decides stage acts = done_in settings m f g stage acts

  abbrev saved_in : Stage S C O → StoreView → List Act → ℕ
  saved_in stage store acts = saved_by settings.stack f store (decides stage acts) (length (store_acts acts))

  abbrev SavedAt : (List ℕ → Found (KeptView C)) → Stage S C O → KeptView C → StoreView → List Act → Image → Type 0
  SavedAt found stage kept store acts image = IsSavedAt settings m f g found stage kept store acts image

  abbrev moved : (found : List ℕ → Found (KeptView C)) (stage : Stage S C O) (kept : KeptView C) (store : StoreView) (xs ys : List Act) (image : Image) →
      ys ≡ xs → SavedAt found stage kept store xs image → SavedAt found stage kept store ys image
  moved found stage kept store xs ys image e at = subst (λ (acts : List Act). SavedAt found stage kept store acts image) (sym e) at

  -- what is decided of what was heard so far: nothing, or the event
  so_far : (stage : Stage S C O) (d : Done C) (n : ℕ) (hs : List Act) → decides stage hs ≡ d ∷ [] →
      (decides stage (take n hs) ≡ []) ⊎ (decides stage (take n hs) ≡ d ∷ [])
  so_far stage d n hs e =
      by (decides stage (take n hs)) (decides (stage_after settings m f g stage (take n hs)) (drop n hs))
      (sym (done_append settings m f g stage (take n hs) (drop n hs)) ∙ (ap (λ acts. decides stage acts) (take-append-drop n hs) ∙ e))
    where
      by : (xs ys : List (Done C)) → xs ++ ys ≡ d ∷ [] → (xs ≡ []) ⊎ (xs ≡ d ∷ [])
      by [] ys is = inl refl
      by (x ∷ []) ys is = inr cc
      by (x ∷ y ∷ xs) ys is = cc

  pub quiet_saves : (found : List ℕ → Found (KeptView C)) (stage next : Stage S C O) (kept : KeptView C) (store : StoreView) (selector : ℕ) (disk : Disk)
      (count : ℕ) (hs : List Act) → HearsAs settings m f g stage hs [] count next → Rests found kept selector disk →
      LeavesSaved settings m f g found stage kept store disk hs
  quiet_saves found stage next kept store selector disk count hs h r n image held =
      let none : decides stage (take n hs) ≡ [] = no_event (decides stage (take n hs)) (decides (stage_after settings m f g stage (take n hs)) (drop n hs))
      (sym (done_append settings m f g stage (take n hs) (drop n hs)) ∙ (ap (λ acts. decides stage acts) (take-append-drop n hs) ∙ h.events)) in
      let few = ap (λ (ds : List (Done C)). length ds) h.events in
      record {
        at = hearing settings m f g found stage kept selector disk hs h.hears (omega (arith, few)) h.last r n image held;
        saved = let zero_saved = ap (λ ds. saved_by settings.stack f store ds (length (store_acts (take n hs)))) none in omega (arith, zero_saved);
      }
    where
      no_event : (xs ys : List (Done C)) → xs ++ ys ≡ [] → xs ≡ []
      no_event [] ys is = refl
      no_event (x ∷ xs) ys is = cc

  module _ (found : List ℕ → Found (KeptView C)) (stage : Stage S C O) (kept : KeptView C) (store : StoreView) (selector : ℕ) (disk : Disk) (count : ℕ)
      (node : NodeView S C O) (d : Done C) (hs saves said : List Act) (h : HearsAs settings m f g stage hs (d ∷ []) count (Between node))
      (r : Rests found kept selector disk) (is : saves ≡ state_acts settings.stack f store d.kept) (st : Each Stores saves) (q : Each Says said)
      (front : IsPrefix (datagrams said) d.said) (either : OpensAsEither found kept d.kept disk saves) (new : OpensThenAs found d.kept disk saves) where
    size : length saves ≡ length (state_acts settings.stack f store d.kept)
    size = ap (λ acts. length acts) is

    -- within what was heard

    heard_disk : (n : ℕ) → after disk (take n hs) ≡ disk
    heard_disk n = hears_after (take n hs) disk (each_take Hears n hs h.hears)

    unstored : (n : ℕ) → length (store_acts (take n hs)) ≡ 0
    unstored n = ap (λ acts. length acts) (hears_store (take n hs) (each_take Hears n hs h.hears))

    -- an event whose save has no act is saved as it comes
    at_once : (n : ℕ) (image : Image) → saves ≡ [] → decides stage (take n hs) ≡ d ∷ [] → may_leave disk (take n hs) image ≡ true →
        SavedAt found stage kept store (take n hs) image
    at_once n image none decided held =
        let silent : datagrams (take n hs) ≡ [] = hears_silent (take n hs) (each_take Hears n hs h.hears) in
        let rested : may_leave disk saves image ≡ true =
        subst (λ (acts : List Act). may_leave disk acts image ≡ true) (sym none) (subst (λ (x : Disk). may_hold x image ≡ true) (heard_disk n) held) in
        record {
          at = record {
            c = 1;
            near = inl (sym (ap (λ ds. length ds) decided));
            ended = omega (arith, none_early settings m f g stage n hs h.last);
            opens = subst (λ (ds : List (Done C)). OpensAs found (kept_by kept (take 1 ds)) image) (sym decided) (new image rested);
            sent = prefix_of _ (said_in (take 1 (decides stage (take n hs)))) _ (ap (λ r. r ++ said_in (take 1 (decides stage (take n hs)))) silent);
          };
          saved = omega (
            arith,
            ap (λ ds. saved_by settings.stack f store ds (length (store_acts (take n hs)))) decided,
            one_at_most settings.stack f store d (length (store_acts (take n hs))),
          );
        }

    still_heard : (n : ℕ) (image : Image) → may_leave disk (take n hs) image ≡ true → SavedAt found stage kept store (take n hs) image
    still_heard n image held = by (so_far stage d n hs h.events) (cases_lt 0 (length saves))
      where
        old : IsAt settings m f g found stage kept (take n hs) image
        old = hearing settings m f g found stage kept selector disk hs h.hears (omega (arith, ap (λ ds. length ds) h.events)) h.last r n image held

        empty : (acts : List Act) → length acts ≤ 0 → acts ≡ []
        empty [] l = refl
        empty (act ∷ acts) l = absurd (omega (arith, l))

        by : (decides stage (take n hs) ≡ []) ⊎ (decides stage (take n hs) ≡ d ∷ []) → (0 < length saves) ⊎ (length saves ≤ 0) →
            SavedAt found stage kept store (take n hs) image
        by (inl none) some =
            record { at = old; saved = omega (arith, ap (λ ds. saved_by settings.stack f store ds (length (store_acts (take n hs)))) none) }
        by (inr decided) (inl some) =
            let zero_stored = ap (λ k. saved_by settings.stack f store (d ∷ []) k) (unstored n) in
            let early = not_yet settings.stack f store d 0 (omega (arith, some, size)) in
            record {
              at = old;
              saved = omega (arith, ap (λ ds. saved_by settings.stack f store ds (length (store_acts (take n hs)))) decided, zero_stored, early);
            }
        by (inr decided) (inr none) = at_once n image (empty saves none) decided held

    -- and after that

    acts_then : (k : ℕ) → store_acts (hs ++ take k (saves ++ said)) ≡ store_acts (take k (saves ++ said))
    acts_then k = store_acts_append hs (take k (saves ++ said)) ∙ ap (λ acts. acts ++ store_acts (take k (saves ++ said))) (hears_store hs h.hears)

    decided_then : (k : ℕ) → decides stage (hs ++ take k (saves ++ said)) ≡ d ∷ []
    decided_then k =
        (turn settings m f g stage (d ∷ []) count node hs (take k (saves ++ said)) h (each_take Follows k (saves ++ said) (turn_follows saves said st q))).events

    settled : (k : ℕ) (image : Image) → may_leave disk (take k (saves ++ said)) image ≡ true →
        SavedAt found stage kept store (hs ++ take k (saves ++ said)) image
    settled k image held = by (cases_lt k (length saves))
      where
        few : saved_in stage store (hs ++ take k (saves ++ said)) ≤ 1
        few = omega (
          arith,
          ap (λ ds. saved_by settings.stack f store ds (length (store_acts (hs ++ take k (saves ++ said))))) (decided_then k),
          one_at_most settings.stack f store d (length (store_acts (hs ++ take k (saves ++ said)))),
        )

        by : (k < length saves) ⊎ (length saves ≤ k) → SavedAt found stage kept store (hs ++ take k (saves ++ said)) image
        by (inl l) =
            let begun : store_acts (take k (saves ++ said)) ≡ take k saves =
            ap store_acts (take-append-le k saves said (omega (arith, l))) ∙ stores_store (take k saves) (each_take Stores k saves st) in
            let stored = ap (λ acts. length acts) (acts_then k ∙ begun) in
            let early = not_yet settings.stack f store d (length (take k saves)) (omega (arith, size, l, length-take-le k saves)) in
            record {
              at = settling settings m f g found stage kept count node d hs (take k (saves ++ said)) image h
                  (each_take Follows k (saves ++ said) (turn_follows saves said st q))
                  (after_hearing settings m f g found kept disk d saves said k image st q front either (inr new) held);
              saved = omega (
                arith,
                ap (λ ds. saved_by settings.stack f store ds (length (store_acts (hs ++ take k (saves ++ said))))) (decided_then k),
                ap (λ n. saved_by settings.stack f store (d ∷ []) n) stored,
                early,
              );
            }
        by (inr l) =
            let follows : Each Follows (take k (saves ++ said)) = each_take Follows k (saves ++ said) (turn_follows saves said st q) in
            let opens = said_then settings m f g found kept disk d saves said k image st q front new l held in
            record {
              at = settling settings m f g found stage kept count node d hs (take k (saves ++ said)) image h follows (inr opens);
              saved = omega
                  (arith, few, settling_counts settings m f g found stage kept count node d hs (take k (saves ++ said)) image h follows opens);
            }

  pub event_saves : (found : List ℕ → Found (KeptView C)) (stage : Stage S C O) (kept : KeptView C) (store : StoreView) (selector : ℕ) (disk : Disk) (count : ℕ)
      (node : NodeView S C O) (d : Done C) (hs saves said : List Act) → HearsAs settings m f g stage hs (d ∷ []) count (Between node) → Rests found kept selector disk →
      saves ≡ state_acts settings.stack f store d.kept → Each Stores saves → Each Says said → IsPrefix (datagrams said) d.said →
      OpensAsEither found kept d.kept disk saves → OpensThenAs found d.kept disk saves →
      LeavesSaved settings m f g found stage kept store disk (hs ++ (saves ++ said))
  event_saves found stage kept store selector disk count node d hs saves said h r is st q front either new n image held = go (cases_lt n (length hs))
    where
      go : (n < length hs) ⊎ (length hs ≤ n) → SavedAt found stage kept store (take n (hs ++ (saves ++ said))) image
      go (inl l) =
          let e : take n (hs ++ (saves ++ said)) ≡ take n hs = take-append-le n hs (saves ++ said) (omega (arith, l)) in
          moved found stage kept store (take n hs) (take n (hs ++ (saves ++ said))) image e
          (still_heard found stage kept store selector disk count node d hs saves said h r is st q front either new n image
          (subst (λ (acts : List Act). may_leave disk acts image ≡ true) e held))
      go (inr l) =
          let k = n - length hs in
          let more = take k (saves ++ said) in
          let e : take n (hs ++ (saves ++ said)) ≡ hs ++ more = past n hs (saves ++ said) l in
          let heard : after disk (hs ++ more) ≡ after disk more = after_append disk hs more ∙ ap (λ x. after x more) (hears_after hs disk h.hears) in
          moved found stage kept store (hs ++ more) (take n (hs ++ (saves ++ said))) image e
          (settled found stage kept store selector disk count node d hs saves said h r is st q front either new k image
          (subst (λ (x : Disk). may_hold x image ≡ true) (ap (λ acts. after disk acts) e ∙ heard) held))

  -- one list of acts after the other

  saved_after : (found : List ℕ → Found (KeptView C)) (stage : Stage S C O) (kept : KeptView C) (store : StoreView) (xs ys : List Act) (image : Image) →
      datagrams xs ≡ said_in (decides stage xs) → store_acts xs ≡ saves_of settings.stack f store (decides stage xs) →
      SavedAt found (stage_after settings m f g stage xs) (kept_by kept (decides stage xs)) (store_by settings.stack f store (decides stage xs)) ys image →
      SavedAt found stage kept store (xs ++ ys) image
  saved_after found stage kept store xs ys image said stored w =
      let ds = decides stage xs in
      let es = decides (stage_after settings m f g stage xs) ys in
      let count : length (store_acts (xs ++ ys)) ≡ length (saves_of settings.stack f store ds) + length (store_acts ys) =
      ap (λ acts. length acts) (store_acts_append xs ys ∙ ap (λ acts. acts ++ store_acts ys) stored)
      ∙ length-append (saves_of settings.stack f store ds) (store_acts ys) in
      let all : saved_in stage store (xs ++ ys) ≡ length ds + saved_by settings.stack f (store_by settings.stack f store ds) es (length (store_acts ys)) =
      ap (λ r. saved_by settings.stack f store r (length (store_acts (xs ++ ys)))) (done_append settings m f g stage xs ys)
      ∙ (ap (λ k. saved_by settings.stack f store (ds ++ es) k) count ∙ saved_later settings.stack f store ds es (length (store_acts ys))) in
      record {
        at = later settings m f g found stage kept xs ys image said w.at;
        saved = omega (arith, all, w.saved, later_counts settings m f g found stage kept xs ys image said w.at);
      }

  pub saves_grow : (found : List ℕ → Found (KeptView C)) (stage : Stage S C O) (kept : KeptView C) (store : StoreView) (disk : Disk) (xs ys : List Act) →
      LeavesSaved settings m f g found stage kept store disk xs → datagrams xs ≡ said_in (decides stage xs) →
      store_acts xs ≡ saves_of settings.stack f store (decides stage xs) →
      LeavesSaved settings m f g found (stage_after settings m f g stage xs) (kept_by kept (decides stage xs))
      (store_by settings.stack f store (decides stage xs)) (after disk xs) ys →
      LeavesSaved settings m f g found stage kept store disk (xs ++ ys)
  saves_grow found stage kept store disk xs ys a said stored b n image held = go (cases_lt n (length xs))
    where
      go : (n < length xs) ⊎ (length xs ≤ n) → SavedAt found stage kept store (take n (xs ++ ys)) image
      go (inl l) =
          let e : take n (xs ++ ys) ≡ take n xs = take-append-le n xs ys (omega (arith, l)) in
          moved found stage kept store (take n xs) (take n (xs ++ ys)) image e
          (a n image (subst (λ (acts : List Act). may_leave disk acts image ≡ true) e held))
      go (inr l) =
          let k = n - length xs in
          let e : take n (xs ++ ys) ≡ xs ++ take k ys = past n xs ys l in
          moved found stage kept store (xs ++ take k ys) (take n (xs ++ ys)) image e
          (saved_after found stage kept store xs (take k ys) image said stored
          (b k image (subst (λ (x : Disk). may_hold x image ≡ true) (ap (λ acts. after disk acts) e ∙ after_append disk xs (take k ys)) held)))
