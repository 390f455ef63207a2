-- What a crash leaves of one turn, and of acts one after the other.
use Rattle.std.proofs.Common.{◌≡◌, ℕ, zero, suc, Bool, true, false, ◌+◌, ◌-◌, ◌<◌, ◌≤◌, List, [], ◌∷◌, ◌++◌, length, take, drop, refl, sym, ap, subst, ◌∙◌, arith, ◌⊎◌, inl, inr, length-append, take-append-drop}
use Rattle.std.proofs.lemmas.Bool.{cases_lt}
use Rattle.std.proofs.lemmas.List.{append-nil, take-append-le, take_all}
use Rattle.outside.specs.declared.device.Address.{Address}
use Rattle.disk.specs.Acts.{Act}
use Rattle.disk.specs.Disk.{Disk, Image, after, may_hold, may_leave}
use Rattle.disk.specs.DiskLaws.{IsCutShort}
use Rattle.disk.proofs.CutShort.{faults_add_nothing, fronts_are_cut_short}
use Rattle.raft_types.specs.Messages.{KeptView}
use Rattle.slots.specs.Opening.{Found, OpensAs}
use Rattle.slots.specs.SavingLaws.{Rests}
use Rattle.slots.specs.Turns.{Hears, Says, OnAreas, datagrams}
use Rattle.slots.specs.TurnLaws.{Keeps}
use Rattle.slots.proofs.Elsewhere.{after_append}
use Rattle.slots.proofs.Turning.{rests_opens}
use Rattle.vst_base.specs.Machines.{MachineMeaning}
use Rattle.wire_fields.specs.Formats.{Format}
use Rattle.node_run.specs.Runs.{Done, NodeView, Stage, Between, done_in, said_in, stage_after}
use Rattle.node_run.specs.Settings.{Settings}
use Rattle.node_records.specs.Records.{Stores, HearsAs, begins_turn, ended_turns, kept_by}
use Rattle.node_records.specs.Moments.{IsAt, Leaves}
use Rattle.node_records.specs.MomentLaws.{OpensAsEither, OpensThenAs, IsSaving}
use Rattle.node_records.proofs.ActKinds.{areas_store, datagrams_append, hears_after, hears_silent, says_after, short_stores, stores_silent}
use Rattle.node_records.proofs.Ended.{ended_before, ended_first, ended_later, ended_take, follows_begins}
use Rattle.node_records.proofs.Folds.{done_append, kept_append, said_append}
use Rattle.node_records.proofs.Growing.{said_first}
use Rattle.node_records.proofs.Turning.{Follows, turn_follows, turn_said, turn}
use Rattle.lists.specs.Each.{Each, each_take, each_weaker}
use Rattle.lists.specs.Prefixes.{IsPrefix, prefix_behind, prefix_of, prefix_trans}
use Rattle.lists.specs.Places.{take-append}

-- moments and fronts

pub past : {T : Type 0} (n : ℕ) (xs ys : List T) → length xs ≤ n → take n (xs ++ ys) ≡ xs ++ take (n - length xs) ys
past n xs ys l = take-append n xs ys ∙ ap (λ r. r ++ take (n - length xs) ys) (take_all n xs l)

past_all : {T : Type 0} (xs ys : List T) (c : ℕ) → take (length xs + c) (xs ++ ys) ≡ xs ++ take c ys
past_all xs ys c =
    let e : length xs + c - length xs ≡ c = omega arith in
    past (length xs + c) xs ys (omega arith) ∙ ap (λ k. xs ++ take k ys) e

-- so many of the datagrams that were said
said_front : (said : List Act) (n : ℕ) (ys : List (Address × List ℕ)) → IsPrefix (datagrams said) ys → IsPrefix (datagrams (take n said)) ys
said_front said n ys front =
    let taken : datagrams (take n said) ++ datagrams (drop n said) ≡ datagrams said = sym (datagrams_append (take n said) (drop n said)) ∙ ap datagrams (take-append-drop n said) in
    prefix_trans ys (prefix_of (datagrams (take n said)) (datagrams (drop n said)) (datagrams said) taken) front

-- acts that make a state durable

cut_either : {K : Type 0} (found : List ℕ → Found K) (old new : K) (selector : ℕ) (acts : List Act) (disk : Disk) → Keeps found old new selector acts disk →
    (did : List Act) → IsCutShort acts did → OpensAsEither found old new disk did
cut_either found old new selector acts disk k did c n image m =
    let w = faults_add_nothing disk acts (take n did) image (fronts_are_cut_short acts did n c) m in
    k.each w.0 image w.2

pub keeps_is_saving : {K : Type 0} (found : List ℕ → Found K) (old new : K) (selector : ℕ) (acts : List Act) (disk : Disk) → Keeps found old new selector acts disk →
    IsSaving found old new acts disk
keeps_is_saving found old new selector acts disk k = record {
  short = λ did c. (short_stores acts did k.only c, cut_either found old new selector acts disk k did c);
  whole = (
    each_weaker OnAreas Stores areas_store acts k.only,
    k.each,
    λ image m. rests_opens found new selector (after disk acts) image k.done m,
  );
}

module _ {S C O : Type 0} (settings : Settings) (m : MachineMeaning S C O) (f : Format C) (g : Format O) where
  abbrev decides : Stage S C O → List Act → List (Done C)
  decides stage acts = done_in settings m f g stage acts

  abbrev At : (List ℕ → Found (KeptView C)) → Stage S C O → KeptView C → List Act → Image → Type 0
  At found stage kept acts image = IsAt settings m f g found stage kept acts image

  -- the same acts, otherwise written
  abbrev moved : (found : List ℕ → Found (KeptView C)) (stage : Stage S C O) (kept : KeptView C) (xs ys : List Act) (image : Image) → ys ≡ xs →
      At found stage kept xs image → At found stage kept ys image
  moved found stage kept xs ys image e at = subst (λ (acts : List Act). At found stage kept acts image) (sym e) at

  abbrev leaves_by : (disk : Disk) (xs ys : List Act) (image : Image) → xs ≡ ys → may_leave disk xs image ≡ true → may_leave disk ys image ≡ true
  leaves_by disk xs ys image e held = subst (λ (acts : List Act). may_leave disk acts image ≡ true) e held

  -- while it is heard

  fewer : (stage : Stage S C O) (n : ℕ) (hs : List Act) → length (decides stage (take n hs)) ≤ length (decides stage hs)
  fewer stage n hs =
      let whole : length (decides stage (take n hs ++ drop n hs)) ≡ length (decides stage hs) = ap (λ acts. length (decides stage acts)) (take-append-drop n hs) in
      let parts = ap (λ ds. length ds) (done_append settings m f g stage (take n hs) (drop n hs)) in
      let rest = decides (stage_after settings m f g stage (take n hs)) (drop n hs) in
      let sum = length-append (decides stage (take n hs)) rest in
      omega arith

  -- no event of a turn that has ended
  pub none_early : (stage : Stage S C O) (n : ℕ) (hs : List Act) → decides stage (ended_turns hs) ≡ [] → length (decides stage (ended_turns (take n hs))) ≡ 0
  none_early stage n hs none =
      let first = ended_take n hs in
      let some = fewer stage first.n (ended_turns hs) in
      let same = ap (λ acts. length (decides stage acts)) first.is in
      omega (arith, some, same, ap (λ ds. length ds) none)

  few : (k : ℕ) → k ≤ 1 → (0 ≡ k) ⊎ (1 ≡ k)
  few zero l = inl refl
  few (suc zero) l = inr refl
  few (suc (suc k)) l = absurd (omega arith)

  pub hearing : (found : List ℕ → Found (KeptView C)) (stage : Stage S C O) (kept : KeptView C) (selector : ℕ) (disk : Disk) (hs : List Act) → Each Hears hs →
      length (decides stage hs) ≤ 1 → decides stage (ended_turns hs) ≡ [] → Rests found kept selector disk → Leaves settings m f g found stage kept disk hs
  hearing found stage kept selector disk hs h l last r n image held =
      let q : Each Hears (take n hs) = each_take Hears n hs h in
      let some = fewer stage n hs in
      let all = said_in (take 0 (decides stage (take n hs))) in
      record {
        c = 0;
        near = few (length (decides stage (take n hs))) (omega arith);
        ended = omega (arith, none_early stage n hs last);
        opens = rests_opens found kept selector disk image r (subst (λ (d : Disk). may_hold d image ≡ true) (hears_after (take n hs) disk q) held);
        sent = prefix_of _ [] _ (append-nil (datagrams (take n hs)) ∙ hears_silent (take n hs) q);
      }

  pub quiet_leaves : (found : List ℕ → Found (KeptView C)) (stage next : Stage S C O) (kept : KeptView C) (selector : ℕ) (disk : Disk) (count : ℕ) (hs : List Act) →
      HearsAs settings m f g stage hs [] count next → Rests found kept selector disk →
      Leaves settings m f g found stage kept disk hs × (after disk hs ≡ disk)
  quiet_leaves found stage next kept selector disk count hs h r =
      let e = ap (λ ds. length ds) h.events in
      (hearing found stage kept selector disk hs h.hears (omega arith) h.last r, hears_after hs disk h.hears)

  -- and after that

  pub settling : (found : List ℕ → Found (KeptView C)) (stage : Stage S C O) (kept : KeptView C) (count : ℕ) (node : NodeView S C O) (d : Done C) (hs more : List Act)
      (image : Image) → HearsAs settings m f g stage hs (d ∷ []) count (Between node) → Each Follows more →
      (OpensAs found kept image × (datagrams more ≡ [])) ⊎ (OpensAs found d.kept image × IsPrefix (datagrams more) d.said) →
      At found stage kept (hs ++ more) image
  settling found stage kept count node d hs more image h fs is = go is
    where
      events : decides stage (hs ++ more) ≡ d ∷ []
      events = (turn settings m f g stage (d ∷ []) count node hs more h fs).events

      one : length (decides stage (hs ++ more)) ≡ 1
      one = ap (λ ds. length ds) events

      early : length (decides stage (ended_turns (hs ++ more))) ≡ 0
      early =
          ap (λ acts. length (decides stage acts)) (ended_before hs more (follows_begins more fs)) ∙ ap (λ ds. length ds) h.last

      out : datagrams (hs ++ more) ≡ datagrams more
      out = datagrams_append hs more ∙ ap (λ r. r ++ datagrams more) (hears_silent hs h.hears)

      go : (OpensAs found kept image × (datagrams more ≡ [])) ⊎ (OpensAs found d.kept image × IsPrefix (datagrams more) d.said) → At found stage kept (hs ++ more) image
      go (inl o) = record { c = 0; near = inr (sym one); ended = omega (arith, early); opens = o.0; sent = prefix_of _ [] _ (append-nil (datagrams (hs ++ more)) ∙ (out ∙ o.1)) }
      go (inr o) = record {
        c = 1;
        near = inl (sym one);
        ended = omega (arith, early);
        opens = subst (λ (ds : List (Done C)). OpensAs found (kept_by kept (take 1 ds)) image) (sym events) o.0;
        sent = rw (out, events, append-nil d.said) o.1;
      }

  -- as the new state it is after the event
  pub settling_counts : (found : List ℕ → Found (KeptView C)) (stage : Stage S C O) (kept : KeptView C) (count : ℕ) (node : NodeView S C O) (d : Done C)
      (hs more : List Act) (image : Image) (h : HearsAs settings m f g stage hs (d ∷ []) count (Between node)) (fs : Each Follows more)
      (o : OpensAs found d.kept image × IsPrefix (datagrams more) d.said) → (settling found stage kept count node d hs more image h fs (inr o)).c ≡ 1
  unfolding settling
  settling_counts found stage kept count node d hs more image h fs o = refl

  -- the moments after what was heard, and after the saves

  pub said_then : (found : List ℕ → Found (KeptView C)) (kept : KeptView C) (disk : Disk) (d : Done C) (saves said : List Act) (n : ℕ) (image : Image) →
      Each Stores saves → Each Says said → IsPrefix (datagrams said) d.said → OpensThenAs found d.kept disk saves → length saves ≤ n →
      may_leave disk (take n (saves ++ said)) image ≡ true → OpensAs found d.kept image × IsPrefix (datagrams (take n (saves ++ said))) d.said
  said_then found kept disk d saves said n image st q front then l held =
      let more = take (n - length saves) said in
      let e : take n (saves ++ said) ≡ saves ++ more = past n saves said l in
      let quiet : after disk (saves ++ more) ≡ after disk saves =
      after_append disk saves more ∙ says_after more (after disk saves) (each_take Says (n - length saves) said q) in
      let sent : datagrams (take n (saves ++ said)) ≡ datagrams more = ap datagrams e ∙ turn_said saves more st in (
        then image (subst (λ (x : Disk). may_hold x image ≡ true) (ap (λ acts. after disk acts) e ∙ quiet) held),
        rw sent (said_front said (n - length saves) d.said front),
      )

  pub after_hearing : (found : List ℕ → Found (KeptView C)) (kept : KeptView C) (disk : Disk) (d : Done C) (saves said : List Act) (n : ℕ) (image : Image) →
      Each Stores saves → Each Says said → IsPrefix (datagrams said) d.said → OpensAsEither found kept d.kept disk saves →
      (said ≡ []) ⊎ OpensThenAs found d.kept disk saves → may_leave disk (take n (saves ++ said)) image ≡ true →
      (OpensAs found kept image × (datagrams (take n (saves ++ said)) ≡ [])) ⊎ (OpensAs found d.kept image × IsPrefix (datagrams (take n (saves ++ said))) d.said)
  after_hearing found kept disk d saves said n image st q front either settled held = go settled (cases_lt n (length saves))
    where
      -- within the saves
      saving : take n (saves ++ said) ≡ take n saves →
          (OpensAs found kept image × (datagrams (take n (saves ++ said)) ≡ [])) ⊎ (OpensAs found d.kept image × IsPrefix (datagrams (take n (saves ++ said))) d.said)
      saving e =
          let none : datagrams (take n (saves ++ said)) ≡ [] = ap datagrams e ∙ stores_silent (take n saves) (each_take Stores n saves st) in
          elim (either n image (leaves_by disk (take n (saves ++ said)) (take n saves) image e held)) [
            | inl o ↦ inl (o, none)
            | inr o ↦ inr (o, rw none refl)
          ]

      go : (said ≡ []) ⊎ OpensThenAs found d.kept disk saves → (n < length saves) ⊎ (length saves ≤ n) →
          (OpensAs found kept image × (datagrams (take n (saves ++ said)) ≡ [])) ⊎ (OpensAs found d.kept image × IsPrefix (datagrams (take n (saves ++ said))) d.said)
      go s (inl l) = saving (take-append-le n saves said (omega arith))
      go (inl nothing) (inr l) = saving (ap (λ r. take n (saves ++ r)) nothing ∙ ap (λ r. take n r) (append-nil saves))
      go (inr then) (inr l) = inr (said_then found kept disk d saves said n image st q front then l held)

  follows_take : (n : ℕ) (saves said : List Act) → Each Stores saves → Each Says said → Each Follows (take n (saves ++ said))
  follows_take n saves said st q = each_take Follows n (saves ++ said) (turn_follows saves said st q)

  event_moments : (found : List ℕ → Found (KeptView C)) (stage : Stage S C O) (kept : KeptView C) (selector : ℕ) (disk : Disk) (count : ℕ) (node : NodeView S C O)
      (d : Done C) (hs saves said : List Act) → HearsAs settings m f g stage hs (d ∷ []) count (Between node) → Rests found kept selector disk →
      Each Stores saves → Each Says said → IsPrefix (datagrams said) d.said → OpensAsEither found kept d.kept disk saves →
      (said ≡ []) ⊎ OpensThenAs found d.kept disk saves → Leaves settings m f g found stage kept disk (hs ++ (saves ++ said))
  event_moments found stage kept selector disk count node d hs saves said h r st q front either settled n image held = go (cases_lt n (length hs))
    where
      go : (n < length hs) ⊎ (length hs ≤ n) → At found stage kept (take n (hs ++ (saves ++ said))) image
      go (inl l) =
          let e : take n (hs ++ (saves ++ said)) ≡ take n hs = take-append-le n hs (saves ++ said) (omega arith) in
          let few_events = ap (λ ds. length ds) h.events in
          moved found stage kept (take n hs) (take n (hs ++ (saves ++ said))) image e
          (hearing found stage kept selector disk hs h.hears (omega arith) h.last r n image (leaves_by disk (take n (hs ++ (saves ++ said))) (take n hs) image e held))
      go (inr l) =
          let k = n - length hs in
          let more = take k (saves ++ said) in
          let e : take n (hs ++ (saves ++ said)) ≡ hs ++ more = past n hs (saves ++ said) l in
          let heard : after disk (hs ++ more) ≡ after disk more = after_append disk hs more ∙ ap (λ x. after x more) (hears_after hs disk h.hears) in
          let left : may_leave disk more image ≡ true = subst (λ (x : Disk). may_hold x image ≡ true) (ap (λ acts. after disk acts) e ∙ heard) held in
          moved found stage kept (hs ++ more) (take n (hs ++ (saves ++ said))) image e
          (settling found stage kept count node d hs more image h (follows_take k saves said st q)
          (after_hearing found kept disk d saves said k image st q front either settled left))

  event_disk : (disk : Disk) (hs saves said : List Act) → Each Hears hs → Each Says said → after disk (hs ++ (saves ++ said)) ≡ after disk saves
  event_disk disk hs saves said h q =
      after_append disk hs (saves ++ said)
      ∙ (ap (λ x. after x (saves ++ said)) (hears_after hs disk h) ∙ (after_append disk saves said ∙ says_after said (after disk saves) q))

  pub event_leaves : (found : List ℕ → Found (KeptView C)) (stage : Stage S C O) (kept : KeptView C) (selector : ℕ) (disk : Disk) (count : ℕ) (node : NodeView S C O)
      (d : Done C) (hs saves said : List Act) → HearsAs settings m f g stage hs (d ∷ []) count (Between node) → Rests found kept selector disk →
      Each Stores saves → Each Says said → IsPrefix (datagrams said) d.said → OpensAsEither found kept d.kept disk saves →
      (said ≡ []) ⊎ OpensThenAs found d.kept disk saves →
      Leaves settings m f g found stage kept disk (hs ++ (saves ++ said)) × (after disk (hs ++ (saves ++ said)) ≡ after disk saves)
  event_leaves found stage kept selector disk count node d hs saves said h r st q front either settled = (
    event_moments found stage kept selector disk count node d hs saves said h r st q front either settled,
    event_disk disk hs saves said h.hears q,
  )

  -- one list of acts after the other

  -- the events of turns that have ended
  ended_both : (stage : Stage S C O) (xs ys : List Act) (c : ℕ) (b : Bool) → begins_turn ys ≡ b →
      length (decides (stage_after settings m f g stage xs) (ended_turns ys)) ≤ c →
      length (decides stage (ended_turns (xs ++ ys))) ≤ length (decides stage xs) + c
  ended_both stage xs ys c true e few_later =
      let parts = ap (λ acts. length (decides stage acts)) (ended_later xs ys e) ∙ ap (λ ds. length ds) (done_append settings m f g stage xs (ended_turns ys)) in
      let sum = length-append (decides stage xs) (decides (stage_after settings m f g stage xs) (ended_turns ys)) in
      omega (arith, parts, sum, few_later)
  ended_both stage xs ys c false e few_later =
      let first = ended_first xs in
      let same = ap (λ acts. length (decides stage acts)) (ended_before xs ys e ∙ first.is) in
      omega (arith, same, fewer stage first.n xs)

  pub later : (found : List ℕ → Found (KeptView C)) (stage : Stage S C O) (kept : KeptView C) (xs ys : List Act) (image : Image) →
      datagrams xs ≡ said_in (decides stage xs) →
      At found (stage_after settings m f g stage xs) (kept_by kept (decides stage xs)) ys image → At found stage kept (xs ++ ys) image
  later found stage kept xs ys image said w =
      let ds = decides stage xs in
      let es = decides (stage_after settings m f g stage xs) ys in
      let all : decides stage (xs ++ ys) ≡ ds ++ es = done_append settings m f g stage xs ys in
      let size : length (decides stage (xs ++ ys)) ≡ length ds + length es = ap (λ r. length r) all ∙ length-append ds es in
      let first : take (length ds + w.c) (decides stage (xs ++ ys)) ≡ ds ++ take w.c es = ap (λ r. take (length ds + w.c) r) all ∙ past_all ds es w.c in
      record {
        c = length ds + w.c;
        near = elim (w.near) [ inl e ↦ inl (omega (arith, e, size)) | inr e ↦ inr (omega (arith, e, size)) ];
        ended = ended_both stage xs ys w.c (begins_turn ys) refl w.ended;
        opens = subst (λ (k : KeptView C). OpensAs found k image) (sym (ap (λ r. kept_by kept r) first ∙ kept_append kept ds (take w.c es))) w.opens;
        sent = rw (said_first settings m f g stage xs ys said, first, said_append ds (take w.c es)) (prefix_behind (said_in ds) _ w.sent);
      }

  pub later_counts : (found : List ℕ → Found (KeptView C)) (stage : Stage S C O) (kept : KeptView C) (xs ys : List Act) (image : Image)
      (said : datagrams xs ≡ said_in (decides stage xs))
      (w : At found (stage_after settings m f g stage xs) (kept_by kept (decides stage xs)) ys image) →
      (later found stage kept xs ys image said w).c ≡ length (decides stage xs) + w.c
  unfolding later
  later_counts found stage kept xs ys image said w = refl

  pub moments_grow : (found : List ℕ → Found (KeptView C)) (stage : Stage S C O) (kept : KeptView C) (disk : Disk) (xs ys : List Act) →
      Leaves settings m f g found stage kept disk xs → datagrams xs ≡ said_in (decides stage xs) →
      Leaves settings m f g found (stage_after settings m f g stage xs) (kept_by kept (decides stage xs)) (after disk xs) ys →
      Leaves settings m f g found stage kept disk (xs ++ ys)
  moments_grow found stage kept disk xs ys a said b n image held = go (cases_lt n (length xs))
    where
      go : (n < length xs) ⊎ (length xs ≤ n) → At found stage kept (take n (xs ++ ys)) image
      go (inl l) =
          let e : take n (xs ++ ys) ≡ take n xs = take-append-le n xs ys (omega arith) in
          moved found stage kept (take n xs) (take n (xs ++ ys)) image e (a n image (leaves_by disk (take n (xs ++ ys)) (take n xs) image e held))
      go (inr l) =
          let k = n - length xs in
          let e : take n (xs ++ ys) ≡ xs ++ take k ys = past n xs ys l in
          moved found stage kept (xs ++ take k ys) (take n (xs ++ ys)) image e
          (later found stage kept xs (take k ys) image said
          (b k image (subst (λ (x : Disk). may_hold x image ≡ true) (ap (λ acts. after disk acts) e ∙ after_append disk xs (take k ys)) held)))
