-- One turn at each moment: its acts are deeds, of which nothing goes out that is not stored.
use Rattle.std.proofs.Common.{◌≡◌, ℕ, zero, suc, ◌-◌, ◌≤◌, true, List, [], ◌∷◌, ◌++◌, length, take, drop, Some, refl, sym, ap, subst, ◌∙◌, inl, inr, arith, length-append}
use Rattle.std.proofs.lemmas.Bool.{cases_lt}
use Rattle.std.proofs.lemmas.List.{append-nil, take-append-drop, take-append-le}
use Rattle.std.proofs.Math.Seq.{take-append-add}
use Rattle.cluster_histories.specs.Deeds.{Decided, MayOpenAs, StoresFirst_from, after_deed, after_deeds}
use Rattle.disk.specs.Acts.{Act}
use Rattle.disk.specs.Disk.{Disk, Image, after, contents, may_become, may_hold, may_leave}
use Rattle.disk.proofs.Between.{by_model}
use Rattle.disk.proofs.Disks.{holds_self}
use Rattle.handler_trait.specs.Handling.{Meaning, Recovery}
use Rattle.lists.specs.Each.{Each, each_take}
use Rattle.lists.specs.Prefixes.{IsPrefix, prefix_nil, prefix_of, prefix_trans}
use Rattle.node_histories.specs.Histories.{MayTake}
use Rattle.node_records.specs.Records.{kept_by}
use Rattle.node_records.specs.Moments.{IsAt, Leaves}
use Rattle.node_records.proofs.ActKinds.{datagrams_append}
use Rattle.node_records.proofs.Folds.{done_append, kept_append, stage_append}
use Rattle.node_run.specs.Runs.{Done, Stage, done_in, said_in, stage_after, step}
use Rattle.node_run.specs.Settings.{Settings}
use Rattle.node_run.specs.declared.event.Event.{Event}
use Rattle.node_run.specs.declared.event.Event.TheVariants.{Asked, Peer, Tick}
use Rattle.outside.specs.declared.device.Address.{Address}
use Rattle.raft_types.specs.Messages.{KeptView}
use Rattle.raft_types.specs.declared.client.RaftInput.{RaftInput}
use Rattle.raft_types.specs.declared.client.RaftOut.{RaftOut}
use Rattle.raft_types.specs.declared.msg.RaftMsg.{RaftMsg}
use Rattle.raft_xform.specs.Nodes.{RaftEffect, RaftView}
use Rattle.raft_xform.specs.Raft.{raft, raft_recovery}
use Rattle.slots.proofs.Elsewhere.{after_append, take_none}
use Rattle.slots.specs.Opening.{Found, OpensAs}
use Rattle.slots.specs.Turns.{datagrams}
use Rattle.vst_base.specs.Machines.{MachineMeaning}
use Rattle.wire_fields.specs.Formats.{Format}
use Rattle.node_lives.specs.LifeDeeds.{AreActsOf, AreOf, RaftDeed, acts_on, decided_on}
use Rattle.node_lives.proofs.Sayings.{GoesOut, acts_both, acts_say, after_both, of_front, out_state, out_stores, says_all, stores_both}
use Rattle.node_lives.proofs.Stages.{Has, Quiets, RaftRunning, Split, has_still, makes, split}

front_none : {A : Type 0} (xs : List A) → IsPrefix xs [] → xs ≡ []
front_none {A} xs is = sym is ∙ take_none A (length xs) [] refl

module _ {S C O : Type 0} (settings : Settings) (m : MachineMeaning S C O) (f : Format C) (g : Format O) (found : List ℕ →
    Found (KeptView C)) where
  abbrev handlers : Meaning (RaftView S C O) (RaftInput C) (RaftOut O) (RaftMsg C)
  handlers = raft (length settings.peers) m

  abbrev recovery : Recovery (RaftView S C O) (KeptView C)
  recovery = raft_recovery m

  abbrev decides : Stage S C O → List Act → List (Done C)
  decides stage acts = done_in settings m f g stage acts

  abbrev stands : Stage S C O → List Act → Stage S C O
  stands stage acts = stage_after settings m f g stage acts

  abbrev pub ran : RaftRunning S C O → List (RaftDeed C O) → RaftRunning S C O
  ran x deeds = after_deeds handlers recovery settings.me x deeds

  -- the areas open as the node's deeds allow
  abbrev pub MayOpen : RaftRunning S C O → Image → Type 0
  MayOpen x image = (k : KeptView C) × OpensAs found k image × MayOpenAs handlers recovery x k

  -- From this stage, kept state and disk on, the acts of a node that runs like this are deeds that store first. Then it has this in
  -- memory, keeps this, and its areas open as it may.
  pub record Does (stage : Stage S C O) (kept : KeptView C) (x : RaftRunning S C O) (disk : Disk) (acts : List Act) : Type 0 where
    pub deeds : List (RaftDeed C O)
    pub of : AreActsOf settings m f g stage acts deeds
    pub stores : StoresFirst_from handlers recovery settings.me x deeds
    pub has : Has settings m f g (stands stage acts) (ran x deeds).state
    pub keeps : recovery.keep (ran x deeds).state ≡ kept_by kept (decides stage acts)
    pub opens : (image : Image) → may_leave disk acts image ≡ true → MayOpen (ran x deeds) image

  -- at each moment
  abbrev pub DoesAt : Stage S C O → KeptView C → RaftRunning S C O → Disk → List Act → Type 0
  DoesAt stage kept x disk acts = (n : ℕ) → Does stage kept x disk (take n acts)

  may_take : (event : Event C) → MayTake handlers settings.me (acts_on event)
  may_take Tick = tt
  may_take (Peer from message) = tt
  may_take (Asked request) = refl

  -- a node, its disk and the acts of one turn
  module _ (stage : Stage S C O) (kept : KeptView C) (x : RaftRunning S C O) (disk : Disk) (did : List Act)
      (has : Has settings m f g stage x.state)
      (keeps : recovery.keep x.state ≡ kept) (leaves : Leaves settings m f g found stage kept disk did) where
    abbrev at_moment : ℕ → Type 0
    at_moment n = IsAt settings m f g found stage kept (take n did) (contents (after disk (take n did)))

    seen : (n : ℕ) → at_moment n
    seen n = leaves n (contents (after disk (take n did))) (holds_self may_become by_model (after disk (take n did)))

    -- nothing goes out before an event
    none_said : (n : ℕ) → decides stage (take n did) ≡ [] → datagrams (take n did) ≡ []
    none_said n none =
        let at = seen n in
        front_none (datagrams (take n did))
        (subst (λ (ds : List (Done C)). IsPrefix (datagrams (take n did)) (said_in ds)) (take_none (Done C) at.c (decides stage
        (take n did)) none) at.sent)

    -- then the areas open as before
    opens_still : (n : ℕ) → decides stage (take n did) ≡ [] → (image : Image) → may_leave disk (take n did) image ≡ true → MayOpen x image
    opens_still n none image may =
        let at = leaves n image may in (
          kept,
          subst (λ (ds : List (Done C)). OpensAs found (kept_by kept ds) image) (take_none (Done C) at.c (decides stage
              (take n did)) none) at.opens,
          inl (sym keeps),
        )

    quiet : (n : ℕ) → Quiets settings m f g stage x.state (take n did) → Does stage kept x disk (take n did)
    quiet n q = record {
      deeds = [];
      of = acts_say settings m f g stage (take n did) [] q.none (subst (λ ds. AreOf settings f g ds []) (sym (none_said n q.none)) refl);
      stores = tt;
      has = q.has;
      keeps = keeps ∙ ap (kept_by kept) (sym q.none);
      opens = opens_still n q.none;
    }

    -- the turn takes an event
    module _ (n : ℕ) (one : length (decides stage did) ≤ 1) (at : Split settings m f g stage x.state (take n did)) where
      abbrev acts : List Act
      acts = take n did

      abbrev d : Done C
      d = at.takes.d

      abbrev effect : RaftEffect S C O
      effect = makes settings m f g x.state d.event

      abbrev next : Stage S C O
      next = (step settings m f g (stands stage at.before) at.act).stage

      -- what it has in memory then
      abbrev then : RaftRunning S C O
      then = after_deed handlers recovery settings.me x (Decided (acts_on d.event))

      from_act : decides (stands stage at.before) (at.act ∷ at.later) ≡ d ∷ decides next at.later
      from_act = ap (λ ds. ds ++ decides next at.later) at.takes.one

      events : decides stage acts ≡ d ∷ decides next at.later
      events =
          ap (decides stage) at.is ∙ (done_append settings m f g stage at.before (at.act ∷ at.later)
          ∙ (ap (λ ds. ds ++ decides (stands stage at.before) (at.act ∷ at.later)) at.none ∙ from_act))

      few : length (decides stage acts) ≤ 1
      few =
          let all : decides stage did ≡ decides stage acts ++ decides (stands stage acts) (drop n did) =
          ap (decides stage) (sym (take-append-drop n did)) ∙ done_append settings m f g stage acts (drop n did) in
          omega (arith, one, ap length all, length-append (decides stage acts) (decides (stands stage acts) (drop n did)))

      no_more : decides next at.later ≡ []
      no_more = by (decides next at.later) refl
        where
          by : (ds : List (Done C)) → decides next at.later ≡ ds → ds ≡ []
          by [] e = refl
          by (y ∷ ys) e = let both : length (decides stage acts) ≡ length (d ∷ y ∷ ys) = ap length (events
              ∙ ap (λ ds. d ∷ ds) e) in absurd (omega (arith, few, both))

      event : decides stage acts ≡ d ∷ []
      event = events ∙ ap (λ ds. d ∷ ds) no_more

      -- it says nothing before, and then a front of what the event says

      front_before : IsPrefix at.before did
      front_before =
          prefix_trans did (prefix_of at.before (at.act ∷ at.later) acts (sym at.is)) (prefix_of acts (drop n did) did
          (take-append-drop n did))

      silent_before : datagrams at.before ≡ []
      silent_before =
          ap datagrams (sym front_before) ∙ none_said (length at.before) (ap (decides stage) front_before ∙ at.none)

      said_later : datagrams acts ≡ datagrams at.later
      said_later =
          ap datagrams at.is ∙ (datagrams_append at.before (at.act ∷ at.later)
          ∙ (ap (λ ds. ds ++ datagrams (at.act ∷ at.later)) silent_before
          ∙ (datagrams_append (at.act ∷ []) at.later ∙ ap (λ ds. ds ++ datagrams at.later) at.silent)))

      said_in_one : (c : ℕ) → IsPrefix (datagrams acts) (said_in (take c (d ∷ []))) → IsPrefix (datagrams at.later) d.said
      said_in_one zero is = subst (λ ds. IsPrefix ds d.said) (sym (sym said_later ∙ front_none (datagrams acts) is)) (prefix_nil d.said)
      said_in_one (suc c) is =
          subst (λ ds. IsPrefix ds d.said) said_later
          (subst (λ ds. IsPrefix (datagrams acts) ds) (ap (λ (ds : List (Done C)). d.said ++ said_in ds) (take_none
          (Done C) c [] refl) ∙ append-nil d.said) is)

      front_said : IsPrefix (datagrams at.later) d.said
      front_said = let w = seen n in said_in_one w.c (subst (λ (ds : List (Done C)). IsPrefix (datagrams acts) (said_in
          (take w.c ds))) event w.sent)

      -- the deeds that this front is

      abbrev says : List (RaftDeed C O)
      says = (says_all settings f g effect).deeds

      abbrev out : List (RaftDeed C O)
      out = take (length (datagrams at.later)) says

      out_is : AreOf settings f g (datagrams at.later) out
      out_is =
          subst (λ ds. AreOf settings f g ds out) front_said
          (of_front settings f g (length (datagrams at.later)) d.said says
          (subst (λ ds. AreOf settings f g ds says) (sym at.takes.said) (says_all settings f g effect).are))

      out_all : Each (GoesOut then.sends then.outputs) out
      out_all = each_take (GoesOut then.sends then.outputs) (length (datagrams at.later)) says (says_all settings f g effect).all

      abbrev all : List (RaftDeed C O)
      all = Decided (acts_on d.event) ∷ out

      all_is : AreActsOf settings m f g stage acts all
      all_is =
          subst (λ xs. AreActsOf settings m f g stage xs all) (sym at.is)
          (acts_both settings m f g stage at.before (at.act ∷ at.later) [] all
          (acts_say settings m f g stage at.before [] at.none (subst (λ ds. AreOf settings f g ds []) (sym silent_before) refl)) (
            decided_on (d ∷ []),
            out,
            record {
              out = [];
              are_out = subst (λ ds. AreOf settings f g ds []) (sym at.silent) refl;
              are = ap (λ (ds : List
                  (Done C)). decided_on ds ++ []) (sym at.takes.one);
            },
            acts_say settings m f g next at.later out no_more out_is,
            refl,
          ))

      -- and what it comes to

      state_then : (ran x all).state ≡ effect.state
      state_then = out_state handlers recovery settings.me then out out_all

      stands_then : stands stage acts ≡ stands next at.later
      stands_then = ap (stands stage) at.is ∙ stage_append settings m f g stage at.before (at.act ∷ at.later)

      keeps_then : recovery.keep (ran x all).state ≡ d.kept
      keeps_then = ap recovery.keep state_then ∙ sym at.takes.kept

      -- where nothing of the event went out
      before_then : datagrams acts ≡ [] → (ran x all).before ≡ Some kept
      before_then none =
          let nothing : out ≡ [] = ap (λ (ds : List (Address × List ℕ)). take (length ds) says) (sym said_later ∙ none) in
          ap (λ ds. (ran then ds).before) nothing ∙ ap Some keeps

      opens_by : (c : ℕ) (image : Image) → OpensAs found (kept_by kept (take c (d ∷ []))) image →
          IsPrefix (datagrams acts) (said_in (take c (d ∷ []))) →
          MayOpen (ran x all) image
      opens_by zero image opens said = (kept, opens, inr (before_then (front_none (datagrams acts) said)))
      opens_by (suc c) image opens said = (
        d.kept,
        subst (λ (ds : List (Done C)). OpensAs found (kept_by d.kept ds) image) (take_none (Done C) c [] refl) opens,
        inl
            (sym keeps_then),
      )

      opens_then : (image : Image) → may_leave disk acts image ≡ true → MayOpen (ran x all) image
      opens_then image may =
          let w = leaves n image may in
          opens_by w.c image (subst (λ (ds : List (Done C)). OpensAs found (kept_by kept (take w.c ds)) image) event w.opens)
          (subst (λ (ds : List (Done C)). IsPrefix (datagrams acts) (said_in (take w.c ds))) event w.sent)

      heard : Does stage kept x disk acts
      heard = record {
        deeds = all;
        of = all_is;
        stores = (may_take d.event, out_stores handlers recovery settings.me then out out_all);
        has = subst (λ (st : Stage S C O). Has settings m f g st (ran x all).state) (sym stands_then)
            (has_still settings m f g next (ran x all).state at.later (subst (λ s. Has settings m f g next s)
            (sym state_then) at.takes.has) no_more);
        keeps = keeps_then ∙ ap (kept_by kept) (sym event);
        opens = opens_then;
      }

    -- A turn that decides one event at most.
    pub turn_does : length (decides stage did) ≤ 1 → DoesAt stage kept x disk did
    turn_does one n = elim (split settings m f g stage x.state (take n did) has) [ inl q ↦ quiet n q | inr at ↦ heard n one at ]

  -- turns one after the other

  pub does_both : (stage : Stage S C O) (kept : KeptView C) (x : RaftRunning S C O) (disk : Disk) (xs ys : List Act)
      (a : Does stage kept x disk xs) →
      Does (stands stage xs) (kept_by kept (decides stage xs)) (ran x a.deeds) (after disk xs) ys → Does stage kept x disk (xs ++ ys)
  does_both stage kept x disk xs ys a b =
      let whole : ran x (a.deeds ++ b.deeds) ≡ ran (ran x a.deeds) b.deeds = after_both handlers recovery settings.me x a.deeds b.deeds in
      record {
        deeds = a.deeds ++ b.deeds;
        of = acts_both settings m f g stage xs ys a.deeds b.deeds a.of b.of;
        stores = stores_both handlers recovery settings.me x a.deeds b.deeds a.stores b.stores;
        has = subst (λ (st : Stage S C O). Has settings m f g st (ran x (a.deeds ++ b.deeds)).state) (sym
            (stage_append settings m f g stage xs ys))
            (subst (λ (y : RaftRunning S C O). Has settings m f g (stands (stands stage xs) ys) y.state) (sym whole) b.has);
        keeps = ap (λ (y : RaftRunning S C O). recovery.keep y.state) whole ∙ (b.keeps
            ∙ (sym (kept_append kept (decides stage xs) (decides (stands stage xs) ys))
            ∙ ap (kept_by kept) (sym (done_append settings m f g stage xs ys))));
        opens = λ image may. subst (λ (y : RaftRunning S C O). MayOpen y image) (sym whole)
            (b.opens image (subst (λ (there : Disk). may_hold there image ≡ true) (after_append disk xs ys) may));
      }

  pub does_at_both : (stage : Stage S C O) (kept : KeptView C) (x : RaftRunning S C O) (disk : Disk) (xs ys : List Act) →
      DoesAt stage kept x disk xs →
      (a : Does stage kept x disk xs) → DoesAt (stands stage xs) (kept_by kept (decides stage xs)) (ran x a.deeds) (after disk xs) ys →
      DoesAt stage kept x disk (xs ++ ys)
  does_at_both stage kept x disk xs ys early a late n = elim (cases_lt (length xs) n) [
    | inl l ↦ subst (Does stage kept x disk) (sym (ap (λ k. take k (xs ++ ys)) (omega (arith, l))
        ∙ take-append-add xs ys (n - length xs))) (does_both stage kept x disk xs (take (n - length xs) ys) a (late (n - length xs)))
    | inr l ↦ subst (Does stage kept x disk) (sym (take-append-le n xs ys l)) (early n)
  ]
