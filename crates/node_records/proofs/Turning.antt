-- One turn: what was heard, and then store acts and what was said, by which a node between two turns does not move.
use Rattle.std.proofs.Common.{◌≡◌, ℕ, ◌+◌, Bool, false, ◌||◌, if◌then◌else◌, List, [], ◌∷◌, ◌++◌, refl, sym, ap, subst, ◌∙◌, arith, ◌⊎◌, inl, inr}
use Rattle.std.proofs.lemmas.List.{append-nil}
use Rattle.disk.specs.Acts.{Act, Now, Took, Quiet, ReceiveFailed, Sent, SendFailed, Wrote, Cut, Synced, StoreFailed}
use Rattle.disk.specs.DiskLaws.{IsCutShort}
use Rattle.slots.specs.Turns.{Hears, Says, OnAreas, datagrams}
use Rattle.vst_base.specs.Machines.{MachineMeaning}
use Rattle.wire_fields.specs.Formats.{Format}
use Rattle.node_acts.specs.StateActs.{state_acts}
use Rattle.node_acts.specs.Stores.{StoreView}
use Rattle.node_run.specs.Runs.{Done, NodeView, Stage, Starting, Between, Waiting, Broken, Step, AreOrderly, IsOrderly, begins, done_in, goes_to, passes, said_in, stage_after, step, takes, takes_if, turns_in}
use Rattle.node_run.specs.Settings.{Settings, due}
use Rattle.node_run.specs.declared.due.Due.{Due}
use Rattle.node_run.specs.declared.due.Due.TheVariants.{Timeout, Wait}
use Rattle.node_run.specs.declared.event.Event.TheVariants.{Tick}
use Rattle.node_records.specs.Records.{Stores, IsNoFault, IsOfTurns, AreRecord, IsStopped, HearsAs, ended_turns, reads_clock, saves_of, store_acts}
use Rattle.node_records.specs.RecordLaws.{Turns}
use Rattle.node_records.proofs.ActKinds.{areas_faultless, areas_store, datagrams_append, hears_of_turns, hears_silent, hears_store, save_on_areas, says_faultless, says_of_turns, says_store, short_stores, store_acts_append, stores_of_turns, stores_silent, stores_store}
use Rattle.node_records.proofs.Folds.{done_append, orderly_append, stage_append, turns_append}
use Rattle.lists.specs.Each.{Each, each_append, each_weaker}
use Rattle.lists.specs.Prefixes.{IsPrefix, prefix_of}

-- an act that follows what was heard
abbrev pub Follows : Act → Type 0
Follows act = Stores act ⊎ Says act

pub turn_follows : (saves said : List Act) → Each Stores saves → Each Says said → Each Follows (saves ++ said)
turn_follows saves said s q =
    each_append Follows saves said (each_weaker Stores Follows (λ act h. inl h) saves s) (each_weaker Says Follows (λ act h. inr h) said q)

-- what was heard, and then such acts, are of turns
pub turn_of_turns : (hs saves said : List Act) → Each Hears hs → Each Stores saves → Each Says said → Each IsOfTurns (hs ++ (saves ++ said))
turn_of_turns hs saves said h s q =
    each_append IsOfTurns hs (saves ++ said) (hears_of_turns hs h) (each_append IsOfTurns saves said (stores_of_turns saves s) (says_of_turns said q))

-- only a datagram among them is sent
pub turn_said : (saves said : List Act) → Each Stores saves → datagrams (saves ++ said) ≡ datagrams said
turn_said saves said s = datagrams_append saves said ∙ ap (λ r. r ++ datagrams said) (stores_silent saves s)

module _ {S C O : Type 0} (settings : Settings) (m : MachineMeaning S C O) (f : Format C) (g : Format O) where
  abbrev goes : Stage S C O → Act → Step S C O
  goes stage act = step settings m f g stage act

  abbrev decides : Stage S C O → List Act → List (Done C)
  decides stage acts = done_in settings m f g stage acts

  record Stays (node : NodeView S C O) (act : Act) : Type 0 where
    pub orderly : IsOrderly settings m f g (Between node) act
    pub step : goes (Between node) act ≡ goes_to settings m f g (Between node)

  follows_one : (node : NodeView S C O) (act : Act) → Follows act → Stays node act
  follows_one node (Sent to bytes) h = record { orderly = tt; step = refl }
  follows_one node (SendFailed to bytes) h = record { orderly = tt; step = refl }
  follows_one node (Wrote area at bytes) h = record { orderly = tt; step = refl }
  follows_one node (Cut area len) h = record { orderly = tt; step = refl }
  follows_one node (Synced area) h = record { orderly = tt; step = refl }
  follows_one node (StoreFailed call) h = record { orderly = tt; step = refl }
  follows_one node act h = absurd (elim h [ inl s ↦ s | inr s ↦ s ])

  -- the acts are orderly, decide these events and so many turns, and then the node stands there
  pub record Decides (stage : Stage S C O) (acts : List Act) (done : List (Done C)) (count : ℕ) (next : Stage S C O) : Type 0 where
    pub orderly : AreOrderly settings m f g stage acts
    pub events : decides stage acts ≡ done
    pub turns : turns_in settings m f g stage acts ≡ count
    pub stands : stage_after settings m f g stage acts ≡ next

  ends : (stage : Stage S C O) → Decides stage [] [] 0 stage
  ends stage = record { orderly = tt; events = refl; turns = refl; stands = refl }

  begins_by : (stage next : Stage S C O) (act : Act) (acts : List Act) (taken : Step S C O) (done : List (Done C)) (count : ℕ) → goes stage act ≡ taken →
      IsOrderly settings m f g stage act → Decides taken.stage acts done count next →
      Decides stage (act ∷ acts) (taken.done ++ done) (taken.turns + count) next
  begins_by stage next act acts taken done count s o r = record {
    orderly = (o, subst (λ (x : Step S C O). AreOrderly settings m f g x.stage acts) (sym s) r.orderly);
    events = ap (λ (x : Step S C O). x.done ++ decides x.stage acts) s ∙ ap (λ es. taken.done ++ es) r.events;
    turns = ap (λ (x : Step S C O). x.turns + turns_in settings m f g x.stage acts) s ∙ ap (λ n. taken.turns + n) r.turns;
    stands = ap (λ (x : Step S C O). stage_after settings m f g x.stage acts) s ∙ r.stands;
  }

  follows : (node : NodeView S C O) (acts : List Act) → Each Follows acts → Decides (Between node) acts [] 0 (Between node)
  follows node [] h = ends (Between node)
  follows node (act ∷ acts) h =
      let s = follows_one node act h.0 in
      begins_by (Between node) (Between node) act acts (goes_to settings m f g (Between node)) [] 0 s.step s.orderly (follows node acts h.1)

  -- what was heard decides the turn
  pub turn : (stage : Stage S C O) (done : List (Done C)) (count : ℕ) (node : NodeView S C O) (hs more : List Act) →
      HearsAs settings m f g stage hs done count (Between node) → Each Follows more → Decides stage (hs ++ more) done count (Between node)
  turn stage done count node hs more h fs =
      let r = follows node more fs in
      record {
        orderly = orderly_append settings m f g stage hs more h.orderly (subst (λ (x : Stage S C O). AreOrderly settings m f g x more) (sym h.stands) r.orderly);
        events = done_append settings m f g stage hs more
            ∙ (ap (λ (x : Stage S C O). decides stage hs ++ decides x more) h.stands
            ∙ (ap (λ es. decides stage hs ++ es) r.events ∙ (append-nil (decides stage hs) ∙ h.events)));
        turns = let e = turns_append settings m f g stage hs more in
            let a = ap (λ (x : Stage S C O). turns_in settings m f g x more) h.stands in
            let b = r.turns in
            let c = h.turns in
            omega arith;
        stands = stage_append settings m f g stage hs more ∙ (ap (λ (x : Stage S C O). stage_after settings m f g x more) h.stands ∙ r.stands);
      }

  -- nothing follows a receive that failed

  broken_ends : (acts : List Act) (node : NodeView S C O) → AreOrderly settings m f g Broken acts → stage_after settings m f g Broken acts ≡ Between node → ⊥
  broken_ends [] node o e = cc
  broken_ends (act ∷ acts) node o e = o.0

  receive_failed : (stage : Stage S C O) (wait : ℕ) (acts : List Act) (node : NodeView S C O) → AreOrderly settings m f g stage (ReceiveFailed wait ∷ acts) →
      stage_after settings m f g stage (ReceiveFailed wait ∷ acts) ≡ Between node → ⊥
  receive_failed (Starting kept) wait acts node o e = o.0
  receive_failed (Between n) wait acts node o e = o.0
  receive_failed (Waiting n time) wait acts node o e = broken_ends acts node o.1 e
  receive_failed Broken wait acts node o e = o.0

  hears_faultless : (stage : Stage S C O) (acts : List Act) (node : NodeView S C O) → Each Hears acts → AreOrderly settings m f g stage acts →
      stage_after settings m f g stage acts ≡ Between node → Each IsNoFault acts
  hears_faultless stage [] node h o e = tt
  hears_faultless stage (Now ms ∷ acts) node h o e = (tt, hears_faultless (goes stage (Now ms)).stage acts node h.1 o.1 e)
  hears_faultless stage (Took wait from bytes ∷ acts) node h o e = (tt, hears_faultless (goes stage (Took wait from bytes)).stage acts node h.1 o.1 e)
  hears_faultless stage (Quiet wait ∷ acts) node h o e = (tt, hears_faultless (goes stage (Quiet wait)).stage acts node h.1 o.1 e)
  hears_faultless stage (ReceiveFailed wait ∷ acts) node h o e = absurd (receive_failed stage wait acts node o e)
  hears_faultless stage (act ∷ acts) node h o e = absurd h.0

  -- a whole turn

  pub nothing : (stage : Stage S C O) (store : StoreView) → AreRecord settings m f g stage store 0 []
  nothing stage store = record { of_turns = tt; orderly = tt; turns = refl; stored = refl; said = refl; faultless = tt }

  pub quiet_turn : (stage : Stage S C O) (store : StoreView) (count : ℕ) (node : NodeView S C O) (hs : List Act) →
      HearsAs settings m f g stage hs [] count (Between node) → AreRecord settings m f g stage store count hs
  quiet_turn stage store count node hs h = record {
    of_turns = hears_of_turns hs h.hears;
    orderly = h.orderly;
    turns = h.turns;
    stored = hears_store hs h.hears ∙ sym (ap (λ r. saves_of settings.stack f store r) h.events);
    said = hears_silent hs h.hears ∙ sym (ap said_in h.events);
    faultless = hears_faultless stage hs node h.hears h.orderly h.stands;
  }

  stored_in_turn : (hs saves said : List Act) → Each Hears hs → Each Stores saves → Each Says said → store_acts (hs ++ (saves ++ said)) ≡ saves
  stored_in_turn hs saves said h s q =
      store_acts_append hs (saves ++ said)
      ∙ (ap (λ r. r ++ store_acts (saves ++ said)) (hears_store hs h)
      ∙ (store_acts_append saves said
      ∙ (ap (λ r. r ++ store_acts said) (stores_store saves s) ∙ (ap (λ r. saves ++ r) (says_store said q) ∙ append-nil saves))))

  pub said_in_turn : (hs saves said : List Act) → Each Hears hs → Each Stores saves → datagrams (hs ++ (saves ++ said)) ≡ datagrams said
  said_in_turn hs saves said h s =
      datagrams_append hs (saves ++ said) ∙ (ap (λ r. r ++ datagrams (saves ++ said)) (hears_silent hs h) ∙ turn_said saves said s)

  pub event_turn : (stage : Stage S C O) (store : StoreView) (count : ℕ) (node : NodeView S C O) (d : Done C) (hs saves said : List Act) →
      HearsAs settings m f g stage hs (d ∷ []) count (Between node) → saves ≡ state_acts settings.stack f store d.kept → Each Says said →
      datagrams said ≡ d.said → AreRecord settings m f g stage store count (hs ++ (saves ++ said))
  event_turn stage store count node d hs saves said h is q e =
      let on : Each OnAreas saves = subst (λ (xs : List Act). Each OnAreas xs) (sym is) (save_on_areas settings.stack f store d.kept) in
      let st : Each Stores saves = each_weaker OnAreas Stores areas_store saves on in
      let t = turn stage (d ∷ []) count node hs (saves ++ said) h (turn_follows saves said st q) in
      record {
        of_turns = turn_of_turns hs saves said h.hears st q;
        orderly = t.orderly;
        turns = t.turns;
        stored = stored_in_turn hs saves said h.hears st q
            ∙ (is ∙ (sym (append-nil (state_acts settings.stack f store d.kept)) ∙ sym (ap (λ r. saves_of settings.stack f store r) t.events)));
        said = said_in_turn hs saves said h.hears st ∙ (e ∙ (sym (append-nil d.said) ∙ sym (ap said_in t.events)));
        faultless = each_append IsNoFault hs (saves ++ said) (hears_faultless stage hs node h.hears h.orderly h.stands)
            (each_append IsNoFault saves said (areas_faultless saves on) (says_faultless said q));
      }

  -- a turn that was cut short

  pub heard_stops : (stage : Stage S C O) (store : StoreView) (done : List (Done C)) (count : ℕ) (next : Stage S C O) (hs : List Act) →
      HearsAs settings m f g stage hs done count next → IsStopped settings m f g stage store count hs
  heard_stops stage store done count next hs h = record {
    of_turns = hears_of_turns hs h.hears;
    orderly = h.orderly;
    turns = let e = h.turns in omega arith;
    stored = subst (λ (r : List Act). IsCutShort (saves_of settings.stack f store (decides stage hs)) r) (sym (hears_store hs h.hears)) tt;
    said = prefix_of _ (said_in (decides stage hs)) _ (ap (λ r. r ++ said_in (decides stage hs)) (hears_silent hs h.hears));
  }

  pub event_stops : (stage : Stage S C O) (store : StoreView) (count : ℕ) (node : NodeView S C O) (d : Done C) (hs saves said : List Act) →
      HearsAs settings m f g stage hs (d ∷ []) count (Between node) → IsCutShort (state_acts settings.stack f store d.kept) saves → Each Says said →
      IsPrefix (datagrams said) d.said → IsStopped settings m f g stage store count (hs ++ (saves ++ said))
  event_stops stage store count node d hs saves said h short q front =
      let all = hs ++ (saves ++ said) in
      let whole_save = state_acts settings.stack f store d.kept in
      let st : Each Stores saves = short_stores whole_save saves (save_on_areas settings.stack f store d.kept) short in
      let t = turn stage (d ∷ []) count node hs (saves ++ said) h (turn_follows saves said st q) in
      let owed : saves_of settings.stack f store (decides stage all) ≡ whole_save =
      ap (λ r. saves_of settings.stack f store r) t.events ∙ append-nil whole_save in
      record {
        of_turns = turn_of_turns hs saves said h.hears st q;
        orderly = t.orderly;
        turns = let e = t.turns in omega arith;
        stored = subst (λ (r : List Act). IsCutShort (saves_of settings.stack f store (decides stage all)) r)
            (sym (stored_in_turn hs saves said h.hears st q)) (subst (λ (r : List Act). IsCutShort r saves) (sym owed) short);
        said = rw (said_in_turn hs saves said h.hears st, t.events, append-nil d.said) front;
      }

  -- what a node hears

  abbrev hears_as : (stage next : Stage S C O) (acts : List Act) (done : List (Done C)) (count : ℕ) → Each Hears acts → Decides stage acts done count next →
      decides stage (ended_turns acts) ≡ [] →
      HearsAs settings m f g stage acts done count next
  hears_as stage next acts done count h r last =
      record { hears = h; orderly = r.orderly; events = r.events; last = last; turns = r.turns; stands = r.stands }

  abbrev alone : (stage : Stage S C O) (act : Act) (taken : Step S C O) → goes stage act ≡ taken → IsOrderly settings m f g stage act →
      Decides stage (act ∷ []) (taken.done ++ []) (taken.turns + 0) taken.stage
  alone stage act taken e o = begins_by stage taken.stage act [] taken [] 0 e o (ends taken.stage)

  clock : (node : NodeView S C O) (time : ℕ) (is : Due) → due node.deadline time ≡ is → goes (Between node) (Now time) ≡ begins settings m f g node time is
  clock node time is e = ap (λ d. begins settings m f g node time d) e

  -- a turn that waits
  waits_then : (node : NodeView S C O) (time wait : ℕ) (act : Act) (taken : Step S C O) → due node.deadline time ≡ Wait wait → goes (Waiting node time) act ≡ taken →
      Hears act → reads_clock act ≡ false → IsOrderly settings m f g (Waiting node time) act →
      HearsAs settings m f g (Between node) (Now time ∷ act ∷ []) (taken.done ++ []) (0 + (taken.turns + 0)) taken.stage
  waits_then node time wait act taken is e h once o =
      hears_as (Between node) taken.stage (Now time ∷ act ∷ []) (taken.done ++ []) (0 + (taken.turns + 0)) (tt, (h, tt))
      (begins_by (Between node) taken.stage (Now time) (act ∷ []) (goes_to settings m f g (Waiting node time)) (taken.done ++ []) (taken.turns + 0)
      (clock node time (Wait wait) is) tt (alone (Waiting node time) act taken e o))
      (ap (λ (b : Bool). decides (Between node) (if b || false then Now time ∷ [] else [])) once)

  pub turns_hear : Turns settings m f g
  turns_hear = record {
    nothing = λ stage. record { hears = tt; orderly = tt; events = refl; last = refl; turns = refl; stands = refl };
    first = λ kept time. record { hears = (tt, tt); orderly = (tt, tt); events = refl; last = refl; turns = refl; stands = refl };
    timeout = λ node time is.
        let taken = takes settings m f g node time Tick in
        hears_as (Between node) taken.stage (Now time ∷ []) taken.done 1 (tt, tt)
        (alone (Between node) (Now time) taken (clock node time Timeout is) tt) refl;
    event = λ node time wait from bytes event is e.
        waits_then node time wait (Took wait from bytes) (takes settings m f g node time event) is (ap (λ o. takes_if settings m f g node time o) e) tt refl is;
    no_event = λ node time wait from bytes is e.
        waits_then node time wait (Took wait from bytes) (passes settings m f g node) is (ap (λ o. takes_if settings m f g node time o) e) tt refl is;
    quiet = λ node time wait is. waits_then node time wait (Quiet wait) (passes settings m f g node) is refl tt refl is;
    failed = λ node time wait is. waits_then node time wait (ReceiveFailed wait) (goes_to settings m f g Broken) is refl tt refl is;
    waits = λ node time wait is.
        hears_as (Between node) (Waiting node time) (Now time ∷ []) [] 0 (tt, tt)
        (alone (Between node) (Now time) (goes_to settings m f g (Waiting node time)) (clock node time (Wait wait) is) tt) refl;
  }
