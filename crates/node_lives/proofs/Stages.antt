-- What each act does to where a node stands and to what it has in memory; and acts of which one decides an event, split there.
use Rattle.std.proofs.Common.{◌≡◌, ℕ, List, [], ◌∷◌, ◌++◌, Option, Some, None, refl, sym, ap, ◌∙◌, ◌⊎◌, inl, inr}
use Rattle.cluster_histories.specs.Deeds.{Running}
use Rattle.disk.specs.Acts.{Act, Now, Quiet, ReceiveFailed, Took}
use Rattle.node_histories.specs.Histories as history
use Rattle.node_run.specs.Events.{event_of, said_by}
use Rattle.node_run.specs.Runs.{Between, Broken, Done, NodeView, Stage, Starting, Step, Waiting, begins, done_in, effect_of, stage_after, step, takes, takes_if}
use Rattle.node_run.specs.Settings.{Settings, due}
use Rattle.node_run.specs.declared.due.Due.{Due}
use Rattle.node_run.specs.declared.due.Due.TheVariants.{Timeout, Wait}
use Rattle.node_run.specs.declared.event.Event.{Event}
use Rattle.node_run.specs.declared.event.Event.TheVariants.{Asked, Peer, Tick}
use Rattle.raft_types.specs.Messages.{KeptView}
use Rattle.raft_types.specs.declared.client.RaftOut.{RaftOut}
use Rattle.raft_types.specs.declared.msg.RaftMsg.{RaftMsg}
use Rattle.raft_xform.specs.Nodes.{RaftEffect, RaftView}
use Rattle.raft_xform.specs.Raft.{raft, raft_recovery}
use Rattle.slots.specs.Turns.{datagrams}
use Rattle.std.specs.Prelude.{length}
use Rattle.vst_base.specs.Machines.{MachineMeaning}
use Rattle.wire_fields.specs.Formats.{Format}
use Rattle.lists.specs.Places.{not_empty}
use Rattle.node_lives.specs.LifeDeeds.{acts_on}

-- a Raft node as it runs
abbrev pub RaftRunning : Type 0 → Type 0 → Type 0 → Type 0
RaftRunning S C O = Running (RaftView S C O) (RaftOut O) (RaftMsg C) (KeptView C)

module _ {S C O : Type 0} (settings : Settings) (m : MachineMeaning S C O) (f : Format C) (g : Format O) where
  abbrev goes : Stage S C O → Act → Step S C O
  goes stage act = step settings m f g stage act

  abbrev decides : Stage S C O → List Act → List (Done C)
  decides stage acts = done_in settings m f g stage acts

  abbrev stands : Stage S C O → List Act → Stage S C O
  stands stage acts = stage_after settings m f g stage acts

  -- what the handlers make of an event
  abbrev pub makes : RaftView S C O → Event C → RaftEffect S C O
  makes state event =
      history.effect_of (raft (length settings.peers) m) (raft_recovery m) settings.me state (history.Takes (acts_on event))

  same_effect : (state : RaftView S C O) (event : Event C) → effect_of settings m f g state event ≡ makes state event
  same_effect state Tick = refl
  same_effect state (Peer from message) = refl
  same_effect state (Asked request) = refl

  -- it stands there with this state in memory; after a receive that failed it may have any
  abbrev pub Has : Stage S C O → RaftView S C O → Type 0
  Has (Starting kept) state = state ≡ (raft_recovery m).reboot settings.me kept
  Has (Between node) state = state ≡ node.state
  Has (Waiting node time) state = state ≡ node.state
  Has Broken state = Unit {0}

  -- an act that decides nothing, and one that decides this event
  pub record Stays (state : RaftView S C O) (next : Step S C O) : Type 0 where
    pub none : next.done ≡ []
    pub has : Has next.stage state

  pub record Takes (state : RaftView S C O) (next : Step S C O) : Type 0 where
    pub d : Done C
    pub one : next.done ≡ d ∷ []
    pub kept : d.kept ≡ (raft_recovery m).keep (makes state d.event).state
    pub said : d.said ≡ said_by settings f g (makes state d.event)
    pub has : Has next.stage (makes state d.event).state

  abbrev pub StaysOrTakes : RaftView S C O → Act → Step S C O → Type 0
  StaysOrTakes state act next = Stays state next ⊎ (Takes state next × (datagrams (act ∷ []) ≡ []))

  takes_so : (node : NodeView S C O) (time : ℕ) (event : Event C) (state : RaftView S C O) → state ≡ node.state →
      Takes state (takes settings m f g node time event)
  takes_so node time event state h =
      let same : effect_of settings m f g node.state event ≡ makes state event =
      same_effect node.state event ∙ ap (λ (s : RaftView S C O). makes s event) (sym h) in
      record {
        d = record {
          event = event;
          kept = (raft_recovery m).keep
              (effect_of settings m f g node.state event).state;
          said = said_by settings f g (effect_of settings m f g node.state event);
        };
        one = refl;
        kept = ap (λ (e : RaftEffect S C O). (raft_recovery m).keep e.state) same;
        said = ap (λ (e : RaftEffect S C O). said_by settings f g e) same;
        has = ap (λ (e : RaftEffect S C O). e.state) (sym same);
      }

  begins_so : (node : NodeView S C O) (time : ℕ) (is : Due) (state : RaftView S C O) → state ≡ node.state →
      StaysOrTakes state (Now time) (begins settings m f g node time is)
  begins_so node time Timeout state h = inr (takes_so node time Tick state h, refl)
  begins_so node time (Wait ms) state h = inl (record { none = refl; has = h })

  hears_so : (node : NodeView S C O) (time : ℕ) (act : Act) (event : Option (Event C)) (state : RaftView S C O) →
      datagrams (act ∷ []) ≡ [] → state ≡ node.state →
      StaysOrTakes state act (takes_if settings m f g node time event)
  hears_so node time act None state q h = inl (record { none = refl; has = h })
  hears_so node time act (Some event) state q h = inr (takes_so node time event state h, q)

  step_so : (stage : Stage S C O) (act : Act) (state : RaftView S C O) → Has stage state → StaysOrTakes state act (goes stage act)
  step_so (Starting kept) (Now time) state h = inl (record { none = refl; has = h })
  step_so (Between node) (Now time) state h = begins_so node time (due node.deadline time) state h
  step_so (Waiting node time) (Took wait from bytes) state h = hears_so node time (Took wait from bytes)
      (event_of settings f from bytes) state refl h
  step_so (Waiting node time) (Quiet wait) state h = inl (record { none = refl; has = h })
  step_so (Waiting node time) (ReceiveFailed wait) state h = inl (record { none = refl; has = tt })
  step_so stage act state h = inl (record { none = refl; has = h })

  -- the acts before the first event, the act that decides it, and those after it
  pub record Split (stage : Stage S C O) (state : RaftView S C O) (acts : List Act) : Type 0 where
    pub before : List Act
    pub act : Act
    pub later : List Act
    pub is : acts ≡ before ++ act ∷ later
    pub none : decides stage before ≡ []
    pub takes : Takes state (goes (stands stage before) act)
    pub silent : datagrams (act ∷ []) ≡ []

  pub record Quiets (stage : Stage S C O) (state : RaftView S C O) (acts : List Act) : Type 0 where
    pub none : decides stage acts ≡ []
    pub has : Has (stands stage acts) state

  pub split : (stage : Stage S C O) (state : RaftView S C O) (acts : List Act) → Has stage state →
      Quiets stage state acts ⊎ Split stage state acts
  split stage state [] h = inl (record { none = refl; has = h })
  split stage state (act ∷ acts) h = elim (step_so stage act state h) [
    | inl stays ↦ elim (split (goes stage act).stage state acts stays.has) [
      | inl quiet ↦ inl (record { none = ap (λ ds. ds ++ decides (goes stage act).stage acts) stays.none ∙ quiet.none; has = quiet.has })
      | inr at ↦ inr (record {
        before = act ∷ at.before;
        act = at.act;
        later = at.later;
        is = ap (λ xs. act ∷ xs) at.is;
        none = ap (λ ds. ds ++ decides (goes stage act).stage at.before) stays.none ∙ at.none;
        takes = at.takes;
        silent = at.silent;
      })
    ]
    | inr takes ↦ inr (record { before = []; act = act; later = acts; is = refl; none = refl; takes = takes.0; silent = takes.1 })
  ]

  -- where nothing is decided, what is in memory stays
  pub has_still : (stage : Stage S C O) (state : RaftView S C O) (acts : List Act) → Has stage state → decides stage acts ≡ [] →
      Has (stands stage acts) state
  has_still stage state [] h none = h
  has_still stage state (act ∷ acts) h none = elim (step_so stage act state h) [
    | inl stays ↦ has_still (goes stage act).stage state acts stays.has (sym (ap (λ ds. ds ++ decides
        (goes stage act).stage acts) stays.none) ∙ none)
    | inr takes ↦ absurd (not_empty takes.0.d (decides (goes stage act).stage acts) (sym (ap (λ ds. ds ++ decides
        (goes stage act).stage acts) takes.0.one) ∙ none))
  ]
