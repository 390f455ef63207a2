-- What happens at nodes, where no message is forged, is a run of the network that loses, copies and reorders packets and stops nodes.
use Rattle.std.specs.Prelude.{◌≡◌, ℕ, List, [], ◌∷◌, ◌++◌, Contains, Option, Some, None, slice_get}
use Rattle.handler_trait.specs.Handling.{Meaning, Recovery}
use Rattle.net_semantics.specs.Runs.{IsAllowed, run, trace}
use Rattle.net_semantics.specs.Steps.{next}
use Rattle.net_semantics.specs.Worlds.{Packet, World, first_world}
use Rattle.vst_base.specs.declared.net.Net.TheVariants as net
use Rattle.vst_base.specs.declared.step.Step.{Step}
use Rattle.vst_base.specs.declared.step.Step.TheVariants as step
use Rattle.node_histories.specs.Histories.{Asked, Fired, Happening, Heard, History, MayHappen, NothingForged, Restarts, Takes, effect_after, items_of, world_of}

abbrev pub heard_of : {I M : Type 0} → Option (Packet M) → History I M
heard_of None = []
heard_of (Some p) = (p.destination, Takes (Heard p.source p.content)) ∷ []

-- what a step does at a node, in the world before it
abbrev pub happens_in : {S K I M : Type 0} → World S K M → Step I → History I M
happens_in w (step.In n i) = (n, Takes (Asked i)) ∷ []
happens_in w (step.Tick n) = (n, Takes Fired) ∷ []
happens_in w (step.Deliver k) = heard_of (slice_get w.packets k)
happens_in w (step.Reboot n) = (n, Restarts) ∷ []
happens_in w (step.Crash n) = []
happens_in w (step.Dup k) = []
happens_in w (step.Lose k) = []

module _ {S K I O M : Type 0} (m : Meaning S I O M) (r : Recovery S K) where
  -- what the steps of a schedule do at nodes, in order
  abbrev pub history_from : World S K M → List (Step I) → History I M
  history_from w [] = []
  history_from w (s ∷ ss) = happens_in w s ++ history_from (next m r w s) ss

  abbrev pub history_of : List (Step I) → History I M
  history_of ss = history_from (first_world m) ss

  -- the network allows the schedule; its steps do at nodes just what the history has, in its order; each node ends in its own state; and
  -- clients see the inputs and outputs, in their order
  pub record RunsAs (hs : History I M) (ss : List (Step I)) : Type 0 where
    pub allowed : IsAllowed net.Fail m r ss
    pub takes : history_of ss ≡ hs
    pub comes_to : run m r ss ≡ world_of m r hs
    pub seen : trace m r ss ≡ items_of m r hs

  pub record HasRun (hs : History I M) : Type 0 where
    pub steps : List (Step I)
    pub runs : RunsAs hs steps

  -- the schedule goes on
  pub record GoesOn (early late : History I M) (ss : List (Step I)) : Type 0 where
    pub more : List (Step I)
    pub runs : RunsAs (early ++ late) (ss ++ more)

  -- one of these is a happening at this node in which it sends that node this
  pub record HasSender (before : History I M) (from to : ℕ) (c : M) : Type 0 where
    pub early : History I M
    pub sender : Happening I M
    pub late : History I M
    pub stands : before ≡ early ++ (from, sender) ∷ late
    pub sent : Contains (effect_after m r early (from, sender)).sends (to, c)

  -- each message that a node hears has one
  abbrev pub EachWasSent : History I M → Type 0
  EachWasSent hs =
      (before after : History I M) (from to : ℕ) (c : M) → hs ≡ before ++ (to, Takes (Heard from c)) ∷ after →
      HasSender before from to c

module _ (S K I O M : Type 0) where
  -- what may happen is a run
  abbrev pub HistoriesAreRuns : Type 0
  HistoriesAreRuns = (m : Meaning S I O M) (r : Recovery S K) (hs : History I M) → MayHappen m r hs → HasRun m r hs

  -- and where more happens, the run goes on: so the moments of what happens are moments of one run
  abbrev pub RunsGoOn : Type 0
  RunsGoOn =
      (m : Meaning S I O M) (r : Recovery S K) (early late : History I M) (ss : List (Step I)) → MayHappen m r (early ++ late) →
      RunsAs m r early ss → GoesOn m r early late ss

  -- that nothing is forged says, for each message that a node hears, that its source sent it to that node in an earlier happening
  abbrev pub WhatIsHeardWasSent : Type 0
  WhatIsHeardWasSent = (m : Meaning S I O M) (r : Recovery S K) (hs : History I M) → NothingForged m r hs → EachWasSent m r hs

  abbrev pub WhatWasSentIsNotForged : Type 0
  WhatWasSentIsNotForged = (m : Meaning S I O M) (r : Recovery S K) (hs : History I M) → EachWasSent m r hs → NothingForged m r hs
