-- What handlers keep to, event by event, so that whatever a network does all that they send and keep has bytes.
use Rattle.std.specs.Prelude.{ℕ, suc, ◌<◌, ◌≤◌, IsTrue, List, [], ◌∷◌, length, None}
use Rattle.std.specs.List.{All}
use Rattle.handler_trait.specs.Handling.{Effect, Meaning, Recovery}
use Rattle.net_semantics.specs.Runs.{IsAllowed, run}
use Rattle.net_semantics.specs.Worlds.{Packet, first_world}
use Rattle.vst_base.specs.declared.net.Net.{Net}
use Rattle.vst_base.specs.declared.step.Step.{Step}
use Rattle.vst_base.specs.declared.step.TheConstants.{MAX_STEPS}
use Rattle.wired.specs.Saving.{EachKeepsBytes, Saving}
use Rattle.wired.specs.StackRuns.{MayCome}

-- Has says what a message from one node to another keeps to, as that it has bytes.
module _ {M : Type 0} (Has : ℕ → ℕ → M → Type 0) where
  -- what a node sends goes to nodes that exist, and keeps to it
  abbrev pub AreSent : ℕ → ℕ → List (ℕ × M) → Type 0
  AreSent nodes n [] = Unit {0}
  AreSent nodes n (p ∷ ps) = ((p.0 < nodes) × Has n p.0 p.1) × AreSent nodes n ps

  -- what an event at a node makes: a state that keeps to what it has to, and at most so many such sends
  pub record GoesOn {S O : Type 0} (most nodes : ℕ) (good : S → Type 0) (n : ℕ) (e : Effect S O M) : Type 0 where
    pub state : good e.state
    pub few : length e.sends ≤ most
    pub sends : AreSent nodes n e.sends

  -- Good says what a node's state keeps to after so many steps. It holds at first, goes on to hold, and holds after a start and after each
  -- event with fewer than 1,000,000 steps before it. What such an event sends is so many packets at most, which keep to Has where what comes
  -- does, and what is kept of such a state has bytes.
  pub record DealsInBytes {S K I O : Type 0} (most : ℕ) (saving : Saving K) (IsInput : I → Type 0) (m : Meaning S I O M) (r : Recovery S K) (Good : ℕ → ℕ → S → Type 0) : Type 0 where
    pub init : (n : ℕ) → n < m.nodes → Good 0 n (m.init n)
    pub later : (t n : ℕ) (s : S) → Good t n s → Good (suc t) n s
    pub input : (t n : ℕ) (s : S) (i : I) → t < MAX_STEPS → n < m.nodes → IsTrue (m.takes_input n) → IsInput i → Good t n s
        → GoesOn most m.nodes (Good (suc t) n) n (m.input n s i)
    pub message : (t n : ℕ) (s : S) (from : ℕ) (x : M) → t < MAX_STEPS → n < m.nodes → from < m.nodes → Has from n x → Good t n s
        → GoesOn most m.nodes (Good (suc t) n) n (m.message n s from x)
    pub timeout : (t n : ℕ) (s : S) → t < MAX_STEPS → n < m.nodes → Good t n s → GoesOn most m.nodes (Good (suc t) n) n (m.timeout n s)
    pub keep : (t n : ℕ) (s : S) → n < m.nodes → Good t n s → saving.Fits n (r.keep s)
    pub reboot : (t n : ℕ) (s : S) → n < m.nodes → Good t n s → Good t n (r.reboot n (r.keep s))

  -- a packet between nodes that exist, whose content keeps to it
  abbrev pub IsGoodPacket : ℕ → Packet M → Type 0
  IsGoodPacket nodes p = ((p.source < nodes) × (p.destination < nodes)) × Has p.source p.destination p.content

  -- then all that is sent on a schedule that may come keeps to Has, and what is kept has bytes
  abbrev pub AllKeepTo : {S K I O : Type 0} → Saving K → (I → Type 0) → Meaning S I O M → Recovery S K → Type 0
  AllKeepTo {S} {K} {I} {O} saving IsInput m r = (net : Net) (ss : List (Step I)) → MayCome IsInput ss → IsAllowed net m r ss
      → All (IsGoodPacket m.nodes) (run m r ss).packets × EachKeepsBytes saving m r (first_world m) ss

-- where nothing is kept as bytes
abbrev pub nothing_saved : {K : Type 0} → Saving K
nothing_saved = record { Fits = λ _ _. Unit {0}; spell = λ _ _. []; read = λ _ _. None }
