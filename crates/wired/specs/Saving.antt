-- Handlers that keep bytes: each node knows its number, and writes what it keeps as its own.
use Rattle.std.specs.Prelude.{◌≡◌, ℕ, List, [], ◌∷◌, Option, None, Some, option_map, refl}
use Rattle.std.specs.Coded.{Coded, code_by, coded×, coded_ℕ}
use Rattle.handler_trait.specs.Handling.{Effect, Meaning, Recovery}
use Rattle.net_semantics.specs.Steps.{next}
use Rattle.net_semantics.specs.Worlds.{World, first_world}
use Rattle.vst_base.specs.declared.net.Net.{Net}
use Rattle.vst_base.specs.declared.step.Step.{Step}
use Rattle.vst_base.specs.Nets.{AtNode, OfPacket, Starts, StepView, Stops, view_of}
use Rattle.wired.specs.Same.{RunsTheSame}
use Rattle.wired.specs.Wiring.{Named}

-- what a node of each number may keep so that it has bytes, its bytes, and what bytes are to that node: none where they are none of
-- its own
pub record Saving (K : Type 0) : Type 1 where
  pub Fits : ℕ → K → Type 0
  pub spell : ℕ → K → List ℕ
  pub read : ℕ → List ℕ → Option K

abbrev pub ReadsBack : {K : Type 0} → Saving K → Type 0
ReadsBack {K} saving = (n : ℕ) (k : K) → saving.Fits n k → saving.read n (saving.spell n k) ≡ Some k

-- the state of a node, and its number
pub record Seated (S : Type 0) : Type 0 where
  pub me : ℕ
  pub inner : S

abbrev pub seated_code : {S : Type 0} → Coded S → Coded (Seated S)
seated_code {S} code = code_by (ℕ × S) (coded× coded_ℕ code) (λ s. (s.me, s.inner)) (λ p. record { me = p.0; inner = p.1 }) (λ _. refl)

abbrev pub seat : {S : Type 0} → ℕ → S → Seated S
seat n s = record { me = n; inner = s }

abbrev pub seated : {S O M : Type 0} → ℕ → Effect S O M → Effect (Seated S) O M
seated n e = record { state = seat n e.state; outputs = e.outputs; sends = e.sends }

-- the same handlers, whose nodes know their numbers
abbrev pub saved : {S I O M : Type 0} → Meaning S I O M → Meaning (Seated S) I O M
saved m = record {
  nodes = m.nodes;
  takes_input = m.takes_input;
  init = λ n. seat n (m.init n);
  input = λ n s i. seated n (m.input n s.inner i);
  message = λ n s from message. seated n (m.message n s.inner from message);
  timeout = λ n s. seated n (m.timeout n s.inner);
}

-- a node starts from what it kept, and in its first state where it finds nothing of its own
abbrev pub started : {S K I O M : Type 0} → Meaning S I O M → Recovery S K → ℕ → Option K → S
started m r n None = m.init n
started m r n (Some k) = r.reboot n k

abbrev pub saved_recovery : {S K I O M : Type 0} → Saving K → Meaning S I O M → Recovery S K → Recovery (Seated S) (List ℕ)
saved_recovery saving m r = record {
  keep = λ s. saving.spell s.me (r.keep s.inner);
  reboot = λ n bytes. seat n (started m r n (saving.read n bytes));
}

-- a state is that of its node, and keeps to what the handlers within ask of theirs
abbrev pub saved_sound : {H S : Type 0} → (H → ℕ → S → Type 0) → Named H → ℕ → Seated S → Type 0
saved_sound sound w n s = (s.me ≡ n) × sound w.inner n s.inner

abbrev pub saved_spent : {H S : Type 0} → (H → S → ℕ) → Named H → Seated S → ℕ
saved_spent spent w s = spent w.inner s.inner

-- the world whose nodes know their numbers and keep bytes
abbrev pub world_saved : {S K M : Type 0} → Saving K → World S K M → World (Seated S) (List ℕ) M
world_saved saving w = record {
  state = λ n. seat n (w.state n);
  is_up = w.is_up;
  kept = λ n. option_map (saving.spell n) (w.kept n);
  packets = w.packets;
}

-- what a node keeps in a step has bytes
abbrev pub KeepsBytesIn : {S K I M : Type 0} → Saving K → Recovery S K → World S K M → StepView I → Type 0
KeepsBytesIn saving r w (AtNode n input) = Unit {0}
KeepsBytesIn saving r w (OfPacket k fate) = Unit {0}
KeepsBytesIn saving r w (Stops n) = saving.Fits n (r.keep (w.state n))
KeepsBytesIn saving r w (Starts n) = Unit {0}

abbrev pub KeepsBytes : {S K I M : Type 0} → Saving K → Recovery S K → World S K M → Step I → Type 0
KeepsBytes saving r w s = KeepsBytesIn saving r w (view_of s)

-- and so in each of these steps
abbrev pub EachKeepsBytes : {S K I O M : Type 0} → Saving K → Meaning S I O M → Recovery S K → World S K M → List (Step I) → Type 0
EachKeepsBytes saving m r w [] = Unit {0}
EachKeepsBytes saving m r w (s ∷ ss) = KeepsBytes saving r w s × EachKeepsBytes saving m r (next m r w s) ss

-- handlers that keep bytes do as the handlers within on each schedule on which what is kept has bytes
abbrev pub SavedRunsAreTheSame : {S K I O M : Type 0} → Saving K → Meaning S I O M → Recovery S K → Type 0
SavedRunsAreTheSame {S} {K} {I} {O} {M} saving m r = (net : Net) (ss : List (Step I)) → EachKeepsBytes saving m r (first_world m) ss
    → RunsTheSame net (saved m) (saved_recovery saving m r) m r (world_saved saving) ss
