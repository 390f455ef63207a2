-- FIFO channels as a function on handlers: packets are numbered by destination, and a receiver gives each sender's contents to
-- the handlers within in the order of their numbers.
use Rattle.std.specs.Prelude.{ℕ, max, ◌==◌, List, [], ◌∷◌, Option, Some, None, if◌then◌else◌, refl}
use Rattle.std.specs.Coded.{Coded, code_by, coded×, coded_list}
use Rattle.handler_trait.specs.Handling.{Meaning, Effect}
use Rattle.vst_base.specs.declared.seq.SeqMsg.{SeqMsg}
use Rattle.fifo_xform.specs.Peers.{Peers, peer_code, peer_of, counting, passing, holding, is_early, ready, numbered_packets, passed_numbers}

-- the state of the handlers within, and what is kept of each node
pub record FifoState (S M : Type 0) : Type 0 where
  pub inner : S
  pub peers : Peers M

abbrev pub fifo_state_code : {S M : Type 0} → Coded S → Coded M → Coded (FifoState S M)
fifo_state_code {S} {M} state message =
    code_by (S × Peers M) (coded× state (coded_list (peer_code message))) (λ s. (s.inner, s.peers)) (λ p. record { inner = p.0; peers = p.1 }) (λ _. refl)

-- sends, each with the next number of its destination
abbrev pub numbered_by : {M : Type 0} → Peers M → List (ℕ × M) → List (ℕ × SeqMsg M)
numbered_by ps [] = []
numbered_by ps (s ∷ ss) = (s.0, record { number = (peer_of ps s.0).next; inner = s.1 }) ∷ numbered_by (counting ps s.0) ss

-- and what is kept of each node after them
abbrev pub counted : {M : Type 0} → Peers M → List (ℕ × M) → Peers M
counted ps [] = ps
counted ps (s ∷ ss) = counted (counting ps s.0) ss

-- what the handlers within make of an event, with their sends numbered
abbrev pub numbering : {S O M : Type 0} → Peers M → Effect S O M → Effect (FifoState S M) O (SeqMsg M)
numbering ps e = record {
  state = record { inner = e.state; peers = counted ps e.sends };
  outputs = e.outputs;
  sends = numbered_by ps e.sends;
}

-- nothing is given to the handlers within
abbrev pub gives_nothing : {S O M : Type 0} → S → Peers M → Effect (FifoState S M) O (SeqMsg M)
gives_nothing inner ps = record { state = record { inner = inner; peers = ps }; outputs = []; sends = [] }

-- they are given the expected content of a sender
abbrev pub gives : {S I O M : Type 0} → Meaning S I O M → ℕ → FifoState S M → ℕ → M → Effect (FifoState S M) O (SeqMsg M)
gives m n s from content = numbering (passing s.peers from) (m.message n s.inner from content)

-- what a message does: one with the expected number is given, a later one is held, once, and any other does nothing
abbrev pub on_message : {S I O M : Type 0} → Meaning S I O M → ℕ → FifoState S M → ℕ → SeqMsg M → Effect (FifoState S M) O (SeqMsg M)
on_message m n s from p =
    if p.number == (peer_of s.peers from).expected then gives m n s from p.inner
    else gives_nothing s.inner (if is_early (peer_of s.peers from) p.number then holding s.peers from p.number p.inner else s.peers)

-- what a tick does: a content that is ready is given, and where none is, the timer of the handlers within fires
abbrev pub on_timeout : {S I O M : Type 0} → Meaning S I O M → ℕ → FifoState S M → Option (ℕ × M) → Effect (FifoState S M) O (SeqMsg M)
on_timeout m n s None = numbering s.peers (m.timeout n s.inner)
on_timeout m n s (Some held) = gives m n s held.0 held.1

-- handlers for a network of FIFO channels, carried to one that copies and reorders packets
abbrev pub fifo : {S I O M : Type 0} → Meaning S I O M → Meaning (FifoState S M) I O (SeqMsg M)
fifo m = record {
  nodes = m.nodes;
  takes_input = m.takes_input;
  init = λ n. record { inner = m.init n; peers = [] };
  input = λ n s i. numbering s.peers (m.input n s.inner i);
  message = λ n s from p. on_message m n s from p;
  timeout = λ n s. on_timeout m n s (ready m.nodes s.peers);
}

-- a state keeps to what the handlers within ask of theirs
abbrev pub fifo_sound : {H S M : Type 0} → (H → ℕ → S → Type 0) → H → ℕ → FifoState S M → Type 0
fifo_sound sound h n s = sound h n s.inner

-- what was spent: by the handlers within, of the numbers of packets, or of the expected numbers, whichever is most
abbrev pub fifo_spent : {H S M : Type 0} → (H → S → ℕ) → H → FifoState S M → ℕ
fifo_spent spent h s = max (spent h s.inner) (max (numbered_packets s.peers) (passed_numbers s.peers))
