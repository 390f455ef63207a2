-- Handlers whose messages come in order send as many packets as the handlers within, to the same nodes, and use up no more numbers.
use Rattle.std.specs.Prelude.{◌≡◌, ℕ, suc, ◌+◌, ◌<◌, ◌≤◌, Bool, true, false, List, [], ◌∷◌, length, Option, Some, None, cond, ◌==◌, refl, IsTrue}
use Rattle.std.proofs.Common.{ap, arith, ◌∙◌}
use Rattle.handler_trait.specs.Handling.{Meaning, Effect, IsModest, AreSentBelow}
use Rattle.handler_trait.specs.declared.handlers.TheConstants.{MAX_SENDS}
use Rattle.vst_base.specs.declared.seq.SeqMsg.{SeqMsg}
use Rattle.fifo_xform.specs.Peers.{Peers, peer_of, counting, passing, holding, is_early, ready, numbered_packets, passed_numbers}
use Rattle.fifo_xform.specs.PeersLaws.{ready-is, numbered-counting, passed-counting, numbered-passing, passed-passing, numbered-holding, passed-holding}
use Rattle.fifo_xform.specs.Fifo.{FifoState, numbered_by, counted, numbering, gives_nothing, gives, on_timeout, fifo, fifo_sound, fifo_spent}

module _ {M : Type 0} where
  pub length-numbered_by : (ps : Peers M) (ss : List (ℕ × M)) → length (numbered_by ps ss) ≡ length ss
  length-numbered_by ps [] = refl
  length-numbered_by ps (s ∷ ss) = ap suc (length-numbered_by (counting ps s.0) ss)

  below-numbered_by : (nodes : ℕ) (ps : Peers M) (ss : List (ℕ × M)) → AreSentBelow nodes ss → AreSentBelow nodes (numbered_by ps ss)
  below-numbered_by nodes ps [] below = tt
  below-numbered_by nodes ps (s ∷ ss) below = (below.0, below-numbered_by nodes (counting ps s.0) ss below.1)

  pub numbered-counted : (ps : Peers M) (ss : List (ℕ × M)) → numbered_packets (counted ps ss) ≡ numbered_packets ps + length ss
  numbered-counted ps [] = omega arith
  numbered-counted ps (s ∷ ss) = omega (arith, numbered-counting ps s.0, numbered-counted (counting ps s.0) ss)

  pub passed-counted : (ps : Peers M) (ss : List (ℕ × M)) → passed_numbers (counted ps ss) ≡ passed_numbers ps
  passed-counted ps [] = refl
  passed-counted ps (s ∷ ss) = passed-counted (counting ps s.0) ss ∙ passed-counting ps s.0

module _ {H S I O M : Type 0} (meaning : H → Meaning S I O M) (sound : H → ℕ → S → Type 0) (spent : H → S → ℕ) (sends : ℕ) (few_sends : sends ≤ MAX_SENDS) where
  abbrev IsModestFrom : H → ℕ → S → Effect S O M → Type 0
  IsModestFrom h n s e = IsModest (meaning h).nodes sends (sound h n) (spent h) s e

  abbrev IsModestHere : H → ℕ → FifoState S M → Effect (FifoState S M) O (SeqMsg M) → Type 0
  IsModestHere h n s e = IsModest (meaning h).nodes sends (fifo_sound sound h n) (fifo_spent spent h) s e

  -- an event of the handlers within, where at most one number was passed before it
  modest-numbering : (h : H) (n : ℕ) (s : FifoState S M) (ps : Peers M) (e : Effect S O M) → numbered_packets ps ≡ numbered_packets s.peers → passed_numbers ps ≤ passed_numbers s.peers + 1
      → IsModestFrom h n s.inner e → IsModestHere h n s (numbering ps e)
  modest-numbering h n s ps e numbered passed modest = record {
    few = omega (arith, length-numbered_by ps e.sends, modest.few);
    to_nodes = below-numbered_by (meaning h).nodes ps e.sends modest.to_nodes;
    cheap = omega (arith, modest.cheap, modest.few, few_sends, numbered, passed, numbered-counted ps e.sends, passed-counted ps e.sends);
    few_outputs = λ after. omega (arith, modest.few_outputs after);
  }

  modest-gives_nothing : (h : H) (n : ℕ) (s : FifoState S M) (ps : Peers M) → numbered_packets ps ≡ numbered_packets s.peers → passed_numbers ps ≡ passed_numbers s.peers
      → IsModestHere h n s (gives_nothing s.inner ps)
  modest-gives_nothing h n s ps numbered passed = record { few = omega arith; to_nodes = tt; cheap = omega (arith, numbered, passed); few_outputs = λ after. omega arith }

  modest-gives : (h : H) (n : ℕ) (s : FifoState S M) (from : ℕ) (content : M) → IsModestFrom h n s.inner ((meaning h).message n s.inner from content)
      → IsModestHere h n s (gives (meaning h) n s from content)
  modest-gives h n s from content modest =
      modest-numbering h n s (passing s.peers from) ((meaning h).message n s.inner from content) (numbered-passing s.peers from) (omega (arith, passed-passing s.peers from)) modest

  pub fresh : ((h : H) (n : ℕ) → n < (meaning h).nodes → spent h ((meaning h).init n) ≡ 0)
      → (h : H) (n : ℕ) → n < (meaning h).nodes → fifo_spent spent h ((fifo (meaning h)).init n) ≡ 0
  fresh inner h n below = omega (arith, inner h n below)

  pub modest_input : ((h : H) (n : ℕ) (s : S) (i : I) → n < (meaning h).nodes → IsTrue ((meaning h).takes_input n) → sound h n s → IsModestFrom h n s ((meaning h).input n s i))
      → (h : H) (n : ℕ) (s : FifoState S M) (i : I) → n < (meaning h).nodes → IsTrue ((meaning h).takes_input n) → fifo_sound sound h n s
      → IsModestHere h n s ((fifo (meaning h)).input n s i)
  modest_input inner h n s i below takes ok =
      modest-numbering h n s s.peers ((meaning h).input n s.inner i) refl (omega arith) (inner h n s.inner i below takes ok)

  abbrev MessagesAreModest : Type 0
  MessagesAreModest = (h : H) (n : ℕ) (s : S) (from : ℕ) (m : M) → n < (meaning h).nodes → from < (meaning h).nodes → sound h n s → IsModestFrom h n s ((meaning h).message n s from m)

  modest-unless : (h : H) (n : ℕ) (s : FifoState S M) (d e : Effect (FifoState S M) O (SeqMsg M)) (b : Bool) → IsModestHere h n s d → IsModestHere h n s e → IsModestHere h n s (cond b d e)
  modest-unless h n s d e true left right = left
  modest-unless h n s d e false left right = right

  modest-kept : (h : H) (n : ℕ) (s : FifoState S M) (from number : ℕ) (content : M) (b : Bool) → IsModestHere h n s (gives_nothing s.inner (cond b (holding s.peers from number content) s.peers))
  modest-kept h n s from number content true = modest-gives_nothing h n s _ (numbered-holding s.peers from number content) (passed-holding s.peers from number content)
  modest-kept h n s from number content false = modest-gives_nothing h n s _ refl refl

  pub modest_message : MessagesAreModest
      → (h : H) (n : ℕ) (s : FifoState S M) (from : ℕ) (m : SeqMsg M) → n < (meaning h).nodes → from < (meaning h).nodes → fifo_sound sound h n s
      → IsModestHere h n s ((fifo (meaning h)).message n s from m)
  modest_message inner h n s from m below from_below ok =
      modest-unless h n s _ _ (m.number == (peer_of s.peers from).expected)
      (modest-gives h n s from m.inner (inner h n s.inner from m.inner below from_below ok))
      (modest-kept h n s from m.number m.inner (is_early (peer_of s.peers from) m.number))

  pub modest_timeout : ((h : H) (n : ℕ) (s : S) → n < (meaning h).nodes → sound h n s → IsModestFrom h n s ((meaning h).timeout n s)) → MessagesAreModest
      → (h : H) (n : ℕ) (s : FifoState S M) → n < (meaning h).nodes → fifo_sound sound h n s
      → IsModestHere h n s ((fifo (meaning h)).timeout n s)
  modest_timeout timer inner h n s below ok = by-ready (ready (meaning h).nodes s.peers) refl where
    by-ready : (o : Option (ℕ × M)) → ready (meaning h).nodes s.peers ≡ o → IsModestHere h n s (on_timeout (meaning h) n s o)
    by-ready None is = modest-numbering h n s s.peers ((meaning h).timeout n s.inner) refl (omega arith) (timer h n s.inner below ok)
    by-ready (Some held) is =
        modest-gives h n s held.0 held.1 (inner h n s.inner held.0 held.1 below (ready-is (meaning h).nodes s.peers held.0 held.1 is).exists ok)
