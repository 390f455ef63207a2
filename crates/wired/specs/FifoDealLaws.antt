-- Handlers whose messages come in order deal in bytes where the handlers within do: what is held back and given later was sent to them,
-- and on at most 1,000,000 steps no number is over 8,000,000.
use Rattle.std.specs.Prelude.{◌≡◌, ℕ, suc, ◌+◌, ◌*◌, ◌<◌, ◌≤◌, ◌==◌, Bool, true, false, List, [], ◌∷◌, length, Option, None, Some, cond, refl}
use Rattle.std.specs.FinMap as map
use Rattle.std.specs.FinMap.{get-empty}
use Rattle.std.specs.Ordering.{nat_cmp}
use Rattle.std.proofs.Common.{ap, arith, sym, subst, ◌∙◌, inl, inr}
use Rattle.std.proofs.lemmas.Option.{none-some}
use Rattle.fifo_xform.proofs.PeerFacts.{held-counting, held-holding, held-passing}
use Rattle.fifo_xform.specs.Fifo.{FifoState, counted, fifo, gives, gives_nothing, numbered_by, numbering, on_timeout}
use Rattle.fifo_xform.specs.FifoLaws.{length-numbered_by, numbered-counted}
use Rattle.fifo_xform.specs.Peers.{Peers, counting, holding, is_early, numbered_packets, passing, peer_of, ready}
use Rattle.fifo_xform.specs.PeersLaws.{next-most, numbered-counting, numbered-holding, numbered-passing, ready-is}
use Rattle.handler_trait.specs.Handling.{Effect, Meaning}
use Rattle.handler_trait.specs.declared.handlers.TheConstants.{MAX_SENDS}
use Rattle.net_semantics.specs.Runs.{no_recovery}
use Rattle.vst_base.specs.declared.seq.SeqMsg.{SeqMsg}
use Rattle.vst_base.specs.declared.step.TheConstants.{MAX_STEPS}
use Rattle.wired.specs.Dealing.{AreSent, DealsInBytes, GoesOn, nothing_saved}
use Rattle.wired.specs.Sending.{GoodFifo, HasNumbered, HeldKeepTo, most_number}

module _ {M : Type 0} (Has : ℕ → ℕ → M → Type 0) where
  sent_in_order : (nodes n : ℕ) (ps : Peers M) (ss : List (ℕ × M)) → numbered_packets ps + length ss ≤ most_number → AreSent Has nodes n ss
      → AreSent (HasNumbered Has) nodes n (numbered_by ps ss)
  sent_in_order nodes n ps [] few sent = tt
  sent_in_order nodes n ps (s ∷ ss) few sent =
      let rest = sent_in_order nodes n (counting ps s.0) ss (omega (arith, few, numbered-counting ps s.0)) sent.1 in
      ((sent.0.0, (sent.0.1, omega (arith, few, next-most ps s.0))), rest)

  module _ (n : ℕ) where
    held_counted : (ps : Peers M) (ss : List (ℕ × M)) → HeldKeepTo Has n ps → HeldKeepTo Has n (counted ps ss)
    held_counted ps [] held = held
    held_counted ps (s ∷ ss) held =
        held_counted (counting ps s.0) ss
        (λ from number content e. held from number content (ap (λ h. map.get h number) (sym (held-counting ps s.0 from)) ∙ e))

    held_passed : (ps : Peers M) (sender : ℕ) → HeldKeepTo Has n ps → HeldKeepTo Has n (passing ps sender)
    held_passed ps sender held from number content e = held from number content (held-passing ps sender from number content e)

    held_more : (ps : Peers M) (sender number : ℕ) (content : M) → Has sender n content → HeldKeepTo Has n ps
        → HeldKeepTo Has n (holding ps sender number content)
    held_more ps sender number content has held from k c e = elim (held-holding ps sender from number content k c e) [
      | inl old ↦ held from k c old
      | inr new ↦ subst (λ j. Has j n c) (sym new.0) (subst (λ d. Has sender n d) new.2 has)
    ]

  module _ {S I O : Type 0} (IsInput : I → Type 0) (m : Meaning S I O M) (Good : ℕ → ℕ → S → Type 0) {most : ℕ}
      (deals : DealsInBytes Has most nothing_saved IsInput m (no_recovery {S = S}) Good) (few_sends : most ≤ MAX_SENDS) where
    abbrev IsGood : ℕ → ℕ → FifoState S M → Type 0
    IsGood t n s = GoodFifo Has Good t n s

    abbrev Goes : ℕ → ℕ → Effect (FifoState S M) O (SeqMsg M) → Type 0
    Goes t n e = GoesOn (HasNumbered Has) most m.nodes (IsGood (suc t) n) n e

    goes_numbering : (t n : ℕ) (ps : Peers M) (e : Effect S O M) → t < MAX_STEPS → numbered_packets ps ≤ 8 * t → HeldKeepTo Has n ps
        → GoesOn Has most m.nodes (Good (suc t) n) n e → Goes t n (numbering ps e)
    goes_numbering t n ps e few numbers held goes = record {
      state = record {
        within = goes.state;
        numbers = omega (arith, numbers, goes.few, few_sends, numbered-counted ps e.sends);
        held = held_counted n ps e.sends held;
      };
      few = omega (arith, length-numbered_by ps e.sends, goes.few);
      sends = sent_in_order m.nodes n ps e.sends (omega (arith, few, numbers, goes.few, few_sends)) goes.sends;
    }

    goes_given : (t n : ℕ) (s : FifoState S M) (from : ℕ) (content : M) → t < MAX_STEPS → n < m.nodes → from < m.nodes → Has from n content
        → IsGood t n s → Goes t n (gives m n s from content)
    goes_given t n s from content few below from_below has good =
        goes_numbering t n (passing s.peers from) (m.message n s.inner from content) few
        (omega (arith, good.numbers, numbered-passing s.peers from)) (held_passed n s.peers from good.held)
        (deals.message t n s.inner from content few below from_below has good.within)

    goes_nowhere : (t n : ℕ) (s : FifoState S M) (ps : Peers M) → numbered_packets ps ≡ numbered_packets s.peers → HeldKeepTo Has n ps
        → IsGood t n s → Goes t n (gives_nothing s.inner ps)
    goes_nowhere t n s ps same held good = record {
      state = record { within = deals.later t n s.inner good.within; numbers = omega (arith, good.numbers, same); held = held };
      few = omega arith;
      sends = tt;
    }

    goes_held : (t n : ℕ) (s : FifoState S M) (from number : ℕ) (content : M) (b : Bool) → Has from n content → IsGood t n s
        → Goes t n (gives_nothing s.inner (cond b (holding s.peers from number content) s.peers))
    goes_held t n s from number content true has good =
        goes_nowhere t n s _ (numbered-holding s.peers from number content) (held_more n s.peers from number content has good.held) good
    goes_held t n s from number content false has good = goes_nowhere t n s s.peers refl good.held good

    goes_unless : (t n : ℕ) (b : Bool) (e d : Effect (FifoState S M) O (SeqMsg M)) → Goes t n e → Goes t n d → Goes t n (cond b e d)
    goes_unless t n true e d first second = first
    goes_unless t n false e d first second = second

    goes_ready : (t n : ℕ) (s : FifoState S M) (o : Option (ℕ × M)) → ready m.nodes s.peers ≡ o → t < MAX_STEPS → n < m.nodes → IsGood t n s
        → Goes t n (on_timeout m n s o)
    goes_ready t n s None is few below good =
        goes_numbering t n s.peers (m.timeout n s.inner) few good.numbers good.held (deals.timeout t n s.inner few below good.within)
    goes_ready t n s (Some (from, content)) is few below good =
        let there = ready-is m.nodes s.peers from content is in
        goes_given t n s from content few below there.exists (good.held from (peer_of s.peers from).expected content there.held) good

    pub fifo_deals : DealsInBytes (HasNumbered Has) most nothing_saved IsInput (fifo m) (no_recovery {S = FifoState S M}) (GoodFifo Has Good)
    fifo_deals = record {
      init = λ n below. record {
        within = deals.init n below;
        numbers = omega arith;
        held = λ from number content e. absurd (none-some content (sym (get-empty nat_cmp number) ∙ e));
      };
      later = λ t n s good. record {
        within = deals.later t n s.inner good.within;
        numbers = omega (arith, good.numbers);
        held = good.held;
      };
      input = λ t n s i few below takes is good.
          goes_numbering t n s.peers (m.input n s.inner i) few good.numbers good.held
          (deals.input t n s.inner i few below takes is good.within);
      message = λ t n s from x few below from_below has good.
          goes_unless t n (x.number == (peer_of s.peers from).expected) _ _
          (goes_given t n s from x.inner few below from_below has.0 good)
          (goes_held t n s from x.number x.inner (is_early (peer_of s.peers from) x.number) has.0 good);
      timeout = λ t n s few below good. goes_ready t n s (ready m.nodes s.peers) refl few below good;
      keep = λ t n s below good. tt;
      reboot = λ t n s below good. good;
    }
