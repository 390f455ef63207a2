-- Handlers whose packets are numbered deal in bytes where the handlers within do: on at most 1,000,000 steps no number is over 8,000,000.
use Rattle.std.specs.Prelude.{ℕ, suc, ◌+◌, ◌*◌, ◌<◌, ◌≤◌, Bool, true, false, List, [], ◌∷◌, length, cond}
use Rattle.std.proofs.Common.{arith, length-append}
use Rattle.handler_trait.specs.Handling.{Effect, Meaning}
use Rattle.handler_trait.specs.declared.handlers.TheConstants.{MAX_SENDS}
use Rattle.net_semantics.specs.Runs.{no_recovery}
use Rattle.seqnum_xform.specs.Numbering.{Numbered, Seen, has_seen, with_seen, nothing, numbered, numbered_from, sequence_numbered}
use Rattle.seqnum_xform.specs.NumberingLaws.{length-numbered_from}
use Rattle.vst_base.specs.declared.seq.SeqMsg.{SeqMsg}
use Rattle.vst_base.specs.declared.step.TheConstants.{MAX_STEPS}
use Rattle.wire_fields.specs.ByteLaws.{length-number_bytes}
use Rattle.wire_fields.specs.Formats.{Format}
use Rattle.wire_messages.specs.PeerBytes.{numbered as numbered_format}
use Rattle.wired.specs.Dealing.{AreSent, DealsInBytes, GoesOn, nothing_saved}
use Rattle.wired.specs.Sending.{GoodNumbered, HasNumbered, most_number}

module _ {M : Type 0} (Has : ℕ → ℕ → M → Type 0) where
  pub numbered_fits : (f : Format M) (longest : ℕ) → ((from to : ℕ) (x : M) → Has from to x → f.Fits x × (length (f.spell x) ≤ longest))
      → (from to : ℕ) (x : SeqMsg M) → HasNumbered Has from to x
      → (numbered_format f).Fits x × (length ((numbered_format f).spell x) ≤ longest + 8)
  numbered_fits f longest fits from to x has =
      let inner = fits from to x.inner has.0 in
      let short : length (f.spell x.inner) ≤ longest = inner.1 in
      (((omega arith, omega (arith, has.1)), inner.0), simp (length-append, length-number_bytes) (omega arith))

  sent_numbered : (nodes n next : ℕ) (ps : List (ℕ × M)) → next + length ps ≤ most_number → AreSent Has nodes n ps
      → AreSent (HasNumbered Has) nodes n (numbered_from next ps)
  sent_numbered nodes n next [] few sent = tt
  sent_numbered nodes n next (p ∷ ps) few sent =
      ((sent.0.0, (sent.0.1, omega (arith, few))), sent_numbered nodes n (next + 1) ps (omega (arith, few)) sent.1)

  module _ {S I O : Type 0} (IsInput : I → Type 0) (m : Meaning S I O M) (Good : ℕ → ℕ → S → Type 0) {most : ℕ}
      (deals : DealsInBytes Has most nothing_saved IsInput m (no_recovery {S = S}) Good) (few_sends : most ≤ MAX_SENDS) where
    goes_numbered : (t n : ℕ) (s : Numbered S) (seen : Seen) (e : Effect S O M) → t < MAX_STEPS → s.next ≤ 8 * t
        → GoesOn Has most m.nodes (Good (suc t) n) n e
        → GoesOn (HasNumbered Has) most m.nodes (GoodNumbered Good (suc t) n) n (numbered s.next seen e)
    goes_numbered t n s seen e few next goes = record {
      state = (goes.state, omega (arith, next, goes.few, few_sends));
      few = omega (arith, length-numbered_from s.next e.sends, goes.few);
      sends = sent_numbered m.nodes n s.next e.sends (omega (arith, few, next, goes.few, few_sends)) goes.sends;
    }

    goes_nowhere : (t n : ℕ) (s : Numbered S) → GoodNumbered Good t n s
        → GoesOn (HasNumbered Has) most m.nodes (GoodNumbered Good (suc t) n) n (nothing {O = O} s)
    goes_nowhere t n s good = record { state = (deals.later t n s.inner good.0, omega (arith, good.1)); few = omega arith; sends = tt }

    goes_unless : (t n : ℕ) (b : Bool) (s : Numbered S) (e : Effect (Numbered S) O (SeqMsg M)) → GoodNumbered Good t n s
        → GoesOn (HasNumbered Has) most m.nodes (GoodNumbered Good (suc t) n) n e
        → GoesOn (HasNumbered Has) most m.nodes (GoodNumbered Good (suc t) n) n (cond b (nothing s) e)
    goes_unless t n true s e good goes = goes_nowhere t n s good
    goes_unless t n false s e good goes = goes

    pub numbered_deals : DealsInBytes (HasNumbered Has) most nothing_saved IsInput (sequence_numbered m) (no_recovery {S = Numbered S})
        (GoodNumbered Good)
    numbered_deals = record {
      init = λ n below. (deals.init n below, omega arith);
      later = λ t n s good. (deals.later t n s.inner good.0, omega (arith, good.1));
      input = λ t n s i few below takes is good. goes_numbered t n s s.seen (m.input n s.inner i) few good.1
          (deals.input t n s.inner i few below takes is good.0);
      message = λ t n s from x few below from_below has good.
          goes_unless t n (has_seen s.seen from x.number) s _ good
          (goes_numbered t n s (with_seen s.seen from x.number) (m.message n s.inner from x.inner) few good.1 (deals.message t n s.inner from x.inner few below from_below has.0 good.0));
      timeout = λ t n s few below good. goes_numbered t n s s.seen (m.timeout n s.inner) few good.1
          (deals.timeout t n s.inner few below good.0);
      keep = λ t n s below good. tt;
      reboot = λ t n s below good. good;
    }
