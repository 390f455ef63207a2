-- Handlers whose messages are sent again deal in bytes where the handlers within do and leave room for a packet more: what is kept may be
-- sent at any later step, and on at most 1,000,000 steps no number is over 8,000,000.
use Rattle.std.specs.Prelude.{ℕ, suc, ◌+◌, ◌<◌, ◌≤◌, List, [], ◌∷◌, ◌++◌, length}
use Rattle.std.proofs.Common.{arith, length-append}
use Rattle.handler_trait.specs.Handling.{Effect, Meaning}
use Rattle.handler_trait.specs.declared.handlers.TheConstants.{MAX_SENDS}
use Rattle.lists.specs.Each.{Each, each_append}
use Rattle.net_semantics.specs.Runs.{no_recovery}
use Rattle.retry_xform.specs.Keeping.{Kept, Retrying, numbered_from}
use Rattle.retry_xform.specs.KeepingLaws.{each-acknowledged, each-rotated}
use Rattle.retry_xform.specs.Retransmission.{all_as_data, as_data, drop_acknowledged, kept_and_sent, retrying, with_acknowledgement, with_first_resent}
use Rattle.retry_xform.specs.RetransmissionLaws.{length-as_data}
use Rattle.vst_base.specs.declared.retry.RetryMsg.{RetryMsg}
use Rattle.vst_base.specs.declared.retry.RetryMsg.TheVariants as msg
use Rattle.vst_base.specs.declared.step.TheConstants.{MAX_STEPS}
use Rattle.wire_fields.specs.ByteLaws.{length-number_bytes}
use Rattle.wire_fields.specs.Formats.{Format}
use Rattle.wire_messages.specs.PeerBytes.{retried}
use Rattle.wired.specs.Dealing.{AreSent, DealsInBytes, GoesOn, nothing_saved}
use Rattle.wired.specs.Sending.{GoodRetry, HasRetried, MayBeSent, most_number}

module _ {M : Type 0} (Has : ℕ → ℕ → M → Type 0) where
  pub retried_fits : (f : Format M) (longest : ℕ) → ((from to : ℕ) (x : M) → Has from to x → f.Fits x × (length (f.spell x) ≤ longest))
      → (from to : ℕ) (x : RetryMsg M) → HasRetried Has from to x → (retried f).Fits x × (length ((retried f).spell x) ≤ longest + 9)
  retried_fits f longest fits from to (msg.Data number inner) has =
      let within = fits from to inner has.0 in
      let short : length (f.spell inner) ≤ longest = within.1 in
      (((omega arith, omega (arith, has.1)), within.0), simp (length-append, length-number_bytes) (omega arith))
  retried_fits f longest fits from to (msg.Ack number) has = ((omega arith, omega (arith, has)), simp (length-number_bytes) (omega arith))

  data_sent : (nodes n : ℕ) (ks : List (Kept M)) → Each (MayBeSent Has nodes n) ks → AreSent (HasRetried Has) nodes n (all_as_data ks)
  data_sent nodes n [] may = tt
  data_sent nodes n (k ∷ ks) may = ((may.0.exists, (may.0.content, may.0.number)), data_sent nodes n ks may.1)

  sent_and_more : (nodes n : ℕ) (ps : List (ℕ × RetryMsg M)) (p : ℕ × RetryMsg M) → AreSent (HasRetried Has) nodes n ps → p.0 < nodes
      → HasRetried Has n p.0 p.1 → AreSent (HasRetried Has) nodes n (ps ++ p ∷ [])
  sent_and_more nodes n [] p sent exists has = ((exists, has), tt)
  sent_and_more nodes n (q ∷ ps) p sent exists has = (sent.0, sent_and_more nodes n ps p sent.1 exists has)

  kept_of_sent : (nodes n next : ℕ) (ps : List (ℕ × M)) → next + length ps ≤ most_number → AreSent Has nodes n ps
      → Each (MayBeSent Has nodes n) (numbered_from next ps)
  kept_of_sent nodes n next [] few sent = tt
  kept_of_sent nodes n next (p ∷ ps) few sent =
      (record { exists = sent.0.0; content = sent.0.1; number = omega (arith, few) }, kept_of_sent nodes n (next + 1) ps (omega (arith, few)) sent.1)

  module _ {S I O : Type 0} (IsInput : I → Type 0) (m : Meaning S I O M) (Good : ℕ → ℕ → S → Type 0) {most : ℕ}
      (deals : DealsInBytes Has most nothing_saved IsInput m (no_recovery {S = S}) Good) (leaves_room : most < MAX_SENDS) where
    abbrev MayBe : ℕ → Kept M → Type 0
    MayBe n k = MayBeSent Has m.nodes n k

    abbrev IsGood : ℕ → ℕ → Retrying S M → Type 0
    IsGood t n s = GoodRetry Has m.nodes Good t n s

    abbrev Goes : ℕ → ℕ → ℕ → Effect (Retrying S M) O (RetryMsg M) → Type 0
    Goes sends t n e = GoesOn (HasRetried Has) sends m.nodes (IsGood (suc t) n) n e

    goes_kept : (t n : ℕ) (s : Retrying S M) (e : Effect S O M) → t < MAX_STEPS → IsGood t n s → GoesOn Has most m.nodes (Good (suc t) n) n e
        → Goes most t n (kept_and_sent s e)
    goes_kept t n s e few good goes =
        let new = kept_of_sent m.nodes n s.next e.sends (omega (arith, few, good.numbers, goes.few, leaves_room)) goes.sends in
        record {
          state = record {
            within = goes.state;
            numbers = omega (arith, good.numbers, goes.few, leaves_room);
            kept = each_append (MayBe n) s.kept (numbered_from s.next e.sends) good.kept new;
          };
          few = omega (arith, length-as_data s.next e.sends, goes.few);
          sends = data_sent m.nodes n (numbered_from s.next e.sends) new;
        }

    goes_one_more : (t n : ℕ) (e : Effect (Retrying S M) O (RetryMsg M)) → Goes most t n e → Goes (most + 1) t n e
    goes_one_more t n e goes = record { state = goes.state; few = omega (arith, goes.few); sends = goes.sends }

    goes_acknowledged : (t n from number : ℕ) (e : Effect (Retrying S M) O (RetryMsg M)) → from < m.nodes → number ≤ most_number → Goes most t n e
        → Goes (most + 1) t n (with_acknowledgement from number e)
    goes_acknowledged t n from number e from_below small goes =
        let ack : ℕ × RetryMsg M = (from, msg.Ack number) in
        record {
          state = goes.state;
          few = omega (arith, length-append e.sends (ack ∷ []), goes.few);
          sends = sent_and_more m.nodes n e.sends ack goes.sends from_below small;
        }

    goes_resent : (t n : ℕ) (ks : List (Kept M)) (e : Effect (Retrying S M) O (RetryMsg M)) → Each (MayBe n) ks → Goes most t n e
        → Goes (most + 1) t n (with_first_resent ks e)
    goes_resent t n [] e may goes = goes_one_more t n e goes
    goes_resent t n (k ∷ ks) e may goes = record {
      state = record { within = goes.state.within; numbers = goes.state.numbers; kept = each-rotated (MayBe n) e.state.kept goes.state.kept };
      few = omega (arith, length-append e.sends (as_data k ∷ []), goes.few);
      sends = sent_and_more m.nodes n e.sends (as_data k) goes.sends may.0.exists (may.0.content, may.0.number);
    }

    goes_dropped : (t n : ℕ) (s : Retrying S M) (from number : ℕ) → IsGood t n s → Goes (most + 1) t n (drop_acknowledged from number s)
    goes_dropped t n s from number good = record {
      state = record {
        within = deals.later t n s.inner good.within;
        numbers = omega (arith, good.numbers);
        kept = each-acknowledged (MayBe n) from number s.kept good.kept;
      };
      few = omega arith;
      sends = tt;
    }

    goes_message : (t n : ℕ) (s : Retrying S M) (from : ℕ) (x : RetryMsg M) → t < MAX_STEPS → n < m.nodes → from < m.nodes → HasRetried Has from n x
        → IsGood t n s → Goes (most + 1) t n ((retrying m).message n s from x)
    goes_message t n s from (msg.Data number inner) few below from_below has good =
        goes_acknowledged t n from number _ from_below has.1
        (goes_kept t n s (m.message n s.inner from inner) few good (deals.message t n s.inner from inner few below from_below has.0 good.within))
    goes_message t n s from (msg.Ack number) few below from_below has good = goes_dropped t n s from number good

    pub retry_deals : DealsInBytes (HasRetried Has) (most + 1) nothing_saved IsInput (retrying m) (no_recovery {S = Retrying S M})
        (GoodRetry Has m.nodes Good)
    retry_deals = record {
      init = λ n below. record { within = deals.init n below; numbers = omega arith; kept = tt };
      later = λ t n s good. record { within = deals.later t n s.inner good.within; numbers = omega (arith, good.numbers); kept = good.kept };
      input = λ t n s i few below takes is good.
          goes_one_more t n _ (goes_kept t n s (m.input n s.inner i) few good (deals.input t n s.inner i few below takes is good.within));
      message = λ t n s from x few below from_below has good. goes_message t n s from x few below from_below has good;
      timeout = λ t n s few below good.
          goes_resent t n s.kept _ good.kept (goes_kept t n s (m.timeout n s.inner) few good (deals.timeout t n s.inner few below good.within));
      keep = λ t n s below good. tt;
      reboot = λ t n s below good. good;
    }
