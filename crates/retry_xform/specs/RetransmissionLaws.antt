-- Retrying handlers send one packet more than the handlers within, to nodes that exist, and use up as many numbers.
use Rattle.std.specs.Prelude.{◌≡◌, ℕ, ◌+◌, ◌<◌, ◌≤◌, List, [], ◌∷◌, ◌++◌, length, refl, IsTrue}
use Rattle.std.proofs.Common.{ap, arith, suc, length-append}
use Rattle.handler_trait.specs.Handling.{Meaning, Effect, IsModest, AreSentBelow}
use Rattle.handler_trait.specs.declared.handlers.TheConstants.{MAX_SENDS}
use Rattle.vst_base.specs.declared.retry.RetryMsg.{RetryMsg}
use Rattle.vst_base.specs.declared.retry.RetryMsg.TheVariants as msg
use Rattle.retry_xform.specs.Keeping.{Kept, Retrying, ArePending, numbered_from}
use Rattle.retry_xform.specs.Retransmission.{as_data, all_as_data, kept_and_sent, with_acknowledgement, with_first_resent, drop_acknowledged, retrying, retrying_sound, retrying_spent}

-- one packet more is not too many
pub few_sends : {sends : ℕ} → sends < MAX_SENDS → sends + 1 ≤ MAX_SENDS
few_sends less = omega (arith, less)

module _ {M : Type 0} where
  pub length-as_data : (n : ℕ) (ps : List (ℕ × M)) → length (all_as_data (numbered_from n ps)) ≡ length ps
  length-as_data n [] = refl
  length-as_data n (p ∷ ps) = ap suc (length-as_data (n + 1) ps)

  below-as_data : (nodes n : ℕ) (ps : List (ℕ × M)) → AreSentBelow nodes ps → AreSentBelow nodes (all_as_data (numbered_from n ps))
  below-as_data nodes n [] below = tt
  below-as_data nodes n (p ∷ ps) below = (below.0, below-as_data nodes (n + 1) ps below.1)

  below-one_more : (nodes : ℕ) (ps : List (ℕ × RetryMsg M)) (p : ℕ × RetryMsg M) → AreSentBelow nodes ps → p.0 < nodes → AreSentBelow nodes (ps ++ p ∷ [])
  below-one_more nodes [] p below last = (last, tt)
  below-one_more nodes (q ∷ ps) p below last = (below.0, below-one_more nodes ps p below.1 last)

module _ {H S I O M : Type 0} (meaning : H → Meaning S I O M) (sound : H → ℕ → S → Type 0) (spent : H → S → ℕ) (sends : ℕ) (leaves_room : sends < MAX_SENDS) where
  abbrev IsModestFrom : H → ℕ → S → Effect S O M → Type 0
  IsModestFrom h n s e = IsModest (meaning h).nodes sends (sound h n) (spent h) s e

  abbrev IsModestWithin : ℕ → H → ℕ → Retrying S M → Effect (Retrying S M) O (RetryMsg M) → Type 0
  IsModestWithin most h n s e = IsModest (meaning h).nodes most (retrying_sound meaning sound h n) (retrying_spent spent h) s e

  modest-kept : (h : H) (n : ℕ) (s : Retrying S M) (e : Effect S O M) → IsModestFrom h n s.inner e → IsModestWithin sends h n s (kept_and_sent s e)
  modest-kept h n s e modest = record {
    few = omega (arith, length-as_data s.next e.sends, modest.few);
    to_nodes = below-as_data (meaning h).nodes s.next e.sends modest.to_nodes;
    cheap = omega (arith, modest.cheap, modest.few, leaves_room);
    few_outputs = λ after. omega (arith, modest.few_outputs after.inner);
  }

  modest-more : (h : H) (n : ℕ) (s : Retrying S M) (e : Effect (Retrying S M) O (RetryMsg M)) → IsModestWithin sends h n s e → IsModestWithin (sends + 1) h n s e
  modest-more h n s e modest = record { few = omega (arith, modest.few); to_nodes = modest.to_nodes; cheap = modest.cheap; few_outputs = modest.few_outputs }

  modest-acknowledged : (h : H) (n : ℕ) (s : Retrying S M) (from number : ℕ) (e : Effect (Retrying S M) O (RetryMsg M)) → from < (meaning h).nodes → IsModestWithin sends h n s e
      → IsModestWithin (sends + 1) h n s (with_acknowledgement from number e)
  modest-acknowledged h n s from number e below modest =
      let ack : ℕ × RetryMsg M = (from, msg.Ack number) in
      record {
        few = omega (arith, length-append e.sends (ack ∷ []), modest.few);
        to_nodes = below-one_more (meaning h).nodes e.sends ack modest.to_nodes below;
        cheap = modest.cheap;
        few_outputs = modest.few_outputs;
      }

  modest-resent : (h : H) (n : ℕ) (s : Retrying S M) (ks : List (Kept M)) (e : Effect S O M) → ArePending s.next (meaning h).nodes ks → IsModestFrom h n s.inner e
      → IsModestWithin (sends + 1) h n s (with_first_resent ks (kept_and_sent s e))
  modest-resent h n s [] e pending modest = modest-more h n s (kept_and_sent s e) (modest-kept h n s e modest)
  modest-resent h n s (k ∷ ks) e pending modest =
      let base = modest-kept h n s e modest in
      let plain = (kept_and_sent s e).sends in
      record {
        few = omega (arith, length-append plain (as_data k ∷ []), base.few);
        to_nodes = below-one_more (meaning h).nodes plain (as_data k) base.to_nodes pending.0.destination;
        cheap = base.cheap;
        few_outputs = λ after. omega (arith, modest.few_outputs after.inner);
      }

  modest-dropped : (h : H) (n : ℕ) (s : Retrying S M) (from number : ℕ) → IsModestWithin (sends + 1) h n s (drop_acknowledged from number s)
  modest-dropped h n s from number = record { few = omega arith; to_nodes = tt; cheap = omega arith; few_outputs = λ after. omega arith }

  pub fresh : ((h : H) (n : ℕ) → n < (meaning h).nodes → spent h ((meaning h).init n) ≡ 0)
      → (h : H) (n : ℕ) → n < (meaning h).nodes → retrying_spent spent h ((retrying (meaning h)).init n) ≡ 0
  fresh inner h n below = omega (arith, inner h n below)

  pub modest_input : ((h : H) (n : ℕ) (s : S) (i : I) → n < (meaning h).nodes → IsTrue ((meaning h).takes_input n) → sound h n s → IsModestFrom h n s ((meaning h).input n s i))
      → (h : H) (n : ℕ) (s : Retrying S M) (i : I) → n < (meaning h).nodes → IsTrue ((meaning h).takes_input n) → retrying_sound meaning sound h n s
      → IsModestWithin (sends + 1) h n s ((retrying (meaning h)).input n s i)
  modest_input inner h n s i below takes ok = modest-more h n s _ (modest-kept h n s ((meaning h).input n s.inner i) (inner h n s.inner i below takes ok.inner))

  pub modest_message : ((h : H) (n : ℕ) (s : S) (from : ℕ) (m : M) → n < (meaning h).nodes → from < (meaning h).nodes → sound h n s → IsModestFrom h n s ((meaning h).message n s from m))
      → (h : H) (n : ℕ) (s : Retrying S M) (from : ℕ) (m : RetryMsg M) → n < (meaning h).nodes → from < (meaning h).nodes → retrying_sound meaning sound h n s
      → IsModestWithin (sends + 1) h n s ((retrying (meaning h)).message n s from m)
  modest_message inner h n s from (msg.Data number x) below from_below ok =
      modest-acknowledged h n s from number _ from_below (modest-kept h n s ((meaning h).message n s.inner from x) (inner h n s.inner from x below from_below ok.inner))
  modest_message inner h n s from (msg.Ack number) below from_below ok = modest-dropped h n s from number

  pub modest_timeout : ((h : H) (n : ℕ) (s : S) → n < (meaning h).nodes → sound h n s → IsModestFrom h n s ((meaning h).timeout n s))
      → (h : H) (n : ℕ) (s : Retrying S M) → n < (meaning h).nodes → retrying_sound meaning sound h n s
      → IsModestWithin (sends + 1) h n s ((retrying (meaning h)).timeout n s)
  modest_timeout inner h n s below ok = modest-resent h n s s.kept ((meaning h).timeout n s.inner) ok.pending (inner h n s.inner below ok.inner)
