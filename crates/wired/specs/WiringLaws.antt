-- Handlers whose packets are bytes send as many packets as the handlers within, to the same nodes, and use up as much.
use Rattle.std.specs.Prelude.{◌≡◌, ℕ, ◌<◌, List, [], ◌∷◌, length, Option, None, Some, refl, IsTrue}
use Rattle.std.proofs.Common.{ap, arith, suc}
use Rattle.handler_trait.specs.Handling.{AreSentBelow, Effect, IsModest, Meaning}
use Rattle.vst_base.specs.declared.stack.StackId.{StackId}
use Rattle.wire_fields.specs.Formats.{Format}
use Rattle.wired.specs.Wiring.{Named, after_message, heard, in_bytes, sent, wired}

module _ {M : Type 0} (f : Format M) (stack : StackId) (name : List ℕ) (n : ℕ) where
  length_sent : (ps : List (ℕ × M)) → length (sent f stack name n ps) ≡ length ps
  length_sent [] = refl
  length_sent (p ∷ ps) = ap suc (length_sent ps)

  below_sent : (nodes : ℕ) (ps : List (ℕ × M)) → AreSentBelow nodes ps → AreSentBelow nodes (sent f stack name n ps)
  below_sent nodes [] below = tt
  below_sent nodes (p ∷ ps) below = (below.0, below_sent nodes ps below.1)

module _ {H S I O M : Type 0} (meaning : H → Meaning S I O M) (spent : H → S → ℕ) where
  pub fresh : ((h : H) (n : ℕ) → n < (meaning h).nodes → spent h ((meaning h).init n) ≡ 0)
      → (w : Named H) (n : ℕ) → n < (meaning w.inner).nodes → spent w.inner ((meaning w.inner).init n) ≡ 0
  fresh inner w n below = inner w.inner n below

module _ {H S I O M : Type 0} (f : Format M) (meaning : H → Meaning S I O M) (sound : H → ℕ → S → Type 0) (spent : H → S → ℕ) (sends : ℕ) where
  abbrev IsModestWithin : H → ℕ → S → Effect S O M → Type 0
  IsModestWithin h n s e = IsModest (meaning h).nodes sends (sound h n) (spent h) s e

  abbrev IsModestWired : Named H → ℕ → S → Effect S O (List ℕ) → Type 0
  IsModestWired w n s e = IsModest (meaning w.inner).nodes sends (sound w.inner n) (spent w.inner) s e

  modest_in_bytes : (w : Named H) (n : ℕ) (s : S) (e : Effect S O M) → IsModestWithin w.inner n s e → IsModestWired w n s (in_bytes f w.stack w.name n e)
  modest_in_bytes w n s e modest = record {
    few = omega (arith, length_sent f w.stack w.name n e.sends, modest.few);
    to_nodes = below_sent f w.stack w.name n (meaning w.inner).nodes e.sends modest.to_nodes;
    cheap = modest.cheap;
    few_outputs = modest.few_outputs;
  }

  pub modest_input : ((h : H) (n : ℕ) (s : S) (i : I) → n < (meaning h).nodes → IsTrue ((meaning h).takes_input n) → sound h n s → IsModestWithin h n s ((meaning h).input n s i))
      → (w : Named H) (n : ℕ) (s : S) (i : I) → n < (meaning w.inner).nodes → IsTrue ((meaning w.inner).takes_input n) → sound w.inner n s
      → IsModestWired w n s ((wired f w.stack w.name (meaning w.inner)).input n s i)
  modest_input inner w n s i below takes ok = modest_in_bytes w n s ((meaning w.inner).input n s i) (inner w.inner n s i below takes ok)

  modest_after : ((h : H) (n : ℕ) (s : S) (from : ℕ) (m : M) → n < (meaning h).nodes → from < (meaning h).nodes → sound h n s → IsModestWithin h n s ((meaning h).message n s from m))
      → (w : Named H) (n : ℕ) (s : S) (from : ℕ) (o : Option M) → n < (meaning w.inner).nodes → from < (meaning w.inner).nodes → sound w.inner n s
      → IsModestWithin w.inner n s (after_message (meaning w.inner) n s from o)
  modest_after inner w n s from None below from_below ok = record { few = omega arith; to_nodes = tt; cheap = omega arith; few_outputs = λ after. omega arith }
  modest_after inner w n s from (Some m) below from_below ok = inner w.inner n s from m below from_below ok

  pub modest_message : ((h : H) (n : ℕ) (s : S) (from : ℕ) (m : M) → n < (meaning h).nodes → from < (meaning h).nodes → sound h n s → IsModestWithin h n s ((meaning h).message n s from m))
      → (w : Named H) (n : ℕ) (s : S) (from : ℕ) (bytes : List ℕ) → n < (meaning w.inner).nodes → from < (meaning w.inner).nodes → sound w.inner n s
      → IsModestWired w n s ((wired f w.stack w.name (meaning w.inner)).message n s from bytes)
  modest_message inner w n s from bytes below from_below ok =
      modest_in_bytes w n s _ (modest_after inner w n s from (heard f w.stack w.name from n bytes) below from_below ok)

  pub modest_timeout : ((h : H) (n : ℕ) (s : S) → n < (meaning h).nodes → sound h n s → IsModestWithin h n s ((meaning h).timeout n s))
      → (w : Named H) (n : ℕ) (s : S) → n < (meaning w.inner).nodes → sound w.inner n s
      → IsModestWired w n s ((wired f w.stack w.name (meaning w.inner)).timeout n s)
  modest_timeout inner w n s below ok = modest_in_bytes w n s ((meaning w.inner).timeout n s) (inner w.inner n s below ok)
