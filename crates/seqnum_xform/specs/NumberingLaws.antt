-- Numbered handlers send as many packets as the handlers within, to the same nodes, and use up as many numbers.
use Rattle.std.specs.Prelude.{◌≡◌, ℕ, ◌+◌, ◌<◌, ◌≤◌, Bool, true, false, List, [], ◌∷◌, length, cond, refl, IsTrue}
use Rattle.std.proofs.Common.{ap, arith, suc}
use Rattle.handler_trait.specs.Handling.{Meaning, Effect, IsModest, AreSentBelow}
use Rattle.handler_trait.specs.declared.handlers.TheConstants.{MAX_SENDS}
use Rattle.vst_base.specs.declared.seq.SeqMsg.{SeqMsg}
use Rattle.seqnum_xform.specs.Numbering.{Numbered, Seen, has_seen, numbered_from, numbered, nothing, sequence_numbered, numbered_sound, numbered_spent}

pub length-numbered_from : {M : Type 0} (n : ℕ) (ps : List (ℕ × M)) → length (numbered_from n ps) ≡ length ps
length-numbered_from n [] = refl
length-numbered_from n (p ∷ ps) = ap suc (length-numbered_from (n + 1) ps)

below-numbered_from : {M : Type 0} (nodes n : ℕ) (ps : List (ℕ × M)) → AreSentBelow nodes ps → AreSentBelow nodes (numbered_from n ps)
below-numbered_from nodes n [] below = tt
below-numbered_from nodes n (p ∷ ps) below = (below.0, below-numbered_from nodes (n + 1) ps below.1)

module _ {H S I O M : Type 0} (meaning : H → Meaning S I O M) (sound : H → ℕ → S → Type 0) (spent : H → S → ℕ) (sends : ℕ) (few_sends : sends ≤ MAX_SENDS) where
  abbrev IsModestFrom : H → ℕ → S → Effect S O M → Type 0
  IsModestFrom h n s e = IsModest (meaning h).nodes sends (sound h n) (spent h) s e

  abbrev IsModestNumbered : H → ℕ → Numbered S → Effect (Numbered S) O (SeqMsg M) → Type 0
  IsModestNumbered h n s e = IsModest (meaning h).nodes sends (numbered_sound sound h n) (numbered_spent spent h) s e

  modest-numbered : (h : H) (n : ℕ) (s : Numbered S) (seen : Seen) (e : Effect S O M) → IsModestFrom h n s.inner e → IsModestNumbered h n s (numbered s.next seen e)
  modest-numbered h n s seen e modest = record {
    few = omega (arith, length-numbered_from s.next e.sends, modest.few);
    to_nodes = below-numbered_from (meaning h).nodes s.next e.sends modest.to_nodes;
    cheap = omega (arith, modest.cheap, modest.few, few_sends);
    few_outputs = λ after. omega (arith, modest.few_outputs after);
  }

  modest-nothing : (h : H) (n : ℕ) (s : Numbered S) → IsModestNumbered h n s (nothing s)
  modest-nothing h n s = record { few = omega arith; to_nodes = tt; cheap = omega arith; few_outputs = λ after. omega arith }

  pub fresh : ((h : H) (n : ℕ) → n < (meaning h).nodes → spent h ((meaning h).init n) ≡ 0)
      → (h : H) (n : ℕ) → n < (meaning h).nodes → numbered_spent spent h ((sequence_numbered (meaning h)).init n) ≡ 0
  fresh inner h n below = omega (arith, inner h n below)

  pub modest_input : ((h : H) (n : ℕ) (s : S) (i : I) → n < (meaning h).nodes → IsTrue ((meaning h).takes_input n) → sound h n s → IsModestFrom h n s ((meaning h).input n s i))
      → (h : H) (n : ℕ) (s : Numbered S) (i : I) → n < (meaning h).nodes → IsTrue ((meaning h).takes_input n) → numbered_sound sound h n s
      → IsModestNumbered h n s ((sequence_numbered (meaning h)).input n s i)
  modest_input inner h n s i below takes ok = modest-numbered h n s s.seen ((meaning h).input n s.inner i) (inner h n s.inner i below takes ok)

  modest-unless : (h : H) (n : ℕ) (s : Numbered S) (e : Effect (Numbered S) O (SeqMsg M)) (b : Bool) → IsModestNumbered h n s e → IsModestNumbered h n s (cond b (nothing s) e)
  modest-unless h n s e true modest = modest-nothing h n s
  modest-unless h n s e false modest = modest

  pub modest_message : ((h : H) (n : ℕ) (s : S) (from : ℕ) (m : M) → n < (meaning h).nodes → from < (meaning h).nodes → sound h n s → IsModestFrom h n s ((meaning h).message n s from m))
      → (h : H) (n : ℕ) (s : Numbered S) (from : ℕ) (m : SeqMsg M) → n < (meaning h).nodes → from < (meaning h).nodes → numbered_sound sound h n s
      → IsModestNumbered h n s ((sequence_numbered (meaning h)).message n s from m)
  modest_message inner h n s from m below from_below ok =
      modest-unless h n s _ (has_seen s.seen from m.number) (modest-numbered h n s _ ((meaning h).message n s.inner from m.inner) (inner h n s.inner from m.inner below from_below ok))

  pub modest_timeout : ((h : H) (n : ℕ) (s : S) → n < (meaning h).nodes → sound h n s → IsModestFrom h n s ((meaning h).timeout n s))
      → (h : H) (n : ℕ) (s : Numbered S) → n < (meaning h).nodes → numbered_sound sound h n s
      → IsModestNumbered h n s ((sequence_numbered (meaning h)).timeout n s)
  modest_timeout inner h n s below ok = modest-numbered h n s s.seen ((meaning h).timeout n s.inner) (inner h n s.inner below ok)
