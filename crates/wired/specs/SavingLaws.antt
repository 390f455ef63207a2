-- Handlers that keep bytes send what the handlers within send, and use up as much, after a start too.
use Rattle.std.specs.Prelude.{◌≡◌, ℕ, ◌<◌, List, Option, None, Some, refl, IsTrue}
use Rattle.handler_trait.specs.Handling.{Effect, IsModest, Meaning, Recovery}
use Rattle.vst_base.specs.declared.stack.StackId.{StackId}
use Rattle.wired.specs.Saving.{Saving, Seated, saved, saved_sound, saved_spent, seated, started}
use Rattle.wired.specs.Wiring.{Named}

module _ {H S I O M : Type 0} (meaning : H → Meaning S I O M) (sound : H → ℕ → S → Type 0) (spent : H → S → ℕ) (sends : ℕ) where
  abbrev IsModestWithin : H → ℕ → S → Effect S O M → Type 0
  IsModestWithin h n s e = IsModest (meaning h).nodes sends (sound h n) (spent h) s e

  abbrev IsModestSaved : Named H → ℕ → Seated S → Effect (Seated S) O M → Type 0
  IsModestSaved w n s e = IsModest (meaning w.inner).nodes sends (saved_sound sound w n) (saved_spent spent w) s e

  modest_seated : (w : Named H) (n : ℕ) (s : Seated S) (e : Effect S O M) → IsModestWithin w.inner n s.inner e → IsModestSaved w n s (seated n e)
  modest_seated w n s e modest = record {
    few = modest.few;
    to_nodes = modest.to_nodes;
    cheap = modest.cheap;
    few_outputs = λ after. modest.few_outputs after.1;
  }

  pub fresh : ((h : H) (n : ℕ) → n < (meaning h).nodes → spent h ((meaning h).init n) ≡ 0)
      → (w : Named H) (n : ℕ) → n < (meaning w.inner).nodes → saved_spent spent w ((saved (meaning w.inner)).init n) ≡ 0
  fresh inner w n below = inner w.inner n below

  pub modest_input : ((h : H) (n : ℕ) (s : S) (i : I) → n < (meaning h).nodes → IsTrue ((meaning h).takes_input n) → sound h n s → IsModestWithin h n s ((meaning h).input n s i))
      → (w : Named H) (n : ℕ) (s : Seated S) (i : I) → n < (meaning w.inner).nodes → IsTrue ((meaning w.inner).takes_input n) → saved_sound sound w n s
      → IsModestSaved w n s ((saved (meaning w.inner)).input n s i)
  modest_input inner w n s i below takes ok = modest_seated w n s _ (inner w.inner n s.inner i below takes ok.1)

  pub modest_message : ((h : H) (n : ℕ) (s : S) (from : ℕ) (m : M) → n < (meaning h).nodes → from < (meaning h).nodes → sound h n s → IsModestWithin h n s ((meaning h).message n s from m))
      → (w : Named H) (n : ℕ) (s : Seated S) (from : ℕ) (m : M) → n < (meaning w.inner).nodes → from < (meaning w.inner).nodes → saved_sound sound w n s
      → IsModestSaved w n s ((saved (meaning w.inner)).message n s from m)
  modest_message inner w n s from m below from_below ok = modest_seated w n s _ (inner w.inner n s.inner from m below from_below ok.1)

  pub modest_timeout : ((h : H) (n : ℕ) (s : S) → n < (meaning h).nodes → sound h n s → IsModestWithin h n s ((meaning h).timeout n s))
      → (w : Named H) (n : ℕ) (s : Seated S) → n < (meaning w.inner).nodes → saved_sound sound w n s
      → IsModestSaved w n s ((saved (meaning w.inner)).timeout n s)
  modest_timeout inner w n s below ok = modest_seated w n s _ (inner w.inner n s.inner below ok.1)

  module _ {K : Type 0} (recovery : H → Recovery S K) (fits : H → K → Type 0) (saving : H → StackId → List ℕ → Saving K) where
    fresh_started : ((h : H) (n : ℕ) → n < (meaning h).nodes → spent h ((meaning h).init n) ≡ 0)
        → ((h : H) (n : ℕ) (k : K) → n < (meaning h).nodes → fits h k → spent h ((recovery h).reboot n k) ≡ 0)
        → (h : H) (n : ℕ) (o : Option K) → n < (meaning h).nodes → ((k : K) → o ≡ Some k → fits h k) → spent h (started (meaning h) (recovery h) n o) ≡ 0
    fresh_started first again h n None below fit = first h n below
    fresh_started first again h n (Some k) below fit = again h n k below (fit k refl)

    pub rebooted_fresh : ((h : H) (n : ℕ) → n < (meaning h).nodes → spent h ((meaning h).init n) ≡ 0)
        → ((h : H) (n : ℕ) (k : K) → n < (meaning h).nodes → fits h k → spent h ((recovery h).reboot n k) ≡ 0)
        → ((h : H) (stack : StackId) (name : List ℕ) (n : ℕ) (bytes : List ℕ) (k : K) → (saving h stack name).read n bytes ≡ Some k → fits h k)
        → (w : Named H) (n : ℕ) (bytes : List ℕ) → n < (meaning w.inner).nodes
        → spent w.inner (started (meaning w.inner) (recovery w.inner) n ((saving w.inner w.stack w.name).read n bytes)) ≡ 0
    rebooted_fresh first again fit w n bytes below =
        fresh_started first again w.inner n ((saving w.inner w.stack w.name).read n bytes) below (λ k e. fit w.inner w.stack w.name n bytes k e)
