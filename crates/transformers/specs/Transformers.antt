-- What carries handlers, unchanged, from the network that they are written for to a worse one (the system transformers of Verdi, PLDI 2015).
use Rattle.std.specs.Prelude.{◌≡◌, List}
use Rattle.handler_trait.specs.Handling.{Meaning}
use Rattle.net_semantics.specs.Runs.{IsAllowed, no_recovery, trace}
use Rattle.vst_base.specs.declared.net.Net.{Net}
use Rattle.vst_base.specs.declared.step.Step.{Step}

-- the network below and the one above; what it makes of a node's state, of a message and of the handlers; and the schedule of the
-- handlers within that a schedule of the transformed ones comes to
pub record Transformer : Type 1 where
  pub lower : Net
  pub upper : Net
  pub State : Type 0 → Type 0 → Type 0
  pub Msg : Type 0 → Type 0
  pub transforms : {S I O M : Type 0} → Meaning S I O M → Meaning (State S M) I O (Msg M)
  pub within : {S I O M : Type 0} → Meaning S I O M → List (Step I) → List (Step I)

module _ (t : Transformer) where
  -- the network above allows the schedule for the transformed handlers
  abbrev pub IsAllowedAbove : {S I O M : Type 0} → Meaning S I O M → List (Step I) → Type 0
  IsAllowedAbove {S = S} {M = M} m ss = IsAllowed t.upper (t.transforms m) (no_recovery {S = t.State S M}) ss

  -- its law: where the network above allows a schedule, the one below allows the schedule within, and clients see the same
  pub record IsCarried {S I O M : Type 0} (m : Meaning S I O M) (ss : List (Step I)) : Type 0 where
    pub allowed : IsAllowed t.lower m (no_recovery {S = S}) (t.within m ss)
    pub trace : trace (t.transforms m) (no_recovery {S = t.State S M}) ss ≡ trace m (no_recovery {S = S}) (t.within m ss)

  abbrev pub Carries : (S I O M : Type 0) → Type 0
  Carries S I O M = (m : Meaning S I O M) (ss : List (Step I)) → IsAllowedAbove m ss → IsCarried m ss

-- one transformer over another: the second carries the handlers first
abbrev pub over : Transformer → Transformer → Transformer
over t u = record {
  lower = u.lower;
  upper = t.upper;
  State = λ S M. t.State (u.State S M) (u.Msg M);
  Msg = λ M. t.Msg (u.Msg M);
  transforms = λ m. t.transforms (u.transforms m);
  within = λ m ss. u.within m (t.within (u.transforms m) ss);
}
