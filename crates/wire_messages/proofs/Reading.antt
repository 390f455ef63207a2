-- What a taker says of an answer that is known.
use Rattle.std.proofs.Common.{◌≡◌, ℕ, List, Option, None, Result, Ok, Err, IsErr, sym, subst}
use Rattle.std.specs.declared.alloc.AllocError.{AllocError}
use Rattle.wire_fields.specs.Fields.{Reads}
use Rattle.wire_fields.specs.Formats.{Format}
use Rattle.wire_messages.specs.Wires.{Takes}

module _ {V : Type 0} (f : Format V) (before after : List ℕ) where
  pub none_taken : (o : Option V) → o ≡ None → Takes {E = AllocError} f before after (Ok o) → f.read before ≡ None
  none_taken o is taken = subst (λ o. Takes {E = AllocError} f before after (Ok o)) is taken

  -- nothing is said where memory was wanted
  pub takes_err : {E : Type 0} (r : Result (Option V) E) → IsErr r → Takes f before after r
  takes_err (Ok o) is = cc
  takes_err (Err e) is = tt

  pub reads_none : (r : Option V) → r ≡ None → f.read before ≡ None → Reads f before after r
  reads_none r is none = subst (λ r. Reads f before after r) (sym is) none
