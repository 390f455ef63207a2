-- Retransmission as a function on handlers: what is sent is kept, and sent again at each tick until it is acknowledged.
use Rattle.std.specs.Prelude.{ℕ, ◌+◌, max, List, [], ◌∷◌, ◌++◌, length, map}
use Rattle.handler_trait.specs.Handling.{Meaning, Effect}
use Rattle.vst_base.specs.declared.retry.RetryMsg.{RetryMsg}
use Rattle.vst_base.specs.declared.retry.RetryMsg.TheVariants as msg
use Rattle.retry_xform.specs.Keeping.{Kept, Retrying, ArePending, acknowledged, numbered_from, rotated}

-- the packet that carries what is kept
abbrev pub as_data : {M : Type 0} → Kept M → ℕ × RetryMsg M
as_data k = (k.destination, msg.Data k.number k.content)

abbrev pub all_as_data : {M : Type 0} → List (Kept M) → List (ℕ × RetryMsg M)
all_as_data ks = map as_data ks

-- the packet that is sent again, where these are kept
abbrev pub again : {M : Type 0} → List (Kept M) → List (ℕ × RetryMsg M)
again [] = []
again (k ∷ ks) = as_data k ∷ []

module _ {S O M : Type 0} where
  -- what the handlers within make of an event: each of their packets has the next number, and is kept
  abbrev pub kept_and_sent : Retrying S M → Effect S O M → Effect (Retrying S M) O (RetryMsg M)
  kept_and_sent s e = record {
    state = record { inner = e.state; next = s.next + length e.sends; kept = s.kept ++ numbered_from s.next e.sends };
    outputs = e.outputs;
    sends = all_as_data (numbered_from s.next e.sends);
  }

  -- with the acknowledgement of this number to the source, after all that is sent
  abbrev pub with_acknowledgement : ℕ → ℕ → Effect (Retrying S M) O (RetryMsg M) → Effect (Retrying S M) O (RetryMsg M)
  with_acknowledgement from number e = record { state = e.state; outputs = e.outputs; sends = e.sends ++ (from, msg.Ack number) ∷ [] }

  -- with the first of what was kept before the event sent again, after all that is sent; it goes to the end of what is kept
  abbrev pub with_first_resent : List (Kept M) → Effect (Retrying S M) O (RetryMsg M) → Effect (Retrying S M) O (RetryMsg M)
  with_first_resent [] e = e
  with_first_resent (k ∷ ks) e = record {
    state = record { inner = e.state.inner; next = e.state.next; kept = rotated e.state.kept };
    outputs = e.outputs;
    sends = e.sends ++ as_data k ∷ [];
  }

  -- what a node makes of an acknowledgement: it drops the packet that is acknowledged, if it keeps it
  abbrev pub drop_acknowledged : ℕ → ℕ → Retrying S M → Effect (Retrying S M) O (RetryMsg M)
  drop_acknowledged from number s = record {
    state = record { inner = s.inner; next = s.next; kept = acknowledged from number s.kept };
    outputs = [];
    sends = [];
  }

module _ {S I O M : Type 0} (m : Meaning S I O M) where
  -- data is given to the handlers within each time that it comes
  abbrev pub takes_message : ℕ → Retrying S M → ℕ → RetryMsg M → Effect (Retrying S M) O (RetryMsg M)
  takes_message n s from (msg.Data number inner) = with_acknowledgement from number (kept_and_sent s (m.message n s.inner from inner))
  takes_message n s from (msg.Ack number) = drop_acknowledged from number s

  abbrev pub retrying : Meaning (Retrying S M) I O (RetryMsg M)
  retrying = record {
    nodes = m.nodes;
    takes_input = m.takes_input;
    init = λ n. record { inner = m.init n; next = 0; kept = [] };
    input = λ n s i. kept_and_sent s (m.input n s.inner i);
    message = takes_message;
    timeout = λ n s. with_first_resent s.kept (kept_and_sent s (m.timeout n s.inner));
  }

-- a state keeps to what the handlers within ask of theirs, and what is kept has a number that was given, and goes to a node
pub record IsRetrying {S M : Type 0} (sound : S → Type 0) (nodes : ℕ) (s : Retrying S M) : Type 0 where
  pub inner : sound s.inner
  pub pending : ArePending s.next nodes s.kept

abbrev pub retrying_sound : {H S I O M : Type 0} → (H → Meaning S I O M) → (H → ℕ → S → Type 0) → H → ℕ → Retrying S M → Type 0
retrying_sound meaning sound h n s = IsRetrying (sound h n) (meaning h).nodes s

-- what was spent: by the handlers within, or of the numbers, whichever is more
abbrev pub retrying_spent : {H S M : Type 0} → (H → S → ℕ) → H → Retrying S M → ℕ
retrying_spent spent h s = max (spent h s.inner) s.next
