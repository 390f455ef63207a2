-- Sequence numbering as a function on handlers (the sequence numbering transformer of Verdi, PLDI 2015).
use Rattle.std.specs.Prelude.{ℕ, ◌+◌, max, List, [], ◌∷◌, length, if◌then◌else◌, zero, suc, Bool, false, Option, Some, None, slice_get, unwrap_or, refl}
use Rattle.handler_trait.specs.Handling.{Meaning, Effect}
use Rattle.vst_base.specs.declared.seq.SeqMsg.{SeqMsg}
use Rattle.std.specs.Coded.{Coded, code_by, coded×, coded_list, coded_ℕ}
use Rattle.std.specs.FinSet as set
use Rattle.std.specs.FinSet.{FinSet}
use Rattle.std.specs.Ordering.{nat_cmp}

-- the numbers seen of each sender, from sender 0 on; of a sender after the last none was seen
abbrev pub Seen : Type 0
Seen = List (FinSet nat_cmp)

-- the state of the handlers within, the next number, and the numbers seen
pub record Numbered (S : Type 0) : Type 0 where
  pub inner : S
  pub next : ℕ
  pub seen : Seen

abbrev pub numbered_code : {S : Type 0} → Coded S → Coded (Numbered S)
numbered_code {S} code =
    code_by (S × (ℕ × Seen)) (coded× code (coded× coded_ℕ (coded_list (set.code {R = nat_cmp} coded_ℕ))))
    (λ s. (s.inner, (s.next, s.seen))) (λ p. record { inner = p.0; next = p.1.0; seen = p.1.1 }) (λ _. refl)

-- whether a number was seen of a sender
abbrev pub is_in : Option (FinSet nat_cmp) → ℕ → Bool
is_in None n = false
is_in (Some s) n = set.contains s n

abbrev pub has_seen : Seen → ℕ → ℕ → Bool
has_seen ss sender n = is_in (slice_get ss sender) n

-- all that were seen of a sender
abbrev pub seen_of : Seen → ℕ → FinSet nat_cmp
seen_of ss sender = unwrap_or (slice_get ss sender) set.empty

-- with a number of a sender seen too
abbrev pub with_seen : Seen → ℕ → ℕ → Seen
with_seen [] zero n = set.insert set.empty n ∷ []
with_seen [] (suc sender) n = set.empty ∷ with_seen [] sender n
with_seen (s ∷ ss) zero n = set.insert s n ∷ ss
with_seen (s ∷ ss) (suc sender) n = s ∷ with_seen ss sender n

-- sends with consecutive numbers, from this one on
abbrev pub numbered_from : {M : Type 0} → ℕ → List (ℕ × M) → List (ℕ × SeqMsg M)
numbered_from n [] = []
numbered_from n (p ∷ ps) = (p.0, record { number = n; inner = p.1 }) ∷ numbered_from (n + 1) ps

-- what the handlers within make of an event, with their sends numbered
abbrev pub numbered : {S O M : Type 0} → ℕ → Seen → Effect S O M → Effect (Numbered S) O (SeqMsg M)
numbered next seen e = record {
  state = record { inner = e.state; next = next + length e.sends; seen = seen };
  outputs = e.outputs;
  sends = numbered_from next e.sends;
}

-- nothing happens
abbrev pub nothing : {S O M : Type 0} → S → Effect S O M
nothing s = record { state = s; outputs = []; sends = [] }

-- handlers with numbered messages: one whose number was seen of its sender does nothing, and any other is noted as seen and its
-- content given to the handlers within
abbrev pub sequence_numbered : {S I O M : Type 0} → Meaning S I O M → Meaning (Numbered S) I O (SeqMsg M)
sequence_numbered m = record {
  nodes = m.nodes;
  takes_input = m.takes_input;
  init = λ n. record { inner = m.init n; next = 0; seen = [] };
  input = λ n s i. numbered s.next s.seen (m.input n s.inner i);
  message = λ n s from p.
      if has_seen s.seen from p.number then nothing s
      else numbered s.next (with_seen s.seen from p.number) (m.message n s.inner from p.inner);
  timeout = λ n s. numbered s.next s.seen (m.timeout n s.inner);
}

-- a state keeps to what the handlers within ask of theirs
abbrev pub numbered_sound : {H S : Type 0} → (H → ℕ → S → Type 0) → H → ℕ → Numbered S → Type 0
numbered_sound sound h n s = sound h n s.inner

-- what was spent: by the handlers within, or of the numbers, whichever is more
abbrev pub numbered_spent : {H S : Type 0} → (H → S → ℕ) → H → Numbered S → ℕ
numbered_spent spent h s = max (spent h s.inner) s.next
