-- Logs that agree up to an index.
use Rattle.std.specs.Prelude.{◌≡◌, ℕ, ◌≤◌, ◌⊎◌, List, ◌++◌, length, take}
use Rattle.vst_base.specs.declared.entry.Entry.{Entry}
use Rattle.vst_base.specs.Logs.{term_at}

-- two lists are equal up to an index
pub record Same {A : Type 0} (k : ℕ) (l m : List A) : Type 0 where
  pub eq : take k l ≡ take k m

-- where two logs have equal terms at an index, they are equal up to it
pub record Agree {C : Type 0} (l m : List (Entry C)) : Type 0 where
  pub at : (n : ℕ) → n ≤ length l → n ≤ length m → term_at l n ≡ term_at m n → Same n l m

-- these entries stand after the index prev of a log, whose term there is prev_t
pub record Follows {C : Type 0} (log : List (Entry C)) (prev prev_t : ℕ) (es : List (Entry C)) : Type 0 where
  pub front : List (Entry C)
  pub rest : List (Entry C)
  pub whole : front ++ (es ++ rest) ≡ log
  pub at : length front ≡ prev
  pub term : term_at log prev ≡ prev_t

-- what a log becomes that took a leader's entries up to the index last: it is what it was, or the leader's up to
-- there; it is the leader's up to there in any case; and it keeps what it had in common with the leader's
pub record Took {C : Type 0} (old theirs : List (Entry C)) (last : ℕ) (new : List (Entry C)) : Type 0 where
  pub whole : (new ≡ old) ⊎ (new ≡ take last theirs)
  pub same : Same last new theirs
  pub keeps : (k : ℕ) → Same k old theirs → Same k new old
  pub fits : last ≤ length theirs
