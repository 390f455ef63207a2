-- Where nothing of a log is gone, each word on it says what the word on lists does.
use Rattle.std.proofs.Common.{◌≡◌, ℕ, zero, suc, ◌-◌, Bool, List, [], length, take, drop, cond, refl, sym, ap, ◌∙◌, arith}
use Rattle.vst_base.specs.Elections as elections
use Rattle.vst_base.specs.Logs as list
use Rattle.vst_base.specs.declared.entry.Entry.{Entry}
use Rattle.raft_snapshots.specs.Logs.{accepted, advance, entries_after, has_conflict, is_up_to_date, last_index, last_term, matches, may_commit, term_at}
use Rattle.raft_snapshots.specs.Whole.{WholeLogs, whole_log}
use Rattle.raft_snapshots.proofs.Fronts.{IsGone, whole_accepted, whole_last, whole_length, whole_matches_is, whole_term}

module _ {C : Type 0} (es : List (Entry C)) where
  g : IsGone [] (whole_log es)
  g = record { gone = refl; gone_term = refl }

  pub plain_length : last_index (whole_log es) ≡ length es
  plain_length = sym (whole_length [] (whole_log es) g)

  pub plain_term : (n : ℕ) → term_at (whole_log es) n ≡ list.term_at es n
  plain_term n = sym (whole_term [] (whole_log es) g n (omega arith))

  pub plain_last : last_term (whole_log es) ≡ list.last_term es
  plain_last = sym (whole_last [] (whole_log es) g)

  pub plain_matches : (prev prev_t : ℕ) → matches (whole_log es) prev prev_t ≡ list.matches es prev prev_t
  plain_matches prev prev_t = sym (whole_matches_is [] (whole_log es) g prev prev_t (omega arith))

  pub plain_accepted : (prev : ℕ) (news : List (Entry C)) → accepted (whole_log es) prev news ≡ whole_log (list.accepted es prev news)
  plain_accepted prev news = ap whole_log (sym (whole_accepted [] (whole_log es) g prev news (omega arith)))

  pub plain_after : (prev many : ℕ) → entries_after (whole_log es) prev many ≡ take many (drop prev es)
  plain_after prev many = let e : prev - 0 ≡ prev = omega arith in ap (λ k. take many (drop k es)) e

  pub plain_conflict : (commit prev : ℕ) (news : List (Entry C)) → has_conflict (whole_log es) commit prev news ≡ list.has_conflict es commit prev news
  plain_conflict commit prev news =
      let a : commit - 0 ≡ commit = omega arith in
      let b : prev - 0 ≡ prev = omega arith in
      ap (λ c. list.has_conflict es c (prev - 0) news) a ∙ ap (λ p. list.has_conflict es commit p news) b

  pub plain_up_to_date : (last last_t : ℕ) → is_up_to_date (whole_log es) last last_t ≡ elections.is_up_to_date es last last_t
  plain_up_to_date last last_t = rw (plain_last, plain_length) refl

  plain_may_commit : (nodes leader : ℕ) (matched : ℕ → ℕ) (term commit index : ℕ) →
      may_commit nodes leader matched (whole_log es) term commit index ≡ elections.may_commit nodes leader matched es term commit index
  plain_may_commit nodes leader matched term commit index = rw (plain_term index) refl

  pub plain_advance : (nodes leader : ℕ) (matched : ℕ → ℕ) (term commit k : ℕ) →
      advance nodes leader matched (whole_log es) term commit k ≡ elections.advance nodes leader matched es term commit k
  plain_advance nodes leader matched term commit zero = refl
  plain_advance nodes leader matched term commit (suc k) =
      ap (λ (b : Bool). cond b (suc k) (advance nodes leader matched (whole_log es) term commit k)) (plain_may_commit nodes leader matched term commit (suc k))
      ∙ ap (λ r. cond (elections.may_commit nodes leader matched es term commit (suc k)) (suc k) r) (plain_advance nodes leader matched term commit k)

pub whole_logs : (C : Type 0) → WholeLogs C
whole_logs C es = record {
  length_is = plain_length es;
  term_is = plain_term es;
  last_term_is = plain_last es;
  matches_alike = plain_matches es;
  accepted_alike = plain_accepted es;
  conflicts_alike = plain_conflict es;
  up_to_date_alike = plain_up_to_date es;
  advances_alike = plain_advance es;
}
