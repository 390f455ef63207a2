-- What a node knows of elections, and what each rule makes of it (the Raft paper, section 5.2).
use Rattle.std.specs.Prelude.{◌≡◌, ℕ, suc, ◌≤◌, Bool, true, ◌&&◌, Option, Some, None, List, [], ◌∷◌, nat_lt, ◌==◌, if◌then◌else◌, ◌^◌, bit_or}
use Rattle.vst_base.specs.Elections.{is_free_for, nobody, with_node}
use Rattle.vst_base.specs.declared.entry.TheConstants.{MAX_TERM}
use Rattle.std.specs.Int.{bit_at}

-- the set as a test on nodes
abbrev pub has_vote : ℕ → ℕ → Bool
has_vote votes node = bit_at votes node == 1

abbrev pub no_votes : ℕ
no_votes = 0

abbrev pub with_vote : ℕ → ℕ → ℕ
with_vote node votes = bit_or votes (2 ^ node)

-- in the words of tests: no votes are nobody, and a vote that is added is its node
pub record VotesAreSets : Type 0 where
  pub none : has_vote no_votes ≡ nobody
  pub one_more : (node votes : ℕ) → has_vote (with_vote node votes) ≡ with_node node (has_vote votes)

-- the node's term, for whom it voted in it, and the votes that it counted as a candidate, a set of nodes as a number
pub record BallotView : Type 0 where
  pub term : ℕ
  pub voted : Option ℕ
  pub votes : ℕ

-- what a node of this term and vote is when it starts: it has counted none
abbrev pub kept : ℕ → Option ℕ → BallotView
kept term voted = record { term = term; voted = voted; votes = no_votes }

-- there is a next term
abbrev pub may_start : BallotView → Bool
may_start b = nat_lt b.term MAX_TERM

-- a candidate of the next term, which votes for itself
abbrev pub started : ℕ → BallotView → BallotView
started me b = record { term = suc b.term; voted = Some me; votes = with_vote me no_votes }

-- the candidate of this term, whose log is up to date or not, gets the vote
abbrev pub grants : BallotView → ℕ → ℕ → Bool → Bool
grants b term candidate is_up_to_date = b.term == term && is_free_for b.voted candidate && is_up_to_date

abbrev pub voted_for : ℕ → BallotView → BallotView
voted_for candidate b = record b { voted = Some candidate }

-- a vote more is counted
abbrev pub counted : ℕ → BallotView → BallotView
counted voter b = record b { votes = with_vote voter b.votes }

-- in another term it has not voted
abbrev pub learned : ℕ → BallotView → BallotView
learned term b = record b { term = term; voted = None }

-- the rules by name
pub data Rule : Type 0 where
  Start : (me : ℕ) → Rule
  Ask : (term candidate : ℕ) → (is_up_to_date : Bool) → Rule  -- a candidate asks for the vote
  Grant : (voter : ℕ) → Rule  -- a voter granted its vote
  Learn : (term : ℕ) → Rule

abbrev pub becomes : BallotView → Rule → BallotView
becomes b (Start me) = if may_start b then started me b else b
becomes b (Ask term c up) = if grants b term c up then voted_for c b else b
becomes b (Grant voter) = counted voter b
becomes b (Learn term) = if nat_lt b.term term then learned term b else b

-- what a list of rules makes of it
abbrev pub after : BallotView → List Rule → BallotView
after b [] = b
after b (r ∷ rs) = after (becomes b r) rs

-- whatever rules come, terms never fall, a vote stays as long as its term, and only one candidate gets the vote of a
-- term
pub record OneVoteATerm : Type 0 where
  pub terms_never_fall : (rules : List Rule) (b : BallotView) → b.term ≤ (after b rules).term
  pub votes_stay : (rules : List Rule) (b : BallotView) (c : ℕ) → b.voted ≡ Some c → (after b rules).term ≡ b.term → (after b rules).voted ≡ Some c
  pub one_candidate : (rules : List Rule) (b : BallotView) (t c d : ℕ) (up up' : Bool) → grants b t c up ≡ true
      → grants (after (voted_for c b) rules) t d up' ≡ true → d ≡ c
