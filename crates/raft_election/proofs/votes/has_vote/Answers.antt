use Rattle.std.proofs.Common.{◌≡◌, ◌≤◌, false, ◌==◌, nat_lt, ap, arith, sym, ◌∙◌}
use Rattle.std.proofs.lemmas.Bool.{le-ltb}
use Rattle.std.proofs.lemmas.Nat.Bits.{bit_at_above}
use Rattle.raft_election.specs.Ballots as ballots
use Rattle.raft_election.proofs.votes.has_vote.Goals as goal

-- 16 bits have none from the sixteenth on
pub returns-else-n-lt16 : goal.returns-else-n-lt16
returns-else-n-lt16 c =
    let past : 16 ≤ c.args.n = omega (arith, c.if-n-lt16.false) in
    let none : ballots.has_vote c.args.votes c.args.n ≡ false = ap (λ b. b == 1) (bit_at_above c.args.votes 16 c.args.n c.ranges.votes.fits past) in
    let test : nat_lt c.args.n 16 ≡ false = le-ltb c.args.n 16 past in
    test ∙ sym none
