use Rattle.std.proofs.Common.{◌≡◌, ℕ, suc, zero, ◌≤◌, [], ◌∷◌, ◌++◌, length, inl, refl, ap, arith, length-append}
use Rattle.std.proofs.lemmas.Bool.{false≢true}
use Rattle.std.proofs.lemmas.List.{nil_from_length}
use Rattle.vst_base.specs.Examples.{counter}
use Rattle.raft_snapshots.specs.Examples.{leader}
use Rattle.raft_snapshots.specs.Snapshots.{place_of}
use Rattle.snap_safety.specs.Examples.{noops, three_bytes}
use Rattle.snap_safety.specs.Mirrors.{SnapHolds}
use Rattle.snap_safety.proofs.examples.worked_mirrors.Goals as goal

within : (node : ℕ) → place_of (leader 2).more node ≤ 3
within zero = omega arith
within (suc zero) = omega arith
within (suc (suc zero)) = omega arith
within (suc (suc (suc n))) = omega arith

holds : SnapHolds counter three_bytes [] 0 noops (leader 2)
holds = record {
  gone = refl;
  gone_term = refl;
  now = refl;
  base = omega arith;
  behind = omega arith;
  committed = omega arith;
  own = record { snapshot = refl; part = tt; places = within };
}

pub returns-clause-not_past_the_end : goal.returns-clause-not_past_the_end
returns-clause-not_past_the_end c = λ h. let le : 4 ≤ 3 = h.own.places 1 in absurd (omega (arith, le))

pub returns-clause-it_is_mirrored : goal.returns-clause-it_is_mirrored
returns-clause-it_is_mirrored c = record { front = noops; is = refl; holds = holds }

pub returns-clause-a_piece : goal.returns-clause-a_piece
returns-clause-a_piece c = record { before = 1 ∷ []; behind = 3 ∷ []; is = refl; at = refl; last = λ e. absurd (false≢true e); only_last = λ e. absurd (cc (e)) }

pub returns-clause-the_last_says_so : goal.returns-clause-the_last_says_so
returns-clause-the_last_says_so c = λ p.
    let long : length (p.before ++ (2 ∷ p.behind)) ≡ 2 = ap length p.is in
    let none : length p.behind ≡ 0 = omega (arith, long, length-append p.before (2 ∷ p.behind), p.at) in
    false≢true (p.only_last (nil_from_length p.behind none))

pub returns-clause-all_entries : goal.returns-clause-all_entries
returns-clause-all_entries c = record {
  entries = noops;
  sent = record { there = inl refl; all = refl; last = refl };
  piece = record { before = 1 ∷ []; behind = []; is = refl; at = refl; last = λ e. refl; only_last = λ e. refl };
}
