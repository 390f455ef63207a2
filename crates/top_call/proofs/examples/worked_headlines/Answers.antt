-- These print numbers, whose digits have to be computed.
use Rattle.schedule_text.specs.Headers.{header_of}
use Rattle.std.proofs.Common.{◌≡◌, ℕ, List, [], ◌∷◌, ap, arith, codes, refl}
use Rattle.std.specs.Fmt.{digits}
use Rattle.top_call.proofs.Headlines.{headline_of, replay_of}
use Rattle.top_call.proofs.examples.worked_headlines.Goals as goal

abbrev first : List ℕ → ℕ
first [] = 0
first (x ∷ xs) = x

pub returns-clause-handed_over : goal.returns-clause-handed_over
unfolding digits header_of
returns-clause-handed_over c = headline_of _ _ (c.replays_are_explained.ensures.explained (codes "schedule 1 bag lock 2\nin 1 lock\ndeliver 0\ndeliver 1\n") refl)

-- what a replay writes begins with another byte
pub returns-clause-another_trace : goal.returns-clause-another_trace
unfolding digits header_of
returns-clause-another_trace c = λ h. let e : 105 ≡ 98 = ap first (c.replays_are_explained.ensures.nothing_else _ _ (replay_of _ _ h)).1 in omega (arith, e)

pub returns-clause-without_an_image : goal.returns-clause-without_an_image
unfolding digits header_of
returns-clause-without_an_image c = λ h. let e : 0 ≡ 98 = ap first (c.replays_are_explained.ensures.nothing_else _ _ (replay_of _ _ h)).1 in omega (arith, e)

pub returns-clause-a_refused_step : goal.returns-clause-a_refused_step
unfolding header_of
returns-clause-a_refused_step c = λ text h. let both = c.replays_are_explained.ensures.nothing_else _ text (replay_of _ text h) in cc (both.0)

pub returns-clause-no_header : goal.returns-clause-no_header
unfolding header_of
returns-clause-no_header c = λ text h. let both = c.replays_are_explained.ensures.nothing_else _ text (replay_of _ text h) in cc (both.0)
