-- What it is that handlers do on every network as others do, whose worlds stand for theirs.
use Rattle.std.specs.Prelude.{◌≡◌, List}
use Rattle.handler_trait.specs.Handling.{Meaning, Recovery}
use Rattle.net_semantics.specs.Runs.{IsAllowed, first_refused, run, trace}
use Rattle.net_semantics.specs.Steps.{refusal_of}
use Rattle.net_semantics.specs.Worlds.{World}
use Rattle.vst_base.specs.declared.net.Net.{Net}
use Rattle.vst_base.specs.declared.step.Step.{Step}

-- On a network the first handlers refuse the step of a schedule that the second refuse first, for the same reason, their clients see
-- the same, their world is what stands for that of the second, and whatever step comes next is refused alike.
pub record RunsTheSame {S K M S2 K2 M2 I O : Type 0} (net : Net) (m2 : Meaning S2 I O M2) (r2 : Recovery S2 K2) (m : Meaning S I O M) (r : Recovery S K)
    (stands_for : World S K M → World S2 K2 M2) (ss : List (Step I)) : Type 0 where
  pub refused : first_refused net m2 r2 ss ≡ first_refused net m r ss
  pub trace : trace m2 r2 ss ≡ trace m r ss
  pub world : run m2 r2 ss ≡ stands_for (run m r ss)
  pub next_refused : (s : Step I) → refusal_of net m2 (run m2 r2 ss) s ≡ refusal_of net m (run m r ss) s

-- The first refuse the step that the second refuse first, and where these refuse none all else is the same.
pub record RunsAlike {S K M S2 K2 M2 I O : Type 0} (net : Net) (m2 : Meaning S2 I O M2) (r2 : Recovery S2 K2) (m : Meaning S I O M) (r : Recovery S K)
    (stands_for : World S K M → World S2 K2 M2) (ss : List (Step I)) : Type 0 where
  pub refused : first_refused net m2 r2 ss ≡ first_refused net m r ss
  pub allowed : IsAllowed net m r ss → RunsTheSame net m2 r2 m r stands_for ss
