-- The steps that are made for each stack are read back from their lines, so that a replay takes them all.
use Rattle.std.specs.Prelude.{◌≡◌, ◌≢◌, ℕ, ◌≤◌, true, [], None}
use Rattle.std.proofs.Common.{◌∙◌, ap}
use Rattle.schedule_replay.specs.Replaying.{Replayed}
use Rattle.schedule_replay.specs.Replays.{replayed, replayed_opening}
use Rattle.stacks.specs.ClaimTexts.{claim_by, claim_text}
use Rattle.stacks.specs.Table.{kind_at}
use Rattle.vst_base.specs.Stacks.{row_of}
use Rattle.vst_base.specs.declared.net.Net.TheVariants as net
use Rattle.vst_base.specs.declared.stack.StackId.{StackId}
use Rattle.vst_base.specs.declared.step.TheConstants.{MAX_STEPS}
use Rattle.made_schedules.specs.MadeTexts.{made_counts, made_nodes, made_text, with_made}
use Rattle.made_schedules.proofs.Allowed.{few-made}
use Rattle.made_schedules.proofs.Openings.{opens}
use Rattle.made_schedules.proofs.ReadBack.{found-replays, lines}
use Rattle.made_schedules.proofs.laws.made_schedules_are_replayed.Goals as goal

whole : goal.After-each_stack_has_lines → (seed steps : ℕ) → steps ≤ MAX_STEPS → (i : StackId) → (row_of i).net ≢ net.One
    → replayed (made_text i seed steps)
    ≡ record { out = with_made [] (λ a. claim_text a.plays.play (claim_by a.plays.play (a.made seed steps))) i; refused = None; counts = made_counts i seed steps }
whole c seed steps few i sends =
    let n = made_nodes (row_of i) in
    let found = kind_at (row_of i).net i in
    ap (replayed_opening true) (opens i (lines n seed steps found))
    ∙ found-replays n seed steps found (c.made_schedules_are_allowed.ensures.allowed i seed steps sends) (c.each_stack_has_lines.ensures.makes i) (few-made i) few

pub returns-clause-taken : goal.returns-clause-taken
returns-clause-taken c = λ i seed steps sends few. ap (λ (r : Replayed). r.refused) (whole c seed steps few i sends)

pub returns-clause-written : goal.returns-clause-written
returns-clause-written c = λ i seed steps sends few. ap (λ (r : Replayed). r.out) (whole c seed steps few i sends)

pub returns-clause-counts : goal.returns-clause-counts
returns-clause-counts c = λ i seed steps sends few. ap (λ (r : Replayed). r.counts) (whole c seed steps few i sends)
