-- How many inputs, outputs and replies were written.
use Rattle.std.specs.Prelude.{ℕ, ◌+◌, ◌*◌, ◌^◌, ◌<◌, ◌≤◌, Bool, List, count_by}
use Rattle.net_semantics.specs.Taking.{MOST_SEEN}
use Rattle.vst_base.specs.declared.step.Item.{Item}
use Rattle.schedule_replay.specs.declared.tally.Tally.{Tally}
use Rattle.schedule_replay.specs.Replaying.{is_input, is_output, is_reply_by}

abbrev pub tallied : {I O : Type 0} → (O → Bool) → Tally → List (Item I O) → Tally
tallied is_reply tally items = record {
  inputs = tally.inputs + count_by is_input items;
  outputs = tally.outputs + count_by is_output items;
  replies = tally.replies + count_by (is_reply_by is_reply) items;
}

-- so many more of each would still be counted in 64 bits
pub record HasRoom (tally : Tally) (more : ℕ) : Type 0 where
  pub inputs : tally.inputs + more < 2 ^ 64
  pub outputs : tally.outputs + more < 2 ^ 64
  pub replies : tally.replies + more < 2 ^ 64

-- with so many items that are not counted yet, no count is greater than so many steps can make it
pub record IsOfSteps (steps more : ℕ) (tally : Tally) : Type 0 where
  pub inputs : tally.inputs + more ≤ steps * MOST_SEEN
  pub outputs : tally.outputs + more ≤ steps * MOST_SEEN
  pub replies : tally.replies + more ≤ steps * MOST_SEEN
