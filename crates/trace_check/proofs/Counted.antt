-- What a replay says of an image: how many lines it has.
use Rattle.std.specs.Prelude.{◌≡◌, ℕ, ◌-◌, true, List, length}
use Rattle.std.proofs.Common.{◌∙◌, ap, sym}
use Rattle.line_reader.specs.declared.why.Why.TheVariants as why
use Rattle.schedule_replay.specs.Explained.{IsReplayOn, most_lines}
use Rattle.schedule_replay.specs.Replaying.{Replayed, refused_at}
use Rattle.schedule_replay.specs.Replays.{replayed_by}
use Rattle.schedule_replay.specs.declared.done.Done.{Done}
use Rattle.schedule_replay.proofs.Wholly.{taken-whole}
use Rattle.schedule_text.specs.Schedules.{script}
use Rattle.stacks.specs.Plays.{AnyPlay, Found, Here, IfFound, Nowhere, found_or}

module _ (number : ℕ) (ls : List (List ℕ)) (text : List ℕ) (counts : Done) where
  -- these lines are replayed so, and the image has as many lines as are counted
  pub record IsCountedOn (a : AnyPlay) : Type 0 where
    pub on : IsReplayOn a number ls text
    pub image : counts.image ≡ length (a.play.image on.steps)

  pub counted : (found : Found AnyPlay) → (found_or (refused_at (number - 1) why.Header) (λ a. replayed_by a.play true most_lines number 0 ls) found).counts ≡ counts
      → IfFound found (λ a. IsReplayOn a number ls text) → IfFound found IsCountedOn
  counted Nowhere e none = absurd none
  counted (Here a) e by =
      let p = a.play in
      let whole = taken-whole p (script most_lines p.texts.input_of number 0 ls) by.faultless (ap p.refused by.says ∙ by.allowed) in
      record { on = by; image = ap (λ (d : Done). d.image) (sym e) ∙ (ap (λ (r : Replayed). r.counts.image) whole ∙ ap (λ ss. length (p.image ss)) by.says) }
