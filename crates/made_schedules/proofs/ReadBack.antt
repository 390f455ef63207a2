-- What a replay makes of steps that are allowed and are read back from their lines.
use Rattle.std.specs.Prelude.{◌≡◌, ℕ, ◌+◌, ◌≤◌, true, List, [], ◌∷◌, length, map, None, Some, refl}
use Rattle.std.proofs.Common.{◌∙◌, ap, arith}
use Rattle.line_reader.specs.Lines.{lines_of}
use Rattle.line_reader.specs.declared.why.Why.TheVariants as why
use Rattle.schedule_replay.specs.Replaying.{Replayed, counts_of, ended, no_counts, refused_at, replayed_script}
use Rattle.schedule_replay.specs.Replays.{replayed_by}
use Rattle.schedule_replay.specs.Explained.{most_lines}
use Rattle.schedule_replay.proofs.Wholly.{taken-whole}
use Rattle.schedule_text.specs.Printing.{steps_text}
use Rattle.schedule_text.specs.Schedules.{Script, script}
use Rattle.schedule_text.specs.Spellable.{numbered_steps}
use Rattle.schedule_text.proofs.PrintedLaws.{steps-read}
use Rattle.stacks.specs.ClaimTexts.{claim_by, claim_text}
use Rattle.stacks.specs.Plays.{Found, Here, IfFound, Nowhere, found_map, found_or, Play, Texts}
use Rattle.stacks.specs.Kinds.{Clustered, Kind, Steady, plays}
use Rattle.stacks.specs.Made.{makes}
use Rattle.vst_base.specs.declared.node.TheConstants.{MAX_NODES}
use Rattle.vst_base.specs.declared.step.Step.{Step}
use Rattle.vst_base.specs.declared.step.TheConstants.{MAX_STEPS}
use Rattle.made_schedules.specs.MadeTexts.{step_lines}
use Rattle.made_schedules.specs.Makes.{KindMakes}
use Rattle.made_schedules.proofs.Allowed.{kind-asked}
use Rattle.made_schedules.proofs.KindLines.{kind-lines, kind-spelled}

-- steps with the numbers of their lines, without these
unnumbered : {I : Type 0} (n : ℕ) (ss : List (Step I)) → map (λ p. p.1) (numbered_steps n ss) ≡ ss
unnumbered n [] = refl
unnumbered n (s ∷ ss) = ap (λ ts. s ∷ ts) (unnumbered (n + 1) ss)

-- the script of steps whose lines begin below a header on the first line
abbrev pub script_of : {I : Type 0} → List (Step I) → Script I
script_of ss = record { steps = numbered_steps 2 ss; fault = None }

-- below such a header the lines of steps say these steps
abbrev pub AreReadBack : {I O : Type 0} → Texts I O → List (Step I) → Type 0
AreReadBack t ss = script most_lines t.input_of 2 0 (lines_of (steps_text t.input_text ss)) ≡ script_of ss

pub kind-read : (k : Kind) (n seed steps : ℕ) → KindMakes k → n ≤ MAX_NODES → steps ≤ MAX_STEPS → AreReadBack (makes k n).plays.play.texts ((makes k n).made seed steps)
kind-read k n seed steps can few within =
    let a = makes k n in
    let t = a.plays.play.texts in
    let ss = a.made seed steps in
    let size = kind-asked k n seed steps in
    let lines : 2 + length ss ≤ most_lines + 1 = omega (arith, size, within) in
    let events : 0 + length ss ≤ MAX_STEPS = omega (arith, size, within) in
    let spelled = kind-spelled k n can in
    steps-read t.input_of t.input_text (λ v. t.input_of (t.input_text v) ≡ Some v) spelled.reads_back spelled.one_line most_lines 2 0 ss (kind-lines k n few can seed steps within) lines events

-- what replaying them comes to
abbrev pub whole : {I O G : Type 0} → Play I O G → List (Step I) → Replayed
whole p ss = record { out = claim_text p (claim_by p ss); refused = None; counts = counts_of p ss }

replays : {I O G : Type 0} (p : Play I O G) (ss : List (Step I)) → p.refused ss ≡ None → AreReadBack p.texts ss
    → replayed_by p true most_lines 2 0 (lines_of (steps_text p.texts.input_text ss)) ≡ whole p ss
replays p ss allowed read =
    let same = unnumbered 2 ss in
    ap (replayed_script p true) read ∙ (taken-whole p (script_of ss) refl (ap p.refused same ∙ allowed) ∙ ap (λ ts. ended p true ts None) same)

-- and what replaying the schedule comes to that is made for the kind that the table has
module _ (n seed steps : ℕ) where
  abbrev pub lines : Found Kind → List ℕ
  lines found = found_or [] (λ a. step_lines a.plays.play a.made seed steps) (found_map (λ k. makes k n) found)

  pub found-replays : (found : Found Kind)
      → IfFound (found_map (λ k. makes k n) found) (λ a. a.plays.play.refused (a.made seed steps) ≡ None)
      → IfFound found KindMakes → n ≤ MAX_NODES → steps ≤ MAX_STEPS
      → found_or (refused_at 1 why.Header) (λ a. replayed_by a.play true most_lines 2 0 (lines_of (lines found))) (found_map (λ k. plays k n) found)
      ≡ record {
        out = found_or [] (λ a. claim_text a.plays.play (claim_by a.plays.play (a.made seed steps))) (found_map (λ k. makes k n) found);
        refused = None;
        counts = found_or no_counts (λ a. counts_of a.plays.play (a.made seed steps)) (found_map (λ k. makes k n) found);
      }
  found-replays Nowhere allowed can few within = absurd can
  found-replays (Here (Steady l)) allowed can few within =
      let a = makes (Steady l) n in replays a.plays.play (a.made seed steps) allowed (kind-read (Steady l) n seed steps can few within)
  found-replays (Here (Clustered k)) allowed can few within =
      let a = makes (Clustered k) n in replays a.plays.play (a.made seed steps) allowed (kind-read (Clustered k) n seed steps can few within)
