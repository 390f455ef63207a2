-- The trace of a text that is not refused is explained.
use Rattle.std.specs.Prelude.{◌≡◌, ℕ, ◌+◌, Bool, true, false, List, [], ◌∷◌, Option, Some, None, if◌then◌else◌, refl}
use Rattle.std.proofs.Common.{◌∙◌, ap, subst, sym}
use Rattle.std.specs.Prelude.{◌-◌}
use Rattle.vst_base.specs.declared.step.Step.{Step}
use Rattle.vst_base.specs.Firsts.{first_of}
use Rattle.vst_base.specs.declared.step.StepRefusal.{StepRefusal}
use Rattle.line_reader.specs.declared.why.Why.{Why}
use Rattle.line_reader.specs.declared.why.Why.TheVariants as why
use Rattle.line_reader.specs.Whys.{line_refusals}
use Rattle.schedule_text.specs.declared.header.Header.{Header}
use Rattle.schedule_text.specs.HeaderLaws.{header_of-row}
use Rattle.schedule_text.specs.Headers.{IsHeader, header_of}
use Rattle.schedule_text.specs.Reading.{is_skipped}
use Rattle.schedule_text.specs.Schedules.{Opening, Opened, RefusedAt, EndedAt, Script, opened, opening, opening_unless, script}
use Rattle.schedule_replay.specs.Explained.{IsReplayOn, most_lines, steps_of}
use Rattle.schedule_replay.specs.Replaying.{Replayed, ended, refused_at, replayed_script, stop_at, taken_at}
use Rattle.schedule_replay.specs.Replays.{replayed_by}
use Rattle.schedule_replay.proofs.Wholly.{taken-whole}
use Rattle.stacks.specs.ClaimTexts.{claim_by, claim_text}
use Rattle.stacks.specs.Explained.{ExplainsAll}
use Rattle.stacks.specs.Plays.{Found, Here, IfFound, Nowhere, found_or, AnyPlay, Play}

-- the steps of a script at which a replay does not stop: it has no fault, and the network allows them
module _ {I O G : Type 0} (p : Play I O G) (sc : Script I) where
  no-stop : (ss : List (Step I)) (o : Option (ℕ × Why)) → (ended p true ss o).refused ≡ None → o ≡ None
  no-stop ss None e = refl
  no-stop ss (Some r) e = cc

  by-first : (o : Option (ℕ × StepRefusal)) → p.refused (steps_of sc) ≡ o → (ended p true (taken_at sc o) (stop_at sc o)).refused ≡ None → (sc.fault ≡ None) × (p.refused (steps_of sc) ≡ None)
  by-first None is e = (no-stop (steps_of sc) sc.fault e, is)
  by-first (Some q) is e = cc

  pub accepted : (replayed_script p true sc).refused ≡ None → (sc.fault ≡ None) × (p.refused (steps_of sc) ≡ None)
  accepted e = by-first (p.refused (steps_of sc)) refl e

-- what is found for a header replays lines that are not refused, and nothing else is a replay of them
module _ (number : ℕ) (ls : List (List ℕ)) where
  abbrev made : Found AnyPlay → Replayed
  made found = found_or (refused_at (number - 1) why.Header) (λ a. replayed_by a.play true most_lines number 0 ls) found

  pub found-replays : (found : Found AnyPlay) → IfFound found ExplainsAll → (made found).refused ≡ None → IfFound found (λ a. IsReplayOn a number ls (made found).out)
  found-replays Nowhere explains e = absurd explains
  found-replays (Here a) explains e =
      let p = a.play in
      let sc = script most_lines p.texts.input_of number 0 ls in
      let both = accepted p sc e in
      record {
        steps = steps_of sc;
        faultless = both.0;
        says = refl;
        allowed = both.1;
        written = ap (λ (r : Replayed). r.out) (taken-whole p sc both.0 both.1);
        explained = explains (steps_of sc) both.1;
      }

  pub found-written : (found : Found AnyPlay) (text : List ℕ) → IfFound found (λ a. IsReplayOn a number ls text) → ((made found).refused ≡ None) × (text ≡ (made found).out)
  found-written Nowhere text none = absurd none
  found-written (Here a) text by =
      let p = a.play in
      let sc = script most_lines p.texts.input_of number 0 ls in
      let whole = taken-whole p sc by.faultless (ap p.refused by.says ∙ by.allowed) in
      (ap (λ (r : Replayed). r.refused) whole, by.written ∙ (ap (λ ss. claim_text p (claim_by p ss)) (sym by.says) ∙ sym (ap (λ (r : Replayed). r.out) whole)))

-- the header with which a text opens is one
abbrev IsGoodOpening : Opening → Type 0
IsGoodOpening (Opened h number ls) = IsHeader h
IsGoodOpening (RefusedAt number w) = Unit {0}
IsGoodOpening (EndedAt number) = Unit {0}

unless-good : (o : Option Why) (number : ℕ) (x : Opening) → IsGoodOpening x → IsGoodOpening (opening_unless o number x)
unless-good (Some w) number x good = tt
unless-good None number x good = good

opened-good : (line : List ℕ) (o : Option Header) (number : ℕ) (ls : List (List ℕ)) → header_of line ≡ o → IsGoodOpening (opened o number ls)
opened-good line None number ls is = tt
opened-good line (Some h) number ls is = header_of-row line h is

either-good : (b : Bool) (x y : Opening) → IsGoodOpening x → IsGoodOpening y → IsGoodOpening (if b then x else y)
either-good true x y left right = left
either-good false x y left right = right

opening-good : (most number : ℕ) (ls : List (List ℕ)) → IsGoodOpening (opening most number ls)
opening-good most number [] = tt
opening-good most number (l ∷ ls) =
    unless-good (first_of (line_refusals most number l)) number (if is_skipped l then opening most (number + 1) ls else opened (header_of l) number ls)
    (either-good (is_skipped l) (opening most (number + 1) ls) (opened (header_of l) number ls) (opening-good most (number + 1) ls) (opened-good l (header_of l) number ls refl))

pub header-good : (most n : ℕ) (lines : List (List ℕ)) (h : Header) (number : ℕ) (ls : List (List ℕ)) → opening most n lines ≡ Opened h number ls → IsHeader h
header-good most n lines h number ls is = subst IsGoodOpening is (opening-good most n lines)
