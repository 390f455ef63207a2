-- What a stack writes is read as the claim of its trace and its image.
use Rattle.std.specs.Prelude.{◌≡◌, ℕ, ◌+◌, ◌<◌, ◌≤◌, List, [], ◌∷◌, ◌++◌, length, map, count_by, codes, refl}
use Rattle.std.specs.List.{flat_map}
use Rattle.std.proofs.Common.{◌∙◌, ap, append_assoc}
use Rattle.app_text.specs.Spelling.{IsSpelling}
use Rattle.vst_base.specs.declared.step.Step.{Step}
use Rattle.line_reader.specs.Lines.{lines_of}
use Rattle.schedule_text.specs.Printing.{as_line, lines_text, trace_text}
use Rattle.check_text.specs.Forms.{claim_of}
use Rattle.check_text.specs.Reading.{Whole}
use Rattle.check_text.specs.declared.image_line.ImageLine.TheVariants as line
use Rattle.schedule_replay.specs.Replaying.{is_input}
use Rattle.stacks.specs.ClaimTexts.{claim_by, claim_text, header_lines}
use Rattle.stacks.specs.Checks.{form_on}
use Rattle.stacks.specs.Claimed.{Claimed}
use Rattle.stacks.specs.Plays.{Play}
use Rattle.trace_check.specs.Spelled.{IsTextItem}
use Rattle.trace_check.proofs.ImageReading.{IsHeadedBy, claim-read, lines-counted}
use Rattle.trace_check.proofs.Lengths.{AreWithin, short-trace}
use Rattle.trace_check.proofs.PlainLines.{IsPlain}
use Rattle.trace_check.proofs.TraceReading.{IsShort}
use Rattle.lists.specs.Each.{Each}

-- the lines of things are the things' lines
lines-map : {G : Type 0} (text : G → List ℕ) (gs : List G) → lines_text text gs ≡ flat_map as_line (map text gs)
lines-map text [] = refl
lines-map text (g ∷ gs) = ap (λ bs. as_line (text g) ++ bs) (lines-map text gs)

module _ {I O G : Type 0} (nodes : ℕ) (p : Play I O G) (c : Claimed I O G) (HasIn : I → Type 0) (HasOut : O → Type 0) (few_nodes : nodes < 4294967296)
    (ins : IsSpelling HasIn p.texts.input_of p.texts.input_text) (outs : IsSpelling HasOut p.texts.output_of p.texts.output_text) (brief_ins : AreWithin 4050 HasIn p.texts.input_text) (brief_outs : AreWithin 4050 HasOut p.texts.output_text)
    (headed : IsHeadedBy (form_on nodes p c) p.below.header) (plain_head : Each IsPlain (header_lines p.below.header)) (short_head : Each IsShort (header_lines p.below.header)) where
  module _ (ss : List (Step I)) (items : Each (IsTextItem nodes HasIn HasOut) (p.trace ss)) (plain : Each IsPlain (map p.below.line (p.image ss))) (said : Each (λ x. c.says (p.below.line x) ≡ line.Says x) (p.image ss)) where
    abbrev trace-lines : List ℕ
    trace-lines = trace_text p.texts.input_text p.texts.output_text (p.trace ss)

    abbrev head-lines : List ℕ
    head-lines = flat_map as_line (header_lines p.below.header)

    abbrev by-parts : List ℕ
    by-parts = trace-lines ++ (as_line (codes "below") ++ (head-lines ++ flat_map as_line (map p.below.line (p.image ss))))

    in-parts : claim_text p (claim_by p ss) ≡ by-parts
    in-parts =
        ap (λ bs. trace-lines ++ bs)
        (append_assoc (as_line (codes "below")) head-lines (lines_text p.below.line (p.image ss)) ∙ ap (λ bs. as_line (codes "below") ++ (head-lines ++ bs)) (lines-map p.below.line (p.image ss)))

    -- a line for each item, the one below them, and those of the image
    abbrev all-lines : ℕ
    all-lines = length (p.trace ss) + (1 + (length (header_lines p.below.header) + length (p.image ss)))

    pub stack-lines : length (lines_of (claim_text p (claim_by p ss))) ≡ all-lines
    stack-lines =
        ap (λ bs. length (lines_of bs)) in-parts
        ∙ lines-counted (form_on nodes p c) p.texts.input_text p.texts.output_text HasIn HasOut few_nodes ins outs p.below.line p.below.header headed plain_head (p.trace ss) (p.image ss) items plain said

    pub stack-read : all-lines ≤ 8000000 → Each IsShort (map p.below.line (p.image ss)) → count_by is_input (p.trace ss) ≤ 1000000 → length (p.image ss) ≤ 1000000
        → claim_of (form_on nodes p c) (lines_of (claim_text p (claim_by p ss))) ≡ Whole (claim_by p ss)
    stack-read lines short few few_image =
        ap (λ bs. claim_of (form_on nodes p c) (lines_of bs)) in-parts
        ∙ claim-read (form_on nodes p c) p.texts.input_text p.texts.output_text HasIn HasOut few_nodes ins outs p.below.line p.below.header headed plain_head (p.trace ss) (p.image ss) items plain said lines
        (short-trace nodes p.texts.input_text p.texts.output_text HasIn HasOut few_nodes brief_ins brief_outs (p.trace ss) items) short_head short few few_image
