-- The lines of an image are read as the image, and those of a whole claim as the claim.
use Rattle.std.specs.Prelude.{◌≡◌, ℕ, ◌+◌, ◌<◌, ◌≤◌, nat_le, List, [], ◌∷◌, ◌++◌, length, map, count_by, Option, Some, None, cond, codes, refl}
use Rattle.std.specs.List.{flat_map}
use Rattle.std.proofs.Common.{ap, ◌∙◌, append_assoc, append-nil, length-append, arith}
use Rattle.std.proofs.lemmas.List.{length-map}
use Rattle.app_text.specs.Spelling.{IsSpelling}
use Rattle.vst_base.specs.Firsts.{first_of}
use Rattle.vst_base.specs.declared.step.Item.{Item}
use Rattle.line_reader.specs.declared.why.Why.{Why}
use Rattle.line_reader.specs.declared.why.Why.TheVariants as why
use Rattle.line_reader.specs.Whys.{line_refusals}
use Rattle.line_reader.specs.Lines.{lines_of}
use Rattle.line_reader.proofs.Lining.{lines-line}
use Rattle.line_reader.proofs.Taking.{allows}
use Rattle.schedule_text.specs.declared.header.Header.{Header}
use Rattle.schedule_text.specs.Headers.{header_text}
use Rattle.schedule_text.specs.Printing.{as_line, item_text, trace_text}
use Rattle.check_text.specs.Claims.{Claim, only_image}
use Rattle.check_text.specs.Forms.{Form, after_below, claim_of, headed, headed_unless, image_from, onto, with_header}
use Rattle.check_text.specs.ImageLines.{counted_line, image_header, image_unless, line_of_image}
use Rattle.check_text.specs.Reading.{Reading, Whole, read_map}
use Rattle.check_text.specs.TraceLines.{most_lines}
use Rattle.vst_base.specs.declared.stack.StackId.{StackId}
use Rattle.check_text.specs.declared.image_line.ImageLine.{ImageLine}
use Rattle.check_text.specs.declared.image_line.ImageLine.TheVariants as line
use Rattle.schedule_replay.specs.Replaying.{is_input}
use Rattle.stacks.specs.ClaimTexts.{header_lines}
use Rattle.trace_check.proofs.PlainLines.{IsPlain, lines-are, lines-behind, printed}
use Rattle.trace_check.proofs.TraceReading.{IsShort, enough, first-none, plain-trace, trace-read}
use Rattle.trace_check.specs.Spelled.{IsTextItem}
use Rattle.lists.specs.Each.{Each}

unless-none : {X : Type 0} (o : Option Why) (l : ImageLine X) → o ≡ None → image_unless o l ≡ l
unless-none o l e = rw e refl

module _ {X : Type 0} (says : List ℕ → ImageLine X) (text : X → List ℕ) where
  -- a line that says something
  line-read : (number count : ℕ) (l : List ℕ) (x : X) → says l ≡ line.Says x → IsShort l → number ≤ most_lines → count < 1000000 → line_of_image says number count l ≡ line.Says x
  line-read number count l x is short within few =
      unless-none (first_of (line_refusals most_lines number l)) (counted_line says count l) (allows most_lines number l short within)
      ∙ (unless-none (cond (nat_le 1000000 count) (Some why.TooManyEvents) None) (says l) (first-none (nat_le 1000000 count) why.TooManyEvents (enough count few)) ∙ is)

  pub image-read : (number count : ℕ) (xs : List X) → Each (λ x. says (text x) ≡ line.Says x) xs → Each IsShort (map text xs) → number + length xs ≤ most_lines + 1 → count + length xs ≤ 1000000
      → image_from says number count (map text xs) ≡ Whole xs
  image-read number count [] said short within few = refl
  image-read number count (x ∷ xs) said short within few =
      ap (λ l. onto l number (image_from says (number + 1) (count + 1) (map text xs))) (line-read number count (text x) x said.0 short.0 (omega (arith, within)) (omega (arith, few)))
      ∙ ap (λ r. read_map (λ ys. x ∷ ys) r) (image-read (number + 1) (count + 1) xs said.1 short.1 (omega (arith, within)) (omega (arith, few)))

-- a header that is there, and lines after it
module _ {I O X : Type 0} (form : Form I O X) where
  header-none : (o : Option Why) (number : ℕ) (r : Reading (Claim I O X)) → o ≡ None → headed_unless form o number r ≡ r
  header-none o number r e = rw e refl

  header-some : (o : Option Header) (h : Header) (number : ℕ) (r : Reading (List X)) → o ≡ Some h → headed form o number r ≡ read_map (only_image (Some h)) r
  header-some o h number r e = rw e refl

  pub headed-read : (kind : Option StackId) (number : ℕ) (h : Header) (ls : List (List ℕ)) (xs : List X) → image_header kind (header_text h) ≡ Some h → IsShort (header_text h) → number ≤ most_lines
      → image_from form.says (number + 1) 0 ls ≡ Whole xs → with_header form kind number (header_text h ∷ ls) ≡ Whole (only_image (Some h) xs)
  headed-read kind number h ls xs is short within rest =
      header-none (first_of (line_refusals most_lines number (header_text h))) number (headed form (image_header kind (header_text h)) number (image_from form.says (number + 1) 0 ls)) (allows most_lines number (header_text h) short within)
      ∙ (header-some (image_header kind (header_text h)) h number (image_from form.says (number + 1) 0 ls) is ∙ ap (λ r. read_map (only_image (Some h)) r) rest)

-- lines of a text in its parts: those of a trace, the one below it, the header of an image, and the rest
pub lines-of-parts : (ls : List (List ℕ)) (below : List ℕ) (head : List (List ℕ)) (rest : List ℕ) → Each IsPlain ls → IsPlain below → Each IsPlain head
    → lines_of (flat_map as_line ls ++ (as_line below ++ (flat_map as_line head ++ rest))) ≡ ls ++ below ∷ (head ++ lines_of rest)
lines-of-parts ls below head rest plain plain_below plain_head =
    lines-behind ls (as_line below ++ (flat_map as_line head ++ rest)) plain
    ∙ ap (λ ms. ls ++ ms)
    (ap lines_of (append_assoc below (10 ∷ []) (flat_map as_line head ++ rest))
    ∙ (lines-line below (flat_map as_line head ++ rest) plain_below ∙ ap (λ ms. below ∷ ms) (lines-behind head rest plain_head)))

-- the header is read, if there is one, and what stands after it is the image
abbrev pub IsHeadedBy : {I O X : Type 0} → Form I O X → Option Header → Type 0
IsHeadedBy {X = X} form head =
    (number : ℕ) (ls : List (List ℕ)) (xs : List X) → Each IsShort (header_lines head) → number + length (header_lines head) ≤ most_lines + 1
    → image_from form.says (number + length (header_lines head)) 0 ls ≡ Whole xs → after_below form form.below number (header_lines head ++ ls) ≡ Whole (only_image head xs)

-- the whole text of a claim, whose image is spelled so, below this header, if it has one
module _ {I O X : Type 0} (form : Form I O X) (t : I → List ℕ) (u : O → List ℕ) (HasIn : I → Type 0) (HasOut : O → Type 0) (few_nodes : form.nodes < 4294967296) (ins : IsSpelling HasIn form.input_of t) (outs : IsSpelling HasOut form.output_of u)
    (text : X → List ℕ) (head : Option Header) where
  abbrev claimed_text : List (Item I O) → List X → List ℕ
  claimed_text items xs = trace_text t u items ++ (as_line (codes "below") ++ (flat_map as_line (header_lines head) ++ flat_map as_line (map text xs)))

  module _ (headed : IsHeadedBy form head) (plain_head : Each IsPlain (header_lines head)) (items : List (Item I O)) (xs : List X) (items_text : Each (IsTextItem form.nodes HasIn HasOut) items) (plain : Each IsPlain (map text xs))
      (said : Each (λ x. form.says (text x) ≡ line.Says x) xs) where
    abbrev lines : List (List ℕ)
    lines = map (item_text t u) items ++ codes "below" ∷ (header_lines head ++ map text xs)

    claimed-lines : lines_of (claimed_text items xs) ≡ lines
    claimed-lines =
        ap (λ bs. lines_of (bs ++ (as_line (codes "below") ++ (flat_map as_line (header_lines head) ++ flat_map as_line (map text xs))))) (printed (item_text t u) items)
        ∙ (lines-of-parts (map (item_text t u) items) (codes "below") (header_lines head) (flat_map as_line (map text xs)) (plain-trace form t u HasIn HasOut few_nodes ins outs items items_text) refl plain_head
        ∙ ap (λ ls. map (item_text t u) items ++ codes "below" ∷ (header_lines head ++ ls)) (lines-are (map text xs) plain))

    count : length lines ≡ length items + (1 + (length (header_lines head) + length xs))
    count =
        let both = length-append (map (item_text t u) items) (codes "below" ∷ (header_lines head ++ map text xs)) in
        let behind = length-append (header_lines head) (map text xs) in
        let first = length-map items (item_text t u) in
        let second = length-map xs text in
        omega (arith, both, behind, first, second)

    -- so many lines, then
    pub lines-counted : length (lines_of (claimed_text items xs)) ≡ length items + (1 + (length (header_lines head) + length xs))
    lines-counted = ap length claimed-lines ∙ count

    -- and what the text is read as, where no line is too long
    pub claim-read : length items + (1 + (length (header_lines head) + length xs)) ≤ most_lines → Each IsShort (map (item_text t u) items) → Each IsShort (header_lines head) → Each IsShort (map text xs)
        → count_by is_input items ≤ 1000000 → length xs ≤ 1000000 → claim_of form (lines_of (claimed_text items xs)) ≡ Whole (record { trace = items; header = head; image = xs })
    claim-read within short_items short_head short_image few few_lines =
        let image = image-read form.says text (1 + length items + 1 + length (header_lines head)) 0 xs said short_image (omega (arith, within)) (omega (arith, few_lines)) in
        let below = headed (1 + length items + 1) (map text xs) xs short_head (omega (arith, within)) image in
        ap (claim_of form) claimed-lines
        ∙ (trace-read form t u HasIn HasOut few_nodes ins outs 1 0 items (header_lines head ++ map text xs) (only_image head xs) items_text short_items (omega (arith, within)) (omega (arith, few)) below
        ∙ ap (λ ys. Whole (record { trace = ys; header = head; image = xs })) (append-nil items))
