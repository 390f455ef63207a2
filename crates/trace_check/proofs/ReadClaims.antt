-- What holds of each value that a text is read as holds of the claims that are read.
use Rattle.std.specs.Prelude.{◌≡◌, ℕ, Bool, true, false, ◌+◌, not, ◌&&◌, nat_lt, nat_le, is_none, List, [], ◌∷◌, Option, Some, None, option_map, option_and_then, cond, codes, refl, Result, Ok, Err, IfOk}
use Rattle.std.specs.Str.{bytes_eq}
use Rattle.std.proofs.Common.{subst, sym}
use Rattle.std.proofs.lemmas.Bool.{ltb-true}
use Rattle.vst_base.specs.Firsts.{first_of}
use Rattle.vst_base.specs.Stacks.{stack_word}
use Rattle.vst_base.specs.declared.stack.StackId.{StackId}
use Rattle.vst_base.specs.declared.step.Item.{Item}
use Rattle.vst_base.specs.declared.step.Item.TheVariants as item
use Rattle.line_reader.specs.declared.why.Why.{Why}
use Rattle.line_reader.specs.declared.why.Why.TheVariants as why
use Rattle.line_reader.specs.Whys.{line_refusals}
use Rattle.schedule_text.specs.declared.header.Header.{Header}
use Rattle.schedule_text.specs.Headers.{header_of}
use Rattle.schedule_text.specs.Reading.{number_of}
use Rattle.schedule_text.specs.Words.{is_text}
use Rattle.check_text.specs.Claims.{Claim, only_image, with_item}
use Rattle.check_text.specs.Forms.{Form, after_below, claim_from, claim_line, claim_of, headed, headed_unless, image_from, onto, with_header}
use Rattle.check_text.specs.ImageLines.{IsHeaded, counted_line, header_if, heads, image_header, image_unless, line_of_image, said_or_refused}
use Rattle.check_text.specs.Reading.{Reading, Whole, RefusedAt, EndedAt, read_map}
use Rattle.check_text.specs.TraceLines.{ItemParts, begins_as_input, count_item, counted_says, is_beyond, item_of, item_or_refusal, item_parts, item_refusals, item_with, most_lines, trace_line, trace_says, trace_unless}
use Rattle.check_text.specs.declared.image_line.ImageLine.{ImageLine}
use Rattle.check_text.specs.declared.image_line.ImageLine.TheVariants as line
use Rattle.check_text.proofs.ImageHeaders.{header-headed}
use Rattle.trace_check.specs.Spelled.{IsTextItem}
use Rattle.trace_check.proofs.Eaches.{IfThere}
use Rattle.lists.specs.Each.{Each}

-- what was read whole is so
abbrev pub IfWhole : {A : Type 0} → (A → Type 0) → Reading A → Type 0
IfWhole P (Whole a) = P a
IfWhole P (RefusedAt number w) = Unit {0}
IfWhole P (EndedAt number) = Unit {0}

whole-map : {A B : Type 0} (P : A → Type 0) (Q : B → Type 0) (f : A → B) → ((a : A) → P a → Q (f a)) → (r : Reading A) → IfWhole P r → IfWhole Q (read_map f r)
whole-map P Q f keeps (Whole a) has = keeps a has
whole-map P Q f keeps (RefusedAt number w) has = tt
whole-map P Q f keeps (EndedAt number) has = tt

-- what a line of an image says is so
abbrev pub IfSays : {X : Type 0} → (X → Type 0) → ImageLine X → Type 0
IfSays P (line.Says x) = P x
IfSays P (line.Refused w) = Unit {0}

pub said-there : {X : Type 0} (P : X → Type 0) (r : Result X Why) → IfOk r P → IfSays P (said_or_refused r)
said-there P (Err w) has = tt
said-there P (Ok x) has = has

-- no two stacks have one word
abbrev pub AreApart : Type 0
AreApart = (s t : StackId) → bytes_eq (stack_word s) (stack_word t) ≡ true → s ≡ t

-- of a header that was found
module _ (apart : AreApart) (below : Option StackId) (l : List ℕ) where
  header-by : (h : Header) → header_of l ≡ Some h → (b : Bool) → heads below h.stack ≡ b → IfThere (λ g. IsHeaded below (Some g)) (cond b (Some h) None)
  header-by h is true e = header-headed apart below l h (sym is) e
  header-by h is false e = tt

  header-there : (o : Option Header) → header_of l ≡ o → IfThere (λ g. IsHeaded below (Some g)) (option_and_then (header_if below) o)
  header-there None is = tt
  header-there (Some h) is = header-by h is (heads below h.stack) refl

-- what a claim is whose parts were read, where its image has the header of a schedule of this stack, or none
pub record IsReadClaim {I O X : Type 0} (nodes : ℕ) (HasIn : I → Type 0) (HasOut : O → Type 0) (HasImage : X → Type 0) (below : Option StackId) (c : Claim I O X) : Type 0 where
  pub trace : Each (IsTextItem nodes HasIn HasOut) c.trace
  pub header : IsHeaded below c.header
  pub image : Each HasImage c.image

module _ {I O X : Type 0} (apart : AreApart) (form : Form I O X) (HasIn : I → Type 0) (HasOut : O → Type 0) (HasImage : X → Type 0)
    (ins : (bs : List ℕ) (i : I) → form.input_of bs ≡ Some i → HasIn i) (outs : (bs : List ℕ) (o : O) → form.output_of bs ≡ Some o → HasOut o) (says : (l : List ℕ) → IfSays HasImage (form.says l)) where
  abbrev IsRead : Claim I O X → Type 0
  IsRead c = IsReadClaim form.nodes HasIn HasOut HasImage form.below c

  -- an item that is not refused has a text
  abbrev IfItem : Option Why → Option (Item I O) → Type 0
  IfItem (Some w) o = Unit {0}
  IfItem None o = IfThere (IsTextItem form.nodes HasIn HasOut) o

  -- the item of a line, by its parts
  input-said : (n : ℕ) (text : List ℕ) → nat_lt n form.nodes ≡ true → (o : Option I) → form.input_of text ≡ o
      → IfItem (cond (is_none {T = Item I O} (option_map (λ i. item.Input n i) o)) (Some why.Text) None) (option_map (λ i. item.Input n i) o)
  input-said n text low None is = tt
  input-said n text low (Some i) is = (ltb-true n form.nodes low, ins text i is)

  output-said : (n : ℕ) (text : List ℕ) → nat_lt n form.nodes ≡ true → (o : Option O) → form.output_of text ≡ o
      → IfItem (cond (is_none {T = Item I O} (option_map (λ p. item.Output n p) o)) (Some why.Text) None) (option_map (λ p. item.Output n p) o)
  output-said n text low None is = tt
  output-said n text low (Some o) is = (ltb-true n form.nodes low, outs text o is)

  below-said : (n : ℕ) (side : Bool) (text : List ℕ) (b : Bool) → nat_lt n form.nodes ≡ b
      → IfItem (cond (not b) (Some why.NoSuchNode) (cond (is_none (item_with form.input_of form.output_of n side text)) (Some why.Text) None)) (item_with form.input_of form.output_of n side text)
  below-said n side text false low = tt
  below-said n true text true low = input-said n text low (form.input_of text) refl
  below-said n false text true low = output-said n text low (form.output_of text) refl

  number-said : (p : ItemParts) (o : Option ℕ)
      → IfItem (cond (is_none o) (Some why.Number) (cond (is_beyond form.nodes o) (Some why.NoSuchNode)
      (cond (is_none (option_and_then (λ n. item_with form.input_of form.output_of n p.is_input p.text) o)) (Some why.Text) None)))
      (option_and_then (λ n. item_with form.input_of form.output_of n p.is_input p.text) o)
  number-said p None = tt
  number-said p (Some n) = below-said n p.is_input p.text (nat_lt n form.nodes) refl

  abbrev item-by : Option ItemParts → Option (Item I O)
  item-by o = option_and_then (λ p. option_and_then (λ n. item_with form.input_of form.output_of n p.is_input p.text) (number_of p.number)) o

  parts-said : (o : Option ItemParts)
      → IfItem (cond (is_none o) (Some why.UnknownWord) (cond (is_none (option_and_then (λ p. number_of p.number) o)) (Some why.Number)
      (cond (is_beyond form.nodes (option_and_then (λ p. number_of p.number) o)) (Some why.NoSuchNode) (cond (is_none (item-by o)) (Some why.Text) None)))) (item-by o)
  parts-said None = tt
  parts-said (Some p) = number-said p (number_of p.number)

  -- the lines of an image
  unless-says : (o : Option Why) (l : ImageLine X) → IfSays HasImage l → IfSays HasImage (image_unless o l)
  unless-says (Some w) l has = tt
  unless-says None l has = has

  line-says : (number count : ℕ) (l : List ℕ) → IfSays HasImage (line_of_image form.says number count l)
  line-says number count l =
      unless-says (first_of (line_refusals most_lines number l)) (counted_line form.says count l)
      (unless-says (first_of ((why.TooManyEvents, nat_le 1000000 count) ∷ [])) (form.says l) (says l))

  onto-each : (l : ImageLine X) (number : ℕ) (r : Reading (List X)) → IfSays HasImage l → IfWhole (Each HasImage) r → IfWhole (Each HasImage) (onto l number r)
  onto-each (line.Says x) number r has all = whole-map (Each HasImage) (Each HasImage) (λ xs. x ∷ xs) (λ xs rest. (has, rest)) r all
  onto-each (line.Refused w) number r has all = tt

  image-each : (number count : ℕ) (ls : List (List ℕ)) → IfWhole (Each HasImage) (image_from form.says number count ls)
  image-each number count [] = tt
  image-each number count (l ∷ ls) = onto-each (line_of_image form.says number count l) number (image_from form.says (number + 1) (count + 1) ls) (line-says number count l) (image-each (number + 1) (count + 1) ls)

  -- an image after a header, or alone
  only-claim : (h : Option Header) → IsHeaded form.below h → (r : Reading (List X)) → IfWhole (Each HasImage) r → IfWhole IsRead (read_map (only_image h) r)
  only-claim h has r all = whole-map (Each HasImage) IsRead (only_image h) (λ xs rest. record { trace = tt; header = has; image = rest }) r all

  headed-claim : (o : Option Header) (number : ℕ) (r : Reading (List X)) → IfThere (λ h. IsHeaded form.below (Some h)) o → IfWhole (Each HasImage) r → IfWhole IsRead (headed form o number r)
  headed-claim None number r has all = tt
  headed-claim (Some h) number r has all = only-claim (Some h) has r all

  unless-claim : (o : Option Why) (number : ℕ) (r : Reading (Claim I O X)) → IfWhole IsRead r → IfWhole IsRead (headed_unless form o number r)
  unless-claim (Some w) number r has = tt
  unless-claim None number r has = has

  header-claim : (number : ℕ) (ls : List (List ℕ)) → IfWhole IsRead (with_header form form.below number ls)
  header-claim number [] = tt
  header-claim number (l ∷ ls) =
      let rest = image_from form.says (number + 1) 0 ls in
      unless-claim (first_of (line_refusals most_lines number l)) number (headed form (image_header form.below l) number rest)
      (headed-claim (image_header form.below l) number rest (header-there apart form.below l (header_of l) refl) (image-each (number + 1) 0 ls))

  -- by whether an image has a header
  below-by : (below : Option StackId) → form.below ≡ below → (number : ℕ) (ls : List (List ℕ)) → IfWhole IsRead (after_below form below number ls)
  below-by None is number ls = only-claim None (subst (λ b. IsHeaded b None) (sym is) tt) (image_from form.says number 0 ls) (image-each number 0 ls)
  below-by (Some s) is number ls = subst (λ b. IfWhole IsRead (with_header form b number ls)) is (header-claim number ls)

  below-claim : (number : ℕ) (ls : List (List ℕ)) → IfWhole IsRead (after_below form form.below number ls)
  below-claim number ls = below-by form.below refl number ls

  -- a line of a trace, before lines of which the rest of the claim is read, or the image if it is `below`. What `below` says
  -- stands for that it is this line
  module _ (number inputs : ℕ) (l : List ℕ) (rest : ℕ → Reading (Claim I O X)) (image : Reading (Claim I O X))
      (more : (n : ℕ) → IfWhole IsRead (rest n)) (below : IfWhole IsRead image) where
    item-claim : (w : Option Why) (o : Option (Item I O)) → IfItem w o → IfWhole IsRead (claim_line form (item_or_refusal w o) number inputs rest image)
    item-claim (Some w) o has = tt
    item-claim None None has = tt
    item-claim None (Some x) has =
        whole-map IsRead IsRead (with_item x) (λ c is. record { trace = (has, is.trace); header = is.header; image = is.image }) (rest (count_item inputs x)) (more (count_item inputs x))

    said-claim : (b : Bool) → IfWhole IsRead
        (claim_line form (cond b (trace_says form.input_of form.output_of form.nodes (codes "below")) (item_or_refusal (first_of (item_refusals form.input_of form.output_of form.nodes l)) (item_of form.input_of form.output_of l))) number inputs rest image)
    said-claim true = below
    said-claim false = item-claim (first_of (item_refusals form.input_of form.output_of form.nodes l)) (item_of form.input_of form.output_of l) (parts-said (item_parts l))

    unless-said : (o : Option Why) → IfWhole IsRead (claim_line form (trace_unless o (trace_says form.input_of form.output_of form.nodes l)) number inputs rest image)
    unless-said (Some w) = tt
    unless-said None = said-claim (is_text l (codes "below"))

    unless-counted : (o : Option Why) → IfWhole IsRead (claim_line form (trace_unless o (counted_says form.input_of form.output_of form.nodes inputs l)) number inputs rest image)
    unless-counted (Some w) = tt
    unless-counted None = unless-said (first_of ((why.TooManyEvents, begins_as_input l && nat_le 1000000 inputs) ∷ []))

    line-claim : IfWhole IsRead (claim_line form (trace_line form.input_of form.output_of form.nodes number inputs l) number inputs rest image)
    line-claim = unless-counted (first_of (line_refusals most_lines number l))

  claim-read : (number inputs : ℕ) (ls : List (List ℕ)) → IfWhole IsRead (claim_from form number inputs ls)
  claim-read number inputs [] = tt
  claim-read number inputs (l ∷ ls) =
      line-claim number inputs l (λ n. claim_from form (number + 1) n ls) (after_below form form.below (number + 1) ls) (λ n. claim-read (number + 1) n ls) (below-claim (number + 1) ls)

  pub read-whole : (ls : List (List ℕ)) (c : Claim I O X) → claim_of form ls ≡ Whole c → IsReadClaim form.nodes HasIn HasOut HasImage form.below c
  read-whole ls c is = subst (IfWhole IsRead) is (claim-read 1 0 ls)
