-- What a line that is taken into a draft makes of it.
use Rattle.std.specs.Prelude.{◌≡◌, ℕ, ◌+◌, List, [], ◌∷◌, ◌++◌, length, Option, Some, None, cond, refl}
use Rattle.std.proofs.Common.{ap, ◌∙◌, sym, append_assoc}
use Rattle.std.proofs.lemmas.List.{append-nil}
use Rattle.vst_base.specs.Firsts.{first_of}
use Rattle.vst_base.specs.declared.step.Item.{Item}
use Rattle.line_reader.specs.Whys.{line_refusals}
use Rattle.line_reader.specs.declared.why.Why.{Why}
use Rattle.schedule_text.specs.declared.header.Header.{Header}
use Rattle.vst_base.specs.declared.stack.StackId.{StackId}
use Rattle.check_text.specs.declared.stage.Stage.{Stage}
use Rattle.check_text.specs.declared.stage.Stage.TheVariants as stage
use Rattle.check_text.specs.declared.trace_line.TraceLine.{TraceLine}
use Rattle.check_text.specs.declared.trace_line.TraceLine.TheVariants as line
use Rattle.check_text.specs.Claims.{Claim, only_image, with_item}
use Rattle.check_text.specs.Drafts.{Draft, IsStaged, TakesLine, after_items, comes_to, goes_on, with_image}
use Rattle.check_text.specs.Forms.{Form, after_below, claim_from, claim_line, headed, headed_unless, image_from, onto}
use Rattle.check_text.specs.ImageLines.{counted_line, has_header, image_header, image_unless}
use Rattle.check_text.specs.Reading.{Reading, Whole, RefusedAt, EndedAt, read_map, refusal_so_far}
use Rattle.check_text.specs.TraceLines.{count_item, counted_says, most_lines, trace_unless}

module _ {I O X : Type 0} where
  -- an item more
  items-more : (t : List (Item I O)) (x : Item I O) (r : Reading (Claim I O X)) → read_map (after_items t) (read_map (with_item x) r) ≡ read_map (after_items (t ++ x ∷ [])) r
  items-more t x (Whole c) = let made : List (Item I O) → Claim I O X = λ items. record { trace = items; header = c.header; image = c.image } in ap (λ items. Whole (made items)) (sym (append_assoc t (x ∷ []) c.trace))
  items-more t x (RefusedAt n w) = refl
  items-more t x (EndedAt n) = refl

  -- an image without a header after a trace
  image-follows : (d : Draft I O X) (h : Option Header) (image : List X) → h ≡ None → image ≡ [] → (r : Reading (List X))
      → read_map (after_items d.trace) (read_map (only_image None) r) ≡ read_map (λ xs. record { trace = d.trace; header = h; image = image ++ xs }) r
  image-follows d h image none empty (Whole xs) =
      let made : List (Item I O) → Option Header → List X → Claim I O X = λ items g ys. record { trace = items; header = g; image = ys } in
      ap (λ items. Whole (made items None xs)) (append-nil d.trace) ∙ (ap (λ g. Whole (made d.trace g xs)) (sym none) ∙ ap (λ ys. Whole (made d.trace h (ys ++ xs))) (sym empty))
  image-follows d h image none empty (RefusedAt n w) = refl
  image-follows d h image none empty (EndedAt n) = refl

  -- without further lines nothing is refused
  nothing-refused : (f : Form I O X) (d : Draft I O X) (s : Stage) (n : ℕ) → refusal_so_far (goes_on f d s n []) ≡ None
  nothing-refused f d stage.Trace n = refl
  nothing-refused f d stage.Header n = refl
  nothing-refused f d stage.Image n = refl

  pub none-refused : (f : Form I O X) (d : Draft I O X) (n : ℕ) → refusal_so_far (comes_to f d n []) ≡ None
  none-refused f d n = nothing-refused f d d.stage n

  -- nothing read before changes nothing
  pub read-same : (r : Reading (Claim I O X)) → read_map (after_items []) r ≡ r
  read-same (Whole c) = refl
  read-same (RefusedAt n w) = refl
  read-same (EndedAt n) = refl

module _ {I O X : Type 0} (f : Form I O X) (d : Draft I O X) where
  -- a line that is too long, or one too many
  limited : (s : Stage) (n : ℕ) (l : List ℕ) (ls : List (List ℕ)) (w : Why) → first_of (line_refusals most_lines n l) ≡ Some w → goes_on f d s n (l ∷ ls) ≡ RefusedAt n w
  limited stage.Trace n l ls w e = ap (λ o. read_map (after_items d.trace) (claim_line f (trace_unless o (counted_says f.input_of f.output_of f.nodes d.inputs l)) n d.inputs (λ k. claim_from f (n + 1) k ls) (after_below f f.below (n + 1) ls))) e
  limited stage.Header n l ls w e = ap (λ o. read_map (after_items d.trace) (headed_unless f o n (headed f (image_header f.below l) n (image_from f.says (n + 1) 0 ls)))) e
  limited stage.Image n l ls w e = ap (λ o. read_map (with_image d) (onto (image_unless o (counted_line f.says (length d.image) l)) n (image_from f.says (n + 1) (length d.image + 1) ls))) e

  pub line-limited : (n : ℕ) (l : List ℕ) (ls : List (List ℕ)) (w : Why) → first_of (line_refusals most_lines n l) ≡ Some w → comes_to f d n (l ∷ ls) ≡ RefusedAt n w
  line-limited n l ls w e = limited d.stage n l ls w e

  module _ (l : List ℕ) (in_trace : d.stage ≡ stage.Trace) where
    -- the line of a trace, which says this
    said-by : (said : TraceLine I O) → said ≡ counted_says f.input_of f.output_of f.nodes d.inputs l → (n : ℕ) (ls : List (List ℕ)) → first_of (line_refusals most_lines n l) ≡ None
        → comes_to f d n (l ∷ ls) ≡ read_map (after_items d.trace) (claim_line f said n d.inputs (λ k. claim_from f (n + 1) k ls) (after_below f f.below (n + 1) ls))
    said-by said is n ls allowed =
        let then : TraceLine I O → Reading (Claim I O X) = λ s. read_map (after_items d.trace) (claim_line f s n d.inputs (λ k. claim_from f (n + 1) k ls) (after_below f f.below (n + 1) ls)) in
        ap (λ s. goes_on f d s n (l ∷ ls)) in_trace ∙ (ap (λ o. then (trace_unless o (counted_says f.input_of f.output_of f.nodes d.inputs l))) allowed ∙ ap then (sym is))

    pub takes-item : (x : Item I O) → line.IsItem x ≡ counted_says f.input_of f.output_of f.nodes d.inputs l
        → TakesLine f d (record d { trace = d.trace ++ x ∷ []; inputs = count_item d.inputs x }) l None
    takes-item x is n ls allowed =
        let d' : Draft I O X = record d { trace = d.trace ++ x ∷ []; inputs = count_item d.inputs x } in
        said-by (line.IsItem x) is n ls allowed
        ∙ (items-more d.trace x (claim_from f (n + 1) (count_item d.inputs x) ls) ∙ ap (λ s. goes_on f d' s (n + 1) ls) (sym in_trace))

    below-by : (kind : Option StackId) → IsStaged d → (n : ℕ) (ls : List (List ℕ)) → f.below ≡ kind
        → read_map (after_items d.trace) (after_below f kind n ls)
        ≡ goes_on f (record d { stage = cond (has_header kind) stage.Header stage.Image }) (cond (has_header kind) stage.Header stage.Image) n ls
    below-by (Some s) staged n ls e = rw e refl
    below-by None staged n ls e =
        let empty = staged.image (λ at. let both : ◌≡◌ {A = Stage} stage.Trace stage.Image = sym in_trace ∙ at in cc) in
        image-follows d d.header d.image (staged.header in_trace) empty (image_from f.says n 0 ls)
        ∙ ap (λ (xs : List X). read_map (with_image d) (image_from f.says n (length xs) ls)) (sym empty)

    pub takes-below : IsStaged d → line.Below ≡ counted_says f.input_of f.output_of f.nodes d.inputs l
        → TakesLine f d (record d { stage = cond (has_header f.below) stage.Header stage.Image }) l None
    takes-below staged is n ls allowed = said-by line.Below is n ls allowed ∙ below-by f.below staged (n + 1) ls refl
