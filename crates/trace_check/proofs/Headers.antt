-- The headers of images.
use Rattle.std.specs.Prelude.{◌≡◌, ℕ, ◌<◌, ◌≤◌, Bool, List, true, Some, None, length, option_and_then, cond, refl}
use Rattle.std.specs.Fmt.{decimal}
use Rattle.std.proofs.Common.{length-append, ap, ◌∙◌, arith}
use Rattle.std.proofs.lemmas.Fmt.{length-decimal-le}
use Rattle.std.proofs.lemmas.Slice.Eq.{bytes_eq-Decides}
use Rattle.vst_base.specs.Stacks.{row_of, stack_word}
use Rattle.vst_base.specs.declared.stack.StackId.{StackId}
use Rattle.vst_base.specs.declared.stack.StackId.TheVariants as stack
use Rattle.line_reader.specs.Lines.{cut_at}
use Rattle.line_reader.proofs.Cutting.{none-append}
use Rattle.schedule_text.specs.Headers.{IsBy, IsHeader, header_front, header_text}
use Rattle.schedule_text.specs.Words.{is_text}
use Rattle.schedule_text.specs.declared.header.Header.{Header}
use Rattle.schedule_text.proofs.HeaderTexts.{header_of-text}
use Rattle.schedule_text.proofs.PrintedLaws.{plain-number}
use Rattle.check_text.specs.ImageLines.{header_if, image_header}
use Rattle.stacks.specs.Kinds.{header_on}
use Rattle.trace_check.proofs.PlainLines.{IsPlain}
use Rattle.trace_check.proofs.TraceReading.{IsShort}

own-word : (b : List ℕ) → is_text b b ≡ true
own-word b = (bytes_eq-Decides b b).1 refl

if-own : (h : Header) (t : Bool) → t ≡ true → cond t (Some h) None ≡ Some h
if-own h t e = rw e refl

-- the front of a header, up to its number of nodes, is one short line. The last equations stand for each other stack
front-plain : (i : StackId) → cut_at 10 (header_front (row_of i).net i) ≡ None
front-plain stack.Lock = refl
front-plain _ = refl

front-short : (i : StackId) → length (header_front (row_of i).net i) ≤ 100
front-short stack.Lock = omega arith
front-short _ = omega arith

-- each stack has its own row
own-stack : (i : StackId) → i ≡ (row_of i).stack
own-stack stack.Lock = refl
own-stack _ = refl

-- the header of a schedule of a stack on so many nodes is read back as that of an image, and is one short line
module _ (each_row : (i : StackId) (h : Header) → IsBy (row_of i) h → IsHeader h) (own : StackId) (n : ℕ) (least : (row_of own).least ≤ n) (most : n ≤ (row_of own).most) (small : n < 4294967296) where
  pub head-image : image_header (Some own) (header_text (header_on own n)) ≡ Some (header_on own n)
  head-image =
      let good = each_row own (header_on own n) (record { net = refl; stack = own-stack own; least = least; most = most }) in
      ap (λ o. option_and_then (header_if (Some own)) o) (header_of-text (header_on own n) good) ∙ if-own (header_on own n) (is_text (stack_word own) (stack_word own)) (own-word (stack_word own))

  pub head-plain : IsPlain (header_text (header_on own n))
  head-plain = none-append 10 (header_front (row_of own).net own) (decimal n) (front-plain own) (plain-number n small)

  pub head-short : IsShort (header_text (header_on own n))
  head-short =
      let digits = length-decimal-le 10 n (omega arith) (omega (arith, small)) (omega (arith, small)) in
      omega (arith, digits, front-short own, length-append (header_front (row_of own).net own) (decimal n))
