-- A header of an image is that of a schedule of its stack.
use Rattle.std.specs.Prelude.{◌≡◌, ℕ, true, List, Option, Some, None}
use Rattle.std.specs.Str.{bytes_eq}
use Rattle.std.proofs.Common.{sym}
use Rattle.vst_base.specs.Stacks.{stack_word}
use Rattle.vst_base.specs.declared.stack.StackId.{StackId}
use Rattle.schedule_text.specs.declared.header.Header.{Header}
use Rattle.schedule_text.specs.HeaderLaws.{header_of-row}
use Rattle.schedule_text.specs.Headers.{header_of}
use Rattle.check_text.specs.ImageLines.{IsHeaded, heads}

-- no two stacks have one word
module _ (apart : (s t : StackId) → bytes_eq (stack_word s) (stack_word t) ≡ true → s ≡ t) where
  pub header-headed : (below : Option StackId) (line : List ℕ) (h : Header) → Some h ≡ header_of line → heads below h.stack ≡ true → IsHeaded below (Some h)
  header-headed None line h e is = tt
  header-headed (Some s) line h e is = (header_of-row line h (sym e), sym (apart s h.stack is))
