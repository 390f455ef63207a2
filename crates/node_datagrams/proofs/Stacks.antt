-- A stack that has a byte is told by it.
use Rattle.std.proofs.Common.{◌≡◌, ◌==◌, Bool, true, false, [], ◌∷◌, Some, refl, sym, ap, subst}
use Rattle.std.proofs.lemmas.Bool.{eq-eqb, ne_eqb}
use Rattle.vst_base.specs.declared.stack.StackId.{StackId}
use Rattle.vst_base.specs.declared.stack.StackId.TheVariants as stack
use Rattle.wire_codec.specs.Headings.{HasByte, read_stack, stack_byte}
use Rattle.wire_fields.specs.FormatLaws.{same_answer}

read_back : (a : StackId) → HasByte a → read_stack (stack_byte a ∷ []) ≡ Some (a, [])
read_back stack.Kv has = absurd has
read_back stack.Table has = absurd has
read_back a has = refl

is_read : (a b : StackId) → read_stack (stack_byte b ∷ []) ≡ Some (a, []) → b ≡ a
is_read a stack.Kv e = cc
is_read a stack.Table e = cc
is_read a b e = (same_answer b a [] [] e).0

told_by_byte : (a b : StackId) → HasByte a → stack_byte a ≡ stack_byte b → a ≡ b
told_by_byte a b has e = sym (is_read a b (subst (λ n. read_stack (n ∷ []) ≡ Some (a, [])) e (read_back a has)))

pub same_byte : (a b : StackId) (flag : Bool) → HasByte a → (flag ≡ true → a ≡ b) → (a ≡ b → flag ≡ true) → flag ≡ (stack_byte a == stack_byte b)
same_byte a b true has same is = sym (eq-eqb (stack_byte a) (stack_byte b) (ap stack_byte (same refl)))
same_byte a b false has same is = sym (ne_eqb (stack_byte a) (stack_byte b) (λ e. let wrong = is (told_by_byte a b has e) in cc))
