-- Each heading has one spelling.
use Rattle.std.proofs.Common.{◌≡◌, ◌<◌, ◌^◌, ℕ, List, [], ◌∷◌, ◌++◌, length, Option, None, Some, refl, sym, ap, subst, ◌∙◌, lit<, arith, length-append}
use Rattle.lists.specs.Each.{Each}
use Rattle.vst_base.specs.declared.stack.StackId.{StackId}
use Rattle.vst_base.specs.declared.stack.StackId.TheVariants as stack
use Rattle.wire_codec.specs.Headings.{read_mark, mark, HasByte, stack_byte, named_stacks, stack_among, read_stack, stack_field, kind_byte, read_kind, any_kind, has_kind, kind_field, most_from, most_to, parties, heading_of, heading}
use Rattle.wire_codec.specs.declared.heading.Heading.{Heading}
use Rattle.wire_codec.specs.declared.kind.Kind.{Kind}
use Rattle.wire_codec.specs.declared.kind.Kind.TheVariants as kind
use Rattle.wire_fields.specs.FieldLaws.{by_byte, number_is_format, raw_is_format}
use Rattle.wire_fields.specs.Fields.{name, number}
use Rattle.wire_fields.specs.ByteLaws.{length-number_bytes}
use Rattle.wire_fields.specs.FormatLaws.{linked_is_format, mapped_is_format, pair_is_format, same_answer, short_is_none, tested_is_format}
use Rattle.wire_fields.specs.Formats.{Format, IsFormat, IsSpelled, linked, pair}

mark_one : (bs : List ℕ) (v : Unit) (rest : List ℕ) → read_mark bs ≡ Some (v, rest) → IsSpelled mark bs v rest
mark_one [] v rest e = cc
mark_one (a ∷ []) v rest e = cc
mark_one (a ∷ b ∷ bs) v rest e =
    by_byte a 86 _ _ (v, rest)
    (λ is_letter found. by_byte b 2 _ _ (v, rest)
    (λ is_version there. record { fits = tt; bytes = λ i. is_letter i ∷ is_version i ∷ (same_answer tt v bs rest there).1 i })
    (λ none. cc) found)
    (λ none. cc) e

mark_is_format : IsFormat mark
mark_is_format = record { reads_back = λ v rest fits. refl; one_spelling = mark_one }

-- a value of a byte of its own
one_byte : {V : Type 0} (f : Format V) (u v : V) (b c : ℕ) (bs rest : List ℕ) → f.Fits u → f.spell u ≡ c ∷ [] → b ≡ c → ◌≡◌ {A = Option (V × List ℕ)} (Some (u, bs)) (Some (v, rest)) → IsSpelled f (b ∷ bs) v rest
one_byte f u v b c bs rest fits spells is e =
    let same = same_answer u v bs rest e in
    let front : b ∷ bs ≡ f.spell u ++ bs = ap (λ d. d ∷ bs) is ∙ ap (λ front. front ++ bs) (sym spells) in
    let spelled : IsSpelled f (b ∷ bs) u bs = record { fits = fits; bytes = front } in
    subst (λ r. IsSpelled f (b ∷ bs) v r) same.1 (subst (λ w. IsSpelled f (b ∷ bs) w bs) same.0 spelled)

among_one : (ss : List StackId) → Each HasByte ss → (b : ℕ) (bs : List ℕ) (s : StackId) (rest : List ℕ) → stack_among ss b bs ≡ Some (s, rest)
    → IsSpelled stack_field (b ∷ bs) s rest
among_one [] have b bs s rest e = cc
among_one (u ∷ more) have b bs s rest e =
    by_byte b (stack_byte u) _ _ (s, rest) (one_byte stack_field u s b (stack_byte u) bs rest have.0 refl) (among_one more have.1 b bs s rest) e

stack_one : (bs : List ℕ) (s : StackId) (rest : List ℕ) → read_stack bs ≡ Some (s, rest) → IsSpelled stack_field bs s rest
stack_one [] s rest e = cc
stack_one (b ∷ bs) s rest e = among_one named_stacks (tt, (tt, (tt, (tt, (tt, (tt, (tt, (tt, (tt, (tt, (tt, (tt, (tt, tt))))))))))))) b bs s rest e

stack_back : (s : StackId) (rest : List ℕ) → HasByte s → read_stack (stack_byte s ∷ [] ++ rest) ≡ Some (s, rest)
stack_back stack.Lock rest fits = refl
stack_back stack.LockSeq rest fits = refl
stack_back stack.KvPb rest fits = refl
stack_back stack.KvPbSeq rest fits = refl
stack_back stack.KvRaft rest fits = refl
stack_back stack.TablePbSeq rest fits = refl
stack_back stack.TableRaft rest fits = refl
stack_back stack.Mirror rest fits = refl
stack_back stack.MirrorFifo rest fits = refl
stack_back stack.LockSeqRetry rest fits = refl
stack_back stack.KvPbSeqRetry rest fits = refl
stack_back stack.KvRaftRead rest fits = refl
stack_back stack.TableRaftRead rest fits = refl
stack_back stack.Kv rest fits = absurd fits
stack_back stack.Table rest fits = absurd fits

stack_field_is_format : IsFormat stack_field
stack_field_is_format = record { reads_back = stack_back; one_spelling = stack_one }

kind_one : (bs : List ℕ) (k : Kind) (rest : List ℕ) → read_kind bs ≡ Some (k, rest) → IsSpelled any_kind bs k rest
kind_one [] k rest e = cc
kind_one (b ∷ bs) k rest e =
    by_byte b 0 _ _ (k, rest) (one_byte any_kind kind.Peer k b 0 bs rest tt refl)
    (by_byte b 1 _ _ (k, rest) (one_byte any_kind kind.Request k b 1 bs rest tt refl)
    (by_byte b 2 _ _ (k, rest) (one_byte any_kind kind.Reply k b 2 bs rest tt refl)
    (λ none. cc))) e

kind_back : (k : Kind) (rest : List ℕ) → read_kind (kind_byte k ∷ [] ++ rest) ≡ Some (k, rest)
kind_back kind.Peer rest = refl
kind_back kind.Request rest = refl
kind_back kind.Reply rest = refl

any_kind_is_format : IsFormat any_kind
any_kind_is_format = record { reads_back = λ k rest fits. kind_back k rest; one_spelling = kind_one }

kind_field_is_format : (s : StackId) → IsFormat (kind_field s)
kind_field_is_format s = tested_is_format (has_kind s) any_kind any_kind_is_format

from_fits : (k : Kind) → most_from k < 256 ^ 1
from_fits kind.Peer = lit< tt
from_fits kind.Request = lit< tt
from_fits kind.Reply = lit< tt

to_fits : (k : Kind) → most_to k < 256 ^ 1
to_fits kind.Peer = lit< tt
to_fits kind.Request = lit< tt
to_fits kind.Reply = lit< tt

parties_is_format : (k : Kind) → IsFormat (parties k)
parties_is_format k =
    pair_is_format (number 1 0 (most_from k)) (pair (number 1 0 (most_to k)) name) (number_is_format 1 0 (most_from k) (from_fits k))
    (pair_is_format (number 1 0 (most_to k)) name (number_is_format 1 0 (most_to k) (to_fits k)) (raw_is_format 16))

pub heading_is_format : IsFormat heading
heading_is_format =
    mapped_is_format (λ p. heading_of p.1.0 p.1.1.0 p.1.1.1.0 p.1.1.1.1.0 p.1.1.1.1.1) (λ h. (tt, (h.stack, (h.kind, (h.from, (h.to, h.name))))))
    (pair mark (linked stack_field (λ s. linked (kind_field s) parties))) (λ h. refl) (λ p. refl)
    (pair_is_format mark (linked stack_field (λ s. linked (kind_field s) parties)) mark_is_format
    (linked_is_format stack_field (λ s. linked (kind_field s) parties) stack_field_is_format
    (λ s. linked_is_format (kind_field s) parties (kind_field_is_format s) parties_is_format)))

pub heading_length : (h : Heading) → heading.Fits h → length (heading.spell h) ≡ 22
heading_length h fits = let size : length h.name ≡ 16 = fits.1.1.1.1.1.0 in simp (length-append, length-number_bytes) (omega arith)

pub heading_short : (bs : List ℕ) → length bs < 22 → heading.read bs ≡ None
heading_short = short_is_none heading 22 heading_is_format
    (λ h fits. omega (arith, heading_length h fits))
