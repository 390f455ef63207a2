-- Which headers there are.
use Rattle.std.specs.Prelude.{◌≡◌, ℕ, Bool, true, false, ◌⊎◌, ◌&&◌, nat_le, List, [], ◌∷◌, Option, Some, None, option_and_then, cond, refl}
use Rattle.std.proofs.Common.{inl, inr, ap, subst}
use Rattle.std.proofs.lemmas.Bool.{and_parts, leb-true}
use Rattle.schedule_text.specs.declared.header.Header.{Header}
use Rattle.vst_base.specs.declared.stack.StackRow.{StackRow}
use Rattle.vst_base.specs.Stacks.{rows}
use Rattle.schedule_text.specs.Headers.{header_front, strip_prefix, nodes_within, header_by, or_else, header_among, header_of, IsBy, IsAmong, IsHeader}
use Rattle.schedule_text.specs.Words.{number_up_to}

-- the header of a pairing with this number of nodes
abbrev pub with_nodes : StackRow → ℕ → Option Header
with_nodes r m = Some (record { net = r.net; stack = r.stack; nodes = m })

by-bounds : (r : StackRow) (n : ℕ) (t : Bool) (h : Header) → (nat_le r.least n && nat_le n r.most) ≡ t → option_and_then (with_nodes r) (cond t (Some n) None) ≡ Some h → IsBy r h × (n ≡ h.nodes)
by-bounds r n true h test e =
    let bounds : (nat_le r.least n ≡ true) × (nat_le n r.most ≡ true) = and_parts (nat_le r.least n) (nat_le n r.most) test in
    let found : Header = record { net = r.net; stack = r.stack; nodes = n } in
    let same : found ≡ h = cc in
    (subst (IsBy r) same (record { net = refl; stack = refl; least = leb-true r.least n bounds.0; most = leb-true n r.most bounds.1 }), ap (λ (x : Header). x.nodes) same)
by-bounds r n false h test e = cc

by-number : (r : StackRow) (o : Option ℕ) (h : Header) → option_and_then (λ n. option_and_then (with_nodes r) (nodes_within r.least r.most n)) o ≡ Some h → IsBy r h × (o ≡ Some h.nodes)
by-number r None h e = cc
by-number r (Some n) h e =
    let bounds = by-bounds r n (nat_le r.least n && nat_le n r.most) h refl e in
    (bounds.0, ap Some bounds.1)

-- the digits after the front of a header
by-digits : (r : StackRow) (o : Option (List ℕ)) (h : Header)
    → option_and_then (λ digits. option_and_then (λ n. option_and_then (with_nodes r) (nodes_within r.least r.most n)) (number_up_to 4294967295 digits)) o ≡ Some h
    → IsBy r h × ((digits : List ℕ) × (o ≡ Some digits) × (number_up_to 4294967295 digits ≡ Some h.nodes))
by-digits r None h e = cc
by-digits r (Some digits) h e =
    let number = by-number r (number_up_to 4294967295 digits) h e in
    (number.0, (digits, refl, number.1))

pub header_by-parts : (r : StackRow) (line : List ℕ) (h : Header) → header_by r line ≡ Some h
    → IsBy r h × ((digits : List ℕ) × (strip_prefix (header_front r.net r.stack) line ≡ Some digits) × (number_up_to 4294967295 digits ≡ Some h.nodes))
header_by-parts r line h e = by-digits r (strip_prefix (header_front r.net r.stack) line) h e

-- the first, if it is a header, and else the second
pub either-header : {P Q : Type 0} (o p : Option Header) (h : Header) → (o ≡ Some h → P) → (p ≡ Some h → Q) → or_else o p ≡ Some h → P ⊎ Q
either-header None p h first second e = inr (second e)
either-header (Some g) p h first second e = inl (first e)

header_among-row : (rs : List StackRow) (line : List ℕ) (h : Header) → header_among rs line ≡ Some h → IsAmong rs h
header_among-row [] line h e = cc
header_among-row (r ∷ rs) line h e =
    either-header (header_by r line) (header_among rs line) h (λ first. (header_by-parts r line h first).0) (header_among-row rs line h) e

-- a line is a header only by one of the pairings that there are
pub header_of-row : (line : List ℕ) (h : Header) → header_of line ≡ Some h → IsHeader h
unfolding header_of
header_of-row line h e = header_among-row rows line h e
