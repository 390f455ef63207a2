-- The text of each header that there is reads back, and each header has one text.
use Rattle.std.specs.Prelude.{◌≡◌, ℕ, Bool, true, false, ◌==◌, ◌&&◌, ◌≤◌, nat_le, List, [], ◌∷◌, ◌++◌, Option, Some, None, option_and_then, cond, refl}
use Rattle.std.specs.Fmt.{decimal}
use Rattle.std.specs.List.{list_all}
use Rattle.std.proofs.Common.{inl, inr, ap, ◌∙◌, sym, arith}
use Rattle.std.proofs.lemmas.Bool.{and_parts, leb-true, le-leb, eq-eqb, eqb-true}
use Rattle.schedule_text.specs.declared.header.Header.{Header}
use Rattle.vst_base.specs.declared.stack.StackRow.{StackRow}
use Rattle.vst_base.specs.Stacks.{rows}
use Rattle.schedule_text.specs.Headers.{header_front, header_text, strip_prefix, nodes_within, header_by, or_else, header_among, header_of, IsBy, IsAmong, IsHeader}
use Rattle.schedule_text.specs.HeaderLaws.{with_nodes, header_by-parts, either-header}
use Rattle.schedule_text.specs.Words.{number_up_to}
use Rattle.schedule_text.proofs.NumeralLaws.{number_of-decimal, decimal_of_number}

-- a number of nodes in range is taken
within-by : (t u : Bool) (m : ℕ) → t ≡ true → u ≡ true → cond (t && u) (Some m) None ≡ Some m
within-by t u m low high = rw (low, high) refl

nodes_within-reads : (least most m : ℕ) → least ≤ m → m ≤ most → nodes_within least most m ≡ Some m
nodes_within-reads least most m low high = within-by (nat_le least m) (nat_le m most) m (le-leb least m low) (le-leb m most high)

-- after a front stands the rest
strip_prefix-found : (t : Bool) (o : Option (List ℕ)) (rest : List ℕ) → t ≡ true → o ≡ Some rest → cond t o None ≡ Some rest
strip_prefix-found t o rest same e = rw (same, e) refl

strip_prefix-front : (front rest : List ℕ) → strip_prefix front (front ++ rest) ≡ Some rest
strip_prefix-front [] rest = refl
strip_prefix-front (f ∷ fs) rest = strip_prefix-found (f == f) (strip_prefix fs (fs ++ rest)) rest (eq-eqb f f refl) (strip_prefix-front fs rest)

-- the text of a header is a header by its pairing
by-parts : (r : StackRow) (h : Header) (o : Option (List ℕ)) (digits : List ℕ) → h.net ≡ r.net → h.stack ≡ r.stack → o ≡ Some digits → number_up_to 4294967295 digits ≡ Some h.nodes
    → nodes_within r.least r.most h.nodes ≡ Some h.nodes
    → option_and_then (λ digits. option_and_then (λ n. option_and_then (with_nodes r) (nodes_within r.least r.most n)) (number_up_to 4294967295 digits)) o ≡ Some h
by-parts r h o digits net stack front number nodes = rw (← net, ← stack, front, number, nodes) refl

header_by-text : (r : StackRow) (h : Header) → nat_le r.most 4294967295 ≡ true → IsBy r h → header_by r (header_text h) ≡ Some h
header_by-text r h fits by =
    let front : strip_prefix (header_front r.net r.stack) (header_text h) ≡ Some (decimal h.nodes) = rw (← by.net, ← by.stack) (strip_prefix-front (header_front h.net h.stack) (decimal h.nodes)) in
    by-parts r h (strip_prefix (header_front r.net r.stack) (header_text h)) (decimal h.nodes) by.net by.stack front
    (number_of-decimal h.nodes (omega (arith, leb-true r.most 4294967295 fits, by.most))) (nodes_within-reads r.least r.most h.nodes by.least by.most)

-- fronts that differ at a place that both have, so that neither begins a text of the other
abbrev differ : List ℕ → List ℕ → Bool
differ [] ys = false
differ (x ∷ xs) [] = false
differ (x ∷ xs) (y ∷ ys) = cond (y == x) (differ xs ys) true

strip_prefix-other : (t d : Bool) (o : Option (List ℕ)) → cond t d true ≡ true → (d ≡ true → o ≡ None) → cond t o None ≡ None
strip_prefix-other true d o e none = none e
strip_prefix-other false d o e none = refl

strip_prefix-differ : (xs ys rest : List ℕ) → differ xs ys ≡ true → strip_prefix xs (ys ++ rest) ≡ None
strip_prefix-differ [] ys rest e = cc
strip_prefix-differ (x ∷ xs) [] rest e = cc
strip_prefix-differ (x ∷ xs) (y ∷ ys) rest e = strip_prefix-other (y == x) (differ xs ys) (strip_prefix xs (ys ++ rest)) e (strip_prefix-differ xs ys rest)

-- pairings whose fronts differ, each with a greatest number of nodes that can be read
abbrev differs : StackRow → StackRow → Bool
differs r q = differ (header_front r.net r.stack) (header_front q.net q.stack)

abbrev are_apart : List StackRow → Bool
are_apart [] = true
are_apart (r ∷ rs) = nat_le r.most 4294967295 && list_all (differs r) rs && are_apart rs

-- the text of a header by a later pairing is none by this one
header_by-other : (r : StackRow) (rs : List StackRow) (h : Header) → list_all (differs r) rs ≡ true → IsAmong rs h → header_by r (header_text h) ≡ None
header_by-other r [] h apart among = absurd among
header_by-other r (q ∷ qs) h apart (inl by) =
    let first : (differs r q ≡ true) × (list_all (differs r) qs ≡ true) = and_parts (differs r q) (list_all (differs r) qs) apart in
    let front : strip_prefix (header_front r.net r.stack) (header_text h) ≡ None = rw (by.net, by.stack) (strip_prefix-differ (header_front r.net r.stack) (header_front q.net q.stack) (decimal h.nodes) first.0) in
    none-by (strip_prefix (header_front r.net r.stack) (header_text h)) front where
      none-by : (o : Option (List ℕ)) → o ≡ None
          → option_and_then (λ digits. option_and_then (λ n. option_and_then (with_nodes r) (nodes_within r.least r.most n)) (number_up_to 4294967295 digits)) o ≡ None
      none-by o e = rw e refl
header_by-other r (q ∷ qs) h apart (inr among) = header_by-other r qs h (and_parts (differs r q) (list_all (differs r) qs) apart).1 among

among-text : (rs : List StackRow) (h : Header) → are_apart rs ≡ true → IsAmong rs h → header_among rs (header_text h) ≡ Some h
among-text [] h apart among = absurd among
among-text (r ∷ rs) h apart among =
    let parts : ((nat_le r.most 4294967295 && list_all (differs r) rs) ≡ true) × (are_apart rs ≡ true) = and_parts (nat_le r.most 4294967295 && list_all (differs r) rs) (are_apart rs) apart in
    let first : (nat_le r.most 4294967295 ≡ true) × (list_all (differs r) rs ≡ true) = and_parts (nat_le r.most 4294967295) (list_all (differs r) rs) parts.0 in
    elim among [
      | inl by ↦ ap (λ o. or_else o (header_among rs (header_text h))) (header_by-text r h first.0 by)
      | inr later ↦ ap (λ o. or_else o (header_among rs (header_text h))) (header_by-other r rs h first.1 later) ∙ among-text rs h parts.1 later
    ]

-- the table is one that reads back, as computing shows
pub header_of-text : (h : Header) → IsHeader h → header_of (header_text h) ≡ Some h
unfolding header_of
header_of-text h is = among-text rows h refl is

-- what stands after a front stands after it in the line
front-same : (t : Bool) (b f : ℕ) (o : Option (List ℕ)) (bs fs rest : List ℕ) → (t ≡ true → b ≡ f) → (o ≡ Some rest → bs ≡ fs ++ rest) → cond t o None ≡ Some rest → b ∷ bs ≡ f ∷ (fs ++ rest)
front-same true b f o bs fs rest same more e = ap (λ c. c ∷ bs) (same refl) ∙ ap (λ cs. f ∷ cs) (more e)
front-same false b f o bs fs rest same more e = cc

front-append : (front line rest : List ℕ) → strip_prefix front line ≡ Some rest → line ≡ front ++ rest
front-append [] line rest e = cc
front-append (f ∷ fs) [] rest e = cc
front-append (f ∷ fs) (b ∷ bs) rest e = front-same (b == f) b f (strip_prefix fs bs) bs fs rest (eqb-true b f) (front-append fs bs rest) e

text-header_by : (r : StackRow) (line : List ℕ) (h : Header) → header_by r line ≡ Some h → line ≡ header_text h
text-header_by r line h e =
    let parts = header_by-parts r line h e in
    let digits = parts.1.0 in
    front-append (header_front r.net r.stack) line digits parts.1.1
    ∙ (ap (λ ds. header_front r.net r.stack ++ ds) (decimal_of_number digits h.nodes parts.1.2)
    ∙ (ap (λ n. header_front n r.stack ++ decimal h.nodes) (sym parts.0.net) ∙ ap (λ s. header_front h.net s ++ decimal h.nodes) (sym parts.0.stack)))

text-header_among : (rs : List StackRow) (line : List ℕ) (h : Header) → header_among rs line ≡ Some h → line ≡ header_text h
text-header_among [] line h e = cc
text-header_among (r ∷ rs) line h e =
    elim (either-header (header_by r line) (header_among rs line) h (text-header_by r line h) (text-header_among rs line h) e) [ inl same ↦ same | inr same ↦ same ]

pub text-header_of : (line : List ℕ) (h : Header) → header_of line ≡ Some h → line ≡ header_text h
unfolding header_of
text-header_of line h e = text-header_among rows line h e
