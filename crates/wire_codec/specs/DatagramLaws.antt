-- Each datagram has one spelling.
use Rattle.std.proofs.Common.{◌≡◌, ◌≤◌, ℕ, Bool, true, false, nat_le, List, [], ◌∷◌, ◌++◌, length, Option, None, Some, option_map, if◌then◌else◌, refl, sym, ap, subst, ◌∙◌, append-nil, arith, length-append}
use Rattle.std.proofs.lemmas.Bool.{leb-true, le-leb}
use Rattle.wire_codec.specs.Bodies.{AreMessagesOf}
use Rattle.wire_codec.specs.Datagrams.{AreBytesOf, longest_message, read_typed, spell_datagram, with_message}
use Rattle.wire_codec.specs.HeadingLaws.{heading_is_format, heading_length}
use Rattle.wire_codec.specs.Headings.{heading}
use Rattle.wire_codec.specs.declared.datagram.TheConstants.{MAX_DATAGRAM}
use Rattle.wire_codec.specs.declared.heading.Heading.{Heading}
use Rattle.wire_fields.specs.Formats.{Format, IsFormat, IsSpelled}
use Rattle.wire_messages.specs.Wires.{if_none_left, read_whole, whole}

-- a message that fits, short enough beside the 22 bytes of a heading
pub fitting : {M : Type 0} (f : Format M) (h : Heading) (m : M) → AreMessagesOf h.stack h.kind f → heading.Fits h → f.Fits m → length (f.spell m) ≤ longest_message
    → AreBytesOf f h m (spell_datagram f h m)
fitting f h m of in_range fits short = record {
  of = of;
  heading = in_range;
  message = fits;
  size = omega (arith, short, length-append (heading.spell h) (f.spell m), heading_length h in_range);
  bytes = refl;
}

module _ {M : Type 0} (f : Format M) (is_f : IsFormat f) where
  -- a message whole, with nothing after it
  pub whole_back : (message : M) → f.Fits message → read_whole f (f.spell message) ≡ Some message
  whole_back message fits = ap whole (ap f.read (sym (append-nil (f.spell message))) ∙ is_f.reads_back message [] fits)

  alone : (u : M) (bs rest : List ℕ) (message : M) → f.read bs ≡ Some (u, rest) → if_none_left u rest ≡ Some message → IsSpelled f bs message []
  alone u bs [] message read e = let same : u ≡ message = cc in subst (λ u. IsSpelled f bs u []) same (is_f.one_spelling bs u [] read)
  alone u bs (b ∷ rest) message read e = cc

  whole_by : (bs : List ℕ) (o : Option (M × List ℕ)) (message : M) → f.read bs ≡ o → whole o ≡ Some message → IsSpelled f bs message []
  whole_by bs None message read e = cc
  whole_by bs (Some p) message read e = alone p.0 bs p.1 message read e

  pub whole_one : (bs : List ℕ) (message : M) → read_whole f bs ≡ Some message → IsSpelled f bs message []
  whole_one bs message e = whole_by bs (f.read bs) message refl e

  pub typed_back : (h : Heading) (message : M) (bs : List ℕ) → AreBytesOf f h message bs → read_typed f bs ≡ Some (h, message)
  typed_back h message bs are =
      ap (λ b. with_message f (if b then heading.read bs else None)) (le-leb (length bs) MAX_DATAGRAM are.size)
      ∙ ap (λ bs. with_message f (heading.read bs)) are.bytes
      ∙ ap (with_message f) (heading_is_format.reads_back h (f.spell message) are.heading)
      ∙ ap (option_map (λ m. (h, m))) (whole_back message are.message)

  -- a heading, and what stands behind it
  record IsTyped (h : Heading) (m : M) (bs : List ℕ) : Type 0 where
    size : length bs ≤ MAX_DATAGRAM
    body : List ℕ
    heading : heading.read bs ≡ Some (h, body)
    message : read_whole f body ≡ Some m

  by_message : (bs body : List ℕ) (g h : Heading) (o : Option M) (message : M) → length bs ≤ MAX_DATAGRAM → heading.read bs ≡ Some (g, body) → read_whole f body ≡ o
      → ◌≡◌ {A = Option (Heading × M)} (option_map (λ m. (g, m)) o) (Some (h, message)) → IsTyped h message bs
  by_message bs body g h None message short read is e = cc
  by_message bs body g h (Some m) message short read is e =
      let same : ◌≡◌ {A = Heading × M} (g, m) (h, message) = cc in
      record {
        size = short;
        body = body;
        heading = read ∙ ap (λ (p : Heading × M). let found : Option (Heading × List ℕ) = Some (p.0, body) in found) same;
        message = is ∙ ap (λ (p : Heading × M). Some p.1) same;
      }

  by_heading : (bs : List ℕ) (o : Option (Heading × List ℕ)) (h : Heading) (message : M) → length bs ≤ MAX_DATAGRAM → heading.read bs ≡ o → with_message f o ≡ Some (h, message)
      → IsTyped h message bs
  by_heading bs None h message short read e = cc
  by_heading bs (Some p) h message short read e = by_message bs p.1 p.0 h (read_whole f p.1) message short read refl e

  by_size : (bs : List ℕ) (b : Bool) (h : Heading) (message : M) → nat_le (length bs) MAX_DATAGRAM ≡ b → with_message f (if b then heading.read bs else None) ≡ Some (h, message)
      → IsTyped h message bs
  by_size bs true h message short e = by_heading bs (heading.read bs) h message (leb-true (length bs) MAX_DATAGRAM short) refl e
  by_size bs false h message short e = cc

  -- so it is in range
  pub typed_fits : (bs : List ℕ) (h : Heading) (message : M) → read_typed f bs ≡ Some (h, message) → heading.Fits h × f.Fits message
  typed_fits bs h message e =
      let typed = by_size bs (nat_le (length bs) MAX_DATAGRAM) h message refl e in
      ((heading_is_format.one_spelling bs h typed.body typed.heading).fits, (whole_one typed.body message typed.message).fits)

  pub typed_one : (bs : List ℕ) (h : Heading) (message : M) → AreMessagesOf h.stack h.kind f → read_typed f bs ≡ Some (h, message) → AreBytesOf f h message bs
  typed_one bs h message of e =
      let typed = by_size bs (nat_le (length bs) MAX_DATAGRAM) h message refl e in
      let front = heading_is_format.one_spelling bs h typed.body typed.heading in
      let end = whole_one typed.body message typed.message in
      record {
        of = of;
        heading = front.fits;
        message = end.fits;
        size = typed.size;
        bytes = front.bytes ∙ ap (λ body. heading.spell h ++ body) (end.bytes ∙ append-nil (f.spell message));
      }
