-- A format has one spelling over whole byte strings too.
use Rattle.std.proofs.Common.{◌≡◌, ℕ, List, [], ◌∷◌, Option, None, Some, sym, ap, ◌∙◌, append-nil}
use Rattle.wire_fields.specs.Formats.{Format, IsFormat}
use Rattle.wire_messages.specs.Wires.{HasOneSpelling, read_whole, whole}

all_read : {V : Type 0} (o : Option (V × List ℕ)) (v : V) → whole o ≡ Some v → o ≡ Some (v, [])
all_read None v e = cc
all_read {V} (Some p) v e = by p.0 p.1 e
  where
    by : (u : V) (rest : List ℕ) → whole (Some (u, rest)) ≡ Some v → ◌≡◌ {A = Option (V × List ℕ)} (Some (u, rest)) (Some (v, []))
    by u [] e = cc
    by u (_ ∷ _) e = cc

pub one_spelling_of : {V : Type 0} (f : Format V) → IsFormat f → HasOneSpelling f
one_spelling_of {V} f is_f = record { reads_back = back; is_spelled = spelled; no_two = two }
  where
    back : (v : V) → f.Fits v → read_whole f (f.spell v) ≡ Some v
    back v fits = ap whole (ap f.read (sym (append-nil (f.spell v))) ∙ is_f.reads_back v [] fits)

    spelled : (v : V) (bs : List ℕ) → read_whole f bs ≡ Some v → f.Fits v × (bs ≡ f.spell v)
    spelled v bs e =
        let is = is_f.one_spelling bs v [] (all_read (f.read bs) v e) in
        (is.fits, is.bytes ∙ append-nil (f.spell v))

    two : (v : V) (one other : List ℕ) → read_whole f one ≡ Some v → read_whole f other ≡ Some v → one ≡ other
    two v one other e e' =
        (is_f.one_spelling one v [] (all_read (f.read one) v e)).bytes ∙ sym (is_f.one_spelling other v [] (all_read (f.read other) v e')).bytes
