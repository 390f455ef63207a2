-- Each output of primary-backup has one text, where the machine's have one that is not `redirect`.
use Rattle.std.specs.Prelude.{◌≡◌, ◌≢◌, ◌==◌, ℕ, Bool, true, false, List, Option, None, Some, codes, refl, if◌then◌else◌}
use Rattle.std.specs.List.{list_any}
use Rattle.std.specs.Option.{option_map}
use Rattle.std.specs.Str.{bytes_eq}
use Rattle.std.proofs.Common.{sym, ap, subst, ◌∙◌}
use Rattle.std.proofs.lemmas.Bool.{false_from_ne_true}
use Rattle.std.proofs.lemmas.Slice.Eq.{bytes_eq-Decides}
use Rattle.vst_base.specs.declared.pb_out.PbOut.{PbOut}
use Rattle.vst_base.specs.declared.pb_out.PbOut.TheVariants.{Reply, Redirect}
use Rattle.app_text.specs.PbTexts.{pb_output_of, pb_output_text, IsPbOutput}
use Rattle.app_text.specs.Spelling.{IsSpelling}

module _ {O : Type 0} {IsOutput : O → Type 0} {output_of : List ℕ → Option O} {output_text : O → List ℕ} (s : IsSpelling IsOutput output_of output_text) where
  record IsReadPbOutput (bs : List ℕ) (v : PbOut O) : Type 0 where
    text : pb_output_text output_text v ≡ bs
    has_text : IsPbOutput IsOutput v

  read : (bs : List ℕ) (v : PbOut O) → pb_output_of output_of bs ≡ Some v → IsReadPbOutput bs v
  read bs v e = by (bytes_eq bs (codes "redirect")) (output_of bs) (bytes_eq-Decides bs (codes "redirect")).0 refl e
    where
      by : (redirect : Bool) (o : Option O) → (redirect ≡ true → bs ≡ codes "redirect") → output_of bs ≡ o
          → (if redirect then Some Redirect else option_map (λ o. Reply o) o) ≡ Some v → IsReadPbOutput bs v
      by true o is_redirect reads e =
          let is : ◌≡◌ {A = PbOut O} Redirect v = cc in
          subst (IsReadPbOutput bs) is (record { text = sym (is_redirect refl); has_text = tt })
      by false (Some o) is_redirect reads e =
          let is : Reply o ≡ v = cc in
          subst (IsReadPbOutput bs) is (record { text = s.one_text bs o reads; has_text = s.has_text bs o reads })
      by false None is_redirect reads e = cc

  module _ (no_redirect : (o : O) → IsOutput o → output_text o ≢ codes "redirect") where
    reads_back : (v : PbOut O) → IsPbOutput IsOutput v → pb_output_of output_of (pb_output_text output_text v) ≡ Some v
    reads_back Redirect has = refl
    reads_back (Reply o) has =
        let other : bytes_eq (output_text o) (codes "redirect") ≡ false = false_from_ne_true _ (λ e. no_redirect o has ((bytes_eq-Decides (output_text o) (codes "redirect")).0 e)) in
        ap (λ b. if b then Some Redirect else option_map (λ o. Reply o) (output_of (output_text o))) other ∙ ap (λ r. option_map (λ o. Reply o) r) (s.reads_back o has)

    one_line : (v : PbOut O) → IsPbOutput IsOutput v → list_any (λ b. b == 10) (pb_output_text output_text v) ≡ false
    one_line Redirect has = refl
    one_line (Reply o) has = s.one_line o has

    pub pb_outputs_are_spelled : IsSpelling (IsPbOutput IsOutput) (pb_output_of output_of) (pb_output_text output_text)
    pb_outputs_are_spelled = record {
      one_text = λ bs v e. (read bs v e).text;
      has_text = λ bs v e. (read bs v e).has_text;
      reads_back = reads_back;
      one_line = one_line;
    }
