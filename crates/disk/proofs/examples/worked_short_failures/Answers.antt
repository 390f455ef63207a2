use Rattle.std.proofs.Common.{refl, inl, inr}
use Rattle.disk.proofs.examples.worked_short_failures.Goals as goal

pub returns : goal.returns
returns c = record {
  write = inr (inl refl, refl);
  write_of_other_bytes = λ h. elim h [ inl a ↦ absurd (cc (a.0)) | inr b ↦ elim (b.0) [ inl f ↦ absurd (cc f) | inr r ↦ absurd r ] ];
  write_elsewhere = λ h. elim h [ inl a ↦ absurd (cc (a.0)) | inr b ↦ elim (b.0) [ inl f ↦ absurd (cc f) | inr r ↦ absurd r ] ];
  cut = inr (inl refl, refl);
  cut_to_another_length = λ h. elim h [ inl a ↦ absurd (cc (a.0)) | inr b ↦ elim (b.0) [ inl f ↦ absurd (cc f) | inr r ↦ absurd r ] ];
  read_after_the_end = inl (refl, (tt, refl));
  done_with_other_bytes = λ h. elim h [ inl a ↦ absurd (cc (a.0)) | inr b ↦ elim (b.0) [ inl f ↦ absurd (cc f) | inr r ↦ absurd r ] ];
  more = λ h. elim h [ inl a ↦ absurd (a.1.0) | inr b ↦ absurd (cc (b.1)) ];
}
