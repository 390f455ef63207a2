use Rattle.std.proofs.Common.{refl, inl, inr}
use Rattle.disk.proofs.examples.worked_short_acts.Goals as goal

pub returns : goal.returns
returns c = record {
  none = tt;
  beginning = inl (refl, tt);
  whole = inl (refl, inl (refl, tt));
  failed = inl (refl, inr (inl refl, refl));
  failed_read = inl (refl, (tt, refl));
  other_call_failed = λ h. elim h [ inl a ↦ absurd (cc (a.0)) | inr b ↦ elim (b.0) [ inl f ↦ absurd (cc f) | inr r ↦ absurd r ] ];
  on_after_a_failure = λ h. elim h [ inl a ↦ absurd (cc (a.0)) | inr b ↦ absurd (cc (b.1)) ];
  another_act = λ h. elim h [ inl a ↦ absurd (cc (a.0)) | inr b ↦ elim (b.0) [ inl f ↦ absurd (cc f) | inr r ↦ absurd r ] ];
}
