-- Which acts were done, and that they are the asked ones cut short.
use Rattle.std.proofs.Common.{List, [], ◌∷◌, refl, sym, subst, inl, inr}
use Rattle.disk.specs.Acts.{Act, Sync, Quiet, Synced, StoreFailed}
use Rattle.disk.specs.DiskLaws.{IsCutShort}
use Rattle.node_device.proofs.examples.worked_stops.Goals as goal

no_quiet : IsCutShort (Synced 0 ∷ Synced 1 ∷ []) (Quiet 5 ∷ []) → ⊥
no_quiet h = elim h [ inl a ↦ absurd (cc (a.0)) | inr b ↦ elim (b.0) [ inl f ↦ absurd (cc f) | inr r ↦ absurd r ] ]

pub returns : goal.returns
returns c = record {
  before_the_first = ([], tt, record { acts = refl; disk = λ image h. h });
  between = (Synced 0 ∷ [], inl (refl, tt), record { acts = refl; disk = λ image h. h });
  at_a_fault = (Synced 0 ∷ StoreFailed (Sync 1) ∷ [], inl (refl, inr (inl refl, refl)), record { acts = refl; disk = λ image h. h });
  untold = refl;
  another_record = λ h. no_quiet (subst (λ (did : List Act). IsCutShort (Synced 0 ∷ Synced 1 ∷ []) did) (sym h.2.acts) h.1);
}
