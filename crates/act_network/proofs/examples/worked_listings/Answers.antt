use Rattle.std.proofs.Common.{[], ◌∷◌, refl, inl, inr}
use Rattle.vst_base.specs.declared.step.Item.TheVariants as item
use Rattle.act_network.proofs.examples.worked_listings.Goals as goal

pub returns : goal.returns
returns g = record {
  all = (item.Output 0 5 ∷ [], refl, inl ([], refl, refl));
  an_output = ([], refl, inr refl);
  no_input = λ h. (let clash = h.1 in cc);
  no_more = λ h. elim h [ inl a ↦ (let x = a.1 in let y = a.2 in cc) | inr e ↦ cc ];
  no_other_order = λ h. (let clash = h.1 in cc);
}
