-- What each fate of a copy leaves as it is.
use Rattle.std.specs.Prelude.{◌≡◌, Option, Some}
use Rattle.std.proofs.Common.{refl}
use Rattle.std.proofs.lemmas.Option.{none-some}
use Rattle.vst_base.specs.Nets.{Fate, Delivered, Copied, Lost}
use Rattle.net_semantics.specs.Steps.{copied, delivered}
use Rattle.net_semantics.specs.Worlds.{Packet, ends_of}

-- what is delivered was there
pub delivered_there : {A : Type 0} (fate : Fate) (o : Option A) (x : A) → delivered fate o ≡ Some x → o ≡ Some x
delivered_there Delivered o x is = is
delivered_there Copied o x is = absurd (none-some x is)
delivered_there Lost o x is = absurd (none-some x is)

-- the ends of what is delivered
pub ends_delivered : {M : Type 0} (fate : Fate) (o : Option (Packet M)) → delivered fate (ends_of o) ≡ ends_of (delivered fate o)
ends_delivered Delivered o = refl
ends_delivered Copied o = refl
ends_delivered Lost o = refl

-- only its number of copies changes
module _ {M : Type 0} (p : Packet M) where
  pub copied_source : (fate : Fate) → (copied fate p).source ≡ p.source
  copied_source Delivered = refl
  copied_source Copied = refl
  copied_source Lost = refl

  pub copied_destination : (fate : Fate) → (copied fate p).destination ≡ p.destination
  copied_destination Delivered = refl
  copied_destination Copied = refl
  copied_destination Lost = refl

  pub copied_content : (fate : Fate) → (copied fate p).content ≡ p.content
  copied_content Delivered = refl
  copied_content Copied = refl
  copied_content Lost = refl
