-- What three areas open as, whatever a slot is made of.
use Rattle.std.specs.Prelude.{◌≡◌, ℕ, ◌%◌, ◌-◌, List, [], ◌∷◌}
use Rattle.disk.specs.Areas.{area_at}
use Rattle.disk.specs.Disk.{Image}

-- why areas are refused
pub data Why : Type 0 where
  BadSelector : Why
  BadSlot : Why
  BadBody : Why
  BadJournal : Why
  OtherStack : (kept configured : ℕ) → Why
  OtherNode : (kept configured : ℕ) → Why
  OtherCluster : (kept configured : ℕ) → Why
  OtherName : (kept configured : List ℕ) → Why

-- what the bytes of one slot are
pub data Found (K : Type 0) : Type 0 where
  Is : (kept : K) → Found K
  Not : (why : Why) → Found K

pub data Opening (K : Type 0) : Type 0 where
  Fresh : Opening K
  Held : (kept : K) → (selector : ℕ) → Opening K
  Refused : (why : Why) → Opening K

-- the slot that a selector names, and the one that it does not
abbrev pub named : ℕ → ℕ
named s = s % 2

abbrev pub other : ℕ → ℕ
other s = 1 - named s

abbrev pub opened : {K : Type 0} → Found K → ℕ → Opening K
opened (Is kept) s = Held kept s
opened (Not why) s = Refused why

abbrev pub by_selector : {K : Type 0} → (List ℕ → Found K) → Image → List ℕ → Opening K
by_selector found image [] = Fresh
by_selector found image (s ∷ []) = opened (found (area_at image (named s))) s
by_selector found image (s ∷ t ∷ rest) = Refused BadSelector

-- what the areas open as, where each slot is found to be what `found` says of its bytes
abbrev pub opening : {K : Type 0} → (List ℕ → Found K) → Image → Opening K
opening found image = by_selector found image image.selector

-- as this state, under whatever selector
abbrev pub OpensAs : {K : Type 0} → (List ℕ → Found K) → K → Image → Type 0
OpensAs found kept image = (s : ℕ) × (opening found image ≡ Held kept s)
