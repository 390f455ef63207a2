-- A claim that was read: a trace, and the image below it that is to explain it.
use Rattle.std.specs.Prelude.{ℕ, ◌+◌, List, [], ◌∷◌, length, Option, Some, None}
use Rattle.vst_base.specs.declared.step.Item.{Item}
use Rattle.schedule_text.specs.declared.header.Header.{Header}

-- what clients are claimed to have seen, the header of the image, if it has one, and the image's other lines
pub record Claim (I O X : Type 0) : Type 0 where
  pub trace : List (Item I O)
  pub header : Option Header
  pub image : List X

abbrev pub lines_in : Option Header → ℕ
lines_in None = 0
lines_in (Some h) = 1

-- no line of a claim is skipped, so the number of a line is known by its place, from 0: that of an item of the trace, that
-- of `below`, and that of a line of the image after its header, or of the line after the last where the place is after them
abbrev pub item_line : ℕ → ℕ
item_line place = place + 1

module _ {I O X : Type 0} (c : Claim I O X) where
  abbrev pub below_line : ℕ
  below_line = length c.trace + 1

  abbrev pub image_line : ℕ → ℕ
  image_line place = below_line + lines_in c.header + place + 1

module _ {I O X : Type 0} where
  -- a claim with an item before the others, and one with a line of the image before the others
  abbrev pub with_item : Item I O → Claim I O X → Claim I O X
  with_item x c = record { trace = x ∷ c.trace; header = c.header; image = c.image }

  -- a claim without a trace
  abbrev pub only_image : Option Header → List X → Claim I O X
  only_image h xs = record { trace = []; header = h; image = xs }
