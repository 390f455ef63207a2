-- The tests in turn: past the end, past one of the lengths, in one of the ranges.
use Rattle.std.proofs.Common.{◌<◌, ◌≤◌, length, sym, ◌∙◌, arith}
use Rattle.std.proofs.lemmas.Bool.{false≢true, le-leb}
use Rattle.node_device_mem.specs.MemoryAreas.{area_of}
use Rattle.node_device_mem.proofs.Places.{past_the_end, past_a_length, in_a_range}
use Rattle.node_device_mem.proofs.area.MemoryArea.is_pending.Goals as goal
use Rattle.node_device_mem.proofs.area.MemoryArea.is_pending.Goals.{then-len-place, else-len-place}

pub returns-then-is_past_any : goal.returns-then-is_past_any
returns-then-is_past_any c =
    elim c.if-len-place.branch [
      | then-len-place w ↦ let h : length c.args.self.now.bytes.items ≤ c.args.place = omega arith in
          c.if-is_past_any.true ∙ sym (past_the_end (area_of c.args.self.now) c.args.place h)
      | else-len-place w ↦ c.if-is_past_any.true ∙ sym (past_a_length (area_of c.args.self.now) c.args.place
          (sym (rw w.deref.ensures.value at w.is_past_any.ensures) ∙ (sym w.value-is ∙ c.if-is_past_any.true)))
    ]

pub returns-else-is_past_any : goal.returns-else-is_past_any
returns-else-is_past_any c =
    elim c.if-len-place.branch [
      | then-len-place w ↦ absurd (false≢true (sym c.if-is_past_any.false ∙ (w.value-is ∙ le-leb c.len.result c.args.place w.if-len-place.true)))
      | else-len-place w ↦ let h : c.args.place < length c.args.self.now.bytes.items = omega arith in
          rw c.deref-else-is_past_any.ensures.value at c.is_in_any.ensures ∙ sym (in_a_range (area_of c.args.self.now) c.args.place h
          (sym (rw w.deref.ensures.value at w.is_past_any.ensures) ∙ (sym w.value-is ∙ c.if-is_past_any.false)))
    ]
