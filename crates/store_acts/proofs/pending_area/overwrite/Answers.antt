use Rattle.std.proofs.Common.{◌≡◌, ◌+◌, ◌-◌, ◌<◌, ◌≤◌, inl, inr, ℕ, List, length, ap, ◌∙◌, arith, rules}
use Rattle.std.proofs.lemmas.Grind.{common_steps}
use Rattle.std.proofs.lemmas.List.{take_all, take_at}
use Rattle.store_acts.proofs.Exchanging.{over_row}
use Rattle.store_acts.proofs.pending_area.overwrite.Goals as goal
use Rattle.store_acts.proofs.pending_area.overwrite.Goals.{then-len-end+in_ok-resize, else-len-end}

pub returns-clause-new : goal.returns-clause-new
returns-clause-new c =
    let old : List ℕ = c.args.old.now.items in
    let bytes : List ℕ = c.args.bytes.items in
    let filled : List ℕ = c.if-len-end.old.items in
    let row : List ℕ = c.exchange.new.row in
    let end : ℕ = c.saturating_add-end.result in
    let some : 0 < length bytes = grind (arith, common_steps) in
    let within : c.args.at + length bytes ≤ length filled = rw (c.deref_mut.ensures.value, c.deref_mut-2.ensures.value) at c.exchange.ensures.within in
    let put = rw (c.deref_mut.ensures.value, c.deref_mut-2.ensures.value) at c.exchange.ensures.row in
    let size : length row ≡ c.if-len-end.old.len = grind (arith, common_steps) in
    take_at row _ c.if-len-end.old.len size
    ∙ over_row old filled row c.args.at bytes some within put
    (elim c.if-len-end.branch [
      | then-len-end+in_ok-resize w ↦ inr (
        end - length old,
        ap (λ v. v.items) w.old-is ∙ (w.in_ok-resize.ensures.items ∙ grind (arith, rules, take_all end old)),
        omega arith,
      )
      | else-len-end w ↦ inl (ap (λ v. v.items) w.old-is)
    ])
