use Rattle.std.specs.Prelude.{nat_lt, slice_set}
use Rattle.std.proofs.Common.{[], ap, ◌∙◌, sym, refl, arith}
use Rattle.std.proofs.lemmas.Option.{slice_get_read}
use Rattle.raft_types.specs.declared.client.RaftInput.{RaftInput}
use Rattle.linearizability.specs.Linearizable.{Seen}
use Rattle.schedule_text.specs.Words.{is_text}
use Rattle.claim_verdicts.specs.Marks.{next_mark}
use Rattle.claim_verdicts.proofs.FirstInputs.{marks-by}
use Rattle.claim_verdicts.proofs.marking.mark_input.Goals as goal

pub returns : goal.returns
returns g c =
    let t = g.A.AppText.input_text in
    let nothing : Seen g.row.A-Input.Denot (Unit {0}) = [] in
    let within = c.in-Some.ensures.within in
    marks-by t nothing _ c.args.order.now c.args.most c.args.input.now c.args.marks.now.items _ c.in-Some.place c.index-order-place.result c.index.result.now c.in-Some.ensures.place
    (slice_get_read c.args.order.now _ _ _ refl (omega (arith, within, c.requires.names)) c.index-order-place.is)
    (slice_get_read c.args.marks.now.items _ _ _ refl (omega (arith, within, c.requires.names, c.requires.marks)) c.index.ensures)
    (ap (λ m. slice_set c.args.marks.now.items c.in-Some.place m)
    (c.next_mark.ensures ∙ ap (λ b. next_mark b (nat_lt c.in-Some.place c.args.most) c.index.result.now)
    (c.in_ok-puts.ensures ∙ ap (λ (r : RaftInput g.row.A-Input.Denot). is_text (t r.cmd) (t c.args.input.now.cmd)) (sym c.index-order-place.is))))
