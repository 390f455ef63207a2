use Rattle.std.proofs.Common.{ℕ, cond, ◌&&◌, eqb, Some, sym, ap, refl, ◌∙◌}
use Rattle.read_observer.proofs.Noting.{kept-more, same_pair}
use Rattle.linearizability.specs.Linearizable.{is_named}
use Rattle.read_observer.specs.Pairs.{any_reads}
use Rattle.std.specs.List.{filter}
use Rattle.std.specs.Map.{lookup}
use Rattle.read_observer.proofs.pairs.UsedPairs.note.Goals as goal

pub returns-clause-ok : goal.returns-clause-ok
returns-clause-ok g c = λ is_read earlier reads unused noted client request.
    let i = c.args.request.now in
    let before = ap (lookup (λ (p : ℕ × ℕ). eqb client p.0 && eqb request p.1)) c.self.view_is ∙ noted client request in
    c.in_ok-insert.ensures.updates.0 (client, request)
    ∙ ap (λ o. cond (is_named client request i) (Some c.args.reads) o) before
    ∙ ap (λ b. cond (is_named client request i) (Some b) (any_reads is_read (filter (is_named client request) earlier))) (sym reads)
    ∙ sym (kept-more is_read earlier i unused client request (is_named client request i) refl (same_pair client request i))
