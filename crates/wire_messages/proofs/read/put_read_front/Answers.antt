use Rattle.std.proofs.Common.{◌≡◌, ◌++◌, ◌∷◌, [], List, ℕ, sym, ap, ◌∙◌, rules}
use Rattle.wire_fields.specs.Bytes.{number_bytes}
use Rattle.wire_messages.specs.RaftBytes.{front_bytes}
use Rattle.wire_messages.proofs.Each.{adds_all}
use Rattle.wire_messages.proofs.read.put_read_front.Goals as goal

pub returns-clause-ok : goal.returns-clause-ok
unfolding number_bytes
returns-clause-ok c =
    let after : ℕ → List ℕ = λ last. front_bytes c.args.front (number_bytes 8 c.args.round ++ last ∷ []) in
    let round : c.write_u64.new.buf ≡ number_bytes 8 c.args.round ++ 0 ∷ [] = c.write_u64.ensures in
    let front : c.write.new.bytes ≡ front_bytes c.args.front (c.write_u64.new.buf ++ []) = c.write.ensures in
    let bytes : c.write.new.bytes ≡ after 0 = front ∙ ap (λ end. front_bytes c.args.front (end ++ [])) round in
    let count : number_bytes 1 c.args.count ≡ c.args.count ∷ [] = search rules in
    adds_all c.extend_from_slice.result c.args.out.now.items c.extend_from_slice.new.self.items (after c.args.count) _
    (ap (λ end. front_bytes c.args.front (number_bytes 8 c.args.round ++ end)) (sym count)) (rw bytes at c.extend_from_slice.ensures.items)
