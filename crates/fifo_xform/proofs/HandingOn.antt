-- Packets that are handed on, one by one.
use Rattle.std.specs.Prelude.{◌≡◌, ℕ, List, [], ◌∷◌, ◌++◌}
use Rattle.std.proofs.Common.{ap, sym, ◌∙◌, append_assoc}
use Rattle.vst_base.specs.declared.seq.SeqMsg.{SeqMsg}
use Rattle.fifo_xform.specs.Peers.{Peers, peer_of, counting}
use Rattle.fifo_xform.specs.Fifo.{numbered_by}

-- one packet more has its number, and those left have theirs after it
pub handed-one : {M : Type 0} (done now : List (ℕ × SeqMsg M)) (ps ps2 : Peers M) (to number : ℕ) (inner : M) (rest items : List (ℕ × M))
    → now ≡ done ++ (to, record { number = number; inner = inner }) ∷ [] → number ≡ (peer_of ps to).next → ps2 ≡ counting ps to → items ≡ (to, inner) ∷ rest
    → now ++ numbered_by ps2 rest ≡ done ++ numbered_by ps items
handed-one {M} done now ps ps2 to number inner rest items added is_next counts is =
    let front : now ++ numbered_by ps2 rest ≡ (done ++ (to, record { number = number; inner = inner }) ∷ []) ++ numbered_by ps2 rest = ap (λ xs. xs ++ numbered_by ps2 rest) added in
    let moved : (done ++ (to, record { number = number; inner = inner }) ∷ []) ++ numbered_by ps2 rest ≡ done ++ ((to, record { number = number; inner = inner }) ∷ numbered_by ps2 rest) =
    append_assoc done ((to, record { number = number; inner = inner }) ∷ []) (numbered_by ps2 rest) in
    let same : done ++ ((to, record { number = number; inner = inner }) ∷ numbered_by ps2 rest) ≡ done ++ numbered_by ps ((to, inner) ∷ rest) =
    λ i. done ++ ((to, record { number = is_next i; inner = inner }) ∷ numbered_by (counts i) rest) in
    front ∙ (moved ∙ (same ∙ ap (λ xs. done ++ numbered_by ps xs) (sym is)))
