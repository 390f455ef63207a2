-- A stack whose every event deals in bytes runs as its handlers within.
use Rattle.std.specs.Prelude.{ℕ, ◌≤◌, List, [], ◌∷◌, ◌++◌, length}
use Rattle.std.specs.List.{All}
use Rattle.std.proofs.Common.{arith, length-append}
use Rattle.std.proofs.lemmas.List.Elements.{All-weaker}
use Rattle.handler_trait.specs.Handling.{Meaning, Recovery}
use Rattle.net_semantics.specs.Runs.{IsAllowed, no_recovery, run}
use Rattle.net_semantics.specs.Worlds.{Packet}
use Rattle.vst_base.specs.declared.net.Net.{Net}
use Rattle.vst_base.specs.declared.stack.StackId.{StackId}
use Rattle.vst_base.specs.declared.step.Step.{Step}
use Rattle.wire_codec.specs.Datagrams.{longest_message}
use Rattle.wire_codec.specs.Headings.{HasByte}
use Rattle.wire_fields.specs.Fields.{name}
use Rattle.wire_fields.specs.Formats.{Format, IsFormat}
use Rattle.wired.specs.Dealing.{DealsInBytes, IsGoodPacket, nothing_saved}
use Rattle.wired.specs.StackRuns.{AreInputSteps, MayCome, RunsAsBytes, RunsOnBytesAlone}
use Rattle.wired.specs.Same.{RunsTheSame}
use Rattle.wired.specs.Saving.{ReadsBack, Saving, saved, saved_recovery, world_saved}
use Rattle.wired.specs.WiredRuns.{IsFormatOf, IsSpelledPacket, world_in_bytes}
use Rattle.wired.specs.Wiring.{wired}
use Rattle.wired.proofs.BothSteps.{both_runs}
use Rattle.wired.proofs.Dealing.{all_keep_to}
use Rattle.wired.proofs.HeardBack.{fitting_has_bytes}
use Rattle.wired.proofs.Refusing.{same_first_refused}
use Rattle.wired.proofs.WiredSteps.{wired_runs}

pub inputs_front : {I : Type 0} (IsInput : I → Type 0) (front rest : List (Step I)) → AreInputSteps IsInput (front ++ rest) → AreInputSteps IsInput front
inputs_front IsInput [] rest are = tt
inputs_front IsInput (s ∷ front) rest are = (are.0, inputs_front IsInput front rest are.1)

may_come_front : {I : Type 0} (IsInput : I → Type 0) (front rest : List (Step I)) → MayCome IsInput (front ++ rest) → MayCome IsInput front
may_come_front IsInput front rest may = record { few = omega (arith, length-append front rest, may.few); inputs = inputs_front IsInput front rest may.inputs }

module _ {I M : Type 0} (f : Format M) (is_f : IsFormat f) (stack : StackId) (is_of : IsFormatOf stack f) (has : HasByte stack) (Has : ℕ → ℕ → M → Type 0)
    (fits : (from to : ℕ) (x : M) → Has from to x → f.Fits x × (length (f.spell x) ≤ longest_message)) (IsInput : I → Type 0) where
  good_has_bytes : (nodes : ℕ) (label : List ℕ) → nodes ≤ 9 → name.Fits label → (p : Packet M) → IsGoodPacket Has nodes p → IsSpelledPacket f stack label p
  good_has_bytes nodes label few named p good =
      let fitting = fits p.source p.destination p.content good.1 in
      let from : p.source ≤ 8 = omega (arith, few, good.0.0) in
      let to : p.destination ≤ 8 = omega (arith, few, good.0.1) in
      fitting_has_bytes f is_f stack label p.source p.destination p.content is_of has named from to fitting.0 fitting.1

  all_have_bytes : (nodes : ℕ) (label : List ℕ) → nodes ≤ 9 → name.Fits label → (ps : List (Packet M)) → All (IsGoodPacket Has nodes) ps → All (IsSpelledPacket f stack label) ps
  all_have_bytes nodes label few named ps sent = All-weaker (IsGoodPacket Has nodes) (IsSpelledPacket f stack label) (good_has_bytes nodes label few named) ps sent

  module _ {S O : Type 0} (m : Meaning S I O M) (few : m.nodes ≤ 9) (Good : ℕ → ℕ → S → Type 0) {most : ℕ} (deals : DealsInBytes Has most nothing_saved IsInput m (no_recovery {S = S}) Good) where
    runs_so : (label : List ℕ) (net : Net) (ss : List (Step I)) → name.Fits label → MayCome IsInput ss → IsAllowed net m (no_recovery {S = S}) ss
        → RunsTheSame net (wired f stack label m) (no_recovery {S = S}) m (no_recovery {S = S}) (world_in_bytes f stack label) ss
    runs_so label net ss named may allowed =
        let all = all_keep_to Has nothing_saved IsInput m (no_recovery {S = S}) Good deals net ss may allowed in
        wired_runs f is_f stack label m (no_recovery {S = S}) net ss (all_have_bytes m.nodes label few named (run m (no_recovery {S = S}) ss).packets all.0)

    pub runs_as_bytes : RunsAsBytes f stack IsInput m
    runs_as_bytes label net ss named may = record {
      refused = same_first_refused net (wired f stack label m) (no_recovery {S = S}) m (no_recovery {S = S}) (MayCome IsInput) (may_come_front IsInput)
          (λ ss may allowed s. (runs_so label net ss named may allowed).next_refused s) ss may;
      allowed = λ allowed. runs_so label net ss named may allowed;
    }

  module _ {S K O : Type 0} (m : Meaning S I O M) (r : Recovery S K) (few : m.nodes ≤ 9) (saving : List ℕ → Saving K) (back : (label : List ℕ) → ReadsBack (saving label))
      (Good : ℕ → ℕ → S → Type 0) {most : ℕ} (deals : (label : List ℕ) → name.Fits label → DealsInBytes Has most (saving label) IsInput m r Good) where
    runs_alone_so : (label : List ℕ) (net : Net) (ss : List (Step I)) → name.Fits label → MayCome IsInput ss → IsAllowed net m r ss
        → RunsTheSame net (wired f stack label (saved m)) (saved_recovery (saving label) m r) m r (λ w. world_in_bytes f stack label (world_saved (saving label) w)) ss
    runs_alone_so label net ss named may allowed =
        let all = all_keep_to Has (saving label) IsInput m r Good (deals label named) net ss may allowed in
        both_runs f is_f stack label (saving label) (back label) m r net ss (all_have_bytes m.nodes label few named (run m r ss).packets all.0) all.1

    pub runs_on_bytes_alone : RunsOnBytesAlone f stack saving IsInput m r
    runs_on_bytes_alone label net ss named may = record {
      refused = same_first_refused net (wired f stack label (saved m)) (saved_recovery (saving label) m r) m r (MayCome IsInput) (may_come_front IsInput)
          (λ ss may allowed s. (runs_alone_so label net ss named may allowed).next_refused s) ss may;
      allowed = λ allowed. runs_alone_so label net ss named may allowed;
    }
