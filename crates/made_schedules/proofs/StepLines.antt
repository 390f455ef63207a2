-- A step that is made has a line, and a short one.
use Rattle.std.specs.Prelude.{ℕ, zero, suc, ◌+◌, ◌*◌, ◌<◌, ◌≤◌, List, ◌∷◌, length}
use Rattle.std.specs.Fmt.{decimal}
use Rattle.std.proofs.Common.{arith, length-append}
use Rattle.std.proofs.lemmas.Fmt.{length-decimal-le}
use Rattle.handler_trait.specs.Handling.{Meaning, Recovery}
use Rattle.net_semantics.specs.Steps.{next}
use Rattle.net_semantics.specs.Worlds.{World, first_world}
use Rattle.rand_pcg.specs.Lcg.{Lcg}
use Rattle.schedule_make.specs.Candidates.{candidates, chosen, drawn_kind, made_kind}
use Rattle.schedule_make.specs.Made.{Inputs, after_words, generator, made_from, made_step, step_of, words_of}
use Rattle.schedule_text.specs.Printing.{numbered, step_text}
use Rattle.schedule_text.specs.Spellable.{AreSpellable, IsSpellable}
use Rattle.schedule_text.specs.Words.{word_of}
use Rattle.vst_base.specs.declared.net.Net.{Net}
use Rattle.vst_base.specs.declared.node.TheConstants.{MAX_NODES}
use Rattle.vst_base.specs.declared.step.StepKind.{StepKind}
use Rattle.vst_base.specs.declared.step.StepKind.TheVariants as kind
use Rattle.vst_base.specs.declared.step.TheConstants.{MAX_STEPS}
use Rattle.made_schedules.specs.MadeLines.{HaveLines}
use Rattle.made_schedules.specs.Sends.{SendsFew}
use Rattle.made_schedules.specs.Texts.{HaveShortTexts}
use Rattle.made_schedules.proofs.Numbers.{chosen-below}
use Rattle.vst_base.specs.Nets.{view_of}
use Rattle.made_schedules.proofs.Packets.{packets-after}

-- a word and a number in range
length-numbered : (word : List ℕ) (n : ℕ) → n < 4294967296 → length (numbered word n) ≤ length word + 11
length-numbered word n low = omega (arith, length-append word (32 ∷ decimal n), length-decimal-le 10 n (omega arith) (omega (arith, low)) (omega (arith, low)))

module _ {I : Type 0} (HasText : I → Type 0) (input_text : I → List ℕ) where
  spelled : (k : StepKind) (i : I) (n : ℕ) → n < 4294967296 → HasText i → IsSpellable HasText (step_of i k n)
  spelled kind.In i n low has = (low, has)
  spelled kind.Deliver i n low has = low
  spelled kind.Tick i n low has = low
  spelled kind.Dup i n low has = low
  spelled kind.Lose i n low has = low
  spelled kind.Crash i n low has = low
  spelled kind.Reboot i n low has = low

  short : (k : StepKind) (i : I) (n : ℕ) → n < 4294967296 → length (input_text i) ≤ 4000 → length (step_text input_text (step_of i k n)) ≤ 4096
  short kind.In i n low few =
      omega (arith, length-append (numbered (word_of kind.In) n) (32 ∷ input_text i), length-numbered (word_of kind.In) n low, few)
  short kind.Deliver i n low few = omega (arith, length-numbered (word_of kind.Deliver) n low)
  short kind.Tick i n low few = omega (arith, length-numbered (word_of kind.Tick) n low)
  short kind.Dup i n low few = omega (arith, length-numbered (word_of kind.Dup) n low)
  short kind.Lose i n low few = omega (arith, length-numbered (word_of kind.Lose) n low)
  short kind.Crash i n low few = omega (arith, length-numbered (word_of kind.Crash) n low)
  short kind.Reboot i n low few = omega (arith, length-numbered (word_of kind.Reboot) n low)

module _ {S K I O M : Type 0} (HasText : I → Type 0) (input_text : I → List ℕ) (net : Net) (m : Meaning S I O M) (r : Recovery S K) (inputs : Inputs I)
    (nodes : m.nodes ≤ MAX_NODES) (few : SendsFew m) (texts : HaveShortTexts HasText input_text inputs) where
  -- where so many packets were sent as steps before may have sent
  made-lines : (w : World S K M) (place : ℕ) (g : Lcg) (steps : ℕ) → length w.packets ≤ MAX_NODES * place → place + steps ≤ MAX_STEPS
      → AreSpellable HasText input_text (made_from net m r inputs w place g steps)
  made-lines w place g zero sent within = tt
  made-lines w place g (suc steps) sent within =
      let words = words_of g in
      let k = made_kind net m w (drawn_kind words.kind) in
      let i = inputs words.input place in
      let s = made_step net m inputs w place words in
      let here : place < MAX_STEPS = omega (arith, within) in
      let n = chosen (candidates net m w k) words.number in
      let packets : length w.packets ≤ 4294967296 = omega (arith, sent, here) in
      let low : n < 4294967296 = chosen-below net m w 4294967296 (omega arith) (omega (arith, nodes)) packets k words.number in (
        spelled HasText input_text k i n low (texts.has_text words.input place here),
        short HasText input_text k i n low (texts.short words.input place here),
        made-lines (next m r w s) (place + 1) (after_words g) steps (omega (arith, packets-after m r few w (view_of s), sent)) (omega (arith, within)),
      )

  pub have-lines : HaveLines HasText input_text net m r inputs
  have-lines seed steps within = made-lines (first_world m) 0 (generator seed) steps (omega arith) (omega (arith, within))
