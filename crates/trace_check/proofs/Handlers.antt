-- Handlers that are a stack by themselves are spelled, where their states keep to something by which what they put out has texts.
use Rattle.std.specs.Prelude.{◌≡◌, ℕ, ◌≤◌, List}
use Rattle.std.proofs.Common.{subst}
use Rattle.net_semantics.specs.Runs.{IsAllowed, no_recovery, trace}
use Rattle.net_semantics.specs.Worlds.{first_world}
use Rattle.schedule_text.specs.Spellable.{IsSpellable}
use Rattle.stacks.specs.Kinds.{OwnHandlers}
use Rattle.vst_base.specs.Stacks.{row_of}
use Rattle.vst_base.specs.declared.step.Item.{Item}
use Rattle.vst_base.specs.declared.step.Item.TheVariants as item
use Rattle.vst_base.specs.declared.step.Step.{Step}
use Rattle.vst_base.specs.declared.step.Step.TheVariants as step
use Rattle.trace_check.specs.Spelled.{AreSpelledHandlers, HasInputText, HasOutputText, IsTextItem}
use Rattle.trace_check.proofs.Machines.{AreShortTexts, own-input, texts-spelled}
use Rattle.trace_check.proofs.TraceLengths.{TellsOnce, trace-length}
use Rattle.trace_check.proofs.Runs.{KeepsTexts, trace-texts}
use Rattle.lists.specs.Each.{Each, each_weaker}

-- steps and items of which more holds
step-weaker : {I : Type 0} (P Q : I → Type 0) → ((i : I) → P i → Q i) → (s : Step I) → IsSpellable P s → IsSpellable Q s
step-weaker P Q weaker (step.In n i) has = (has.0, weaker i has.1)
step-weaker P Q weaker (step.Deliver k) has = has
step-weaker P Q weaker (step.Tick n) has = has
step-weaker P Q weaker (step.Dup k) has = has
step-weaker P Q weaker (step.Lose k) has = has
step-weaker P Q weaker (step.Crash n) has = has
step-weaker P Q weaker (step.Reboot n) has = has

pub item-weaker : {I O : Type 0} (nodes : ℕ) (P Q : I → Type 0) (R S : O → Type 0) → ((i : I) → P i → Q i) → ((o : O) → R o → S o) → (x : Item I O) → IsTextItem nodes P R x → IsTextItem nodes Q S x
item-weaker nodes P Q R S ins outs (item.Input n i) has = (has.0, ins i has.1)
item-weaker nodes P Q R S ins outs (item.Output n o) has = (has.0, outs o has.1)

module _ (h : OwnHandlers) (HasIn : h.Input → Type 0) (HasOut : h.Output → Type 0) (is : AreShortTexts h.texts HasIn HasOut) (nodes : (n : ℕ) → (h.handlers n).nodes ≡ n) (Sound : ℕ → ℕ → h.State → Type 0) (Fine : h.Msg → Type 0)
    (keeps : (n : ℕ) → n ≤ (row_of h.own).most → KeepsTexts (row_of h.own).net (h.handlers n) (no_recovery {S = h.State}) HasIn HasOut (Sound n) Fine) (once : (n : ℕ) → TellsOnce (h.handlers n)) where
  items : (n : ℕ) (ss : List (Step h.Input)) → n ≤ (row_of h.own).most → IsAllowed (row_of h.own).net (h.handlers n) (no_recovery {S = h.State}) ss → Each (IsSpellable (HasInputText h.texts)) ss
      → Each (IsTextItem n (HasInputText h.texts) (HasOutputText h.texts)) (trace (h.handlers n) (no_recovery {S = h.State}) ss)
  items n ss most allowed steps =
      let own = each_weaker (IsSpellable (HasInputText h.texts)) (IsSpellable HasIn) (step-weaker (HasInputText h.texts) HasIn (own-input h.texts HasIn HasOut is)) ss steps in
      let seen = trace-texts (row_of h.own).net (h.handlers n) (no_recovery {S = h.State}) HasIn HasOut (Sound n) Fine (keeps n most) ss allowed own in
      each_weaker (IsTextItem n HasIn HasOut) (IsTextItem n (HasInputText h.texts) (HasOutputText h.texts))
      (item-weaker n HasIn (HasInputText h.texts) HasOut (HasOutputText h.texts) is.ins.reads_back is.outs.reads_back) (trace (h.handlers n) (no_recovery {S = h.State}) ss)
      (subst (λ k. Each (IsTextItem k HasIn HasOut) (trace (h.handlers n) (no_recovery {S = h.State}) ss)) (nodes n) seen)

  pub handlers-spelled : AreSpelledHandlers h
  handlers-spelled = record {
    texts = texts-spelled h.texts HasIn HasOut is;
    nodes = nodes;
    items = items;
    few = λ n ss. trace-length (h.handlers n) no_recovery (once n) (first_world (h.handlers n)) ss;
  }
