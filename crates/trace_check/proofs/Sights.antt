-- What clients see of layers has texts, where the inputs have, with transformers too.
use Rattle.std.specs.Prelude.{ℕ, ◌≤◌, ◌+◌, List, length}
use Rattle.std.proofs.Common.{ap, arith, subst, sym}
use Rattle.app_text.specs.PbTexts.{IsPbOutput, pb_output_of, pb_output_text}
use Rattle.app_text.specs.PbTextLaws.{pb_outputs_are_spelled}
use Rattle.net_semantics.specs.Runs.{IsAllowed, no_recovery, trace}
use Rattle.net_semantics.specs.Worlds.{first_world}
use Rattle.primary_backup.specs.Backup.{Backed as Backup, primary_backup}
use Rattle.schedule_text.specs.Spellable.{IsSpellable}
use Rattle.trace_maps.specs.SingleNode.{single_node}
use Rattle.stacks.specs.Fits.{AreCarried, HasItsNodes, IsCarriedBy}
use Rattle.stacks.specs.Kinds.{Alone, Application, Backed, Itself, Layers, Own, Service, Through, backed, pb_texts, service, single, through}
use Rattle.transformers.specs.Transformers.{IsAllowedAbove, Transformer}
use Rattle.vst_base.specs.declared.net.Net.{Net}
use Rattle.vst_base.specs.declared.net.Net.TheVariants as net
use Rattle.vst_base.specs.declared.pb_out.PbOut.{PbOut}
use Rattle.vst_base.specs.declared.stack.StackRow.{StackRow}
use Rattle.vst_base.specs.declared.step.Step.{Step}
use Rattle.trace_check.specs.Spelled.{AreSpelled, AreSpelledLayers, HasInputText, HasOutputText, IsSpelledMachine, IsTextItem, StaysSpelled, events_in}
use Rattle.trace_check.proofs.Handlers.{item-weaker}
use Rattle.trace_check.proofs.Lengths.{brief-pb-outputs}
use Rattle.trace_check.proofs.Machines.{IsTextState, by-reading, own-text, single-keeps, spelled-keeps}
use Rattle.trace_check.proofs.OneOutput.{backup-once, single-once}
use Rattle.trace_check.proofs.PbRuns.{IsTextBacked, IsTextMsg, backup-keeps}
use Rattle.trace_check.proofs.Runs.{trace-texts}
use Rattle.trace_check.proofs.TextItems.{more-nodes}
use Rattle.trace_check.proofs.TraceLengths.{trace-length}
use Rattle.lists.specs.Each.{Each, each_weaker}

-- texts, and what clients see on so many nodes of inputs that have them: items that have, and two an event at most
pub record IsSpelledService (s : Service) (n : ℕ) : Type 0 where
  pub texts : AreSpelled s.texts
  pub items : (ss : List (Step s.Input)) → IsAllowed s.net (s.handlers n) (no_recovery {S = s.State}) ss → Each (IsSpellable (HasInputText s.texts)) ss
      → Each (IsTextItem n (HasInputText s.texts) (HasOutputText s.texts)) (trace (s.handlers n) (no_recovery {S = s.State}) ss)
  pub few : (ss : List (Step s.Input)) → IsAllowed s.net (s.handlers n) (no_recovery {S = s.State}) ss → length (trace (s.handlers n) (no_recovery {S = s.State}) ss) ≤ events_in ss + events_in ss

-- a machine at its node, and under primary-backup
module _ (p : Application) (is : IsSpelledMachine p) where
  abbrev HasIn : p.Command → Type 0
  HasIn c = HasInputText p.texts c

  abbrev HasOut : p.Output → Type 0
  HasOut o = HasOutputText p.texts o

  alone-seen : (n : ℕ) → 1 ≤ n → IsSpelledService (single p) n
  alone-seen n one =
      let m = single_node p.machine in
      let none = no_recovery {S = p.State} in
      let keeps = single-keeps p.machine HasIn HasOut (IsTextState p is) (spelled-keeps p is) in
      record {
        texts = is.texts;
        items = λ ss allowed steps. more-nodes 1 n HasIn HasOut one (trace m none ss) (trace-texts net.One m none HasIn HasOut (λ n s. IsTextState p is s) (λ _. Unit {0}) keeps ss allowed steps);
        few = λ ss allowed. trace-length m none (single-once p.machine) (first_world m) ss;
      }

  pb-outputs : (o : PbOut p.Output) → HasOutputText (pb_texts p.texts) o → IsPbOutput HasOut o
  pb-outputs o has = own-text (IsPbOutput HasOut) (pb_output_of p.texts.output_of) (pb_output_text p.texts.output_text) (pb_outputs_are_spelled is.texts.outputs is.no_redirect) o has

  pb-spelled : AreSpelled (pb_texts p.texts)
  pb-spelled = record {
    inputs = is.texts.inputs;
    outputs = by-reading (IsPbOutput HasOut) (pb_output_of p.texts.output_of) (pb_output_text p.texts.output_text) (pb_outputs_are_spelled is.texts.outputs is.no_redirect);
    short_inputs = is.texts.short_inputs;
    short_outputs = λ o has. brief-pb-outputs HasOut p.texts.output_text is.texts.short_outputs o (pb-outputs o has);
  }

  backed-seen : (n : ℕ) → 2 ≤ n → IsSpelledService (backed p) n
  backed-seen n two =
      let m = primary_backup p.machine in
      let none = no_recovery {S = Backup p.State p.Command} in
      let state = IsTextState p is in
      let keeps = spelled-keeps p is in
      let HasPbOut = HasOutputText (pb_texts p.texts) in
      record {
        texts = pb-spelled;
        items = λ ss allowed steps.
            let seen = trace-texts net.Bag m none HasIn (IsPbOutput HasOut) (IsTextBacked p.machine HasIn HasOut state keeps) (IsTextMsg p.machine HasIn HasOut state keeps) (backup-keeps p.machine HasIn HasOut state keeps) ss allowed steps in
            more-nodes 2 n HasIn HasPbOut two (trace m none ss)
            (each_weaker (IsTextItem 2 HasIn (IsPbOutput HasOut)) (IsTextItem 2 HasIn HasPbOut) (item-weaker 2 HasIn HasIn (IsPbOutput HasOut) HasPbOut (λ c has. has) (pb_outputs_are_spelled is.texts.outputs is.no_redirect).reads_back) (trace m none ss) seen);
        few = λ ss allowed. trace-length m none (backup-once p.machine) (first_world m) ss;
      }

-- with a transformer that carries them, handlers show what they show of the schedule within
module _ (t : Transformer) (s : Service) (by : IsCarriedBy t s) (n : ℕ) where
  pub allowed-within : (ss : List (Step s.Input)) → IsAllowedAbove t (s.handlers n) ss → IsAllowed s.net (s.handlers n) (no_recovery {S = s.State}) (t.within (s.handlers n) ss)
  allowed-within ss allowed =
      subst (λ (on : Net). IsAllowed on (s.handlers n) (no_recovery {S = s.State}) (t.within (s.handlers n) ss)) (sym by.stands) (by.carries (s.handlers n) ss allowed).allowed

  through-seen : StaysSpelled t s → IsSpelledService s n → IsSpelledService (through t s) n
  through-seen stays inner = record {
    texts = inner.texts;
    items = λ ss allowed steps.
        subst (Each (IsTextItem n (HasInputText s.texts) (HasOutputText s.texts))) (sym (by.carries (s.handlers n) ss allowed).trace)
        (inner.items (t.within (s.handlers n) ss) (allowed-within ss allowed) (stays.texts n ss allowed steps));
    few = λ ss allowed.
        let same = ap (λ items. length items) (by.carries (s.handlers n) ss allowed).trace in
        let below = inner.few (t.within (s.handlers n) ss) (allowed-within ss allowed) in
        omega (arith, same, below, stays.few n ss allowed);
  }

-- the texts of layers are those of what they are made of
pub layers-texts : (l : Layers) → AreSpelledLayers l → AreSpelled (service l).texts
layers-texts (Own h) is = is.texts
layers-texts (Alone p) is = is.texts
layers-texts (Backed p) is = pb-spelled p is
layers-texts (Through t l) is = layers-texts l is.1
layers-texts (Itself i l) is = layers-texts l is

-- on as many nodes as a stack of these layers may have
module _ (row : StackRow) (n : ℕ) (least : row.least ≤ n) (most : n ≤ row.most) where
  pub layers-seen : (l : Layers) → HasItsNodes row l → AreCarried l → AreSpelledLayers l → IsSpelledService (service l) n
  layers-seen (Own h) nodes carried is = record { texts = is.texts; items = λ ss. is.items n ss (omega (arith, nodes.most, most)); few = λ ss allowed. is.few n ss }
  layers-seen (Alone p) nodes carried is = alone-seen p is n (omega (arith, nodes.nodes.least, least))
  layers-seen (Backed p) nodes carried is = backed-seen p is n (omega (arith, nodes.nodes.least, least))
  layers-seen (Through t l) nodes carried is = through-seen t (service l) carried.0 n is.0 (layers-seen l nodes carried.1 is.1)
  layers-seen (Itself i l) nodes carried is = let inner = layers-seen l nodes.1 carried.1 is in record { texts = inner.texts; items = inner.items; few = inner.few }
