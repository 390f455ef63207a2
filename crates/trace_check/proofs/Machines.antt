-- Machines whose outputs have texts where their commands have: by what each state keeps to, and by what is read back.
use Rattle.std.specs.Prelude.{◌≡◌, ◌≢◌, ℕ, ◌≤◌, List, [], ◌∷◌, ◌++◌, length, Option, Some, codes, refl}
use Rattle.std.proofs.Common.{ap, ◌∙◌, sym, subst}
use Rattle.app_text.specs.Spelling.{IsSpelling}
use Rattle.net_semantics.specs.Runs.{no_recovery}
use Rattle.trace_maps.specs.SingleNode.{single_node}
use Rattle.stacks.specs.Kinds.{Application}
use Rattle.stacks.specs.Plays.{Texts}
use Rattle.vst_base.specs.Machines.{MachineMeaning, fold, outputs_from, state_after}
use Rattle.vst_base.specs.declared.net.Net.TheVariants as net
use Rattle.trace_check.specs.Spelled.{AreSpelled, HasInputText, HasOutputText, IsSpelledMachine, most_bytes}
use Rattle.trace_check.proofs.Runs.{KeepsTexts}
use Rattle.lists.specs.Each.{Each, each_append, each_back, each_weaker}

-- a machine whose states stay sound, and whose outputs have texts, where its commands have texts
pub record MachineKeeps {S C O : Type 0} (m : MachineMeaning S C O) (HasIn : C → Type 0) (HasOut : O → Type 0) (Sound : S → Type 0) : Type 0 where
  pub init : Sound m.init
  pub state : (s : S) (c : C) → Sound s → HasIn c → Sound (m.apply s c).0
  pub output : (s : S) (c : C) → Sound s → HasIn c → HasOut (m.apply s c).1

-- so it does at its own node
pub single-keeps : {S C O : Type 0} (m : MachineMeaning S C O) (HasIn : C → Type 0) (HasOut : O → Type 0) (Sound : S → Type 0) → MachineKeeps m HasIn HasOut Sound
    → KeepsTexts net.One (single_node m) (no_recovery {S = S}) HasIn HasOut (λ n s. Sound s) (λ _. Unit {0})
single-keeps m HasIn HasOut Sound keeps = record {
  init = λ n. keeps.init;
  input = λ n s c below sound has. record { state = keeps.state s c sound has; outputs = (keeps.output s c sound has, tt); sends = tt };
  message = λ n s from c below from_below sound fine. record { state = sound; outputs = tt; sends = tt };
  timeout = λ n s below sound. record { state = sound; outputs = tt; sends = tt };
  reboot = λ n s sound. sound;
}

outputs-text : {S C O : Type 0} (m : MachineMeaning S C O) (HasIn : C → Type 0) (HasOut : O → Type 0) (Sound : S → Type 0) → MachineKeeps m HasIn HasOut Sound
    → (s : S) → Sound s → (cs : List C) → Each HasIn cs → Each HasOut (outputs_from m s cs)
outputs-text m HasIn HasOut Sound keeps s sound [] all = tt
outputs-text m HasIn HasOut Sound keeps s sound (c ∷ cs) all =
    (keeps.output s c sound all.0, outputs-text m HasIn HasOut Sound keeps (m.apply s c).0 (keeps.state s c sound all.0) cs all.1)

-- what has a text by any spelling is read back from its own, and the other way round
pub own-text : {V : Type 0} (HasText : V → Type 0) (value_of : List ℕ → Option V) (text_of : V → List ℕ) → IsSpelling HasText value_of text_of → (v : V) → value_of (text_of v) ≡ Some v → HasText v
own-text HasText value_of text_of s v e = s.has_text (text_of v) v e

pub by-reading : {V : Type 0} (HasText : V → Type 0) (value_of : List ℕ → Option V) (text_of : V → List ℕ) → IsSpelling HasText value_of text_of → IsSpelling (λ v. value_of (text_of v) ≡ Some v) value_of text_of
by-reading HasText value_of text_of s = record {
  one_text = s.one_text;
  has_text = λ bs v e. ap value_of (s.one_text bs v e) ∙ e;
  reads_back = λ v e. e;
  one_line = λ v e. s.one_line v (s.has_text (text_of v) v e);
}

-- texts that are spelled, with room for them on a line
module _ {I O : Type 0} (t : Texts I O) (HasIn : I → Type 0) (HasOut : O → Type 0) where
  pub record AreShortTexts : Type 0 where
    pub ins : IsSpelling HasIn t.input_of t.input_text
    pub outs : IsSpelling HasOut t.output_of t.output_text
    pub short_ins : (i : I) → HasIn i → length (t.input_text i) ≤ most_bytes
    pub short_outs : (o : O) → HasOut o → length (t.output_text o) ≤ most_bytes

  module _ (is : AreShortTexts) where
    pub texts-spelled : AreSpelled t
    texts-spelled = record {
      inputs = by-reading HasIn t.input_of t.input_text is.ins;
      outputs = by-reading HasOut t.output_of t.output_text is.outs;
      short_inputs = λ i e. is.short_ins i (own-text HasIn t.input_of t.input_text is.ins i e);
      short_outputs = λ o e. is.short_outs o (own-text HasOut t.output_of t.output_text is.outs o e);
    }

    pub own-input : (i : I) → HasInputText t i → HasIn i
    own-input i e = own-text HasIn t.input_of t.input_text is.ins i e

    own-output : (o : O) → HasOutputText t o → HasOut o
    own-output o e = own-text HasOut t.output_of t.output_text is.outs o e

-- a machine that keeps its states to something by which its outputs have texts
module _ (p : Application) (HasIn : p.Command → Type 0) (HasOut : p.Output → Type 0) (Sound : p.State → Type 0) (is : AreShortTexts p.texts HasIn HasOut) (keeps : MachineKeeps p.machine HasIn HasOut Sound) where
  pub machine-spelled : ((o : p.Output) → HasOut o → p.texts.output_text o ≢ codes "redirect") → IsSpelledMachine p
  machine-spelled no_redirect = record {
    texts = texts-spelled p.texts HasIn HasOut is;
    no_redirect = λ o e. no_redirect o (own-output p.texts HasIn HasOut is o e);
    answers = λ cs all.
        each_weaker HasOut (HasOutputText p.texts) is.outs.reads_back (fold p.machine cs)
        (outputs-text p.machine HasIn HasOut Sound keeps p.machine.init keeps.init cs (each_weaker (HasInputText p.texts) HasIn (own-input p.texts HasIn HasOut is) cs all));
  }

-- what a machine does of more commands after some
module _ {S C O : Type 0} (m : MachineMeaning S C O) where
  state-behind : (s : S) (cs ds : List C) → state_after m s (cs ++ ds) ≡ state_after m (state_after m s cs) ds
  state-behind s [] ds = refl
  state-behind s (c ∷ cs) ds = state-behind (m.apply s c).0 cs ds

  outputs-behind : (s : S) (cs ds : List C) → outputs_from m s (cs ++ ds) ≡ outputs_from m s cs ++ outputs_from m (state_after m s cs) ds
  outputs-behind s [] ds = refl
  outputs-behind s (c ∷ cs) ds = ap (λ os. (m.apply s c).1 ∷ os) (outputs-behind (m.apply s c).0 cs ds)

-- and each spelled machine is one: its states are those that commands with texts lead to
module _ (p : Application) (is : IsSpelledMachine p) where
  pub record IsTextState (s : p.State) : Type 0 where
    commands : List p.Command
    texts : Each (HasInputText p.texts) commands
    after : s ≡ state_after p.machine p.machine.init commands

  next-state : (s : p.State) (c : p.Command) → IsTextState s → HasInputText p.texts c → IsTextState (p.machine.apply s c).0
  next-state s c reached has = record {
    commands = reached.commands ++ c ∷ [];
    texts = each_append (HasInputText p.texts) reached.commands (c ∷ []) reached.texts (has, tt);
    after = ap (λ x. (p.machine.apply x c).0) reached.after ∙ sym (state-behind p.machine p.machine.init reached.commands (c ∷ []));
  }

  next-output : (s : p.State) (c : p.Command) → IsTextState s → HasInputText p.texts c → HasOutputText p.texts (p.machine.apply s c).1
  next-output s c reached has =
      let there = state_after p.machine p.machine.init reached.commands in
      let all = is.answers (reached.commands ++ c ∷ []) (each_append (HasInputText p.texts) reached.commands (c ∷ []) reached.texts (has, tt)) in
      let behind = subst (Each (HasOutputText p.texts)) (outputs-behind p.machine p.machine.init reached.commands (c ∷ [])) all in
      let last = (each_back (HasOutputText p.texts) (fold p.machine reached.commands) ((p.machine.apply there c).1 ∷ []) behind).0 in
      subst (λ x. HasOutputText p.texts (p.machine.apply x c).1) (sym reached.after) last

  pub spelled-keeps : MachineKeeps p.machine (HasInputText p.texts) (HasOutputText p.texts) IsTextState
  spelled-keeps = record { init = record { commands = []; texts = tt; after = refl }; state = next-state; output = next-output }
