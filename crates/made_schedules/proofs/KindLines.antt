-- What is made for a kind of stack: by its layers, one case for each constructor.
use Rattle.std.specs.Prelude.{ℕ, ◌<◌, ◌≤◌, List, Option}
use Rattle.std.proofs.Common.{arith}
use Rattle.app_text.specs.Spelling.{IsSpelling}
use Rattle.net_semantics.specs.Runs.{no_recovery}
use Rattle.raft_text.specs.RaftTextLaws.{raft_inputs_are_spelled}
use Rattle.schedule_make.specs.Inputs.{asked_by_client}
use Rattle.schedule_make.specs.Made.{Inputs}
use Rattle.stacks.specs.Plays.{Found, Here, IfFound, Nowhere, Texts}
use Rattle.stacks.specs.Kinds.{Alone, Application, Backed, Clustered, Itself, Kind, Layers, Own, Steady, Through, raft_texts, service}
use Rattle.stacks.specs.Made.{layers_make, makes}
use Rattle.vst_base.specs.declared.net.Net.TheVariants as net
use Rattle.vst_base.specs.declared.node.TheConstants.{MAX_NODES}
use Rattle.made_schedules.specs.Makes.{AllHaveLines, IsReadBack, KindMakes, LayersMake, MachineMakes, MakesTexts, most_sends}
use Rattle.made_schedules.specs.Sends.{SendsAtMost}
use Rattle.made_schedules.specs.Texts.{HaveTexts}
use Rattle.made_schedules.proofs.Sends.{at-most-more, backup-few, single-few}
use Rattle.made_schedules.proofs.StepLines.{have-lines}
use Rattle.made_schedules.proofs.Texts.{of-clients, of-commands}

-- there are nodes, and few
pub some-nodes : (l : Layers) (n : ℕ) → LayersMake l → 0 < n → 0 < ((service l).handlers n).nodes
some-nodes (Own h) n can some = omega (arith, can.nodes n, some)
some-nodes (Alone p) n can some = omega arith
some-nodes (Backed p) n can some = omega arith
some-nodes (Through t l) n can some = omega (arith, can.0.nodes ((service l).handlers n), some-nodes l n can.1 some)
some-nodes (Itself i l) n can some = some-nodes l n can some

few-nodes : (l : Layers) (n : ℕ) → LayersMake l → n ≤ MAX_NODES → ((service l).handlers n).nodes ≤ MAX_NODES
few-nodes (Own h) n can few = omega (arith, can.nodes n, few)
few-nodes (Alone p) n can few = omega arith
few-nodes (Backed p) n can few = omega arith
few-nodes (Through t l) n can few = omega (arith, can.0.nodes ((service l).handlers n), few-nodes l n can.1 few)
few-nodes (Itself i l) n can few = few-nodes l n can few

send-few : (l : Layers) (n : ℕ) → LayersMake l → SendsAtMost (most_sends l) ((service l).handlers n)
send-few (Own h) n can = can.sends n
send-few (Alone p) n can = single-few p.machine
send-few (Backed p) n can = backup-few p.machine
send-few (Through t l) n can = can.0.sends (most_sends l) ((service l).handlers n) (send-few l n can.1)
send-few (Itself i l) n can = send-few l n can

-- where values have one text each, those that have one are those that are read back
module _ {V : Type 0} {HasText : V → Type 0} {value_of : List ℕ → Option V} {text_of : V → List ℕ} (s : IsSpelling HasText value_of text_of) where
  pub read-spelled : IsSpelling (IsReadBack value_of text_of) value_of text_of
  read-spelled = record {
    one_text = s.one_text;
    has_text = λ bs v e. s.reads_back v (s.has_text bs v e);
    reads_back = λ v h. h;
    one_line = λ v h. s.one_line v (s.has_text (text_of v) v h);
  }

  pub read-texts : (most : ℕ) (inputs : Inputs V) → HaveTexts most HasText text_of inputs → HaveTexts most (IsReadBack value_of text_of) text_of inputs
  read-texts most inputs h = record { has_text = λ x i below. s.reads_back (inputs x i) (h.has_text x i below); short = h.short }

pub by-spelling : {I O : Type 0} {HasText : I → Type 0} (t : Texts I O) → IsSpelling HasText t.input_of t.input_text → (most : ℕ) (inputs : Inputs I)
    → HaveTexts most HasText t.input_text inputs → MakesTexts most t inputs
by-spelling t s most inputs h = record { spelled = read-spelled s; texts = read-texts s most inputs h }

of-machine : (p : Application) → MachineMakes p → MakesTexts 4000 p.texts p.makes
of-machine p can = record { spelled = can.spelled; texts = of-commands can.texts }

layers-texts : (l : Layers) → LayersMake l → MakesTexts 4000 (service l).texts (layers_make l)
layers-texts (Own h) can = can.inputs
layers-texts (Alone p) can = of-machine p can
layers-texts (Backed p) can = let t = of-machine p can in record { spelled = t.spelled; texts = t.texts }
layers-texts (Through t l) can = layers-texts l can.1
layers-texts (Itself i l) can = layers-texts l can

cluster-texts : (p : Application) → MachineMakes p → MakesTexts 4000 (raft_texts p.texts) (asked_by_client p.makes)
cluster-texts p can = by-spelling (raft_texts p.texts) (raft_inputs_are_spelled can.spelled) 4000 (asked_by_client p.makes) (of-clients can.texts)

-- the inputs of a kind are spelled
pub kind-spelled : (k : Kind) (n : ℕ) → KindMakes k
    → IsSpelling (IsReadBack (makes k n).plays.play.texts.input_of (makes k n).plays.play.texts.input_text) (makes k n).plays.play.texts.input_of (makes k n).plays.play.texts.input_text
kind-spelled (Steady l) n can = (layers-texts l can.layers).spelled
kind-spelled (Clustered k) n can = (cluster-texts k.application can.inputs).spelled

-- and its made schedules have lines
pub kind-lines : (k : Kind) (n : ℕ) → n ≤ MAX_NODES → KindMakes k → AllHaveLines (makes k n)
kind-lines (Steady l) n few can =
    let s = service l in
    have-lines (IsReadBack s.texts.input_of s.texts.input_text) s.texts.input_text s.net (s.handlers n) (no_recovery {S = s.State}) (layers_make l)
    (few-nodes l n can.layers few) (at-most-more (most_sends l) MAX_NODES (s.handlers n) can.sends (send-few l n can.layers)) (layers-texts l can.layers).texts
kind-lines (Clustered k) n few can =
    let p = k.application in
    let t = raft_texts p.texts in
    have-lines (IsReadBack t.input_of t.input_text) t.input_text net.Fail (k.cluster.handlers n) (k.cluster.recovery n) (asked_by_client p.makes)
    (omega (arith, can.nodes n, few)) (can.sends n few) (cluster-texts p can.inputs).texts

pub found-lines : (found : Found Kind) (n : ℕ) → n ≤ MAX_NODES → IfFound found KindMakes → IfFound found (λ k. AllHaveLines (makes k n))
found-lines Nowhere n few can = absurd can
found-lines (Here k) n few can = kind-lines k n few can
