-- What a claim on a machine on a cluster holds has texts, where the claim was read.
use Rattle.std.specs.Prelude.{◌≡◌, ℕ, List, [], ◌∷◌, map, Option, Some, None, ok_or, IfOk, refl}
use Rattle.check_text.specs.Forms.{Form, claim_of, form_of}
use Rattle.check_text.specs.ImageLines.{after_order, order_says}
use Rattle.check_text.specs.Reading.{Whole}
use Rattle.claim_verdicts.specs.Clusters.{ClusterClaim}
use Rattle.claim_verdicts.specs.Laws.{AreSpelled, IsSpelledItem}
use Rattle.claim_verdicts.proofs.Decided.{yes-linearizable}
use Rattle.line_reader.specs.declared.why.Why.TheVariants as why
use Rattle.raft_text.specs.RaftTexts.{IsRaftInput, IsRaftOutput, raft_input_of, raft_output_of}
use Rattle.raft_text.specs.RaftTextLaws.{raft_inputs_are_spelled, raft_outputs_are_spelled}
use Rattle.raft_types.specs.declared.client.RaftInput.{RaftInput}
use Rattle.raft_types.specs.declared.client.RaftOut.{RaftOut}
use Rattle.raft_types.specs.declared.client.RaftOut.TheVariants as told
use Rattle.schedule_text.specs.Reading.{and_then}
use Rattle.stacks.specs.Claimed.{claims}
use Rattle.stacks.specs.Kinds.{Clustered, OnCluster}
use Rattle.stacks.specs.Plays.{Texts}
use Rattle.vst_base.specs.declared.step.Item.{Item}
use Rattle.vst_base.specs.declared.step.Item.TheVariants as item
use Rattle.trace_check.specs.Spelled.{HasInputText, HasOutputText, IsSpelledMachine, IsTextItem}
use Rattle.trace_check.proofs.ReadClaims.{AreApart, IfSays, read-whole, said-there}
use Rattle.trace_check.proofs.Verdicts.{IsDecided}
use Rattle.lists.specs.Each.{Each, each_weaker}

commands-text : {C : Type 0} (HasIn : C → Type 0) (order : List (RaftInput C)) → Each (IsRaftInput HasIn) order → Each HasIn (map (λ r. r.cmd) order)
commands-text HasIn [] all = tt
commands-text HasIn (r ∷ order) all = (all.0.2, commands-text HasIn order all.1)

item-spelled : {C O : Type 0} (nodes : ℕ) (HasIn : C → Type 0) (HasOut : O → Type 0) (x : Item (RaftInput C) (RaftOut O)) → IsTextItem nodes (IsRaftInput HasIn) (IsRaftOutput HasOut) x → IsSpelledItem HasIn HasOut x
item-spelled nodes HasIn HasOut (item.Input n i) has = has.1.2
item-spelled nodes HasIn HasOut (item.Output n (told.Reply client request o)) has = has.1.2
item-spelled nodes HasIn HasOut (item.Output n (told.NotLeader client request)) has = tt
item-spelled nodes HasIn HasOut (item.Output n (told.Full client request)) has = tt

-- a line of an order
module _ {I : Type 0} (f : List ℕ → Option I) (HasIn : I → Type 0) (has_text : (bs : List ℕ) (i : I) → f bs ≡ Some i → HasIn i) where
  text-there : (bs : List ℕ) (o : Option I) → f bs ≡ o → IfOk (ok_or o why.Text) HasIn
  text-there bs None is = tt
  text-there bs (Some i) is = has_text bs i is

  rest-there : (o : Option (List ℕ)) → IfOk (and_then (ok_or o why.UnknownWord) (λ text. ok_or (f text) why.Text)) HasIn
  rest-there None = tt
  rest-there (Some bs) = text-there bs (f bs) refl

  order-text : (l : List ℕ) → IfSays HasIn (order_says f l)
  order-text l = said-there HasIn (and_then (ok_or (after_order l) why.UnknownWord) (λ text. ok_or (f text) why.Text)) (rest-there (after_order l))

-- how a claim is spelled whose image is an order of requests
abbrev pub order_form : {C O : Type 0} → ℕ → Texts C O → Form (RaftInput C) (RaftOut O) (RaftInput C)
order_form nodes t = form_of nodes (raft_input_of t.input_of) (raft_output_of t.output_of) None (order_says (raft_input_of t.input_of))

module _ (apart : AreApart) (nodes : ℕ) (k : OnCluster) (spelled : IsSpelledMachine k.application) where
  abbrev HasIn : k.application.Command → Type 0
  HasIn c = HasInputText k.application.texts c

  abbrev HasOut : k.application.Output → Type 0
  HasOut o = HasOutputText k.application.texts o

  cluster-spelled : (ls : List (List ℕ)) (c : ClusterClaim k.application.Command k.application.Output) → claim_of (order_form nodes k.application.texts) ls ≡ Whole c → AreSpelled HasIn HasOut k.application.machine c
  cluster-spelled ls c is =
      let requests = raft_inputs_are_spelled spelled.texts.inputs in
      let answers = raft_outputs_are_spelled spelled.texts.outputs in
      let read = read-whole apart (order_form nodes k.application.texts) (IsRaftInput HasIn) (IsRaftOutput HasOut) (IsRaftInput HasIn) requests.has_text answers.has_text
      (order-text (raft_input_of k.application.texts.input_of) (IsRaftInput HasIn) requests.has_text) ls c is in
      record {
        trace = each_weaker (IsTextItem nodes (IsRaftInput HasIn) (IsRaftOutput HasOut)) (IsSpelledItem HasIn HasOut) (item-spelled nodes HasIn HasOut) c.trace read.trace;
        order = each_weaker (IsRaftInput HasIn) (λ r. HasIn r.cmd) (λ r has. has.2) c.image read.image;
        outputs = spelled.answers (map (λ r. r.cmd) c.image) (commands-text HasIn c.image read.image);
      }

  pub cluster-decided : (n : ℕ) → IsDecided nodes (claims (Clustered k) n)
  cluster-decided n ls c is =
      yes-linearizable HasOut k.application.texts.output_of k.application.texts.output_text spelled.texts.outputs k.application.machine HasIn k.application.texts.input_of k.application.texts.input_text spelled.texts.inputs c (cluster-spelled ls c is)
