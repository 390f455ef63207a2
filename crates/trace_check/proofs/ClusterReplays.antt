-- What a replay of a machine on a cluster wrote is read as a claim, where it has no more lines than a check reads.
use Rattle.std.specs.Prelude.{◌≡◌, ℕ, List, [], ◌∷◌, None, length, ◌≤◌, ◌<◌, refl}
use Rattle.std.proofs.Common.{inl, inr, subst, arith}
use Rattle.check_text.specs.Forms.{claim_of}
use Rattle.check_text.specs.Reading.{Whole}
use Rattle.linearizability.specs.Linearizable.{HasInput, IsLinearizable}
use Rattle.line_reader.specs.Lines.{lines_of}
use Rattle.net_semantics.specs.Worlds.{first_world}
use Rattle.raft_text.specs.RaftTextLaws.{raft_inputs_are_spelled, raft_outputs_are_spelled}
use Rattle.raft_text.specs.RaftTexts.{IsRaftInput, IsRaftOutput}
use Rattle.raft_types.specs.declared.client.RaftInput.{RaftInput}
use Rattle.raft_types.specs.declared.client.RaftOut.{RaftOut}
use Rattle.stacks.specs.ClaimTexts.{claim_by, claim_text}
use Rattle.stacks.specs.Checks.{form_on}
use Rattle.stacks.specs.Claimed.{Claimed, cluster_claimed}
use Rattle.stacks.specs.Clusters.{ActsAs}
use Rattle.stacks.specs.Kinds.{OnCluster, cluster_play}
use Rattle.stacks.specs.Plays.{Play}
use Rattle.vst_base.specs.declared.step.Item.{Item}
use Rattle.vst_base.specs.declared.step.Item.TheVariants as item
use Rattle.vst_base.specs.declared.step.Step.{Step}
use Rattle.trace_check.specs.Spelled.{HasInputText, HasOutputText, IsSpelledCluster, IsTextItem}
use Rattle.trace_check.proofs.TextItems.{more-nodes}
use Rattle.trace_check.proofs.Counts.{trace-inputs}
use Rattle.trace_check.proofs.Lengths.{brief-answers, brief-requests, short-orders}
use Rattle.trace_check.proofs.OrderImages.{orders-said, plain-orders, unheaded}
use Rattle.trace_check.proofs.Requests.{requests-few}
use Rattle.trace_check.proofs.Scripts.{AreReadSteps}
use Rattle.trace_check.proofs.StackReading.{stack-lines, stack-read}
use Rattle.lists.specs.Each.{Each, each_weaker}

-- a request that clients put in has a text
put-in-text : {I O : Type 0} (nodes : ℕ) (HasIn : I → Type 0) (HasOut : O → Type 0) (seen : List (Item I O)) → Each (IsTextItem nodes HasIn HasOut) seen → (i : I) → HasInput seen i → HasIn i
put-in-text nodes HasIn HasOut [] texts i has = absurd has
put-in-text nodes HasIn HasOut (item.Input n j ∷ seen) texts i (inl same) = subst HasIn same texts.0.1
put-in-text nodes HasIn HasOut (item.Input n j ∷ seen) texts i (inr later) = put-in-text nodes HasIn HasOut seen texts.1 i later
put-in-text nodes HasIn HasOut (item.Output n o ∷ seen) texts i has = put-in-text nodes HasIn HasOut seen texts.1 i has

module _ (k : OnCluster) (acts : ActsAs k.application.machine k.cluster) (is : IsSpelledCluster k) (nodes n : ℕ) (few_nodes : nodes < 4294967296) (most : n ≤ nodes) where
  abbrev plays : Play (RaftInput k.application.Command) (RaftOut k.application.Output) (RaftInput k.application.Command)
  plays = cluster_play k n

  abbrev claimed : Claimed (RaftInput k.application.Command) (RaftOut k.application.Output) (RaftInput k.application.Command)
  claimed = cluster_claimed k.application

  pub cluster-read : (ss : List (Step (RaftInput k.application.Command))) → AreReadSteps (IsRaftInput (HasInputText k.application.texts)) ss → plays.refused ss ≡ None → IsLinearizable k.application.machine (plays.image ss) (plays.trace ss)
      → length (lines_of (claim_text plays (claim_by plays ss))) ≤ 8000000 → claim_of (form_on nodes plays claimed) (lines_of (claim_text plays (claim_by plays ss))) ≡ Whole (claim_by plays ss)
  cluster-read ss read allowed explained within =
      let t = k.application.texts in
      let HasIn = HasInputText t in
      let HasOut = HasOutputText t in
      let m = k.cluster.handlers n in
      let again = k.cluster.recovery n in
      let order = plays.image ss in
      let few = read.few in
      let asked = raft_inputs_are_spelled is.machine.texts.inputs in
      let told = raft_outputs_are_spelled is.machine.texts.outputs in
      let seen = is.items n ss (acts.allowed n ss allowed) read.texts in
      let items = more-nodes n nodes (IsRaftInput HasIn) (IsRaftOutput HasOut) most (plays.trace ss) seen in
      let requests = each_weaker (HasInput (plays.trace ss)) (IsRaftInput HasIn) (put-in-text nodes (IsRaftInput HasIn) (IsRaftOutput HasOut) (plays.trace ss) items) order explained.requested.put_in in
      let plain = plain-orders HasIn t.input_of t.input_text asked order requests in
      let orders = orders-said HasIn t.input_of t.input_text asked order requests in
      let brief_asked = brief-requests HasIn t.input_text is.machine.texts.short_inputs in
      let brief_told = brief-answers HasOut t.output_text is.machine.texts.short_outputs in
      let bare = unheaded (form_on nodes plays claimed) (λ number ls. refl) in
      let lines = stack-lines nodes plays claimed (IsRaftInput HasIn) (IsRaftOutput HasOut) few_nodes asked told brief_asked brief_told bare tt tt ss items plain orders in
      let inputs = trace-inputs m again (first_world m) ss in
      let few_requests = requests-few (plays.trace ss) order explained.requested.once explained.requested.put_in in
      stack-read nodes plays claimed (IsRaftInput HasIn) (IsRaftOutput HasOut) few_nodes asked told brief_asked brief_told bare tt tt
      ss items plain orders (subst (λ count. count ≤ 8000000) lines within) (short-orders HasIn t.input_text is.machine.texts.short_inputs order requests) (omega (arith, inputs, few)) (omega (arith, few, inputs, few_requests))
