-- What a replay of a stack of each kind wrote is a claim that its image explains, of any handlers and any machine that are spelled.
use Rattle.std.specs.Prelude.{◌≡◌, ℕ, ◌≤◌, ◌<◌, List, length, None}
use Rattle.std.proofs.Common.{◌∙◌, ap, subst, sym, arith, inl, inr}
use Rattle.std.proofs.lemmas.List.{length-map}
use Rattle.check_text.specs.Claims.{Claim}
use Rattle.check_text.specs.Forms.{claim_of}
use Rattle.check_text.specs.Reading.{Whole}
use Rattle.line_reader.specs.Lines.{lines_of}
use Rattle.net_semantics.specs.BelowPb.{below_pb}
use Rattle.net_semantics.specs.Runs.{no_recovery}
use Rattle.net_semantics.specs.Worlds.{first_world}
use Rattle.primary_backup.specs.Backup.{Backed as Backup, primary_backup}
use Rattle.raft_text.specs.RaftTextLaws.{raft_inputs_are_spelled}
use Rattle.raft_text.specs.RaftTexts.{IsRaftInput, raft_input_of}
use Rattle.schedule_replay.specs.Explained.{IsReplayOn}
use Rattle.schedule_text.specs.Headers.{IsBy, IsHeader}
use Rattle.schedule_text.specs.declared.header.Header.{Header}
use Rattle.stacks.specs.Checks.{IsClaim, form_on}
use Rattle.stacks.specs.Claimed.{AnyClaims, claims, layers_claimed}
use Rattle.stacks.specs.ClaimTexts.{claim_by, claim_text}
use Rattle.stacks.specs.Clusters.{ActsAs}
use Rattle.stacks.specs.Fits.{AreCarried, AreLayersOf, HasItsNodes, IsCarriedBy, IsFit}
use Rattle.stacks.specs.Plays.{AnyPlay}
use Rattle.stacks.specs.Kinds.{Alone, Backed, Clustered, Itself, Kind, Layers, OnCluster, Own, Service, Steady, Through, cluster_play, plays, service, service_play, through}
use Rattle.transformers.specs.Transformers.{IsAllowedAbove, Transformer}
use Rattle.vst_base.specs.Stacks.{row_of}
use Rattle.vst_base.specs.declared.net.Net.TheVariants as net
use Rattle.vst_base.specs.declared.stack.StackId.{StackId}
use Rattle.vst_base.specs.declared.stack.StackRow.{StackRow}
use Rattle.vst_base.specs.declared.step.Item.{Item}
use Rattle.vst_base.specs.declared.step.Step.{Step}
use Rattle.vst_base.specs.declared.step.Step.TheVariants as step
use Rattle.trace_check.specs.Spelled.{AreSpelledLayers, HasInputText, IsSpelledCluster, IsSpelledKind, StaysSpelled}
use Rattle.trace_check.proofs.BackedReplays.{backed-read}
use Rattle.trace_check.proofs.ClusterReplays.{cluster-read}
use Rattle.trace_check.proofs.Counts.{below-few, trace-inputs}
use Rattle.trace_check.proofs.Events.{events-few}
use Rattle.trace_check.proofs.ItselfReplays.{itself-read}
use Rattle.trace_check.proofs.Scripts.{AreReadSteps, million-read, steps-read}
use Rattle.trace_check.proofs.Sights.{allowed-within, layers-seen, layers-texts}

-- with a transformer that carries them, handlers make the claim that they make by the schedule within
module _ (t : Transformer) (s : Service) (by : IsCarriedBy t s) (n : ℕ) (ss : List (Step s.Input)) (allowed : IsAllowedAbove t (s.handlers n) ss) where
  abbrev pub under : List (Step s.Input)
  under = t.within (s.handlers n) ss

  abbrev claim_of_items : List (Item s.Input s.Output) → Claim s.Input s.Output s.Line
  claim_of_items items = record { trace = items; header = (s.below n).header; image = s.image n under items }

  pub same-claim : claim_by (service_play s n) under ≡ claim_by (service_play (through t s) n) ss
  same-claim = ap claim_of_items (sym (by.carries (s.handlers n) ss allowed).trace)

  pub read-within : StaysSpelled t s → AreReadSteps (HasInputText s.texts) ss → AreReadSteps (HasInputText s.texts) under
  read-within stays read = let all = read.few in let fewer = stays.few n ss allowed in record { texts = stays.texts n ss allowed read.texts; few = omega (arith, all, fewer) }

-- the image has no more lines than a check reads, where the schedule has no more steps, and on a network that loses packets the image itself
-- has no more
module _ (n : ℕ) where
  abbrev pub IsBrief : (l : Layers) → Claim (service l).Input (service l).Output (service l).Line → Type 0
  IsBrief l c = length c.image ≤ 1000000

  pub layers-brief : (l : Layers) → AreCarried l → AreSpelledLayers l → (ss : List (Step (service l).Input)) → length ss ≤ 1000000 → (service_play (service l) n).refused ss ≡ None
      → ((service l).net ≡ net.Loss → IsBrief l (claim_by (service_play (service l) n) ss)) → IsBrief l (claim_by (service_play (service l) n) ss)
  layers-brief (Own h) carried is ss few allowed lost = few
  layers-brief (Alone p) carried is ss few allowed lost = few
  layers-brief (Backed p) carried is ss few allowed lost =
      let m = primary_backup p.machine in
      let seen = (service_play (service (Backed p)) n).trace ss in
      let inputs = trace-inputs m (no_recovery {S = Backup p.State p.Command}) (first_world m) ss in
      let as_many = length-map (below_pb seen) (λ (c : p.Command). step.In 0 c) in
      omega (arith, few, events-few ss, inputs, below-few seen, as_many)
  layers-brief (Through t l) carried is ss few allowed lost = elim is.0.steps [
    | inl loses ↦ lost loses
    | inr adds ↦
        let s = service l in
        let less = adds.few n ss allowed in
        subst (IsBrief l) (same-claim t s carried.0 n ss allowed)
        (layers-brief l carried.1 is.1 (t.within (s.handlers n) ss) (omega (arith, few, less)) (allowed-within t s carried.0 n ss allowed) (λ on. absurd (adds.lower (sym carried.0.stands ∙ on))))
  ]
  layers-brief (Itself i l) carried is ss few allowed lost = few

-- a stack has these rows' least and most number of nodes, and runs on so many
module _ (each_row : (i : StackId) (h : Header) → IsBy (row_of i) h → IsHeader h) (row : StackRow) (few_nodes : row.most < 4294967296) (n : ℕ) (least : row.least ≤ n) (most : n ≤ row.most) where
  -- the text of the claim that a schedule of layers makes is read as this claim of as many nodes as there may be
  abbrev IsReadBack : (l : Layers) → Claim (service l).Input (service l).Output (service l).Line → Type 0
  IsReadBack l c = claim_of (form_on row.most (service_play (service l) row.most) (layers_claimed l)) (lines_of (claim_text (service_play (service l) n) c)) ≡ Whole c

  pub layers-read : (l : Layers) → HasItsNodes row l → AreCarried l → AreSpelledLayers l → (ss : List (Step (service l).Input)) → AreReadSteps (HasInputText (service l).texts) ss
      → (service_play (service l) n).refused ss ≡ None → IsBrief n l (claim_by (service_play (service l) n) ss) → IsReadBack l (claim_by (service_play (service l) n) ss)
  layers-read (Own h) nodes carried is ss read allowed brief =
      itself-read (service (Own h)) (layers_claimed (Own h)).verdict row.most n few_nodes most (layers-seen row n least most (Own h) nodes carried is)
      each_row h.own n (omega (arith, nodes.least, least)) (omega (arith, nodes.most, most)) (omega (arith, most, few_nodes)) ss read brief allowed
  layers-read (Alone p) nodes carried is ss read allowed brief =
      itself-read (service (Alone p)) (layers_claimed (Alone p)).verdict row.most n few_nodes most (layers-seen row n least most (Alone p) nodes carried is)
      each_row p.own 1 (omega (arith, nodes.image.least)) (omega (arith, nodes.image.most)) (omega arith) ss read brief allowed
  layers-read (Backed p) nodes carried is ss read allowed brief =
      backed-read p row.most n few_nodes most (layers-seen row n least most (Backed p) nodes carried is)
      each_row (omega (arith, nodes.image.least)) (omega (arith, nodes.image.most)) ss read allowed
  layers-read (Through t l) nodes carried is ss read allowed brief =
      let s = service l in
      let same = same-claim t s carried.0 n ss allowed in
      subst (IsReadBack l) same
      (layers-read l nodes carried.1 is.1 (t.within (s.handlers n) ss) (read-within t s carried.0 n ss allowed is.0 read) (allowed-within t s carried.0 n ss allowed) (subst (IsBrief n l) (sym same) brief))
  layers-read (Itself i l) nodes carried is ss read allowed brief =
      itself-read (service l) (layers_claimed (Itself i l)).verdict row.most n few_nodes most (layers-seen row n least most l nodes.1 carried.1 is)
      each_row i n (omega (arith, nodes.0.least, least)) (omega (arith, nodes.0.most, most)) (omega (arith, most, few_nodes)) ss read brief allowed

  module _ (number : ℕ) (ls : List (List ℕ)) (text : List ℕ) where
    -- the text is a claim of a stack of as many nodes as there may be, where a replay of one of so many wrote it
    abbrev IsClaimOf : AnyClaims → Type 0
    IsClaimOf a = IsClaim a row.most a.plays.Explains text

    -- on a network that loses packets the image has no more lines than a check reads
    abbrev IsBriefReplay : (a : AnyPlay) → IsReplayOn a number ls text → Type 0
    IsBriefReplay a r = length (a.play.image r.steps) ≤ 1000000

    steady-claim : (l : Layers) → AreLayersOf row l → AreSpelledLayers l → (r : IsReplayOn (plays (Steady l) n) number ls text) → ((service l).net ≡ net.Loss → IsBriefReplay (plays (Steady l) n) r)
        → IsClaimOf (claims (Steady l) row.most)
    steady-claim l fit is r lost =
        let p = service_play (service l) n in
        let texts = layers-texts l is in
        let read = steps-read (service l).texts.input_of number ls r.steps r.says (HasInputText (service l).texts) texts.inputs.has_text in
        let brief = layers-brief n l fit.carried is r.steps (million-read (service l).texts.input_of number ls r.steps r.says) r.allowed lost in
        record {
          claim = claim_by p r.steps;
          read = ap (λ bs. claim_of (form_on row.most (service_play (service l) row.most) (layers_claimed l)) (lines_of bs)) r.written ∙ layers-read l fit.nodes fit.carried is r.steps read r.allowed brief;
          so = r.explained;
        }

    clustered-claim : (k : OnCluster) → ActsAs k.application.machine k.cluster → IsSpelledCluster k → length (lines_of text) ≤ 8000000 → IsReplayOn (plays (Clustered k) n) number ls text
        → IsClaimOf (claims (Clustered k) row.most)
    clustered-claim k acts is within r =
        let ran = cluster_play k n in
        let t = k.application.texts in
        let HasIn = HasInputText t in
        let read = steps-read (raft_input_of t.input_of) number ls r.steps r.says (IsRaftInput HasIn) (raft_inputs_are_spelled is.machine.texts.inputs).has_text in
        record {
          claim = claim_by ran r.steps;
          read = ap (λ bs. claim_of (form_on row.most ran (claims (Clustered k) n).claimed) (lines_of bs)) r.written
              ∙ cluster-read k acts is row.most n few_nodes most r.steps read r.allowed r.explained (subst (λ bs. length (lines_of bs) ≤ 8000000) r.written within);
          so = r.explained;
        }

    -- on a network that stops nodes there are no more lines than a check reads
    pub kind-claim : (k : Kind) → IsFit row k → IsSpelledKind k → (row.net ≡ net.Fail → length (lines_of text) ≤ 8000000) → (r : IsReplayOn (plays k n) number ls text)
        → (row.net ≡ net.Loss → IsBriefReplay (plays k n) r) → IsClaimOf (claims k row.most)
    kind-claim (Steady l) fit is within r lost = steady-claim l fit.nodes is r (λ on. lost (fit.net ∙ on))
    kind-claim (Clustered k) fit is within r lost = clustered-claim k fit.nodes.acts is (within fit.net) r
