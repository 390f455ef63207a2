-- A Raft cluster deals in bytes where clients ask by commands that have bytes.
use Rattle.std.specs.Prelude.{ℕ, ◌<◌, List, [], ◌∷◌, None, refl}
use Rattle.std.proofs.Common.{arith}
use Rattle.std.proofs.lemmas.List.Elements.{All-nil}
use Rattle.handler_trait.specs.Handling.{AreSentBelow, IsModest}
use Rattle.node_body.specs.BodyLaws.{body_fits}
use Rattle.raft_types.specs.Messages.{IsClusterSize}
use Rattle.raft_types.specs.declared.msg.RaftMsg.{RaftMsg}
use Rattle.raft_xform.proofs.Keeping.{keeps_input, keeps_message, keeps_tick}
use Rattle.raft_xform.proofs.Sounding.{sound_started}
use Rattle.raft_xform.specs.Nodes.{RaftEffect, RaftView}
use Rattle.raft_xform.specs.Raft.{raft, raft_recovery}
use Rattle.raft_xform.specs.RaftLaws.{modest_input, modest_message, modest_timeout}
use Rattle.raft_xform.specs.Sound.{IsSoundNode}
use Rattle.vst_base.specs.Machines.{MachineMeaning}
use Rattle.vst_base.specs.declared.stack.StackId.{StackId}
use Rattle.wire_fields.specs.Fields.{name}
use Rattle.wire_fields.specs.Formats.{Format}
use Rattle.wired.specs.Dealing.{AreSent, DealsInBytes, GoesOn}
use Rattle.wired.specs.RaftSaving.{IsAsked, raft_saving, who_at}
use Rattle.wired.specs.RaftSavingLaws.{among_if}
use Rattle.wired.specs.RaftSending.{GoodRaft, HasRaft, LogFits}
use Rattle.wired.specs.RaftFitLaws.{AreFit, Fine, fit_in_range, input_fine, message_fine, tick_fine}

module _ {S C O : Type 0} (stack : StackId) (f : Format C) (label : List ℕ) (named : name.Fits label) (nodes : ℕ) (cluster : IsClusterSize nodes) (m : MachineMeaning S C O) where
  all_sent : (n : ℕ) (ps : List (ℕ × RaftMsg C)) → AreSentBelow nodes ps → AreFit f ps → AreSent (HasRaft f) nodes n ps
  all_sent n [] below fit = tt
  all_sent n (p ∷ ps) below fit = ((below.0, fit.0), all_sent n ps below.1 fit.1)

  goes_on : (t n : ℕ) (s : RaftView S C O) (e : RaftEffect S C O) → IsSoundNode nodes n e.state → Fine f e → IsModest nodes 8 (IsSoundNode nodes n) (λ _. 0) s e → GoesOn (HasRaft f) 8 nodes (GoodRaft f nodes t n) n e
  goes_on t n s e sound fine modest = record { state = (sound, fine.log); few = modest.few; sends = all_sent n e.sends modest.to_nodes fine.sends }

  pub kept_fits : (n : ℕ) (s : RaftView S C O) → n < nodes → IsSoundNode nodes n s → LogFits f s.log → (raft_saving stack f nodes label).Fits n ((raft_recovery m).keep s)
  kept_fits n s below sound log =
      body_fits stack f (who_at stack nodes label n) ((raft_recovery m).keep s) refl cluster below named sound.term (among_if nodes s.ballot.voted sound.vote) ((omega arith, sound.short), (refl, log))

  pub raft_deals : DealsInBytes (HasRaft f) 8 (raft_saving stack f nodes label) (IsAsked f) (raft nodes m) (raft_recovery m) (GoodRaft f nodes)
  raft_deals = record {
    init = λ n below. (sound_started m 0 None [] cluster below (omega arith) tt (omega arith), All-nil _);
    later = λ t n s good. good;
    input = λ t n s i few below takes asked good.
        goes_on t n s ((raft nodes m).input n s i) (keeps_input good.0 m i).sound (input_fine f good.0 good.1 m i asked) (modest_input nodes m n s i good.0);
    message = λ t n s from x few below from_below has good.
        goes_on t n s ((raft nodes m).message n s from x) (keeps_message good.0 m from from_below x (fit_in_range f x has)).sound (message_fine f good.0 good.1 m from from_below x has)
        (modest_message nodes m n s from x from_below good.0);
    timeout = λ t n s few below good. goes_on t n s ((raft nodes m).timeout n s) (keeps_tick good.0 m).sound (tick_fine f good.0 good.1 m) (modest_timeout nodes m n s good.0);
    keep = λ t n s below good. kept_fits n s below good.0 good.1;
    reboot = λ t n s below good. (sound_started m s.ballot.term s.ballot.voted s.log cluster below good.0.term good.0.vote good.0.short, good.1);
  }
