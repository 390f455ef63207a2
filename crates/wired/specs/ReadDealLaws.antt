-- A cluster whose reads take no entry of the log deals in bytes where clients ask by commands that have bytes.
use Rattle.std.specs.Prelude.{◌≡◌, ℕ, suc, ◌≤◌, ◌==◌, Bool, true, false, ◌&&◌, List, [], ◌∷◌, map, cond, refl}
use Rattle.std.proofs.Common.{arith}
use Rattle.std.proofs.lemmas.Bool.{and_parts}
use Rattle.std.proofs.lemmas.List.{length-map}
use Rattle.raft_reads.specs.ReadRaft.{ReadEffect, acknowledged, read_raft, read_recovery, reads_after, waits, with_reads, with_round}
use Rattle.raft_reads.specs.Reads.{ReadView, Reads, has_committed_own, is_appended, is_ready, no_reads, still_leads, with_ack, with_read}
use Rattle.raft_types.specs.Messages.{IsClusterSize}
use Rattle.raft_types.specs.Rounds.{ReadMsg}
use Rattle.raft_types.specs.Terms.{term_of}
use Rattle.raft_types.specs.declared.limits.TheConstants.{MAX_ROUND}
use Rattle.raft_types.specs.declared.msg.RaftMsg.{RaftMsg}
use Rattle.raft_xform.specs.Electing.{tick}
use Rattle.raft_xform.specs.Nodes.{RaftEffect, RaftView, is_leader}
use Rattle.raft_xform.specs.Raft.{on_message, raft, raft_recovery}
use Rattle.raft_xform.specs.Replicating.{on_input}
use Rattle.read_xform.proofs.Commits.{grows_input, grows_message, grows_tick}
use Rattle.read_xform.proofs.Keeping.{sound_acked, sound_either, sound_grown, sound_none, sound_with_read, sound_without}
use Rattle.read_xform.specs.Sound.{AreSoundReads}
use Rattle.vst_base.specs.Machines.{MachineMeaning}
use Rattle.vst_base.specs.declared.stack.StackId.{StackId}
use Rattle.vst_base.specs.declared.step.TheConstants.{MAX_STEPS}
use Rattle.wire_fields.specs.Fields.{name}
use Rattle.wire_fields.specs.Formats.{Format}
use Rattle.wired.specs.Dealing.{AreSent, DealsInBytes, GoesOn}
use Rattle.wired.specs.RaftDealLaws.{raft_deals}
use Rattle.wired.specs.RaftSaving.{IsAsked, raft_saving}
use Rattle.wired.specs.RaftSending.{GoodRaft, GoodReader, HasRaft, HasRead}
use Rattle.wired.specs.ReadFitLaws.{parts_fit, round_in_range, with_round_fits}

module _ {C : Type 0} (f : Format C) where
  -- packets have bytes with their rounds
  sent_with_rounds : (nodes n own term round : ℕ) (ps : List (ℕ × RaftMsg C)) → own ≤ MAX_ROUND → round ≤ MAX_ROUND → AreSent (HasRaft f) nodes n ps
      → AreSent (HasRead f) nodes n (map (with_round own term round) ps)
  sent_with_rounds nodes n own term round [] few heard sent = tt
  sent_with_rounds nodes n own term round (p ∷ ps) few heard sent = (
    (sent.0.0, with_round_fits f p.1 _ sent.0.1 (round_in_range f own term round p.1 few heard)),
    sent_with_rounds nodes n own term round ps few heard sent.1,
  )

-- what a node knows of reads, or nothing, is of no later round
no_later : {C : Type 0} (nodes : ℕ) (r : Reads C) (b : Bool) → (cond b r (no_reads nodes)).round ≤ r.round
no_later nodes r true = omega arith
no_later nodes r false = omega arith

-- an acknowledgement begins no round
same_round : {S C O : Type 0} (s : ReadView S C O) (from : ℕ) (x : ReadMsg C) → (acknowledged s from x).round ≡ s.reads.round
same_round s from x = go (is_appended x.raft && (is_leader s.raft.role && term_of x.raft == s.raft.ballot.term))
  where
    go : (b : Bool) → (cond b (with_ack s.reads from x.round) s.reads).round ≡ s.reads.round
    go true = refl
    go false = refl

module _ {S C O : Type 0} (f : Format C) (is_read : C → Bool) (nodes : ℕ) (m : MachineMeaning S C O) (n : ℕ) where
  abbrev Goes : ℕ → ReadEffect S C O → Type 0
  Goes t e = GoesOn (HasRead f) 8 nodes (GoodReader f is_read nodes t n) n e

  goes_either : (t : ℕ) (b : Bool) (e d : ReadEffect S C O) → (b ≡ true → Goes t e) → (b ≡ false → Goes t d) → Goes t (cond b e d)
  goes_either t true e d k l = k refl
  goes_either t false e d k l = l refl

  -- an event of Raft, with what the node knows of reads
  goes_with : (t : ℕ) (s : ReadView S C O) (e : RaftEffect S C O) (r : Reads C) (term round : ℕ) → t ≤ MAX_STEPS
      → GoesOn (HasRaft f) 8 nodes (GoodRaft f nodes t n) n e → AreSoundReads is_read nodes e.state.commit r → r.round ≤ t → round ≤ MAX_ROUND
      → Goes t (with_reads m nodes n s.raft e r term round)
  goes_with t s e r term round few goes sound began heard =
      let left = reads_after nodes s.raft e.state r in
      let later = no_later nodes r (still_leads s.raft e.state) in
      let kept = sound_without is_read nodes e.state.commit left (is_ready nodes n e.state left) (sound_either is_read nodes e.state.commit r (still_leads s.raft e.state) sound) in
      record {
        state = record { sound = record { raft = goes.state.0; reads = kept }; log = goes.state.1; round = omega (arith, later, began) };
        few = let same = length-map e.sends (with_round {C = C} left.round term round) in omega (arith, same, goes.few);
        sends = sent_with_rounds f nodes n left.round term round e.sends (omega (arith, later, began, few)) heard goes.sends;
      }

module _ {S C O : Type 0} (stack : StackId) (f : Format C) (label : List ℕ) (named : name.Fits label) (nodes : ℕ) (cluster : IsClusterSize nodes) (m : MachineMeaning S C O) (is_read : C → Bool) where
  abbrev of_raft : DealsInBytes (HasRaft f) 8 (raft_saving stack f nodes label) (IsAsked f) (raft nodes m) (raft_recovery m) (GoodRaft f nodes)
  of_raft = raft_deals stack f label named nodes cluster m

  abbrev Good : ℕ → ℕ → ReadView S C O → Type 0
  Good = GoodReader f is_read nodes

  abbrev raft_of : (t n : ℕ) (s : ReadView S C O) → Good t n s → GoodRaft f nodes t n s.raft
  raft_of t n s good = (good.sound.raft, good.log)

  -- a node that starts
  good_start : (t n : ℕ) (s : RaftView S C O) → GoodRaft f nodes t n s → Good t n (record { raft = s; reads = no_reads nodes; answered = [] })
  good_start t n s good = record { sound = record { raft = good.0; reads = sound_none is_read nodes s.commit }; log = good.1; round = omega arith }

  pub read_deals : DealsInBytes (HasRead f) 8 (raft_saving stack f nodes label) (IsAsked f) (read_raft nodes m is_read) (read_recovery nodes m) Good
  read_deals = record {
    init = λ n below. good_start 0 n _ (of_raft.init n below);
    later = λ t n s good. record { sound = good.sound; log = good.log; round = omega (arith, good.round) };
    input = λ t n s i few below takes asked good.
        goes_either f is_read nodes m n (suc t) (waits is_read s i) _ _
        (λ waiting.
        let reads = (and_parts (is_read i.cmd) (is_leader s.raft.role && has_committed_own s.raft) waiting).0 in
        goes_with f is_read nodes m n (suc t) s (tick m nodes n s.raft) (with_read s.reads i s.raft.commit) 0 0 few
        (of_raft.timeout t n s.raft few below (raft_of t n s good))
        (sound_with_read is_read nodes s.raft.commit (tick m nodes n s.raft).state.commit s.reads i reads (grows_tick m nodes n s.raft) good.sound.reads)
        (omega (arith, good.round)) (omega arith))
        (λ _.
        goes_with f is_read nodes m n (suc t) s (on_input m nodes n s.raft i) s.reads 0 0 few (of_raft.input t n s.raft i few below takes asked (raft_of t n s good))
        (sound_grown is_read nodes s.raft.commit (on_input m nodes n s.raft i).state.commit s.reads (grows_input m nodes n s.raft i) good.sound.reads)
        (omega (arith, good.round)) (omega arith));
    message = λ t n s from x few below from_below has good.
        let fits = parts_fit f x.raft x.round has in
        let e = on_message m nodes n s.raft from x.raft in
        let acked = sound_acked is_read nodes s.raft.commit s.reads (is_appended x.raft && (is_leader s.raft.role && term_of x.raft == s.raft.ballot.term)) from x.round good.sound.reads in
        goes_with f is_read nodes m n (suc t) s e (acknowledged s from x) (term_of x.raft) x.round few
        (of_raft.message t n s.raft from x.raft few below from_below fits.0 (raft_of t n s good))
        (sound_grown is_read nodes s.raft.commit e.state.commit (acknowledged s from x) (grows_message m nodes n s.raft from x.raft) acked)
        (omega (arith, good.round, same_round s from x)) fits.1;
    timeout = λ t n s few below good.
        goes_with f is_read nodes m n (suc t) s (tick m nodes n s.raft) s.reads 0 0 few (of_raft.timeout t n s.raft few below (raft_of t n s good))
        (sound_grown is_read nodes s.raft.commit (tick m nodes n s.raft).state.commit s.reads (grows_tick m nodes n s.raft) good.sound.reads)
        (omega (arith, good.round)) (omega arith);
    keep = λ t n s below good. of_raft.keep t n s.raft below (raft_of t n s good);
    reboot = λ t n s below good. good_start t n _ (of_raft.reboot t n s.raft below (raft_of t n s good));
  }
