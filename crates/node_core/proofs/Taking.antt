-- What a node may say of its state once it starts, and once it has taken an event.
use Rattle.std.proofs.Common.{◌≡◌, ◌≤◌, ℕ, true, length, Option, Some, None, IfSome, sym, ap, subst, ◌∙◌}
use Rattle.disk.specs.Disk.{Image, may_hold}
use Rattle.raft_xform.specs.Nodes.{RaftView}
use Rattle.raft_xform.specs.Sound.{IsSoundNode}
use Rattle.vst_base.specs.Machines.{MachineMeaning}
use Rattle.wire_fields.specs.Formats.{Format}
use Rattle.node_acts.specs.Stores.{StoreView, Holds, Knows, Continues, common, found_by, terms_of}
use Rattle.node_acts.proofs.Helds.{holds_rests, kept_same}
use Rattle.node_config.specs.declared.config.Config.{Config}
use Rattle.node_datagrams.specs.Configured.{settings_of}
use Rattle.node_device.specs.Telling.{Told}
use Rattle.node_growth.specs.Growth.{left_by}
use Rattle.node_growth.proofs.Growing.{left_is_common, log_continues}
use Rattle.node_run.specs.declared.event.Event.{Event}
use Rattle.raft_types.specs.Messages.{KeptView}
use Rattle.slots.specs.Opening.{OpensAs}
use Rattle.slots.proofs.Turning.{rests_opens}
use Rattle.vst_base.specs.declared.stack.StackId.{StackId}
use Rattle.node_core.specs.Replicas.{effect_on, kept_of}
use Rattle.node_core.specs.declared.replica.Replica.{Replica}

-- a sound node of these numbers is one of those that are the same
pub sound_as : {S C O : Type 0} (nodes me other_nodes other_me : ℕ) (s : RaftView S C O) → IsSoundNode nodes me s → nodes ≡ other_nodes →
    me ≡ other_me → IsSoundNode other_nodes other_me s
sound_as nodes me other_nodes other_me s sound e f =
    subst (λ n. IsSoundNode n other_me s) e (subst (λ n. IsSoundNode nodes n s) f sound)

module _ {S C O : Type 0} (config : Config) (m : MachineMeaning S C O) (f : Format C) (g : Format O) (replica : Replica S C O) (event : Event C) where
  abbrev then : RaftView S C O
  then = (effect_on config m f g replica event).state

  -- the entries that are known to be left are held
  pub left_is_held : (s : RaftView S C O) (store : StoreView) (n old new : ℕ) → s ≡ then → store ≡ replica.store → Knows replica.store (kept_of replica.state) →
      n ≡ left_by event old new → old ≡ length replica.state.log → new ≡ length s.log → n ≤ common store.terms s.log
  left_is_held s store n old new state same knows left is_old is_new =
      let bound = left_is_common f g (settings_of config) m replica.state event in
      let terms : store.terms ≡ terms_of replica.state.log = ap (λ x. x.terms) same ∙ knows.terms in
      let log : s.log ≡ then.log = ap (λ x. x.log) state in
      subst (λ k. k ≤ common store.terms s.log) (sym left)
      (subst (λ o. left_by event o new ≤ common store.terms s.log) (sym is_old)
      (subst (λ w. left_by event (length replica.state.log) w ≤ common store.terms s.log) (sym is_new)
      (subst (λ ts. left_by event (length replica.state.log) (length s.log) ≤ common ts s.log) (sym terms)
      (subst (λ l. left_by event (length replica.state.log) (length l) ≤ common (terms_of replica.state.log) l) (sym log) bound))))

  -- what is held, the new state continues
  pub continues_then : (s : RaftView S C O) → s ≡ then → Knows replica.store (kept_of replica.state) →
      Continues replica.store (kept_of replica.state) (kept_of s)
  continues_then s state knows =
      subst (λ x. Continues replica.store (kept_of replica.state) (kept_of x)) (sym state)
      (log_continues f g (settings_of config) m replica.state event replica.store knows)

-- what the areas hold, each image of them opens as
pub opens_held : {C : Type 0} (s : StackId) (f : Format C) (store : StoreView) (held kept : KeptView C) (a : Option Told) →
    held.term ≡ kept.term → held.voted ≡ kept.voted → held.log ≡ kept.log → IfSome a (λ told. Holds s f store held told.disk) →
    IfSome a (λ told. (image : Image) → may_hold told.disk image ≡ true → OpensAs (found_by s f store.who) kept image)
opens_held s f store held kept None term voted log h = tt
opens_held {C} s f store held kept (Some told) term voted log h = λ image may.
    rests_opens (found_by s f store.who) kept store.selector told.disk image
    (holds_rests s f store kept told.disk (subst (λ (k : KeptView C). Holds s f store k told.disk) (kept_same held kept term voted log) h)) may
