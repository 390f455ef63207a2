-- An opening that was cut short leaves the areas open as they did.
use Rattle.std.proofs.Common.{◌≡◌, ℕ, true, List, [], ◌∷◌, ◌++◌, length, map, take, refl, sym, ap, subst, ◌∙◌, ◌⊎◌, inl, inr}
use Rattle.cluster_histories.specs.Deeds.{MayOpenAs}
use Rattle.disk.specs.Acts.{Act, ReadAt, StoreFailed, Sync, Synced}
use Rattle.disk.specs.Disk.{Disk, Image, after, contents, effect, may_become, may_hold, may_leave}
use Rattle.disk.specs.DiskLaws.{Fails, IsCutShort, IsReadFault}
use Rattle.disk.proofs.Between.{by_model}
use Rattle.disk.proofs.Disks.{holds_self, sync_takes_away}
use Rattle.handler_trait.specs.Handling.{Meaning, Recovery}
use Rattle.node_acts.specs.StateActs.{first_kept, opening_acts}
use Rattle.node_acts.specs.StateLaws.{IsAsFound}
use Rattle.node_acts.specs.Stores.{found_by}
use Rattle.node_config.specs.declared.config.Config.{Config}
use Rattle.node_core.specs.Replicas.{who_of}
use Rattle.raft_types.specs.Messages.{KeptView}
use Rattle.raft_types.specs.declared.client.RaftInput.{RaftInput}
use Rattle.raft_types.specs.declared.client.RaftOut.{RaftOut}
use Rattle.raft_types.specs.declared.msg.RaftMsg.{RaftMsg}
use Rattle.raft_xform.specs.Nodes.{RaftView}
use Rattle.raft_xform.specs.Raft.{raft, raft_recovery}
use Rattle.slots.specs.Opening.{Found, Fresh, Held, Opening, OpensAs, Refused, by_selector, opening}
use Rattle.slots.specs.Saving.{sync_acts}
use Rattle.udp_node.specs.Serving.{StartsFrom}
use Rattle.vst_base.specs.Machines.{MachineMeaning}
use Rattle.vst_base.specs.declared.stack.StackId.{StackId}
use Rattle.wire_fields.specs.Formats.{Format}
use Rattle.node_lives.proofs.Stages.{RaftRunning}

-- acts after which a crash leaves no image that it did not leave before
abbrev NothingNew : List Act → Type 0
NothingNew did = (disk : Disk) (image : Image) → may_leave disk did image ≡ true → may_hold disk image ≡ true

read_stays : (act : Act) → IsReadFault act → (disk : Disk) → effect act disk ≡ disk
read_stays (StoreFailed (ReadAt area at room)) h disk = refl
read_stays act h disk = absurd h

sync_stays : (area : ℕ) (act : Act) → Fails (Synced area) act ⊎ IsReadFault act → (disk : Disk) → effect act disk ≡ disk
sync_stays area act (inl e) disk = let is : act ≡ StoreFailed (Sync area) = e in ap (λ a. effect a disk) is
sync_stays area act (inr h) disk = read_stays act h disk

-- Syncs stand before all else: all were done, or nothing is new.
syncs_first : (areas : List ℕ) (more did : List Act) → IsCutShort (map Synced areas ++ more) did →
    (take (length areas) did ≡ map Synced areas) ⊎ NothingNew did
syncs_first [] more did c = inl refl
syncs_first (area ∷ areas) more [] c = inr (λ disk image h. h)
syncs_first (area ∷ areas) more (act ∷ did) (inl c) = elim (syncs_first areas more did c.1) [
  | inl e ↦ inl (λ i. c.0 i ∷ e i)
  | inr new ↦ inr (λ disk image h. sync_takes_away may_become by_model area disk image
      (subst (λ (a : Act). may_hold (effect a disk) image ≡ true) c.0 (new (effect act disk) image h)))
]
syncs_first (area ∷ areas) more (act ∷ did) (inr c) = inr (λ disk image h.
    subst (λ (d : Disk). may_hold d image ≡ true) (sync_stays area act c.0 disk)
    (subst (λ (acts : List Act). may_hold (after (effect act disk) acts) image ≡ true) c.1 h))

same_start : {C : Type 0} (o : Opening (KeptView C)) (a b : KeptView C) → StartsFrom o a → StartsFrom o b → a ≡ b
same_start Fresh a b x y = x ∙ sym y
same_start (Held kept selector) a b x y = x ∙ sym y
same_start (Refused why) a b x y = absurd x

module _ {S C O : Type 0} (s : StackId) (config : Config) (m : MachineMeaning S C O) (f : Format C) where
  abbrev found : List ℕ → Found (KeptView C)
  found bytes = found_by s f (who_of config) bytes

  abbrev handlers : Meaning (RaftView S C O) (RaftInput C) (RaftOut O) (RaftMsg C)
  handlers = raft (length config.peers) m

  abbrev recovery : Recovery (RaftView S C O) (KeptView C)
  recovery = raft_recovery m

  -- a node starts from these areas as its deeds allow
  abbrev pub Starts : RaftRunning S C O → Image → Type 0
  Starts x image = (k : KeptView C) × StartsFrom (opening found image) k × MayOpenAs handlers recovery x k

  -- and so it does from whatever a crash leaves of this disk
  abbrev pub IsDurable : RaftRunning S C O → Disk → Type 0
  IsDurable x disk = (image : Image) → may_hold disk image ≡ true → Starts x image

  pub starts_as : (x : RaftRunning S C O) (image : Image) (k : KeptView C) → OpensAs found k image → MayOpenAs handlers recovery x k →
      Starts x image
  starts_as x image k opens may = (k, subst (λ (o : Opening (KeptView C)). StartsFrom o k) (sym opens.1) refl, may)

  -- what it starts from is one state
  pub may_start : (x : RaftRunning S C O) (image : Image) (k : KeptView C) → Starts x image → StartsFrom (opening found image) k →
      MayOpenAs handlers recovery x k
  may_start x image k w from = subst (MayOpenAs handlers recovery x) (same_start (opening found image) w.0 k w.1 from) w.2

  as_found : (x : RaftRunning S C O) (disk : Disk) (image : Image) → IsDurable x disk → IsAsFound found first_kept disk image →
      Starts x image
  as_found x disk image durable (inl e) = subst (Starts x) (sym e) (durable (contents disk) (holds_self may_become by_model disk))
  as_found x disk image durable (inr (inl (kept, selector, e, opens))) =
      starts_as x image kept opens
      (may_start x (contents disk) kept (durable (contents disk) (holds_self may_become by_model disk)) (subst (λ (o : Opening
      (KeptView C)). StartsFrom o kept) (sym e) refl))
  as_found x disk image durable (inr (inr (none, how))) = by how
    where
      fresh : MayOpenAs handlers recovery x first_kept
      fresh =
          may_start x (contents disk) first_kept (durable (contents disk) (holds_self may_become by_model disk))
          (subst (λ (o : Opening (KeptView C)). StartsFrom o first_kept) (sym (ap (by_selector found (contents disk)) none)) refl)

      by : (opening found image ≡ Fresh) ⊎ OpensAs found first_kept image → Starts x image
      by (inl e) = (first_kept, subst (λ (o : Opening (KeptView C)). StartsFrom o first_kept) (sym e) refl, fresh)
      by (inr opens) = starts_as x image first_kept opens fresh

  pub cut_short_is_durable : (x : RaftRunning S C O) (disk : Disk) (did : List Act) → IsDurable x disk →
      IsCutShort (opening_acts s f (who_of config) (contents disk)) did →
      ((image : Image) → may_leave disk did image ≡ true → take 3 did ≡ sync_acts → IsAsFound found first_kept disk image) →
      IsDurable x (after disk did)
  cut_short_is_durable x disk did durable short leaves image may = elim (syncs_first (0 ∷ 1 ∷ 2 ∷ []) _ did short) [
    | inl all ↦ as_found x disk image durable (leaves image may all)
    | inr new ↦ durable image (new disk image may)
  ]
