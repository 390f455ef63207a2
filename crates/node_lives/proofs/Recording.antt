-- Lives one after the other: their deeds store first, and the areas are as these say.
use Rattle.std.proofs.Common.{◌≡◌, ℕ, true, List, [], ◌∷◌, ◌++◌, length, refl, sym, ap, subst, ◌∙◌, append_assoc, inl}
use Rattle.cluster_histories.specs.Deeds.{MayOpenAs, StoresFirst_from, after_deeds, running_at_first}
use Rattle.disk.specs.Disk.{Disk, may_hold}
use Rattle.handler_trait.specs.Handling.{Meaning, Recovery}
use Rattle.node_acts.specs.StateActs.{first_kept}
use Rattle.node_acts.specs.Stores.{found_by}
use Rattle.node_config.specs.declared.config.Config.{Config}
use Rattle.node_core.specs.Replicas.{who_of}
use Rattle.raft_types.specs.Messages.{KeptView}
use Rattle.raft_types.specs.declared.client.RaftInput.{RaftInput}
use Rattle.raft_types.specs.declared.client.RaftOut.{RaftOut}
use Rattle.raft_types.specs.declared.msg.RaftMsg.{RaftMsg}
use Rattle.raft_xform.specs.Nodes.{RaftView}
use Rattle.raft_xform.specs.Raft.{raft, raft_recovery}
use Rattle.slots.specs.Opening.{Found, Opening, by_selector}
use Rattle.udp_node.specs.Serving.{StartsFrom}
use Rattle.vst_base.specs.Machines.{MachineMeaning}
use Rattle.vst_base.specs.declared.stack.StackId.{StackId}
use Rattle.wire_fields.specs.Formats.{Format}
use Rattle.node_lives.specs.LifeDeeds.{AreLivesOf, RaftDeed}
use Rattle.node_lives.specs.LifeLaws.{AreStored}
use Rattle.node_lives.specs.Lives.{AreLives, IsFresh, Life, left_by, left_by_all}
use Rattle.node_lives.proofs.Living.{Lived, lived}
use Rattle.node_lives.proofs.Opening.{IsDurable}
use Rattle.node_lives.proofs.Sayings.{after_both, stores_both}
use Rattle.node_lives.proofs.Stages.{RaftRunning}

left_by_both : (disk : Disk) (early late : List Life) → left_by_all disk (early ++ late) ≡ left_by_all (left_by_all disk early) late
left_by_both disk [] late = refl
left_by_both disk (life ∷ early) late = left_by_both (left_by life) early late

module _ {S C O : Type 0} (s : StackId) (config : Config) (m : MachineMeaning S C O) (f : Format C) (g : Format O) where
  abbrev handlers : Meaning (RaftView S C O) (RaftInput C) (RaftOut O) (RaftMsg C)
  handlers = raft (length config.peers) m

  abbrev recovery : Recovery (RaftView S C O) (KeptView C)
  recovery = raft_recovery m

  abbrev found : List ℕ → Found (KeptView C)
  found bytes = found_by s f (who_of config) bytes

  abbrev at_first : RaftRunning S C O
  at_first = running_at_first handlers recovery config.me

  -- what lives are to a node that ran like this
  record HaveLived (x : RaftRunning S C O) (disk : Disk) (lives : List Life) : Type 0 where
    pub deeds : List (RaftDeed C O)
    pub of : AreLivesOf s config m f g lives deeds
    pub stores : StoresFirst_from handlers recovery config.me x deeds
    pub durable : IsDurable s config m f (after_deeds handlers recovery config.me x deeds) (left_by_all disk lives)

  have_lived : (x : RaftRunning S C O) (disk : Disk) (lives : List Life) → IsDurable s config m f x disk →
      AreLives s config m f g disk lives → HaveLived x disk lives
  have_lived x disk [] durable are = record { deeds = []; of = refl; stores = tt; durable = durable }
  have_lived x disk (life ∷ lives) durable are =
      let one : Lived s config m f g x life = lived s config m f g x life (λ image may. durable image (are.0 image may)) are.1 in
      let y : RaftRunning S C O = after_deeds handlers recovery config.me x one.deeds in
      let rest = have_lived y (left_by life) lives one.durable are.2 in
      record {
        deeds = one.deeds ++ rest.deeds;
        of = (one.deeds, rest.deeds, one.of, rest.of, refl);
        stores = stores_both handlers recovery config.me x one.deeds rest.deeds one.stores rest.stores;
        durable = subst (λ (z : RaftRunning S C O). IsDurable s config m f z (left_by_all (left_by life) lives))
            (sym (after_both handlers recovery config.me x one.deeds rest.deeds)) rest.durable;
      }

  fresh_is_durable : (disk : Disk) → IsFresh disk → IsDurable s config m f at_first disk
  fresh_is_durable disk fresh image may = (
    first_kept,
    subst (λ (o : Opening (KeptView C)). StartsFrom o first_kept) (sym (ap (by_selector found image) (fresh image may))) refl,
    inl refl,
  )

  lives_both : (early late : List Life) (ds es : List (RaftDeed C O)) → AreLivesOf s config m f g early ds →
      AreLivesOf s config m f g late es →
      AreLivesOf s config m f g (early ++ late) (ds ++ es)
  lives_both [] late ds es a b = subst (λ zs. AreLivesOf s config m f g late (zs ++ es)) (sym a) b
  lives_both (life ∷ early) late ds es (here, later, one, rest, is) b =
      (here, later ++ es, one, lives_both early late later es rest b, ap (λ zs. zs ++ es) is ∙ append_assoc here later es)

  pub lives_store_first : (first : Disk) (lives : List Life) → IsFresh first → AreLives s config m f g first lives →
      (deeds : List (RaftDeed C O)) × AreStored s config m f g first lives deeds
  lives_store_first first lives fresh are =
      let all = have_lived at_first first lives (fresh_is_durable first fresh) are in (
        all.deeds,
        record {
          of = all.of;
          stores_first = all.stores;
          durable = λ image may. let w = all.durable image may in record { kept = w.0; from = w.1; may = w.2 };
        },
      )

  pub lives_go_on : (first : Disk) (early late : List Life) (deeds : List (RaftDeed C O)) → AreStored s config m f g first early deeds →
      AreLives s config m f g (left_by_all first early) late →
      (more : List (RaftDeed C O)) × AreStored s config m f g first (early ++ late) (deeds ++ more)
  lives_go_on first early late deeds stored are =
      let x : RaftRunning S C O = after_deeds handlers recovery config.me at_first deeds in
      let rest = have_lived x (left_by_all first early) late (λ image may. let w = stored.durable image may in
      (w.kept, w.from, w.may)) are in (
        rest.deeds,
        record {
          of = lives_both early late deeds rest.deeds stored.of rest.of;
          stores_first = stores_both handlers recovery config.me at_first deeds rest.deeds stored.stores_first rest.stores;
          durable = λ image may.
              let w = rest.durable image (subst (λ (there : Disk). may_hold there image ≡ true) (left_by_both first early late) may) in
              let same = after_both handlers recovery config.me at_first deeds rest.deeds in
              record { kept = w.0; from = w.1; may = subst (λ (z : RaftRunning S C O). MayOpenAs handlers recovery z w.0) (sym same) w.2 };
        },
      )
