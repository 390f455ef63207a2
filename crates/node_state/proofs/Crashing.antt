-- What a crash leaves during a save that is told.
use Rattle.std.proofs.Common.{◌≡◌, ◌≤◌, true, false, List, [], ◌++◌, length, take, Option, Some, None, IfSome, Result, Ok, Err, OnOk, OnErr, refl, sym, subst, inl, inr}
use Rattle.disk.specs.Acts.{Act}
use Rattle.disk.specs.Disk.{may_leave}
use Rattle.disk.proofs.CutShort.{fronts_are_cut_short}
use Rattle.raft_types.specs.Messages.{KeptView}
use Rattle.slots.proofs.Elsewhere.{take_none}
use Rattle.slots.proofs.Turning.{rests_opens, shorts}
use Rattle.vst_base.specs.declared.stack.StackId.{StackId}
use Rattle.wire_fields.specs.Formats.{Format, IsFormat}
use Rattle.node_acts.specs.StateActs.{state_acts, store_after}
use Rattle.node_acts.specs.StateLaws.{HasBytes}
use Rattle.node_acts.specs.Stores.{StoreView, Holds, found_by, is_held}
use Rattle.node_acts.proofs.Helds.{holds_rests}
use Rattle.node_acts.proofs.StateSaves.{save_keeps_state}
use Rattle.node_body.specs.declared.commands.TheConstants.{MAX_COMMAND}
use Rattle.node_device.specs.Telling.{Told, told_after, Did, WhereTold, StoppedIn}
use Rattle.node_state.specs.Crashes.{IsHeldBefore, LeavesEither, Saves, StoppedWith}
use Rattle.node_state.proofs.Stopping.{stopped_early}

-- cut short among the first acts or among all, these are cut short
pub stopped_with : (P : Type 0) (a b : Option Told) (first rest : List Act) → StoppedWith P a b first (first ++ rest) → StoppedIn a b (first ++ rest)
stopped_with P a b first rest (inl s) = stopped_early a b first rest s
stopped_with P a b first rest (inr s) = s.1

module _ {C : Type 0} (s : StackId) (f : Format C) (is_f : IsFormat f) (short : (c : C) → f.Fits c → length (f.spell c) ≤ MAX_COMMAND)
    (store : StoreView) (kept : KeptView C) where
  abbrev FitsIfNew : Type 0
  FitsIfNew = is_held store kept ≡ false → HasBytes s f store kept

  abbrev acts : List Act
  acts = state_acts s f store kept

  keeps_told : (a : Option Told) → FitsIfNew → IfSome a (Saves s f store kept)
  keeps_told None fits = tt
  keeps_told (Some told) fits = λ held h continues. save_keeps_state s f is_f short store held kept told.disk h continues fits

  holds_told : (a b : Option Told) (new : StoreView) → IfSome a (IsHeldBefore s f store kept) → FitsIfNew → Did a b acts → new ≡ store_after s f store kept →
      IfSome b (λ told. Holds s f new kept told.disk)
  holds_told None b new held fits did knows = subst (λ (o : Option Told). IfSome o (λ told. Holds s f new kept told.disk)) (sym did) tt
  holds_told (Some told) b new held fits did knows =
      subst (λ (o : Option Told). IfSome o (λ told. Holds s f new kept told.disk)) (sym did)
      (subst (λ (x : StoreView). Holds s f x kept (told_after told acts).disk) (sym knows)
      (save_keeps_state s f is_f short store held.0 kept told.disk held.1 held.2 fits).holds)

  either_did : (a b : Option Told) → FitsIfNew → Did a b acts → WhereTold a b (LeavesEither s f store kept)
  either_did None b fits did = did
  either_did (Some told) b fits did =
      subst (λ (o : Option Told). WhereTold (Some told) o (LeavesEither s f store kept)) (sym did)
      (record {
        did = acts;
        acts = refl;
        each = λ held n image h continues m. (save_keeps_state s f is_f short store held kept told.disk h continues fits).keeps.each n image m;
      })

  either_stopped : (a b : Option Told) → FitsIfNew → StoppedIn a b acts → WhereTold a b (LeavesEither s f store kept)
  either_stopped None b fits x = x
  either_stopped (Some told) None fits x = x
  either_stopped (Some told) (Some new) fits x =
      record {
        did = x.0;
        acts = x.2.acts;
        each = λ held n image h continues m.
            let w = shorts told.disk acts (take n x.0) image (fronts_are_cut_short acts x.0 n x.1) m in
            (save_keeps_state s f is_f short store held kept told.disk h continues fits).keeps.each w.n image w.holds;
      }

  -- before the first act
  either_none : (a b : Option Told) → StoppedIn a b [] → WhereTold a b (LeavesEither s f store kept)
  either_none None b x = x
  either_none (Some told) None x = x
  either_none (Some told) (Some new) x =
      record {
        did = x.0;
        acts = x.2.acts;
        each = λ held n image h continues m.
            let w = shorts told.disk [] (take n x.0) image (fronts_are_cut_short [] x.0 n x.1) m in
            inl
            (rests_opens (found_by s f store.who) held store.selector told.disk image (holds_rests s f store held told.disk h)
            (subst (λ (xs : List Act). may_leave told.disk xs image ≡ true) (take_none Act w.n [] refl) w.holds));
      }

  either_with : (a b : Option Told) → StoppedWith FitsIfNew a b [] acts → WhereTold a b (LeavesEither s f store kept)
  either_with a b (inl x) = either_none a b x
  either_with a b (inr x) = either_stopped a b x.0 x.1

  -- by the answer
  pub keeps_any : {T E : Type 0} (r : Result T E) (a : Option Told) → OnOk r FitsIfNew → OnOk r (IfSome a (Saves s f store kept))
  keeps_any (Ok x) a fits = keeps_told a fits
  keeps_any (Err x) a fits = tt

  pub holds_any : {T E : Type 0} (r : Result T E) (a b : Option Told) (new : StoreView) → IfSome a (IsHeldBefore s f store kept) → OnOk r FitsIfNew → OnOk r (Did a b acts) →
      OnOk r (new ≡ store_after s f store kept) → OnOk r (IfSome b (λ told. Holds s f new kept told.disk))
  holds_any (Ok x) a b new held fits did knows = holds_told a b new held fits did knows
  holds_any (Err x) a b new held fits did knows = tt

  pub stopped_any : {T E : Type 0} (r : Result T E) (a b : Option Told) → OnErr r (StoppedWith FitsIfNew a b [] acts) → OnErr r (StoppedIn a b acts)
  stopped_any (Ok x) a b stopped = tt
  stopped_any (Err x) a b stopped = stopped_with FitsIfNew a b [] acts stopped

  pub crash_any : {T E : Type 0} (r : Result T E) (a b : Option Told) → OnOk r FitsIfNew → OnOk r (Did a b acts) → OnErr r (StoppedWith FitsIfNew a b [] acts) →
      WhereTold a b (LeavesEither s f store kept)
  crash_any (Ok x) a b fits did stopped = either_did a b fits did
  crash_any (Err x) a b fits did stopped = either_with a b stopped
