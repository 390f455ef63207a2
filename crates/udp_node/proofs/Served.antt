-- A node's run: its opening, and then turn after turn.
use Rattle.std.proofs.Common.{◌≡◌, ◌≤◌, ◌+◌, ℕ, suc, [], ◌∷◌, Option, Some, None, IfSome, OnSome, arith, refl, sym, subst, inl, inr}
use Rattle.std.proofs.lemmas.List.{append-nil}
use Rattle.disk.specs.Acts.{Now}
use Rattle.node_acts.specs.Stores.{StoreView, Holds}
use Rattle.node_config.specs.Held.{on_a_node}
use Rattle.node_config.specs.declared.config.Config.{Config}
use Rattle.node_core.specs.Replicas.{kept_of, starting, view_of, who_of}
use Rattle.node_core.specs.declared.replica.Replica.{Replica}
use Rattle.node_datagrams.specs.Configured.{settings_of}
use Rattle.node_device.specs.Telling.{Told, told_after, Did, TellsOn, WhereTold}
use Rattle.node_progress.proofs.Going.{goes_is_halts, goes_on, halts_after}
use Rattle.node_progress.proofs.Turns.{first_goes, quiet_goes}
use Rattle.node_records.proofs.Turning.{turns_hear}
use Rattle.node_run.specs.Runs.{Stage, Starting, Between}
use Rattle.raft_types.specs.Messages.{KeptView}
use Rattle.vst_base.specs.Machines.{MachineMeaning}
use Rattle.vst_base.specs.declared.stack.StackId.{StackId}
use Rattle.vst_base.specs.declared.stack.StackId.TheVariants as stack
use Rattle.wire_fields.specs.Formats.{Format}
use Rattle.udp_node.specs.Causes.{IsOfATurn}
use Rattle.udp_node.specs.Serving.{EndsWith, Halted, HaltedEach, HasOpened, HasServed, Interrupted, Served, StillTold, TurnsGo, TurnsHalt, Went, WentEach}
use Rattle.udp_node.specs.declared.fault.NodeFault.{NodeFault}
use Rattle.udp_node.specs.declared.fault.NodeFault.TheVariants as fault
use Rattle.udp_node.proofs.Clock.{opened_tells, tells_both, tells_more}
use Rattle.udp_node.proofs.Telling.{still_both, still_more, still_still, told_is}

one_more : (n : ℕ) → suc n ≡ n + 1
one_more n = omega arith

none_more : (n : ℕ) → 0 + n ≡ n
none_more n = omega arith

told_nothing : (told : Told) → told_after told [] ≡ told
told_nothing told = λ i. record { acts = append-nil told.acts i; disk = told.disk }

module _ {S C O : Type 0} (s : StackId) (config : Config) (m : MachineMeaning S C O) (f : Format C) (g : Format O) where
  went_nowhere : (replica : Replica S C O) → replica.store.who ≡ who_of config → (told : Told) → Holds s f replica.store (kept_of replica.state) told.disk →
      Went s config m f g replica 0 replica told told
  went_nowhere replica who told held =
      subst (λ (x : Told). Went s config m f g replica 0 replica told x) (told_nothing told)
      (quiet_goes (settings_of config) m s f g (who_of config) (Between (view_of replica)) (kept_of replica.state) replica.store 0 (view_of replica) [] told
      ((turns_hear (settings_of config) m f g).nothing (Between (view_of replica))) held who)

  pub at_most : (stage : Stage S C O) (kept : KeptView C) (store : StoreView) (a b : ℕ) (before now : Told) → a ≤ b →
      TurnsHalt s config m f g stage kept store a before now → TurnsHalt s config m f g stage kept store b before now
  at_most stage kept store a b before now le x = record {
    did = x.did;
    acts = x.acts;
    stopped = record { of_turns = x.stopped.of_turns; orderly = x.stopped.orderly; turns = omega (arith, x.stopped.turns, le); stored = x.stopped.stored; said = x.stopped.said };
    leaves = x.leaves;
  }

  -- as the device tells it

  pub told_nowhere : (replica : Replica S C O) → replica.store.who ≡ who_of config → (a : Option Told) →
      IfSome a (λ told. Holds s f replica.store (kept_of replica.state) told.disk) → StillTold 0 a a (Went s config m f g replica 0 replica)
  told_nowhere replica who None held = refl
  told_nowhere replica who (Some told) held = went_nowhere replica who told held

  pub told_on : (x y z : Replica S C O) (n : ℕ) (a b c : Option Told) → TellsOn n a b → StillTold n a b (Went s config m f g x n y) →
      StillTold 1 b c (Went s config m f g y 1 z) → StillTold (n + 1) a c (Went s config m f g x (n + 1) z)
  told_on x y z n a b c tells p q =
      still_still (Went s config m f g x n y) (Went s config m f g y 1 z) (Went s config m f g x (n + 1) z) n 1 a b c tells p q
      (λ before mid now u v. goes_on (settings_of config) m s f g (who_of config) (Between (view_of x)) (kept_of x.state) (kept_of y.state) (kept_of z.state) x.store y.store z.store
      n 1 (view_of y) (view_of z) before mid now u v)

  pub told_halts : (x y : Replica S C O) (n most : ℕ) → n + 1 ≤ most → (a b c : Option Told) → TellsOn n a b → StillTold n a b (Went s config m f g x n y) →
      StillTold 1 b c (Halted s config m f g y 1) → StillTold most a c (Halted s config m f g x most)
  told_halts x y n most le a b c tells p q =
      still_more (Halted s config m f g x most) (n + 1) most le a c
      (still_still (Went s config m f g x n y) (Halted s config m f g y 1) (Halted s config m f g x most) n 1 a b c tells p q
      (λ before mid now u v. at_most (Between (view_of x)) (kept_of x.state) x.store (n + 1) most before now le
      (halts_after (settings_of config) m s f g (who_of config) (Between (view_of x)) (kept_of x.state) (kept_of y.state) x.store y.store n 1 (view_of y) before mid now u v)))

  pub told_halts_at_once : (x : Replica S C O) (most : ℕ) (a : Option Told) → StillTold 0 a a (Went s config m f g x 0 x) →
      StillTold most a a (Halted s config m f g x most)
  told_halts_at_once x most None p = refl
  told_halts_at_once x most (Some told) p =
      at_most (Between (view_of x)) (kept_of x.state) x.store 0 most told told (omega arith)
      (goes_is_halts (settings_of config) m s f g (who_of config) (Between (view_of x)) (kept_of x.state) (kept_of x.state) x.store x.store 0 (view_of x) told told p)

  -- the opening, and then the first clock value

  first : (store : StoreView) (kept : KeptView C) (time : ℕ) (opened now : Told) → store.who ≡ who_of config → Holds s f store kept opened.disk →
      now ≡ told_after opened (Now time ∷ []) → TurnsGo s config m f g (Starting kept) kept store 0 (starting config m store kept time) opened now
  first store kept time opened now who held is =
      subst (λ (x : Told). TurnsGo s config m f g (Starting kept) kept store 0 (starting config m store kept time) opened x) (sym is)
      (first_goes (settings_of config) m s f g (who_of config) kept store time opened held who)

  -- the opening asks for no clock value
  pub begun_tells : (store : StoreView) (kept : KeptView C) (a b c : Option Told) → WhereTold a b (HasOpened s config f store kept) → TellsOn 1 b c → TellsOn 1 a c
  begun_tells store kept a b c opened tells = tells_both 0 1 a b c (opened_tells s config f store kept a b opened) tells

  pub told_started : (store : StoreView) (kept : KeptView C) (time : ℕ) → store.who ≡ who_of config → (node : Replica S C O) → node ≡ starting config m store kept time →
      (a b c : Option Told) → WhereTold a b (HasOpened s config f store kept) → IfSome b (λ told. Holds s f store kept told.disk) →
      OnSome c (Did b c (Now time ∷ [])) → TellsOn 1 b c → StillTold 1 a c (Served s config m f g 0 node)
  told_started store kept time who node is None b c opened held did tells = begun_tells store kept None b c opened tells
  told_started store kept time who node is (Some before) b None opened held did tells = begun_tells store kept (Some before) b None opened tells
  told_started store kept time who node is (Some before) None (Some now) opened held did tells = absurd opened
  told_started store kept time who node is (Some before) (Some mid) (Some now) opened held did tells = record {
    kept = kept;
    store = store;
    opened = mid;
    opening = opened;
    turns = subst (λ (r : Replica S C O). TurnsGo s config m f g (Starting kept) kept store 0 r mid now) (sym is)
        (first store kept time mid now who held (told_is mid now (Now time ∷ []) did));
  }

  -- the first clock value leaves the areas as they are
  pub start_holds : (store : StoreView) (kept : KeptView C) (time : ℕ) (node : Replica S C O) → node ≡ starting config m store kept time →
      (b c : Option Told) → IfSome b (λ told. Holds s f store kept told.disk) → OnSome c (Did b c (Now time ∷ [])) →
      IfSome c (λ told. Holds s f node.store (kept_of node.state) told.disk)
  start_holds store kept time node is b None held did = tt
  start_holds store kept time node is None (Some now) held did = cc
  start_holds store kept time node is (Some mid) (Some now) held did =
      subst (λ (x : Replica S C O). Holds s f x.store (kept_of x.state) now.disk) (sym is)
      (subst (λ (x : Told). Holds s f store kept x.disk) (sym (told_is mid now (Now time ∷ []) did)) held)

  -- turns one after the other, of which the last was cut short

  pub told_halts_each : (x y : Replica S C O) (n most : ℕ) → n + 1 ≤ most → (a b c : Option Told) → TellsOn n a b → StillTold n a b (WentEach s config m f g n x y) →
      StillTold 1 b c (Halted s config m f g y 1) → StillTold most a c (HaltedEach s config m f g most x)
  told_halts_each x y n most le a b c tells p q =
      still_more (HaltedEach s config m f g most x) (n + 1) most le a c
      (still_still (WentEach s config m f g n x y) (Halted s config m f g y 1) (HaltedEach s config m f g most x) n 1 a b c tells p q
      (λ before mid now u v. record { count = n; below = omega (arith, le); middle = y; mid = mid; each = u; last = v }))

  halts_at_once : (x : Replica S C O) (most : ℕ) (told : Told) → x.store.who ≡ who_of config → Holds s f x.store (kept_of x.state) told.disk →
      HaltedEach s config m f g most x told told
  halts_at_once x most told who held = record {
    count = 0;
    below = omega arith;
    middle = x;
    mid = told;
    each = (refl, refl);
    last = at_most (Between (view_of x)) (kept_of x.state) x.store 0 1 told told (omega arith)
        (goes_is_halts (settings_of config) m s f g (who_of config) (Between (view_of x)) (kept_of x.state) (kept_of x.state) x.store x.store 0 (view_of x)
        told told (went_nowhere x who told held));
  }

  pub told_halts_each_at_once : (x : Replica S C O) (most : ℕ) → x.store.who ≡ who_of config → (a : Option Told) →
      IfSome a (λ told. Holds s f x.store (kept_of x.state) told.disk) → StillTold most a a (HaltedEach s config m f g most x)
  told_halts_each_at_once x most who None held = refl
  told_halts_each_at_once x most who (Some told) held = halts_at_once x most told who held

  interrupted_after : (x : Replica S C O) (most : ℕ) (before mid now : Told) → Served s config m f g 0 x before mid → Halted s config m f g x most mid now →
      HaltedEach s config m f g most x mid now → Interrupted s config m f g most before now
  interrupted_after x most before mid now served halted each = record {
    first = x;
    begun = mid;
    starts = served;
    each = each;
    all = at_most (Starting served.kept) served.kept served.store (0 + most) most served.opened now (omega arith)
        (halts_after (settings_of config) m s f g (who_of config) (Starting served.kept) served.kept (kept_of x.state) served.store x.store 0 most (view_of x)
        served.opened mid now served.turns halted);
  }

  ends_in_a_turn : (e : NodeFault) (most : ℕ) (before now : Told) → IsOfATurn e → Interrupted s config m f g most before now → EndsWith s config m f g e most before now
  ends_in_a_turn fault.Receive most before now of x = x
  ends_in_a_turn fault.Store most before now of x = inr x
  ends_in_a_turn (fault.Refused why) most before now of x = absurd of
  ends_in_a_turn fault.Memory most before now of x = inr x

  -- memory was wanted after the first clock value
  pub told_wanting : (store : StoreView) (kept : KeptView C) (time : ℕ) → store.who ≡ who_of config → (a b c : Option Told) →
      WhereTold a b (HasOpened s config f store kept) → IfSome b (λ told. Holds s f store kept told.disk) →
      OnSome c (Did b c (Now time ∷ [])) → TellsOn 1 b c → StillTold 1 a c (EndsWith s config m f g fault.Memory 0)
  told_wanting store kept time who None b c opened held did tells = begun_tells store kept None b c opened tells
  told_wanting store kept time who (Some before) b None opened held did tells = begun_tells store kept (Some before) b None opened tells
  told_wanting store kept time who (Some before) None (Some now) opened held did tells = absurd opened
  told_wanting store kept time who (Some before) (Some mid) (Some now) opened held did tells =
      let begins = first store kept time mid now who held (told_is mid now (Now time ∷ []) did) in
      inr (record {
        first = starting config m store kept time;
        begun = now;
        starts = record { kept = kept; store = store; opened = mid; opening = opened; turns = begins };
        each = halts_at_once (starting config m store kept time) 0 now who begins.holds;
        all = goes_is_halts (settings_of config) m s f g (who_of config) (Starting kept) kept kept store store 0 _ mid now begins;
      })

  -- turns one after the other

  pub told_none : (x : Replica S C O) (a : Option Told) → StillTold 0 a a (WentEach s config m f g 0 x x)
  told_none x None = refl
  told_none x (Some told) = (refl, refl)

  pub told_each : (x y z : Replica S C O) (n : ℕ) (a b c : Option Told) → TellsOn n a b → StillTold n a b (WentEach s config m f g n x y) →
      StillTold 1 b c (Went s config m f g y 1 z) → StillTold (n + 1) a c (WentEach s config m f g (n + 1) x z)
  told_each x y z n a b c tells p q =
      subst (λ (k : ℕ). StillTold (n + 1) a c (WentEach s config m f g k x z)) (one_more n)
      (still_still (WentEach s config m f g n x y) (Went s config m f g y 1 z) (WentEach s config m f g (suc n) x z) n 1 a b c tells p q
      (λ before mid now u v. (y, mid, u, v)))

  both_served : (x z : Replica S C O) (n : ℕ) (before mid now : Told) → Served s config m f g 0 x before mid → Went s config m f g x n z mid now →
      Served s config m f g n z before now
  both_served x z n before mid now u v = record {
    kept = u.kept;
    store = u.store;
    opened = u.opened;
    opening = u.opening;
    turns = subst (λ (k : ℕ). TurnsGo s config m f g (Starting u.kept) u.kept u.store k z u.opened now) (none_more n)
        (goes_on (settings_of config) m s f g (who_of config) (Starting u.kept) u.kept (kept_of x.state) (kept_of z.state) u.store x.store z.store 0 n
        (view_of x) (view_of z) u.opened mid now u.turns v);
  }

  pub told_served : (x z : Replica S C O) (n : ℕ) (a b c : Option Told) → TellsOn 1 a b → StillTold 1 a b (Served s config m f g 0 x) →
      StillTold n b c (Went s config m f g x n z) → StillTold n b c (WentEach s config m f g n x z) → StillTold (1 + n) a c (HasServed s config m f g n)
  told_served x z n a b c tells p q r =
      still_still (Served s config m f g 0 x) (λ mid now. Went s config m f g x n z mid now × WentEach s config m f g n x z mid now)
      (HasServed s config m f g n) 1 n a b c tells p
      (still_both (Went s config m f g x n z) (WentEach s config m f g n x z) n b c q r)
      (λ before mid now u v.
      record { first = x; begun = mid; next = z; starts = u; each = v.1; all = both_served x z n before mid now u v.0 })

  pub told_ended : (x : Replica S C O) (most : ℕ) (e : NodeFault) → IsOfATurn e → (a b c : Option Told) → TellsOn 1 a b →
      StillTold 1 a b (Served s config m f g 0 x) → StillTold most b c (Halted s config m f g x most) →
      StillTold most b c (HaltedEach s config m f g most x) → StillTold (1 + most) a c (EndsWith s config m f g e most)
  told_ended x most e of a b c tells p q r =
      still_still (Served s config m f g 0 x) (λ mid now. Halted s config m f g x most mid now × HaltedEach s config m f g most x mid now)
      (EndsWith s config m f g e most) 1 most a b c tells p
      (still_both (Halted s config m f g x most) (HaltedEach s config m f g most x) most b c q r)
      (λ before mid now u v. ends_in_a_turn e most before now of (interrupted_after x most before mid now u v.0 v.1))

  more : (most : ℕ) (before now : Told) → Interrupted s config m f g 0 before now → Interrupted s config m f g most before now
  more most before now x = record {
    first = x.first;
    begun = x.begun;
    starts = x.starts;
    each = record {
      count = x.each.count;
      below = omega (arith, x.each.below);
      middle = x.each.middle;
      mid = x.each.mid;
      each = x.each.each;
      last = x.each.last;
    };
    all = at_most (Starting x.starts.kept) x.starts.kept x.starts.store 0 most x.starts.opened now (omega arith) x.all;
  }

  ends_later : (e : NodeFault) (most : ℕ) (before now : Told) → EndsWith s config m f g e 0 before now → EndsWith s config m f g e most before now
  ends_later fault.Receive most before now x = more most before now x
  ends_later (fault.Refused why) most before now x = x
  ends_later fault.Store most before now (inl x) = inl x
  ends_later fault.Store most before now (inr x) = inr (more most before now x)
  ends_later fault.Memory most before now (inl x) = inl x
  ends_later fault.Memory most before now (inr x) = inr (more most before now x)

  pub told_later : (e : NodeFault) (most : ℕ) (a b : Option Told) → StillTold 1 a b (EndsWith s config m f g e 0) →
      StillTold (1 + most) a b (EndsWith s config m f g e most)
  told_later e most None b p = p
  told_later e most (Some before) None p = tells_more 1 (1 + most) (omega arith) (Some before) None p
  told_later e most (Some before) (Some now) p = ends_later e most before now p

-- a node runs one of two stacks
pub runs_kv : (s : StackId) → on_a_node s ≡ Some s → (s ≡ stack.TableRaft → ⊥) → s ≡ stack.KvRaft
runs_kv stack.Lock is not = cc
runs_kv stack.LockSeq is not = cc
runs_kv stack.KvPb is not = cc
runs_kv stack.KvPbSeq is not = cc
runs_kv stack.KvRaft is not = refl
runs_kv stack.TablePbSeq is not = cc
runs_kv stack.TableRaft is not = absurd (not refl)
runs_kv stack.Kv is not = cc
runs_kv stack.Table is not = cc
runs_kv stack.Mirror is not = cc
runs_kv stack.MirrorFifo is not = cc
runs_kv stack.LockSeqRetry is not = cc
runs_kv stack.KvPbSeqRetry is not = cc
runs_kv stack.KvRaftRead is not = cc
runs_kv stack.TableRaftRead is not = cc
