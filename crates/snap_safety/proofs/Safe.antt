-- The safety of a cluster with snapshots, from that of the free choices that mirror it.
use Rattle.std.proofs.Common.{◌≡◌, ℕ, List, [], ◌∷◌, ◌++◌, length, take, drop, Some, refl, sym, ap, ◌∙◌, arith}
use Rattle.std.proofs.lemmas.List.{take_all}
use Rattle.net_semantics.specs.RunLaws.{run_from-append}
use Rattle.net_semantics.specs.Runs.{run_from}
use Rattle.net_semantics.specs.Steps.{event_of, next}
use Rattle.net_semantics.specs.Worlds.{first_world}
use Rattle.vst_base.specs.Machines.{MachineMeaning}
use Rattle.vst_base.specs.declared.entry.Entry.{Entry}
use Rattle.vst_base.specs.declared.step.Step.{Step}
use Rattle.raft_clients.proofs.Listed.{executed-append, executed-rises}
use Rattle.raft_clients.specs.Executed.{executed, executed_after, requests}
use Rattle.lists.specs.Prefixes.{IsPrefix, prefix_joined, prefix_of}
use Rattle.raft_histories.proofs.Logs.{same_prefix}
use Rattle.vst_base.specs.Nets.{view_of}
use Rattle.raft_types.specs.declared.client.RaftInput.{RaftInput}
use Rattle.linearizability.specs.Linearizable.{HasInput, told_since}
use Rattle.raft_snapshots.specs.Snapshots.{SnapNode, Way, snap_raft, snap_recovery}
use Rattle.raft_safety.proofs.Explaining.{in_executed, requests_front}
use Rattle.raft_safety.proofs.Listing.{each_from}
use Rattle.snap_safety.specs.Applied.{applied_by, applied_from, grown_by}
use Rattle.snap_safety.specs.Mirrors.{MirrorsInstall, MirrorsNode, snapshot_of}
use Rattle.snap_safety.specs.Runs.{IsRun, SnapWorld, seen, world_after}
use Rattle.snap_safety.specs.Safety.{AppliedGrows, AppliedIsFree, EachMachineFollows, ExecutedGrows, IsFree, NoneIsDropped, NoneIsMissing, RunsAreLinearizable}
use Rattle.snap_safety.proofs.Installing.{whole_came}
use Rattle.snap_safety.proofs.Lawful.{lawful}
use Rattle.snap_safety.proofs.Ordering.{all_put_in, distinct, its_output, its_time}
use Rattle.snap_safety.proofs.Remembering.{Further, Sofar, did_long, within}
use Rattle.snap_safety.proofs.Running.{first_sofar, first_taken, none_missing, parts, run_on}

module _ {S C O : Type 0} (way : Way S C O) (m : MachineMeaning S C O) (n : ℕ) where
  pub whole : (ss : List (Step (RaftInput C))) → IsRun way m n ss → Further m way n (first_sofar m way n).world (world_after way m n ss) (seen way m n ss) [] (applied_by way m n ss)
  whole ss r = run_on m way n ss (first_sofar m way n) r

  applied_from-append : (w : SnapWorld S C O) (best : List (Entry C)) (early late : List (Step (RaftInput C))) →
      applied_from way m n w best (early ++ late)
      ≡ applied_from way m n (run_from (snap_raft way n m) snap_recovery w early) (applied_from way m n w best early) late
  applied_from-append w best [] late = refl
  applied_from-append w best (s ∷ early) late =
      applied_from-append (next (snap_raft way n m) snap_recovery w s) (grown_by best (event_of (snap_raft way n m) w s)) early late

  pub applied_front : (early late : List (Step (RaftInput C))) → IsRun way m n (early ++ late) → IsPrefix (applied_by way m n early) (applied_by way m n (early ++ late))
  applied_front early late r =
      let p = parts m way n (first_world (snap_raft way n m)) early late r in
      let a = run_on m way n early (first_sofar m way n) p.0 in
      rw (applied_from-append (first_world (snap_raft way n m)) [] early late) ((run_on m way n late a.sofar p.1).front)

pub applied_is_free : (S C O : Type 0) → AppliedIsFree S C O
applied_is_free S C O way m n ss r =
    let f = (whole way m n ss r).sofar in
    record {
      at = f.was.at;
      now = f.world;
      moments = f.was.moments;
      mirrors = record { node = f.node; sent = f.sent };
      who = f.was.who;
      is = f.was.is;
      most = λ i. rw ((f.node i).is) (within m way n f i);
    }

pub applied_grows : (S C O : Type 0) → AppliedGrows S C O
applied_grows S C O way m n early late r = applied_front way m n early late r

executed_begins : {C : Type 0} (xs ys : List (RaftInput C)) → IsPrefix xs ys → IsPrefix (executed xs) (executed ys)
executed_begins xs ys f =
    let rest = drop (length xs) ys in
    prefix_of (executed xs) (executed_after Some xs rest) (executed ys) (sym (executed-append xs rest) ∙ ap executed (prefix_joined f))

pub executed_grows : (S C O : Type 0) → ExecutedGrows S C O
executed_grows S C O way m n early late r =
    executed_begins (requests (applied_by way m n early)) (requests (applied_by way m n (early ++ late)))
    (requests_front (applied_by way m n (early ++ late)) (applied_front way m n early late r))

pub each_machine_follows : (S C O : Type 0) → EachMachineFollows S C O
each_machine_follows S C O way m n ss i r = (within m way n f i, ap (snapshot_of m) (sym same) ∙ k.holds.now)
  where
    best : List (Entry C)
    best = applied_by way m n ss

    f : Sofar m way n (world_after way m n ss) (seen way m n ss) best
    f = (whole way m n ss r).sofar

    s : SnapNode S C O
    s = (world_after way m n ss).state i

    k : MirrorsNode m way f.world.sent i ((world_after way m n ss).is_up i) s (f.world.node i)
    k = f.node i

    all : List (Entry C)
    all = k.front ++ s.log.entries

    front : IsPrefix (take s.applied all) best
    front = rw (k.is) at (f.each i)

    long : length (take s.applied all) ≡ s.applied
    long = did_long m way f.world.sent i k.front s k.holds

    same : take s.applied all ≡ take s.applied best
    same = sym (take_all s.applied (take s.applied all) (omega (arith, long))) ∙ (rw long at (same_prefix best front)).eq

pub is_free : (S C O : Type 0) → IsFree S C O
is_free S C O way m n early late r =
    let p = parts m way n (first_world (snap_raft way n m)) early late r in
    let a = whole way m n early p.0 in
    let b = run_on m way n late a.sofar p.1 in
    rw (run_from-append (snap_raft way n m) snap_recovery (first_world (snap_raft way n m)) early late) (record {
      first = a.sofar.world;
      second = b.sofar.world;
      moments = record { early = a.sofar.past; late = b.late; before = a.sofar.run; after = b.goes };
      mirrors_first = record { node = a.sofar.node; sent = a.sofar.sent };
      mirrors_second = record { node = b.sofar.node; sent = b.sofar.sent };
    })

pub none_is_missing : (S C O : Type 0) → NoneIsMissing S C O
none_is_missing S C O way m n ss s e r is =
    let p = parts m way n (first_world (snap_raft way n m)) ss (s ∷ []) r in
    none_missing m way n (whole way m n ss p.0).sofar (view_of s) (first_taken m way n (world_after way m n ss) s [] p.1).0 e is

pub none_is_dropped : (S C O : Type 0) → NoneIsDropped S C O
none_is_dropped S C O way m n ss reads r p here q is fit done =
    let f = (whole way m n ss r).sofar in
    let i = p.destination in
    let s = (world_after way m n ss).state i in
    let came : MirrorsInstall m way f.world.sent p.source i q = rw is at (f.sent p here) in
    let law = lawful n f.world i (record { events = f.past; run = f.run }) in
    rw (whole_came m way n i (λ _. Unit {0}) f.world.sent 0 (λ _. tt) (f.world.node i) s p.source q law (f.node i).holds.own.part came fit done, ← came.sent.all, reads came.entries) refl

pub runs_are_linearizable : (S C O : Type 0) → RunsAreLinearizable S C O
runs_are_linearizable S C O way m n ss r =
    let w = whole way m n ss r in
    let es = applied_by way m n ss in
    let rs = requests es in
    let s = seen way m n ss in
    record {
      requested = record {
        once = distinct (executed rs) (executed-rises rs);
        put_in = each_from (HasInput s) (executed rs) (λ x h. all_put_in s es w.sofar.put_in x (in_executed x rs h));
      };
      outputs = each_from _ (told_since [] s) (λ t h. its_output m rs t (w.sofar.told t h));
      in_time = each_from _ (told_since [] s) (λ t h. its_time m rs t (w.sofar.told t h));
    }
