-- What is applied, and what of it is executed, grows at its end alone.
use Rattle.std.proofs.Common.{◌≡◌, ℕ, List, [], ◌∷◌, ◌++◌, Some, length, drop, refl, sym, ap, ◌∙◌}
use Rattle.net_semantics.specs.Runs.{run_from}
use Rattle.net_semantics.specs.Steps.{next}
use Rattle.net_semantics.specs.Worlds.{first_world}
use Rattle.vst_base.specs.Machines.{MachineMeaning}
use Rattle.vst_base.specs.declared.entry.Entry.{Entry}
use Rattle.vst_base.specs.declared.step.Step.{Step}
use Rattle.raft_clients.proofs.Listed.{executed-append, executed_entries-append}
use Rattle.raft_clients.proofs.Once.{applied-state}
use Rattle.raft_clients.specs.Executed.{executed, executed_after, executed_entries, request_of, requests}
use Rattle.raft_types.specs.declared.client.RaftInput.{RaftInput}
use Rattle.raft_xform.specs.Raft.{raft, raft_recovery}
use Rattle.raft_safety.specs.Applied.{applied_by, applied_list, applied_lists, longest, longest_from}
use Rattle.raft_safety.specs.Runs.{IsRun, RaftWorld, seen, world_after}
use Rattle.raft_safety.specs.Safety.{AppliedGrows, EachHasABeginning, EachMachineFollows, ExecutedEntriesGrow, ExecutedGrows}
use Rattle.raft_safety.proofs.Explaining.{requests_front}
use Rattle.raft_safety.proofs.Remembering.{Further, first_sofar, run_on}
use Rattle.raft_safety.proofs.Safe.{parts}
use Rattle.lists.specs.Prefixes.{IsPrefix, prefix_joined, prefix_of}

longest_from-append : {A S C O : Type 0} (lists : RaftWorld S C O → ℕ → List A) (m : MachineMeaning S C O) (n : ℕ) (w : RaftWorld S C O) (best : List A) (early late : List (Step (RaftInput C))) →
    longest_from lists m n w best (early ++ late) ≡ longest_from lists m n (run_from (raft n m) (raft_recovery m) w early) (longest_from lists m n w best early) late
longest_from-append lists m n w best [] late = refl
longest_from-append lists m n w best (s ∷ early) late =
    let after = next (raft n m) (raft_recovery m) w s in
    longest_from-append lists m n after (longest n (lists after) best) early late

pub whole : {S C O : Type 0} (m : MachineMeaning S C O) (n : ℕ) (ss : List (Step (RaftInput C))) → IsRun m n ss → Further m n (world_after m n ss) (seen m n ss) [] (applied_by m n ss)
whole m n ss r = run_on m n ss (first_sofar m n r.size) r.allowed

applied_front : {S C O : Type 0} (m : MachineMeaning S C O) (n : ℕ) (early late : List (Step (RaftInput C))) → IsRun m n (early ++ late) → IsPrefix (applied_by m n early) (applied_by m n (early ++ late))
applied_front m n early late r =
    let p = parts m n (first_world (raft n m)) early late r.allowed in
    let a = run_on m n early (first_sofar m n r.size) p.0 in
    rw (longest_from-append applied_lists m n (first_world (raft n m)) [] early late) ((run_on m n late a.sofar p.1).front)

pub applied_grows : (S C O : Type 0) → AppliedGrows S C O
applied_grows S C O m n early late r = applied_front m n early late r

executed_begins : {C : Type 0} (xs ys : List (RaftInput C)) → IsPrefix xs ys → IsPrefix (executed xs) (executed ys)
executed_begins xs ys f = let rest = drop (length xs) ys in prefix_of (executed xs) (executed_after Some xs rest) (executed ys) (sym (executed-append xs rest) ∙ ap executed (prefix_joined f))

pub executed_grows : (S C O : Type 0) → ExecutedGrows S C O
executed_grows S C O m n early late r = executed_begins _ _ (requests_front _ (applied_front m n early late r))

entries_begin : {C : Type 0} (xs ys : List (Entry C)) → IsPrefix xs ys → IsPrefix (executed_entries xs) (executed_entries ys)
entries_begin xs ys f = let rest = drop (length xs) ys in prefix_of (executed_entries xs) (executed_after request_of (requests xs) rest) (executed_entries ys) (sym (executed_entries-append xs rest) ∙ ap executed_entries (prefix_joined f))

pub executed_entries_grow : (S C O : Type 0) → ExecutedEntriesGrow S C O
executed_entries_grow S C O m n early late r = entries_begin (applied_by m n early) (applied_by m n (early ++ late)) (applied_front m n early late r)

pub each_has_a_beginning : (S C O : Type 0) → EachHasABeginning S C O
each_has_a_beginning S C O m n ss i r below = (whole m n ss r).sofar.each i below

pub each_machine_follows : (S C O : Type 0) → EachMachineFollows S C O
each_machine_follows S C O m n ss i r = let s = (world_after m n ss).state i in sym ((whole m n ss r).sofar.computes i).machine ∙ applied-state m (applied_list s)
