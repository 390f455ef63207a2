-- When an order of requests explains what clients saw of a cluster, condition by condition: it is linearizable by the order.
use Rattle.std.specs.Prelude.{ℕ, Bool, true, false, not, ◌&&◌, ◌||◌, List, [], ◌∷◌, Option, Some, None, option_map, if◌then◌else◌}
use Rattle.std.specs.List.{list_any}
use Rattle.vst_base.specs.Machines.{MachineMeaning}
use Rattle.vst_base.specs.declared.step.Item.{Item}
use Rattle.vst_base.specs.declared.step.Item.TheVariants as item
use Rattle.raft_types.specs.declared.client.RaftInput.{RaftInput}
use Rattle.raft_types.specs.declared.client.RaftOut.{RaftOut}
use Rattle.raft_types.specs.declared.client.RaftOut.TheVariants as told
use Rattle.linearizability.specs.Linearizable.{Seen, beside, is_named, with_outputs}
use Rattle.schedule_text.specs.Words.{is_text}
use Rattle.check_text.specs.Claims.{Claim, image_line, item_line}
use Rattle.claim_verdicts.specs.Places.{first_wrong, verdict_by}
use Rattle.claim_verdicts.specs.declared.verdict.Verdict.{Verdict}

-- what a claim on a cluster is: its image is an order of requests
abbrev pub ClusterClaim : Type 0 → Type 0 → Type 0
ClusterClaim C O = Claim (RaftInput C) (RaftOut O) (RaftInput C)

-- one of these requests has this name
abbrev pub is_among : {C : Type 0} → List (RaftInput C) → ℕ → ℕ → Bool
is_among order client request = list_any (is_named client request) order

module _ {C O : Type 0} where
  -- a client is told the output of one of these requests
  abbrev pub answers_one : List (RaftInput C) → Item (RaftInput C) (RaftOut O) → Bool
  answers_one order (item.Input n i) = false
  answers_one order (item.Output n (told.Reply client request o)) = is_among order client request
  answers_one order (item.Output n (told.NotLeader client request)) = false
  answers_one order (item.Output n (told.Full client request)) = false

-- commands are compared by their texts
module _ {C O : Type 0} (command_text : C → List ℕ) where
  -- a client put this very request in
  abbrev pub puts_in : RaftInput C → Item (RaftInput C) (RaftOut O) → Bool
  puts_in r (item.Input n i) = is_named i.client i.request r && is_text (command_text r.cmd) (command_text i.cmd)
  puts_in r (item.Output n o) = false

  -- what clients saw before this request was first put in: everything where it never was
  abbrev pub before_input : RaftInput C → Seen C O → Seen C O
  before_input r [] = []
  before_input r (x ∷ rest) = if puts_in r x then [] else x ∷ before_input r rest

  -- a request has the name of an earlier one, or no client put it in
  abbrev pub is_unrequested : Seen C O → List (RaftInput C) → RaftInput C → List (RaftInput C) → Bool
  is_unrequested seen before r after = is_among before r.client r.request || not (list_any (puts_in r) seen)

  -- before a request was first put in a client was told the output of it, or of one after it
  abbrev pub is_late : Seen C O → List (RaftInput C) → RaftInput C → List (RaftInput C) → Bool
  is_late seen before r after = list_any (answers_one (r ∷ after)) (before_input r seen)

  -- the lines at which the order has a wrong request, and at which it has one that comes too late
  abbrev pub unrequested_line : ClusterClaim C O → Option ℕ
  unrequested_line c = option_map (image_line c) (first_wrong (is_unrequested c.trace) [] c.image)

  abbrev pub late_line : ClusterClaim C O → Option ℕ
  late_line c = option_map (image_line c) (first_wrong (is_late c.trace) [] c.image)

-- and outputs by theirs: there is none, or another
abbrev pub is_other_output : {O : Type 0} → (O → List ℕ) → Option O → O → Bool
is_other_output output_text None o = true
is_other_output output_text (Some p) o = not (is_text (output_text p) (output_text o))

module _ {C O : Type 0} (output_text : O → List ℕ) where
  -- a client is told the output of a request that has no place in the order, or another output than the machine's at that place
  abbrev pub is_unexplained : List (RaftInput C × O) → Item (RaftInput C) (RaftOut O) → Bool
  is_unexplained outputs (item.Input n i) = false
  is_unexplained outputs (item.Output n (told.Reply client request o)) = is_other_output output_text (beside client request outputs) o
  is_unexplained outputs (item.Output n (told.NotLeader client request)) = false
  is_unexplained outputs (item.Output n (told.Full client request)) = false

  -- the line at which a client is told a wrong output
  abbrev pub unexplained_line : {S : Type 0} → MachineMeaning S C O → ClusterClaim C O → Option ℕ
  unexplained_line m c = option_map item_line (first_wrong (λ before x after. is_unexplained (with_outputs m c.image) x) [] c.trace)

abbrev pub cluster_verdict : {S C O : Type 0} → (C → List ℕ) → (O → List ℕ) → MachineMeaning S C O → ClusterClaim C O → Verdict
cluster_verdict command_text output_text m c = verdict_by ((1, unrequested_line command_text c) ∷ (2, unexplained_line output_text m c) ∷ (3, late_line command_text c) ∷ [])
