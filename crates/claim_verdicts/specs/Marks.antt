-- The names of requests, and when each request of an order was first put in.
use Rattle.std.specs.Prelude.{◌≡◌, ℕ, ◌+◌, ◌≤◌, Bool, true, false, ◌==◌, ◌&&◌, nat_lt, List, [], ◌∷◌, length, map, take, Option, Some, None, option_and_then, if◌then◌else◌, slice_get, slice_set}
use Rattle.std.specs.List.{list_any}
use Rattle.vst_base.specs.declared.step.Item.{Item}
use Rattle.vst_base.specs.declared.step.Item.TheVariants as item
use Rattle.raft_types.specs.declared.client.RaftInput.{RaftInput}
use Rattle.raft_types.specs.declared.client.RaftOut.{RaftOut}
use Rattle.raft_types.specs.declared.client.RaftOut.TheVariants as told
use Rattle.linearizability.specs.Linearizable.{AreDistinct, Seen}
use Rattle.schedule_text.specs.Words.{is_text}
use Rattle.claim_verdicts.specs.Clusters.{answers_one, before_input, is_among, is_other_output, puts_in}
use Rattle.claim_verdicts.specs.Places.{place_of}
use Rattle.claim_verdicts.specs.declared.mark.Mark.{Mark}
use Rattle.claim_verdicts.specs.declared.mark.Mark.TheVariants.{Unseen, InTime, Late}
use Rattle.claim_verdicts.specs.declared.name.Name.{Name}

abbrev pub named : ℕ → ℕ → Name
named client request = record { client = client; request = request }

abbrev pub is_name : ℕ → ℕ → Name → Bool
is_name client request n = client == n.client && request == n.request

abbrev pub name_of : {C : Type 0} → RaftInput C → Name
name_of r = named r.client r.request

abbrev pub names_of : {C : Type 0} → List (RaftInput C) → List Name
names_of order = map name_of order

-- the names of the longest front of an order of which no name is there twice
pub record IsFront {C : Type 0} (found : List Name) (order : List (RaftInput C)) : Type 0 where
  pub within : length found ≤ length order
  pub names : found ≡ names_of (take (length found) order)
  pub distinct : AreDistinct (take (length found) order)
  pub next : (r : RaftInput C) → slice_get order (length found) ≡ Some r → is_among (take (length found) order) r.client r.request ≡ true

-- so many of the first requests may have been answered, once a client is told this
abbrev pub past_place : Option ℕ → ℕ
past_place None = 0
past_place (Some place) = place + 1

abbrev pub reach_of : {O : Type 0} → List Name → RaftOut O → ℕ
reach_of names (told.Reply client request o) = past_place (place_of (is_name client request) names)
reach_of names (told.NotLeader client request) = 0
reach_of names (told.Full client request) = 0

abbrev pub mark_by : Bool → Bool → Mark
mark_by false late = Unseen
mark_by true false = InTime
mark_by true true = Late

abbrev pub is_mark : Mark → Mark → Bool
is_mark Unseen Unseen = true
is_mark Late Late = true
is_mark InTime InTime = true
is_mark _ _ = false

-- the mark of a request that is put in now
abbrev pub next_mark : Bool → Bool → Mark → Mark
next_mark puts late Unseen = mark_by puts late
next_mark puts late InTime = InTime
next_mark puts late Late = Late

module _ {C O : Type 0} (command_text : C → List ℕ) where
  abbrev pub mark_of : Seen C O → RaftInput C → List (RaftInput C) → Mark
  mark_of seen r after = mark_by (list_any (puts_in command_text r) seen) (list_any (answers_one (r ∷ after)) (before_input command_text r seen))

  abbrev pub marks_of : Seen C O → List (RaftInput C) → List Mark
  marks_of seen [] = []
  marks_of seen (r ∷ after) = mark_of seen r after ∷ marks_of seen after

-- what an input makes of the marks of an order of these names, of which so many may have been answered
abbrev pub MarksInput : {C : Type 0} → (C → List ℕ) → Option ℕ → List (RaftInput C) → ℕ → RaftInput C → List Mark → List Mark → Type 0
MarksInput command_text None order most i marks marks' = marks' ≡ marks
MarksInput command_text (Some place) order most i marks marks' =
    (r : RaftInput _) × (m : Mark) × (slice_get order place ≡ Some r) × (slice_get marks place ≡ Some m)
    × (marks' ≡ slice_set marks place (next_mark (is_text (command_text r.cmd) (command_text i.cmd)) (nat_lt place most) m))

-- the first request of an order of so many that is not requested, by the marks of the front without repeated names
abbrev pub unrequested_at : Option ℕ → ℕ → ℕ → Option ℕ
unrequested_at (Some place) marked many = Some place
unrequested_at None marked many = if nat_lt marked many then Some marked else None

abbrev pub first_unrequested : List Mark → ℕ → Option ℕ
first_unrequested marks many = unrequested_at (place_of (is_mark Unseen) marks) (length marks) many

-- the output at the place of a request, and whether a client is told another
abbrev pub told_at : {O : Type 0} → List Name → ℕ → ℕ → List O → Option O
told_at names client request outputs = option_and_then (slice_get outputs) (place_of (is_name client request) names)

abbrev pub is_untold : {C O : Type 0} → (O → List ℕ) → List Name → List O → Item (RaftInput C) (RaftOut O) → Bool
is_untold output_text names outputs (item.Input n i) = false
is_untold output_text names outputs (item.Output n (told.Reply client request o)) = is_other_output output_text (told_at names client request outputs) o
is_untold output_text names outputs (item.Output n (told.NotLeader client request)) = false
is_untold output_text names outputs (item.Output n (told.Full client request)) = false
