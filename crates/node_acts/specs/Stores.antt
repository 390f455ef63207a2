-- What a node knows of its areas between two saves, and when that is so.
use Rattle.std.specs.Prelude.{◌≡◌, ℕ, suc, ◌+◌, ◌==◌, Bool, true, false, ◌&&◌, List, [], ◌∷◌, length, map, take, Option, None, Some, Result, Ok, Err, if◌then◌else◌, ◌⊎◌}
use Rattle.disk.specs.Areas.{area_at}
use Rattle.disk.specs.Disk.{Disk, NothingPending}
use Rattle.raft_types.specs.Messages.{KeptView}
use Rattle.slots.specs.Opening.{Found, Is, Not, BadSlot, BadBody, BadJournal, OtherStack, OtherNode, OtherCluster, OtherName, named}
use Rattle.slots.specs.Opening as area
use Rattle.vst_base.specs.Entries.{EntryView}
use Rattle.vst_base.specs.declared.stack.StackId.{StackId}
use Rattle.wire_fields.specs.Formats.{Format}
use Rattle.node_body.specs.Slots.{slot_found, state_of}
use Rattle.node_body.specs.declared.slot.Held.{Held}
use Rattle.node_body.specs.declared.version.Version.TheVariants.{Two}
use Rattle.node_body.specs.declared.who.Who.{Who}
use Rattle.node_body.specs.declared.why.Why.{Why}
use Rattle.node_body.specs.declared.why.Why.TheVariants as why

-- what a slot is found to be, as the state alone or the why
abbrev pub why_of : Why → area.Why
why_of why.Slot = BadSlot
why_of why.Body = BadBody
why_of why.Journal = BadJournal
why_of (why.Stack kept configured) = OtherStack kept configured
why_of (why.Node kept configured) = OtherNode kept configured
why_of (why.Cluster kept configured) = OtherCluster kept configured
why_of (why.Name kept configured) = OtherName kept configured

abbrev pub found_of : {K : Type 0} → Result K Why → Found K
found_of (Ok kept) = Is kept
found_of (Err why) = Not (why_of why)

-- for a node of the stack s that asks
abbrev pub found_by : {C : Type 0} → StackId → Format C → Who → List ℕ → Found (KeptView C)
found_by s f who bytes = found_of (state_of (slot_found s f who bytes))

-- the terms of entries
abbrev pub terms_of : {C : Type 0} → List (EntryView C) → List ℕ
terms_of entries = map (λ e. e.term) entries

-- how many of these terms the first entries of a log have
abbrev pub common : {C : Type 0} → List ℕ → List (EntryView C) → ℕ
common [] log = 0
common (t ∷ ts) [] = 0
common (t ∷ ts) (e ∷ es) = if t == e.term then suc (common ts es) else 0

-- What a node knows: whose state it is, the selector, the place of the last gate of the slot that this names, how many records more
-- may follow there, and of the state that is held the term, the vote in it, and the terms of the entries. Where no record may
-- follow, there may be no gate, and the place says nothing.
pub record StoreView : Type 0 where
  pub who : Who
  pub selector : ℕ
  pub gate : ℕ
  pub left : ℕ
  pub term : ℕ
  pub voted : Option ℕ
  pub terms : List ℕ

abbrev pub store_of : {C : Type 0} → Who → ℕ → ℕ → ℕ → KeptView C → StoreView
store_of who selector gate left kept =
    record { who = who; selector = selector; gate = gate; left = left; term = kept.term; voted = kept.voted; terms = terms_of kept.log }

-- of this state it knows the term, the vote and the terms of its entries
pub record Knows {C : Type 0} (store : StoreView) (kept : KeptView C) : Type 0 where
  pub term : store.term ≡ kept.term
  pub voted : store.voted ≡ kept.voted
  pub terms : store.terms ≡ terms_of kept.log

-- The areas are as the node knows, and hold this state: nothing is pending, the named slot is of version 2, and its last gate stands
-- where the node thinks.
pub record Holds {C : Type 0} (s : StackId) (f : Format C) (store : StoreView) (kept : KeptView C) (disk : Disk) : Type 0 where
  pub pending : NothingPending disk
  pub selector : disk.selector.bytes ≡ store.selector ∷ []
  pub slot : Held C
  pub found : slot_found s f store.who (area_at disk (named store.selector)).bytes ≡ Ok slot
  pub version : slot.version ≡ Two
  pub kept_is : slot.journal.kept ≡ kept
  pub left : slot.journal.left ≡ store.left
  pub gate : (store.left ≡ 0) ⊎ (length (area_at disk (named store.selector)).bytes ≡ suc (store.gate + slot.journal.hidden))
  pub knows : Knows store kept

-- how many entries of the state that is held stay
abbrev pub stays : {C : Type 0} → StoreView → KeptView C → ℕ
stays store kept = common store.terms kept.log

-- The entries whose terms have not changed are those that are held. One event of a node keeps this, since a log is cut where the
-- terms differ (the Raft paper, Figure 3, Log Matching).
abbrev pub Continues : {C : Type 0} → StoreView → KeptView C → KeptView C → Type 0
Continues store held kept = take (stays store kept) held.log ≡ take (stays store kept) kept.log

abbrev pub same_vote : Option ℕ → Option ℕ → Bool
same_vote None None = true
same_vote None (Some b) = false
same_vote (Some a) None = false
same_vote (Some a) (Some b) = a == b

-- the same term and vote, and no entry more or less
abbrev pub is_held : {C : Type 0} → StoreView → KeptView C → Bool
is_held store kept =
    (kept.term == store.term && same_vote kept.voted store.voted)
    && (stays store kept == length store.terms && stays store kept == length kept.log)
