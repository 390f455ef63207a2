-- The areas of a cluster's nodes, on which states are saved as node_acts saves them.
use Rattle.std.specs.Prelude.{◌≡◌, ℕ, false, List, [], ◌∷◌, length, Result, Ok, Err}
use Rattle.disk.specs.Areas.{area_at, each}
use Rattle.disk.specs.Disk.{Disk, Image, after, contents, settled}
use Rattle.node_acts.specs.StateActs.{first_kept, opening_acts, state_acts, store_after, store_at_base, store_found}
use Rattle.node_acts.specs.StateLaws.{HasBytes}
use Rattle.node_acts.specs.Stores.{Continues, Holds, Knows, StoreView, found_by, is_held}
use Rattle.node_body.specs.Bodies.{body, body_of}
use Rattle.node_body.specs.Slots.{slot_found}
use Rattle.node_body.specs.declared.slot.Held.{Held}
use Rattle.node_body.specs.declared.version.Version.TheVariants.{One}
use Rattle.node_body.specs.declared.who.Who.{Who}
use Rattle.node_body.specs.declared.why.Why.{Why}
use Rattle.raft_types.specs.Messages.{KeptView}
use Rattle.slots.specs.Opening.{named}
use Rattle.vst_base.specs.declared.stack.StackId.{StackId}
use Rattle.wire_fields.specs.Formats.{Format}
use Rattle.act_disks.specs.Stores.{Stores}

abbrev pub empty_areas : Disk
empty_areas = each settled (record { slot0 = []; slot1 = []; selector = [] })

module _ {C : Type 0} (s : StackId) (f : Format C) where
  -- what a node knows of areas that it has opened
  abbrev pub of_slot : Who → Image → ℕ → Result (Held C) Why → StoreView
  of_slot who image selector (Ok slot) = store_found s f who selector (length (area_at image (named selector))) slot.version slot
  of_slot who image selector (Err why) = store_at_base s f who 0 first_kept

  abbrev pub of_areas : Who → Image → List ℕ → StoreView
  of_areas who image [] = store_at_base s f who 0 first_kept
  of_areas who image (selector ∷ []) = of_slot who image selector (slot_found s f who (area_at image (named selector)))
  of_areas who image (a ∷ b ∷ rest) = store_at_base s f who 0 first_kept

  module _ (who : ℕ → Who) where
    abbrev pub node_stores : Stores (KeptView C) StoreView
    node_stores = record {
      found = λ n. found_by s f (who n);
      acts = λ store kept. state_acts s f store kept;
      knows = λ store kept. store_after s f store kept;
      at_first = λ n. (store_at_base s f (who n) 0 first_kept, after empty_areas (opening_acts s f (who n) (contents empty_areas)));
      reopening = λ n image. opening_acts s f (who n) image;
      knows_found = λ n image. of_areas (who n) image image.selector;
      is_held = λ store kept. is_held store kept;
    }

    pub record NodeHolds (n : ℕ) (store : StoreView) (kept : KeptView C) (disk : Disk) : Type 0 where
      pub who_is : store.who ≡ who n
      pub holds : Holds s f store kept disk

    -- the new state goes on from the held one, and what is written of it has bytes
    pub record CanSave (n : ℕ) (held kept : KeptView C) : Type 0 where
      pub continues : (store : StoreView) → Knows store held → Continues store held kept
      pub has : (store : StoreView) → store.who ≡ who n → Knows store held → is_held store kept ≡ false → HasBytes s f store kept

    -- a state that is found in a slot of version 1 has bytes
    abbrev pub FoundFits : Type 0
    FoundFits =
        (n : ℕ) (bytes : List ℕ) (slot : Held C) → slot_found s f (who n) bytes ≡ Ok slot → slot.version ≡ One →
        (body s f).Fits (body_of (who n) slot.journal.kept)
