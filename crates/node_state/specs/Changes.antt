-- What a node knows anew once the acts of a save were made.
use Rattle.std.specs.Prelude.{ℕ, List, [], ◌++◌, length, take, drop, Option, if◌then◌else◌}
use Rattle.raft_types.specs.Messages.{KeptView}
use Rattle.vst_base.specs.declared.stack.StackId.{StackId}
use Rattle.wire_fields.specs.Formats.{Format}
use Rattle.node_acts.specs.Stores.{StoreView, is_held, stays, terms_of}
use Rattle.node_state.specs.Ends.{end_of, new_end}
use Rattle.node_state.specs.declared.store.JournalEnd.{JournalEnd}

-- where the journal goes on, the term, the vote in it, how many entries of the state that was held stay, and the terms of those after them
pub record ChangeView : Type 0 where
  pub end : JournalEnd
  pub term : ℕ
  pub voted : Option ℕ
  pub keep : ℕ
  pub added : List ℕ

-- what a node knows after a change
abbrev pub changed_by : StoreView → ChangeView → StoreView
changed_by store change = record {
  who = store.who;
  selector = change.end.selector;
  gate = change.end.gate;
  left = change.end.left;
  term = change.term;
  voted = change.voted;
  terms = take change.keep store.terms ++ change.added;
}

-- no change
abbrev pub no_change : StoreView → ChangeView
no_change store = record { end = end_of store; term = store.term; voted = store.voted; keep = length store.terms; added = [] }

-- the change that the save of a state makes
abbrev pub change_to : {C : Type 0} → StackId → Format C → StoreView → KeptView C → ChangeView
change_to s f store kept =
    if is_held store kept then no_change store
    else record {
      end = new_end s f store.who (end_of store) (stays store kept) kept;
      term = kept.term;
      voted = kept.voted;
      keep = stays store kept;
      added = terms_of (drop (stays store kept) kept.log);
    }
