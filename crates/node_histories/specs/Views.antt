-- Two views of one run: what was seen of it at one place, and what of that shows at another, where requests may come earlier or be
-- more, and replies may be lost, come later or come again.
use Rattle.std.specs.Prelude.{◌≡◌, List, [], ◌∷◌, Any, Contains}
use Rattle.linearizability.specs.Linearizable.{HasInput, Seen, Told, told_since}
use Rattle.net_semantics.specs.Runs.{outputs_in}
use Rattle.raft_types.specs.declared.client.RaftOut.{RaftOut}
use Rattle.raft_types.specs.declared.client.RaftOut.TheVariants as told
use Rattle.vst_base.specs.declared.step.Item.{Item}
use Rattle.vst_base.specs.declared.step.Item.TheVariants as item
use Rattle.lists.specs.Each.{Each}

-- the inputs that clients gave, in order
abbrev pub inputs_in : {I O : Type 0} → List (Item I O) → List I
inputs_in [] = []
inputs_in (item.Input node i ∷ items) = i ∷ inputs_in items
inputs_in (item.Output node o ∷ items) = inputs_in items

-- some node gave this output
abbrev pub HasOutput : {I O : Type 0} → List (Item I O) → O → Type 0
HasOutput items o = Contains (outputs_in items) o

-- each input of the first is one of the second, at whatever node
abbrev pub AreAsked : {I O : Type 0} → List (Item I O) → List (Item I O) → Type 0
AreAsked seen view = Each (HasInput view) (inputs_in seen)

-- the reply of the view is this one, and each request that was seen before it was asked before it in the view too
pub record IsReplyOf {C O : Type 0} (seen view : Told C O) : Type 0 where
  pub client : seen.client ≡ view.client
  pub request : seen.request ≡ view.request
  pub output : seen.output ≡ view.output
  pub asked : AreAsked seen.before view.before

module _ {C O : Type 0} where
  -- a reply is one of these, at whatever node; other outputs may be any
  abbrev pub IsGiven : RaftOut O → Seen C O → Type 0
  IsGiven (told.Reply client request output) seen = HasOutput seen (told.Reply client request output)
  IsGiven (told.NotLeader client request) seen = Unit {0}
  IsGiven (told.Full client request) seen = Unit {0}

  -- each reply of the first is one of the second
  abbrev pub AreGiven : Seen C O → Seen C O → Type 0
  AreGiven more seen = Each (λ o. IsGiven o seen) (outputs_in more)

  -- the reply of the view is one of these
  abbrev pub IsReplyOfOne : List (Told C O) → Told C O → Type 0
  IsReplyOfOne seen view = Any (λ t. IsReplyOf t view) seen

  -- what was seen has this view: each request that was seen is in it; and each reply in it is one that was seen, with the requests before
  -- it that were seen before it. Of other requests and outputs it may have any
  pub record HasView (seen view : Seen C O) : Type 0 where
    pub asked : AreAsked seen view
    pub told : Each (IsReplyOfOne (told_since [] seen)) (told_since [] view)
