-- A trace with some outputs left out is a view of it.
use Rattle.std.proofs.Common.{ℕ, List, [], ◌∷◌, ◌++◌, refl, inl, inr, subst, append_assoc}
use Rattle.std.proofs.lemmas.List.{append-nil}
use Rattle.act_network.specs.Listing.{LeavesOut}
use Rattle.act_raft.specs.RaftLaws.{FewerOutputsAreAView}
use Rattle.linearizability.specs.Linearizable.{HasInput, Seen}
use Rattle.node_histories.proofs.Growing.{seen_goes_on, view_goes_on}
use Rattle.node_histories.proofs.Lists.{contains_here, contains_later}
use Rattle.node_histories.specs.Views.{HasOutput, HasView, IsGiven}
use Rattle.net_semantics.specs.Runs.{outputs_in}
use Rattle.node_histories.proofs.Showing.{shows_itself}
use Rattle.raft_types.specs.declared.client.RaftOut.{RaftOut}
use Rattle.raft_types.specs.declared.client.RaftOut.TheVariants as told
use Rattle.vst_base.specs.declared.step.Item.{Item}
use Rattle.vst_base.specs.declared.step.Item.TheVariants as item

-- the last item of some
pub last_input : {I O : Type 0} (xs : List (Item I O)) (n : ℕ) (i : I) → HasInput (xs ++ item.Input n i ∷ []) i
last_input [] n i = inl refl
last_input (item.Input k j ∷ xs) n i = inr (last_input xs n i)
last_input (item.Output k o ∷ xs) n i = last_input xs n i

pub last_output : {I O : Type 0} (xs : List (Item I O)) (n : ℕ) (o : O) → HasOutput (xs ++ item.Output n o ∷ []) o
last_output [] n o = contains_here o []
last_output (item.Input k j ∷ xs) n o = last_output xs n o
last_output (item.Output k p ∷ xs) n o = contains_later p (outputs_in (xs ++ item.Output n o ∷ [])) o (last_output xs n o)

module _ {C O : Type 0} where
  -- an output that was given is no reply of nobody's
  pub given_by : (o : RaftOut O) (seen : Seen C O) → HasOutput seen o → IsGiven o seen
  given_by (told.Reply client request output) seen h = h
  given_by (told.NotLeader client request) seen h = tt
  given_by (told.Full client request) seen h = tt

  left_out : (seen view xs ys : Seen C O) → LeavesOut xs ys → HasView seen view → HasView (seen ++ ys) (view ++ xs)
  left_out seen view xs [] left h = rw (left, append-nil seen, append-nil view) h
  left_out seen view xs (item.Input n i ∷ ys) left h =
      let more = left_out (seen ++ item.Input n i ∷ []) (view ++ item.Input n i ∷ []) left.0 ys left.2
      (seen_goes_on C O seen (item.Input n i ∷ []) (view ++ item.Input n i ∷ []) (view_goes_on C O seen view (item.Input n i ∷ []) h tt) (last_input view n i, tt)) in
      rw (left.1) (subst (HasView (seen ++ item.Input n i ∷ ys)) (append_assoc view (item.Input n i ∷ []) left.0)
      (subst (λ zs. HasView zs ((view ++ item.Input n i ∷ []) ++ left.0)) (append_assoc seen (item.Input n i ∷ []) ys) more))
  left_out seen view xs (item.Output n o ∷ ys) (inl left) h =
      let more = left_out (seen ++ item.Output n o ∷ []) (view ++ item.Output n o ∷ []) left.0 ys left.2
      (view_goes_on C O (seen ++ item.Output n o ∷ []) view (item.Output n o ∷ []) (seen_goes_on C O seen (item.Output n o ∷ []) view h tt)
      (given_by o (seen ++ item.Output n o ∷ []) (last_output seen n o), tt)) in
      rw (left.1) (subst (HasView (seen ++ item.Output n o ∷ ys)) (append_assoc view (item.Output n o ∷ []) left.0)
      (subst (λ zs. HasView zs ((view ++ item.Output n o ∷ []) ++ left.0)) (append_assoc seen (item.Output n o ∷ []) ys) more))
  left_out seen view xs (item.Output n o ∷ ys) (inr left) h =
      subst (λ zs. HasView zs (view ++ xs)) (append_assoc seen (item.Output n o ∷ []) ys)
      (left_out (seen ++ item.Output n o ∷ []) view xs ys left (seen_goes_on C O seen (item.Output n o ∷ []) view h tt))

pub fewer_outputs_are_a_view : (C O : Type 0) → FewerOutputsAreAView C O
fewer_outputs_are_a_view C O fewer all left = left_out [] [] fewer all left (shows_itself C O [])
