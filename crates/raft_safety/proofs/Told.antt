-- What clients are told, and what they had seen before.
use Rattle.std.proofs.Common.{◌≡◌, ℕ, List, [], ◌∷◌, ◌++◌, map, inl, inr, refl, sym, ap, ◌∙◌, append_assoc, append-nil}
use Rattle.vst_base.specs.declared.step.Item.TheVariants as item
use Rattle.raft_free.specs.Events.{In}
use Rattle.raft_free.proofs.Stepping.{in_append}
use Rattle.raft_types.specs.declared.client.RaftInput.{RaftInput}
use Rattle.raft_types.specs.declared.client.RaftOut.{RaftOut}
use Rattle.raft_types.specs.declared.client.RaftOut.TheVariants as told
use Rattle.linearizability.specs.Linearizable.{HasInput, Seen, Told, told_since, told_by}
use Rattle.raft_safety.proofs.Mirroring.{put_in}

in_one : {X : Type 0} (x y : X) (ys : List X) → In x (y ∷ []) → In x (y ∷ ys)
in_one x y ys (inl e) = inl e
in_one x y ys (inr h) = absurd h

module _ {C O : Type 0} where
  pub told_since-append : (before xs ys : Seen C O) → told_since before (xs ++ ys) ≡ told_since before xs ++ told_since (before ++ xs) ys
  told_since-append before [] ys = ap (λ b. told_since b ys) (sym (append-nil before))
  told_since-append before (x ∷ xs) ys =
      ap (λ ts. told_by before x ++ ts) (told_since-append (before ++ x ∷ []) xs ys ∙ ap (λ b. told_since (before ++ x ∷ []) xs ++ told_since b ys) (append_assoc before (x ∷ []) xs))
      ∙ sym (append_assoc (told_by before x) (told_since (before ++ x ∷ []) xs) (told_since (before ++ x ∷ xs) ys))

  -- one of these outputs of a node is told, after all that clients had seen
  pub record IsTold (before : Seen C O) (outputs : List (RaftOut O)) (t : Told C O) : Type 0 where
    pub one : In (told.Reply t.client t.request t.output) outputs
    pub later : (q : RaftInput C) → HasInput before q → HasInput t.before q

  told_now : (before : Seen C O) (node : ℕ) (o : RaftOut O) (t : Told C O) → In t (told_by before (item.Output node o)) → IsTold before (o ∷ []) t
  told_now before node (told.Reply client request output) t (inl e) = rw e (record { one = inl refl; later = λ q h. h })
  told_now before node (told.Reply client request output) t (inr h) = absurd h
  told_now before node (told.NotLeader client request) t h = absurd h
  told_now before node (told.Full client request) t h = absurd h

  pub told_outputs : (before : Seen C O) (node : ℕ) (outputs : List (RaftOut O)) (t : Told C O) → In t (told_since before (map (λ o. item.Output node o) outputs)) → IsTold before outputs t
  told_outputs before node [] t h = absurd h
  told_outputs before node (o ∷ outputs) t h =
      elim (in_append t (told_by before (item.Output node o)) (told_since (before ++ item.Output node o ∷ []) (map (λ o. item.Output node o) outputs)) h) [
        | inl q ↦ (let n = told_now before node o t q in record { one = in_one _ o outputs n.one; later = n.later })
        | inr q ↦
            (let n = told_outputs (before ++ item.Output node o ∷ []) node outputs t q in
            record { one = inr n.one; later = λ r b. n.later r (put_in before (item.Output node o ∷ []) r b) })
      ]
