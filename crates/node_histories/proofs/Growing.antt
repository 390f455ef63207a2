-- What was seen, and a view of it, as both go on.
use Rattle.std.proofs.Common.{◌≡◌, List, [], ◌∷◌, ◌++◌, refl, sym, ap, ◌∙◌, subst, append_assoc, inl, inr}
use Rattle.std.proofs.lemmas.List.{append-nil}
use Rattle.linearizability.specs.Linearizable.{HasInput, Seen, Told, told_by, told_since}
use Rattle.net_semantics.specs.Runs.{outputs_in}
use Rattle.raft_types.specs.declared.client.RaftInput.{RaftInput}
use Rattle.raft_types.specs.declared.client.RaftOut.{RaftOut}
use Rattle.raft_types.specs.declared.client.RaftOut.TheVariants as told
use Rattle.vst_base.specs.declared.step.Item.{Item}
use Rattle.vst_base.specs.declared.step.Item.TheVariants as item
use Rattle.node_histories.proofs.Lists.{any_here, any_later, any_left, contains_cases, contains_none, each_both, each_front, each_then}
use Rattle.node_histories.specs.ViewLaws.{SeenGoesOn, ViewGoesOn}
use Rattle.node_histories.specs.Views.{AreAsked, AreGiven, HasOutput, IsReplyOf, IsReplyOfOne, HasView, inputs_in}
use Rattle.lists.specs.Each.{Each}

inputs_in-append : {I O : Type 0} (xs ys : List (Item I O)) → inputs_in (xs ++ ys) ≡ inputs_in xs ++ inputs_in ys
inputs_in-append [] ys = refl
inputs_in-append (item.Input node i ∷ xs) ys = ap (λ is. i ∷ is) (inputs_in-append xs ys)
inputs_in-append (item.Output node o ∷ xs) ys = inputs_in-append xs ys

pub has_input_left : {I O : Type 0} (xs ys : List (Item I O)) (i : I) → HasInput xs i → HasInput (xs ++ ys) i
has_input_left [] ys i h = absurd h
has_input_left (item.Input node j ∷ xs) ys i (inl e) = inl e
has_input_left (item.Input node j ∷ xs) ys i (inr h) = inr (has_input_left xs ys i h)
has_input_left (item.Output node o ∷ xs) ys i h = has_input_left xs ys i h

-- requests that show still show where more shows
asked_more : {I O : Type 0} (xs ys more : List (Item I O)) → AreAsked xs ys → AreAsked xs (ys ++ more)
asked_more xs ys more a = each_then (HasInput ys) (HasInput (ys ++ more)) (inputs_in xs) (λ i h. has_input_left ys more i h) a

module _ {C O : Type 0} where
  told_since-append : (before xs ys : Seen C O) → told_since before (xs ++ ys) ≡ told_since before xs ++ told_since (before ++ xs) ys
  told_since-append before [] ys = ap (λ zs. told_since zs ys) (sym (append-nil before))
  told_since-append before (x ∷ xs) ys =
      let first : List (Told C O) = told_by before x in
      ap (λ zs. first ++ zs) (told_since-append (before ++ x ∷ []) xs ys)
      ∙ (ap (λ zs. first ++ (told_since (before ++ x ∷ []) xs ++ told_since zs ys)) (append_assoc before (x ∷ []) xs)
      ∙ sym (append_assoc first (told_since (before ++ x ∷ []) xs) (told_since (before ++ x ∷ xs) ys)))

  pub grow_seen : (seen more view : Seen C O) → HasView seen view → AreAsked more view → HasView (seen ++ more) view
  grow_seen seen more view s a = record {
    asked = subst (Each (HasInput view)) (sym (inputs_in-append seen more)) (each_both (HasInput view) (inputs_in seen) (inputs_in more) s.asked a);
    told = subst (λ us. Each (IsReplyOfOne us) (told_since [] view)) (sym (told_since-append [] seen more))
        (each_then (IsReplyOfOne (told_since [] seen)) (IsReplyOfOne (told_since [] seen ++ told_since seen more)) (told_since [] view)
        (λ t one. any_left (λ u. IsReplyOf u t) (told_since [] seen) (told_since seen more) one) s.told);
  }

  -- a reply that was seen, told to a client after all that was seen
  of_those_seen : (before rest : Seen C O) (t : Told C O) → HasOutput rest (told.Reply t.client t.request t.output) → AreAsked (before ++ rest) t.before → IsReplyOfOne (told_since before rest) t
  of_those_seen before [] t h a = absurd (contains_none (told.Reply t.client t.request t.output) h)
  of_those_seen before (x ∷ rest) t h a = go x h (of_those_seen (before ++ x ∷ []) rest t) (subst (λ zs. AreAsked zs t.before) (sym (append_assoc before (x ∷ []) rest)) a)
    where
      early : (y : Item (RaftInput C) (RaftOut O)) → AreAsked ((before ++ y ∷ []) ++ rest) t.before → AreAsked before t.before
      early y b =
          let whole : AreAsked (before ++ y ∷ rest) t.before = subst (λ zs. AreAsked zs t.before) (append_assoc before (y ∷ []) rest) b in
          each_front (HasInput t.before) (inputs_in before) (inputs_in (y ∷ rest)) (subst (Each (HasInput t.before)) (inputs_in-append before (y ∷ rest)) whole)

      go : (y : Item (RaftInput C) (RaftOut O)) → HasOutput (y ∷ rest) (told.Reply t.client t.request t.output)
          → (HasOutput rest (told.Reply t.client t.request t.output) → AreAsked ((before ++ y ∷ []) ++ rest) t.before → IsReplyOfOne (told_since (before ++ y ∷ []) rest) t)
          → AreAsked ((before ++ y ∷ []) ++ rest) t.before → IsReplyOfOne (told_since before (y ∷ rest)) t
      go (item.Input node i) g later b = later g b
      go (item.Output node (told.Reply client request output)) g later b = elim (contains_cases (told.Reply client request output) (outputs_in rest) (told.Reply t.client t.request t.output) g) [
        | inl e ↦ any_here (λ u. IsReplyOf u t) (record { client = client; request = request; output = output; before = before }) (told_since (before ++ item.Output node (told.Reply client request output) ∷ []) rest)
            (record { client = cc; request = cc; output = cc; asked = early (item.Output node (told.Reply client request output)) b })
        | inr k ↦ any_later (λ u. IsReplyOf u t) (record { client = client; request = request; output = output; before = before }) (told_since (before ++ item.Output node (told.Reply client request output) ∷ []) rest) (later k b)
      ]
      go (item.Output node (told.NotLeader client request)) g later b = elim (contains_cases (told.NotLeader client request) (outputs_in rest) (told.Reply t.client t.request t.output) g) [ inl e ↦ absurd (cc) | inr k ↦ later k b ]
      go (item.Output node (told.Full client request)) g later b = elim (contains_cases (told.Full client request) (outputs_in rest) (told.Reply t.client t.request t.output) g) [ inl e ↦ absurd (cc) | inr k ↦ later k b ]

  -- what shows more, after what shows already
  each_of_those : (seen view more : Seen C O) → AreAsked seen view → AreGiven more seen → Each (IsReplyOfOne (told_since [] seen)) (told_since view more)
  each_of_those seen view [] a g = tt
  each_of_those seen view (item.Input node i ∷ more) a g = each_of_those seen (view ++ item.Input node i ∷ []) more (asked_more seen view (item.Input node i ∷ []) a) g
  each_of_those seen view (item.Output node (told.Reply client request output) ∷ more) a g = (
    of_those_seen [] seen (record { client = client; request = request; output = output; before = view }) g.0 a,
    each_of_those seen (view ++ item.Output node (told.Reply client request output) ∷ []) more (asked_more seen view (item.Output node (told.Reply client request output) ∷ []) a) g.1,
  )
  each_of_those seen view (item.Output node (told.NotLeader client request) ∷ more) a g =
      each_of_those seen (view ++ item.Output node (told.NotLeader client request) ∷ []) more (asked_more seen view (item.Output node (told.NotLeader client request) ∷ []) a) g.1
  each_of_those seen view (item.Output node (told.Full client request) ∷ more) a g =
      each_of_those seen (view ++ item.Output node (told.Full client request) ∷ []) more (asked_more seen view (item.Output node (told.Full client request) ∷ []) a) g.1

  pub grow_view : (seen view more : Seen C O) → HasView seen view → AreGiven more seen → HasView seen (view ++ more)
  grow_view seen view more s g = record {
    asked = asked_more seen view more s.asked;
    told = subst (Each (IsReplyOfOne (told_since [] seen))) (sym (told_since-append [] view more))
        (each_both (IsReplyOfOne (told_since [] seen)) (told_since [] view) (told_since view more) s.told (each_of_those seen view more s.asked g));
  }

pub seen_goes_on : (C O : Type 0) → SeenGoesOn C O
seen_goes_on C O seen more view s a = grow_seen seen more view s a

pub view_goes_on : (C O : Type 0) → ViewGoesOn C O
view_goes_on C O seen view more s g = grow_view seen view more s g
