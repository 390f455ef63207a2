-- Each part of what explains what was seen, carried over to a view.
use Rattle.std.proofs.Common.{◌≡◌, List, [], ◌∷◌, Some, refl, ◌∙◌, subst, inl, inr}
use Rattle.linearizability.specs.Linearizable.{AreInTime, AreOutputs, AreRequested, HasInput, Seen, Told, beside, told_since, up_to, with_outputs}
use Rattle.raft_types.specs.declared.client.RaftInput.{RaftInput}
use Rattle.vst_base.specs.Machines.{MachineMeaning}
use Rattle.vst_base.specs.declared.step.Item.{Item}
use Rattle.vst_base.specs.declared.step.Item.TheVariants as item
use Rattle.node_histories.proofs.Lists.{any_here, any_later, any_then, each_then, of_one}
use Rattle.node_histories.specs.ViewLaws.{LessIsExplained, ShowsItself, ViewsGoOn}
use Rattle.node_histories.specs.Views.{AreAsked, IsReplyOf, IsReplyOfOne, HasView, inputs_in}
use Rattle.lists.specs.Each.{Each}

pub has_asked : {I O : Type 0} (xs ys : List (Item I O)) (i : I) → AreAsked xs ys → HasInput xs i → HasInput ys i
has_asked [] ys i all h = absurd h
has_asked (item.Input node j ∷ rest) ys i all (inl e) = subst (HasInput ys) e all.0
has_asked (item.Input node j ∷ rest) ys i all (inr h) = has_asked rest ys i all.1 h
has_asked (item.Output node o ∷ rest) ys i all h = has_asked rest ys i all h

pub asked_by : {I O : Type 0} (xs ys : List (Item I O)) → ((i : I) → HasInput xs i → HasInput ys i) → AreAsked xs ys
asked_by [] ys h = tt
asked_by (item.Input node j ∷ rest) ys h = (h j (inl refl), asked_by rest ys (λ i g. h i (inr g)))
asked_by (item.Output node o ∷ rest) ys h = asked_by rest ys h

module _ {C O : Type 0} where
  asked_on : (a b c : Seen C O) → AreAsked a b → AreAsked b c → AreAsked a c
  asked_on a b c f g = each_then (HasInput b) (HasInput c) (inputs_in a) (λ i h. has_asked b c i g h) f

  asked_itself : (a : Seen C O) → AreAsked a a
  asked_itself a = asked_by a a (λ i h. h)

  -- what follows for each reply of the view from what holds of the reply that it is
  for_each : (P Q : Told C O → Type 0) (seen view : List (Told C O)) → ((u t : Told C O) → IsReplyOf u t → P u → Q t) → Each P seen → Each (IsReplyOfOne seen) view → Each Q view
  for_each P Q seen view f all h = each_then (IsReplyOfOne seen) Q view (λ t one. of_one P (λ u. IsReplyOf u t) seen (λ u p r. f u t r p) all one) h

  reply_on : (u t v : Told C O) → IsReplyOf u t → IsReplyOf t v → IsReplyOf u v
  reply_on u t v a b = record {
    client = a.client ∙ b.client;
    request = a.request ∙ b.request;
    output = a.output ∙ b.output;
    asked = asked_on u.before t.before v.before a.asked b.asked;
  }

  reply_itself : (t : Told C O) → IsReplyOf t t
  reply_itself t = record { client = refl; request = refl; output = refl; asked = asked_itself t.before }

  replies_themselves : (ts : List (Told C O)) → Each (IsReplyOfOne ts) ts
  replies_themselves [] = tt
  replies_themselves (t ∷ ts) = (
    any_here (λ u. IsReplyOf u t) t ts (reply_itself t),
    each_then (IsReplyOfOne ts) (IsReplyOfOne (t ∷ ts)) ts (λ v one. any_later (λ u. IsReplyOf u v) t ts one) (replies_themselves ts),
  )

pub shows_itself : (C O : Type 0) → ShowsItself C O
shows_itself C O seen = record { asked = asked_itself seen; told = replies_themselves (told_since [] seen) }

pub views_go_on : (C O : Type 0) → ViewsGoOn C O
views_go_on C O seen between view a b = record {
  asked = asked_on seen between view a.asked b.asked;
  told = for_each (IsReplyOfOne (told_since [] seen)) (IsReplyOfOne (told_since [] seen)) (told_since [] between) (told_since [] view)
      (λ t v r one. any_then (λ u. IsReplyOf u t) (λ u. IsReplyOf u v) (told_since [] seen) (λ u s. reply_on u t v s r) one) a.told b.told;
}

module _ {S C O : Type 0} (m : MachineMeaning S C O) (order : List (RaftInput C)) (seen view : Seen C O) (s : HasView seen view) where
  requested : AreRequested order seen → AreRequested order view
  requested r = record { once = r.once; put_in = each_then (HasInput seen) (HasInput view) order (λ i h. has_asked seen view i s.asked h) r.put_in }

  abbrev IsMachines : Told C O → Type 0
  IsMachines t = beside t.client t.request (with_outputs m order) ≡ Some t.output

  same_output : (u t : Told C O) → IsReplyOf u t → IsMachines u → IsMachines t
  same_output u t r e =
      let client = r.client in
      let request = r.request in
      let output = r.output in
      rw (← client, ← request, ← output) e

  outputs : AreOutputs m order seen → AreOutputs m order view
  outputs all = for_each IsMachines IsMachines (told_since [] seen) (told_since [] view) same_output all s.told

  abbrev IsInTime : Told C O → Type 0
  IsInTime t = Each (HasInput t.before) (up_to t.client t.request order)

  same_time : (u t : Told C O) → IsReplyOf u t → IsInTime u → IsInTime t
  same_time u t r all =
      let client = r.client in
      let request = r.request in
      let later = each_then (HasInput u.before) (HasInput t.before) (up_to u.client u.request order) (λ i h. has_asked u.before t.before i r.asked h) all in
      subst (λ k. Each (HasInput t.before) (up_to k t.request order)) client (subst (λ k. Each (HasInput t.before) (up_to u.client k order)) request later)

  in_time : AreInTime order seen → AreInTime order view
  in_time all = for_each IsInTime IsInTime (told_since [] seen) (told_since [] view) same_time all s.told

pub less_is_explained : (S C O : Type 0) → LessIsExplained S C O
less_is_explained S C O m order seen view s l = record {
  requested = requested m order seen view s l.requested;
  outputs = outputs m order seen view s l.outputs;
  in_time = in_time m order seen view s l.in_time;
}
