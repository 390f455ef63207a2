-- A node as it runs, beside the same node by itself, of which what it decided last may count or not.
use Rattle.std.proofs.Common.{◌≡◌, ℕ, zero, suc, ◌<◌, ◌≤◌, Bool, true, false, List, [], ◌∷◌, ◌++◌, length, take, cond, eqb, arith, Option, Some, None, refl, sym, ap, ◌∙◌, subst, inl, inr, ◌⊎◌, drop}
use Rattle.std.proofs.Math.Seq.{take-append_seam}
use Rattle.std.proofs.lemmas.Bool.{cases_lt, ne_eqb}
use Rattle.std.proofs.lemmas.List.Elements.{Contains-append_right}
use Rattle.std.specs.Prelude.{Contains}
use Rattle.handler_trait.specs.Handling.{Meaning, Recovery}
use Rattle.net_semantics.specs.Steps.{input_item}
use Rattle.net_semantics.specs.Worlds.{Packet, put}
use Rattle.vst_base.specs.declared.step.Item.TheVariants as item
use Rattle.node_histories.proofs.Adding.{own-append}
use Rattle.node_histories.proofs.Lists.{contains_none}
use Rattle.node_histories.proofs.Translating.{translations_are_by_node}
use Rattle.node_histories.specs.Histories.{AreAtNodes, Event, Restarts, Takes, effect_of, input_of, own}
use Rattle.node_histories.specs.Translations.{at_node, translated, translated_alone}
use Rattle.cluster_histories.proofs.Parting.{after_all, by_what_counts, by_what_it_keeps}
use Rattle.cluster_histories.specs.Alone.{AllWentOut_since, Alone, DoesItsPart_from, alone_at_first, keeps, with_effect}
use Rattle.cluster_histories.specs.DeedLaws.{DeedsAreMoves, MayBeKept, moves_of, moves_of_one}
use Rattle.cluster_histories.specs.Deeds.{AllStoreFirst, AllWasSaid_since, Answered, Decided, Deed, Deeds, MayOpenAs, Opened, Running, Said, StoresFirst, StoresFirst_from, WasSaid, after_deed, after_deeds, noted_by, running_at_first, said_after, stored}
use Rattle.cluster_histories.specs.Moves.{Move, Moves, view_of}
use Rattle.lists.specs.Prefixes.{IsPrefix, prefix_joined}

module _ {S K I O M : Type 0} (m : Meaning S I O M) (r : Recovery S K) where
  -- with what it came to last, it is as it runs; without, it is what its areas may open as
  record Fits (n : ℕ) (x : Running S O M K) (a : Alone S I O M) : Type 0 where
    state : (keeps m r n a a.pending).state ≡ x.state
    sends : (to : ℕ) (c : M) → Contains x.sends (to, c) → Contains (keeps m r n a a.pending).sends (to, c)
    outputs : (o : O) → Contains x.outputs o → Contains (keeps m r n a a.pending).outputs o
    before : (k : K) → x.before ≡ Some k → k ≡ r.keep a.state

  keeps_nothing : (n : ℕ) (a : Alone S I O M) (p : Option (Event I M)) → (keeps m r n a p).pending ≡ None
  keeps_nothing n a None = refl
  keeps_nothing n a (Some event) = refl

  -- what it keeps, with nothing pending
  fits_kept : (n : ℕ) (x : Running S O M K) (a : Alone S I O M) → Fits n x a → (y : Alone S I O M) → y ≡ keeps m r n a a.pending → y.pending ≡ None
      → Fits n (stored {I = I} m r x) y
  fits_kept n x a f y is none =
      let same : keeps m r n y y.pending ≡ y = keeps_as_it_is y none in
      record {
        state = ap (λ z. z.state) (same ∙ is) ∙ f.state;
        sends = λ to c i. subst (λ z. Contains z.sends (to, c)) (sym (same ∙ is)) (f.sends to c i);
        outputs = λ o i. subst (λ z. Contains z.outputs o) (sym (same ∙ is)) (f.outputs o i);
        before = λ k e. absurd (cc);
      }
    where
      keeps_as_it_is : (z : Alone S I O M) → z.pending ≡ None → keeps m r n z z.pending ≡ z
      keeps_as_it_is z e = ap (keeps m r n z) e ∙ (λ i. record { state = z.state; pending = (sym e) i; sends = z.sends; outputs = z.outputs })

  fits_decided : (n : ℕ) (x : Running S O M K) (a : Alone S I O M) (event : Event I M) → Fits n x a → (y : Alone S I O M) → y ≡ keeps m r n a a.pending
      → Fits n (after_deed m r n x (Decided event)) (record { state = y.state; pending = Some event; sends = y.sends; outputs = y.outputs })
  fits_decided n x a event f y is =
      let st : y.state ≡ x.state = ap (λ z. z.state) is ∙ f.state in
      record {
        state = ap (λ s. (effect_of m r n s (Takes event)).state) st;
        sends = λ to c i. Contains-append_right y.sends (effect_of m r n y.state (Takes event)).sends (to, c)
            (subst (λ s. Contains (effect_of m r n s (Takes event)).sends (to, c)) (sym st) i);
        outputs = λ o i. Contains-append_right y.outputs (effect_of m r n y.state (Takes event)).outputs o
            (subst (λ s. Contains (effect_of m r n s (Takes event)).outputs o) (sym st) i);
        before = λ k e. let is_k : r.keep x.state ≡ k = cc in sym is_k ∙ ap r.keep (sym st);
      }

  fits_opened : (n : ℕ) (k : K) (a : Alone S I O M) → k ≡ r.keep a.state → (x : Running S O M K) → Fits n (after_deed {I = I} m r n x (Opened k)) (with_effect m r a (effect_of m r n a.state Restarts))
  fits_opened n k a e x = record { state = ap (r.reboot n) (sym e); sends = λ to c i. absurd (contains_none (to, c) i); outputs = λ o i. absurd (contains_none o i); before = λ j g. absurd (cc) }

  -- some choices, by which the node does its part, and fits at each of its moments
  record Part (n : ℕ) (x : Running S O M K) (a : Alone S I O M) (deeds : List (Deed I O M K)) : Type 0 where
    choices : List Bool
    does : DoesItsPart_from m r n a (translated_alone moves_of_one n choices deeds)
    fits : (j : ℕ) → Fits n (after_deeds m r n x (take j deeds)) (after_all m r n a (translated_alone moves_of_one n choices (take j deeds)))

  fits_nowhere_else : (n : ℕ) (x : Running S O M K) (a : Alone S I O M) → Fits n x a
      → (j : ℕ) → Fits n (after_deeds {I = I} m r n x (take j [])) (after_all m r n a (translated_alone moves_of_one n [] (take {A = Deed I O M K} j [])))
  fits_nowhere_else n x a f zero = f
  fits_nowhere_else n x a f (suc j) = f

  fits_here : (n : ℕ) (x : Running S O M K) (a : Alone S I O M) (d : Deed I O M K) (deeds : List (Deed I O M K)) (choices : List Bool) → Fits n x a
      → ((j : ℕ) → Fits n (after_deeds m r n (after_deed m r n x d) (take j deeds))
      (after_all m r n a ((moves_of_one n choices d).1 ++ translated_alone moves_of_one n (moves_of_one n choices d).0 (take j deeds))))
      → (j : ℕ) → Fits n (after_deeds m r n x (take j (d ∷ deeds))) (after_all m r n a (translated_alone moves_of_one n choices (take j (d ∷ deeds))))
  fits_here n x a d deeds choices f later zero = f
  fits_here n x a d deeds choices f later (suc j) = later j

  part : (n : ℕ) (x : Running S O M K) (a : Alone S I O M) (deeds : List (Deed I O M K)) → Fits n x a → StoresFirst_from m r n x deeds → Part n x a deeds
  part n x a [] f may = record { choices = []; does = tt; fits = fits_nowhere_else n x a f }
  part n x a (Decided event ∷ deeds) f may =
      let y : Alone S I O M = keeps m r n a a.pending in
      let z : Alone S I O M = record { state = y.state; pending = Some event; sends = y.sends; outputs = y.outputs } in
      let rest : Part n (after_deed m r n x (Decided event)) z deeds = part n (after_deed m r n x (Decided event)) z deeds (fits_decided n x a event f y refl) may.1 in
      record { choices = rest.choices; does = (tt, (may.0, rest.does)); fits = fits_here n x a (Decided event) deeds rest.choices f rest.fits }
  part n x a (Said to c ∷ deeds) f may =
      let y : Alone S I O M = keeps m r n a a.pending in
      let rest : Part n (stored {I = I} m r x) y deeds = part n (stored {I = I} m r x) y deeds (fits_kept n x a f y refl (keeps_nothing n a a.pending)) may.1 in
      record { choices = rest.choices; does = (tt, (f.sends to c may.0, rest.does)); fits = fits_here n x a (Said to c) deeds rest.choices f rest.fits }
  part n x a (Answered o ∷ deeds) f may =
      let y : Alone S I O M = keeps m r n a a.pending in
      let rest : Part n (stored {I = I} m r x) y deeds = part n (stored {I = I} m r x) y deeds (fits_kept n x a f y refl (keeps_nothing n a a.pending)) may.1 in
      record { choices = rest.choices; does = (tt, (f.outputs o may.0, rest.does)); fits = fits_here n x a (Answered o) deeds rest.choices f rest.fits }
  part n x a (Opened k ∷ deeds) f may =
      let y : Alone S I O M = keeps m r n a a.pending in
      let kept_it : Alone S I O M = with_effect m r y (effect_of m r n y.state Restarts) in
      let lost_it : Alone S I O M = with_effect m r a (effect_of m r n a.state Restarts) in
      opened may.0
      (λ e. part n (after_deed {I = I} m r n x (Opened k)) kept_it deeds (fits_opened n k y (e ∙ ap r.keep (sym f.state)) x) may.1)
      (λ e. part n (after_deed {I = I} m r n x (Opened k)) lost_it deeds (fits_opened n k a (f.before k e) x) may.1)
    where
      opened : (k ≡ r.keep x.state) ⊎ (x.before ≡ Some k)
          → ((k ≡ r.keep x.state) → Part n (after_deed {I = I} m r n x (Opened k)) (with_effect m r (keeps m r n a a.pending) (effect_of m r n (keeps m r n a a.pending).state Restarts)) deeds)
          → ((x.before ≡ Some k) → Part n (after_deed {I = I} m r n x (Opened k)) (with_effect m r a (effect_of m r n a.state Restarts)) deeds) → Part n x a (Opened k ∷ deeds)
      opened (inl e) after before =
          let rest = after e in
          record { choices = true ∷ rest.choices; does = (tt, (tt, rest.does)); fits = fits_here n x a (Opened k) deeds (true ∷ rest.choices) f rest.fits }
      opened (inr e) after before =
          let rest = before e in
          record { choices = false ∷ rest.choices; does = (tt, rest.does); fits = fits_here n x a (Opened k) deeds (false ∷ rest.choices) f rest.fits }

  fits_first : (n : ℕ) → Fits n (running_at_first {I = I} m r n) (alone_at_first m r n)
  fits_first n = record { state = refl; sends = λ to c i. absurd (contains_none (to, c) i); outputs = λ o i. absurd (contains_none o i); before = λ k e. absurd (cc) }

  abbrev PartOf : ℕ → List (Deed I O M K) → Type 0
  PartOf n deeds = Part n (running_at_first {I = I} m r n) (alone_at_first m r n) deeds

  -- what an area may open as, where its node fits
  as_kept : (moves : Moves I O M) (n : ℕ) (x : Running S O M K) (k : K) → Fits n x (after_all m r n (alone_at_first m r n) (own n moves)) → MayOpenAs {I = I} m r x k → MayBeKept m r moves n k
  as_kept moves n x k f (inl e) = inr (e ∙ ap r.keep (sym (by_what_it_keeps m r moves n ∙ f.state)))
  as_kept moves n x k f (inr e) = inl (f.before k e ∙ ap r.keep (sym (by_what_counts m r moves n)))

  -- so it is at each moment
  durable : (choices : ℕ → List Bool) (deeds early : Deeds I O M K) (begins : IsPrefix early deeds) (n : ℕ) (k : K) (p : PartOf n (own n deeds)) → choices n ≡ p.choices
      → MayOpenAs {I = I} m r (after_deeds m r n (running_at_first {I = I} m r n) (own n early)) k → MayBeKept m r (moves_of choices early) n k
  durable choices deeds early begins n k p same may =
      let first : Running S O M K = running_at_first {I = I} m r n in
      let rest = drop (length early) deeds in
      let front : take (length (own n early)) (own n deeds) ≡ own n early =
      ap (λ ds. take (length (own n early)) (own n ds)) (sym (prefix_joined begins)) ∙ (ap (take (length (own n early))) (own-append n early rest) ∙ take-append_seam (own n early) (own n rest)) in
      let alone : own n (moves_of choices early) ≡ translated_alone moves_of_one n p.choices (own n early) =
      translations_are_by_node (List Bool) (Deed I O M K) (Move I O M) moves_of_one choices early n ∙ ap (λ cs. translated_alone moves_of_one n cs (own n early)) same in
      let there : Fits n (after_deeds m r n first (own n early)) (after_all m r n (alone_at_first m r n) (translated_alone moves_of_one n p.choices (own n early))) =
      subst (λ ds. Fits n (after_deeds m r n first ds) (after_all m r n (alone_at_first m r n) (translated_alone moves_of_one n p.choices ds))) front (p.fits (length (own n early))) in
      as_kept (moves_of choices early) n (after_deeds m r n first (own n early)) k
      (subst (λ ms. Fits n (after_deeds m r n first (own n early)) (after_all m r n (alone_at_first m r n) ms)) (sym alone) there) may

-- the moves of an opening are the node's, send nothing and show nothing
module _ {I O M K : Type 0} where
  nodes_same : (nodes : ℕ) (t : ℕ → List Bool) (deeds : Deeds I O M K) → AreAtNodes nodes deeds → AreAtNodes nodes (moves_of t deeds)
  nodes_same nodes t [] h = tt
  nodes_same nodes t (d ∷ deeds) h = go d.1 (t d.0) (nodes_same nodes (put t d.0 (moves_of_one d.0 (t d.0) d.1).0) deeds h.1)
    where
      go : (x : Deed I O M K) (cs : List Bool) → AreAtNodes nodes (translated moves_of_one (put t d.0 (moves_of_one d.0 cs x).0) deeds)
          → AreAtNodes nodes (at_node d.0 (moves_of_one d.0 cs x).1 ++ translated moves_of_one (put t d.0 (moves_of_one d.0 cs x).0) deeds)
      go (Decided event) cs rest = (h.0, (h.0, rest))
      go (Said to c) cs rest = (h.0, (h.0, rest))
      go (Answered o) cs rest = (h.0, (h.0, rest))
      go (Opened k) [] rest = (h.0, rest)
      go (Opened k) (true ∷ cs) rest = (h.0, (h.0, rest))
      go (Opened k) (false ∷ cs) rest = (h.0, rest)

  pub view_same : (t : ℕ → List Bool) (deeds : Deeds I O M K) → view_of (translated moves_of_one t deeds) ≡ noted_by deeds
  view_same t [] = refl
  view_same t (d ∷ deeds) = go d.1 (t d.0) (view_same (put t d.0 (moves_of_one d.0 (t d.0) d.1).0) deeds)
    where
      go : (x : Deed I O M K) (cs : List Bool) → view_of (translated moves_of_one (put t d.0 (moves_of_one d.0 cs x).0) deeds) ≡ noted_by deeds
          → view_of (at_node d.0 (moves_of_one d.0 cs x).1 ++ translated moves_of_one (put t d.0 (moves_of_one d.0 cs x).0) deeds) ≡ noted_by ((d.0, x) ∷ deeds)
      go (Decided event) cs e = ap (λ zs. input_item d.0 (input_of event) ++ zs) e
      go (Said to c) cs e = e
      go (Answered o) cs e = ap (λ zs. item.Output d.0 o ∷ zs) e
      go (Opened k) [] e = e
      go (Opened k) (true ∷ cs) e = e
      go (Opened k) (false ∷ cs) e = e

  said_same : (out : List (Packet M)) (t : ℕ → List Bool) (deeds : Deeds I O M K) → AllWasSaid_since out deeds → AllWentOut_since out (translated moves_of_one t deeds)
  said_same out t [] h = tt
  said_same out t (d ∷ deeds) h = go d.1 (t d.0) h.0 (said_same (said_after out d.0 d.1) (put t d.0 (moves_of_one d.0 (t d.0) d.1).0) deeds h.1)
    where
      go : (x : Deed I O M K) (cs : List Bool) → WasSaid out d.0 x → AllWentOut_since (said_after out d.0 x) (translated moves_of_one (put t d.0 (moves_of_one d.0 cs x).0) deeds)
          → AllWentOut_since out (at_node d.0 (moves_of_one d.0 cs x).1 ++ translated moves_of_one (put t d.0 (moves_of_one d.0 cs x).0) deeds)
      go (Decided event) cs was rest = (tt, (was, rest))
      go (Said to c) cs was rest = (tt, (tt, rest))
      go (Answered o) cs was rest = (tt, (tt, rest))
      go (Opened k) [] was rest = (tt, rest)
      go (Opened k) (true ∷ cs) was rest = (tt, (tt, rest))
      go (Opened k) (false ∷ cs) was rest = (tt, rest)

-- there is nothing of a node that does not exist
own_none : {A : Type 0} (nodes n : ℕ) (xs : List (ℕ × A)) → nodes ≤ n → AreAtNodes nodes xs → own n xs ≡ []
own_none nodes n [] past at = refl
own_none nodes n (x ∷ xs) past at =
    let below : x.0 < nodes = at.0 in
    let other : eqb n x.0 ≡ false = ne_eqb n x.0 (λ e. omega arith) in
    ap (λ b. cond b (x.1 ∷ own n xs) (own n xs)) other ∙ own_none nodes n xs past at.1

each_node : {S K I O M : Type 0} (m : Meaning S I O M) (r : Recovery S K) (deeds : Deeds I O M K) → AllStoreFirst m r deeds → (n : ℕ) → StoresFirst m r n (own n deeds)
each_node m r deeds all n = elim (cases_lt n m.nodes) [
  | inl below ↦ all.each n below
  | inr past ↦ subst (StoresFirst m r n) (sym (own_none m.nodes n deeds past all.at_nodes)) tt
]

pub deeds_are_moves : (S K I O M : Type 0) → DeedsAreMoves S K I O M
deeds_are_moves S K I O M m r deeds all =
    let each : (n : ℕ) → PartOf m r n (own n deeds) = λ n. part m r n (running_at_first {I = I} m r n) (alone_at_first m r n) (own n deeds) (fits_first m r n) (each_node m r deeds all n) in
    let choices : ℕ → List Bool = λ n. (each n).choices in
    record {
      choices = choices;
      parts = record {
        at_nodes = nodes_same m.nodes choices deeds all.at_nodes;
        each = λ n below. subst (DoesItsPart_from m r n (alone_at_first m r n)) (sym (translations_are_by_node (List Bool) (Deed I O M K) (Move I O M) moves_of_one choices deeds n)) (each n).does;
        not_forged = said_same [] choices deeds all.not_forged;
      };
      noted = view_same choices deeds;
      durable = λ early begins n k may. durable m r choices deeds early begins n k (each n) refl may;
    }
