-- One step of handlers that keep bytes, beside the handlers within; and so every schedule on which what is kept has bytes.
use Rattle.std.specs.Prelude.{◌≡◌, ℕ, true, false, List, [], ◌∷◌, IfSome, Option, None, Some, option_map, slice_get, refl}
use Rattle.std.proofs.Common.{ap, ◌∙◌, sym, subst, inl, inr}
use Rattle.std.proofs.lemmas.Bool.{cases_eq}
use Rattle.handler_trait.specs.Handling.{Meaning, Recovery}
use Rattle.net_semantics.specs.Steps.{Event, after_event, after_network, crashed, delivered, delivery, event_in, event_of, items_of_event, network_after, next, rebooted, refusal_in}
use Rattle.net_semantics.specs.Worlds.{Packet, World, first_world, put}
use Rattle.net_semantics.proofs.Places.{put-there, put-elsewhere}
use Rattle.vst_base.specs.declared.net.Net.{Net}
use Rattle.vst_base.specs.declared.step.Step.{Step}
use Rattle.vst_base.specs.Nets.{AtNode, OfPacket, Starts, StepView, Stops, view_of}
use Rattle.wired.specs.Saving.{EachKeepsBytes, KeepsBytesIn, ReadsBack, SavedRunsAreTheSame, Saving, Seated, saved, saved_recovery, seat, seated, started, world_saved}
use Rattle.wired.proofs.Alike.{EachStepsTheSame, runs}

-- a value that is put in one place, and what stands for each
put-mapped : {A B : Type 0} (g : ℕ → A → B) (f : ℕ → A) (n : ℕ) (a : A) (k : ℕ) → put (λ j. g j (f j)) n (g n a) k ≡ g k (put f n a k)
put-mapped g f n a k = elim (cases_eq k n) [
  | inl same ↦ put-there (λ j. g j (f j)) n (g n a) k same ∙ (λ i. g (sym same i) a) ∙ ap (g k) (sym (put-there f n a k same))
  | inr ne ↦ put-elsewhere (λ j. g j (f j)) n (g n a) k ne ∙ ap (g k) (sym (put-elsewhere f n a k ne))
]

put-kept : {K : Type 0} (P : ℕ → K → Type 0) (f : ℕ → Option K) (n : ℕ) (o : Option K) → ((k : ℕ) → IfSome (f k) (P k)) → IfSome o (P n) → (k : ℕ) → IfSome (put f n o k) (P k)
put-kept P f n o all here k = elim (cases_eq k n) [
  | inl same ↦ subst (λ o. IfSome o (P k)) (sym (put-there f n o k same)) (subst (λ j. IfSome o (P j)) (sym same) here)
  | inr ne ↦ subst (λ o. IfSome o (P k)) (sym (put-elsewhere f n o k ne)) (all k)
]

module _ {S K I O M : Type 0} (saving : Saving K) (back : ReadsBack saving) (m : Meaning S I O M) (r : Recovery S K) where
  abbrev m' : Meaning (Seated S) I O M
  m' = saved m

  abbrev r' : Recovery (Seated S) (List ℕ)
  r' = saved_recovery saving m r

  abbrev bytes : World S K M → World (Seated S) (List ℕ) M
  bytes w = world_saved saving w

  abbrev AllFit : World S K M → Type 0
  AllFit w = (n : ℕ) → IfSome (w.kept n) (saving.Fits n)

  same_refusal : (net : Net) (w : World S K M) (s : StepView I) → refusal_in net m' (bytes w) s ≡ refusal_in net m w s
  same_refusal net w (AtNode n input) = refl
  same_refusal net w (OfPacket k fate) = refl
  same_refusal net w (Stops n) = refl
  same_refusal net w (Starts n) = refl

  abbrev event_seated : Event S I O M → Event (Seated S) I O M
  event_seated e = record { node = e.node; input = e.input; effect = seated e.node e.effect }

  same_delivery : (w : World S K M) (o : Option (Packet M)) → delivery m' (bytes w) o ≡ option_map event_seated (delivery {I = I} m w o)
  same_delivery w None = refl
  same_delivery w (Some p) = refl

  same_event : (w : World S K M) (s : StepView I) → event_in m' (bytes w) s ≡ option_map event_seated (event_in m w s)
  same_event w (AtNode n (Some i)) = refl
  same_event w (AtNode n None) = refl
  same_event w (OfPacket k fate) = same_delivery w (delivered fate (slice_get w.packets k))
  same_event w (Stops n) = refl
  same_event w (Starts n) = refl

  items_seated : (o : Option (Event S I O M)) → items_of_event (option_map event_seated o) ≡ items_of_event o
  items_seated None = refl
  items_seated (Some e) = refl

  after_seated : (w : World S K M) (o : Option (Event S I O M)) → after_event (bytes w) (option_map event_seated o) ≡ bytes (after_event w o)
  after_seated w None = refl
  after_seated w (Some e) = λ i. record {
    state = λ k. put-mapped seat w.state e.node e.effect.state k i;
    is_up = w.is_up;
    kept = (bytes w).kept;
    packets = (after_event w (Some e)).packets;
  }

  same_crash : (w : World S K M) (n : ℕ) → crashed r' (bytes w) n ≡ bytes (crashed r w n)
  same_crash w n = λ i. record {
    state = (bytes w).state;
    is_up = put w.is_up n false;
    kept = λ k. put-mapped (λ j. option_map (saving.spell j)) w.kept n (Some (r.keep (w.state n))) k i;
    packets = w.packets;
  }

  same_reboot : (w : World S K M) (n : ℕ) (o : Option K) → IfSome o (saving.Fits n) → rebooted r' (bytes w) n (option_map (saving.spell n) o) ≡ bytes (rebooted r w n o)
  same_reboot w n None fits = refl
  same_reboot w n (Some k) fits =
      (λ i. record {
        state = put (bytes w).state n (seat n (started m r n (back n k fits i)));
        is_up = put w.is_up n true;
        kept = put (bytes w).kept n None;
        packets = w.packets;
      }) ∙ (λ i. record {
        state = λ j. put-mapped seat w.state n (r.reboot n k) j i;
        is_up = put w.is_up n true;
        kept = λ j. put-mapped (λ j. option_map (saving.spell j)) w.kept n None j i;
        packets = w.packets;
      })

  same_network : (w : World S K M) (s : StepView I) → AllFit w → network_after r' (bytes w) s ≡ bytes (network_after r w s)
  same_network w (AtNode n input) fit = refl
  same_network w (OfPacket k fate) fit = refl
  same_network w (Stops n) fit = same_crash w n
  same_network w (Starts n) fit = same_reboot w n (w.kept n) (fit n)

  -- what is kept has bytes after a step too
  fit_after : (w : World S K M) (o : Option (Event S I O M)) → AllFit w → AllFit (after_event w o)
  fit_after w None fit = fit
  fit_after w (Some e) fit = fit

  fit_rebooted : (w : World S K M) (n : ℕ) (o : Option K) → AllFit w → AllFit (rebooted r w n o)
  fit_rebooted w n None fit = fit
  fit_rebooted w n (Some k) fit = put-kept saving.Fits w.kept n None fit tt

  fit_network : (w : World S K M) (s : StepView I) → AllFit w → KeepsBytesIn saving r w s → AllFit (network_after r w s)
  fit_network w (AtNode n input) fit here = fit
  fit_network w (OfPacket k fate) fit here = fit
  fit_network w (Stops n) fit here = put-kept saving.Fits w.kept n (Some (r.keep (w.state n))) fit here
  fit_network w (Starts n) fit here = fit_rebooted w n (w.kept n) fit

  each_step : (w : World S K M) (ss : List (Step I)) → AllFit w → EachKeepsBytes saving m r w ss → EachStepsTheSame m' r' m r bytes w ss
  each_step w [] fit each = tt
  each_step w (s ∷ ss) fit each =
      let network = same_network w (view_of s) fit in
      let event = same_event w (view_of s) in (
        record {
          items = ap (λ o. items_of_event {I = I} o) event ∙ items_seated (event_of m w s);
          world = (λ i. after_event (network i) (event i)) ∙ after_seated (after_network r w s) (event_of m w s);
        },
        each_step (next m r w s) ss (fit_after (after_network r w s) (event_of m w s) (fit_network w (view_of s) fit each.0)) each.1,
      )

  pub saved_runs : SavedRunsAreTheSame saving m r
  saved_runs net ss each = runs m' r' m r bytes (λ net w s. same_refusal net w (view_of s)) net ss refl (each_step (first_world m) ss (λ n. tt) each)
