-- What words leave may be left.
use Rattle.std.proofs.Common.{◌≡◌, ℕ, Bool, true, false, List, [], ◌∷◌, Option, Some, None, slice_get, refl, inl, inr}
use Rattle.std.specs.Prelude.{cond}
use Rattle.std.proofs.lemmas.Bool.Decides.{eqb_tells}
use Rattle.handler_trait.specs.Handling.{Effect, Meaning, Recovery}
use Rattle.vst_base.specs.declared.step.StepRefusal.{StepRefusal}
use Rattle.net_semantics.specs.Runs.{place_and_why}
use Rattle.net_semantics.specs.Worlds.{put}
use Rattle.act_network.specs.declared.step.ActStep.{ActStep}
use Rattle.act_network.specs.declared.step.ActStep.TheVariants as act
use Rattle.act_network.specs.Disks.{Disks, opens_new}
use Rattle.act_network.specs.ActWorlds.{ActWorld, Cause, Flying, Turn, first_act_world}
use Rattle.act_network.specs.ActRefusals.{act_refusal}
use Rattle.act_network.specs.ActRuns.{AreAllowed, MayLeave, first_refused_act_from}
use Rattle.act_network.specs.ActSteps.{act_next, acted, acts_on, begun_with, copied, counts, cut_in, cut_off, delivered, lost, restarted, started_as, stopped}
use Rattle.act_network.specs.Words.{HoldsOfDisks, WordsMayBeLeft, by_words_from, left_by}

none-both : (o : Option StepRefusal) (later : Option (ℕ × StepRefusal)) → place_and_why o later ≡ None → (o ≡ None) × (later ≡ None)
none-both None None e = (refl, refl)
none-both None (Some p) e = cc
none-both (Some why) later e = cc

module _ {S K I O M D A X : Type 0} (m : Meaning S I O M) (r : Recovery S K) (d : Disks K D A X) (P : D → Type 0) (holds : HoldsOfDisks d P) where
  -- it holds of the disk of each node
  abbrev EachHolds : ActWorld S I O M D A X → Type 0
  EachHolds w = (n : ℕ) → P (w.disk n)

  put-holds : (disk : ℕ → D) → ((n : ℕ) → P (disk n)) → (n : ℕ) (new : D) → P new → (i : ℕ) → P (put disk n new i)
  put-holds disk all n new h i = elim (eqb_tells i n) [ inl t ↦ rw (t.0) h | inr t ↦ rw (t.0) (all i) ]

  module _ (w : ActWorld S I O M D A X) (all : EachHolds w) where
    begun-holds : (n : ℕ) (c : Cause I) (e : Effect S O M) (acts : List A) → EachHolds (begun_with w n c e acts)
    begun-holds n c e [] i = put-holds w.disk all n (w.disk n) (all n) i
    begun-holds n c e (a ∷ more) i = put-holds w.disk all n (w.disk n) (all n) i

    acts-hold : (n : ℕ) (t : Turn S I O M A) (acts : List A) (ss : List (ℕ × M)) (os : List O) → EachHolds (acts_on m r d w n t acts ss os)
    acts-hold n t (a ∷ []) ss os i =
        put-holds w.disk all n (d.learns (r.keep t.effect.state) (d.does a (w.disk n)))
        (holds.learns (r.keep t.effect.state) (d.does a (w.disk n)) (holds.does a (w.disk n) (all n))) i
    acts-hold n t (a ∷ (b ∷ more)) ss os i = put-holds w.disk all n (d.does a (w.disk n)) (holds.does a (w.disk n) (all n)) i
    acts-hold n t [] (s ∷ ss) os i = put-holds w.disk all n (w.disk n) (all n) i
    acts-hold n t [] [] (o ∷ os) i = put-holds w.disk all n (w.disk n) (all n) i
    acts-hold n t [] [] [] i = all i

    acted-holds : (n : ℕ) (o : Option (Turn S I O M A)) → EachHolds (acted m r d w n o)
    acted-holds n None i = all i
    acted-holds n (Some t) i = acts-hold n t t.acts t.sends t.outputs i

    cut-holds : (n : ℕ) (left : X) (t : Turn S I O M A) (b : Bool) →
        EachHolds (cond b (stopped (counts w n t.cause t.effect (w.disk n)) n left) (stopped w n left))
    cut-holds n left t true i = put-holds w.disk all n (w.disk n) (all n) i
    cut-holds n left t false i = all i

    off-holds : (n : ℕ) (left : X) (o : Option (Turn S I O M A)) → EachHolds (cut_off m r d w n left o)
    off-holds n left None i = all i
    off-holds n left (Some t) i = by t.acts
      where
        by : (acts : List A) → P ((cut_in m r d w n left t acts).disk i)
        by [] = all i
        by (a ∷ more) = cut-holds n left t (opens_new d n (w.disk n) left) i

    restarted-holds : (n : ℕ) (o : Option X) → EachHolds (restarted m r d w n o)
    restarted-holds n None i = all i
    restarted-holds n (Some left) i = by (d.opens n left)
      where
        by : (found : Option K) → P ((started_as m r d w n left found).disk i)
        by None = all i
        by (Some k) = put-holds w.disk all n (d.reopened n left) (holds.reopened n left) i

  flying-hold : (w : ActWorld S I O M D A X) → EachHolds w → (k : ℕ) (o : Option (Flying M)) →
      EachHolds (delivered m r d w k o) × EachHolds (copied m r d w k o) × EachHolds (lost m r d w k o)
  flying-hold w all k None = (all, all, all)
  flying-hold w all k (Some p) = (λ i. begun-holds _ all p.packet.destination _ _ _ i, all, all)

  step-holds : (w : ActWorld S I O M D A X) → EachHolds w → (s : ActStep I X) → EachHolds (act_next m r d w s)
  step-holds w all (act.In n i) j = begun-holds w all n _ _ _ j
  step-holds w all (act.Tick n) j = begun-holds w all n _ _ _ j
  step-holds w all (act.Deliver k) j = (flying-hold w all k (slice_get w.packets k)).0 j
  step-holds w all (act.Act n) j = acted-holds w all n (w.turn n) j
  step-holds w all (act.Dup k) j = (flying-hold w all k (slice_get w.packets k)).1 j
  step-holds w all (act.Lose k) j = (flying-hold w all k (slice_get w.packets k)).2 j
  step-holds w all (act.Stop n left) j = off-holds w all n left (w.turn n) j
  step-holds w all (act.Reboot n) j = restarted-holds w all n (w.down n) j

  module _ {W : Type 0} (by_word : D → W → X) (may : (disk : D) (word : W) → P disk → d.may_leave disk (by_word disk word) ≡ true) where
    may-be : (w : ActWorld S I O M D A X) → EachHolds w → (s : ActStep I W) → MayLeave m r d w (left_by by_word w s)
    may-be w all (act.In n i) = tt
    may-be w all (act.Deliver k) = tt
    may-be w all (act.Tick n) = tt
    may-be w all (act.Act n) = tt
    may-be w all (act.Dup k) = tt
    may-be w all (act.Lose k) = tt
    may-be w all (act.Stop n word) = may (w.disk n) word (all n)
    may-be w all (act.Reboot n) = tt

    all-allowed : (w : ActWorld S I O M D A X) → EachHolds w → (ss : List (ActStep I W)) →
        first_refused_act_from m r d w (by_words_from m r d by_word w ss) ≡ None → AreAllowed m r d w (by_words_from m r d by_word w ss)
    all-allowed w all [] e = tt
    all-allowed w all (s ∷ ss) e =
        let next : ActWorld S I O M D A X = act_next m r d w (left_by by_word w s) in
        let both = none-both (act_refusal m w (left_by by_word w s)) (first_refused_act_from m r d next (by_words_from m r d by_word next ss)) e in
        (both.0, may-be w all s, all-allowed next (step-holds w all (left_by by_word w s)) ss both.1)

pub words_may_be_left : (S I O M : Type 0) {K D A X W : Type 0} (d : Disks K D A X) (by_word : D → W → X) (P : D → Type 0) → WordsMayBeLeft S I O M d by_word P
words_may_be_left S I O M d by_word P holds may m r ss none = all-allowed m r d P holds by_word may (first_act_world m d) holds.fresh ss none
