-- Laws of runs of single acts: what one step more adds to a run and to the first refusal.
use Rattle.std.specs.Prelude.{◌≡◌, suc, List, [], ◌∷◌, ◌++◌, length, None, option_map, refl, ℕ}
use Rattle.std.proofs.Common.{ap, sym, subst, ◌∙◌}
use Rattle.handler_trait.specs.Facts.{RebootableFacts}
use Rattle.handler_trait.specs.Handling.{Meaning, Recovery}
use Rattle.vst_base.specs.declared.step.StepRefusal.{StepRefusal}
use Rattle.net_semantics.specs.Runs.{place_and_why}
use Rattle.net_semantics.specs.RunLaws.{later, place_and_why-later, place_and_why-none}
use Rattle.act_network.specs.ActRefusals.{act_refusal}
use Rattle.act_network.specs.ActRuns.{acts_from, acts_run, first_refused_act_from}
use Rattle.act_network.specs.ActSteps.{act_next}
use Rattle.act_network.specs.ActWorlds.{ActWorld, first_act_world}
use Rattle.act_network.specs.Disks.{Disks}
use Rattle.act_network.specs.Words.{by_words, by_words_from, left_by}
use Rattle.act_network.specs.declared.step.ActStep.{ActStep}
use Rattle.act_world.specs.ActViews.{ActView, ShowsAct}
use Rattle.act_world.specs.ByWords.{HasFollowedWords}
use Rattle.act_world.specs.Following.{HasFollowedActs}

module _ {S K I O M D A X : Type 0} (m : Meaning S I O M) (r : Recovery S K) (d : Disks K D A X) where
  -- a run goes on by one step
  pub acts_from-last : (w : ActWorld S I O M D A X) (ss : List (ActStep I X)) (s : ActStep I X) → acts_from m r d w (ss ++ s ∷ []) ≡ act_next m r d (acts_from m r d w ss) s
  acts_from-last w [] s = refl
  acts_from-last w (x ∷ ss) s = acts_from-last (act_next m r d w x) ss s

  -- after steps of which none is refused, the first refusal is that of the step that follows
  pub first_refused_act_from-last : (w : ActWorld S I O M D A X) (ss : List (ActStep I X)) (s : ActStep I X) → first_refused_act_from m r d w ss ≡ None →
      first_refused_act_from m r d w (ss ++ s ∷ []) ≡ later (length ss) (place_and_why (act_refusal m (acts_from m r d w ss) s) None)
  first_refused_act_from-last w [] s none = refl
  first_refused_act_from-last w (x ∷ ss) s none =
      let both = place_and_why-none (act_refusal m w x) (first_refused_act_from m r d (act_next m r d w x) ss) none in
      let rest = first_refused_act_from-last (act_next m r d w x) ss s both.1 in
      place_and_why-later (act_refusal m w x) _ both.0 ∙ ap (λ o. option_map (λ (p : ℕ × StepRefusal). (suc p.0, p.1)) o) rest

-- a world has followed one step more
pub follows-on : {H S K D I A O M X : Type 0} (f : RebootableFacts H S K I O M) (d : Disks K D A X) (v after : ActView H S D I A O M X) (ss : List (ActStep I X)) (s : ActStep I X) →
    after.handlers ≡ v.handlers →
    ((w : ActWorld S I O M D A X) → ShowsAct v w → ShowsAct after (act_next (f.meaning v.handlers) (f.recovery v.handlers) d w s)) →
    HasFollowedActs f d v ss → HasFollowedActs f d after (ss ++ s ∷ [])
follows-on {H = H} f d v after ss s same leads followed =
    let m = f.meaning v.handlers in let r = f.recovery v.handlers in
    subst (λ (h : H). ShowsAct after (acts_run (f.meaning h) (f.recovery h) d (ss ++ s ∷ []))) (sym same)
    (subst (ShowsAct after) (sym (acts_from-last m r d (first_act_world m d) ss s)) (leads (acts_run m r d ss) followed))

-- the steps that words say, with one more
module _ {S K I O M D A X W : Type 0} (m : Meaning S I O M) (r : Recovery S K) (d : Disks K D A X) (by_word : D → W → X) where
  pub by_words_from-last : (w : ActWorld S I O M D A X) (ss : List (ActStep I W)) (s : ActStep I W) →
      by_words_from m r d by_word w (ss ++ s ∷ []) ≡ by_words_from m r d by_word w ss ++ left_by by_word (acts_from m r d w (by_words_from m r d by_word w ss)) s ∷ []
  by_words_from-last w [] s = refl
  by_words_from-last w (x ∷ ss) s = ap (λ xs. left_by by_word w x ∷ xs) (by_words_from-last (act_next m r d w (left_by by_word w x)) ss s)

-- a world has followed one step more that a word says
pub follows-word : {H S K D I A O M X W : Type 0} (f : RebootableFacts H S K I O M) (d : Disks K D A X) (by_word : D → W → X) (v after : ActView H S D I A O M X) (ss : List (ActStep I W)) (s : ActStep I W) →
    after.handlers ≡ v.handlers →
    ((w : ActWorld S I O M D A X) → ShowsAct v w → ShowsAct after (act_next (f.meaning v.handlers) (f.recovery v.handlers) d w (left_by by_word w s))) →
    HasFollowedWords f d by_word v ss → HasFollowedWords f d by_word after (ss ++ s ∷ [])
follows-word {H = H} f d by_word v after ss s same leads followed =
    let m = f.meaning v.handlers in let r = f.recovery v.handlers in let xs = by_words m r d by_word ss in let w = acts_run m r d xs in
    subst (λ (h : H). ShowsAct after (acts_run (f.meaning h) (f.recovery h) d (by_words (f.meaning h) (f.recovery h) d by_word (ss ++ s ∷ [])))) (sym same)
    (subst (λ ys. ShowsAct after (acts_run m r d ys)) (sym (by_words_from-last m r d by_word (first_act_world m d) ss s))
    (subst (ShowsAct after) (sym (acts_from-last m r d (first_act_world m d) xs (left_by by_word w s))) (leads w followed)))
