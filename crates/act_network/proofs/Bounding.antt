-- The image has no more steps than the schedule.
use Rattle.std.proofs.Common.{◌≡◌, ◌≢◌, ℕ, suc, ◌+◌, ◌≤◌, Bool, true, false, List, [], ◌∷◌, ◌++◌, length, length-append, Option, Some, None, slice_get, refl, ap, sym, arith, inl, inr, ◌⊎◌, ◌==◌, ◌∙◌}
use Rattle.std.specs.Prelude.{if◌then◌else◌, cond}
use Rattle.std.proofs.lemmas.Bool.{false≢true}
use Rattle.std.proofs.lemmas.Bool.Decides.{eqb_tells}
use Rattle.handler_trait.specs.Handling.{Meaning, Effect, Recovery}
use Rattle.vst_base.specs.declared.step.Step.{Step}
use Rattle.vst_base.specs.declared.step.Step.TheVariants as step
use Rattle.net_semantics.specs.Worlds.{put}
use Rattle.act_network.specs.declared.step.ActStep.{ActStep}
use Rattle.act_network.specs.declared.step.ActStep.TheVariants as act
use Rattle.act_network.specs.Disks.{Disks, opens_new}
use Rattle.act_network.specs.ActWorlds.{ActWorld, Cause, Flying, Turn, first_act_world, step_of}
use Rattle.act_network.specs.ActSteps.{act_next, acted, acts_on, begun_with, copied, counting, counts, cut_in, cut_off, delivered, going, lost, restarted, started_as, stopped, with_flying}
use Rattle.act_network.specs.ActRuns.{acts_from}
use Rattle.act_network.specs.ActLaws.{ImageIsShort}

abbrev IsIn : ℕ → List ℕ → Type 0
IsIn n [] = ⊥
IsIn n (x ∷ xs) = (x ≡ n) ⊎ IsIn n xs

abbrev remove : ℕ → List ℕ → List ℕ
remove n [] = []
remove n (x ∷ xs) = if x == n then xs else x ∷ remove n xs

others-stay : (n i : ℕ) (xs : List ℕ) → i ≢ n → IsIn i xs → IsIn i (remove n xs)
others-stay n i [] ne h = h
others-stay n i (x ∷ xs) ne h = elim (eqb_tells x n) [
  | inl t ↦ rw (t.0) (elim h [ inl e ↦ absurd (ne (sym e ∙ t.1)) | inr rest ↦ rest ])
  | inr t ↦ rw (t.0) (elim h [ inl e ↦ inl e | inr rest ↦ inr (others-stay n i xs ne rest) ])
]

no-more : (n : ℕ) (xs : List ℕ) → length (remove n xs) ≤ length xs
no-more n [] = omega arith
no-more n (x ∷ xs) = elim (eqb_tells x n) [
  | inl t ↦ rw (t.0) (omega arith)
  | inr t ↦ rw (t.0) (let h = no-more n xs in omega (arith, h))
]

one-less : (n : ℕ) (xs : List ℕ) → IsIn n xs → suc (length (remove n xs)) ≤ length xs
one-less n [] h = absurd h
one-less n (x ∷ xs) h = elim (eqb_tells x n) [
  | inl t ↦ rw (t.0) (omega arith)
  | inr t ↦ rw (t.0) (elim h [ inl e ↦ absurd (t.1 e) | inr rest ↦ (let l = one-less n xs rest in omega (arith, l)) ])
]

abbrev is_empty : {A : Type 0} → List A → Bool
is_empty [] = true
is_empty (a ∷ more) = false

-- a turn that has not counted
abbrev is_saving : {S I O M A : Type 0} → Option (Turn S I O M A) → Bool
is_saving None = false
is_saving (Some t) = if is_empty t.acts then false else true

going-saves : {S I O M : Type 0} (A : Type 0) (c : Cause I) (e : Effect S O M) (ss : List (ℕ × M)) (os : List O) (place number : ℕ) →
    is_saving {A = A} (going (record { cause = c; effect = e; acts = []; sends = ss; outputs = os; place = place; number = number })) ≡ false
going-saves A c e [] [] place number = refl
going-saves A c e [] (o ∷ os) place number = refl
going-saves A c e (s ∷ ss) os place number = refl

module _ {S I O M A : Type 0} where
  abbrev AllIn : (ℕ → Option (Turn S I O M A)) → List ℕ → Type 0
  AllIn turn pending = (i : ℕ) → is_saving (turn i) ≡ true → IsIn i pending

  settles : (turn : ℕ → Option (Turn S I O M A)) (pending : List ℕ) (n : ℕ) (u : Option (Turn S I O M A)) → AllIn turn pending → is_saving u ≡ false →
      AllIn (put turn n u) (remove n pending)
  settles turn pending n u all none i h = elim (eqb_tells i n) [
    | inl t ↦ (let g = rw (t.0) at h in absurd (false≢true (sym none ∙ g)))
    | inr t ↦ (let g = rw (t.0) at h in others-stay n i pending t.1 (all i g))
  ]

  begins : (turn : ℕ → Option (Turn S I O M A)) (pending : List ℕ) (n : ℕ) (u : Option (Turn S I O M A)) → AllIn turn pending → AllIn (put turn n u) (n ∷ pending)
  begins turn pending n u all i h = elim (eqb_tells i n) [
    | inl t ↦ inl (sym (t.1))
    | inr t ↦ (let g = rw (t.0) at h in inr (all i g))
  ]

  goes-on : (turn : ℕ → Option (Turn S I O M A)) (pending : List ℕ) (n : ℕ) (u : Option (Turn S I O M A)) → AllIn turn pending → is_saving (turn n) ≡ true →
      AllIn (put turn n u) pending
  goes-on turn pending n u all saving i h = elim (eqb_tells i n) [
    | inl t ↦ (let e : is_saving (turn i) ≡ true = ap (λ (k : ℕ). is_saving (turn k)) (t.1) ∙ saving in all i e)
    | inr t ↦ (let g = rw (t.0) at h in all i g)
  ]

-- after k steps: the nodes whose turns have not counted, and as many steps are left over
record Bounded {S I O M D A X : Type 0} (w : ActWorld S I O M D A X) (k : ℕ) : Type 0 where
  pending : List ℕ
  all : AllIn w.turn pending
  most : length w.image + length pending ≤ k

one-step : {T : Type 0} (xs : List T) (x : T) → length (xs ++ x ∷ []) ≡ suc (length xs)
one-step xs x = length-append xs (x ∷ []) ∙ omega arith

module _ {S K I O M D A X : Type 0} (m : Meaning S I O M) (r : Recovery S K) (d : Disks K D A X) where
  later : (w : ActWorld S I O M D A X) (k : ℕ) → Bounded w k → Bounded w (suc k)
  later w k b = record { pending = b.pending; all = b.all; most = (let h = b.most in omega (arith, h)) }

  counts-bounded : (w : ActWorld S I O M D A X) (k n : ℕ) (c : Cause I) (e : Effect S O M) (disk : D) → Bounded w k → Bounded (counts w n c e disk) (suc k)
  counts-bounded w k n c e disk b = record {
    pending = remove n b.pending;
    all = settles w.turn b.pending n (going (counting w c e)) b.all (going-saves A c e e.sends e.outputs (length w.listed) w.sent);
    most = (let h = b.most in let l = no-more n b.pending in let o = one-step w.image (step_of n c) in omega (arith, h, l, o));
  }

  begun-bounded : (w : ActWorld S I O M D A X) (k n : ℕ) (c : Cause I) (e : Effect S O M) (acts : List A) → Bounded w k → Bounded (begun_with w n c e acts) (suc k)
  begun-bounded w k n c e [] b = counts-bounded w k n c e (w.disk n) b
  begun-bounded w k n c e (a ∷ more) b = record {
    pending = n ∷ b.pending;
    all = begins w.turn b.pending n (Some (record { cause = c; effect = e; acts = a ∷ more; sends = e.sends; outputs = e.outputs; place = 0; number = 0 })) b.all;
    most = (let h = b.most in omega (arith, h));
  }

  stopped-bounded : (w : ActWorld S I O M D A X) (k n : ℕ) (left : X) → Bounded w k → Bounded (stopped w n left) (suc k)
  stopped-bounded w k n left b = record {
    pending = remove n b.pending;
    all = settles w.turn b.pending n None b.all refl;
    most = (let h = b.most in let l = no-more n b.pending in let x : Step I = step.Crash n in let o = one-step w.image x in omega (arith, h, l, o));
  }

  -- a turn that counts at a stop has its step from its beginning
  counts-spare : (w : ActWorld S I O M D A X) (k n : ℕ) (c : Cause I) (e : Effect S O M) (disk : D) → Bounded w k → is_saving (w.turn n) ≡ true → Bounded (counts w n c e disk) k
  counts-spare w k n c e disk b saving = record {
    pending = remove n b.pending;
    all = settles w.turn b.pending n (going (counting w c e)) b.all (going-saves A c e e.sends e.outputs (length w.listed) w.sent);
    most = (let h = b.most in let l = one-less n b.pending (b.all n saving) in let o = one-step w.image (step_of n c) in omega (arith, h, l, o));
  }

  module _ (w : ActWorld S I O M D A X) (k : ℕ) (b : Bounded w k) where
    turn-settles : (n : ℕ) (u : Option (Turn S I O M A)) → is_saving u ≡ false → AllIn (put w.turn n u) (remove n b.pending)
    turn-settles n u none = settles w.turn b.pending n u b.all none

    fewer : (n : ℕ) → length w.image + length (remove n b.pending) ≤ suc k
    fewer n = let h = b.most in let l = no-more n b.pending in omega (arith, h, l)

    acts-bounded : (n : ℕ) (t : Turn S I O M A) → w.turn n ≡ Some t → (acts : List A) → t.acts ≡ acts → (ss : List (ℕ × M)) (os : List O) →
        Bounded (acts_on m r d w n t acts ss os) (suc k)
    acts-bounded n t turn (a ∷ []) is ss os = counts-bounded w k n t.cause t.effect (d.learns (r.keep t.effect.state) (d.does a (w.disk n))) b
    acts-bounded n t turn (a ∷ (x ∷ more)) is ss os =
        let saving : is_saving (w.turn n) ≡ true = rw (turn, is) refl in
        record {
          pending = b.pending;
          all = goes-on w.turn b.pending n (Some (record { cause = t.cause; effect = t.effect; acts = x ∷ more; sends = t.sends; outputs = t.outputs; place = t.place; number = t.number })) b.all saving;
          most = (let h = b.most in omega (arith, h));
        }
    acts-bounded n t turn [] is (s ∷ ss) os = record {
      pending = remove n b.pending;
      all = turn-settles n (going (record { cause = t.cause; effect = t.effect; acts = []; sends = ss; outputs = os; place = t.place; number = suc t.number }))
          (going-saves A t.cause t.effect ss os t.place (suc t.number));
      most = fewer n;
    }
    acts-bounded n t turn [] is [] (o ∷ os) = record {
      pending = remove n b.pending;
      all = turn-settles n (going {M = M} (record { cause = t.cause; effect = t.effect; acts = []; sends = []; outputs = os; place = t.place; number = t.number }))
          (going-saves A t.cause t.effect [] os t.place t.number);
      most = fewer n;
    }
    acts-bounded n t turn [] is [] [] = later w k b

    acted-bounded : (n : ℕ) (o : Option (Turn S I O M A)) → w.turn n ≡ o → Bounded (acted m r d w n o) (suc k)
    acted-bounded n None turn = later w k b
    acted-bounded n (Some t) turn = acts-bounded n t turn t.acts refl t.sends t.outputs

    cut-by : (n : ℕ) (left : X) (t : Turn S I O M A) (more : Bool) → is_saving (w.turn n) ≡ true →
        Bounded (cond more (stopped (counts w n t.cause t.effect (w.disk n)) n left) (stopped w n left)) (suc k)
    cut-by n left t true saving = stopped-bounded (counts w n t.cause t.effect (w.disk n)) k n left (counts-spare w k n t.cause t.effect (w.disk n) b saving)
    cut-by n left t false saving = stopped-bounded w k n left b

    cut-bounded : (n : ℕ) (left : X) (o : Option (Turn S I O M A)) → w.turn n ≡ o → Bounded (cut_off m r d w n left o) (suc k)
    cut-bounded n left None turn = stopped-bounded w k n left b
    cut-bounded n left (Some t) turn = by t.acts refl
      where
        by : (acts : List A) → t.acts ≡ acts → Bounded (cut_in m r d w n left t acts) (suc k)
        by [] is = stopped-bounded w k n left b
        by (a ∷ more) is = cut-by n left t (opens_new d n (w.disk n) left) (rw (turn, is) refl)

    flying-bounded : (ps : List (Flying M)) (s : Step I) → Bounded (with_flying w ps (w.image ++ s ∷ [])) (suc k)
    flying-bounded ps s = record { pending = b.pending; all = b.all; most = (let h = b.most in let o = one-step w.image s in omega (arith, h, o)) }

    started-bounded : (n : ℕ) (left : X) (o : Option K) → Bounded (started_as m r d w n left o) (suc k)
    started-bounded n left None = later w k b
    started-bounded n left (Some x) = record { pending = b.pending; all = b.all; most = (let h = b.most in let x : Step I = step.Reboot n in let o = one-step w.image x in omega (arith, h, o)) }

    restarted-bounded : (n : ℕ) (o : Option X) → Bounded (restarted m r d w n o) (suc k)
    restarted-bounded n None = later w k b
    restarted-bounded n (Some left) = started-bounded n left (d.opens n left)

    delivered-bounded : (j : ℕ) (o : Option (Flying M)) → Bounded (delivered m r d w j o) (suc k)
    delivered-bounded j None = later w k b
    delivered-bounded j (Some p) = begun-bounded (with_flying w _ w.image) k p.packet.destination _ _ _ (record { pending = b.pending; all = b.all; most = b.most })

    copied-bounded : (j : ℕ) (o : Option (Flying M)) → Bounded (copied m r d w j o) (suc k)
    copied-bounded j None = later w k b
    copied-bounded j (Some p) = flying-bounded _ (step.Dup p.number)

    lost-bounded : (j : ℕ) (o : Option (Flying M)) → Bounded (lost m r d w j o) (suc k)
    lost-bounded j None = later w k b
    lost-bounded j (Some p) = flying-bounded _ (step.Lose p.number)

    step-bounded : (s : ActStep I X) → Bounded (act_next m r d w s) (suc k)
    step-bounded (act.In n i) = begun-bounded w k n _ _ _ b
    step-bounded (act.Tick n) = begun-bounded w k n _ _ _ b
    step-bounded (act.Deliver j) = delivered-bounded j (slice_get w.packets j)
    step-bounded (act.Act n) = acted-bounded n (w.turn n) refl
    step-bounded (act.Dup j) = copied-bounded j (slice_get w.packets j)
    step-bounded (act.Lose j) = lost-bounded j (slice_get w.packets j)
    step-bounded (act.Stop n left) = cut-bounded n left (w.turn n) refl
    step-bounded (act.Reboot n) = restarted-bounded n (w.down n)

  run-bounded : (w : ActWorld S I O M D A X) (k : ℕ) → Bounded w k → (ss : List (ActStep I X)) → length (acts_from m r d w ss).image ≤ k + length ss
  run-bounded w k b [] = let h = b.most in omega (arith, h)
  run-bounded w k b (s ∷ ss) = let h = run-bounded (act_next m r d w s) (suc k) (step-bounded w k b s) ss in omega (arith, h)

pub image_is_short : {K D A X : Type 0} (S I O M : Type 0) (d : Disks K D A X) → ImageIsShort S I O M d
image_is_short S I O M d m r ss =
    let h = run-bounded m r d (first_act_world m d) 0 (record { pending = []; all = λ i h. absurd (false≢true h); most = omega arith }) ss in omega (arith, h)
