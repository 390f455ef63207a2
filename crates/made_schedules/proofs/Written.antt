-- The steps of a made schedule, while they are written.
use Rattle.std.proofs.Common.{◌≡◌, ℕ, zero, suc, ◌+◌, ◌<◌, ◌≤◌, List, [], ◌∷◌, ◌++◌, length, take, Option, Some, None, refl, sym, ap, subst, ◌∙◌, arith, append_assoc, append-nil, length-append}
use Rattle.outside.specs.Wholes.{Gained, GainedPrefix}
use Rattle.outside.proofs.Wholes.{gained-front, gained-nothing}
use Rattle.net_semantics.specs.RunLaws.{place_and_why-none, run_from-append}
use Rattle.net_semantics.specs.Runs.{first_refused_from}
use Rattle.net_semantics.specs.Steps.{next}
use Rattle.net_semantics.specs.Worlds.{first_world}
use Rattle.rand_pcg.specs.Lcg.{Lcg}
use Rattle.schedule_make.specs.Made.{Inputs, after_words, made_from}
use Rattle.schedule_make.specs.Making.{CanStep, HasMade, MakingView, step_after}
use Rattle.schedule_text.specs.Printing.{as_line, step_text, steps_text}
use Rattle.vst_base.specs.declared.step.Step.{Step}
use Rattle.xform_stack.specs.Running.{Progress}
use Rattle.xform_stack.specs.Systems.{System, world_of}
use Rattle.line_reader.specs.declared.write_fault.WriteFault.{WriteFault}
use Rattle.line_reader.specs.declared.write_fault.WriteFault.TheVariants as line
use Rattle.schedule_text.specs.Sending.{HasWriteCause}
use Rattle.stacks.specs.Plays.{Found, Here, IfFound, Nowhere, found_map, found_or}
use Rattle.stacks.specs.Kinds.{Clustered, Kind, Steady}
use Rattle.stacks.specs.Made.{made_on, makes}
use Rattle.stacks.specs.Stack.{AnyStack, stack}
use Rattle.std.proofs.lemmas.Result.{on_err_weaker, on_ok_weaker}
use Rattle.std.specs.Prelude.{IfErr, IsErrOf, OnErr, Result, Ok, Err}
use Rattle.made_schedules.specs.MadeTexts.{step_lines}
use Rattle.made_schedules.specs.Making.{WritesText}

module _ {W S K I O M : Type 0} (sys : System S K I O M) (follows : W → List (Step I) → Type 0) (progress : W → Progress I O) (inputs : Inputs I) (input_text : I → List ℕ)
    (seed total : ℕ) (out : Option (List ℕ)) where
  -- so many steps that are made after these, from these random words on
  pub rest : List (Step I) → Lcg → ℕ → List (Step I)
  rest ss random n = made_from sys.net sys.meaning sys.recovery inputs (world_of sys ss) (length ss) random n

  -- some steps were made and their lines written, and so many are left
  pub record Written (left : ℕ) (v : MakingView W) (out' : Option (List ℕ)) : Type 0 where
    pub steps : List (Step I)
    pub made : HasMade sys follows progress steps v
    pub whole : made_on sys inputs seed total ≡ steps ++ made_from sys.net sys.meaning sys.recovery inputs (world_of sys steps) (length steps) v.random left
    pub allowed : first_refused_from sys.net sys.meaning sys.recovery (world_of sys steps) (made_from sys.net sys.meaning sys.recovery inputs (world_of sys steps) (length steps) v.random left) ≡ None
    pub written : Gained out out' (steps_text input_text steps)
    pub counted : length steps + left ≡ total

  -- the next step is allowed
  pub can-step : (left n : ℕ) (v : MakingView W) (out' : Option (List ℕ)) → left ≡ suc n → Written left v out' → CanStep sys follows progress inputs v
  can-step left n v out' e w = record {
    steps = w.steps;
    made = w.made;
    allowed = (place_and_why-none _ _ (subst (λ k. first_refused_from sys.net sys.meaning sys.recovery (world_of sys w.steps) (made_from sys.net sys.meaning sys.recovery inputs (world_of sys w.steps) (length w.steps) v.random k) ≡ None) e w.allowed)).0;
  }

  -- how many were taken
  pub few-taken : (left : ℕ) (v : MakingView W) (out' : Option (List ℕ)) → Written left v out' → 0 < left → (progress v.network).taken < total
  few-taken left v out' w some = omega (arith, w.made.taken.counted, w.counted, some)

  pub gained-more : (o o' : Option (List ℕ)) (a b : List ℕ) → Gained out o a → Gained o o' b → Gained out o' (a ++ b)
  gained-more = go out where
    go : (x o o' : Option (List ℕ)) (a b : List ℕ) → Gained x o a → Gained o o' b → Gained x o' (a ++ b)
    go None o o' a b h k = tt
    go (Some held) o o' a b h k = (subst (λ (p : Option (List ℕ)). Gained p o' b) h k) ∙ ap Some (append_assoc held a b)

  steps-more : (ss : List (Step I)) (s : Step I) → steps_text input_text (ss ++ s ∷ []) ≡ steps_text input_text ss ++ as_line (step_text input_text s)
  steps-more [] s = append-nil (as_line (step_text input_text s))
  steps-more (t ∷ ss) s = ap (λ bs. as_line (step_text input_text t) ++ bs) (steps-more ss s) ∙ sym (append_assoc (as_line (step_text input_text t)) (steps_text input_text ss) (as_line (step_text input_text s)))

  -- one step more
  pub written-more : (left n : ℕ) (v v' : MakingView W) (mid out' : Option (List ℕ)) (s : Step I) → left ≡ suc n → (w : Written left v mid)
      → s ≡ step_after sys inputs w.steps v.random → HasMade sys follows progress (w.steps ++ s ∷ []) v' → v'.random ≡ after_words v.random
      → Gained mid out' (as_line (step_text input_text s)) → Written n v' out'
  written-more left n v v' mid out' s e w is made random gained =
      let ss = w.steps in
      let more : world_of sys (ss ++ s ∷ []) ≡ next sys.meaning sys.recovery (world_of sys ss) s = run_from-append sys.meaning sys.recovery (first_world sys.meaning) ss (s ∷ []) in
      let long : length (ss ++ s ∷ []) ≡ length ss + 1 = length-append ss (s ∷ []) in
      let tail = made_from sys.net sys.meaning sys.recovery inputs (next sys.meaning sys.recovery (world_of sys ss) s) (length ss + 1) (after_words v.random) n in
      let tail_is : made_from sys.net sys.meaning sys.recovery inputs (world_of sys (ss ++ s ∷ [])) (length (ss ++ s ∷ [])) v'.random n ≡ tail =
      ap (λ x. made_from sys.net sys.meaning sys.recovery inputs x (length (ss ++ s ∷ [])) v'.random n) more
      ∙ ap (λ k. made_from sys.net sys.meaning sys.recovery inputs (next sys.meaning sys.recovery (world_of sys ss) s) k v'.random n) long
      ∙ ap (λ g. made_from sys.net sys.meaning sys.recovery inputs (next sys.meaning sys.recovery (world_of sys ss) s) (length ss + 1) g n) random in
      let t = step_after sys inputs ss v.random in
      let from_t : made_from sys.net sys.meaning sys.recovery inputs (world_of sys ss) (length ss) v.random (suc n) ≡ s ∷ tail =
      ap (λ x. x ∷ made_from sys.net sys.meaning sys.recovery inputs (next sys.meaning sys.recovery (world_of sys ss) x) (length ss + 1) (after_words v.random) n) (sym is) in
      let here : made_from sys.net sys.meaning sys.recovery inputs (world_of sys ss) (length ss) v.random left ≡ s ∷ tail =
      ap (λ k. made_from sys.net sys.meaning sys.recovery inputs (world_of sys ss) (length ss) v.random k) e ∙ from_t in
      let allowed = place_and_why-none _ _ (subst (λ xs. first_refused_from sys.net sys.meaning sys.recovery (world_of sys ss) xs ≡ None) here w.allowed) in
      record {
        steps = ss ++ s ∷ [];
        made = made;
        whole = w.whole ∙ ap (λ xs. ss ++ xs) (here ∙ ap (λ xs. s ∷ xs) (sym tail_is)) ∙ sym (append_assoc ss (s ∷ []) (made_from sys.net sys.meaning sys.recovery inputs (world_of sys (ss ++ s ∷ [])) (length (ss ++ s ∷ [])) v'.random n));
        allowed = ap (λ xs. first_refused_from sys.net sys.meaning sys.recovery (world_of sys (ss ++ s ∷ [])) xs) tail_is
            ∙ ap (λ x. first_refused_from sys.net sys.meaning sys.recovery x tail) more ∙ allowed.1;
        written = subst (λ bs. Gained out out' bs) (sym (steps-more ss s)) (gained-more mid out' (steps_text input_text ss) (as_line (step_text input_text s)) w.written gained);
        counted = omega (arith, long, w.counted, e);
      }

  -- nothing is left
  pub written-all : (v : MakingView W) (out' : Option (List ℕ)) → Written 0 v out' → Gained out out' (steps_text input_text (made_on sys inputs seed total))
  written-all v out' w = subst (λ ss. Gained out out' (steps_text input_text ss)) (sym (w.whole ∙ append-nil w.steps)) w.written

  steps-append : (ss ts : List (Step I)) → steps_text input_text (ss ++ ts) ≡ steps_text input_text ss ++ steps_text input_text ts
  steps-append [] ts = refl
  steps-append (t ∷ ss) ts = ap (λ bs. as_line (step_text input_text t) ++ bs) (steps-append ss ts) ∙ sym (append_assoc (as_line (step_text input_text t)) (steps_text input_text ss) (steps_text input_text ts))

  take-front : (a b : List ℕ) (n : ℕ) → (k : ℕ) × (a ++ take n b ≡ take k (a ++ b))
  take-front [] b n = (n, refl)
  take-front (x ∷ a) b n = let r = take-front a b n in (suc r.0, ap (λ bs. x ∷ bs) r.1)

  pub front-more : (x o o' : Option (List ℕ)) (a b c : List ℕ) → Gained x o a → GainedPrefix o o' b → GainedPrefix x o' (a ++ (b ++ c))
  front-more None o o' a b c h k = tt
  front-more (Some held) o o' a b c h k =
      let got = subst (λ (p : Option (List ℕ)). GainedPrefix p o' b) h k in
      let first = take-front a b got.0 in
      let whole = take-whole (a ++ b) c first.0 in
      (whole.0, got.1 ∙ ap Some (append_assoc held a (take got.0 b)) ∙ ap (λ bs. Some (held ++ bs)) (first.1 ∙ whole.1 ∙ ap (take whole.0) (append_assoc a b c)))
    where
      take-whole : (bs c : List ℕ) (n : ℕ) → (k : ℕ) × (take n bs ≡ take k (bs ++ c))
      take-whole bs c zero = (0, refl)
      take-whole [] c (suc n) = (0, refl)
      take-whole (y ∷ bs) c (suc n) = let r = take-whole bs c n in (suc r.0, ap (λ ys. y ∷ ys) r.1)

  -- a front of the next line is one of the whole text
  pub front-line : (left n : ℕ) (v : MakingView W) (mid out' : Option (List ℕ)) (s : Step I) → left ≡ suc n → (w : Written left v mid) → s ≡ step_after sys inputs w.steps v.random
      → GainedPrefix mid out' (as_line (step_text input_text s)) → GainedPrefix out out' (steps_text input_text (made_on sys inputs seed total))
  front-line left n v mid out' s e w is front =
      let ss = w.steps in
      let tail = made_from sys.net sys.meaning sys.recovery inputs (next sys.meaning sys.recovery (world_of sys ss) s) (length ss + 1) (after_words v.random) n in
      let here : made_from sys.net sys.meaning sys.recovery inputs (world_of sys ss) (length ss) v.random left ≡ s ∷ tail =
      ap (λ k. made_from sys.net sys.meaning sys.recovery inputs (world_of sys ss) (length ss) v.random k) e
      ∙ ap (λ x. x ∷ made_from sys.net sys.meaning sys.recovery inputs (next sys.meaning sys.recovery (world_of sys ss) x) (length ss + 1) (after_words v.random) n) (sym is) in
      subst (λ bs. GainedPrefix out out' bs) (sym (ap (steps_text input_text) (w.whole ∙ ap (λ xs. ss ++ xs) here) ∙ steps-append ss (s ∷ tail)))
      (front-more out mid out' (steps_text input_text ss) (as_line (step_text input_text s)) (steps_text input_text tail) w.written front)

  -- and where no line was begun
  pub front-so-far : (left : ℕ) (v : MakingView W) (mid : Option (List ℕ)) → Written left v mid → GainedPrefix out mid (steps_text input_text (made_on sys inputs seed total))
  front-so-far left v mid w =
      let ss = w.steps in
      let tail = made_from sys.net sys.meaning sys.recovery inputs (world_of sys ss) (length ss) v.random left in
      subst (λ bs. GainedPrefix out mid bs) (sym (ap (steps_text input_text) w.whole ∙ steps-append ss tail))
      (whole-front out mid (steps_text input_text ss) (steps_text input_text tail) w.written)
    where
      take-same : (a b : List ℕ) → take (length a) (a ++ b) ≡ a
      take-same [] b = refl
      take-same (x ∷ a) b = ap (λ bs. x ∷ bs) (take-same a b)

      whole-front : (x o : Option (List ℕ)) (a b : List ℕ) → Gained x o a → GainedPrefix x o (a ++ b)
      whole-front None o a b h = tt
      whole-front (Some held) o a b h = (length a, h ∙ ap (λ bs. Some (held ++ bs)) (sym (take-same a b)))

-- what stands after a text that was written is written after it
module _ {A : Type 0} (a b : List ℕ) (out mid out' : Option (List ℕ)) (f f1 f2 w w1 w2 : ℕ) (r : Result A WriteFault) (first : Gained out mid a) (fs : f1 ≡ f) (ws : w1 ≡ w) where
  both : (x o o' : Option (List ℕ)) → Gained x o a → Gained o o' b → Gained x o' (a ++ b)
  both None o o' h k = tt
  both (Some held) o o' h k = (subst (λ (p : Option (List ℕ)). Gained p o' b) h k) ∙ ap Some (append_assoc held a b)

  after-front : (xs ys : List ℕ) (n : ℕ) → (k : ℕ) × (xs ++ take n ys ≡ take k (xs ++ ys))
  after-front [] ys n = (n, refl)
  after-front (x ∷ xs) ys n = let t = after-front xs ys n in (suc t.0, ap (λ bs. x ∷ bs) t.1)

  both-front : (x o o' : Option (List ℕ)) → Gained x o a → GainedPrefix o o' b → GainedPrefix x o' (a ++ b)
  both-front None o o' h k = tt
  both-front (Some held) o o' h k =
      let got = subst (λ (p : Option (List ℕ)). GainedPrefix p o' b) h k in
      let t = after-front a b got.0 in
      (t.0, got.1 ∙ ap Some (append_assoc held a (take got.0 b)) ∙ ap (λ bs. Some (held ++ bs)) t.1)

  pub then-writes : WritesText b mid out' f1 f2 w1 w2 r → WritesText (a ++ b) out out' f f2 w w2 r
  then-writes s = record {
    ok = on_ok_weaker r (λ k. both out mid out' first k) s.ok;
    err = on_err_weaker r (λ k. both-front out mid out' first k) s.err;
    fault = subst (λ n. IfErr r (HasWriteCause n f2)) fs s.fault;
    unfailed = λ e. s.unfailed e ∙ fs;
    unwanted = λ e. s.unwanted e ∙ ws;
    quiet = on_ok_weaker r (λ k. (k.0 ∙ fs, k.1 ∙ ws)) s.quiet;
    counts = omega (arith, s.counts, fs);
  }

-- what is allowed of what is made for a kind is allowed on its stack
pub ready-stack : (found : Found Kind) (n seed steps : ℕ) {P : AnyStack → Type 0}
    → ((a : AnyStack) → a.plays.play.refused (a.made seed steps) ≡ None → P a)
    → IfFound (found_map (λ k. makes k n) found) (λ a. a.plays.play.refused (a.made seed steps) ≡ None) → IfFound (found_map (λ k. stack k n) found) P
ready-stack Nowhere n seed steps by none = absurd none
ready-stack (Here (Steady l)) n seed steps by none = by (stack (Steady l) n) none
ready-stack (Here (Clustered k)) n seed steps by none = by (stack (Clustered k) n) none

-- what is said of the stack that was found is said of its text
pub found-writes : {A : Type 0} (found : Found Kind) (n seed steps : ℕ) (out out' : Option (List ℕ)) (f f' w w' : ℕ) (r : Result A WriteFault)
    → IfFound (found_map (λ k. stack k n) found) (λ a. WritesText (step_lines a.plays.play a.made seed steps) out out' f f' w w' r)
    → WritesText (found_or [] (λ a. step_lines a.plays.play a.made seed steps) (found_map (λ k. makes k n) found)) out out' f f' w w' r
found-writes Nowhere n seed steps out out' f f' w w' r none = absurd none
found-writes (Here (Steady l)) n seed steps out out' f f' w w' r is = is
found-writes (Here (Clustered k)) n seed steps out out' f f' w w' r is = is

-- and where the first text breaks off, nothing stands after it
within : (xs ys : List ℕ) (n : ℕ) → (k : ℕ) × (take n xs ≡ take k (xs ++ ys))
within xs ys zero = (0, refl)
within [] ys (suc n) = (0, refl)
within (x ∷ xs) ys (suc n) = let t = within xs ys n in (suc t.0, ap (λ bs. x ∷ bs) t.1)

longer : (a b : List ℕ) (x o : Option (List ℕ)) → GainedPrefix x o a → GainedPrefix x o (a ++ b)
longer a b None o h = tt
longer a b (Some held) o h = let t = within a b h.0 in (t.0, h.1 ∙ ap (λ bs. Some (held ++ bs)) t.1)

module _ {A : Type 0} (a b : List ℕ) (out out' : Option (List ℕ)) (f f' w w' : ℕ) (y : WriteFault) where
  pub broken-writes : (r : Result A WriteFault) → r ≡ Err y → OnErr r (GainedPrefix out out' a) → IfErr r (HasWriteCause f f') → (IsErrOf r line.Memory → f' ≡ f) → (IsErrOf r line.Write → w' ≡ w) → f ≤ f'
      → WritesText (a ++ b) out out' f f' w w' r
  broken-writes (Ok x) is err fault unfailed unwanted counts = cc is
  broken-writes (Err z) is err fault unfailed unwanted counts =
      record { ok = tt; err = longer a b out out' err; fault = fault; unfailed = unfailed; unwanted = unwanted; quiet = tt; counts = counts }

-- nothing is written where there is no memory for the network
pub unwritten : {A : Type 0} (text : List ℕ) (out : Option (List ℕ)) (faults wants : ℕ) (r : Result A WriteFault) (w : WriteFault)
    → r ≡ Err w → w ≡ line.Memory → WritesText text out out faults faults wants wants r
unwritten text out faults wants r w is memory = subst (λ r. WritesText text out out faults faults wants wants r) (sym (is ∙ ap Err memory)) (record {
  ok = tt;
  err = gained-front out out [] text text refl (gained-nothing out);
  fault = tt;
  unfailed = λ _. refl;
  unwanted = λ _. refl;
  quiet = tt;
  counts = omega arith;
})
