-- How a text opens and what its lines say, line by line.
use Rattle.std.specs.Prelude.{◌≡◌, ℕ, Bool, true, false, ◌+◌, List, [], ◌∷◌, ◌++◌, length, Option, Some, None, cond, refl}
use Rattle.std.proofs.Common.{ap, ◌∙◌, sym, arith, add-zero}
use Rattle.vst_base.specs.Firsts.{first_of}
use Rattle.vst_base.specs.declared.step.Step.{Step}
use Rattle.line_reader.specs.declared.why.Why.{Why}
use Rattle.line_reader.specs.Whys.{line_refusals}
use Rattle.schedule_text.specs.declared.header.Header.{Header}
use Rattle.schedule_text.specs.declared.line.Line.{Line}
use Rattle.schedule_text.specs.declared.line.Line.TheVariants.{Skipped, IsStep, Refused}
use Rattle.schedule_text.specs.Reading.{is_skipped, read_line, line_says, line_unless}
use Rattle.schedule_text.specs.Headers.{header_of}
use Rattle.schedule_text.specs.Schedules.{Opening, Opened, RefusedAt, EndedAt, opened, opening_unless, opening, Script, refused_script, script_line, no_steps, with_step, script}

-- the first line by its refusal, and by whether it is skipped
opening-by : (f : Option Why) (t : Bool) (n : ℕ) (a b : Opening) → f ≡ None → opening_unless f n (cond t a b) ≡ cond t a b
opening-by f t n a b e = rw e refl

skipped-by : (t : Bool) (a b : Opening) → t ≡ true → cond t a b ≡ a
skipped-by t a b e = rw e refl

read-by : (t : Bool) (a b : Opening) → t ≡ false → cond t a b ≡ b
read-by t a b e = rw e refl

pub opening-skips : (most n : ℕ) (l : List ℕ) (ls : List (List ℕ)) → first_of (line_refusals most n l) ≡ None → is_skipped l ≡ true → opening most n (l ∷ ls) ≡ opening most (n + 1) ls
opening-skips most n l ls allowed skipped =
    opening-by (first_of (line_refusals most n l)) (is_skipped l) n (opening most (n + 1) ls) (opened (header_of l) n ls) allowed
    ∙ skipped-by (is_skipped l) (opening most (n + 1) ls) (opened (header_of l) n ls) skipped

pub opening-reads : (most n : ℕ) (l : List ℕ) (ls : List (List ℕ)) → first_of (line_refusals most n l) ≡ None → is_skipped l ≡ false → opening most n (l ∷ ls) ≡ opened (header_of l) n ls
opening-reads most n l ls allowed read =
    opening-by (first_of (line_refusals most n l)) (is_skipped l) n (opening most (n + 1) ls) (opened (header_of l) n ls) allowed
    ∙ read-by (is_skipped l) (opening most (n + 1) ls) (opened (header_of l) n ls) read

pub opening-refuses : (most n : ℕ) (l : List ℕ) (ls : List (List ℕ)) (w : Why) → first_of (line_refusals most n l) ≡ Some w → opening most n (l ∷ ls) ≡ RefusedAt n w
opening-refuses most n l ls w refused = ap (λ f. opening_unless f n (cond (is_skipped l) (opening most (n + 1) ls) (opened (header_of l) n ls))) refused

-- an opening with more lines after
abbrev pub opening_with : Opening → List (List ℕ) → ℕ → Opening
opening_with (Opened h k ls) ms most = Opened h k (ls ++ ms)
opening_with (RefusedAt k w) ms most = RefusedAt k w
opening_with (EndedAt k) ms most = opening most k ms

opened-append : (h : Option Header) (n : ℕ) (ls ms : List (List ℕ)) (most : ℕ) → opened h n (ls ++ ms) ≡ opening_with (opened h n ls) ms most
opened-append None n ls ms most = refl
opened-append (Some h) n ls ms most = refl

unless-append : (f : Option Why) (t : Bool) (n : ℕ) (o a p b : Opening) (ms : List (List ℕ)) (most : ℕ) → a ≡ opening_with o ms most → b ≡ opening_with p ms most
    → opening_unless f n (cond t a b) ≡ opening_with (opening_unless f n (cond t o p)) ms most
unless-append (Some w) t n o a p b ms most d e = refl
unless-append None true n o a p b ms most d e = d
unless-append None false n o a p b ms most d e = e

pub opening-append : (most n : ℕ) (ls ms : List (List ℕ)) → opening most n (ls ++ ms) ≡ opening_with (opening most n ls) ms most
opening-append most n [] ms = refl
opening-append most n (l ∷ ls) ms =
    unless-append (first_of (line_refusals most n l)) (is_skipped l) n (opening most (n + 1) ls) (opening most (n + 1) (ls ++ ms))
    (opened (header_of l) n ls) (opened (header_of l) n (ls ++ ms)) ms most (opening-append most (n + 1) ls ms) (opened-append (header_of l) n ls ms most)

-- lines before the header, of which a front has none either
opening-ended : (o : Opening) (ms : List (List ℕ)) (most k : ℕ) → opening_with o ms most ≡ EndedAt k → (j : ℕ) × (o ≡ EndedAt j)
opening-ended (Opened h j ls) ms most k e = cc
opening-ended (RefusedAt j w) ms most k e = cc
opening-ended (EndedAt j) ms most k e = (j, refl)

pub opening-front : (most n : ℕ) (ls ms : List (List ℕ)) → (k : ℕ) × (opening most n (ls ++ ms) ≡ EndedAt k) → (j : ℕ) × (opening most n ls ≡ EndedAt j)
opening-front most n ls ms (k, is) = opening-ended (opening most n ls) ms most k (sym (opening-append most n ls ms) ∙ is)

module _ {I : Type 0} where
  steps-some : (n : ℕ) (s : Step I) (sc : Script I) → with_step n s sc ≡ no_steps → ⊥
  steps-some n s sc e =
      let size : length ((n, s) ∷ sc.steps) ≡ 0 = ap (λ (x : Script I). length x.steps) e in
      omega (arith, size)

  refuses-some : (n : ℕ) (w : Why) → refused_script n w ≡ no_steps {I = I} → ⊥
  refuses-some n w e =
      let none : ◌≡◌ {A = Option (ℕ × Why)} (Some (n, w)) None = ap (λ (x : Script I). x.fault) e in
      cc none

  -- lines that say no step, of which a front says none either
  front-by : (line : Line I) (most : ℕ) (f : List ℕ → Option I) (n e : ℕ) (ls ms : List (List ℕ))
      → ((k : ℕ) → script most f (n + 1) k (ls ++ ms) ≡ no_steps → script most f (n + 1) k ls ≡ no_steps)
      → script_line line n e (λ k. script most f (n + 1) k (ls ++ ms)) ≡ no_steps → script_line line n e (λ k. script most f (n + 1) k ls) ≡ no_steps
  front-by Skipped most f n e ls ms later is = later e is
  front-by (IsStep s) most f n e ls ms later is = absurd (steps-some n s (script most f (n + 1) (e + 1) (ls ++ ms)) is)
  front-by (Refused w) most f n e ls ms later is = absurd (refuses-some n w is)

  pub script-front : (most : ℕ) (f : List ℕ → Option I) (n e : ℕ) (ls ms : List (List ℕ)) → script most f n e (ls ++ ms) ≡ no_steps → script most f n e ls ≡ no_steps
  script-front most f n e [] ms is = refl
  script-front most f n e (l ∷ ls) ms is = front-by (read_line most f n e l) most f n e ls ms (λ k. script-front most f (n + 1) k ls ms) is

  -- the first line of a script
  pub line-refused : (most : ℕ) (f : List ℕ → Option I) (n e : ℕ) (l : List ℕ) (w : Why) → first_of (line_refusals most n l) ≡ Some w → read_line most f n e l ≡ Refused w
  line-refused most f n e l w refused = ap (λ o. line_unless o (line_says f e l)) refused

  pub line-said : (most : ℕ) (f : List ℕ → Option I) (n e : ℕ) (l : List ℕ) (line : Line I) → first_of (line_refusals most n l) ≡ None → line ≡ line_says f e l → read_line most f n e l ≡ line
  line-said most f n e l line allowed is = ap (λ o. line_unless o (line_says f e l)) allowed ∙ sym is

  pub script-by : (most : ℕ) (f : List ℕ → Option I) (n e : ℕ) (l : List ℕ) (ls : List (List ℕ)) (line : Line I) → read_line most f n e l ≡ line
      → script most f n e (l ∷ ls) ≡ script_line line n e (λ k. script most f (n + 1) k ls)
  script-by most f n e l ls line is = ap (λ x. script_line x n e (λ k. script most f (n + 1) k ls)) is

  -- steps in front of a script
  abbrev pub prefixed : List (ℕ × Step I) → Script I → Script I
  prefixed steps sc = record { steps = steps ++ sc.steps; fault = sc.fault }

  behind-by : (line : Line I) (most : ℕ) (f : List ℕ → Option I) (n e : ℕ) (ls ms : List (List ℕ))
      → ((k : ℕ) → (script most f (n + 1) k ls).fault ≡ None → script most f (n + 1) k (ls ++ ms)
      ≡ prefixed (script most f (n + 1) k ls).steps (script most f ((n + 1) + length ls) (k + length (script most f (n + 1) k ls).steps) ms))
      → (script_line line n e (λ k. script most f (n + 1) k ls)).fault ≡ None
      → script_line line n e (λ k. script most f (n + 1) k (ls ++ ms))
      ≡ prefixed (script_line line n e (λ k. script most f (n + 1) k ls)).steps (script most f ((n + 1) + length ls) (e + length (script_line line n e (λ k. script most f (n + 1) k ls)).steps) ms)
  behind-by Skipped most f n e ls ms later none = later e none
  behind-by (IsStep s) most f n e ls ms later none =
      let done = (script most f (n + 1) (e + 1) ls).steps in
      let more : (e + 1) + length done ≡ e + length ((n, s) ∷ done) = omega arith in
      ap (λ sc. with_step n s sc) (later (e + 1) none)
      ∙ ap (λ k. with_step n s (prefixed done (script most f ((n + 1) + length ls) k ms))) more
  behind-by (Refused w) most f n e ls ms later none = cc

  -- after lines that say no fault a script goes on
  pub script-after : (most : ℕ) (f : List ℕ → Option I) (n e : ℕ) (ls ms : List (List ℕ)) → (script most f n e ls).fault ≡ None
      → script most f n e (ls ++ ms) ≡ prefixed (script most f n e ls).steps (script most f (n + length ls) (e + length (script most f n e ls).steps) ms)
  script-after most f n e [] ms none = rw (add-zero, add-zero) refl
  script-after most f n e (l ∷ ls) ms none =
      let line = read_line most f n e l in
      let count : (n + 1) + length ls ≡ n + length (l ∷ ls) = omega arith in
      let k = e + length (script_line line n e (λ k. script most f (n + 1) k ls)).steps in
      behind-by line most f n e ls ms (λ k none. script-after most f (n + 1) k ls ms none) none
      ∙ ap (λ m. prefixed (script most f n e (l ∷ ls)).steps (script most f m k ms)) count
