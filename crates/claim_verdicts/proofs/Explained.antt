-- The verdict on a primary and its backup is yes exactly where the one machine explains the trace and the image reads as what it took.
use Rattle.std.specs.Prelude.{◌≡◌, ℕ, zero, suc, ◌+◌, Bool, true, false, not, ◌==◌, ◌&&◌, ◌||◌, nat_le, List, [], ◌∷◌, ◌++◌, length, map, take, drop, Option, Some, None, cond, slice_get, refl}
use Rattle.std.proofs.Common.{ap, ◌∙◌, sym, subst, append_assoc, arith, eqb-true, add-zero}
use Rattle.std.proofs.lemmas.Bool.{and_parts}
use Rattle.std.proofs.lemmas.Bool.Decides.{nat_tests}
use Rattle.std.proofs.lemmas.List.{append-nil, length-map}
use Rattle.std.proofs.lemmas.Slice.Eq.{bytes_eq-Decides}
use Rattle.vst_base.specs.Machines.{MachineMeaning, fold, outputs_from}
use Rattle.vst_base.specs.declared.pb_out.PbOut.{PbOut}
use Rattle.vst_base.specs.declared.pb_out.PbOut.TheVariants as told
use Rattle.vst_base.specs.declared.step.Item.{Item}
use Rattle.vst_base.specs.declared.step.Item.TheVariants as item
use Rattle.net_semantics.specs.BelowPb.{IsExplainedBy, OnlyRedirects, RedirectsAtOnce, inputs_at, outputs_at, replies_in}
use Rattle.claim_verdicts.specs.Backups.{Items, is_at_backup, is_wrong_answer, is_wrong_at_backup, is_wrong_after, last_of, passes, redirects, replies_so}
use Rattle.claim_verdicts.specs.Laws.{IsSpelledOutput, IsSpelledReply}
use Rattle.claim_verdicts.proofs.Neighbours.{outputs-push}
use Rattle.claim_verdicts.proofs.NoneWrongs.{NoneWrong}
use Rattle.lists.specs.Each.{Each}
use Rattle.lists.specs.Places.{slice_get_seam, slice_get_taken}

or-false : (a b : Bool) → (a || b) ≡ false → (a ≡ false) × (b ≡ false)
or-false true b e = cc
or-false false b e = (refl, e)

not-false : (a : Bool) → not a ≡ false → a ≡ true
not-false true e = refl
not-false false e = cc

-- an element of which those before it and after it are known
at-place : {A : Type 0} (w : List A → A → List A → Bool) (b before : List A) (x : A) (after : List A) → NoneWrong w b (before ++ x ∷ after) → w (b ++ before) x after ≡ false
at-place w b [] x after none = ap (λ xs. w xs x after) (append-nil b) ∙ none.0
at-place w b (y ∷ ys) x after none = ap (λ xs. w xs x after) (sym (append_assoc b (y ∷ []) ys)) ∙ at-place w (b ++ y ∷ []) ys x after none.1

redirection-only : {O : Type 0} (C : Type 0) (n : ℕ) (o : PbOut O) → redirects {C = C} (item.Output n o) ≡ true → o ≡ told.Redirect
redirection-only C n told.Redirect e = refl
redirection-only C n (told.Reply o) e = cc

module _ {C O : Type 0} where
  last-front : (xs : Items C O) (x : Item C (PbOut O)) → last_of xs ≡ Some x → (front : Items C O) × (xs ≡ front ++ x ∷ [])
  last-front [] x e = cc
  last-front (y ∷ []) x e = let same : y ≡ x = cc in ([], ap (λ z. z ∷ []) same)
  last-front (y ∷ z ∷ rest) x e = let behind = last-front (z ∷ rest) x e in (y ∷ behind.0, ap (λ xs. y ∷ xs) behind.1)

  at-backup-is : (x : Item C (PbOut O)) → is_at_backup x ≡ true → (c : C) × (x ≡ item.Input 1 c)
  at-backup-is (item.Input n c) e = (c, ap (λ k. item.Input k c) (eqb-true n 1 e))
  at-backup-is (item.Output n o) e = cc

  redirects-is : (x : Item C (PbOut O)) → redirects x ≡ true → x ≡ item.Output 1 told.Redirect
  redirects-is (item.Input n c) e = cc
  redirects-is (item.Output n told.Redirect) e = ap (λ k. item.Output k told.Redirect) (eqb-true n 1 e)
  redirects-is (item.Output n (told.Reply o)) e = cc

  next-redirects : (after : Items C O) → passes redirects (slice_get after 0) ≡ true → (rest : Items C O) × (after ≡ item.Output 1 told.Redirect ∷ rest)
  next-redirects [] e = cc
  next-redirects (x ∷ rest) e = (rest, ap (λ y. y ∷ rest) (redirects-is x e))

  behind-input : (before : Items C O) → passes is_at_backup (last_of before) ≡ true → (front : Items C O) × (c : C) × (before ≡ front ++ item.Input 1 c ∷ [])
  behind-input before e = by (last_of before) refl e where
    by : (o : Option (Item C (PbOut O))) → last_of before ≡ o → passes is_at_backup o ≡ true → (front : Items C O) × (c : C) × (before ≡ front ++ item.Input 1 c ∷ [])
    by None s e = cc
    by (Some x) s e = let front = last-front before x s in let input = at-backup-is x e in (front.0, input.0, front.1 ∙ ap (λ y. front.0 ++ y ∷ []) input.1)

  module _ (items : Items C O) (none : NoneWrong is_wrong_at_backup [] items) where
    redirected-of : RedirectsAtOnce items
    redirected-of before after c whole =
        let here : is_wrong_at_backup before (item.Input 1 c) after ≡ false = at-place is_wrong_at_backup [] before (item.Input 1 c) after (subst (NoneWrong is_wrong_at_backup []) whole none) in
        next-redirects after (not-false (passes redirects (slice_get after 0)) here)

    nothing_else-of : OnlyRedirects items
    nothing_else-of before after o whole =
        let here : is_wrong_at_backup before (item.Output 1 o) after ≡ false = at-place is_wrong_at_backup [] before (item.Output 1 o) after (subst (NoneWrong is_wrong_at_backup []) whole none) in
        let both : (redirects {C = C} (item.Output 1 o) ≡ true) × (passes is_at_backup (last_of before) ≡ true) = and_parts (redirects {C = C} (item.Output 1 o)) (passes is_at_backup (last_of before)) (not-false (redirects {C = C} (item.Output 1 o) && passes is_at_backup (last_of before)) here) in
        let front = behind-input before both.1 in
        record { front = front.0; input = front.1; last_is = front.2; redirect = redirection-only C 1 o both.0 }

-- the outputs for the first commands
fold-take : {S C O : Type 0} (m : MachineMeaning S C O) (s : S) (k : ℕ) (cs : List C) → outputs_from m s (take k cs) ≡ take k (outputs_from m s cs)
fold-take m s zero cs = refl
fold-take m s (suc k) [] = refl
fold-take m s (suc k) (c ∷ cs) = ap (λ os. (m.apply s c).1 ∷ os) (fold-take m (m.apply s c).0 k cs)

module _ {O : Type 0} (IsO : O → Type 0) (u : O → List ℕ) (apart : (a b : O) → IsO a → IsO b → u a ≡ u b → a ≡ b) where
  replied : (p : Option O) (o : PbOut O) → ((q : O) → p ≡ Some q → IsO q) → IsSpelledOutput IsO o → replies_so u p o ≡ true → (q : O) × (p ≡ Some q) × (o ≡ told.Reply q)
  replied None o is so e = cc
  replied (Some q) told.Redirect is so e = cc
  replied (Some q) (told.Reply o) is so e = (q, refl, ap told.Reply (sym (apart q o (is q refl) so ((bytes_eq-Decides (u q) (u o)).0 e))))

  from-place : (xs : List O) (j : ℕ) (q : O) → slice_get xs j ≡ Some q → drop j xs ≡ q ∷ drop (suc j) xs
  from-place [] j q e = cc
  from-place (x ∷ xs) zero q e = let same : x ≡ q = cc in ap (λ y. y ∷ xs) same
  from-place (x ∷ xs) (suc j) q e = from-place xs j q e

  each-at : (xs : List O) (j : ℕ) (q : O) → Each IsO xs → slice_get xs j ≡ Some q → IsO q
  each-at [] j q each e = cc
  each-at (x ∷ xs) zero q each e = let same : x ≡ q = cc in subst IsO same each.0
  each-at (x ∷ xs) (suc j) q each e = each-at xs j q each.1 e

  module _ {C : Type 0} (F : List O) (spelled : Each IsO F) where
    outputs-first : (b items : Items C O) → Each (IsSpelledReply IsO) items → NoneWrong (is_wrong_answer u F) b items
        → outputs_at 0 items ≡ map told.Reply (take (length (outputs_at 0 items)) (drop (length (outputs_at 0 b)) F))
    outputs-first b [] so none = refl
    outputs-first b (item.Input n c ∷ rest) so none =
        outputs-first (b ++ item.Input n c ∷ []) rest so.1 none.1
        ∙ ap (λ k. map told.Reply (take (length (outputs_at 0 rest)) (drop k F))) (outputs-push b (item.Input n c) ∙ add-zero (length (outputs_at 0 b)))
    outputs-first b (item.Output n o ∷ rest) so none =
        by (outputs-first (b ++ item.Output n o ∷ []) rest so.1 none.1) (n == 0) refl none.0 where
          by : outputs_at 0 rest ≡ map told.Reply (take (length (outputs_at 0 rest)) (drop (length (outputs_at 0 (b ++ item.Output n o ∷ []))) F)) → (w : Bool) → (n == 0) ≡ w
              → (w && (nat_le (length (inputs_at 0 b)) (length (outputs_at 0 b)) || not (replies_so u (slice_get F (length (outputs_at 0 b))) o))) ≡ false
              → cond w (o ∷ outputs_at 0 rest) (outputs_at 0 rest) ≡ map told.Reply (take (length (cond w (o ∷ outputs_at 0 rest) (outputs_at 0 rest))) (drop (length (outputs_at 0 b)) F))
          by behind false s e =
              behind ∙ ap (λ k. map told.Reply (take (length (outputs_at 0 rest)) (drop k F))) (outputs-push b (item.Output n o) ∙ (ap (λ w. length (outputs_at 0 b) + cond w 1 0) s ∙ add-zero (length (outputs_at 0 b))))
          by behind true s e =
              let parts = or-false (nat_le (length (inputs_at 0 b)) (length (outputs_at 0 b))) (not (replies_so u (slice_get F (length (outputs_at 0 b))) o)) e in
              let reply = replied (slice_get F (length (outputs_at 0 b))) o (λ q at. each-at F (length (outputs_at 0 b)) q spelled at) so.0 (not-false (replies_so u (slice_get F (length (outputs_at 0 b))) o) parts.1) in
              let next : length (outputs_at 0 (b ++ item.Output n o ∷ [])) ≡ suc (length (outputs_at 0 b)) = outputs-push b (item.Output n o) ∙ (ap (λ w. length (outputs_at 0 b) + cond w 1 0) s ∙ omega arith) in
              let rest-is = behind ∙ ap (λ k. map told.Reply (take (length (outputs_at 0 rest)) (drop k F))) next in
              ap (λ x. x ∷ outputs_at 0 rest) reply.2
              ∙ (ap (λ xs. told.Reply reply.0 ∷ xs) rest-is
              ∙ sym (ap (λ xs. map told.Reply (take (suc (length (outputs_at 0 rest))) xs)) (from-place F (length (outputs_at 0 b)) reply.0 reply.1)))

replies-all : {O : Type 0} (xs : List O) → replies_in (map told.Reply xs) ≡ length xs
replies-all [] = refl
replies-all (x ∷ xs) = ap suc (replies-all xs)

module _ {S C O : Type 0} (IsO : O → Type 0) (u : O → List ℕ) (apart : (a b : O) → IsO a → IsO b → u a ≡ u b → a ≡ b) (m : MachineMeaning S C O) (items : Items C O)
    (so : Each (IsSpelledReply IsO) items) (outs : Each IsO (fold m (inputs_at 0 items))) where
  pub explained-of : NoneWrong (is_wrong_answer u (fold m (inputs_at 0 items))) [] items → NoneWrong is_wrong_at_backup [] items → IsExplainedBy m items
  explained-of answers backup =
      let F = fold m (inputs_at 0 items) in
      let k = length (outputs_at 0 items) in
      let first : outputs_at 0 items ≡ map told.Reply (take k F) = outputs-first IsO u apart F outs [] items so answers in
      let all : replies_in (outputs_at 0 items) ≡ k = ap replies_in first ∙ (replies-all (take k F) ∙ (sym (length-map (take k F) told.Reply) ∙ ap (λ os. length os) (sym first))) in
      record {
        outputs = first ∙ ap (λ os. map told.Reply os) (ap (λ n. take n F) (sym all) ∙ sym (fold-take m m.init (replies_in (outputs_at 0 items)) (inputs_at 0 items)));
        answers = λ before after o whole.
            let here : is_wrong_after {C = C} u F (length (inputs_at 0 before)) (length (outputs_at 0 before)) (item.Output 0 o) ≡ false = at-place (is_wrong_answer u F) [] before (item.Output 0 o) after (subst (NoneWrong (is_wrong_answer u F) []) whole answers) in
            let more = (or-false (nat_le (length (inputs_at 0 before)) (length (outputs_at 0 before))) (not (replies_so u (slice_get F (length (outputs_at 0 before))) o)) here).0 in
            grind (arith, nat_tests);
        redirected = redirected-of items backup;
        nothing_else = nothing_else-of items backup;
      }

mapped-at : {O : Type 0} (xs : List O) (j : ℕ) (o : PbOut O) → slice_get (map told.Reply xs) j ≡ Some o → (q : O) × (slice_get xs j ≡ Some q) × (o ≡ told.Reply q)
mapped-at [] j o e = cc
mapped-at (x ∷ xs) zero o e = let same : told.Reply x ≡ o = cc in (x, refl, sym same)
mapped-at (x ∷ xs) (suc j) o e = mapped-at xs j o e

-- an output that is the one at its place, after its input
right-answer : {O : Type 0} (C : Type 0) (u : O → List ℕ) (F : List O) (asked answered : ℕ) (o : PbOut O) (q : O) → nat_le asked answered ≡ false → slice_get F answered ≡ Some q → o ≡ told.Reply q
    → is_wrong_after {C = C} u F asked answered (item.Output 0 o) ≡ false
right-answer C u F asked answered o q more there is = rw (more, there, is, (bytes_eq-Decides (u q) (u q)).1 refl) refl

module _ {C O : Type 0} where
  outputs-both : (xs ys : Items C O) → outputs_at 0 (xs ++ ys) ≡ outputs_at 0 xs ++ outputs_at 0 ys
  outputs-both [] ys = refl
  outputs-both (item.Input n c ∷ xs) ys = outputs-both xs ys
  outputs-both (item.Output n o ∷ xs) ys = by (n == 0) (outputs-both xs ys) where
    by : (w : Bool) → outputs_at 0 (xs ++ ys) ≡ outputs_at 0 xs ++ outputs_at 0 ys → cond w (o ∷ outputs_at 0 (xs ++ ys)) (outputs_at 0 (xs ++ ys)) ≡ cond w (o ∷ outputs_at 0 xs) (outputs_at 0 xs) ++ outputs_at 0 ys
    by true behind = ap (λ os. o ∷ os) behind
    by false behind = behind

  last-pushed : (xs : Items C O) (x : Item C (PbOut O)) → last_of (xs ++ x ∷ []) ≡ Some x
  last-pushed [] x = refl
  last-pushed (y ∷ []) x = refl
  last-pushed (y ∷ z ∷ rest) x = last-pushed (z ∷ rest) x

module _ {S C O : Type 0} (u : O → List ℕ) (m : MachineMeaning S C O) (whole : Items C O) (e : IsExplainedBy m whole) where
  answer-right : (b rest : Items C O) (o : PbOut O) → whole ≡ b ++ item.Output 0 o ∷ rest → is_wrong_after {C = C} u (fold m (inputs_at 0 whole)) (length (inputs_at 0 b)) (length (outputs_at 0 b)) (item.Output 0 o) ≡ false
  answer-right b rest o split =
      let j = length (outputs_at 0 b) in
      let r = replies_in (outputs_at 0 whole) in
      let more = e.answers b rest o split in
      let asked : nat_le (length (inputs_at 0 b)) j ≡ false = grind (arith, nat_tests) in
      let outs : outputs_at 0 b ++ o ∷ outputs_at 0 rest ≡ map told.Reply (take r (fold m (inputs_at 0 whole))) =
      sym (ap (outputs_at 0) split ∙ outputs-both b (item.Output 0 o ∷ rest)) ∙ (e.outputs ∙ ap (λ os. map told.Reply os) (fold-take m m.init r (inputs_at 0 whole))) in
      let found = mapped-at (take r (fold m (inputs_at 0 whole))) j o (ap (λ os. slice_get os j) (sym outs) ∙ slice_get_seam (outputs_at 0 b) o (outputs_at 0 rest)) in
      let q = found.0 in
      let there : slice_get (fold m (inputs_at 0 whole)) j ≡ Some q = slice_get_taken r (fold m (inputs_at 0 whole)) j q found.1 in
      right-answer C u (fold m (inputs_at 0 whole)) (length (inputs_at 0 b)) j o q asked there found.2

  pub none-answer : (b items : Items C O) → whole ≡ b ++ items → NoneWrong (is_wrong_answer u (fold m (inputs_at 0 whole))) b items
  none-answer b [] split = tt
  none-answer b (item.Input n c ∷ rest) split = (refl, none-answer (b ++ item.Input n c ∷ []) rest (split ∙ sym (append_assoc b (item.Input n c ∷ []) rest)))
  none-answer b (item.Output n o ∷ rest) split = (by (n == 0) refl, none-answer (b ++ item.Output n o ∷ []) rest (split ∙ sym (append_assoc b (item.Output n o ∷ []) rest))) where
    by : (w : Bool) → (n == 0) ≡ w → is_wrong_after {C = C} u (fold m (inputs_at 0 whole)) (length (inputs_at 0 b)) (length (outputs_at 0 b)) (item.Output n o) ≡ false
    by false s = rw s refl
    by true s =
        let zero-is = eqb-true n 0 s in
        ap (λ k. is_wrong_after {C = C} u (fold m (inputs_at 0 whole)) (length (inputs_at 0 b)) (length (outputs_at 0 b)) (item.Output k o)) zero-is
        ∙ answer-right b rest o (split ∙ ap (λ k. b ++ item.Output k o ∷ rest) zero-is)

  pub none-backup : (b items : Items C O) → whole ≡ b ++ items → NoneWrong is_wrong_at_backup b items
  none-backup b [] split = tt
  none-backup b (item.Input n c ∷ rest) split = (by (n == 1) refl, none-backup (b ++ item.Input n c ∷ []) rest (split ∙ sym (append_assoc b (item.Input n c ∷ []) rest))) where
    by : (w : Bool) → (n == 1) ≡ w → (n == 1 && not (passes redirects (slice_get rest 0))) ≡ false
    by false s = rw s refl
    by true s =
        let next = e.redirected b rest c (split ∙ ap (λ k. b ++ item.Input k c ∷ rest) (eqb-true n 1 s)) in
        rw (s, next.1) refl
  none-backup b (item.Output n o ∷ rest) split = (by (n == 1) refl, none-backup (b ++ item.Output n o ∷ []) rest (split ∙ sym (append_assoc b (item.Output n o ∷ []) rest))) where
    by : (w : Bool) → (n == 1) ≡ w → (n == 1 && not (redirects {C = C} (item.Output n o) && passes is_at_backup (last_of b))) ≡ false
    by false s = rw s refl
    by true s =
        let only = e.nothing_else b rest o (split ∙ ap (λ k. b ++ item.Output k o ∷ rest) (eqb-true n 1 s)) in
        let last : passes is_at_backup (last_of b) ≡ true = ap (λ xs. passes is_at_backup (last_of xs)) only.last_is ∙ ap (passes is_at_backup) (last-pushed only.front (item.Input 1 only.input)) in
        rw (only.redirect, s, last) refl
