-- When each request of an order was first put in, once clients saw one item more.
use Rattle.std.specs.Prelude.{◌≡◌, ℕ, zero, suc, Bool, true, false, ◌&&◌, ◌||◌, nat_lt, max, List, [], ◌∷◌, ◌++◌, length, drop, Option, Some, None, option_map, cond, slice_get, slice_set, replicate, refl}
use Rattle.std.specs.List.{list_any}
use Rattle.std.proofs.Common.{ap, ◌∙◌, sym, subst, arith}
use Rattle.std.proofs.lemmas.Bool.Decides.{nat_tests}
use Rattle.std.proofs.lemmas.List.{append-nil}
use Rattle.std.proofs.lemmas.List.Folds.{list_any-append}
use Rattle.vst_base.specs.declared.step.Item.{Item}
use Rattle.vst_base.specs.declared.step.Item.TheVariants as item
use Rattle.raft_types.specs.declared.client.RaftInput.{RaftInput}
use Rattle.raft_types.specs.declared.client.RaftOut.{RaftOut}
use Rattle.raft_types.specs.declared.client.RaftOut.TheVariants as told
use Rattle.linearizability.specs.Linearizable.{AreDistinct, Seen, is_named}
use Rattle.schedule_text.specs.Words.{is_text}
use Rattle.claim_verdicts.specs.Clusters.{answers_one, before_input, puts_in}
use Rattle.claim_verdicts.specs.Places.{place_of}
use Rattle.claim_verdicts.specs.Marks.{MarksInput, past_place, is_name, mark_by, mark_of, marks_of, names_of, next_mark, reach_of}
use Rattle.claim_verdicts.specs.declared.mark.Mark.{Mark}
use Rattle.claim_verdicts.specs.declared.mark.Mark.TheVariants.{Unseen, InTime, Late}
use Rattle.claim_verdicts.specs.declared.name.Name.{Name}
use Rattle.claim_verdicts.proofs.Naming.{among-drop, others-unnamed, place-named, unnamed-none}
use Rattle.lists.specs.Each.{Each}

not-put : (late : Bool) (m : Mark) → next_mark false late m ≡ m
not-put late Unseen = refl
not-put late InTime = refl
not-put late Late = refl

or-nothing : (t : Bool) → (t || false) ≡ t
or-nothing true = refl
or-nothing false = refl

max-below : (k a b : ℕ) → nat_lt k (max a b) ≡ (nat_lt k a || nat_lt k b)
max-below k a b = by (nat_lt k a) (nat_lt k b) refl refl where
  by : (s u : Bool) → nat_lt k a ≡ s → nat_lt k b ≡ u → nat_lt k (max a b) ≡ (s || u)
  by true u e f = grind (arith, nat_tests)
  by false true e f = grind (arith, nat_tests)
  by false false e f = grind (arith, nat_tests)

module _ {C O : Type 0} (t : C → List ℕ) where
  before-more : (r : RaftInput C) (p : Seen C O) (x : Item (RaftInput C) (RaftOut O)) → (b : Bool) → list_any (puts_in t r) p ≡ b
      → before_input t r (p ++ x ∷ []) ≡ cond b (before_input t r p) (p ++ cond (puts_in t r x) [] (x ∷ []))
  before-more r [] x true e = cc
  before-more r [] x false e = refl
  before-more r (y ∷ ys) x b e = by (before-more r ys x b) (puts_in t r y) refl e where
    by : (list_any (puts_in t r) ys ≡ b → before_input t r (ys ++ x ∷ []) ≡ cond b (before_input t r ys) (ys ++ cond (puts_in t r x) [] (x ∷ []))) → (u : Bool) → puts_in t r y ≡ u → (u || list_any (puts_in t r) ys) ≡ b
        → cond u [] (y ∷ before_input t r (ys ++ x ∷ [])) ≡ cond b (cond u [] (y ∷ before_input t r ys)) (y ∷ (ys ++ cond (puts_in t r x) [] (x ∷ [])))
    by behind true s e = rw (sym e) refl
    by behind false s e = ap (λ xs. y ∷ xs) (behind e) ∙ split b where
      split : (c : Bool) → (y ∷ cond c (before_input t r ys) (ys ++ cond (puts_in t r x) [] (x ∷ []))) ≡ cond c (y ∷ before_input t r ys) (y ∷ (ys ++ cond (puts_in t r x) [] (x ∷ [])))
      split true = refl
      split false = refl

  -- the mark of a request, once clients saw one item more
  mark-more : (p : Seen C O) (x : Item (RaftInput C) (RaftOut O)) (r : RaftInput C) (after : List (RaftInput C))
      → mark_of t (p ++ x ∷ []) r after ≡ next_mark (puts_in t r x) (list_any (answers_one (r ∷ after)) p) (mark_of t p r after)
  mark-more p x r after =
      let any = list_any-append (puts_in t r) p (x ∷ []) in
      by (list_any (puts_in t r) p) (puts_in t r x) refl any (before-more r p x (list_any (puts_in t r) p) refl) where
        answered : Seen C O → Bool
        answered q = list_any (answers_one (r ∷ after)) q

        settled : (late : Bool) (u : Bool) (other : Bool) → mark_by true late ≡ next_mark u other (mark_by true late)
        settled true u other = refl
        settled false u other = refl

        by : (b u : Bool) → list_any (puts_in t r) p ≡ b → list_any (puts_in t r) (p ++ x ∷ []) ≡ (b || (u || false)) → before_input t r (p ++ x ∷ []) ≡ cond b (before_input t r p) (p ++ cond u [] (x ∷ []))
            → mark_by (list_any (puts_in t r) (p ++ x ∷ [])) (list_any (answers_one (r ∷ after)) (before_input t r (p ++ x ∷ [])))
            ≡ next_mark u (list_any (answers_one (r ∷ after)) p) (mark_by b (list_any (answers_one (r ∷ after)) (before_input t r p)))
        by true u s any before = rw (any, before) (settled (list_any (answers_one (r ∷ after)) (before_input t r p)) u (list_any (answers_one (r ∷ after)) p))
        by false true s any before = rw (any, before) (ap (λ (q : Seen C O). mark_by true (list_any (answers_one (r ∷ after)) q)) (append-nil p))
        by false false s any before = rw any refl

  marks-same : (p : Seen C O) (x : Item (RaftInput C) (RaftOut O)) (order : List (RaftInput C)) → Each (λ r. puts_in t r x ≡ false) order → marks_of t (p ++ x ∷ []) order ≡ marks_of t p order
  marks-same p x [] each = refl
  marks-same p x (r ∷ after) each =
      let head : mark_of t (p ++ x ∷ []) r after ≡ mark_of t p r after =
      mark-more p x r after ∙ (ap (λ u. next_mark u (list_any (answers_one (r ∷ after)) p) (mark_of t p r after)) each.0 ∙ not-put (list_any (answers_one (r ∷ after)) p) (mark_of t p r after)) in
      ap (λ m. m ∷ marks_of t (p ++ x ∷ []) after) head ∙ ap (λ ms. mark_of t p r after ∷ ms) (marks-same p x after each.1)

  not-this : (p : Seen C O) (n : ℕ) (i : RaftInput C) (order : List (RaftInput C)) → Each (λ r. is_named i.client i.request r ≡ false) order → Each (λ r. puts_in {O = O} t r (item.Input n i) ≡ false) order
  not-this p n i [] each = tt
  not-this p n i (r ∷ rest) each = (ap (λ b. b && is_text (t r.cmd) (t i.cmd)) each.0, not-this p n i rest each.1)

  marks-at : (p : Seen C O) (n : ℕ) (i : RaftInput C) (order : List (RaftInput C)) (k : ℕ) (r : RaftInput C) (m : Mark) (late : Bool) → AreDistinct order
      → place_of (is_named i.client i.request) order ≡ Some k → slice_get order k ≡ Some r → slice_get (marks_of t p order) k ≡ Some m → late ≡ list_any (answers_one (drop k order)) p
      → marks_of t (p ++ item.Input n i ∷ []) order ≡ slice_set (marks_of t p order) k (next_mark (is_text (t r.cmd) (t i.cmd)) late m)
  marks-at p n i [] k r m late distinct place at mark is = cc
  marks-at p n i (a ∷ rest) k r m late distinct place at mark is = by (λ k. marks-at p n i rest k r m late distinct.1) (is_named i.client i.request a) (place_of (is_named i.client i.request) rest) refl refl k place at mark is where
    by : ((k : ℕ) → place_of (is_named i.client i.request) rest ≡ Some k → slice_get rest k ≡ Some r → slice_get (marks_of t p rest) k ≡ Some m → late ≡ list_any (answers_one (drop k rest)) p
        → marks_of t (p ++ item.Input n i ∷ []) rest ≡ slice_set (marks_of t p rest) k (next_mark (is_text (t r.cmd) (t i.cmd)) late m)) → (u : Bool) (o : Option ℕ) → is_named i.client i.request a ≡ u → place_of (is_named i.client i.request) rest ≡ o → (k : ℕ) → cond u (Some 0) (option_map suc o) ≡ Some k
        → slice_get (a ∷ rest) k ≡ Some r → slice_get (mark_of t p a rest ∷ marks_of t p rest) k ≡ Some m → late ≡ list_any (answers_one (drop k (a ∷ rest))) p
        → marks_of t (p ++ item.Input n i ∷ []) (a ∷ rest) ≡ slice_set (mark_of t p a rest ∷ marks_of t p rest) k (next_mark (is_text (t r.cmd) (t i.cmd)) late m)
    by behind true o s q zero place at mark is =
        let same : a ≡ r = cc in
        let there : mark_of t p a rest ≡ m = cc in
        let puts : puts_in {O = O} t a (item.Input n i) ≡ is_text (t r.cmd) (t i.cmd) = ap (λ b. b && is_text (t a.cmd) (t i.cmd)) s ∙ ap (λ (c : RaftInput C). is_text (t c.cmd) (t i.cmd)) same in
        let head : mark_of t (p ++ item.Input n i ∷ []) a rest ≡ next_mark (is_text (t r.cmd) (t i.cmd)) late m =
        mark-more p (item.Input n i) a rest
        ∙ (ap (λ b. next_mark b (list_any (answers_one (a ∷ rest)) p) (mark_of t p a rest)) puts
        ∙ (ap (λ b. next_mark (is_text (t r.cmd) (t i.cmd)) b (mark_of t p a rest)) (sym is)
        ∙ ap (λ w. next_mark (is_text (t r.cmd) (t i.cmd)) late w) there)) in
        let tail = marks-same p (item.Input n i) rest (not-this p n i rest (others-unnamed i.client i.request a rest distinct.0 s)) in
        ap (λ w. w ∷ marks_of t (p ++ item.Input n i ∷ []) rest) head ∙ ap (λ ms. next_mark (is_text (t r.cmd) (t i.cmd)) late m ∷ ms) tail
    by behind true o s q (suc k) place at mark is = cc
    by behind false None s q k place at mark is = cc
    by behind false (Some j) s q zero place at mark is = cc
    by behind false (Some j) s q (suc k) place at mark is =
        let same : j ≡ k = cc in
        let head : mark_of t (p ++ item.Input n i ∷ []) a rest ≡ mark_of t p a rest =
        mark-more p (item.Input n i) a rest
        ∙ (ap (λ b. next_mark (b && is_text (t a.cmd) (t i.cmd)) (list_any (answers_one (a ∷ rest)) p) (mark_of t p a rest)) s ∙ not-put (list_any (answers_one (a ∷ rest)) p) (mark_of t p a rest)) in
        let tail = behind k (q ∙ ap Some same) at mark is in
        ap (λ w. w ∷ marks_of t (p ++ item.Input n i ∷ []) rest) head ∙ ap (λ ms. mark_of t p a rest ∷ ms) tail

  -- what a place that is written makes of the marks
  pub marks-by : (p : Seen C O) (o : Option ℕ) (order : List (RaftInput C)) (most : ℕ) (i : RaftInput C) (marks marks' : List Mark) (k : ℕ) (r : RaftInput C) (m : Mark) → Some k ≡ o → slice_get order k ≡ Some r → slice_get marks k ≡ Some m
      → marks' ≡ slice_set marks k (next_mark (is_text (t r.cmd) (t i.cmd)) (nat_lt k most) m) → MarksInput t o order most i marks marks'
  marks-by p o order most i marks marks' k r m is at mark set = subst (λ (o : Option ℕ). MarksInput t o order most i marks marks') is (r, m, at, mark, set)

  -- the requests from each place on were answered exactly where the place is below this number
  abbrev pub Reaches : ℕ → List (RaftInput C) → Seen C O → Type 0
  Reaches most order p = (k : ℕ) → nat_lt k most ≡ list_any (answers_one (drop k order)) p

  pub marks-input : (names : List Name) (order : List (RaftInput C)) (p : Seen C O) (n : ℕ) (i : RaftInput C) (most : ℕ) (marks marks' : List Mark) → names ≡ names_of order → AreDistinct order
      → marks ≡ marks_of t p order → Reaches most order p → MarksInput t (place_of (is_name i.client i.request) names) order most i marks marks' → marks' ≡ marks_of t (p ++ item.Input n i ∷ []) order
  marks-input names order p n i most marks marks' are distinct so_far reaches is =
      by (place_of (is_name i.client i.request) names) (sym (place-named i.client i.request order) ∙ ap (place_of (is_name i.client i.request)) (sym are)) is where
        by : (o : Option ℕ) → place_of (is_named i.client i.request) order ≡ o → MarksInput t o order most i marks marks' → marks' ≡ marks_of t (p ++ item.Input n i ∷ []) order
        by None at is = is ∙ (so_far ∙ sym (marks-same p (item.Input n i) order (not-this p n i order (unnamed-none i.client i.request order at))))
        by (Some k) at (r, m, got, mark, set) =
            set ∙ (ap (λ ms. slice_set ms k (next_mark (is_text (t r.cmd) (t i.cmd)) (nat_lt k most) m)) so_far
            ∙ sym (marks-at p n i order k r m (nat_lt k most) distinct at got (ap (λ ms. slice_get ms k) (sym so_far) ∙ mark) (reaches k)))

  pub marks-output : (p : Seen C O) (n : ℕ) (o : RaftOut O) (order : List (RaftInput C)) → marks_of t p order ≡ marks_of t (p ++ item.Output n o ∷ []) order
  marks-output p n o order = sym (marks-same p (item.Output n o) order (none order)) where
    none : (rs : List (RaftInput C)) → Each (λ r. puts_in t r (item.Output n o) ≡ false) rs
    none [] = tt
    none (r ∷ rs) = (refl, none rs)

  pub reaches-input : (order : List (RaftInput C)) (p : Seen C O) (n : ℕ) (i : RaftInput C) (most : ℕ) → Reaches most order p → Reaches most order (p ++ item.Input n i ∷ [])
  reaches-input order p n i most reaches k = reaches k ∙ (sym (or-nothing (list_any (answers_one (drop k order)) p)) ∙ sym (list_any-append (answers_one (drop k order)) p (item.Input n i ∷ [])))

  reach-one : (names : List Name) (order : List (RaftInput C)) (n : ℕ) (o : RaftOut O) (k : ℕ) → names ≡ names_of order → AreDistinct order → nat_lt k (reach_of names o) ≡ answers_one (drop k order) (item.Output n o)
  reach-one names order n (told.Reply client request o) k are distinct =
      ap (λ ns. nat_lt k (past_place (place_of (is_name client request) ns))) are
      ∙ (ap (λ v. nat_lt k (past_place v)) (place-named client request order) ∙ among-drop client request k order distinct)
  reach-one names order n (told.NotLeader client request) k are distinct = grind (arith, nat_tests)
  reach-one names order n (told.Full client request) k are distinct = grind (arith, nat_tests)

  pub reaches-output : (names : List Name) (order : List (RaftInput C)) (p : Seen C O) (n : ℕ) (o : RaftOut O) (most : ℕ) → names ≡ names_of order → AreDistinct order → Reaches most order p
      → Reaches (max most (reach_of names o)) order (p ++ item.Output n o ∷ [])
  reaches-output names order p n o most are distinct reaches k =
      max-below k most (reach_of names o)
      ∙ (ap (λ b. b || nat_lt k (reach_of names o)) (reaches k)
      ∙ (ap (λ b. list_any (answers_one (drop k order)) p || b) (reach-one names order n o k are distinct ∙ sym (or-nothing (answers_one (drop k order) (item.Output n o))))
      ∙ sym (list_any-append (answers_one (drop k order)) p (item.Output n o ∷ []))))

  pub reaches-nothing : (order : List (RaftInput C)) (p : Seen C O) → p ≡ [] → Reaches 0 order p
  reaches-nothing order p none k = rw none (grind (arith, nat_tests))

  pub length-marks : (p : Seen C O) (order : List (RaftInput C)) → length (marks_of t p order) ≡ length order
  length-marks p [] = refl
  length-marks p (r ∷ rest) = ap suc (length-marks p rest)

  -- at first no request was seen
  pub unseen : (p : Seen C O) (order : List (RaftInput C)) → p ≡ [] → replicate (length order) Unseen ≡ marks_of t p order
  unseen p [] none = refl
  unseen p (r ∷ rest) none = ap (λ ms. Unseen ∷ ms) (unseen p rest none) ∙ ap (λ (q : Seen C O). mark_of t q r rest ∷ marks_of t p rest) (sym none)
