-- The verdict on a claim on a cluster, by the marks of the order and the names of its requests.
use Rattle.std.specs.Prelude.{◌≡◌, ℕ, suc, ◌+◌, ◌≤◌, Bool, true, false, not, ◌||◌, nat_lt, List, [], ◌∷◌, ◌++◌, length, map, take, drop, zip, Option, Some, None, option_map, option_and_then, cond, slice_get, refl}
use Rattle.std.specs.List.{list_any}
use Rattle.std.proofs.Common.{ap, ◌∙◌, sym, subst, append_assoc, arith, get_or, length-append, length-take}
use Rattle.std.proofs.lemmas.Bool.Decides.{nat_tests}
use Rattle.std.proofs.lemmas.List.{append-nil, take-append-drop, take_all}
use Rattle.std.proofs.lemmas.Option.{get_or_from_slice_get, slice_get_within}
use Rattle.vst_base.specs.Machines.{MachineMeaning, fold}
use Rattle.vst_base.specs.declared.step.Item.{Item}
use Rattle.vst_base.specs.declared.step.Item.TheVariants as item
use Rattle.raft_types.specs.declared.client.RaftInput.{RaftInput}
use Rattle.raft_types.specs.declared.client.RaftOut.{RaftOut}
use Rattle.raft_types.specs.declared.client.RaftOut.TheVariants as told
use Rattle.linearizability.specs.Linearizable.{AreDistinct, AreOther, Seen, beside, is_named, with_outputs}
use Rattle.claim_verdicts.specs.Clusters.{ClusterClaim, answers_one, before_input, cluster_verdict, is_among, is_late, is_other_output, is_unexplained, is_unrequested, puts_in}
use Rattle.claim_verdicts.specs.Marks.{IsFront, first_unrequested, is_mark, is_name, is_untold, mark_by, mark_of, marks_of, name_of, names_of, told_at, unrequested_at}
use Rattle.check_text.specs.Claims.{image_line, item_line}
use Rattle.claim_verdicts.specs.Places.{false_at, first_wrong, place_of}
use Rattle.claim_verdicts.specs.declared.verdict.Verdict.TheVariants.{Yes, No}
use Rattle.claim_verdicts.specs.declared.mark.Mark.{Mark}
use Rattle.claim_verdicts.specs.declared.mark.Mark.TheVariants.{Unseen, Late}
use Rattle.claim_verdicts.specs.declared.name.Name.{Name}
use Rattle.claim_verdicts.proofs.FirstInputs.{length-marks}
use Rattle.claim_verdicts.proofs.Naming.{same-name}
use Rattle.claim_verdicts.proofs.WrongPlaces.{wrong-here, wrong-none, wrong-same}
use Rattle.lists.specs.Each.{Each}
use Rattle.lists.specs.Places.{no_place}

-- a place after so many others, or what comes where there is none
abbrev or_behind : ℕ → Option ℕ → Option ℕ → Option ℕ
or_behind n (Some p) rest = Some (n + p)
or_behind n None rest = rest

no-unseen : (late : Bool) → is_mark Unseen (mark_by true late) ≡ false
no-unseen true = refl
no-unseen false = refl

module _ {C O : Type 0} (t : C → List ℕ) (seen : Seen C O) where
  -- a request without the name of an earlier one
  pub distinct-among : (xs : List (RaftInput C)) (r : RaftInput C) (ys : List (RaftInput C)) → AreDistinct (xs ++ r ∷ ys) → is_among xs r.client r.request ≡ false
  distinct-among [] r ys distinct = refl
  distinct-among (x ∷ xs) r ys distinct = rw (each-at xs distinct.0) (distinct-among xs r ys distinct.1) where
    each-at : (zs : List (RaftInput C)) → Each (AreOther x) (zs ++ r ∷ ys) → is_named r.client r.request x ≡ false
    each-at [] each = each.0
    each-at (z ∷ zs) each = each-at zs each.1

  -- the first request that is not requested, of a front without repeated names, or else of what follows it
  unrequested-front : (before front more : List (RaftInput C)) → AreDistinct (before ++ front)
      → first_wrong (is_unrequested t seen) before (front ++ more) ≡ or_behind (length before) (place_of (is_mark Unseen) (marks_of t seen front)) (first_wrong (is_unrequested t seen) (before ++ front) more)
  unrequested-front before [] more distinct = ap (λ xs. first_wrong (is_unrequested t seen) xs more) (sym (append-nil before))
  unrequested-front before (r ∷ rs) more distinct =
      by (distinct-among before r rs distinct) (unrequested-front (before ++ r ∷ []) rs more (subst AreDistinct (sym (append_assoc before (r ∷ []) rs)) distinct)) (list_any (puts_in t r) seen) refl where
        shifted : (o : Option ℕ) (rest rest' : Option ℕ) → rest ≡ rest' → or_behind (length (before ++ r ∷ [])) o rest ≡ or_behind (length before) (option_map suc o) rest'
        shifted None rest rest' e = e
        shifted (Some p) rest rest' e = ap Some (omega (arith, length-append before (r ∷ [])))

        by : is_among before r.client r.request ≡ false
            → first_wrong (is_unrequested t seen) (before ++ r ∷ []) (rs ++ more) ≡ or_behind (length (before ++ r ∷ [])) (place_of (is_mark Unseen) (marks_of t seen rs)) (first_wrong (is_unrequested t seen) ((before ++ r ∷ []) ++ rs) more)
            → (b : Bool) → list_any (puts_in t r) seen ≡ b
            → cond (is_among before r.client r.request || not (list_any (puts_in t r) seen)) (Some (length before)) (first_wrong (is_unrequested t seen) (before ++ r ∷ []) (rs ++ more))
            ≡ or_behind (length before) (cond (is_mark Unseen (mark_of t seen r rs)) (Some 0) (option_map suc (place_of (is_mark Unseen) (marks_of t seen rs)))) (first_wrong (is_unrequested t seen) (before ++ r ∷ rs) more)
        by other behind false e = rw (other, e) (ap Some (omega arith))
        by other behind true e =
            let seen-mark : is_mark Unseen (mark_by true (list_any (answers_one (r ∷ rs)) (before_input t r seen))) ≡ false = no-unseen (list_any (answers_one (r ∷ rs)) (before_input t r seen)) in
            rw (other, e, seen-mark) (behind ∙ shifted (place_of (is_mark Unseen) (marks_of t seen rs)) _ _ (ap (λ xs. first_wrong (is_unrequested t seen) xs more) (append_assoc before (r ∷ []) rs)))

  -- what follows a front without repeated names that is the longest
  next-place : (found : List Name) (order : List (RaftInput C)) → IsFront found order → length found ≤ length order
      → first_wrong (is_unrequested t seen) (take (length found) order) (drop (length found) order) ≡ cond (nat_lt (length found) (length order)) (Some (length found)) None
  next-place found order front within = by (slice_get order (length found)) refl where
    by : (o : Option (RaftInput C)) → slice_get order (length found) ≡ o
        → first_wrong (is_unrequested t seen) (take (length found) order) (drop (length found) order) ≡ cond (nat_lt (length found) (length order)) (Some (length found)) None
    by None got =
        let over : length order ≤ length found = no_place order (length found) got in
        let less : nat_lt (length found) (length order) ≡ false = grind (arith, nat_tests) in
        wrong-none (is_unrequested t seen) order (length found) over ∙ sym (rw less refl)
    by (Some r) got =
        let below = slice_get_within order (length found) r got in
        let at : r ≡ get_or order (length found) r = sym (get_or_from_slice_get order (length found) r r got) in
        let bad : is_unrequested t seen (take (length found) order) r (drop (length found + 1) order) ≡ true = rw (front.next r got) refl in
        let less : nat_lt (length found) (length order) ≡ true = grind (arith, nat_tests) in
        wrong-here (is_unrequested t seen) order (length found) r below at bad ∙ sym (rw less refl)

  pub unrequested-is : (found : List Name) (order : List (RaftInput C)) (marks : List Mark) → IsFront found order → length found ≤ length order → marks ≡ marks_of t seen (take (length found) order)
      → first_wrong (is_unrequested t seen) [] order ≡ first_unrequested marks (length order)
  unrequested-is found order marks front within is =
      let n = length found in
      let many : length marks ≡ n = ap length is ∙ (length-marks t seen (take n order) ∙ (length-take n order ∙ omega (arith, within))) in
      ap (first_wrong (is_unrequested t seen) []) (sym (take-append-drop n order))
      ∙ (unrequested-front [] (take n order) (drop n order) front.distinct
      ∙ (ap (or_behind 0 (place_of (is_mark Unseen) (marks_of t seen (take n order)))) (next-place found order front within)
      ∙ (ends (place_of (is_mark Unseen) (marks_of t seen (take n order))) n
      ∙ (ap (λ ms. unrequested_at (place_of (is_mark Unseen) ms) n (length order)) (sym is) ∙ ap (λ k. unrequested_at (place_of (is_mark Unseen) marks) k (length order)) (sym many))))) where
        ends : (o : Option ℕ) (n : ℕ) → or_behind 0 o (cond (nat_lt n (length order)) (Some n) None) ≡ unrequested_at o n (length order)
        ends None n = refl
        ends (Some p) n = ap Some (omega arith)

  -- where each request was put in, the late ones are those that are marked so
  late-places : (before order : List (RaftInput C)) → place_of (is_mark Unseen) (marks_of t seen order) ≡ None
      → first_wrong (is_late t seen) before order ≡ or_behind (length before) (place_of (is_mark Late) (marks_of t seen order)) None
  late-places before [] none = refl
  late-places before (r ∷ rs) none = by (late-places (before ++ r ∷ []) rs) (list_any (puts_in t r) seen) (list_any (answers_one (r ∷ rs)) (before_input t r seen)) none where
    shifted : (o : Option ℕ) → or_behind (length (before ++ r ∷ [])) o None ≡ or_behind (length before) (option_map suc o) None
    shifted None = refl
    shifted (Some p) = ap Some (omega (arith, length-append before (r ∷ [])))

    rest-none : (o : Option ℕ) → option_map suc o ≡ None → o ≡ None
    rest-none None e = refl
    rest-none (Some p) e = cc

    by : (place_of (is_mark Unseen) (marks_of t seen rs) ≡ None → first_wrong (is_late t seen) (before ++ r ∷ []) rs ≡ or_behind (length (before ++ r ∷ [])) (place_of (is_mark Late) (marks_of t seen rs)) None)
        → (b late : Bool) → cond (is_mark Unseen (mark_by b late)) (Some 0) (option_map suc (place_of (is_mark Unseen) (marks_of t seen rs))) ≡ None
        → cond late (Some (length before)) (first_wrong (is_late t seen) (before ++ r ∷ []) rs)
        ≡ or_behind (length before) (cond (is_mark Late (mark_by b late)) (Some 0) (option_map suc (place_of (is_mark Late) (marks_of t seen rs)))) None
    by behind false late none = cc
    by behind true true none = ap Some (omega arith)
    by behind true false none = behind (rest-none (place_of (is_mark Unseen) (marks_of t seen rs)) none) ∙ shifted (place_of (is_mark Late) (marks_of t seen rs))

  no-unrequested : (o : Option ℕ) (marked many : ℕ) → unrequested_at o marked many ≡ None → marked ≤ many → (o ≡ None) × (marked ≡ many)
  no-unrequested (Some p) marked many e within = cc
  no-unrequested None marked many e within = (refl, by (nat_lt marked many) refl e) where
    by : (b : Bool) → nat_lt marked many ≡ b → cond b (Some marked) None ≡ None → marked ≡ many
    by true s e = cc
    by false s e = grind (arith, nat_tests)

  -- where no request is unrequested, the front is the whole order
  pub whole-front : (found : List Name) (order : List (RaftInput C)) (marks : List Mark) → IsFront found order → length found ≤ length order → marks ≡ marks_of t seen (take (length found) order)
      → first_unrequested marks (length order) ≡ None → (length found ≡ length order) × (place_of (is_mark Unseen) marks ≡ None)
  whole-front found order marks front within is none =
      let n = length found in
      let many : length marks ≡ n = ap length is ∙ (length-marks t seen (take n order) ∙ (length-take n order ∙ omega (arith, within))) in
      let both = no-unrequested (place_of (is_mark Unseen) marks) (length marks) (length order) none (omega (arith, many, within)) in
      (sym many ∙ both.1, both.0)

  pub late-is : (found : List Name) (order : List (RaftInput C)) (marks : List Mark) → length found ≡ length order → marks ≡ marks_of t seen (take (length found) order) → place_of (is_mark Unseen) marks ≡ None
      → first_wrong (is_late t seen) [] order ≡ place_of (is_mark Late) marks
  late-is found order marks whole is none =
      let all : take (length found) order ≡ order = take_all (length found) order (omega (arith, whole)) in
      let same : marks ≡ marks_of t seen order = is ∙ ap (marks_of t seen) all in
      late-places [] order (ap (place_of (is_mark Unseen)) (sym same) ∙ none) ∙ (ends (place_of (is_mark Late) (marks_of t seen order)) ∙ ap (place_of (is_mark Late)) (sym same)) where
        ends : (o : Option ℕ) → or_behind 0 o None ≡ o
        ends None = refl
        ends (Some p) = ap Some (omega arith)

module _ {C O : Type 0} (t : O → List ℕ) where
  -- what stands beside a request is what stands at the place of its name
  beside-told : (client request : ℕ) (order : List (RaftInput C)) (outputs : List O) → beside client request (zip order outputs) ≡ told_at (names_of order) client request outputs
  beside-told client request [] outputs = refl
  beside-told client request (r ∷ rs) [] = sym (nowhere (place_of (is_name client request) (names_of (r ∷ rs)))) where
    nowhere : (o : Option ℕ) → option_and_then (slice_get {X = O} []) o ≡ None
    nowhere None = refl
    nowhere (Some p) = refl
  beside-told client request (r ∷ rs) (o ∷ os) = by (beside-told client request rs os) (is_named client request r) (same-name client request r) where
    there : (p : Option ℕ) → option_and_then (slice_get (o ∷ os)) (option_map suc p) ≡ option_and_then (slice_get os) p
    there None = refl
    there (Some p) = refl

    by : beside client request (zip rs os) ≡ told_at (names_of rs) client request os → (b : Bool) → is_name client request (name_of r) ≡ b
        → cond b (Some o) (beside client request (zip rs os)) ≡ option_and_then (slice_get (o ∷ os)) (cond (is_name client request (name_of r)) (Some 0) (option_map suc (place_of (is_name client request) (names_of rs))))
    by behind true e = rw e refl
    by behind false e = rw e (behind ∙ sym (there (place_of (is_name client request) (names_of rs))))

  untold-same : (order : List (RaftInput C)) (outputs : List O) (x : Item (RaftInput C) (RaftOut O)) → is_unexplained t (zip order outputs) x ≡ is_untold t (names_of order) outputs x
  untold-same order outputs (item.Input n i) = refl
  untold-same order outputs (item.Output n (told.Reply client request o)) = ap (λ w. is_other_output t w o) (beside-told client request order outputs)
  untold-same order outputs (item.Output n (told.NotLeader client request)) = refl
  untold-same order outputs (item.Output n (told.Full client request)) = refl

  pub unexplained-is : {S : Type 0} (m : MachineMeaning S C O) (found : List Name) (order : List (RaftInput C)) (outputs : List O) (seen : Seen C O) → IsFront found order → length found ≡ length order → outputs ≡ fold m (map (λ r. r.cmd) order)
      → first_wrong (λ before x after. is_unexplained t (with_outputs m order) x) [] seen ≡ first_wrong (λ before x after. is_untold t found outputs x) [] seen
  unexplained-is m found order outputs seen front whole are =
      let all : take (length found) order ≡ order = take_all (length found) order (omega (arith, whole)) in
      let names : found ≡ names_of order = front.names ∙ ap names_of all in
      wrong-same (λ before x after. is_unexplained t (with_outputs m order) x) (λ before x after. is_untold t found outputs x)
      (λ before x after. ap (λ os. is_unexplained t (zip order os) x) (sym are) ∙ (untold-same order outputs x ∙ ap (λ ns. is_untold t ns outputs x) (sym names))) [] seen

module _ {S C O : Type 0} (t : C → List ℕ) (u : O → List ℕ) (m : MachineMeaning S C O) (c : ClusterClaim C O) where
  verdict-by : (first second third : Option ℕ) → first_wrong (is_unrequested t c.trace) [] c.image ≡ first → first_wrong (λ before x after. is_unexplained u (with_outputs m c.image) x) [] c.trace ≡ second
      → first_wrong (is_late t c.trace) [] c.image ≡ third
      → false_at 1 (option_map (image_line c) first) (false_at 2 (option_map item_line second) (false_at 3 (option_map (image_line c) third) Yes)) ≡ cluster_verdict t u m c
  verdict-by first second third e1 e2 e3 = rw (sym e1, sym e2, sym e3) refl

  -- what is known of the order of a claim and of its trace
  pub record Marked (order : List (RaftInput C)) (seen : Seen C O) (found : List Name) (marks : List Mark) : Type 0 where
    pub order_is : order ≡ c.image
    pub seen_is : seen ≡ c.trace
    pub front : IsFront found order
    pub marks_are : marks ≡ marks_of t seen (take (length found) order)

  module _ (order : List (RaftInput C)) (seen : Seen C O) (found : List Name) (marks : List Mark) (k : Marked order seen found marks) where
    at-claim : first_wrong (is_unrequested t c.trace) [] c.image ≡ first_unrequested marks (length order)
    at-claim = ap (λ xs. first_wrong (is_unrequested t c.trace) [] xs) (sym k.order_is) ∙ (ap (λ (xs : Seen C O). first_wrong (is_unrequested t xs) [] order) (sym k.seen_is) ∙ unrequested-is t seen found order marks k.front k.front.within k.marks_are)

    pub few-marks : length marks ≤ length order
    few-marks = omega (arith, ap length k.marks_are ∙ (length-marks t seen (take (length found) order) ∙ length-take (length found) order), k.front.within)

    pub says-unrequested : (p line : ℕ) → Some p ≡ first_unrequested marks (length order) → line ≡ image_line c p → No 1 line ≡ cluster_verdict t u m c
    says-unrequested p line is at = ap (No 1) at ∙ verdict-by (Some p) _ _ (at-claim ∙ sym is) refl refl

    module _ (outputs : List O) (are : outputs ≡ fold m (map (λ r. r.cmd) order)) (requested : first_unrequested marks (length order) ≡ None) where
      whole : (length found ≡ length order) × (place_of (is_mark Unseen) marks ≡ None)
      whole = whole-front t seen found order marks k.front k.front.within k.marks_are requested

      second-is : first_wrong (λ before x after. is_unexplained u (with_outputs m c.image) x) [] c.trace ≡ first_wrong (λ before x after. is_untold u found outputs x) [] seen
      second-is =
          ap (λ xs. first_wrong (λ before x after. is_unexplained u (with_outputs m xs) x) [] c.trace) (sym k.order_is)
          ∙ (ap (λ (xs : Seen C O). first_wrong (λ before x after. is_unexplained u (with_outputs m order) x) [] xs) (sym k.seen_is) ∙ unexplained-is u m found order outputs seen k.front whole.0 are)

      third-is : first_wrong (is_late t c.trace) [] c.image ≡ place_of (is_mark Late) marks
      third-is =
          ap (λ xs. first_wrong (is_late t c.trace) [] xs) (sym k.order_is)
          ∙ (ap (λ (xs : Seen C O). first_wrong (is_late t xs) [] order) (sym k.seen_is) ∙ late-is t seen found order marks whole.0 k.marks_are whole.1)

      pub says-unexplained : (p line : ℕ) → Some p ≡ first_wrong (λ before x after. is_untold u found outputs x) [] seen → line ≡ item_line p → No 2 line ≡ cluster_verdict t u m c
      says-unexplained p line is at = ap (No 2) at ∙ verdict-by None (Some p) _ (at-claim ∙ requested) (second-is ∙ sym is) refl

      module _ (explained : first_wrong (λ before x after. is_untold u found outputs x) [] seen ≡ None) where
        pub says-late : (p line : ℕ) → Some p ≡ place_of (is_mark Late) marks → line ≡ image_line c p → No 3 line ≡ cluster_verdict t u m c
        says-late p line is at = ap (No 3) at ∙ verdict-by None None (Some p) (at-claim ∙ requested) (second-is ∙ explained) (third-is ∙ sym is)

        pub says-yes : None ≡ place_of (is_mark Late) marks → Yes ≡ cluster_verdict t u m c
        says-yes is = verdict-by None None None (at-claim ∙ requested) (second-is ∙ explained) (third-is ∙ sym is)
