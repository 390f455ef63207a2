-- The verdict on a claim on a cluster is yes exactly where what clients saw is linearizable by the order.
use Rattle.std.specs.Prelude.{◌≡◌, ℕ, Bool, true, false, not, ◌==◌, ◌&&◌, ◌||◌, ◌⊎◌, List, [], ◌∷◌, ◌++◌, map, zip, Option, Some, None, cond, refl}
use Rattle.std.specs.List.{list_any}
use Rattle.std.proofs.Common.{inl, inr, ap, ◌∙◌, sym, subst, append_assoc, eqb-true}
use Rattle.std.proofs.lemmas.Bool.{and_parts, and_from, eq-eqb}
use Rattle.std.proofs.lemmas.List.Folds.{list_any-append}
use Rattle.std.proofs.lemmas.Slice.Eq.{bytes_eq-Decides}
use Rattle.vst_base.specs.Machines.{MachineMeaning, fold}
use Rattle.vst_base.specs.declared.step.Item.{Item}
use Rattle.vst_base.specs.declared.step.Item.TheVariants as item
use Rattle.raft_types.specs.declared.client.RaftInput.{RaftInput}
use Rattle.raft_types.specs.declared.client.RaftOut.{RaftOut}
use Rattle.raft_types.specs.declared.client.RaftOut.TheVariants as told
use Rattle.linearizability.specs.Linearizable.{AreDistinct, AreInTime, AreOther, HasInput, IsLinearizable, Seen, Told, beside, is_named, told_since, up_to, with_outputs}
use Rattle.schedule_text.specs.Words.{is_text}
use Rattle.check_text.specs.Claims.{image_line, item_line}
use Rattle.claim_verdicts.specs.Clusters.{ClusterClaim, answers_one, before_input, cluster_verdict, is_among, is_late, is_other_output, is_unexplained, is_unrequested, puts_in}
use Rattle.claim_verdicts.specs.Laws.{AreSpelled, IsSpelledItem}
use Rattle.claim_verdicts.specs.Places.{first_wrong}
use Rattle.claim_verdicts.specs.declared.verdict.Verdict.TheVariants.{Yes}
use Rattle.claim_verdicts.proofs.ClusterVerdicts.{distinct-among}
use Rattle.claim_verdicts.proofs.NoneWrongs.{NoneWrong, first-none, none-first}
use Rattle.claim_verdicts.proofs.SameLines.{all-true}
use Rattle.claim_verdicts.proofs.Naming.{others-unnamed, unnamed-any}
use Rattle.lists.specs.Each.{Each}

or-false : (a b : Bool) → (a || b) ≡ false → (a ≡ false) × (b ≡ false)
or-false true b e = cc
or-false false b e = (refl, e)

or-from : (a b : Bool) → a ≡ false → b ≡ false → (a || b) ≡ false
or-from a b e f = rw (e, f) refl

not-false : (a : Bool) → not a ≡ false → a ≡ true
not-false true e = refl
not-false false e = cc

never : (a : Bool) → a ≡ true → a ≡ false → ⊥
never a e f = let both : ◌≡◌ {A = Bool} true false = sym e ∙ f in cc

same-text : (a b : List ℕ) → a ≡ b → is_text a b ≡ true
same-text a b e = (bytes_eq-Decides a b).1 e

text-same : (a b : List ℕ) → is_text a b ≡ true → a ≡ b
text-same a b e = (bytes_eq-Decides a b).0 e

itself : (n : ℕ) → (n == n) ≡ true
itself n = eq-eqb n n refl

module _ {C O : Type 0} (IsC : C → Type 0) (IsO : O → Type 0) (t : C → List ℕ) (u : O → List ℕ)
    (apart : (a b : C) → IsC a → IsC b → t a ≡ t b → a ≡ b) (apart-out : (a b : O) → IsO a → IsO b → u a ≡ u b → a ≡ b) where
  -- a request that is found was put in
  input-of : (seen : Seen C O) (r : RaftInput C) → Each (IsSpelledItem IsC IsO) seen → IsC r.cmd → list_any (puts_in t r) seen ≡ true → HasInput seen r
  input-of [] r spelled is e = cc
  input-of (item.Output n o ∷ rest) r spelled is e = input-of rest r spelled.1 is e
  input-of (item.Input n i ∷ rest) r spelled is e = by (input-of rest r spelled.1 is) (is_named i.client i.request r && is_text (t r.cmd) (t i.cmd)) refl e where
    by : (list_any (puts_in t r) rest ≡ true → HasInput rest r) → (b : Bool) → (is_named i.client i.request r && is_text (t r.cmd) (t i.cmd)) ≡ b → (b || list_any (puts_in t r) rest) ≡ true → (i ≡ r) ⊎ HasInput rest r
    by behind false s e = inr (behind e)
    by behind true s e =
        let both : (is_named i.client i.request r ≡ true) × (is_text (t r.cmd) (t i.cmd) ≡ true) = and_parts (is_named i.client i.request r) (is_text (t r.cmd) (t i.cmd)) s in
        let name : ((r.client == i.client) ≡ true) × ((r.request == i.request) ≡ true) = and_parts (r.client == i.client) (r.request == i.request) both.0 in
        let cmd : r.cmd ≡ i.cmd = apart r.cmd i.cmd is spelled.0 (text-same (t r.cmd) (t i.cmd) both.1) in
        let made : ℕ → ℕ → C → RaftInput C = λ a b c. record { client = a; request = b; cmd = c } in
        inl (sym (ap (λ a. made a r.request r.cmd) (eqb-true r.client i.client name.0) ∙ (ap (λ b. made i.client b r.cmd) (eqb-true r.request i.request name.1) ∙ ap (made i.client i.request) cmd)))

  found-input : (seen : Seen C O) (r : RaftInput C) → HasInput seen r → list_any (puts_in t r) seen ≡ true
  found-input [] r has = absurd has
  found-input (item.Output n o ∷ rest) r has = found-input rest r has
  found-input (item.Input n i ∷ rest) r (inl same) =
      let puts : puts_in {O = O} t r (item.Input n i) ≡ true =
      ap (λ (j : RaftInput C). puts_in {O = O} t r (item.Input n j)) same
      ∙ and_from (is_named r.client r.request r) (is_text (t r.cmd) (t r.cmd)) (and_from (r.client == r.client) (r.request == r.request) (itself r.client) (itself r.request)) (same-text (t r.cmd) (t r.cmd) refl) in
      rw puts refl
  found-input (item.Input n i ∷ rest) r (inr later) = or-true (puts_in {O = O} t r (item.Input n i)) (list_any (puts_in t r) rest) (found-input rest r later) where
    or-true : (a b : Bool) → b ≡ true → (a || b) ≡ true
    or-true true b e = refl
    or-true false b e = e

  -- the first part: each request once, and put in
  module _ (seen : Seen C O) (spelled : Each (IsSpelledItem IsC IsO) seen) where
    among-other : (xs ys : List (RaftInput C)) (a r : RaftInput C) → is_among (xs ++ a ∷ ys) r.client r.request ≡ false → AreOther a r
    among-other [] ys a r e = (or-false (is_named r.client r.request a) (list_any (is_named r.client r.request) ys) e).0
    among-other (x ∷ xs) ys a r e = among-other xs ys a r (or-false (is_named r.client r.request x) (is_among (xs ++ a ∷ ys) r.client r.request) e).1

    each-other : (xs ys : List (RaftInput C)) (a : RaftInput C) (rest : List (RaftInput C)) → NoneWrong (is_unrequested t seen) (xs ++ a ∷ ys) rest → Each (AreOther a) rest
    each-other xs ys a [] none = tt
    each-other xs ys a (r ∷ rest) none = (
      among-other xs ys a r (or-false (is_among (xs ++ a ∷ ys) r.client r.request) (not (list_any (puts_in t r) seen)) none.0).0,
      each-other xs (ys ++ r ∷ []) a rest (subst (λ zs. NoneWrong (is_unrequested t seen) zs rest) (append_assoc xs (a ∷ ys) (r ∷ [])) none.1),
    )

    distinct-of : (before order : List (RaftInput C)) → NoneWrong (is_unrequested t seen) before order → AreDistinct order
    distinct-of before [] none = tt
    distinct-of before (a ∷ rest) none = (each-other before [] a rest none.1, distinct-of (before ++ a ∷ []) rest none.1)

    put-in-of : (before order : List (RaftInput C)) → Each (λ r. IsC r.cmd) order → NoneWrong (is_unrequested t seen) before order → Each (HasInput seen) order
    put-in-of before [] is none = tt
    put-in-of before (r ∷ rest) is none = (
      input-of seen r spelled is.0 (not-false (list_any (puts_in t r) seen) (or-false (is_among before r.client r.request) (not (list_any (puts_in t r) seen)) none.0).1),
      put-in-of (before ++ r ∷ []) rest is.1 none.1,
    )

    none-unrequested : (before order : List (RaftInput C)) → AreDistinct (before ++ order) → Each (HasInput seen) order → NoneWrong (is_unrequested t seen) before order
    none-unrequested before [] distinct has = tt
    none-unrequested before (r ∷ rest) distinct has = (
      or-from (is_among before r.client r.request) (not (list_any (puts_in t r) seen)) (distinct-among t seen before r rest distinct) (ap not (found-input seen r has.0)),
      none-unrequested (before ++ r ∷ []) rest (subst AreDistinct (sym (append_assoc before (r ∷ []) rest)) distinct) has.1,
    )

  -- the second part: each output is the machine's
  beside-spelled : (c q : ℕ) (order : List (RaftInput C)) (os : List O) (p : O) → Each IsO os → beside c q (zip order os) ≡ Some p → IsO p
  beside-spelled c q [] os p is e = cc
  beside-spelled c q (r ∷ rs) [] p is e = cc
  beside-spelled c q (r ∷ rs) (o ∷ os) p is e = by (beside-spelled c q rs os p is.1) (is_named c q r) e where
    by : (beside c q (zip rs os) ≡ Some p → IsO p) → (b : Bool) → cond b (Some o) (beside c q (zip rs os)) ≡ Some p → IsO p
    by behind true e = let same : o ≡ p = cc in subst IsO same is.0
    by behind false e = behind e

  beside-among : (c q : ℕ) (order : List (RaftInput C)) (os : List O) (p : O) → beside c q (zip order os) ≡ Some p → is_among order c q ≡ true
  beside-among c q [] os p e = cc
  beside-among c q (r ∷ rs) [] p e = cc
  beside-among c q (r ∷ rs) (o ∷ os) p e = by (beside-among c q rs os p) (is_named c q r) e where
    by : (beside c q (zip rs os) ≡ Some p → is_among rs c q ≡ true) → (b : Bool) → cond b (Some o) (beside c q (zip rs os)) ≡ Some p → (b || is_among rs c q) ≡ true
    by behind true e = refl
    by behind false e = behind e

  other-output : (w : Option O) (o : O) → ((p : O) → w ≡ Some p → IsO p) → IsO o → is_other_output u w o ≡ false → w ≡ Some o
  other-output None o is so e = cc
  other-output (Some p) o is so e = ap Some (apart-out p o (is p refl) so (text-same (u p) (u o) (not-false (is_text (u p) (u o)) e)))

  same-output : (w : Option O) (o : O) → w ≡ Some o → is_other_output u w o ≡ false
  same-output w o e = rw e (ap not (same-text (u o) (u o) refl))

  module _ (order : List (RaftInput C)) (os : List O) (outs : Each IsO os) where
    outputs-of : (p q seen : Seen C O) → Each (IsSpelledItem IsC IsO) seen → NoneWrong (λ before x after. is_unexplained u (zip order os) x) q seen → Each (λ x. beside x.client x.request (zip order os) ≡ Some x.output) (told_since p seen)
    outputs-of p q [] spelled none = tt
    outputs-of p q (item.Input n i ∷ rest) spelled none = outputs-of (p ++ item.Input n i ∷ []) (q ++ item.Input n i ∷ []) rest spelled.1 none.1
    outputs-of p q (item.Output n (told.Reply c r o) ∷ rest) spelled none = (
      other-output (beside c r (zip order os)) o (λ w e. beside-spelled c r order os w outs e) spelled.0 none.0,
      outputs-of (p ++ item.Output n (told.Reply c r o) ∷ []) (q ++ item.Output n (told.Reply c r o) ∷ []) rest spelled.1 none.1,
    )
    outputs-of p q (item.Output n (told.NotLeader c r) ∷ rest) spelled none = outputs-of (p ++ item.Output n (told.NotLeader c r) ∷ []) (q ++ item.Output n (told.NotLeader c r) ∷ []) rest spelled.1 none.1
    outputs-of p q (item.Output n (told.Full c r) ∷ rest) spelled none = outputs-of (p ++ item.Output n (told.Full c r) ∷ []) (q ++ item.Output n (told.Full c r) ∷ []) rest spelled.1 none.1

    none-unexplained : (p q seen : Seen C O) → Each (λ x. beside x.client x.request (zip order os) ≡ Some x.output) (told_since p seen) → NoneWrong (λ before x after. is_unexplained u (zip order os) x) q seen
    none-unexplained p q [] right = tt
    none-unexplained p q (item.Input n i ∷ rest) right = (refl, none-unexplained (p ++ item.Input n i ∷ []) (q ++ item.Input n i ∷ []) rest right)
    none-unexplained p q (item.Output n (told.Reply c r o) ∷ rest) right = (
      same-output (beside c r (zip order os)) o right.0,
      none-unexplained (p ++ item.Output n (told.Reply c r o) ∷ []) (q ++ item.Output n (told.Reply c r o) ∷ []) rest right.1,
    )
    none-unexplained p q (item.Output n (told.NotLeader c r) ∷ rest) right = (refl, none-unexplained (p ++ item.Output n (told.NotLeader c r) ∷ []) (q ++ item.Output n (told.NotLeader c r) ∷ []) rest right)
    none-unexplained p q (item.Output n (told.Full c r) ∷ rest) right = (refl, none-unexplained (p ++ item.Output n (told.Full c r) ∷ []) (q ++ item.Output n (told.Full c r) ∷ []) rest right)

  -- the third part: no request comes too late
  before-skips : (r : RaftInput C) (p xs : Seen C O) → list_any (puts_in t r) p ≡ false → before_input t r (p ++ xs) ≡ p ++ before_input t r xs
  before-skips r [] xs e = refl
  before-skips r (y ∷ ys) xs e =
      let both = or-false (puts_in t r y) (list_any (puts_in t r) ys) e in
      ap (λ b. cond b [] (y ∷ before_input t r (ys ++ xs))) both.0 ∙ ap (λ zs. y ∷ zs) (before-skips r ys xs both.1)

  module _ (all : Seen C O) where
    answered : (r : RaftInput C) (after : List (RaftInput C)) (p rest : Seen C O) (n : ℕ) (o : RaftOut O) → all ≡ p ++ item.Output n o ∷ rest → answers_one (r ∷ after) (item.Output n o) ≡ true
        → list_any (answers_one (r ∷ after)) (before_input t r all) ≡ false → list_any (puts_in t r) p ≡ true
    answered r after p rest n o whole is none = by (list_any (puts_in t r) p) refl where
      by : (b : Bool) → list_any (puts_in t r) p ≡ b → b ≡ true
      by true s = refl
      by false s =
          let A : Item (RaftInput C) (RaftOut O) → Bool = answers_one (r ∷ after) in
          let seen : before_input t r all ≡ p ++ item.Output n o ∷ before_input t r rest = ap (before_input t r) whole ∙ before-skips r p (item.Output n o ∷ rest) s in
          let parts = or-false (list_any A p) (A (item.Output n o) || list_any A (before_input t r rest)) (sym (list_any-append A p (item.Output n o ∷ before_input t r rest)) ∙ (ap (list_any A) (sym seen) ∙ none)) in
          absurd (never (A (item.Output n o)) is (or-false (A (item.Output n o)) (list_any A (before_input t r rest)) parts.1).0)

    in-time-one : (before order : List (RaftInput C)) (p rest : Seen C O) (n c q : ℕ) (o : O) → all ≡ p ++ item.Output n (told.Reply c q o) ∷ rest → Each (IsSpelledItem IsC IsO) p → Each (λ r. IsC r.cmd) order
        → NoneWrong (is_late t all) before order → is_among order c q ≡ true → Each (HasInput p) (up_to c q order)
    in-time-one before [] p rest n c q o whole spelled is none among = cc
    in-time-one before (a ∷ rs) p rest n c q o whole spelled is none among =
        by (input-of p a spelled is.0 (answered a rs p rest n (told.Reply c q o) whole among none.0)) (in-time-one (before ++ a ∷ []) rs p rest n c q o whole spelled is.1 none.1) (is_named c q a) among where
          by : HasInput p a → (is_among rs c q ≡ true → Each (HasInput p) (up_to c q rs)) → (b : Bool) → (b || is_among rs c q) ≡ true → Each (HasInput p) (cond b (a ∷ []) (a ∷ up_to c q rs))
          by has later true e = (has, tt)
          by has later false e = (has, later e)

    push-spelled : (p : Seen C O) (x : Item (RaftInput C) (RaftOut O)) → Each (IsSpelledItem IsC IsO) p → IsSpelledItem IsC IsO x → Each (IsSpelledItem IsC IsO) (p ++ x ∷ [])
    push-spelled [] x each one = (one, tt)
    push-spelled (y ∷ ys) x each one = (each.0, push-spelled ys x each.1 one)

    module _ (order : List (RaftInput C)) (is : Each (λ r. IsC r.cmd) order) (none : NoneWrong (is_late t all) [] order) where
      in-time-of : (p seen : Seen C O) → all ≡ p ++ seen → Each (IsSpelledItem IsC IsO) p → Each (IsSpelledItem IsC IsO) seen → Each (λ x. is_among order x.client x.request ≡ true) (told_since p seen)
          → Each (λ x. Each (HasInput x.before) (up_to x.client x.request order)) (told_since p seen)
      in-time-of p [] whole sp ss among = tt
      in-time-of p (item.Input n i ∷ rest) whole sp ss among = in-time-of (p ++ item.Input n i ∷ []) rest (whole ∙ sym (append_assoc p (item.Input n i ∷ []) rest)) (push-spelled p (item.Input n i) sp ss.0) ss.1 among
      in-time-of p (item.Output n (told.Reply c q o) ∷ rest) whole sp ss among = (
        in-time-one [] order p rest n c q o whole sp is none among.0,
        in-time-of (p ++ item.Output n (told.Reply c q o) ∷ []) rest (whole ∙ sym (append_assoc p (item.Output n (told.Reply c q o) ∷ []) rest)) (push-spelled p (item.Output n (told.Reply c q o)) sp ss.0) ss.1 among.1,
      )
      in-time-of p (item.Output n (told.NotLeader c q) ∷ rest) whole sp ss among = in-time-of (p ++ item.Output n (told.NotLeader c q) ∷ []) rest (whole ∙ sym (append_assoc p (item.Output n (told.NotLeader c q) ∷ []) rest)) (push-spelled p (item.Output n (told.NotLeader c q)) sp ss.0) ss.1 among
      in-time-of p (item.Output n (told.Full c q) ∷ rest) whole sp ss among = in-time-of (p ++ item.Output n (told.Full c q) ∷ []) rest (whole ∙ sym (append_assoc p (item.Output n (told.Full c q) ∷ []) rest)) (push-spelled p (item.Output n (told.Full c q)) sp ss.0) ss.1 among

  all-among : (order : List (RaftInput C)) (os : List O) (p seen : Seen C O) → Each (λ x. beside x.client x.request (zip order os) ≡ Some x.output) (told_since p seen) → Each (λ x. is_among order x.client x.request ≡ true) (told_since p seen)
  all-among order os p seen right = over (told_since p seen) right where
    over : (xs : List (Told C O)) → Each (λ x. beside x.client x.request (zip order os) ≡ Some x.output) xs → Each (λ x. is_among order x.client x.request ≡ true) xs
    over [] right = tt
    over (x ∷ xs) right = (beside-among x.client x.request order os x.output right.0, over xs right.1)

  -- a request that stands before the one that was answered was put in before
  reaches : (c q : ℕ) (P : RaftInput C → Type 0) (bs : List (RaftInput C)) (r : RaftInput C) (after : List (RaftInput C)) → is_among bs c q ≡ false → Each P (up_to c q (bs ++ r ∷ after)) → P r
  reaches c q P [] r after none each = by (is_named c q r) each where
    by : (b : Bool) → Each P (cond b (r ∷ []) (r ∷ up_to c q after)) → P r
    by true each = each.0
    by false each = each.0
  reaches c q P (b ∷ bs) r after none each =
      let both = or-false (is_named c q b) (is_among bs c q) none in
      reaches c q P bs r after both.1 (split both.0 each) where
        split : is_named c q b ≡ false → Each P (cond (is_named c q b) (b ∷ []) (b ∷ up_to c q (bs ++ r ∷ after))) → Each P (up_to c q (bs ++ r ∷ after))
        split e each = (subst (λ (w : Bool). Each P (cond w (b ∷ []) (b ∷ up_to c q (bs ++ r ∷ after)))) e each).1

  each-behind : (P : RaftInput C → Type 0) (bs zs : List (RaftInput C)) → Each P (bs ++ zs) → Each P zs
  each-behind P [] zs each = each
  each-behind P (b ∷ bs) zs each = each-behind P bs zs each.1

  among-before : (c q : ℕ) (bs zs : List (RaftInput C)) → AreDistinct (bs ++ zs) → is_among zs c q ≡ true → is_among bs c q ≡ false
  among-before c q [] zs distinct among = refl
  among-before c q (b ∷ bs) zs distinct among = or-from (is_named c q b) (is_among bs c q) (by (is_named c q b) refl) (among-before c q bs zs distinct.1 among) where
    by : (w : Bool) → is_named c q b ≡ w → w ≡ false
    by false e = refl
    by true e = absurd (never (is_among zs c q) among (unnamed-any c q 0 zs (each-behind (λ r. is_named c q r ≡ false) bs zs (others-unnamed c q b (bs ++ zs) distinct.0 e))))

  module _ (before : List (RaftInput C)) (r : RaftInput C) (after : List (RaftInput C)) (distinct : AreDistinct (before ++ r ∷ after)) where
    one-more : (p : Seen C O) (x : Item (RaftInput C) (RaftOut O)) → list_any (puts_in t r) p ≡ false → puts_in t r x ≡ false → list_any (puts_in t r) (p ++ x ∷ []) ≡ false
    one-more p x none puts = list_any-append (puts_in t r) p (x ∷ []) ∙ or-from (list_any (puts_in t r) p) (puts_in t r x || false) none (or-from (puts_in t r x) false puts refl)

    not-answered : (p : Seen C O) (c q : ℕ) → list_any (puts_in t r) p ≡ false → Each (HasInput p) (up_to c q (before ++ r ∷ after)) → is_among (r ∷ after) c q ≡ false
    not-answered p c q none has = by (is_among (r ∷ after) c q) refl where
      by : (w : Bool) → is_among (r ∷ after) c q ≡ w → w ≡ false
      by false e = refl
      by true e = absurd (never (list_any (puts_in t r) p) (found-input p r (reaches c q (HasInput p) before r after (among-before c q before (r ∷ after) distinct e) has)) none)

    not-late : (p seen : Seen C O) → list_any (puts_in t r) p ≡ false → Each (λ x. Each (HasInput x.before) (up_to x.client x.request (before ++ r ∷ after))) (told_since p seen)
        → list_any (answers_one (r ∷ after)) (before_input t r seen) ≡ false
    not-late p [] none in_time = refl
    not-late p (item.Input n i ∷ rest) none in_time = by (puts_in {O = O} t r (item.Input n i)) refl (not-late (p ++ item.Input n i ∷ []) rest) where
      by : (w : Bool) → puts_in {O = O} t r (item.Input n i) ≡ w
          → (list_any (puts_in t r) (p ++ item.Input n i ∷ []) ≡ false → Each (λ x. Each (HasInput x.before) (up_to x.client x.request (before ++ r ∷ after))) (told_since (p ++ item.Input n i ∷ []) rest) → list_any (answers_one (r ∷ after)) (before_input t r rest) ≡ false)
          → list_any (answers_one (r ∷ after)) (cond w [] (item.Input n i ∷ before_input t r rest)) ≡ false
      by true e later = refl
      by false e later = later (one-more p (item.Input n i) none e) in_time
    not-late p (item.Output n (told.Reply c q o) ∷ rest) none in_time =
        or-from (is_among (r ∷ after) c q) (list_any (answers_one (r ∷ after)) (before_input t r rest)) (not-answered p c q none in_time.0)
        (not-late (p ++ item.Output n (told.Reply c q o) ∷ []) rest (one-more p (item.Output n (told.Reply c q o)) none refl) in_time.1)
    not-late p (item.Output n (told.NotLeader c q) ∷ rest) none in_time = not-late (p ++ item.Output n (told.NotLeader c q) ∷ []) rest (one-more p (item.Output n (told.NotLeader c q)) none refl) in_time
    not-late p (item.Output n (told.Full c q) ∷ rest) none in_time = not-late (p ++ item.Output n (told.Full c q) ∷ []) rest (one-more p (item.Output n (told.Full c q)) none refl) in_time

  none-late : (all : Seen C O) (before order : List (RaftInput C)) → AreDistinct (before ++ order) → AreInTime (before ++ order) all → NoneWrong (is_late t all) before order
  none-late all before [] distinct in_time = tt
  none-late all before (r ∷ after) distinct in_time = (
    not-late before r after distinct [] all refl in_time,
    none-late all (before ++ r ∷ []) after (subst AreDistinct (sym (append_assoc before (r ∷ []) after)) distinct) (subst (λ xs. AreInTime xs all) (sym (append_assoc before (r ∷ []) after)) in_time),
  )

module _ {S C O : Type 0} (IsC : C → Type 0) (IsO : O → Type 0) (t : C → List ℕ) (u : O → List ℕ)
    (apart : (a b : C) → IsC a → IsC b → t a ≡ t b → a ≡ b) (apart-out : (a b : O) → IsO a → IsO b → u a ≡ u b → a ≡ b)
    (m : MachineMeaning S C O) (c : ClusterClaim C O) (k : AreSpelled IsC IsO m c) where
  pub linear-of : cluster_verdict t u m c ≡ Yes → IsLinearizable m c.image c.trace
  linear-of e =
      let os = fold m (map (λ r. r.cmd) c.image) in
      let parts = all-true 1 2 3 (image_line c) item_line (image_line c) (first_wrong (is_unrequested t c.trace) [] c.image) (first_wrong (λ before x after. is_unexplained u (with_outputs m c.image) x) [] c.trace) (first_wrong (is_late t c.trace) [] c.image) e in
      let first = none-first (is_unrequested t c.trace) [] c.image parts.0 in
      let second = none-first (λ before x after. is_unexplained u (with_outputs m c.image) x) [] c.trace parts.1 in
      let third = none-first (is_late t c.trace) [] c.image parts.2 in
      let right = outputs-of IsC IsO t u apart apart-out c.image os k.outputs [] [] c.trace k.trace second in
      record {
        requested = record {
          once = distinct-of IsC IsO t u apart apart-out c.trace k.trace [] c.image first;
          put_in = put-in-of IsC IsO t u apart apart-out c.trace k.trace [] c.image k.order first;
        };
        outputs = right;
        in_time = in-time-of IsC IsO t u apart apart-out c.trace c.image k.order third [] c.trace refl tt k.trace (all-among IsC IsO t u apart apart-out c.image os [] c.trace right);
      }

  pub yes-of : IsLinearizable m c.image c.trace → cluster_verdict t u m c ≡ Yes
  yes-of l =
      let os = fold m (map (λ r. r.cmd) c.image) in
      let first = first-none (is_unrequested t c.trace) [] c.image (none-unrequested IsC IsO t u apart apart-out c.trace k.trace [] c.image l.requested.once l.requested.put_in) in
      let second = first-none (λ before x after. is_unexplained u (with_outputs m c.image) x) [] c.trace (none-unexplained IsC IsO t u apart apart-out c.image os k.outputs [] [] c.trace l.outputs) in
      let third = first-none (is_late t c.trace) [] c.image (none-late IsC IsO t u apart apart-out c.trace [] c.image l.requested.once l.in_time) in
      rw (first, second, third) refl
