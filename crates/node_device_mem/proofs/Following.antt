-- Clock values, and acts between them.
use Rattle.std.proofs.Common.{◌≡◌, Bool, true, false, Some, None, OnSome, option_map, flat_map, cond, get_or, drop-cons, ℕ, zero, suc, ◌+◌, ◌-◌, ◌<◌, ◌≤◌, List, [], ◌∷◌, ◌++◌, length, take, drop, refl, sym, ap, ◌∙◌, append_assoc, arith, add-one}
use Rattle.std.proofs.lemmas.List.{drop_all}
use Rattle.disk.specs.Acts.{Act, Now}
use Rattle.disk.specs.Images.{Trail, follow, followed}
use Rattle.node_device_mem.specs.Histories.{act_of, clock_value, nows_from, acts_of, all_acts}
use Rattle.node_device_mem.specs.declared.past.Past.{Past}

-- one value more
pub nows_grow : (clock : List ℕ) (from n : ℕ) → nows_from clock from (n + 1) ≡ nows_from clock from n ++ Now (clock_value clock (from + n)) ∷ []
nows_grow clock from n = rw add-one (go from n)
  where
    go : (from n : ℕ) → nows_from clock from (suc n) ≡ nows_from clock from n ++ Now (clock_value clock (from + n)) ∷ []
    go from zero = let e : from + 0 ≡ from = omega arith in rw e refl
    go from (suc n) = let e : from + suc n ≡ suc from + n = omega arith in rw e (ap (λ r. Now (clock_value clock from) ∷ r) (go (suc from) n))

-- clock values change no area
quiet_front : (trail : Trail) (clock : List ℕ) (from n k : ℕ) (more : List Act) → k ≤ n → followed trail (take k (nows_from clock from n ++ more)) ≡ trail
quiet_front trail clock from n zero more h = refl
quiet_front trail clock from zero (suc k) more h = absurd (omega arith)
quiet_front trail clock from (suc n) (suc k) more h = quiet_front trail clock (suc from) n k more (omega arith)

past_front : (trail : Trail) (clock : List ℕ) (from n k : ℕ) (act : Act) (more : List Act) → n < k →
    followed trail (take k (nows_from clock from n ++ (act ∷ more))) ≡ followed (follow act trail) (take (k - (n + 1)) more)
past_front trail clock from n zero act more h = absurd (omega arith)
past_front trail clock from zero (suc k) act more h = let e : suc k - (0 + 1) ≡ k = omega arith in rw e refl
past_front trail clock from (suc n) (suc k) act more h =
    let e : suc k - (suc n + 1) ≡ k - (n + 1) = omega arith in
    rw e (past_front trail clock (suc from) n k act more (omega arith))

-- all acts, the first apart
pub parted : (clock : List ℕ) (past : Past) (pasts : List Past) (from nows : ℕ) →
    all_acts clock (past ∷ pasts) from nows ≡ nows_from clock past.from past.nows ++ (act_of past.act ∷ all_acts clock pasts from nows)
parted clock past pasts from nows =
    append_assoc (acts_of clock past) (flat_map (acts_of clock) pasts) (nows_from clock from nows)
    ∙ append_assoc (nows_from clock past.from past.nows) (act_of past.act ∷ []) (all_acts clock pasts from nows)

opened_at : (pasts : List Past) (i : ℕ) (past : Past) → past ≡ get_or pasts i past → i < length pasts → drop i pasts ≡ past ∷ drop (i + 1) pasts
opened_at pasts i past e h = rw add-one (drop-cons pasts i past h ∙ ap (λ p. p ∷ drop (suc i) pasts) (sym e))

parted_at : (clock : List ℕ) (pasts : List Past) (i : ℕ) (past : Past) (from nows : ℕ) → past ≡ get_or pasts i past → i < length pasts →
    all_acts clock (drop i pasts) from nows ≡ nows_from clock past.from past.nows ++ (act_of past.act ∷ all_acts clock (drop (i + 1) pasts) from nows)
parted_at clock pasts i past from nows e h =
    ap (λ ps. all_acts clock ps from nows) (opened_at pasts i past e h) ∙ parted clock past (drop (i + 1) pasts) from nows

pub stops_at : (trail : Trail) (clock : List ℕ) (pasts : List Past) (i : ℕ) (past : Past) (from nows k : ℕ) → past ≡ get_or pasts i past →
    i < length pasts → k ≤ past.nows → followed trail (take k (all_acts clock (drop i pasts) from nows)) ≡ trail
stops_at trail clock pasts i past from nows k e h l =
    ap (λ acts. followed trail (take k acts)) (parted_at clock pasts i past from nows e h)
    ∙ quiet_front trail clock past.from past.nows k (act_of past.act ∷ all_acts clock (drop (i + 1) pasts) from nows) l

pub goes_on : (trail : Trail) (clock : List ℕ) (pasts : List Past) (i : ℕ) (past : Past) (from nows k : ℕ) → past ≡ get_or pasts i past →
    i < length pasts → past.nows < k →
    followed trail (take k (all_acts clock (drop i pasts) from nows))
    ≡ followed (follow (act_of past.act) trail) (take (k - (past.nows + 1)) (all_acts clock (drop (i + 1) pasts) from nows))
goes_on trail clock pasts i past from nows k e h l =
    ap (λ acts. followed trail (take k acts)) (parted_at clock pasts i past from nows e h)
    ∙ past_front trail clock past.from past.nows k (act_of past.act) (all_acts clock (drop (i + 1) pasts) from nows) l

-- only clock values are left
ends_quietly : (trail : Trail) (clock : List ℕ) (from nows k : ℕ) → followed trail (take k (nows_from clock from nows)) ≡ trail
ends_quietly trail clock from nows zero = refl
ends_quietly trail clock from zero (suc k) = refl
ends_quietly trail clock from (suc n) (suc k) = ends_quietly trail clock (suc from) n k

pub ends_at : (trail : Trail) (clock : List ℕ) (pasts : List Past) (i from nows k : ℕ) → length pasts ≤ i →
    followed trail (take k (all_acts clock (drop i pasts) from nows)) ≡ trail
ends_at trail clock pasts i from nows k h =
    ap (λ ps. followed trail (take k (all_acts clock ps from nows))) (drop_all i pasts h) ∙ ends_quietly trail clock from nows k

-- a value more in the record
pub now_more : (is_full : Bool) (clock : List ℕ) (pasts : List Past) (from nows value : ℕ) → value ≡ clock_value clock (from + nows) →
    OnSome (cond is_full None (Some (all_acts clock pasts from (nows + 1))))
    (cond is_full None (Some (all_acts clock pasts from (nows + 1)))
    ≡ option_map (λ acts. acts ++ Now value ∷ []) (cond is_full None (Some (all_acts clock pasts from nows))))
now_more true clock pasts from nows value e = tt
now_more false clock pasts from nows value e =
    ap Some (ap (λ acts. flat_map (acts_of clock) pasts ++ acts) (nows_grow clock from nows)
    ∙ (ap (λ v. flat_map (acts_of clock) pasts ++ (nows_from clock from nows ++ Now v ∷ [])) (sym e)
    ∙ sym (append_assoc (flat_map (acts_of clock) pasts) (nows_from clock from nows) (Now value ∷ []))))
