-- Datagrams one after another, where they are told.
use Rattle.std.proofs.Common.{◌≡◌, ◌≤◌, ◌<◌, ◌+◌, ℕ, List, [], ◌∷◌, ◌++◌, length, take, drop, get_or, Option, Some, None, Result, Ok, Err, OnOk, OnErr, refl, sym, ap, subst, ◌∙◌, arith, append_assoc, append-nil, take-append-drop, ◌⊎◌, inl, inr}
use Rattle.std.specs.List.{flat_map}
use Rattle.std.proofs.lemmas.Grind.{flat_map-append}
use Rattle.std.proofs.lemmas.List.{take_all, take_more}
use Rattle.std.proofs.lemmas.Result.{on_err_weaker, on_ok_weaker}
use Rattle.disk.specs.Acts.{Act, Sent, SendFailed}
use Rattle.disk.specs.Disk.{Disk}
use Rattle.node_device.specs.Faults.{Faults, NoFewer, SendCounts}
use Rattle.node_device.specs.Outcomes.{Sends}
use Rattle.node_device.specs.Telling.{Told, told_after, Did, WhereTold}
use Rattle.node_device.specs.declared.device.Shipped.{Shipped}
use Rattle.node_device.specs.declared.device.Shipped.TheVariants as shipped
use Rattle.outside.specs.declared.device.Address.{Address}
use Rattle.slots.proofs.Elsewhere.{after_append}
use Rattle.slots.specs.Turns.{Says, datagrams}
use Rattle.node_datagrams.specs.Saying.{HasBegunToSay, HasSaid, SendsOnly}
use Rattle.lists.specs.Each.{each_append}
use Rattle.lists.specs.Prefixes.{prefix_behind, prefix_of}

abbrev Datagrams : Type 0
Datagrams = List (Address × List ℕ)

datagrams_append : (xs ys : List Act) → datagrams (xs ++ ys) ≡ datagrams xs ++ datagrams ys
datagrams_append [] ys = refl
datagrams_append (Sent to bytes ∷ xs) ys = ap (λ r. (to, bytes) ∷ r) (datagrams_append xs ys)
datagrams_append (SendFailed to bytes ∷ xs) ys = ap (λ r. (to, bytes) ∷ r) (datagrams_append xs ys)
datagrams_append (act ∷ xs) ys = datagrams_append xs ys

abbrev told_of : List Act → Disk → Told
told_of acts disk = record { acts = acts; disk = disk }

joined : {xs ys : List Act} {d e : Disk} → xs ≡ ys → d ≡ e → told_of xs d ≡ told_of ys e
joined p q = rw (p, q) refl

after_both : (t : Told) (xs ys : List Act) → told_after (told_after t xs) ys ≡ told_after t (xs ++ ys)
after_both t xs ys = joined (append_assoc t.acts xs ys) (sym (after_append t.disk xs ys))

after_both_is : (a b c : Told) (xs ys : List Act) → b ≡ told_after a xs → c ≡ told_after b ys → c ≡ told_after a (xs ++ ys)
after_both_is a b c xs ys p q = q ∙ (ap (λ t. told_after t ys) p ∙ after_both a xs ys)

said_first : (xs ys : List Act) (said : Datagrams) → datagrams xs ≡ said → datagrams (xs ++ ys) ≡ said ++ datagrams ys
said_first xs ys said e = datagrams_append xs ys ∙ ap (λ r. r ++ datagrams ys) e

both_said : (said more : Datagrams) (a b c : Told) → HasSaid said a b → HasSaid more b c → HasSaid (said ++ more) a c
both_said said more a b c h k = record {
  did = h.did ++ k.did;
  is = after_both_is a b c h.did k.did h.is k.is;
  says = each_append Says h.did k.did h.says k.says;
  datagrams = said_first h.did k.did said h.datagrams ∙ ap (λ r. said ++ r) k.datagrams;
}

-- the first of two lists, and a part of the second
said_and_begun : (said more : Datagrams) (a b c : Told) → HasSaid said a b → HasBegunToSay more b c → HasBegunToSay (said ++ more) a c
said_and_begun said more a b c h k =
    record {
      did = h.did ++ k.did;
      is = after_both_is a b c h.did k.did h.is k.is;
      says = each_append Says h.did k.did h.says k.says;
      datagrams = rw (said_first h.did k.did said h.datagrams) (prefix_behind said more k.datagrams);
    }

-- the first of two lists, and no more
begun_of_said : (said more : Datagrams) (a b : Told) → HasSaid said a b → HasBegunToSay (said ++ more) a b
begun_of_said said more a b h = record { did = h.did; is = h.is; says = h.says; datagrams = prefix_of _ more _ (ap (λ r. r ++ more) h.datagrams) }

where_each : (P Q : Told → Told → Type 0) → ((x y : Told) → P x y → Q x y) → (a b : Option Told) → WhereTold a b P → WhereTold a b Q
where_each P Q each None b h = h
where_each P Q each (Some x) None h = h
where_each P Q each (Some x) (Some y) h = each x y h

where_both : (P Q R : Told → Told → Type 0) → ((x y z : Told) → P x y → Q y z → R x z) → (a b c : Option Told) → WhereTold a b P → WhereTold b c Q → WhereTold a c R
where_both P Q R both None b c h k = subst (λ (o : Option Told). WhereTold o c Q) h k
where_both P Q R both (Some x) None c h k = absurd h
where_both P Q R both (Some x) (Some y) None h k = k
where_both P Q R both (Some x) (Some y) (Some z) h k = both x y z h k

says_both : (said more : Datagrams) (a b c : Option Told) → WhereTold a b (HasSaid said) → WhereTold b c (HasSaid more)
    → WhereTold a c (HasSaid (said ++ more))
says_both said more a b c h k = where_both (HasSaid said) (HasSaid more) (HasSaid (said ++ more)) (both_said said more) a b c h k

stops_late : (said more : Datagrams) (a b c : Option Told) → WhereTold a b (HasSaid said) → WhereTold b c (HasBegunToSay more)
    → WhereTold a c (HasBegunToSay (said ++ more))
stops_late said more a b c h k =
    where_both (HasSaid said) (HasBegunToSay more) (HasBegunToSay (said ++ more)) (said_and_begun said more) a b c h k

-- the second of two lists, where the first was said
pub says_next : {T E : Type 0} (r : Result T E) (said more : Datagrams) (a b c : Option Told) → WhereTold a b (HasSaid said)
    → OnOk r (WhereTold b c (HasSaid more)) → OnOk r (WhereTold a c (HasSaid (said ++ more)))
says_next r said more a b c h k = on_ok_weaker r (says_both said more a b c h) k

pub stops_next : {T E : Type 0} (r : Result T E) (said more : Datagrams) (a b c : Option Told) → WhereTold a b (HasSaid said)
    → OnErr r (WhereTold b c (HasBegunToSay more)) → OnErr r (WhereTold a c (HasBegunToSay (said ++ more)))
stops_next r said more a b c h k = on_err_weaker r (stops_late said more a b c h) k

stops_after : (said more : Datagrams) (a b : Option Told) → WhereTold a b (HasSaid said) → WhereTold a b (HasBegunToSay (said ++ more))
stops_after said more a b h = where_each (HasSaid said) (HasBegunToSay (said ++ more)) (begun_of_said said more) a b h

-- one act that sends
says_one : (a b : Option Told) (act : Act) (d : Address × List ℕ) → Says act → datagrams (act ∷ []) ≡ d ∷ [] → Did a b (act ∷ []) → WhereTold a b (HasSaid (d ∷ []))
says_one None b act d s e h = h
says_one (Some t) b act d s e h =
    subst (λ (o : Option Told). WhereTold (Some t) o (HasSaid (d ∷ []))) (sym h) (record { did = act ∷ []; is = refl; says = (s, tt); datagrams = e })

-- a send that was not for want of memory
pub says_it : (to : Address) (bytes : List ℕ) (a b : Option Told) (s : Shipped) → (s ≡ shipped.Sent) ⊎ (s ≡ shipped.Failed) → Sends to bytes a b s
    → WhereTold a b (HasSaid ((to, bytes) ∷ []))
says_it to bytes a b s (inl e) h = says_one a b (Sent to bytes) (to, bytes) tt refl (subst (λ (s : Shipped). Sends to bytes a b s) e h)
says_it to bytes a b s (inr e) h = says_one a b (SendFailed to bytes) (to, bytes) tt refl (subst (λ (s : Shipped). Sends to bytes a b s) e h)

-- what each of some items says, in a loop that has come to one of them
pub says_more : {T : Type 0} (one : T → Datagrams) (xs : List T) (i : ℕ) (x : T) (a b c : Option Told) → i < length xs → x ≡ get_or xs i x
    → WhereTold a b (HasSaid (flat_map one (take i xs))) → WhereTold b c (HasSaid (one x)) → WhereTold a c (HasSaid (flat_map one (take (i + 1) xs)))
says_more one xs i x a b c within is h k =
    let more : take (i + 1) xs ≡ take i xs ++ x ∷ [] = take_more xs i x within ∙ ap (λ y. take i xs ++ y ∷ []) (sym is) in
    let said : flat_map one (take (i + 1) xs) ≡ flat_map one (take i xs) ++ one x =
    ap (flat_map one) more ∙ flat_map-append one (take i xs) (x ∷ []) ∙ ap (λ end. flat_map one (take i xs) ++ end) (append-nil (one x)) in
    subst (λ (all : Datagrams). WhereTold a c (HasSaid all)) (sym said) (says_both (flat_map one (take i xs)) (one x) a b c h k)

-- and after the last of them
pub says_all : {T : Type 0} (one : T → Datagrams) (xs : List T) (i : ℕ) (a b : Option Told) → length xs ≤ i
    → WhereTold a b (HasSaid (flat_map one (take i xs))) → WhereTold a b (HasSaid (flat_map one xs))
says_all one xs i a b past h = subst (λ ys. WhereTold a b (HasSaid (flat_map one ys))) (take_all i xs past) h

-- and where it says no more
pub stops_there : {T : Type 0} (one : T → Datagrams) (xs : List T) (i : ℕ) (a b c : Option Told) → WhereTold a b (HasSaid (flat_map one (take i xs))) → c ≡ b
    → WhereTold a c (HasBegunToSay (flat_map one xs))
stops_there one xs i a b c h e =
    let all : flat_map one (take i xs) ++ flat_map one (drop i xs) ≡ flat_map one xs =
    sym (flat_map-append one (take i xs) (drop i xs)) ∙ ap (flat_map one) (take-append-drop i xs) in
    subst (λ (o : Option Told). WhereTold a o (HasBegunToSay (flat_map one xs))) (sym e)
    (subst (λ (all : Datagrams). WhereTold a b (HasBegunToSay all)) all (stops_after (flat_map one (take i xs)) (flat_map one (drop i xs)) a b h))

pub on_err : {T E : Type 0} (r : Result T E) (P : Type 0) → P → OnErr r P
on_err (Ok x) P p = tt
on_err (Err e) P p = p

pub counts_nothing : (f : Faults) → SendsOnly f f
counts_nothing f = record { begin = refl; receive = refl; store = refl; send = omega arith }

pub counts_both : (a b c : Faults) → SendsOnly a b → SendsOnly b c → SendsOnly a c
counts_both a b c h k = record {
  begin = k.begin ∙ h.begin;
  receive = k.receive ∙ h.receive;
  store = k.store ∙ h.store;
  send = omega (arith, h.send, k.send);
}

pub counts_send : (a b : Faults) (s : Shipped) → SendCounts a b s → NoFewer a b → SendsOnly a b
counts_send a b shipped.Sent e n = subst (λ (f : Faults). SendsOnly a f) (sym e) (counts_nothing a)
counts_send a b shipped.Failed e n =
    record { begin = ap (λ f. f.begin) e.1; receive = ap (λ f. f.receive) e.1; store = ap (λ f. f.store) e.1; send = n.send }
counts_send a b shipped.Memory e n = subst (λ (f : Faults). SendsOnly a f) (sym e) (counts_nothing a)
