-- Sends of a turn, and turns that go on or are cut off.
use Rattle.std.proofs.Common.{◌≡◌, ◌≢◌, ◌↔◌, ℕ, suc, ◌+◌, ◌<◌, ◌≤◌, Bool, true, false, List, [], ◌∷◌, ◌++◌, length, Option, Some, None, slice_get, refl, ap, sym, subst, ◌∙◌, arith, inl, inr, ◌⊎◌}
use Rattle.std.specs.Prelude.{nat_lt, cond}
use Rattle.std.proofs.lemmas.Bool.{eq-eqb, ne_eqb, false≢true}
use Rattle.std.proofs.lemmas.Bool.Decides.{eqb_tells}
use Rattle.handler_trait.specs.Handling.{Meaning, Effect, Recovery}
use Rattle.net_semantics.specs.Worlds.{World, Packet, put}
use Rattle.net_semantics.proofs.Places.{put-there, put-elsewhere}
use Rattle.act_network.specs.Disks.{Disks, DiskLaws, Saves, opens_new}
use Rattle.act_network.specs.ActWorlds.{Cause, Input, Fired, Came, Turn, Flying, ActWorld}
use Rattle.act_network.specs.ActSteps.{acted, acts_on, counts, cut_in, cut_off, going, sent_now, stopped}
use Rattle.lists.specs.Places.{slice_get_front}
use Rattle.act_network.proofs.Theres.{weaker, get-either}
use Rattle.act_network.proofs.Failing.{Comes, Ready}
use Rattle.act_network.proofs.Following.{Owner, Made, Due, AreCarried, IsCarried, AreDue, IsNode, IsUp, InTurn, Does, IsSaving, IsSending, NodeAt, Others, Follows, Onward, claim, claim_of, claim_in, going-claims, going-does, node-on, each-node}
use Rattle.act_network.proofs.Turning.{Reached, Counted, counted, stop-reached}
use Rattle.act_network.proofs.Beginning.{at-idle, last-act, next-act, next-output, pending, saved, up}

-- what comes later is still due
due-later : {M : Type 0} (fps : List (Packet M)) (owner : ℕ → Owner) (n number place k : ℕ) (ss : List (ℕ × M)) → number < k → AreDue fps owner n k ss →
    AreDue fps (put owner number (Made place)) n k ss
due-later fps owner n number place k [] lt h = tt
due-later fps owner n number place k (s ∷ ss) lt h = (
  record { due = put-elsewhere owner number (Made place) k (λ same. absurd (omega (arith, same, lt))) ∙ h.0.due; there = h.0.there },
  due-later fps owner n number place (suc k) ss (omega (arith, lt)) h.1,
)

-- the owners once a packet is made, and what is left of a turn then
abbrev made_by : (ℕ → Owner) → ℕ → ℕ → ℕ → Owner
made_by owner number place = put owner number (Made place)

abbrev left_of : {S I O M A : Type 0} → Turn S I O M A → List (ℕ × M) → List O → Option (Turn S I O M A)
left_of t ss os = going (record { cause = t.cause; effect = t.effect; acts = []; sends = ss; outputs = os; place = t.place; number = suc t.number })

module _ {S K I O M D A X : Type 0} (m : Meaning S I O M) (r : Recovery S K) (d : Disks K D A X) (CanSave : ℕ → K → K → Type 0) (laws : DiskLaws d CanSave) where
  module _ (w : ActWorld S I O M D A X) (f : World S K M) (owner : ℕ → Owner) (fol : Follows m r d CanSave laws w f owner) where
    -- no turn has taken a packet that is still to be sent
    claims-none : (n number i : ℕ) → owner number ≡ Due n → claim (w.turn i) number ≡ 0
    claims-none n number i due = by (w.down i) (w.turn i) (fol.node i)
      where
        by-cause : (c : Cause I) (e : Effect S O M) → Ready m r w.packets f.packets i (w.state i) c e → claim_of c number ≡ 0
        by-cause (Input x) e h = refl
        by-cause Fired e h = refl
        by-cause (Came j) e h = elim (eqb_tells j number) [
          | inl t ↦ (
              let made = (fol.carried h.comes.place h.comes.flying h.comes.is).made in
              let clash : Made h.comes.place ≡ Due n = sym made ∙ (ap owner h.comes.number_is ∙ (ap owner (t.1) ∙ due)) in
              cc)
          | inr t ↦ rw (t.0) refl
        ]

        by-turn : (t : Turn S I O M A) (acts : List A) → InTurn m r d CanSave laws w.packets f.packets owner i (w.state i) (w.disk i) t.cause t.effect acts t.sends t.number →
            claim_in acts t.cause number ≡ 0
        by-turn t [] h = refl
        by-turn t (a ∷ more) h = by-cause t.cause t.effect h.ready

        by-does : (o : Option (Turn S I O M A)) → Does m r d CanSave laws w.packets f.packets owner i (w.state i) (w.disk i) o → claim o number ≡ 0
        by-does None h = refl
        by-does (Some t) h = by-turn t t.acts h

        by : (down : Option X) (o : Option (Turn S I O M A)) → IsNode m r d CanSave laws w.packets f.packets owner i down o (w.state i) (w.disk i) (f.is_up i) (f.state i) (f.kept i) →
            claim o number ≡ 0
        by None o h = by-does o h.does
        by (Some x) o h = rw (h.turn_is) refl

  module _ (w : ActWorld S I O M D A X) (reached : Reached m r d CanSave laws w) (n : ℕ) (down : w.down n ≡ None) where
    abbrev fol : Follows m r d CanSave laws w reached.fail reached.owner
    fol = reached.follows

    abbrev upper : IsUp m r d CanSave laws w.packets reached.fail.packets reached.owner n (w.turn n) (w.state n) (w.disk n) (reached.fail.is_up n) (reached.fail.state n)
    upper = up m r d CanSave laws w reached n down

    -- the next send of a turn that counts
    next-send : (t : Turn S I O M A) (s : ℕ × M) (ss : List (ℕ × M)) (os : List O) →
        IsSending m r d CanSave laws reached.fail.packets reached.owner n (w.state n) (w.disk n) (s ∷ ss) t.number → Reached m r d CanSave laws (acts_on m r d w n t [] (s ∷ ss) os)
    next-send t s ss os sending = record {
      fail = reached.fail;
      owner = made_by reached.owner t.number (length w.packets);
      run = reached.run;
      follows = record {
        node = each-node m r d CanSave laws (acts_on m r d w n t [] (s ∷ ss) os) reached.fail (made_by reached.owner t.number (length w.packets)) n others-on mine;
        carried = carried-on;
        sent = fol.sent;
      };
    }
      where
        due-number : reached.owner t.number ≡ Due n
        due-number = sending.due.0.due

        comes-on : (i k : ℕ) → Comes w.packets k i → Comes (w.packets ++ sent_now n t.number s ∷ []) k i
        comes-on i k h = record {
          place = h.place;
          flying = h.flying;
          is = slice_get_front w.packets (sent_now n t.number s ∷ []) h.place h.flying h.is;
          number_is = h.number_is;
          goes = h.goes;
        }

        other-due : (i k : ℕ) → i ≢ n → reached.owner k ≡ Due i → k ≢ t.number
        other-due i k ne due same =
            let both : Due i ≡ Due n = sym due ∙ (ap reached.owner same ∙ due-number) in
            let clash : i ≡ n = cc in
            ne clash

        onward : (i : ℕ) → i ≢ n → Onward m r d CanSave laws w.packets (w.packets ++ sent_now n t.number s ∷ []) reached.fail.packets reached.fail.packets reached.owner (made_by reached.owner t.number (length w.packets)) i
        onward i ne = record {
          comes = comes-on i;
          there = λ k x y c h. h;
          due = λ k x h. record { due = put-elsewhere reached.owner t.number (Made (length w.packets)) k (other-due i k ne h.due) ∙ h.due; there = h.there };
        }

        others-on : Others m r d CanSave laws n (acts_on m r d w n t [] (s ∷ ss) os) reached.fail (made_by reached.owner t.number (length w.packets))
        others-on i ne =
            let e = ne_eqb i n ne in
            rw e (node-on m r d CanSave laws (onward i ne) (w.down i) (w.turn i) (w.state i) (w.disk i) (reached.fail.is_up i) (reached.fail.state i) (reached.fail.kept i) (fol.node i))

        mine : NodeAt m r d CanSave laws (acts_on m r d w n t [] (s ∷ ss) os) reached.fail (made_by reached.owner t.number (length w.packets)) n
        mine =
            let e = eq-eqb n n refl in
            rw (down, e) (record {
              up_is = upper.up_is;
              state_is = upper.state_is;
              does = going-does m r d CanSave laws (w.packets ++ sent_now n t.number s ∷ []) reached.fail.packets (made_by reached.owner t.number (length w.packets)) n (w.state n) (w.disk n) t.cause t.effect ss os t.place (suc t.number)
                  sending.holds (due-later reached.fail.packets reached.owner n t.number (length w.packets) (suc t.number) ss (omega arith) sending.due.1);
            })

        less : (i k : ℕ) → claim (put w.turn n (left_of t ss os) i) k ≤ claim (w.turn i) k
        less i k = elim (eqb_tells i n) [
          | inl e ↦ rw (e.0) (let z = going-claims m r d CanSave laws t.cause t.effect ss os t.place (suc t.number) k in omega (arith, z))
          | inr e ↦ rw (e.0) (omega arith)
        ]

        new-there : claim (put w.turn n (left_of t ss os) s.0) t.number ≡ 0
        new-there = let z = claims-none w reached.fail reached.owner reached.follows n t.number s.0 due-number in let l = less s.0 t.number in omega (arith, z, l)

        new-carried : (k : ℕ) → k ≡ length w.packets → IsCarried reached.fail.packets (made_by reached.owner t.number (length w.packets)) k (sent_now n t.number s) (claim (put w.turn n (left_of t ss os) s.0) t.number)
        new-carried k same = record {
          made = put-there reached.owner t.number (Made (length w.packets)) t.number refl ∙ ap (λ (x : ℕ). Made x) (sym same);
          there = weaker sending.due.0.there (1 + claim (put w.turn n (left_of t ss os) s.0) t.number) (omega (arith, new-there));
        }

        old-carried : (k : ℕ) (p : Flying M) → slice_get w.packets k ≡ Some p → IsCarried reached.fail.packets (made_by reached.owner t.number (length w.packets)) k p (claim (put w.turn n (left_of t ss os) p.packet.destination) p.number)
        old-carried k p there =
            let b = fol.carried k p there in
            let l = less p.packet.destination p.number in
            record {
              made = put-elsewhere reached.owner t.number (Made (length w.packets)) p.number (other b.made) ∙ b.made;
              there = weaker b.there (p.packet.copies + claim (put w.turn n (left_of t ss os) p.packet.destination) p.number) (omega (arith, l));
            }
          where
            other : reached.owner p.number ≡ Made k → p.number ≢ t.number
            other made same = let clash : Made k ≡ Due n = sym made ∙ (ap reached.owner same ∙ due-number) in cc

        carried-on : AreCarried (w.packets ++ sent_now n t.number s ∷ []) reached.fail.packets (made_by reached.owner t.number (length w.packets)) (λ i k. claim (put w.turn n (left_of t ss os) i) k)
        carried-on k p there = elim (get-either w.packets (sent_now n t.number s) k p there) [
          | inl h ↦ old-carried k p h
          | inr h ↦ subst (λ (q : Flying M). IsCarried reached.fail.packets (made_by reached.owner t.number (length w.packets)) k q (claim (put w.turn n (left_of t ss os) q.packet.destination) q.number)) (h.1) (new-carried k h.0)
        ]

    -- the next act of a turn
    pub act-reached : (o : Option (Turn S I O M A)) → w.turn n ≡ o → Reached m r d CanSave laws (acted m r d w n o)
    act-reached None turn = reached
    act-reached (Some t) turn = by-acts t.acts t.sends t.outputs refl refl refl in-turn
      where
        in-turn : InTurn m r d CanSave laws w.packets reached.fail.packets reached.owner n (w.state n) (w.disk n) t.cause t.effect t.acts t.sends t.number
        in-turn = rw turn at (upper.does)

        by-acts : (acts : List A) (ss : List (ℕ × M)) (os : List O) → t.acts ≡ acts → t.sends ≡ ss → t.outputs ≡ os →
            InTurn m r d CanSave laws w.packets reached.fail.packets reached.owner n (w.state n) (w.disk n) t.cause t.effect acts ss t.number →
            Reached m r d CanSave laws (acts_on m r d w n t acts ss os)
        by-acts (a ∷ []) ss os e1 e2 e3 h = last-act m r d CanSave laws w reached n down t turn a e1 h
        by-acts (a ∷ (b ∷ more)) ss os e1 e2 e3 h = next-act m r d CanSave laws w reached n down t turn a b more e1 h
        by-acts [] (s ∷ ss) os e1 e2 e3 h = next-send t s ss os h
        by-acts [] [] (o ∷ os) e1 e2 e3 h = next-output m r d CanSave laws w reached n down t o os h
        by-acts [] [] [] e1 e2 e3 h = reached

    -- what is left of the areas where a stop cuts a turn in its acts on them: the node tells which of the two states it is
    module _ (t : Turn S I O M A) (turn : w.turn n ≡ Some t) (a : A) (more : List A) (acts : t.acts ≡ a ∷ more)
        (h : IsSaving m r d CanSave laws w.packets reached.fail.packets n (w.state n) (w.disk n) t.cause t.effect (a ∷ more))
        (left : X) (may : d.may_leave (w.disk n) left ≡ true) where
      save : Saves d laws.Holds n (r.keep (w.state n)) (r.keep t.effect.state) h.base
      save = saved m r d CanSave laws w reached n down t turn a more acts h

      either : (d.opens n left ≡ Some (r.keep (w.state n))) ⊎ (d.opens n left ≡ Some (r.keep t.effect.state))
      either = save.each h.early (a ∷ more) left h.acts_are (ap (λ (x : D). d.may_leave x left) (sym h.disk_is) ∙ may)

      if-old : d.opens n left ≡ Some (r.keep (w.state n)) → opens_new d n (w.disk n) left ≡ false
      if-old opens =
          let held : d.is_held (w.disk n) (r.keep (w.state n)) ≡ true = ap (λ (x : D). d.is_held x (r.keep (w.state n))) h.disk_is ∙ save.tells_old h.early more a h.acts_are in
          rw (opens, held) refl

      pub if-new : d.opens n left ≡ Some (r.keep t.effect.state) → opens_new d n (w.disk n) left ≡ true
      if-new opens =
          let held : d.is_held (w.disk n) (r.keep t.effect.state) ≡ false = ap (λ (x : D). d.is_held x (r.keep t.effect.state)) h.disk_is ∙ save.tells_new h.early more a h.acts_are in
          rw (opens, held) refl

      pub is-new : opens_new d n (w.disk n) left ≡ true → d.opens n left ≡ Some (r.keep t.effect.state)
      is-new new = elim either [ inl opens ↦ absurd (false≢true (sym (if-old opens) ∙ new)) | inr opens ↦ opens ]

      is-old : opens_new d n (w.disk n) left ≡ false → d.opens n left ≡ Some (r.keep (w.state n))
      is-old old = elim either [ inl opens ↦ opens | inr opens ↦ absurd (false≢true (sym old ∙ if-new opens)) ]

    pub counts-by-state : (left : X) (t : Turn S I O M A) → w.turn n ≡ Some t → t.acts ≢ [] → d.may_leave (w.disk n) left ≡ true →
        (opens_new d n (w.disk n) left ≡ true) ↔ (d.opens n left ≡ Some (r.keep t.effect.state))
    counts-by-state left t turn some may = by t.acts refl in-turn
      where
        in-turn : InTurn m r d CanSave laws w.packets reached.fail.packets reached.owner n (w.state n) (w.disk n) t.cause t.effect t.acts t.sends t.number
        in-turn = rw turn at (upper.does)

        by : (acts : List A) → t.acts ≡ acts → InTurn m r d CanSave laws w.packets reached.fail.packets reached.owner n (w.state n) (w.disk n) t.cause t.effect acts t.sends t.number →
            (opens_new d n (w.disk n) left ≡ true) ↔ (d.opens n left ≡ Some (r.keep t.effect.state))
        by [] is h = absurd (some is)
        by (a ∷ more) is h = (is-new t turn a more is h left may, if-new t turn a more is h left may)

    -- a stop
    module _ (left : X) (exists : nat_lt n m.nodes ≡ true) (may : d.may_leave (w.disk n) left ≡ true) where
      now : Counted m r d CanSave laws w reached.fail reached.owner n
      now = record { run = reached.run; others = λ i ne. fol.node i; carried = fol.carried; sent = fol.sent }

      stop-as-held : d.opens n left ≡ Some (r.keep (w.state n)) → Reached m r d CanSave laws (stopped w n left)
      stop-as-held opens = stop-reached m r d CanSave laws w reached.fail reached.owner n left now exists upper.up_is upper.state_is (opens ∙ ap (λ (s : S). Some (r.keep s)) (sym upper.state_is))

      stop-at-rest : laws.Holds n (r.keep (w.state n)) (w.disk n) → Reached m r d CanSave laws (stopped w n left)
      stop-at-rest holds = stop-as-held (laws.rests n (r.keep (w.state n)) (w.disk n) left holds may)

      stop-as-new : (t : Turn S I O M A) → w.turn n ≡ Some t → (a : A) (more : List A) → t.acts ≡ a ∷ more →
          IsSaving m r d CanSave laws w.packets reached.fail.packets n (w.state n) (w.disk n) t.cause t.effect (a ∷ more) →
          d.opens n left ≡ Some (r.keep t.effect.state) → Reached m r d CanSave laws (stopped (counts w n t.cause t.effect (w.disk n)) n left)
      stop-as-new t turn a more acts sv opens =
          let p = pending m r d CanSave laws w reached n down t turn a more acts sv in
          let k = counted m r d CanSave laws w reached.fail reached.owner n t.cause t.effect (w.disk n) p in
          stop-reached m r d CanSave laws (counts w n t.cause t.effect (w.disk n)) _ _ n left k exists upper.up_is (put-there reached.fail.state n t.effect.state n refl ∙ sym (put-there w.state n t.effect.state n refl))
          (opens ∙ ap (λ (s : S). Some (r.keep s)) (sym (put-there reached.fail.state n t.effect.state n refl)))

      stop-in : (t : Turn S I O M A) → w.turn n ≡ Some t → (acts : List A) → t.acts ≡ acts →
          InTurn m r d CanSave laws w.packets reached.fail.packets reached.owner n (w.state n) (w.disk n) t.cause t.effect acts t.sends t.number →
          Reached m r d CanSave laws (cut_in m r d w n left t acts)
      stop-in t turn [] acts h = stop-at-rest h.holds
      stop-in t turn (a ∷ more) acts h = by (opens_new d n (w.disk n) left) refl
        where
          by : (b : Bool) → opens_new d n (w.disk n) left ≡ b →
              Reached m r d CanSave laws (cond b (stopped (counts w n t.cause t.effect (w.disk n)) n left) (stopped w n left))
          by true e = stop-as-new t turn a more acts h (is-new t turn a more acts h left may e)
          by false e = stop-as-held (is-old t turn a more acts h left may e)

      pub cut-reached : (o : Option (Turn S I O M A)) → w.turn n ≡ o → Reached m r d CanSave laws (cut_off m r d w n left o)
      cut-reached None turn = stop-at-rest (at-idle m r d CanSave laws w.packets reached.fail.packets reached.owner n (w.turn n) turn upper.does)
      cut-reached (Some t) turn = stop-in t turn t.acts refl (rw turn at (upper.does))
