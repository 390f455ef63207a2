-- Turns that begin and go on.
use Rattle.std.proofs.Common.{◌≡◌, ℕ, ◌≤◌, Bool, List, [], ◌∷◌, ◌++◌, Option, Some, None, refl, ap, sym, subst, ◌∙◌, arith, inl, inr, append_assoc}
use Rattle.std.proofs.lemmas.Bool.{eq-eqb, ne_eqb}
use Rattle.std.proofs.lemmas.Bool.Decides.{eqb_tells}
use Rattle.handler_trait.specs.Handling.{Meaning, Effect, Recovery}
use Rattle.vst_base.specs.declared.step.Item.{Item}
use Rattle.net_semantics.specs.Worlds.{World, Packet, put}
use Rattle.act_network.specs.Disks.{Disks, DiskLaws, Saves, did}
use Rattle.act_network.specs.ActWorlds.{Cause, Turn, Flying, ActWorld}
use Rattle.act_network.specs.ActSteps.{acts_on, begun, begun_with, counts, going, with_turn}
use Rattle.act_network.proofs.Items.{whole-moved}
use Rattle.act_network.proofs.Failing.{RunIs}
use Rattle.act_network.proofs.Following.{Owner, IsNode, IsUp, Does, IsSaving, IsSending, NodeAt, Others, Follows, claim, claim_of, going-claims, going-does, each-node}
use Rattle.act_network.proofs.Turning.{Reached, Pends, counts-reached, did-append, weaker-claims}

module _ {S K I O M D A X : Type 0} (m : Meaning S I O M) (r : Recovery S K) (d : Disks K D A X) (CanSave : ℕ → K → K → Type 0) (laws : DiskLaws d CanSave) where
  abbrev Claims : ActWorld S I O M D A X → ℕ → ℕ → ℕ
  Claims w i k = claim (w.turn i) k

  -- the tie at a node that is up
  pub at-up : {aps : List (Flying M)} {fps : List (Packet M)} {owner : ℕ → Owner} {n : ℕ} {t : Option (Turn S I O M A)} {s : S} {disk : D} {up : Bool} {state : S}
      (kept : Option K) (down : Option X) → down ≡ None → IsNode m r d CanSave laws aps fps owner n down t s disk up state kept → IsUp m r d CanSave laws aps fps owner n t s disk up state
  at-up kept None e h = h
  at-up kept (Some x) e h = cc

  pub at-idle : (aps : List (Flying M)) (fps : List (Packet M)) (owner : ℕ → Owner) (n : ℕ) {s : S} {disk : D} (t : Option (Turn S I O M A)) →
      t ≡ None → Does m r d CanSave laws aps fps owner n s disk t → laws.Holds n (r.keep s) disk
  at-idle aps fps owner n None e h = h
  at-idle aps fps owner n (Some t) e h = cc

  -- A turn begins.
  module _ (w : ActWorld S I O M D A X) (f : World S K M) (owner : ℕ → Owner) (n : ℕ) (c : Cause I) (e : Effect S O M) (p : Pends m r d CanSave laws w f owner n c e)
      (holds : laws.Holds n (r.keep (w.state n)) (w.disk n)) (can : CanSave n (r.keep (w.state n)) (r.keep e.state)) where
    saving : Saves d laws.Holds n (r.keep (w.state n)) (r.keep e.state) (w.disk n)
    saving = laws.saves n (r.keep (w.state n)) (r.keep e.state) (w.disk n) holds can

    begun-by : (acts : List A) → d.acts (w.disk n) (r.keep e.state) ≡ acts → Reached m r d CanSave laws (begun_with w n c e acts)
    begun-by [] is =
        counts-reached m r d CanSave laws w f owner n c e (w.disk n) p (subst (λ (k : K). laws.Holds n k (w.disk n)) (saving.nothing is) holds)
    begun-by (a ∷ more) is = record {
      fail = f;
      owner = owner;
      run = p.run;
      follows = record {
        node = each-node m r d CanSave laws (begun_with w n c e (a ∷ more)) f owner n others-on mine;
        carried = weaker-claims w.packets f.packets owner (put (Claims w) n (claim_of c)) (λ i j. claim (put w.turn n (Some turn) i) j) p.carried less;
        sent = p.sent;
      };
    }
      where
        turn : Turn S I O M A
        turn = record { cause = c; effect = e; acts = a ∷ more; sends = e.sends; outputs = e.outputs; place = 0; number = 0 }

        others-on : Others m r d CanSave laws n (with_turn w n (w.disk n) (Some turn)) f owner
        others-on i ne = let t = ne_eqb i n ne in rw t (p.others i ne)

        mine : NodeAt m r d CanSave laws (with_turn w n (w.disk n) (Some turn)) f owner n
        mine =
            let t = eq-eqb n n refl in
            rw (p.down_is, t) (record {
              up_is = p.up_is;
              state_is = p.state_is;
              does = record { base = w.disk n; early = []; holds = holds; can = can; acts_are = is; disk_is = refl; ready = p.ready };
            })

        less : (i j : ℕ) → claim (put w.turn n (Some turn) i) j ≤ put (Claims w) n (claim_of c) i j
        less i j = elim (eqb_tells i n) [ inl t ↦ rw (t.0) (omega arith) | inr t ↦ rw (t.0) (omega arith) ]

    pub begun-reached : Reached m r d CanSave laws (begun m r d w n c e)
    begun-reached = begun-by (d.acts (w.disk n) (r.keep e.state)) refl

  -- A turn goes on.
  module _ (w : ActWorld S I O M D A X) (reached : Reached m r d CanSave laws w) (n : ℕ) (down : w.down n ≡ None) where
    abbrev f : World S K M
    f = reached.fail

    abbrev owner : ℕ → Owner
    owner = reached.owner

    abbrev fol : Follows m r d CanSave laws w reached.fail reached.owner
    fol = reached.follows

    pub up : IsUp m r d CanSave laws w.packets reached.fail.packets reached.owner n (w.turn n) (w.state n) (w.disk n) (reached.fail.is_up n) (reached.fail.state n)
    up = at-up (reached.fail.kept n) (w.down n) down (fol.node n)

    -- a turn in its acts on the areas may count
    module _ (t : Turn S I O M A) (turn : w.turn n ≡ Some t) (a : A) (more : List A) (acts : t.acts ≡ a ∷ more)
        (sv : IsSaving m r d CanSave laws w.packets reached.fail.packets n (w.state n) (w.disk n) t.cause t.effect (a ∷ more)) where
      claims-less : (i k : ℕ) → put (Claims w) n (claim_of t.cause) i k ≤ claim (w.turn i) k
      claims-less i k = elim (eqb_tells i n) [ inl e ↦ rw (e.0) (here e.1) | inr e ↦ rw (e.0) (omega arith) ]
        where
          here : i ≡ n → claim_of t.cause k ≤ claim (w.turn i) k
          here same = rw (same, turn, acts) (omega arith)

      pub pending : Pends m r d CanSave laws w reached.fail reached.owner n t.cause t.effect
      pending = record {
        run = reached.run;
        others = λ i ne. fol.node i;
        carried = weaker-claims w.packets reached.fail.packets reached.owner (Claims w) (put (Claims w) n (claim_of t.cause)) fol.carried claims-less;
        sent = fol.sent;
        down_is = down;
        up_is = up.up_is;
        state_is = up.state_is;
        ready = sv.ready;
      }

      pub saved : Saves d laws.Holds n (r.keep (w.state n)) (r.keep t.effect.state) sv.base
      saved = laws.saves n (r.keep (w.state n)) (r.keep t.effect.state) sv.base sv.holds sv.can

    pub last-act : (t : Turn S I O M A) → w.turn n ≡ Some t → (a : A) → t.acts ≡ a ∷ [] →
        IsSaving m r d CanSave laws w.packets reached.fail.packets n (w.state n) (w.disk n) t.cause t.effect (a ∷ []) →
        Reached m r d CanSave laws (counts w n t.cause t.effect (d.learns (r.keep t.effect.state) (d.does a (w.disk n))))
    last-act t turn a acts sv =
        let p = pending t turn a [] acts sv in
        let done = (saved t turn a [] acts sv).done in
        let made : did d (d.acts sv.base (r.keep t.effect.state)) sv.base ≡ d.does a (w.disk n) =
        ap (λ (xs : List A). did d xs sv.base) sv.acts_are ∙ (did-append d sv.early (a ∷ []) sv.base ∙ ap (λ (x : D). d.does a x) (sym sv.disk_is)) in
        counts-reached m r d CanSave laws w reached.fail reached.owner n t.cause t.effect (d.learns (r.keep t.effect.state) (d.does a (w.disk n))) p
        (subst (λ (x : D). laws.Holds n (r.keep t.effect.state) (d.learns (r.keep t.effect.state) x)) made done)

    -- a world that differs in the turn of this node alone, which claims no more
    pub turn-on : (disk : D) (u : Option (Turn S I O M A)) → Does m r d CanSave laws w.packets reached.fail.packets reached.owner n (w.state n) disk u →
        ((k : ℕ) → claim u k ≤ claim (w.turn n) k) → Reached m r d CanSave laws (with_turn w n disk u)
    turn-on disk u does less = record {
      fail = reached.fail;
      owner = reached.owner;
      run = reached.run;
      follows = record {
        node = each-node m r d CanSave laws (with_turn w n disk u) reached.fail reached.owner n others-on mine;
        carried = weaker-claims w.packets reached.fail.packets reached.owner (Claims w) (λ i k. claim (put w.turn n u i) k) fol.carried all-less;
        sent = fol.sent;
      };
    }
      where
        others-on : Others m r d CanSave laws n (with_turn w n disk u) reached.fail reached.owner
        others-on i ne = let t = ne_eqb i n ne in rw t (fol.node i)

        mine : NodeAt m r d CanSave laws (with_turn w n disk u) reached.fail reached.owner n
        mine = let t = eq-eqb n n refl in rw (down, t) (record { up_is = up.up_is; state_is = up.state_is; does = does })

        all-less : (i k : ℕ) → claim (put w.turn n u i) k ≤ claim (w.turn i) k
        all-less i k = elim (eqb_tells i n) [ inl e ↦ rw (e.0) (here e.1) | inr e ↦ rw (e.0) (omega arith) ]
          where
            here : i ≡ n → claim u k ≤ claim (w.turn i) k
            here same = rw same (less k)

    pub next-act : (t : Turn S I O M A) → w.turn n ≡ Some t → (a b : A) (more : List A) → t.acts ≡ a ∷ (b ∷ more) →
        IsSaving m r d CanSave laws w.packets reached.fail.packets n (w.state n) (w.disk n) t.cause t.effect (a ∷ (b ∷ more)) →
        Reached m r d CanSave laws (acts_on m r d w n t (a ∷ (b ∷ more)) t.sends t.outputs)
    next-act t turn a b more acts sv =
        turn-on (d.does a (w.disk n)) (Some (record { cause = t.cause; effect = t.effect; acts = b ∷ more; sends = t.sends; outputs = t.outputs; place = t.place; number = t.number }))
        (record {
          base = sv.base;
          early = sv.early ++ a ∷ [];
          holds = sv.holds;
          can = sv.can;
          acts_are = sv.acts_are ∙ sym (append_assoc sv.early (a ∷ []) (b ∷ more));
          disk_is = ap (λ (x : D). d.does a x) sv.disk_is ∙ sym (did-append d sv.early (a ∷ []) sv.base);
          ready = sv.ready;
        })
        (λ k. rw (turn, acts) (omega arith))

    pub next-output : (t : Turn S I O M A) → (o : O) (os : List O) → IsSending m r d CanSave laws reached.fail.packets reached.owner n (w.state n) (w.disk n) [] t.number →
        Reached m r d CanSave laws (acts_on m r d w n t [] [] (o ∷ os))
    next-output t o os sending =
        let u = going {M = M} {A = A} (record { cause = t.cause; effect = t.effect; acts = []; sends = []; outputs = os; place = t.place; number = t.number }) in
        let x = turn-on (w.disk n) u
        (going-does m r d CanSave laws w.packets reached.fail.packets reached.owner n (w.state n) (w.disk n) t.cause t.effect [] os t.place t.number sending.holds tt)
        (λ k. let z = going-claims m r d CanSave laws t.cause t.effect [] os t.place t.number k in omega (arith, z)) in
        record {
          fail = x.fail;
          owner = x.owner;
          run = subst (λ (ys : List (Item I O)). RunIs m r w.image x.fail ys) (sym (whole-moved t.place w.listed)) x.run;
          follows = record { node = x.follows.node; carried = x.follows.carried; sent = x.follows.sent };
        }
