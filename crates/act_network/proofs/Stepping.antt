-- Each step of single acts, and whole runs.
use Rattle.std.proofs.Common.{◌≡◌, ◌≢◌, ◌↔◌, ℕ, suc, ◌+◌, ◌-◌, ◌≤◌, true, List, [], ◌∷◌, ◌++◌, Option, Some, None, slice_get, refl, ap, sym, subst, ◌∙◌, arith, inl, inr}
use Rattle.std.proofs.lemmas.List.{append-nil}
use Rattle.std.specs.Prelude.{nat_lt}
use Rattle.std.proofs.lemmas.Bool.{cases_eq, eq-eqb, ne_eqb}
use Rattle.std.proofs.lemmas.Bool.Decides.{eqb_tells}
use Rattle.handler_trait.specs.Handling.{Meaning, Effect, Recovery}
use Rattle.vst_base.specs.declared.step.Step.TheVariants as step
use Rattle.vst_base.specs.declared.step.Item.{Item}
use Rattle.net_semantics.specs.Worlds.{World, Packet, put, change_at, one_less, one_more, first_world}
use Rattle.net_semantics.specs.Steps.{rebooted, with_packets}
use Rattle.net_semantics.proofs.Places.{change_at-there, change_at-elsewhere, length-change_at}
use Rattle.act_network.specs.declared.step.ActStep.{ActStep}
use Rattle.act_network.specs.declared.step.ActStep.TheVariants as act
use Rattle.act_network.specs.Disks.{Disks, DiskLaws, opens_new}
use Rattle.act_network.specs.ActWorlds.{Cause, Input, Fired, Came, Flying, ActWorld, first_act_world}
use Rattle.act_network.specs.Listing.{whole, shown, LeavesOut}
use Rattle.act_network.specs.ActRefusals.{act_refusal}
use Rattle.act_network.specs.ActSteps.{act_next, changed_copies, copied, begun, delivered, lost, restarted, started_as, with_flying}
use Rattle.act_network.specs.ActRuns.{AreTaken, KeepsTo, acts_from}
use Rattle.act_network.specs.ActLaws.{ActsAreEvents, DownNodesOpen, StatesAgree, StopsCountByState, IsRecoverable}
use Rattle.act_network.proofs.Refusing.{copies-there, is-none, not-false, not-refused, packet-there}
use Rattle.act_network.proofs.Theres.{There, weaker, elsewhere, get-changed, less-any, less-here, more-any, more-here}
use Rattle.act_network.proofs.Items.{leaves_out}
use Rattle.act_network.proofs.Failing.{Comes, Ready, RunIs, fires-dup, fires-lose, fires-reboot, goes}
use Rattle.act_network.proofs.Following.{IsNode, states-same, Owner, Made, Due, IsCarried, IsUp, IsDown, NodeAt, Others, Follows, Onward, claim, claim_of, node-on, each-node}
use Rattle.act_network.proofs.Turning.{Reached, Pends, weaker-claims}
use Rattle.act_network.proofs.Beginning.{at-idle, begun-reached, up}
use Rattle.act_network.proofs.Sending.{act-reached, counts-by-state, cut-reached}

module _ {S K I O M D A X : Type 0} (m : Meaning S I O M) (r : Recovery S K) (d : Disks K D A X) (CanSave : ℕ → K → K → Type 0) (laws : DiskLaws d CanSave) where
  abbrev Claims : ActWorld S I O M D A X → ℕ → ℕ → ℕ
  Claims w i k = claim (w.turn i) k

  -- numbers of packets tell them apart
  same-place : {fps : List (Packet M)} {owner : ℕ → Owner} {j k : ℕ} {p q : Flying M} {a b : ℕ} → IsCarried fps owner j p a → IsCarried fps owner k q b →
      j ≢ k → p.number ≢ q.number
  same-place {owner = owner} {j = j} {k = k} x y ne same =
      let both : Made j ≡ Made k = sym x.made ∙ (ap owner same ∙ y.made) in
      let e : j ≡ k = cc in
      ne e

  comes-changed : (aps : List (Flying M)) (f : Packet M → Packet M) → ((p : Packet M) → (f p).destination ≡ p.destination) → (k number n : ℕ) →
      Comes aps number n → Comes (change_at (changed_copies f) k aps) number n
  comes-changed aps f keeps k number n h = elim (cases_eq h.place k) [
    | inl same ↦ record {
      place = h.place;
      flying = changed_copies f h.flying;
      is = subst (λ (x : ℕ). slice_get (change_at (changed_copies f) x aps) h.place ≡ Some (changed_copies f h.flying)) same (change_at-there (changed_copies f) aps h.place h.flying h.is);
      number_is = h.number_is;
      goes = keeps h.flying.packet ∙ h.goes;
    }
    | inr ne ↦ record {
      place = h.place;
      flying = h.flying;
      is = change_at-elsewhere (changed_copies f) aps k h.place ne ∙ h.is;
      number_is = h.number_is;
      goes = h.goes;
    }
  ]

  module _ (w : ActWorld S I O M D A X) (reached : Reached m r d CanSave laws w) where
    abbrev fol : Follows m r d CanSave laws w reached.fail reached.owner
    fol = reached.follows

    module _ (k : ℕ) (p : Flying M) (there : slice_get w.packets k ≡ Some p) (copies : 1 ≤ p.packet.copies) where
      abbrev mine : IsCarried reached.fail.packets reached.owner k p (claim (w.turn p.packet.destination) p.number)
      mine = fol.carried k p there

      one : There reached.fail.packets p.number p.packet.source p.packet.destination p.packet.content 1
      one = weaker mine.there 1 (omega (arith, copies))

      is-mine : (j : ℕ) (y : Flying M) → j ≡ k → slice_get w.packets j ≡ Some y → y.number ≡ p.number
      is-mine j y same y_there =
          let both : Some y ≡ Some p = sym y_there ∙ (ap (λ (x : ℕ). slice_get w.packets x) same ∙ there) in
          let e : y ≡ p = cc in
          ap (λ (x : Flying M). x.number) e

      has-copies : (j : ℕ) (y : Flying M) → j ≡ k → slice_get w.packets j ≡ Some y → 1 ≤ y.packet.copies
      has-copies j y same y_there =
          let both : Some y ≡ Some p = sym y_there ∙ (ap (λ (x : ℕ). slice_get w.packets x) same ∙ there) in
          let e : y ≡ p = cc in
          let c : y.packet.copies ≡ p.packet.copies = ap (λ (x : Flying M). x.packet.copies) e in
          omega (arith, copies, c)

      -- what is still to be sent is another packet
      not-due : (i j : ℕ) → reached.owner j ≡ Due i → j ≢ p.number
      not-due i j due same = let clash : Due i ≡ Made k = sym due ∙ (ap reached.owner same ∙ mine.made) in cc

      -- a packet is copied
      dup-reached : Reached m r d CanSave laws (copied m r d w k (Some p))
      dup-reached = record {
        fail = with_packets reached.fail (change_at one_more p.number reached.fail.packets);
        owner = reached.owner;
        run = subst (λ (xs : List (Item I O)). RunIs m r (w.image ++ step.Dup p.number ∷ []) (with_packets reached.fail (change_at one_more p.number reached.fail.packets)) xs)
            (append-nil (whole w.listed)) (goes m r reached.run (fires-dup m r one));
        follows = record {
          node = λ i. node-on m r d CanSave laws (onward i) (w.down i) (w.turn i) (w.state i) (w.disk i) (reached.fail.is_up i) (reached.fail.state i) (reached.fail.kept i) (fol.node i);
          carried = λ j q q_there. elim (get-changed (changed_copies one_more) w.packets k j q q_there) [
            | inl h ↦ (let b = fol.carried j q h.1 in record { made = b.made; there = more-any p.number b.there })
            | inr h ↦ changed-carried j q h.0 h.1.0 h.1.1 h.1.2
          ];
          sent = fol.sent ∙ sym (length-change_at one_more reached.fail.packets p.number);
        };
      }
        where
          changed-carried : (j : ℕ) (q : Flying M) → j ≡ k → (y : Flying M) → slice_get w.packets j ≡ Some y → changed_copies one_more y ≡ q →
              IsCarried (change_at one_more p.number reached.fail.packets) reached.owner j q (claim (w.turn q.packet.destination) q.number)
          changed-carried j q same y y_there is =
              let number : y.number ≡ p.number = is-mine j y same y_there in
              let b = fol.carried j y y_there in
              subst (λ (x : Flying M). IsCarried (change_at one_more p.number reached.fail.packets) reached.owner j x (claim (w.turn x.packet.destination) x.number)) is (record {
                made = b.made;
                there = subst (λ (x : ℕ). There (change_at one_more x reached.fail.packets) y.number y.packet.source y.packet.destination y.packet.content (y.packet.copies + 1 + claim (w.turn y.packet.destination) y.number))
                    number (weaker (more-here b.there) (y.packet.copies + 1 + claim (w.turn y.packet.destination) y.number) (omega arith));
              })

          onward : (i : ℕ) → Onward m r d CanSave laws w.packets (change_at (changed_copies one_more) k w.packets) reached.fail.packets (change_at one_more p.number reached.fail.packets) reached.owner reached.owner i
          onward i = record {
            comes = λ number h. comes-changed w.packets one_more (λ x. refl) k number i h;
            there = λ j x y c h. more-any p.number h;
            due = λ j x h. record { due = h.due; there = more-any p.number h.there };
          }

      -- a copy of a packet is lost
      lose-reached : Reached m r d CanSave laws (lost m r d w k (Some p))
      lose-reached = record {
        fail = with_packets reached.fail (change_at one_less p.number reached.fail.packets);
        owner = reached.owner;
        run = subst (λ (xs : List (Item I O)). RunIs m r (w.image ++ step.Lose p.number ∷ []) (with_packets reached.fail (change_at one_less p.number reached.fail.packets)) xs)
            (append-nil (whole w.listed)) (goes m r reached.run (fires-lose m r one));
        follows = record {
          node = λ i. node-on m r d CanSave laws (onward i) (w.down i) (w.turn i) (w.state i) (w.disk i) (reached.fail.is_up i) (reached.fail.state i) (reached.fail.kept i) (fol.node i);
          carried = λ j q q_there. elim (get-changed (changed_copies one_less) w.packets k j q q_there) [
            | inl h ↦ other-carried j q h.0 h.1
            | inr h ↦ changed-carried j q h.0 h.1.0 h.1.1 h.1.2
          ];
          sent = fol.sent ∙ sym (length-change_at one_less reached.fail.packets p.number);
        };
      }
        where
          other-carried : (j : ℕ) (q : Flying M) → j ≢ k → slice_get w.packets j ≡ Some q →
              IsCarried (change_at one_less p.number reached.fail.packets) reached.owner j q (claim (w.turn q.packet.destination) q.number)
          other-carried j q ne q_there =
              let b = fol.carried j q q_there in
              record { made = b.made; there = elsewhere one_less p.number (same-place b mine ne) b.there }

          changed-carried : (j : ℕ) (q : Flying M) → j ≡ k → (y : Flying M) → slice_get w.packets j ≡ Some y → changed_copies one_less y ≡ q →
              IsCarried (change_at one_less p.number reached.fail.packets) reached.owner j q (claim (w.turn q.packet.destination) q.number)
          changed-carried j q same y y_there is =
              let number : y.number ≡ p.number = is-mine j y same y_there in
              let most : 1 ≤ y.packet.copies = has-copies j y same y_there in
              let b = fol.carried j y y_there in
              let had : There reached.fail.packets y.number y.packet.source y.packet.destination y.packet.content (suc (y.packet.copies - 1 + claim (w.turn y.packet.destination) y.number)) =
              weaker b.there (suc (y.packet.copies - 1 + claim (w.turn y.packet.destination) y.number)) (omega (arith, most)) in
              subst (λ (x : Flying M). IsCarried (change_at one_less p.number reached.fail.packets) reached.owner j x (claim (w.turn x.packet.destination) x.number)) is (record {
                made = b.made;
                there = subst (λ (x : ℕ). There (change_at one_less x reached.fail.packets) y.number y.packet.source y.packet.destination y.packet.content (y.packet.copies - 1 + claim (w.turn y.packet.destination) y.number))
                    number (less-here had);
              })

          onward : (i : ℕ) → Onward m r d CanSave laws w.packets (change_at (changed_copies one_less) k w.packets) reached.fail.packets (change_at one_less p.number reached.fail.packets) reached.owner reached.owner i
          onward i = record {
            comes = λ number h. comes-changed w.packets one_less (λ x. refl) k number i h;
            there = λ j x y c h. less-any p.number h;
            due = λ j x h. record { due = h.due; there = elsewhere one_less p.number (not-due i j h.due) h.there };
          }

      -- a copy of a packet is delivered
      module _ (down : w.down p.packet.destination ≡ None) (turn : w.turn p.packet.destination ≡ None) where
        abbrev to : ℕ
        to = p.packet.destination

        abbrev effect : Effect S O M
        effect = m.message p.packet.destination (w.state p.packet.destination) p.packet.source p.packet.content

        abbrev taken : ActWorld S I O M D A X
        taken = with_flying w (change_at (changed_copies one_less) k w.packets) w.image

        abbrev upper : IsUp m r d CanSave laws w.packets reached.fail.packets reached.owner p.packet.destination (w.turn p.packet.destination) (w.state p.packet.destination) (w.disk p.packet.destination) (reached.fail.is_up p.packet.destination) (reached.fail.state p.packet.destination)
        upper = up m r d CanSave laws w reached p.packet.destination down

        on-taken : (i : ℕ) → Onward m r d CanSave laws w.packets (change_at (changed_copies one_less) k w.packets) reached.fail.packets reached.fail.packets reached.owner reached.owner i
        on-taken i = record {
          comes = λ number h. comes-changed w.packets one_less (λ x. refl) k number i h;
          there = λ j x y c h. h;
          due = λ j x h. h;
        }

        -- the claims once the node has taken the copy
        claims-other : (i j : ℕ) → j ≢ p.number → put (Claims w) p.packet.destination (claim_of {I = I} (Came p.number)) i j ≤ claim (w.turn i) j
        claims-other i j ne = elim (eqb_tells i p.packet.destination) [
          | inl t ↦ (let z = ne_eqb p.number j (λ e. ne (sym e)) in rw (t.0, z) (omega arith))
          | inr t ↦ rw (t.0) (omega arith)
        ]

        claims-one : (i j : ℕ) → put (Claims w) p.packet.destination (claim_of {I = I} (Came p.number)) i j ≤ claim (w.turn i) j + 1
        claims-one i j = elim (eqb_tells i p.packet.destination) [
          | inl t ↦ rw (t.0) (at-most (claim (w.turn i) j) j)
          | inr t ↦ rw (t.0) (omega arith)
        ]
          where
            at-most : (x j : ℕ) → claim_of {I = I} (Came p.number) j ≤ x + 1
            at-most x j = elim (eqb_tells p.number j) [ inl t ↦ rw (t.0) (omega arith) | inr t ↦ rw (t.0) (omega arith) ]

        taken-other : (j : ℕ) (q : Flying M) → j ≢ k → slice_get w.packets j ≡ Some q →
            IsCarried reached.fail.packets reached.owner j q (put (Claims w) p.packet.destination (claim_of {I = I} (Came p.number)) q.packet.destination q.number)
        taken-other j q ne q_there =
            let b = fol.carried j q q_there in
            let l = claims-other q.packet.destination q.number (same-place b mine ne) in
            record { made = b.made; there = weaker b.there (q.packet.copies + put (Claims w) p.packet.destination (claim_of {I = I} (Came p.number)) q.packet.destination q.number) (omega (arith, l)) }

        taken-mine : (j : ℕ) (q : Flying M) → j ≡ k → (y : Flying M) → slice_get w.packets j ≡ Some y → changed_copies one_less y ≡ q →
            IsCarried reached.fail.packets reached.owner j q (put (Claims w) p.packet.destination (claim_of {I = I} (Came p.number)) q.packet.destination q.number)
        taken-mine j q same y y_there is =
            let most : 1 ≤ y.packet.copies = has-copies j y same y_there in
            let b = fol.carried j y y_there in
            let l = claims-one y.packet.destination y.number in
            subst (λ (x : Flying M). IsCarried reached.fail.packets reached.owner j x (put (Claims w) p.packet.destination (claim_of {I = I} (Came p.number)) x.packet.destination x.number)) is (record {
              made = b.made;
              there = weaker b.there (y.packet.copies - 1 + put (Claims w) p.packet.destination (claim_of {I = I} (Came p.number)) y.packet.destination y.number) (omega (arith, l, most));
            })

        pub pends : Pends m r d CanSave laws taken reached.fail reached.owner p.packet.destination (Came p.number) effect
        pends = record {
          run = reached.run;
          others = λ i ne. node-on m r d CanSave laws (on-taken i) (w.down i) (w.turn i) (w.state i) (w.disk i) (reached.fail.is_up i) (reached.fail.state i) (reached.fail.kept i) (fol.node i);
          carried = λ j q q_there. elim (get-changed (changed_copies one_less) w.packets k j q q_there) [
            | inl h ↦ taken-other j q h.0 h.1
            | inr h ↦ taken-mine j q h.0 h.1.0 h.1.1 h.1.2
          ];
          sent = fol.sent;
          down_is = down;
          up_is = upper.up_is;
          state_is = upper.state_is;
          ready = record {
            comes = comes-changed w.packets one_less (λ x. refl) k p.number p.packet.destination (record { place = k; flying = p; is = there; number_is = refl; goes = refl });
            source = p.packet.source;
            content = p.packet.content;
            there = weaker mine.there 0 (omega arith);
            effect_is = refl;
          };
        }

        deliver-reached : CanSave p.packet.destination (r.keep (w.state p.packet.destination)) (r.keep effect.state) → Reached m r d CanSave laws (delivered m r d w k (Some p))
        deliver-reached can =
            begun-reached m r d CanSave laws taken reached.fail reached.owner p.packet.destination (Came p.number) effect pends
            (at-idle m r d CanSave laws w.packets reached.fail.packets reached.owner p.packet.destination (w.turn p.packet.destination) turn upper.does) can

    -- a node takes an input, or its timer fires
    module _ (n : ℕ) (c : Cause I) (e : Effect S O M) (none_taken : (k : ℕ) → claim_of c k ≡ 0) (down : w.down n ≡ None) (turn : w.turn n ≡ None)
        (ready : Ready m r w.packets reached.fail.packets n (w.state n) c e) where
      at-node : IsUp m r d CanSave laws w.packets reached.fail.packets reached.owner n (w.turn n) (w.state n) (w.disk n) (reached.fail.is_up n) (reached.fail.state n)
      at-node = up m r d CanSave laws w reached n down

      claims-same : (i j : ℕ) → put (Claims w) n (claim_of c) i j ≤ claim (w.turn i) j
      claims-same i j = elim (eqb_tells i n) [ inl t ↦ rw (t.0) (let z = none_taken j in omega (arith, z)) | inr t ↦ rw (t.0) (omega arith) ]

      pub pends-at : Pends m r d CanSave laws w reached.fail reached.owner n c e
      pends-at = record {
        run = reached.run;
        others = λ i ne. fol.node i;
        carried = weaker-claims w.packets reached.fail.packets reached.owner (Claims w) (put (Claims w) n (claim_of c)) fol.carried claims-same;
        sent = fol.sent;
        down_is = down;
        up_is = at-node.up_is;
        state_is = at-node.state_is;
        ready = ready;
      }

      begin-reached : CanSave n (r.keep (w.state n)) (r.keep e.state) → Reached m r d CanSave laws (begun m r d w n c e)
      begin-reached can =
          begun-reached m r d CanSave laws w reached.fail reached.owner n c e pends-at
          (at-idle m r d CanSave laws w.packets reached.fail.packets reached.owner n (w.turn n) turn at-node.does) can

    -- a node starts again
    module _ (home : IsRecoverable m r d laws.Holds) (n : ℕ) (exists : nat_lt n m.nodes ≡ true) where
      start-reached : (left : X) → IsDown m r d CanSave laws w.packets reached.fail.packets reached.owner n left (w.turn n) (w.state n) (reached.fail.is_up n) (reached.fail.state n) (reached.fail.kept n) →
          (o : Option K) → d.opens n left ≡ o → Reached m r d CanSave laws (started_as m r d w n left o)
      start-reached left down None opens = reached
      start-reached left down (Some k) opens = record {
        fail = rebooted r reached.fail n (Some k);
        owner = reached.owner;
        run = subst (λ (xs : List (Item I O)). RunIs m r (w.image ++ step.Reboot n ∷ []) (rebooted r reached.fail n (Some k)) xs)
            (append-nil (whole w.listed)) (goes m r reached.run (fires-reboot m r exists down.up_is kept));
        follows = record {
          node = each-node m r d CanSave laws (started_as m r d w n left (Some k)) (rebooted r reached.fail n (Some k)) reached.owner n others-on starts;
          carried = fol.carried;
          sent = fol.sent;
        };
      }
        where
          kept : reached.fail.kept n ≡ Some k
          kept = down.kept_is ∙ (sym down.opens ∙ opens)

          others-on : Others m r d CanSave laws n (started_as m r d w n left (Some k)) (rebooted r reached.fail n (Some k)) reached.owner
          others-on i ne = let t = ne_eqb i n ne in rw t (fol.node i)

          holds : laws.Holds n (r.keep (r.reboot n k)) (d.reopened n left)
          holds = subst (λ (x : K). laws.Holds n x (d.reopened n left)) (sym (home.keeps n k)) (laws.reopens n k left opens)

          starts : NodeAt m r d CanSave laws (started_as m r d w n left (Some k)) (rebooted r reached.fail n (Some k)) reached.owner n
          starts = let t = eq-eqb n n refl in rw (t, down.turn_is) (record { up_is = refl; state_is = refl; does = holds })

      restart-reached : (o : Option X) → w.down n ≡ o → Reached m r d CanSave laws (restarted m r d w n o)
      restart-reached None down = reached
      restart-reached (Some left) down = start-reached left at-down (d.opens n left) refl
        where
          at-down : IsDown m r d CanSave laws w.packets reached.fail.packets reached.owner n left (w.turn n) (w.state n) (reached.fail.is_up n) (reached.fail.state n) (reached.fail.kept n)
          at-down = rw down at (fol.node n)

    -- any step
    pub step-reached : IsRecoverable m r d laws.Holds → (s : ActStep I X) → act_refusal m w s ≡ None → KeepsTo m r d CanSave w s → Reached m r d CanSave laws (act_next m r d w s)
    step-reached home (act.In n i) e can =
        let h = not-refused m w (act.In n i) e in
        begin-reached n (Input i) (m.input n (w.state n) i) (λ k. refl) (is-none (w.down n) (not-false _ h.up_is)) (is-none (w.turn n) (not-false _ h.idle))
        (record { exists = not-false _ h.exists; takes = not-false _ h.takes; effect_is = refl }) can.1
    step-reached home (act.Tick n) e can =
        let h = not-refused m w (act.Tick n) e in
        begin-reached n Fired (m.timeout n (w.state n)) (λ k. refl) (is-none (w.down n) (not-false _ h.up_is)) (is-none (w.turn n) (not-false _ h.idle))
        (record { exists = not-false _ h.exists; effect_is = refl }) can.1
    step-reached home (act.Act n) e can =
        let h = not-refused m w (act.Act n) e in
        act-reached m r d CanSave laws w reached n (is-none (w.down n) (not-false _ h.up_is)) (w.turn n) refl
    step-reached home (act.Stop n left) e may =
        let h = not-refused m w (act.Stop n left) e in
        cut-reached m r d CanSave laws w reached n (is-none (w.down n) (not-false _ h.up_is)) left (not-false _ h.exists) may.0 (w.turn n) refl
    step-reached home (act.Reboot n) e can =
        let h = not-refused m w (act.Reboot n) e in
        restart-reached home n (not-false _ h.exists) (w.down n) refl
    step-reached home (act.Dup k) e can =
        let h = not-refused m w (act.Dup k) e in
        let p = copies-there w.packets k h.copy in
        rw (p.1) (dup-reached k p.0 p.1 p.2)
    step-reached home (act.Lose k) e can =
        let h = not-refused m w (act.Lose k) e in
        let p = copies-there w.packets k h.copy in
        rw (p.1) (lose-reached k p.0 p.1 p.2)
    step-reached home (act.Deliver k) e can =
        let h = not-refused m w (act.Deliver k) e in
        let p = copies-there w.packets k h.copy in
        let is = p.1 in
        let flies = packet-there w.packets k p.0 is in
        let down = rw flies at h.up_is in
        let idle = rw flies at h.idle in
        let saves = can.1 in
        let may = rw is at saves in
        rw is (deliver-reached k p.0 p.1 p.2 (is-none (w.down p.0.packet.destination) (not-false _ down)) (is-none (w.turn p.0.packet.destination) (not-false _ idle)) may)

  pub run-reached : IsRecoverable m r d laws.Holds → (w : ActWorld S I O M D A X) → Reached m r d CanSave laws w → (ss : List (ActStep I X)) → AreTaken m r d CanSave w ss →
      Reached m r d CanSave laws (acts_from m r d w ss)
  run-reached home w reached [] h = reached
  run-reached home w reached (s ∷ ss) h = run-reached home (act_next m r d w s) (step-reached w reached home s h.0 h.1) ss h.2

  pub first-reached : IsRecoverable m r d laws.Holds → Reached m r d CanSave laws (first_act_world m d)
  first-reached home = record {
    fail = first_world m;
    owner = λ k. Made k;
    run = record { allowed = refl; run_is = refl; seen = refl };
    follows = record {
      node = λ n. record { up_is = refl; state_is = refl; does = home.fresh n };
      carried = λ k p there. cc;
      sent = refl;
    };
  }

pub acts_are_events : {K D A X : Type 0} (S I O M : Type 0) (d : Disks K D A X) (CanSave : ℕ → K → K → Type 0) (laws : DiskLaws d CanSave) →
    ActsAreEvents S I O M d laws.Holds CanSave
acts_are_events S I O M d CanSave laws m r home ss taken =
    let w = run-reached m r d CanSave laws home (first_act_world m d) (first-reached m r d CanSave laws home) ss taken in
    record {
      allowed = w.run.allowed;
      trace_is = w.run.seen;
      leaves_out = subst (λ xs. LeavesOut (shown (acts_from m r d (first_act_world m d) ss).listed) xs) (sym w.run.seen) (leaves_out (acts_from m r d (first_act_world m d) ss).listed);
    }

pub states_agree : {K D A X : Type 0} (S I O M : Type 0) (d : Disks K D A X) (CanSave : ℕ → K → K → Type 0) (laws : DiskLaws d CanSave) →
    StatesAgree S I O M d laws.Holds CanSave
states_agree {K = K} S I O M d CanSave laws m r home ss kept_to n =
    let w = run-reached m r d CanSave laws home (first_act_world m d) (first-reached m r d CanSave laws home) ss kept_to in
    ap (λ (f : World S K M). f.state n) w.run.run_is ∙ states-same m r d CanSave laws (acts_from m r d (first_act_world m d) ss) w.fail w.owner w.follows n

pub stops_count_by_state : {K D A X : Type 0} (S I O M : Type 0) (d : Disks K D A X) (CanSave : ℕ → K → K → Type 0) (laws : DiskLaws d CanSave) →
    StopsCountByState S I O M d laws.Holds CanSave
stops_count_by_state {D = D} {A = A} {X = X} S I O M d CanSave laws m r home ss kept_to n left t turn some may = by (w.down n) refl (reached.follows.node n)
  where
    w : ActWorld S I O M D A X
    w = acts_from m r d (first_act_world m d) ss

    reached : Reached m r d CanSave laws w
    reached = run-reached m r d CanSave laws home (first_act_world m d) (first-reached m r d CanSave laws home) ss kept_to

    by : (o : Option X) → w.down n ≡ o → IsNode m r d CanSave laws w.packets reached.fail.packets reached.owner n o (w.turn n) (w.state n) (w.disk n) (reached.fail.is_up n) (reached.fail.state n) (reached.fail.kept n) →
        (opens_new d n (w.disk n) left ≡ true) ↔ (d.opens n left ≡ Some (r.keep t.effect.state))
    by None none h = counts-by-state m r d CanSave laws w reached n none left t turn some may
    by (Some x) some h = let clash : Some t ≡ None = sym turn ∙ h.turn_is in cc

pub down_nodes_open : {K D A X : Type 0} (S I O M : Type 0) (d : Disks K D A X) (CanSave : ℕ → K → K → Type 0) (laws : DiskLaws d CanSave) →
    DownNodesOpen S I O M d laws.Holds CanSave
down_nodes_open S I O M d CanSave laws m r home ss taken n left down =
    let reached = run-reached m r d CanSave laws home (first_act_world m d) (first-reached m r d CanSave laws home) ss taken in
    let at-down = rw down at (reached.follows.node n) in
    (at-down.found, at-down.opens)
