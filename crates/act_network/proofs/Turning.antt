-- Turns that begin, count and are cut off.
use Rattle.std.proofs.Common.{◌≡◌, ℕ, suc, ◌+◌, ◌≤◌, true, List, [], ◌∷◌, ◌++◌, length, Some, None, refl, ap, sym, subst, ◌∙◌, arith, inl, inr, length-append}
use Rattle.std.proofs.lemmas.List.{append-nil}
use Rattle.std.specs.Prelude.{nat_lt}
use Rattle.std.proofs.lemmas.Bool.{eq-eqb, ne_eqb}
use Rattle.std.proofs.lemmas.Bool.Decides.{eqb_tells}
use Rattle.handler_trait.specs.Handling.{Meaning, Effect, Recovery}
use Rattle.vst_base.specs.declared.step.Step.TheVariants as step
use Rattle.vst_base.specs.declared.step.Item.{Item}
use Rattle.net_semantics.specs.Worlds.{World, Packet, put, sent_by}
use Rattle.net_semantics.specs.Steps.{crashed}
use Rattle.act_network.specs.Disks.{Disks, DiskLaws, did}
use Rattle.act_network.specs.ActWorlds.{Cause, Flying, ActWorld, step_of, input_of}
use Rattle.act_network.specs.Listing.{items_with, whole}
use Rattle.act_network.specs.ActSteps.{counting, counts, going, listing, stopped}
use Rattle.act_network.proofs.Theres.{weaker}
use Rattle.act_network.proofs.Items.{whole-append}
use Rattle.act_network.proofs.Failing.{Ready, Fires, RunIs, consumed, eventful, fires-event, fires-crash, goes}
use Rattle.act_network.proofs.Following.{Owner, AreCarried, AreDue, IsMade, NodeAt, Others, Follows, claim, claim_of, going-claims, going-does, node-on, each-node, onward-event, owned}
use Rattle.act_network.proofs.Counting.{carried-on, consumed-length, copy-there, due-sent, is-made, owned-after}

pub did-append : {K D A X : Type 0} (d : Disks K D A X) (xs ys : List A) (disk : D) → did d (xs ++ ys) disk ≡ did d ys (did d xs disk)
did-append d [] ys disk = refl
did-append d (x ∷ xs) ys disk = did-append d xs ys (d.does x disk)

pub weaker-claims : {M : Type 0} (aps : List (Flying M)) (fps : List (Packet M)) (owner : ℕ → Owner) (old now : ℕ → ℕ → ℕ) → AreCarried aps fps owner old →
    ((i k : ℕ) → now i k ≤ old i k) → AreCarried aps fps owner now
weaker-claims aps fps owner old now h less j p there =
    let b = h j p there in
    let l = less p.packet.destination p.number in
    record { made = b.made; there = weaker b.there (p.packet.copies + now p.packet.destination p.number) (omega (arith, l)) }

module _ {S K I O M D A X : Type 0} (m : Meaning S I O M) (r : Recovery S K) (d : Disks K D A X) (CanSave : ℕ → K → K → Type 0) (laws : DiskLaws d CanSave) where
  -- a world of whole events that the network allows follows this one
  pub record Reached (w : ActWorld S I O M D A X) : Type 0 where
    pub fail : World S K M
    pub owner : ℕ → Owner
    pub run : RunIs m r w.image fail (whole w.listed)
    pub follows : Follows m r d CanSave laws w fail owner

  -- an event may count at node n
  pub record Pends (w : ActWorld S I O M D A X) (f : World S K M) (owner : ℕ → Owner) (n : ℕ) (c : Cause I) (e : Effect S O M) : Type 0 where
    pub run : RunIs m r w.image f (whole w.listed)
    pub others : Others m r d CanSave laws n w f owner
    pub carried : AreCarried w.packets f.packets owner (put (λ i k. claim (w.turn i) k) n (claim_of c))
    pub sent : w.sent ≡ length f.packets
    pub down_is : w.down n ≡ None
    pub up_is : f.is_up n ≡ true
    pub state_is : f.state n ≡ w.state n
    pub ready : Ready m r w.packets f.packets n (w.state n) c e

  -- what holds once it counts, but for the node itself
  pub record Counted (w : ActWorld S I O M D A X) (f : World S K M) (owner : ℕ → Owner) (n : ℕ) : Type 0 where
    pub run : RunIs m r w.image f (whole w.listed)
    pub others : Others m r d CanSave laws n w f owner
    pub carried : AreCarried w.packets f.packets owner (λ i k. claim (w.turn i) k)
    pub sent : w.sent ≡ length f.packets

  module _ (w : ActWorld S I O M D A X) (f : World S K M) (owner : ℕ → Owner) (n : ℕ) (c : Cause I) (e : Effect S O M) (disk : D) (p : Pends w f owner n c e) where
    abbrev old : ℕ → ℕ → ℕ
    old i k = claim (w.turn i) k

    made : IsMade owner c
    made = is-made m r w.packets f.packets owner old n c (w.state n) e p.ready p.carried

    fires : Fires m r f (step_of n c) (eventful f n c e) (items_with n (input_of c) e.outputs)
    fires = fires-event m r c w.packets n e p.up_is p.state_is p.ready (copy-there m r w.packets f.packets owner old n c (w.state n) e p.ready p.carried)

    now-less : (i k : ℕ) → claim (put w.turn n (going (counting w c e)) i) k ≤ put old n (λ _. 0) i k
    now-less i k = elim (eqb_tells i n) [
      | inl t ↦ rw (t.0) (let z = going-claims m r d CanSave laws c e e.sends e.outputs (length w.listed) w.sent k in omega (arith, z))
      | inr t ↦ rw (t.0) (omega arith)
    ]

    others-on : Others m r d CanSave laws n (counts w n c e disk) (eventful f n c e) (owned owner (length f.packets) n)
    others-on i ne =
        let t = ne_eqb i n ne in
        rw t (node-on m r d CanSave laws (onward-event m r d CanSave laws w.packets f.packets owner n (sent_by n e.sends) c made i) (w.down i) (w.turn i) (w.state i) (w.disk i) (f.is_up i) (f.state i) (f.kept i) (p.others i ne))

    pub counted : Counted (counts w n c e disk) (eventful f n c e) (owned owner (length f.packets) n) n
    counted = record {
      run = subst (λ (xs : List (Item I O)). RunIs m r (w.image ++ step_of n c ∷ []) (eventful f n c e) xs) (sym (whole-append w.listed (listing n c e))) (goes m r p.run fires);
      others = others-on;
      carried = carried-on m r w.packets f.packets owner old n c (w.state n) e p.ready p.carried (sent_by n e.sends) (λ i k. claim (put w.turn n (going (counting w c e)) i) k) now-less;
      sent = size;
    }
      where
        sent-length : (ss : List (ℕ × M)) → length (sent_by n ss) ≡ length ss
        sent-length [] = refl
        sent-length (s ∷ ss) = ap suc (sent-length ss)

        size : w.sent + length e.sends ≡ length (consumed c f.packets ++ sent_by n e.sends)
        size = omega (arith, length-append (consumed c f.packets) (sent_by n e.sends), consumed-length c f.packets, sent-length e.sends, p.sent)

    pub counts-reached : laws.Holds n (r.keep e.state) disk → Reached (counts w n c e disk)
    counts-reached holds =
        let k = counted in
        record {
          fail = eventful f n c e;
          owner = owned owner (length f.packets) n;
          run = k.run;
          follows = record {
            node = each-node m r d CanSave laws (counts w n c e disk) (eventful f n c e) (owned owner (length f.packets) n) n k.others mine;
            carried = k.carried;
            sent = k.sent;
          };
        }
      where
        number-is : length (consumed c f.packets) ≡ w.sent
        number-is = consumed-length c f.packets ∙ sym p.sent

        due : AreDue (consumed c f.packets ++ sent_by n e.sends) (owned owner (length f.packets) n) n w.sent e.sends
        due = subst (λ (k : ℕ). AreDue (consumed c f.packets ++ sent_by n e.sends) (owned owner (length f.packets) n) n k e.sends) number-is
            (due-sent (owned owner (length f.packets) n) n (consumed c f.packets) e.sends (λ k le. owned-after owner (length f.packets) n k (omega (arith, le, consumed-length c f.packets))))

        mine : NodeAt m r d CanSave laws (counts w n c e disk) (eventful f n c e) (owned owner (length f.packets) n) n
        mine =
            let t = eq-eqb n n refl in
            rw (p.down_is, t) (record {
              up_is = p.up_is;
              state_is = refl;
              does = going-does m r d CanSave laws w.packets (consumed c f.packets ++ sent_by n e.sends) (owned owner (length f.packets) n) n e.state disk c e e.sends e.outputs (length w.listed) w.sent holds due;
            })

  -- a node stops, and its areas open as what it keeps
  pub stop-reached : (w : ActWorld S I O M D A X) (f : World S K M) (owner : ℕ → Owner) (n : ℕ) (left : X) → Counted w f owner n → nat_lt n m.nodes ≡ true →
      f.is_up n ≡ true → f.state n ≡ w.state n → d.opens n left ≡ Some (r.keep (f.state n)) → Reached (stopped w n left)
  stop-reached w f owner n left k exists up same opens = record {
    fail = crashed r f n;
    owner = owner;
    run = subst (λ (xs : List (Item I O)). RunIs m r (w.image ++ step.Crash n ∷ []) (crashed r f n) xs) (append-nil (whole w.listed)) (goes m r k.run (fires-crash m r exists up));
    follows = record {
      node = each-node m r d CanSave laws (stopped w n left) (crashed r f n) owner n others-on mine;
      carried = weaker-claims w.packets f.packets owner (λ i j. claim (w.turn i) j) (λ i j. claim (put w.turn n None i) j) k.carried less;
      sent = k.sent;
    };
  }
    where
      others-on : Others m r d CanSave laws n (stopped w n left) (crashed r f n) owner
      others-on i ne = let t = ne_eqb i n ne in rw t (k.others i ne)

      mine : NodeAt m r d CanSave laws (stopped w n left) (crashed r f n) owner n
      mine = let t = eq-eqb n n refl in rw t (record { state_is = same; turn_is = refl; up_is = refl; found = r.keep (f.state n); opens = opens; kept_is = refl })

      less : (i j : ℕ) → claim (put w.turn n None i) j ≤ claim (w.turn i) j
      less i j = elim (eqb_tells i n) [ inl t ↦ rw (t.0) (omega arith) | inr t ↦ rw (t.0) (omega arith) ]
