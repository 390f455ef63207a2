-- What an `ActWorld` stands for, as a turn counts or goes on, and as a node stops or starts.
use Rattle.std.proofs.Common.{◌≡◌, ℕ, zero, suc, ◌+◌, List, [], ◌∷◌, ◌++◌, length, map, Option, Some, None, slice_get, refl, ap, sym, subst, ◌∙◌}
use Rattle.std.proofs.lemmas.List.{length-map}
use Rattle.std.proofs.lemmas.Option.{same_Some}
use Rattle.lists.specs.Places.{slice_get_last}
use Rattle.handler_trait.specs.Handling.{Effect}
use Rattle.vst_base.specs.declared.step.Step.{Step}
use Rattle.vst_base.specs.declared.step.Step.TheVariants as step
use Rattle.net_semantics.specs.Worlds.{change_at, put}
use Rattle.net_semantics.proofs.Places.{change_at-elsewhere}
use Rattle.act_network.specs.ActWorlds.{ActWorld, Came, Cause, Fired, Flying, Input, Listed, Turn, input_of, step_of}
use Rattle.act_network.specs.ActSteps as spec
use Rattle.act_network.specs.Listing.{move_one, moved}
use Rattle.act_world.specs.ActViews.{ActView, ShowsAct, ShowsFlight, seen_of}
use Rattle.act_world.specs.Nodes.{IsListed, ShowsSo, ShowsTurn}
use Rattle.act_world.specs.Notes.{counted, input_in, noted, output_sent, told}
use Rattle.act_world.specs.Turns.{going, telling}
use Rattle.act_world.specs.Views.{SeenTurn}
use Rattle.act_world.specs.declared.act_node.ActNode.{ActNode}
use Rattle.act_world.proofs.Ones.{OneAt, puts-put, puts-same}
use Rattle.act_world.proofs.Standing.{going-shown, nodes-on, stays-more, stays-same}

map-last : {P Q : Type 0} (f : P → Q) (xs : List P) (x : P) → map f (xs ++ x ∷ []) ≡ map f xs ++ f x ∷ []
map-last f [] x = refl
map-last f (y ∷ xs) x = ap (λ zs. f y ∷ zs) (map-last f xs x)

same-input : {I : Type 0} (n : ℕ) (c : Cause I) → input_in (step_of n c) ≡ input_of c
same-input n (Input i) = refl
same-input n Fired = refl
same-input n (Came k) = refl

abbrev nothing_sent : {I O : Type 0} → ℕ → Option I → SeenTurn I O
nothing_sent n i = record { node = n; input = i; sent = [] }

module _ {I O : Type 0} where
  same-told : (o : O) (os : List O) (l : Listed I O) → l.unsent ≡ o ∷ os → seen_of (moved l) ≡ told o (seen_of l)
  same-told o os l is = ap (λ xs. let s : SeenTurn I O = record { node = l.node; input = l.input; sent = move_one l.sent xs } in s) is

  -- where the next output of a listed turn is sent, it is seen
  map-moved : (o : O) (os : List O) (place : ℕ) (ls : List (Listed I O)) (l : Listed I O) → slice_get ls place ≡ Some l → l.unsent ≡ o ∷ os →
      map seen_of (change_at moved place ls) ≡ change_at (told o) place (map seen_of ls)
  map-moved o os place [] l is unsent = cc
  map-moved o os zero (x ∷ ls) l is unsent =
      let e : x ≡ l = same_Some x l is in ap (λ y. y ∷ map seen_of ls) (same-told o os x (ap (λ y. y.unsent) e ∙ unsent))
  map-moved o os (suc place) (x ∷ ls) l is unsent = ap (λ ys. seen_of x ∷ ys) (map-moved o os place ls l is unsent)

module _ {H S D I A O M X : Type 0} (v after : ActView H S D I A O M X) (w : ActWorld S I O M D A X) (sh : ShowsAct v w) where
  same-flights : after.flights ≡ v.flights → (k : ℕ) → ShowsFlight (slice_get after.flights k) (slice_get w.packets k)
  same-flights is k = subst (λ fs. ShowsFlight (slice_get fs k) (slice_get w.packets k)) (sym is) (sh.flights k)

  -- packets change, and what the network itself does is noted
  pub flying-shown : (ps : List (Flying M)) (image : List (Step I)) → after.nodes ≡ v.nodes → ((k : ℕ) → ShowsFlight (slice_get after.flights k) (slice_get ps k)) →
      after.notes.image ≡ image → after.notes.listed ≡ v.notes.listed → after.notes.sent ≡ v.notes.sent → ShowsAct after (spec.with_flying w ps image)
  flying-shown ps image nodes flights image_is listed sent = record {
    nodes = λ n node is. sh.nodes n node (ap (λ xs. slice_get xs n) (sym nodes) ∙ is);
    flights = flights;
    image = image_is;
    listed = listed ∙ sh.listed;
    sent = sent ∙ sh.sent;
  }

  module _ (n : ℕ) (node : ActNode S D I A O M X) (one : OneAt n v.nodes after.nodes node) where
    -- the turn of a node that is up goes on, or ends
    pub turn-shown : (dk : D) (t : Option (Turn S I O M A)) → node.disk ≡ dk → node.left ≡ None → w.down n ≡ None →
        ShowsTurn w.listed n node.state (w.state n) node.turn t → after.flights ≡ v.flights → after.notes ≡ v.notes → ShowsAct after (spec.with_turn w n dk t)
    turn-shown dk t disk left down shows flights notes = record {
      nodes = nodes-on v.nodes after.nodes w.listed w.listed w.state w.state w.disk (put w.disk n dk) w.turn (put w.turn n t) w.down w.down n node (w.state n) dk t None (record {
        one = one;
        state_is = puts-same n w.state (w.state n) refl;
        disk_is = puts-put n w.disk dk;
        turn_is = puts-put n w.turn t;
        down_is = puts-same n w.down None down;
        shows = subst (λ l. ShowsSo w.listed n node (w.state n) dk t l None) (sym left) (disk, shows);
        stays = stays-same n w.listed;
      }) sh.nodes;
      flights = same-flights flights;
      image = ap (λ x. x.image) notes ∙ sh.image;
      listed = ap (λ x. x.listed) notes ∙ sh.listed;
      sent = ap (λ x. x.sent) notes ∙ sh.sent;
    }

    -- a turn counts
    pub counts-shown : (c : Cause I) (e : Effect S O M) (dk : D) → node.state ≡ e.state → node.disk ≡ dk → node.left ≡ None → w.down n ≡ None →
        node.turn ≡ going (telling e.sends e.outputs (length v.notes.listed) v.notes.sent) → after.flights ≡ v.flights →
        after.notes ≡ counted v.notes n (step_of n c) (length e.sends) → ShowsAct after (spec.counts w n c e dk)
    counts-shown c e dk state disk left down turn_is flights notes =
        let l : Listed I O = spec.listing n c e in
        let place : length v.notes.listed ≡ length w.listed = ap length sh.listed ∙ length-map w.listed seen_of in
        let t : Turn S I O M A = spec.counting w c e in
        let shows : ShowsTurn (w.listed ++ l ∷ []) n node.state e.state (going (telling e.sends e.outputs (length v.notes.listed) v.notes.sent)) (spec.going t) =
        going-shown (w.listed ++ l ∷ []) n node.state e.state state (telling e.sends e.outputs (length v.notes.listed) v.notes.sent) t (record {
          saved = refl;
          sends = refl;
          outputs = refl;
          place = place;
          number = sh.sent;
          listed_is = record { entry = l; there = slice_get_last w.listed l (length w.listed) refl; node = refl; unsent = refl };
        }) in
        record {
          nodes = nodes-on v.nodes after.nodes w.listed (w.listed ++ l ∷ []) w.state (put w.state n e.state) w.disk (put w.disk n dk) w.turn (put w.turn n (spec.going t)) w.down w.down n node e.state dk (spec.going t) None (record {
            one = one;
            state_is = puts-put n w.state e.state;
            disk_is = puts-put n w.disk dk;
            turn_is = puts-put n w.turn (spec.going t);
            down_is = puts-same n w.down None down;
            shows = subst (λ x. ShowsSo (w.listed ++ l ∷ []) n node e.state dk (spec.going t) x None) (sym left)
                (disk, subst (λ o. ShowsTurn (w.listed ++ l ∷ []) n node.state e.state o (spec.going t)) (sym turn_is) shows);
            stays = stays-more n w.listed l;
          }) sh.nodes;
          flights = same-flights flights;
          image = ap (λ x. x.image) notes ∙ ap (λ xs. xs ++ step_of n c ∷ []) sh.image;
          listed = ap (λ x. x.listed) notes ∙ (ap (λ xs. xs ++ nothing_sent n (input_in (step_of n c)) ∷ []) sh.listed
              ∙ (ap (λ i. map seen_of w.listed ++ nothing_sent n i ∷ []) (same-input n c) ∙ sym (map-last seen_of w.listed l)));
          sent = ap (λ x. x.sent) notes ∙ ap (λ k. k + length e.sends) sh.sent;
        }

    -- the next output of a turn that counts is sent
    pub output-shown : (place : ℕ) (o : O) (os : List O) (t : Option (Turn S I O M A)) → node.disk ≡ w.disk n → node.left ≡ None → w.down n ≡ None →
        IsListed w.listed n place (o ∷ os) → ShowsTurn (change_at moved place w.listed) n node.state (w.state n) node.turn t → after.flights ≡ v.flights →
        after.notes ≡ output_sent v.notes place o → ShowsAct after (spec.with_listed (spec.with_turn w n (w.disk n) t) (change_at moved place w.listed))
    output-shown place o os t disk left down listed_is shows flights notes = record {
      nodes = nodes-on v.nodes after.nodes w.listed (change_at moved place w.listed) w.state w.state w.disk (put w.disk n (w.disk n)) w.turn (put w.turn n t) w.down w.down n node (w.state n) (w.disk n) t None (record {
        one = one;
        state_is = puts-same n w.state (w.state n) refl;
        disk_is = puts-put n w.disk (w.disk n);
        turn_is = puts-put n w.turn t;
        down_is = puts-same n w.down None down;
        shows = subst (λ l. ShowsSo (change_at moved place w.listed) n node (w.state n) (w.disk n) t l None) (sym left) (disk, shows);
        stays = λ j ne p outputs is. record {
          entry = is.entry;
          there = change_at-elsewhere moved w.listed place p (λ same. ne (sym is.node
              ∙ (ap (λ y. y.node) (same_Some is.entry listed_is.entry (sym is.there ∙ (ap (slice_get w.listed) same ∙ listed_is.there))) ∙ listed_is.node))) ∙ is.there;
          node = is.node;
          unsent = is.unsent;
        };
      }) sh.nodes;
      flights = same-flights flights;
      image = ap (λ x. x.image) notes ∙ sh.image;
      listed = ap (λ x. x.listed) notes ∙ (ap (change_at (told o) place) sh.listed ∙ sym (map-moved o os place w.listed listed_is.entry listed_is.there listed_is.unsent));
      sent = ap (λ x. x.sent) notes ∙ sh.sent;
    }

    -- a node stops
    pub stops-shown : (left : X) → node.left ≡ Some left → node.turn ≡ None → after.flights ≡ v.flights → after.notes ≡ noted v.notes (step.Crash n) →
        ShowsAct after (spec.stopped w n left)
    stops-shown left left_is none flights notes = record {
      nodes = nodes-on v.nodes after.nodes w.listed w.listed w.state w.state w.disk w.disk w.turn (put w.turn n None) w.down (put w.down n (Some left)) n node (w.state n) (w.disk n) None (Some left) (record {
        one = one;
        state_is = puts-same n w.state (w.state n) refl;
        disk_is = puts-same n w.disk (w.disk n) refl;
        turn_is = puts-put n w.turn None;
        down_is = puts-put n w.down (Some left);
        shows = subst (λ l. ShowsSo w.listed n node (w.state n) (w.disk n) None l (Some left)) (sym left_is) (refl, none, refl);
        stays = stays-same n w.listed;
      }) sh.nodes;
      flights = same-flights flights;
      image = ap (λ x. x.image) notes ∙ ap (λ xs. xs ++ step.Crash n ∷ []) sh.image;
      listed = ap (λ x. x.listed) notes ∙ sh.listed;
      sent = ap (λ x. x.sent) notes ∙ sh.sent;
    }

    -- a node starts again
    pub starts-shown : (s : S) (dk : D) → node.state ≡ s → node.disk ≡ dk → node.left ≡ None → node.turn ≡ None → w.turn n ≡ None → after.flights ≡ v.flights →
        after.notes ≡ noted v.notes (step.Reboot n) → ShowsAct after (spec.started w n s dk)
    starts-shown s dk state disk left none turn_is flights notes = record {
      nodes = nodes-on v.nodes after.nodes w.listed w.listed w.state (put w.state n s) w.disk (put w.disk n dk) w.turn w.turn w.down (put w.down n None) n node s dk None None (record {
        one = one;
        state_is = puts-put n w.state s;
        disk_is = puts-put n w.disk dk;
        turn_is = puts-same n w.turn None turn_is;
        down_is = puts-put n w.down None;
        shows = subst (λ l. ShowsSo w.listed n node s dk None l None) (sym left) (disk, subst (λ o. ShowsTurn w.listed n node.state s o None) (sym none) state);
        stays = stays-same n w.listed;
      }) sh.nodes;
      flights = same-flights flights;
      image = ap (λ x. x.image) notes ∙ ap (λ xs. xs ++ step.Reboot n ∷ []) sh.image;
      listed = ap (λ x. x.listed) notes ∙ sh.listed;
      sent = ap (λ x. x.sent) notes ∙ sh.sent;
    }
