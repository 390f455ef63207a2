-- How the nodes that are kept stand for a world's, as one of them changes.
use Rattle.std.proofs.Common.{◌≡◌, ◌≢◌, ℕ, List, [], ◌∷◌, ◌++◌, Option, Some, None, slice_get, refl, ap, sym, subst, ◌∙◌, inl, inr}
use Rattle.std.proofs.lemmas.Bool.{cases_eq}
use Rattle.std.proofs.lemmas.Option.{same_Some}
use Rattle.lists.specs.Places.{slice_get_front}
use Rattle.act_network.specs.ActWorlds.{Listed, Turn}
use Rattle.act_network.specs.ActSteps as spec
use Rattle.act_world.specs.ActViews.{ShowsNodes}
use Rattle.act_world.specs.Nodes.{IsListed, ShowsNode, ShowsSaving, ShowsSo, ShowsTelling, ShowsTurn}
use Rattle.act_world.specs.Turns.{going, going_on}
use Rattle.act_world.specs.Views.{SavingView, TellingView}
use Rattle.act_world.specs.declared.act_node.ActNode.{ActNode}
use Rattle.act_world.specs.declared.turn.Turn.TheVariants as turn
use Rattle.act_world.specs.declared.turn.Turn as code
use Rattle.act_world.proofs.Ones.{OneAt, Puts}

-- the turns of other nodes stay listed
abbrev pub StaysListed : {I O : Type 0} → ℕ → List (Listed I O) → List (Listed I O) → Type 0
StaysListed {O = O} n listed after = (j : ℕ) → j ≢ n → (place : ℕ) (outputs : List O) → IsListed listed j place outputs → IsListed after j place outputs

pub stays-same : {I O : Type 0} (n : ℕ) (listed : List (Listed I O)) → StaysListed n listed listed
stays-same n listed j ne place outputs is = is

pub stays-more : {I O : Type 0} (n : ℕ) (listed : List (Listed I O)) (l : Listed I O) → StaysListed n listed (listed ++ l ∷ [])
stays-more n listed l j ne place outputs is = record {
  entry = is.entry;
  there = slice_get_front listed (l ∷ []) place is.entry is.there;
  node = is.node;
  unsent = is.unsent;
}

module _ {S I A O M : Type 0} (listed after : List (Listed I O)) (n : ℕ) (stays : (place : ℕ) (outputs : List O) → IsListed listed n place outputs → IsListed after n place outputs) where
  turn-stays : (held state : S) (o : Option (code.Turn I A O M)) (t : Option (Turn S I O M A)) → ShowsTurn listed n held state o t → ShowsTurn after n held state o t
  turn-stays held state None None h = h
  turn-stays held state None (Some t) h = h
  turn-stays held state (Some (turn.Saving v)) None h = h
  turn-stays held state (Some (turn.Saving v)) (Some t) h = h
  turn-stays held state (Some (turn.Telling v)) None h = h
  turn-stays held state (Some (turn.Telling v)) (Some t) h = (
    h.0,
    record {
      saved = h.1.saved;
      sends = h.1.sends;
      outputs = h.1.outputs;
      place = h.1.place;
      number = h.1.number;
      listed_is = stays t.place t.outputs h.1.listed_is;
    },
  )

module _ {S D I A O M X : Type 0} (listed after : List (Listed I O)) (n : ℕ) (stays : (place : ℕ) (outputs : List O) → IsListed listed n place outputs → IsListed after n place outputs)
    (v : ActNode S D I A O M X) (state : S) (disk : D) (t : Option (Turn S I O M A)) where
  so-stays : (left down : Option X) → ShowsSo listed n v state disk t left down → ShowsSo after n v state disk t left down
  so-stays None None h = (h.0, turn-stays listed after n stays v.state state v.turn t h.1)
  so-stays None (Some y) h = h
  so-stays (Some x) None h = h
  so-stays (Some x) (Some y) h = h

module _ {S D I A O M X : Type 0} (listed : List (Listed I O)) (n : ℕ) (v : ActNode S D I A O M X) (state : S) (disk : D) (t : Option (Turn S I O M A)) where
  -- what is known of a node that is up, and of one that is down
  pub up-so : (left down : Option X) → ShowsSo listed n v state disk t left down → left ≡ None →
      (down ≡ None) × (v.disk ≡ disk) × ShowsTurn listed n v.state state v.turn t
  up-so None None h is = (refl, h.0, h.1)
  up-so None (Some y) h is = absurd h
  up-so (Some x) None h is = absurd h
  up-so (Some x) (Some y) h is = cc

  pub down-so : (left down : Option X) (x : X) → ShowsSo listed n v state disk t left down → left ≡ Some x → (down ≡ Some x) × (v.turn ≡ None) × (t ≡ None)
  down-so None None x h is = cc
  down-so None (Some y) x h is = absurd h
  down-so (Some z) None x h is = absurd h
  down-so (Some z) (Some y) x h is = (ap (λ a. Some a) (sym h.0) ∙ is, h.1, h.2)

-- a node without a turn has none in the world, and its state
pub idle-so : {S I A O M : Type 0} (listed : List (Listed I O)) (n : ℕ) (held state : S) (o : Option (code.Turn I A O M)) (t : Option (Turn S I O M A)) →
    ShowsTurn listed n held state o t → o ≡ None → (t ≡ None) × (held ≡ state)
idle-so listed n held state None None h is = (refl, h)
idle-so listed n held state None (Some t) h is = absurd h
idle-so listed n held state (Some (turn.Saving v)) t h is = cc
idle-so listed n held state (Some (turn.Telling v)) t h is = cc

pub saving-so : {S I A O M : Type 0} (listed : List (Listed I O)) (n : ℕ) (held state : S) (o : Option (code.Turn I A O M)) (t : Option (Turn S I O M A))
    (v : SavingView I A O M) → ShowsTurn listed n held state o t → o ≡ Some (turn.Saving v) → (u : Turn S I O M A) × (t ≡ Some u) × ShowsSaving n held v u
saving-so listed n held state None t v h is = cc
saving-so listed n held state (Some (turn.Saving x)) None v h is = absurd h
saving-so listed n held state (Some (turn.Saving x)) (Some u) v h is = let e : x ≡ v = cc in (u, refl, subst (λ y. ShowsSaving n held y u) e h)
saving-so listed n held state (Some (turn.Telling x)) t v h is = cc

pub telling-so : {S I A O M : Type 0} (listed : List (Listed I O)) (n : ℕ) (held state : S) (o : Option (code.Turn I A O M)) (t : Option (Turn S I O M A))
    (v : TellingView O M) → ShowsTurn listed n held state o t → o ≡ Some (turn.Telling v) →
    (u : Turn S I O M A) × (t ≡ Some u) × (held ≡ state) × ShowsTelling listed n v u
telling-so listed n held state None t v h is = cc
telling-so listed n held state (Some (turn.Saving x)) t v h is = cc
telling-so listed n held state (Some (turn.Telling x)) None v h is = absurd h
telling-so listed n held state (Some (turn.Telling x)) (Some u) v h is =
    let e : x ≡ v = cc in (u, refl, h.0, subst (λ y. ShowsTelling listed n y u) e h.1)

-- a turn that counts goes on in the world where it goes on in the code
module _ {S I A O M : Type 0} (listed : List (Listed I O)) (n : ℕ) (held state : S) (same : held ≡ state) (v : TellingView O M) (t : Turn S I O M A) (h : ShowsTelling listed n v t) where
  going-by : (ss : List (ℕ × M)) (os : List O) → ShowsTurn {A = A} listed n held state (going_on v ss os) (spec.going_on t ss os)
  going-by [] [] = same
  going-by [] (o ∷ os) = (same, h)
  going-by (s ∷ ss) os = (same, h)

  pub going-shown : ShowsTurn {A = A} listed n held state (going v) (spec.going t)
  going-shown =
      subst (λ ss. ShowsTurn {A = A} listed n held state (going_on v ss v.outputs) (spec.going t)) (sym h.sends)
      (subst (λ os. ShowsTurn {A = A} listed n held state (going_on v t.sends os) (spec.going t)) (sym h.outputs) (going-by t.sends t.outputs))

module _ {S D I A O M X : Type 0} (nodes after : List (ActNode S D I A O M X)) (listed listed2 : List (Listed I O)) (state state2 : ℕ → S) (disk disk2 : ℕ → D)
    (turns turns2 : ℕ → Option (Turn S I O M A)) (down down2 : ℕ → Option X) (n : ℕ) (node : ActNode S D I A O M X) (s : S) (dk : D) (t : Option (Turn S I O M A)) (dn : Option X) where
  pub record Changed : Type 0 where
    pub one : OneAt n nodes after node
    pub state_is : Puts n state state2 s
    pub disk_is : Puts n disk disk2 dk
    pub turn_is : Puts n turns turns2 t
    pub down_is : Puts n down down2 dn
    pub shows : ShowsNode listed2 n node s dk t dn
    pub stays : StaysListed n listed listed2

  pub nodes-on : Changed → ShowsNodes nodes listed state disk turns down → ShowsNodes after listed2 state2 disk2 turns2 down2
  nodes-on h all j x is = elim (cases_eq j n) [
    | inl same ↦
        (let e : node ≡ x = same_Some node x (sym h.one.here ∙ (ap (slice_get after) (sym same) ∙ is)) in
        let here : ShowsNode listed2 n x (state2 n) (disk2 n) (turns2 n) (down2 n) =
        rw (h.state_is.here, h.disk_is.here, h.turn_is.here, h.down_is.here) (subst (λ y. ShowsNode listed2 n y s dk t dn) e h.shows) in
        subst (λ i. ShowsNode listed2 i x (state2 i) (disk2 i) (turns2 i) (down2 i)) (sym same) here)
    | inr ne ↦
        (let was : ShowsNode listed j x (state j) (disk j) (turns j) (down j) = all j x (sym (h.one.there j ne) ∙ is) in
        let kept : ShowsNode listed2 j x (state j) (disk j) (turns j) (down j) =
        so-stays listed listed2 j (h.stays j ne) x (state j) (disk j) (turns j) x.left (down j) was in
        rw (h.state_is.there j ne, h.disk_is.there j ne, h.turn_is.there j ne, h.down_is.there j ne) kept)
  ]
