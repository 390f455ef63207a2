-- The first world, and what its code holds.
use Rattle.std.proofs.Common.{◌≡◌, ℕ, ◌<◌, List, [], length, Some, None, slice_get, refl, sym, subst, ◌∙◌, arith, inl, inr}
use Rattle.std.proofs.lemmas.Bool.{cases_lt}
use Rattle.std.proofs.lemmas.Option.{none-some, same_Some, slice_get_past}
use Rattle.handler_trait.specs.Facts.{Promises}
use Rattle.handler_trait.specs.Handling.{Meaning}
use Rattle.act_network.specs.Disks.{Disks}
use Rattle.act_network.specs.ActWorlds.{first_act_world}
use Rattle.act_world.specs.ActViews.{ActView, IsSoundAct, IsSoundNode, ShowsAct}
use Rattle.act_world.specs.Nodes.{ShowsNode, first_node}
use Rattle.act_world.specs.Views.{FlightView, NotesView}
use Rattle.act_world.specs.declared.act_node.ActNode.{ActNode}

pub first-is : {S K I O M D A X : Type 0} (m : Meaning S I O M) (d : Disks K D A X) (n : ℕ) (s : S) (disk : D) → s ≡ m.init n → disk ≡ d.fresh n →
    (x : ActNode S D I A O M X) → x ≡ record { state = s; disk = disk; turn = None; left = None } → x ≡ first_node m d n
first-is m d n s disk a b x is = rw (is, a, b) refl

module _ {H S K I O M D A X : Type 0} (p : Promises S I O M) (d : Disks K D A X) (h : H) (nodes : List (ActNode S D I A O M X)) (len : length nodes ≡ p.meaning.nodes)
    (first : (n : ℕ) → n < p.meaning.nodes → slice_get nodes n ≡ Some (first_node p.meaning d n)) where
  first-at : (n : ℕ) (node : ActNode S D I A O M X) → slice_get nodes n ≡ Some node → (n < p.meaning.nodes) × (first_node p.meaning d n ≡ node)
  first-at n node is = elim (cases_lt n p.meaning.nodes) [
    | inl lt ↦ (lt, same_Some (first_node p.meaning d n) node (sym (first n lt) ∙ is))
    | inr ge ↦ absurd (none-some node (sym (slice_get_past nodes n (omega (arith, len, ge))) ∙ is))
  ]

  module _ (flights : List (FlightView M)) (notes : NotesView I O) (none : flights ≡ []) (image : notes.image ≡ []) (listed : notes.listed ≡ []) (sent : notes.sent ≡ 0) where
    abbrev first-view : ActView H S D I A O M X
    first-view = record { handlers = h; nodes = nodes; flights = flights; notes = notes; taken = 0 }

    pub first-shows : ShowsAct first-view (first_act_world p.meaning d)
    first-shows = record {
      nodes = λ n node is. subst (λ y. ShowsNode [] n y (p.meaning.init n) (d.fresh n) None None) ((first-at n node is).1) (refl, refl);
      flights = λ k. rw none tt;
      image = image;
      listed = listed;
      sent = sent;
    }

    pub first-sound : ((n : ℕ) → n < p.meaning.nodes → p.sound n (p.meaning.init n)) → ((n : ℕ) → n < p.meaning.nodes → p.spent (p.meaning.init n) ≡ 0) → IsSoundAct p first-view
    first-sound sound fresh = record {
      nodes = len;
      each = λ n node is.
          (let found = first-at n node is in
          subst (λ y. IsSoundNode p n 0 notes.sent (length notes.listed) y) (found.1)
          (record { state = record { keeps = sound n found.0; little = (let z = fresh n found.0 in omega (arith, z)) }; turn = tt }));
      flights = λ k. rw none tt;
      few_sent = omega (arith, sent);
      few_steps = omega arith;
    }
