-- What a node of a Raft cluster saves it finds again, and its vote is for a node of the cluster.
use Rattle.std.specs.Prelude.{◌≡◌, ℕ, ◌<◌, ◌==◌, Bool, true, false, ◌&&◌, List, Option, None, Some, IfSome, bytes_eq, if◌then◌else◌, refl}
use Rattle.std.proofs.Common.{ap, ◌∙◌, subst}
use Rattle.std.proofs.lemmas.Bool.{eq-eqb, eqb-true, false≢true}
use Rattle.std.proofs.lemmas.Slice.Eq.{bytes_eq-Decides}
use Rattle.node_body.specs.Bodies.{VoteAmong, body, body_of, read_body}
use Rattle.node_body.specs.BodyLaws.{body_back, body_one}
use Rattle.node_body.specs.VoteLaws.{body_keeps}
use Rattle.node_body.specs.declared.who.Who.{Who}
use Rattle.raft_types.specs.Messages.{KeptView}
use Rattle.vst_base.specs.declared.stack.StackId.{StackId}
use Rattle.wire_fields.specs.Formats.{Format, IsFormat}
use Rattle.wired.specs.RaftSaving.{is_own, own_state, raft_saving, who_at}
use Rattle.wired.specs.Saving.{ReadsBack}

is_its_own : (who : Who) → is_own who who ≡ true
is_its_own who =
    let me = eq-eqb who.me who.me refl in
    let nodes = eq-eqb who.nodes who.nodes refl in
    let named = (bytes_eq-Decides who.name who.name).1 refl in
    rw (me, nodes, named) refl

-- a state that is a node's own is of as many nodes
middle : (a b c : Bool) → ((a && b) && c) ≡ true → b ≡ true
middle true true c e = refl
middle true false c e = e
middle false b c e = absurd (false≢true e)

same_nodes : (who found : Who) → is_own who found ≡ true → found.nodes ≡ who.nodes
same_nodes who found own = eqb-true found.nodes who.nodes (middle (found.me == who.me) (found.nodes == who.nodes) (bytes_eq found.name who.name) own)

pub if_among : (nodes : ℕ) (v : Option ℕ) → VoteAmong nodes v → IfSome v (λ node. node < nodes)
if_among nodes None among = tt
if_among nodes (Some n) among = among

pub among_if : (nodes : ℕ) (v : Option ℕ) → IfSome v (λ node. node < nodes) → VoteAmong nodes v
among_if nodes None among = tt
among_if nodes (Some n) among = among

module _ {C : Type 0} (stack : StackId) (f : Format C) (is_f : IsFormat f) (nodes : ℕ) (name : List ℕ) where
  pub raft_reads_back : ReadsBack (raft_saving stack f nodes name)
  raft_reads_back n kept fits =
      let who = who_at stack nodes name n in
      ap (own_state who) (body_back stack f is_f ((body stack f).spell (body_of who kept)) who kept (record { fits = fits; bytes = refl }))
      ∙ ap (λ b. if b then Some kept else None) (is_its_own who)

  own_votes : (who found : Who) (k kept : KeptView C) (bytes : List ℕ) (b : Bool) → is_own who found ≡ b → read_body stack f bytes ≡ Some (found, k)
      → ◌≡◌ {A = Option (KeptView C)} (if b then Some k else None) (Some kept) → IfSome kept.voted (λ node. node < who.nodes)
  own_votes who found k kept bytes true own read e =
      let same : k ≡ kept = cc in
      let keeps = body_keeps stack f found k (body_one stack f is_f bytes found k read).fits in
      subst (λ (k : KeptView C). IfSome k.voted (λ node. node < who.nodes)) same
      (subst (λ nodes. IfSome k.voted (λ node. node < nodes)) (same_nodes who found own) (if_among found.nodes k.voted keeps.voted))
  own_votes who found k kept bytes false own read e = cc

  votes_of : (who : Who) (kept : KeptView C) (bytes : List ℕ) (o : Option (Who × KeptView C)) → read_body stack f bytes ≡ o → own_state who o ≡ Some kept
      → IfSome kept.voted (λ node. node < who.nodes)
  votes_of who kept bytes None read e = cc
  votes_of who kept bytes (Some p) read e = own_votes who p.0 p.1 kept bytes (is_own who p.0) refl read e

  pub raft_found_fits : (n : ℕ) (bytes : List ℕ) (kept : KeptView C) → (raft_saving stack f nodes name).read n bytes ≡ Some kept → IfSome kept.voted (λ node. node < nodes)
  raft_found_fits n bytes kept e = votes_of (who_at stack nodes name n) kept bytes (read_body stack f bytes) refl e
