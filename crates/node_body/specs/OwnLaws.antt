-- What a node finds that asks with the commands of its own stack: a state of its own, or the why `Stack` with the bytes of the two.
use Rattle.std.proofs.Common.{◌≡◌, ◌≢◌, ℕ, Bool, true, false, bytes_eq, nat_eq, List, Option, None, Some, Result, Ok, Err, if◌then◌else◌, refl, sym, ap, subst, ◌∙◌, ◌⊎◌, inl, inr}
use Rattle.std.proofs.lemmas.Bool.{eqb-true}
use Rattle.std.proofs.lemmas.Slice.Eq.{bytes_eq-Decides}
use Rattle.vst_base.specs.declared.stack.StackId.{StackId}
use Rattle.wire_codec.specs.Headings.{stack_byte}
use Rattle.wire_fields.specs.Formats.{Format, IsFormat}
use Rattle.wire_messages.specs.Wires.{read_whole}
use Rattle.node_body.specs.Bodies.{body, entry_in, label, owner_as}
use Rattle.node_body.specs.BodyLaws.{body_is_format, whole_one}
use Rattle.node_body.specs.FoundLaws.{agrees}
use Rattle.node_body.specs.Journals.{change, read_journal}
use Rattle.node_body.specs.Logged.{logged_stacks}
use Rattle.node_body.specs.LoggedLaws.{IsLogged, OneHasSlot, among_ok, never_stack, no_slot, own_is_another}
use Rattle.node_body.specs.Slots.{difference, held_as, of_body, of_own, of_parts, other_name, read_slot, sized, slot_found, stack_of_slot, unless_differs, with_journal}
use Rattle.node_body.specs.declared.body.Body.{Body}
use Rattle.node_body.specs.declared.journal.Journal.{Journal}
use Rattle.node_body.specs.declared.slot.Held.{Held}
use Rattle.node_body.specs.declared.version.Version.{Version}
use Rattle.node_body.specs.declared.version.Version.TheVariants.{One, Two}
use Rattle.node_body.specs.declared.who.Owner.{Owner}
use Rattle.node_body.specs.declared.who.Who.{Who}
use Rattle.node_body.specs.declared.why.Why.{Why}
use Rattle.node_body.specs.declared.why.Why.TheVariants as why

-- whose state a body of a version says that this node's is
abbrev pub name_in : Version → List ℕ → Option (List ℕ)
name_in One name = None
name_in Two name = Some name

abbrev pub owner_in : Version → Who → Owner
owner_in version who = owner_as who.stack who.me who.nodes (name_in version who.name)

-- What is found is a state of the node that asks.
abbrev pub OwnIsFound : {C : Type 0} → StackId → Format C → Type 0
OwnIsFound {C} s f =
    (who : Who) (bs : List ℕ) (h : Held C) → who.stack ≡ s → slot_found s f who bs ≡ Ok h → h.owner ≡ owner_in h.version who

-- These bytes are a slot of a stack whose nodes keep logs, by its byte, and this is not the stack s.
pub record IsOfAnother (s : StackId) (bs : List ℕ) (kept : ℕ) : Type 0 where
  pub slot : OneHasSlot kept logged_stacks bs
  pub other : kept ≢ stack_byte s

-- The why `Stack` has the byte of another stack, whose slot it is, and that of the node's own.
abbrev pub StackIsTold : {C : Type 0} → StackId → Format C → Type 0
StackIsTold s f =
    (who : Who) (bs : List ℕ) (kept configured : ℕ) → who.stack ≡ s → slot_found s f who bs ≡ Err (why.Stack kept configured) →
    IsOfAnother who.stack bs kept × (configured ≡ stack_byte who.stack)

-- what a body says of its owner
record IsOwned {C : Type 0} (s : StackId) (h : Held C) : Type 0 where
  pub stack : h.owner.stack ≡ s
  pub name : (label h.version).Fits h.owner.name

module _ {C : Type 0} (s : StackId) (f : Format C) (is_f : IsFormat f) where
  of_found : (bytes : List ℕ) (h : Held C) (b : Body C) (o : Option (Journal C)) → read_whole (body s f) bytes ≡ Some b → with_journal b.version b.owner o ≡ Ok h → IsOwned s h
  of_found bytes h b None is_body e = cc
  of_found bytes h b (Some j) is_body e =
      let same : held_as b.version b.owner j ≡ h = cc in
      let spelled = whole_one (body s f) (body_is_format s f is_f) bytes b is_body in
      subst (λ (h : Held C). IsOwned s h) same (record { stack = spelled.fits.1.0.0.0; name = spelled.fits.1.0.0.1.1.1 })

  of_whole : (bytes : List ℕ) (h : Held C) (rest : List ℕ) (o : Option (Body C)) → read_whole (body s f) bytes ≡ o → of_body f o rest ≡ Ok h → IsOwned s h
  of_whole bytes h rest None is_body e = cc
  of_whole bytes h rest (Some b) is_body e = of_found bytes h b (read_journal (change b.owner.nodes (entry_in b.version f)) b.kept rest) is_body e

  of_sized : (h : Held C) (o : Option (List ℕ × List ℕ)) → of_parts s f o ≡ Ok h → IsOwned s h
  of_sized h None e = cc
  of_sized h (Some p) e = of_whole p.0 h p.1 (read_whole (body s f) p.0) refl e

  slot_owned : (bs : List ℕ) (h : Held C) → read_slot s f bs ≡ Ok h → IsOwned s h
  slot_owned bs h e = of_sized h (sized.read bs) e

-- in what an owner does not differ
record IsSame (who : Who) (o : Owner) : Type 0 where
  pub me : o.me ≡ who.me
  pub nodes : o.nodes ≡ who.nodes
  pub name : other_name o.name who.name ≡ None

same_by : (who : Who) (o : Owner) (me nodes : Bool) → nat_eq o.me who.me ≡ me → nat_eq o.nodes who.nodes ≡ nodes
    → ◌≡◌ {A = Option Why} (if me then (if nodes then other_name o.name who.name else Some (why.Cluster o.nodes who.nodes)) else Some (why.Node o.me who.me)) None → IsSame who o
same_by who o true true is_me are_nodes e = record { me = eqb-true o.me who.me is_me; nodes = eqb-true o.nodes who.nodes are_nodes; name = e }
same_by who o true false is_me are_nodes e = cc
same_by who o false nodes is_me are_nodes e = cc

name_by : (name configured : List ℕ) (b : Bool) → (b ≡ true → name ≡ configured) → ◌≡◌ {A = Option Why} (if b then None else Some (why.Name name configured)) None → name ≡ configured
name_by name configured true is e = is refl
name_by name configured false is e = cc

names_by : (v : Version) (name : Option (List ℕ)) (configured : List ℕ) → (label v).Fits name → other_name name configured ≡ None → name ≡ name_in v configured
names_by One name configured fits e = fits
names_by Two None configured fits e = absurd fits
names_by Two (Some name) configured fits e =
    ap (λ (name : List ℕ). let found : Option (List ℕ) = Some name in found) (name_by name configured (bytes_eq name configured) (bytes_eq-Decides name configured).0 e)

owner_by : (v : Version) (who : Who) (o : Owner) → o.stack ≡ who.stack → IsSame who o → o.name ≡ name_in v who.name → o ≡ owner_in v who
owner_by v who o stack same name = λ i. owner_as (stack i) (same.me i) (same.nodes i) (name i)

module _ {C : Type 0} (s : StackId) (f : Format C) (is_f : IsFormat f) where
  pub own_is_found : OwnIsFound s f
  own_is_found who bs h own e =
      let is = agrees s f who bs h e in
      let owned = slot_owned s f is_f bs h is.read in
      let same = same_by who h.owner (nat_eq h.owner.me who.me) (nat_eq h.owner.nodes who.nodes) refl refl is.same in
      owner_by h.version who h.owner (owned.stack ∙ sym own) same (names_by h.version h.owner.name who.name owned.name same.name)

-- no owner has the why `Stack`
no_name : (a b : ℕ) (same : Bool) (name configured : List ℕ) → ◌≡◌ {A = Option Why} (if same then None else Some (why.Name name configured)) (Some (why.Stack a b)) → ⊥
no_name a b true name configured e = cc
no_name a b false name configured e = cc

no_names : (a b : ℕ) (name : Option (List ℕ)) (configured : List ℕ) → other_name name configured ≡ Some (why.Stack a b) → ⊥
no_names a b None configured e = cc
no_names a b (Some name) configured e = no_name a b (bytes_eq name configured) name configured e

no_numbers : (a b : ℕ) (who : Who) (o : Owner) (me nodes : Bool) → ◌≡◌ {A = Option Why} (if me then (if nodes then other_name o.name who.name else Some (why.Cluster o.nodes who.nodes)) else Some (why.Node o.me who.me)) (Some (why.Stack a b)) → ⊥
no_numbers a b who o true true e = no_names a b o.name who.name e
no_numbers a b who o true false e = cc
no_numbers a b who o false nodes e = cc

no_owner : {C : Type 0} (a b : ℕ) (h : Held C) (o : Option Why) → (o ≡ Some (why.Stack a b) → ⊥) → ◌≡◌ {A = Result (Held C) Why} (unless_differs h o) (Err (why.Stack a b)) → ⊥
no_owner a b h None never e = cc
no_owner a b h (Some w) never e = let same : w ≡ why.Stack a b = cc in never (ap (λ w. let found : Option Why = Some w in found) same)

-- what was found where the why is `Stack`
record IsTold {C : Type 0} (s : StackId) (own : Result (Held C) Why) (any : Result ℕ Why) (a b : ℕ) : Type 0 where
  pub none : own ≡ Err why.Body
  pub kept : any ≡ Ok a
  pub configured : b ≡ stack_byte s

module _ {C : Type 0} (s : StackId) (who : Who) (a b : ℕ) where
  told_by : (own : Result (Held C) Why) (any : Result ℕ Why) → own ≢ Err (why.Stack a b) → any ≢ Err (why.Stack a b) → of_own s who own any ≡ Err (why.Stack a b)
      → IsTold s own any a b
  told_by (Ok h) any own none e = absurd (no_owner a b h (difference who h.owner) (no_numbers a b who h.owner (nat_eq h.owner.me who.me) (nat_eq h.owner.nodes who.nodes)) e)
  told_by (Err why.Body) (Ok k) own none e =
      let same : why.Stack k (stack_byte s) ≡ why.Stack a b = cc in
      let kept : k ≡ a = cc in
      record { none = refl; kept = ap (λ (k : ℕ). let found : Result ℕ Why = Ok k in found) kept; configured = cc }
  told_by (Err why.Body) (Err w) own none e =
      let same : w ≡ why.Stack a b = cc in
      absurd (none (ap (λ w. let found : Result ℕ Why = Err w in found) same))
  told_by (Err why.Slot) any own none e = absurd (own e)
  told_by (Err why.Journal) any own none e = absurd (own e)
  told_by (Err (why.Stack x y)) any own none e = absurd (own e)
  told_by (Err (why.Node x y)) any own none e = absurd (own e)
  told_by (Err (why.Cluster x y)) any own none e = absurd (own e)
  told_by (Err (why.Name x y)) any own none e = absurd (own e)

slot_by : (k : ℕ) (bs : List ℕ) → (◌≡◌ {A = Result ℕ Why} (Err why.Body) (Ok k)) ⊎ OneHasSlot k logged_stacks bs → OneHasSlot k logged_stacks bs
slot_by k bs (inl is) = cc
slot_by k bs (inr is) = is

module _ {C : Type 0} (s : StackId) (f : Format C) (logged : IsLogged s f) where
  pub stack_is_told : StackIsTold s f
  stack_is_told who bs kept configured own e =
      let told = told_by s who kept configured (read_slot s f bs) (stack_of_slot bs) (no_slot s f kept configured bs) (never_stack kept configured bs) e in
      let slot : OneHasSlot kept logged_stacks bs = slot_by kept bs (among_ok kept logged_stacks bs (Err why.Body) told.kept) in
      let other : kept ≢ stack_byte s =
      λ same. own_is_another s f bs logged told.none (told.kept ∙ ap (λ (k : ℕ). let found : Result ℕ Why = Ok k in found) same) in
      let is : IsOfAnother s bs kept = record { slot = slot; other = other } in
      (subst (λ t. IsOfAnother t bs kept) (sym own) is, told.configured ∙ ap stack_byte (sym own))
