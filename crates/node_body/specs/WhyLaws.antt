-- `Body` is the why exactly where no body of a stack whose nodes keep logs stands after its length.
use Rattle.std.proofs.Common.{◌≡◌, ℕ, Bool, true, false, List, Option, None, Some, Result, Ok, Err, bytes_eq, nat_eq, if◌then◌else◌, refl, ap, ◌∙◌}
use Rattle.vst_base.specs.declared.stack.StackId.{StackId}
use Rattle.wire_codec.specs.Headings.{stack_byte}
use Rattle.wire_fields.specs.Formats.{Format}
use Rattle.wire_messages.specs.Wires.{read_whole}
use Rattle.node_body.specs.Bodies.{body, entry_in}
use Rattle.node_body.specs.Journals.{change, read_journal}
use Rattle.node_body.specs.Logged.{logged_stacks}
use Rattle.node_body.specs.LoggedLaws.{NoneHasBody, among_why, none_among}
use Rattle.node_body.specs.Slots.{difference, of_body, of_other, of_own, of_parts, other_name, read_slot, sized, slot_found, stack_of_slot, unless_differs, with_journal}
use Rattle.node_body.specs.declared.body.Body.{Body}
use Rattle.node_body.specs.declared.journal.Journal.{Journal}
use Rattle.node_body.specs.declared.slot.Held.{Held}
use Rattle.node_body.specs.declared.version.Version.{Version}
use Rattle.node_body.specs.declared.who.Owner.{Owner}
use Rattle.node_body.specs.declared.who.Who.{Who}
use Rattle.node_body.specs.declared.why.Why.{Why}
use Rattle.node_body.specs.declared.why.Why.TheVariants as why

-- what stands after its length is no body of the stack s, nor of any whose nodes keep logs
pub record HasNoBody {C : Type 0} (s : StackId) (f : Format C) (bs : List ℕ) : Type 0 where
  pub bytes : List ℕ
  pub rest : List ℕ
  pub parts : sized.read bs ≡ Some (bytes, rest)
  pub own : read_whole (body s f) bytes ≡ None
  pub logged : NoneHasBody logged_stacks bytes

-- a node that differs from the owner of a body has a body before it
by_name : (b : Bool) (name configured : List ℕ) → ◌≡◌ {A = Option Why} (if b then None else Some (why.Name name configured)) (Some why.Body) → ⊥
by_name true name configured e = cc
by_name false name configured e = cc

by_names : (name : Option (List ℕ)) (configured : List ℕ) → other_name name configured ≡ Some why.Body → ⊥
by_names None configured e = cc
by_names (Some name) configured e = by_name (bytes_eq name configured) name configured e

by_numbers : (who : Who) (o : Owner) (me nodes : Bool) → ◌≡◌ {A = Option Why} (if me then (if nodes then other_name o.name who.name else Some (why.Cluster o.nodes who.nodes)) else Some (why.Node o.me who.me)) (Some why.Body) → ⊥
by_numbers who o true true e = by_names o.name who.name e
by_numbers who o true false e = cc
by_numbers who o false nodes e = cc

no_difference : (who : Who) (o : Owner) → difference who o ≡ Some why.Body → ⊥
no_difference who o e = by_numbers who o (nat_eq o.me who.me) (nat_eq o.nodes who.nodes) e

held_by : {C : Type 0} (h : Held C) (o : Option Why) → (o ≡ Some why.Body → ⊥) → ◌≡◌ {A = Result (Held C) Why} (unless_differs h o) (Err why.Body) → ⊥
held_by h None never e = cc
held_by {C} h (Some w) never e = let same : w ≡ why.Body = cc in never (ap (λ w. let found : Option Why = Some w in found) same)

other_why : {C : Type 0} (configured : ℕ) (any : Result ℕ Why) → ◌≡◌ {A = Result (Held C) Why} (of_other configured any) (Err why.Body) → any ≡ Err why.Body
other_why configured (Ok kept) e = cc
other_why configured (Err w) e =
    let same : w ≡ why.Body = cc in
    ap (λ w. let found : Result ℕ Why = Err w in found) same

module _ {C : Type 0} (s : StackId) (f : Format C) (who : Who) where
  pub no_body : (bs : List ℕ) → HasNoBody s f bs → slot_found s f who bs ≡ Err why.Body
  no_body bs none =
      let own : read_slot s f bs ≡ Err why.Body = ap (λ o. of_parts s f o) none.parts ∙ ap (λ o. of_body f o none.rest) none.own in
      let any : stack_of_slot bs ≡ Err why.Body = none_among logged_stacks bs none.bytes none.rest none.parts none.logged in
      λ i. of_own s who (own i) (any i)

  of_journal : (v : Version) (o : Owner) (j : Option (Journal C)) (any : Result ℕ Why) → of_own s who (with_journal v o j) any ≡ Err why.Body → ⊥
  of_journal v o None any e = cc
  of_journal v o (Some j) any e = held_by (record { version = v; owner = o; journal = j }) (difference who o) (no_difference who o) e

  of_bodies : (bs bytes rest : List ℕ) (o : Option (Body C)) → sized.read bs ≡ Some (bytes, rest) → read_whole (body s f) bytes ≡ o
      → of_own s who (of_body f o rest) (stack_of_slot bs) ≡ Err why.Body → HasNoBody s f bs
  of_bodies bs bytes rest None parts own e =
      let none = among_why logged_stacks bs bytes rest (Err why.Body) parts (other_why {C = C} (stack_byte s) (stack_of_slot bs) e) in
      record { bytes = bytes; rest = rest; parts = parts; own = own; logged = none.1 }
  of_bodies bs bytes rest (Some b) parts own e = absurd (of_journal b.version b.owner (read_journal (change b.owner.nodes (entry_in b.version f)) b.kept rest) (stack_of_slot bs) e)

  of_lengths : (bs : List ℕ) (o : Option (List ℕ × List ℕ)) → sized.read bs ≡ o → of_own s who (of_parts s f o) (stack_of_slot bs) ≡ Err why.Body → HasNoBody s f bs
  of_lengths bs None parts e = cc
  of_lengths bs (Some p) parts e = of_bodies bs p.0 p.1 (read_whole (body s f) p.0) parts refl e

  pub body_why : (bs : List ℕ) → slot_found s f who bs ≡ Err why.Body → HasNoBody s f bs
  body_why bs e = of_lengths bs (sized.read bs) refl e
