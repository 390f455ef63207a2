-- The bytes of a slot: a body after its length, and a journal; and what they are for a node that asks.
use Rattle.std.specs.Prelude.{◌≡◌, ℕ, ◌==◌, nat_le, List, [], ◌∷◌, ◌++◌, length, take, drop, Option, None, Some, Result, Ok, Err, bytes_eq, if◌then◌else◌}
use Rattle.raft_types.specs.Messages.{KeptView}
use Rattle.vst_base.specs.declared.stack.StackId.{StackId}
use Rattle.wire_codec.specs.Headings.{stack_byte}
use Rattle.wire_fields.specs.Fields.{number}
use Rattle.wire_fields.specs.Formats.{Format, keyed}
use Rattle.wire_messages.specs.Wires.{read_whole}
use Rattle.node_body.specs.Bodies.{body, body_of, entry_in}
use Rattle.node_body.specs.Journals.{change, read_journal}
use Rattle.node_body.specs.Logged.{Logged, logged_stacks}
use Rattle.node_body.specs.declared.body.Body.{Body}
use Rattle.node_body.specs.declared.journal.Journal.{Journal}
use Rattle.node_body.specs.declared.slot.Held.{Held}
use Rattle.node_body.specs.declared.version.Version.{Version}
use Rattle.node_body.specs.declared.who.Owner.{Owner}
use Rattle.node_body.specs.declared.who.Who.{Who}
use Rattle.node_body.specs.declared.why.Why.{Why}
use Rattle.node_body.specs.declared.why.Why.TheVariants as why

-- so many bytes, and bytes after their number in four bytes
abbrev pub part : ℕ → Format (List ℕ)
part n = record {
  Fits = λ v. length v ≡ n;
  spell = λ v. v;
  read = λ bs. if nat_le n (length bs) then Some (take n bs, drop n bs) else None;
}

abbrev pub sized : Format (List ℕ)
sized = keyed length (number 4 0 4294967295) (λ n. part n)

abbrev pub held_as : {C : Type 0} → Version → Owner → Journal C → Held C
held_as version owner journal = record { version = version; owner = owner; journal = journal }

abbrev pub with_journal : {C : Type 0} → Version → Owner → Option (Journal C) → Result (Held C) Why
with_journal v o None = Err why.Journal
with_journal v o (Some j) = Ok (held_as v o j)

-- a body, and what stands after it: the records are those of the body's node and version
abbrev pub of_body : {C : Type 0} → Format C → Option (Body C) → List ℕ → Result (Held C) Why
of_body f None rest = Err why.Body
of_body f (Some b) rest = with_journal b.version b.owner (read_journal (change b.owner.nodes (entry_in b.version f)) b.kept rest)

abbrev pub of_parts : {C : Type 0} → StackId → Format C → Option (List ℕ × List ℕ) → Result (Held C) Why
of_parts s f None = Err why.Slot
of_parts s f (Some p) = of_body f (read_whole (body s f) p.0) p.1

-- what a slot of this stack holds, whose commands are spelled so
abbrev pub read_slot : {C : Type 0} → StackId → Format C → List ℕ → Result (Held C) Why
read_slot s f bs = of_parts s f (sized.read bs)

-- In what the owner differs from the node that asks: the first of the node, the number of nodes, and the name, if the body has one.
abbrev pub other_name : Option (List ℕ) → List ℕ → Option Why
other_name None configured = None
other_name (Some name) configured = if bytes_eq name configured then None else Some (why.Name name configured)

abbrev pub difference : Who → Owner → Option Why
difference who o =
    if o.me == who.me
    then (if o.nodes == who.nodes then other_name o.name who.name else Some (why.Cluster o.nodes who.nodes))
    else Some (why.Node o.me who.me)

abbrev pub unless_differs : {C : Type 0} → Held C → Option Why → Result (Held C) Why
unless_differs h None = Ok h
unless_differs h (Some w) = Err w

-- the byte of a stack where a slot of it was read
abbrev pub byte_where : {C : Type 0} → StackId → Result (Held C) Why → Result ℕ Why
byte_where s (Ok h) = Ok (stack_byte s)
byte_where s (Err w) = Err w

abbrev pub slot_byte : {C : Type 0} → StackId → Format C → List ℕ → Result ℕ Why
slot_byte s f bs = byte_where s (read_slot s f bs)

-- what was found, or the next, where no body was
abbrev pub or_next : Result ℕ Why → Result ℕ Why → Result ℕ Why
or_next (Err why.Body) next = next
or_next found next = found

-- The byte of the stack whose slot this is, of those whose nodes keep logs; or why it is none.
abbrev pub found_among : List Logged → List ℕ → Result ℕ Why → Result ℕ Why
found_among [] bs found = found
found_among (l ∷ ls) bs found = found_among ls bs (or_next found (slot_byte l.stack l.format bs))

abbrev pub stack_of_slot : List ℕ → Result ℕ Why
stack_of_slot bs = found_among logged_stacks bs (Err why.Body)

-- what is no body of the node's own stack may be a slot of another
abbrev pub of_other : {C : Type 0} → ℕ → Result ℕ Why → Result (Held C) Why
of_other configured (Ok kept) = Err (why.Stack kept configured)
of_other configured (Err w) = Err w

abbrev pub of_own : {C : Type 0} → StackId → Who → Result (Held C) Why → Result ℕ Why → Result (Held C) Why
of_own s who (Ok h) any = unless_differs h (difference who h.owner)
of_own s who (Err why.Body) any = of_other (stack_byte s) any
of_own s who (Err w) any = Err w

-- What a slot is for a node of the stack s that asks, whose commands are spelled so.
abbrev pub slot_found : {C : Type 0} → StackId → Format C → Who → List ℕ → Result (Held C) Why
slot_found s f who bs = of_own s who (read_slot s f bs) (stack_of_slot bs)

-- the state alone
abbrev pub state_of : {C : Type 0} → Result (Held C) Why → Result (KeptView C) Why
state_of (Ok h) = Ok h.journal.kept
state_of (Err w) = Err w

-- the base of a node that keeps this: its body of version 2 after its length, and a closed gate
abbrev pub base_of : {C : Type 0} → StackId → Format C → Who → KeptView C → List ℕ
base_of s f who k = sized.spell ((body s f).spell (body_of who k)) ++ 0 ∷ []
