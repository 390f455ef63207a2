-- What is found of a slot by the table of the stacks whose nodes keep logs.
use Rattle.std.proofs.Common.{◌≡◌, ◌≢◌, ℕ, List, [], ◌∷◌, Option, None, Some, Result, Ok, Err, IsOk, refl, sym, ap, ◌∙◌, ◌⊎◌, inl, inr}
use Rattle.vst_base.specs.declared.stack.StackId.{StackId}
use Rattle.vst_base.specs.declared.stack.StackId.TheVariants as stack
use Rattle.wire_codec.specs.Headings.{stack_byte}
use Rattle.wire_fields.specs.Formats.{Format, IsFormat}
use Rattle.wire_messages.specs.KvByteLaws.{kv_command_is_format}
use Rattle.wire_messages.specs.KvBytes.{kv_command}
use Rattle.wire_messages.specs.TableByteLaws.{table_command_is_format}
use Rattle.wire_messages.specs.TableBytes.{table_command}
use Rattle.wire_messages.specs.Wires.{read_whole}
use Rattle.node_body.specs.Bodies.{body, entry_in}
use Rattle.node_body.specs.Journals.{change, read_journal}
use Rattle.node_body.specs.Logged.{Logged, logged_stacks}
use Rattle.node_body.specs.Slots.{byte_where, found_among, of_body, of_parts, or_next, read_slot, sized, slot_byte, with_journal}
use Rattle.node_body.specs.declared.body.Body.{Body}
use Rattle.node_body.specs.declared.journal.Journal.{Journal}
use Rattle.node_body.specs.declared.slot.Held.{Held}
use Rattle.node_body.specs.declared.version.Version.{Version}
use Rattle.node_body.specs.declared.who.Owner.{Owner}
use Rattle.node_body.specs.declared.why.Why.{Why}
use Rattle.node_body.specs.declared.why.Why.TheVariants as why

-- each command of these stacks has one spelling
abbrev pub AreFormats : List Logged → Type 0
AreFormats [] = Unit {0}
AreFormats (l ∷ ls) = IsFormat l.format × AreFormats ls

pub logged_are_formats : AreFormats logged_stacks
logged_are_formats = (kv_command_is_format, (table_command_is_format, (kv_command_is_format, (table_command_is_format, tt))))

-- none of these stacks has this byte
abbrev pub NoneHasByte : ℕ → List Logged → Type 0
NoneHasByte b [] = Unit {0}
NoneHasByte b (l ∷ ls) = (stack_byte l.stack ≢ b) × NoneHasByte b ls

-- its slots are those of the stack s, whose commands are spelled so
abbrev pub ReadsAs : {C : Type 0} → StackId → Format C → Logged → Type 0
ReadsAs s f l = (bs : List ℕ) → slot_byte l.stack l.format bs ≡ slot_byte s f bs

-- one of these is the stack s, and no other has its byte
abbrev pub IsOneOf : {C : Type 0} → StackId → Format C → List Logged → Type 0
IsOneOf s f [] = ⊥
IsOneOf s f (l ∷ ls) = (ReadsAs s f l × NoneHasByte (stack_byte s) ls) ⊎ ((stack_byte l.stack ≢ stack_byte s) × IsOneOf s f ls)

-- The stack s has its line in the table.
abbrev pub IsLogged : {C : Type 0} → StackId → Format C → Type 0
IsLogged s f = IsOneOf s f logged_stacks

pub kv_is_logged : IsLogged stack.KvRaft kv_command
kv_is_logged = inl ((λ bs. refl), ((λ e. cc), ((λ e. cc), ((λ e. cc), tt))))

pub table_is_logged : IsLogged stack.TableRaft table_command
table_is_logged = inr ((λ e. cc), inl ((λ bs. refl), ((λ e. cc), ((λ e. cc), tt))))

-- all of these bytes are a body of none of these stacks
abbrev pub NoneHasBody : List Logged → List ℕ → Type 0
NoneHasBody [] bytes = Unit {0}
NoneHasBody (l ∷ ls) bytes = (read_whole (body l.stack l.format) bytes ≡ None) × NoneHasBody ls bytes

-- these bytes are a slot of one of these stacks, which has this byte
abbrev pub OneHasSlot : ℕ → List Logged → List ℕ → Type 0
OneHasSlot b [] bs = ⊥
OneHasSlot b (l ∷ ls) bs = ((stack_byte l.stack ≡ b) × IsOk (read_slot l.stack l.format bs)) ⊎ OneHasSlot b ls bs

-- no body, for one stack
module _ {C : Type 0} (s : StackId) (f : Format C) where
  byte_none : (bs bytes rest : List ℕ) → sized.read bs ≡ Some (bytes, rest) → read_whole (body s f) bytes ≡ None → slot_byte s f bs ≡ Err why.Body
  byte_none bs bytes rest parts none = ap (λ o. byte_where s (of_parts s f o)) parts ∙ ap (λ o. byte_where s (of_body f o rest)) none

  by_journal : (v : Version) (o : Owner) (j : Option (Journal C)) → byte_where s (with_journal v o j) ≡ Err why.Body → ⊥
  by_journal v o None e = cc
  by_journal v o (Some j) e = cc

  by_body : (bytes rest : List ℕ) (o : Option (Body C)) → read_whole (body s f) bytes ≡ o → byte_where s (of_body f o rest) ≡ Err why.Body → read_whole (body s f) bytes ≡ None
  by_body bytes rest None is e = is
  by_body bytes rest (Some b) is e = absurd (by_journal b.version b.owner (read_journal (change b.owner.nodes (entry_in b.version f)) b.kept rest) e)

  byte_why : (bs bytes rest : List ℕ) → sized.read bs ≡ Some (bytes, rest) → slot_byte s f bs ≡ Err why.Body → read_whole (body s f) bytes ≡ None
  byte_why bs bytes rest parts e = by_body bytes rest (read_whole (body s f) bytes) refl (sym (ap (λ o. byte_where s (of_parts s f o)) parts) ∙ e)

pub none_among : (ls : List Logged) (bs bytes rest : List ℕ) → sized.read bs ≡ Some (bytes, rest) → NoneHasBody ls bytes → found_among ls bs (Err why.Body) ≡ Err why.Body
none_among [] bs bytes rest parts none = refl
none_among (l ∷ ls) bs bytes rest parts none =
    ap (λ b. found_among ls bs b) (byte_none l.stack l.format bs bytes rest parts none.0) ∙ none_among ls bs bytes rest parts none.1

both_why : (a b : Result ℕ Why) → or_next a b ≡ Err why.Body → (a ≡ Err why.Body) × (b ≡ Err why.Body)
both_why (Ok n) b e = cc
both_why (Err why.Body) b e = (refl, e)
both_why (Err why.Slot) b e = cc
both_why (Err why.Journal) b e = cc
both_why (Err (why.Stack x y)) b e = cc
both_why (Err (why.Node x y)) b e = cc
both_why (Err (why.Cluster x y)) b e = cc
both_why (Err (why.Name x y)) b e = cc

pub among_why : (ls : List Logged) (bs bytes rest : List ℕ) (found : Result ℕ Why) → sized.read bs ≡ Some (bytes, rest) → found_among ls bs found ≡ Err why.Body → (found ≡ Err why.Body) × NoneHasBody ls bytes
among_why [] bs bytes rest found parts e = (e, tt)
among_why (l ∷ ls) bs bytes rest found parts e =
    let more = among_why ls bs bytes rest (or_next found (slot_byte l.stack l.format bs)) parts e in
    let both = both_why found (slot_byte l.stack l.format bs) more.0 in
    (both.0, (byte_why l.stack l.format bs bytes rest parts both.1, more.1))

-- what is found is the first answer, or one of a stack
next_ok : (k : ℕ) (a b : Result ℕ Why) → or_next a b ≡ Ok k → (a ≡ Ok k) ⊎ (b ≡ Ok k)
next_ok k (Ok n) b e = inl e
next_ok k (Err why.Body) b e = inr e
next_ok k (Err why.Slot) b e = inl e
next_ok k (Err why.Journal) b e = inl e
next_ok k (Err (why.Stack x y)) b e = inl e
next_ok k (Err (why.Node x y)) b e = inl e
next_ok k (Err (why.Cluster x y)) b e = inl e
next_ok k (Err (why.Name x y)) b e = inl e

byte_ok : {C : Type 0} (s : StackId) (k : ℕ) (r : Result (Held C) Why) → byte_where s r ≡ Ok k → (stack_byte s ≡ k) × IsOk r
byte_ok s k (Ok h) e = (cc, refl)
byte_ok s k (Err w) e = cc

among_by : (k : ℕ) (l : Logged) (ls : List Logged) (bs : List ℕ) (found : Result ℕ Why) → (found ≡ Ok k) ⊎ (slot_byte l.stack l.format bs ≡ Ok k) → (found ≡ Ok k) ⊎ OneHasSlot k (l ∷ ls) bs
among_by k l ls bs found (inl is) = inl is
among_by k l ls bs found (inr is) = inr (inl (byte_ok l.stack k (read_slot l.stack l.format bs) is))

among_more : (k : ℕ) (l : Logged) (ls : List Logged) (bs : List ℕ) (found : Result ℕ Why) → (or_next found (slot_byte l.stack l.format bs) ≡ Ok k) ⊎ OneHasSlot k ls bs → (found ≡ Ok k) ⊎ OneHasSlot k (l ∷ ls) bs
among_more k l ls bs found (inl is) = among_by k l ls bs found (next_ok k found (slot_byte l.stack l.format bs) is)
among_more k l ls bs found (inr is) = inr (inr is)

pub among_ok : (k : ℕ) (ls : List Logged) (bs : List ℕ) (found : Result ℕ Why) → found_among ls bs found ≡ Ok k → (found ≡ Ok k) ⊎ OneHasSlot k ls bs
among_ok k [] bs found e = inl e
among_ok k (l ∷ ls) bs found e = among_more k l ls bs found (among_ok k ls bs (or_next found (slot_byte l.stack l.format bs)) e)

-- what neither the first answer nor a stack gives is not found
abbrev NoneGives : Result ℕ Why → List Logged → List ℕ → Type 0
NoneGives x [] bs = Unit {0}
NoneGives x (l ∷ ls) bs = (slot_byte l.stack l.format bs ≢ x) × NoneGives x ls bs

next_never : (x a b : Result ℕ Why) → a ≢ x → b ≢ x → or_next a b ≢ x
next_never x (Ok n) b first next = first
next_never x (Err why.Body) b first next = next
next_never x (Err why.Slot) b first next = first
next_never x (Err why.Journal) b first next = first
next_never x (Err (why.Stack m n)) b first next = first
next_never x (Err (why.Node m n)) b first next = first
next_never x (Err (why.Cluster m n)) b first next = first
next_never x (Err (why.Name m n)) b first next = first

among_never : (x : Result ℕ Why) (ls : List Logged) (bs : List ℕ) (found : Result ℕ Why) → NoneGives x ls bs → found ≢ x → found_among ls bs found ≢ x
among_never x [] bs found none never = never
among_never x (l ∷ ls) bs found none never =
    among_never x ls bs (or_next found (slot_byte l.stack l.format bs)) none.1 (next_never x found (slot_byte l.stack l.format bs) never none.0)

-- a stack's own byte is not found where its slot is no body
other_byte : (l : Logged) (b : ℕ) (bs : List ℕ) → stack_byte l.stack ≢ b → slot_byte l.stack l.format bs ≢ Ok b
other_byte l b bs other e = other (byte_ok l.stack b (read_slot l.stack l.format bs) e).0

no_others : (b : ℕ) (ls : List Logged) (bs : List ℕ) → NoneHasByte b ls → NoneGives (Ok b) ls bs
no_others b [] bs none = tt
no_others b (l ∷ ls) bs none = (other_byte l b bs none.0, no_others b ls bs none.1)

no_own : (b : ℕ) (r : Result ℕ Why) → r ≡ Err why.Body → r ≢ Ok b
no_own b r is e = let no : ◌≡◌ {A = Result ℕ Why} (Err why.Body) (Ok b) = sym is ∙ e in cc

never_own : {C : Type 0} (s : StackId) (f : Format C) (ls : List Logged) (bs : List ℕ) → IsOneOf s f ls → slot_byte s f bs ≡ Err why.Body → NoneGives (Ok (stack_byte s)) ls bs
never_own s f [] bs is own = absurd is
never_own s f (l ∷ ls) bs (inl is) own = (no_own (stack_byte s) (slot_byte l.stack l.format bs) (is.0 bs ∙ own), no_others (stack_byte s) ls bs is.1)
never_own s f (l ∷ ls) bs (inr is) own = (other_byte l (stack_byte s) bs is.0, never_own s f ls bs is.1 own)

pub own_is_another : {C : Type 0} (s : StackId) (f : Format C) (bs : List ℕ) → IsLogged s f → read_slot s f bs ≡ Err why.Body → found_among logged_stacks bs (Err why.Body) ≢ Ok (stack_byte s)
own_is_another s f bs is own =
    among_never (Ok (stack_byte s)) logged_stacks bs (Err why.Body) (never_own s f logged_stacks bs is (ap (λ r. byte_where s r) own)) (no_own (stack_byte s) (Err why.Body) refl)

-- no slot by itself has the why `Stack`
module _ {C : Type 0} (s : StackId) (f : Format C) (a b : ℕ) where
  no_journal : (v : Version) (o : Owner) (j : Option (Journal C)) → with_journal v o j ≢ Err (why.Stack a b)
  no_journal v o None e = cc
  no_journal v o (Some j) e = cc

  no_body : (o : Option (Body C)) (rest : List ℕ) → of_body f o rest ≢ Err (why.Stack a b)
  no_body None rest e = cc
  no_body (Some y) rest e = no_journal y.version y.owner (read_journal (change y.owner.nodes (entry_in y.version f)) y.kept rest) e

  no_parts : (o : Option (List ℕ × List ℕ)) → of_parts s f o ≢ Err (why.Stack a b)
  no_parts None e = cc
  no_parts (Some p) e = no_body (read_whole (body s f) p.0) p.1 e

  pub no_slot : (bs : List ℕ) → read_slot s f bs ≢ Err (why.Stack a b)
  no_slot bs e = no_parts (sized.read bs) e

  byte_stack : (r : Result (Held C) Why) → r ≢ Err (why.Stack a b) → byte_where s r ≢ Err (why.Stack a b)
  byte_stack (Ok h) never e = cc
  byte_stack (Err w) never e =
      let same : w ≡ why.Stack a b = cc in
      never (ap (λ w. let found : Result (Held C) Why = Err w in found) same)

no_stack : (a b : ℕ) (ls : List Logged) (bs : List ℕ) → NoneGives (Err (why.Stack a b)) ls bs
no_stack a b [] bs = tt
no_stack a b (l ∷ ls) bs = (byte_stack l.stack l.format a b (read_slot l.stack l.format bs) (no_slot l.stack l.format a b bs), no_stack a b ls bs)

pub never_stack : (a b : ℕ) (bs : List ℕ) → found_among logged_stacks bs (Err why.Body) ≢ Err (why.Stack a b)
never_stack a b bs = among_never (Err (why.Stack a b)) logged_stacks bs (Err why.Body) (no_stack a b logged_stacks bs) (λ e. cc)
