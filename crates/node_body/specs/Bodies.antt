-- The bytes of a node's state: a mark with the version, whose state it is, and what the node keeps.
use Rattle.std.specs.Prelude.{◌≡◌, ℕ, ◌<◌, ◌==◌, ◌&&◌, nat_lt, Bool, true, false, List, [], ◌∷◌, length, Option, None, Some, if◌then◌else◌}
use Rattle.raft_types.specs.Messages.{KeptView}
use Rattle.vst_base.specs.Entries.{EntryView}
use Rattle.vst_base.specs.declared.node.TheConstants.{MAX_NODES}
use Rattle.vst_base.specs.declared.stack.StackId.{StackId}
use Rattle.vst_base.specs.declared.stack.StackId.TheVariants as stack
use Rattle.wire_codec.specs.Headings.{stack_byte}
use Rattle.wire_fields.specs.Formats.{linked}
use Rattle.wire_fields.specs.Fields.{name, number}
use Rattle.wire_fields.specs.Formats.{Format, keyed, listed, made_of, mapped, pair, tested}
use Rattle.wire_messages.specs.EntryBytes.{entry, old_entry}
use Rattle.wire_messages.specs.RaftBytes.{any_term, log_index}
use Rattle.wire_messages.specs.Wires.{read_whole}
use Rattle.node_body.specs.declared.body.Body.{Body}
use Rattle.node_body.specs.declared.version.Version.{Version}
use Rattle.node_body.specs.declared.version.Version.TheVariants.{One, Two}
use Rattle.node_body.specs.declared.vote.TheConstants.{NO_VOTE}
use Rattle.node_body.specs.declared.who.Owner.{Owner}
use Rattle.node_body.specs.declared.who.Who.{Who}

-- the letter S, and the version
abbrev pub version_byte : Version → ℕ
version_byte One = 1
version_byte Two = 2

abbrev pub read_mark : List ℕ → Option (Version × List ℕ)
read_mark [] = None
read_mark (letter ∷ []) = None
read_mark (letter ∷ version ∷ bs) =
    if letter == 83 then (if version == 1 then Some (One, bs) else if version == 2 then Some (Two, bs) else None) else None

abbrev pub mark : Format Version
mark = record { Fits = λ _. Unit {0}; spell = λ v. 83 ∷ version_byte v ∷ []; read = read_mark }

-- a byte that stands for one value alone
abbrev pub read_sign : {V : Type 0} → ℕ → V → List ℕ → Option (V × List ℕ)
read_sign b v [] = None
read_sign b v (c ∷ bs) = if c == b then Some (v, bs) else None

abbrev pub sign : {V : Type 0} → ℕ → V → Format V
sign b v = record { Fits = λ w. w ≡ v; spell = λ _. b ∷ []; read = λ bs. read_sign b v bs }

-- how many nodes a cluster has at most
abbrev pub most_nodes : Version → ℕ
most_nodes One = 5
most_nodes Two = MAX_NODES

-- the name of the cluster, which a body of version 1 does not have
abbrev pub no_name : Format (Option (List ℕ))
no_name = record { Fits = λ n. n ≡ None; spell = λ _. []; read = λ bs. Some (None, bs) }

abbrev pub a_name : Format (Option (List ℕ))
a_name = made_of (λ n. Some n) (λ n. n) name

abbrev pub label : Version → Format (Option (List ℕ))
label One = no_name
label Two = a_name

-- the stacks that have bodies of version 1
abbrev pub is_spelled_in : Version → StackId → Bool
is_spelled_in Two s = true
is_spelled_in One stack.KvRaft = true
is_spelled_in One stack.TableRaft = true
is_spelled_in One s = false

-- whose state it is: the stack, the node, which is one of so many, and the name
abbrev pub owner_as : StackId → ℕ → ℕ → Option (List ℕ) → Owner
owner_as stack me nodes name = record { stack = stack; me = me; nodes = nodes; name = name }

abbrev pub owner : StackId → Version → Format Owner
owner s v = tested (λ o. is_spelled_in v s && nat_lt o.me o.nodes)
    (mapped (λ p. owner_as p.0 p.1.0 p.1.1.0 p.1.1.1) (λ o. (o.stack, (o.me, (o.nodes, o.name))))
    (pair (sign (stack_byte s) s) (pair (number 1 0 255) (pair (number 1 1 (most_nodes v)) (label v)))))

-- a vote: for none, or for a node of so many
abbrev pub VoteFits : Option ℕ → Type 0
VoteFits None = Unit {0}
VoteFits (Some n) = n < NO_VOTE

abbrev pub spell_vote : Option ℕ → List ℕ
spell_vote None = NO_VOTE ∷ []
spell_vote (Some n) = n ∷ []

abbrev pub read_vote : List ℕ → Option (Option ℕ × List ℕ)
read_vote [] = None
read_vote (b ∷ bs) = if b == NO_VOTE then Some (None, bs) else if nat_lt b NO_VOTE then Some (Some b, bs) else None

abbrev pub any_vote : Format (Option ℕ)
any_vote = record { Fits = VoteFits; spell = spell_vote; read = read_vote }

abbrev pub is_among : ℕ → Option ℕ → Bool
is_among nodes None = true
is_among nodes (Some n) = nat_lt n nodes

abbrev pub VoteAmong : ℕ → Option ℕ → Type 0
VoteAmong nodes None = Unit {0}
VoteAmong nodes (Some n) = n < nodes

abbrev pub vote : ℕ → Format (Option ℕ)
vote nodes = tested (λ v. is_among nodes v) any_vote

-- the entries of a log, after their number; those of version 1 were spelled otherwise
abbrev pub log : {C : Type 0} → Format (EntryView C) → Format (List (EntryView C))
log e = keyed length log_index (λ n. listed e n)

abbrev pub entry_in : {C : Type 0} → Version → Format C → Format (EntryView C)
entry_in One f = old_entry f
entry_in Two f = entry f

-- what a node of so many keeps: its term, its vote and its log
abbrev pub kept_as : {C : Type 0} → ℕ → Option ℕ → List (EntryView C) → KeptView C
kept_as term voted log = record { term = term; voted = voted; log = log }

abbrev pub kept : {C : Type 0} → ℕ → Format (EntryView C) → Format (KeptView C)
kept nodes e = mapped (λ p. kept_as p.0 p.1.0 p.1.1) (λ k. (k.term, (k.voted, k.log))) (pair any_term (pair (vote nodes) (log e)))

-- a body of either version, of a node of this stack, whose commands are spelled so
abbrev pub body_as : {C : Type 0} → Version → Owner → KeptView C → Body C
body_as version owner kept = record { version = version; owner = owner; kept = kept }

abbrev pub body : {C : Type 0} → StackId → Format C → Format (Body C)
body s f = mapped (λ p. body_as p.0 p.1.0 p.1.1) (λ b. (b.version, (b.owner, b.kept)))
    (linked mark (λ v. linked (owner s v) (λ o. kept o.nodes (entry_in v f))))

-- the body of version 2 of a node that keeps this
abbrev pub owner_of : Who → Owner
owner_of who = owner_as who.stack who.me who.nodes (Some who.name)

abbrev pub body_of : {C : Type 0} → Who → KeptView C → Body C
body_of who kept = body_as Two (owner_of who) kept

abbrev pub who_of : Owner → List ℕ → Who
who_of owner name = record { stack = owner.stack; me = owner.me; nodes = owner.nodes; name = name }

abbrev pub with_name : {C : Type 0} → Owner → KeptView C → Option (List ℕ) → Option (Who × KeptView C)
with_name owner kept None = None
with_name owner kept (Some n) = Some (who_of owner n, kept)

abbrev pub if_named : {C : Type 0} → Option (Body C) → Option (Who × KeptView C)
if_named None = None
if_named (Some b) = with_name b.owner b.kept b.owner.name

-- whose state all of these bytes are, and the state, where they are a body of version 2
abbrev pub read_body : {C : Type 0} → StackId → Format C → List ℕ → Option (Who × KeptView C)
read_body s f bs = if_named (read_whole (body s f) bs)

-- these bytes are the body of version 2 of the node that keeps this, which has one
pub record IsBodyOf {C : Type 0} (s : StackId) (f : Format C) (who : Who) (kept : KeptView C) (bs : List ℕ) : Type 0 where
  pub fits : (body s f).Fits (body_of who kept)
  pub bytes : bs ≡ (body s f).spell (body_of who kept)
