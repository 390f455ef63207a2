-- A base is found to be the state that it was made of.
use Rattle.std.proofs.Common.{◌≡◌, ◌≤◌, ℕ, true, List, [], ◌∷◌, ◌++◌, length, Option, None, Some, Ok, bytes_eq, if◌then◌else◌, nat_eq, refl, sym, ap, ◌∙◌, arith, append-nil, length-append}
use Rattle.std.proofs.lemmas.Bool.{and_from, eq-eqb}
use Rattle.std.specs.List.{flat_map}
use Rattle.raft_types.specs.Messages.{KeptView}
use Rattle.vst_base.specs.Entries.{EntryView}
use Rattle.vst_base.specs.declared.stack.StackId.{StackId}
use Rattle.wire_fields.specs.ByteLaws.{length-number_bytes}
use Rattle.wire_fields.specs.Bytes.{number_bytes}
use Rattle.wire_fields.specs.Formats.{Format, IsFormat}
use Rattle.wire_messages.specs.EntryBytes.{entry}
use Rattle.wire_messages.specs.Wires.{read_whole, whole}
use Rattle.node_body.specs.Bodies.{body, body_of, owner_of, spell_vote}
use Rattle.node_body.specs.BodyLaws.{body_is_format}
use Rattle.node_body.specs.CommandLengths.{entries_length}
use Rattle.node_body.specs.FoundLaws.{agreed}
use Rattle.node_body.specs.JournalLaws.{gate_closed}
use Rattle.node_body.specs.Journals.{change, change_as, journal_as, spell_change}
use Rattle.node_body.specs.SlotLaws.{sized_is_format}
use Rattle.node_body.specs.Slots.{base_of, difference, held_as, of_body, of_parts, other_name, sized, slot_found, with_journal}
use Rattle.node_body.specs.declared.bases.TheConstants.{MAX_RECORD_LEN}
use Rattle.node_body.specs.declared.commands.TheConstants.{MAX_COMMAND}
use Rattle.node_body.specs.declared.journal.TheConstants.{MAX_RECORDS}
use Rattle.node_body.specs.declared.version.Version.TheVariants.{Two}
use Rattle.node_body.specs.declared.who.Who.{Who}
use Rattle.node_body.specs.declared.why.Why.{Why}
use Rattle.node_body.specs.declared.why.Why.TheVariants as why

-- A node that keeps a state that has a body finds it in its base, with room for all records.
abbrev pub BaseIsFound : {C : Type 0} → StackId → Format C → Type 0
BaseIsFound {C} s f =
    (who : Who) (k : KeptView C) → (body s f).Fits (body_of who k) →
    slot_found s f who (base_of s f who k) ≡ Ok (held_as Two (owner_of who) (journal_as k MAX_RECORDS 0))

vote_length : (v : Option ℕ) → length (spell_vote v) ≡ 1
vote_length None = refl
vote_length (Some n) = refl

same_bytes : (bs : List ℕ) → bytes_eq bs bs ≡ true
same_bytes [] = refl
same_bytes (b ∷ bs) = and_from _ _ (eq-eqb b b refl) (same_bytes bs)

-- a node differs in nothing from itself
same_node : (who : Who) → difference who (owner_of who) ≡ None
same_node who =
    let by_name : Option Why = other_name (Some who.name) who.name in
    ap (λ b. if b then (if nat_eq who.nodes who.nodes then by_name else Some (why.Cluster who.nodes who.nodes)) else Some (why.Node who.me who.me)) (eq-eqb who.me who.me refl)
    ∙ ap (λ b. if b then by_name else Some (why.Cluster who.nodes who.nodes)) (eq-eqb who.nodes who.nodes refl)
    ∙ ap (λ b. let none : Option Why = None in if b then none else Some (why.Name who.name who.name)) (same_bytes who.name)

module _ {C : Type 0} (s : StackId) (f : Format C) (short : (c : C) → f.Fits c → length (f.spell c) ≤ MAX_COMMAND) where
  pub body_length : (who : Who) (k : KeptView C) → (body s f).Fits (body_of who k) → length ((body s f).spell (body_of who k)) ≤ 4294967295
  body_length who k fits =
      let entries = flat_map (entry f).spell k.log in
      let log = number_bytes 4 (length k.log) ++ entries in
      let state = number_bytes 8 k.term ++ (spell_vote k.voted ++ log) in
      let name = who.name in
      let nodes = number_bytes 1 who.nodes ++ name in
      let me = number_bytes 1 who.me ++ nodes in
      omega (
        arith,
        length-append (number_bytes 1 who.me) nodes,
        length-append (number_bytes 1 who.nodes) name,
        length-append me state,
        length-append (number_bytes 8 k.term) (spell_vote k.voted ++ log),
        length-append (spell_vote k.voted) log,
        length-append (number_bytes 4 (length k.log)) entries,
        length-number_bytes 1 who.me,
        length-number_bytes 1 who.nodes,
        length-number_bytes 8 k.term,
        length-number_bytes 4 (length k.log),
        vote_length k.voted,
        fits.1.0.0.1.1.1.0,
        fits.1.1.1.1.0.1,
        entries_length f short k.log fits.1.1.1.1.1.1,
      )

  pub record_length : (nodes term : ℕ) (voted : Option ℕ) (keep : ℕ) (es : List (EntryView C)) → (change nodes (entry f)).Fits (change_as term voted keep es)
      → length (spell_change (entry f) (change_as term voted keep es) ++ 0 ∷ []) ≤ MAX_RECORD_LEN
  record_length nodes term voted keep es fits =
      let entries = flat_map (entry f).spell es in
      let log = number_bytes 4 (length es) ++ entries in
      let kept = number_bytes 4 keep ++ log in
      let vote = spell_vote voted ++ kept in
      omega (
        arith,
        length-append (number_bytes 8 term ++ vote) (0 ∷ []),
        length-append (number_bytes 8 term) vote,
        length-append (spell_vote voted) kept,
        length-append (number_bytes 4 keep) log,
        length-append (number_bytes 4 (length es)) entries,
        length-number_bytes 8 term,
        length-number_bytes 4 keep,
        length-number_bytes 4 (length es),
        vote_length voted,
        fits.0.1.1.1.0.1,
        entries_length f short es fits.0.1.1.1.1.1,
      )

  pub base_is_found : (is_f : IsFormat f) → BaseIsFound s f
  base_is_found is_f who k fits =
      let b = (body s f).spell (body_of who k) in
      let parts : sized.read (base_of s f who k) ≡ Some (b, 0 ∷ []) = sized_is_format.reads_back b (0 ∷ []) ((omega arith, body_length who k fits), refl) in
      let own : read_whole (body s f) b ≡ Some (body_of who k) =
      ap (λ bs. read_whole (body s f) bs) (sym (append-nil b)) ∙ ap whole ((body_is_format s f is_f).reads_back (body_of who k) [] fits) in
      agreed s f who (base_of s f who k) (held_as Two (owner_of who) (journal_as k MAX_RECORDS 0))
      (ap (λ o. of_parts s f o) parts ∙ ap (λ o. of_body f o (0 ∷ [])) own
      ∙ ap (λ o. with_journal Two (owner_of who) o) (gate_closed (change who.nodes (entry f)) MAX_RECORDS k 0 [] refl))
      (same_node who)
