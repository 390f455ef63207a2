-- Each body has one spelling.
use Rattle.std.proofs.Common.{◌≡◌, ℕ, ◌<◌, ◌≤◌, ◌^◌, ◌&&◌, nat_lt, Bool, true, false, List, [], ◌∷◌, ◌++◌, length, Option, None, Some, if◌then◌else◌, refl, sym, ap, subst, ◌∙◌, arith, append-nil, lit<}
use Rattle.std.proofs.lemmas.Bool.{eq-eqb, ne_eqb, lt-ltb, ltb-true}
use Rattle.raft_types.specs.Messages.{KeptView}
use Rattle.vst_base.specs.Entries.{EntryView}
use Rattle.vst_base.specs.declared.entry.TheConstants.{MAX_TERM}
use Rattle.vst_base.specs.declared.node.TheConstants.{MAX_NODES}
use Rattle.vst_base.specs.declared.stack.StackId.{StackId}
use Rattle.wire_codec.specs.Headings.{stack_byte}
use Rattle.wire_fields.specs.FormatLaws.{linked_is_format}
use Rattle.wire_fields.specs.Formats.{linked}
use Rattle.wire_fields.specs.FieldLaws.{by_byte, number_is_format, raw_is_format}
use Rattle.wire_fields.specs.Fields.{name, number}
use Rattle.wire_fields.specs.FormatLaws.{keyed_is_format, listed_is_format, made_of_is_format, mapped_is_format, pair_is_format, same_answer, tested_is_format}
use Rattle.wire_fields.specs.Formats.{Format, IsFormat, IsSpelled, listed, mapped, pair}
use Rattle.wire_messages.specs.EntryByteLaws.{entry_is_format, old_entry_is_format}
use Rattle.wire_messages.specs.EntryBytes.{entry}
use Rattle.wire_messages.specs.RaftByteLaws.{any_term_is_format, log_index_is_format}
use Rattle.wire_messages.specs.RaftBytes.{any_term, log_index}
use Rattle.wire_messages.specs.Wires.{if_none_left, read_whole, whole}
use Rattle.node_body.specs.Bodies.{version_byte, read_mark, mark, read_sign, sign, most_nodes, no_name, a_name, label, is_spelled_in, owner_as, owner, VoteFits, spell_vote, read_vote, any_vote, is_among, VoteAmong, vote, log, entry_in, kept_as, kept, body_as, body, owner_of, body_of, who_of, with_name, if_named, read_body, IsBodyOf}
use Rattle.node_body.specs.declared.body.Body.{Body}
use Rattle.node_body.specs.declared.version.Version.{Version}
use Rattle.node_body.specs.declared.version.Version.TheVariants.{One, Two}
use Rattle.node_body.specs.declared.vote.TheConstants.{NO_VOTE}
use Rattle.node_body.specs.declared.who.Owner.{Owner}
use Rattle.node_body.specs.declared.who.Who.{Who}

mark_here : (a b : ℕ) (u v : Version) (bs rest : List ℕ) → a ≡ 83 → b ≡ version_byte u → ◌≡◌ {A = Option (Version × List ℕ)} (Some (u, bs)) (Some (v, rest)) → IsSpelled mark (a ∷ b ∷ bs) v rest
mark_here a b u v bs rest letter version e =
    let same = same_answer u v bs rest e in
    let spelled : IsSpelled mark (a ∷ b ∷ bs) u bs = record { fits = tt; bytes = λ i. letter i ∷ version i ∷ bs } in
    subst (λ r. IsSpelled mark (a ∷ b ∷ bs) v r) same.1 (subst (λ w. IsSpelled mark (a ∷ b ∷ bs) w bs) same.0 spelled)

mark_one : (bs : List ℕ) (v : Version) (rest : List ℕ) → read_mark bs ≡ Some (v, rest) → IsSpelled mark bs v rest
mark_one [] v rest e = cc
mark_one (a ∷ []) v rest e = cc
mark_one (a ∷ b ∷ bs) v rest e =
    by_byte a 83 _ _ (v, rest)
    (λ letter found. by_byte b 1 _ _ (v, rest) (λ version there. mark_here a b One v bs rest letter version there)
    (by_byte b 2 _ _ (v, rest) (λ version there. mark_here a b Two v bs rest letter version there) (λ none. cc)) found)
    (λ none. cc) e

mark_back : (v : Version) (rest : List ℕ) → read_mark (83 ∷ version_byte v ∷ [] ++ rest) ≡ Some (v, rest)
mark_back One rest = refl
mark_back Two rest = refl

mark_is_format : IsFormat mark
mark_is_format = record { reads_back = λ v rest fits. mark_back v rest; one_spelling = mark_one }

sign_back : {V : Type 0} (b : ℕ) (v w : V) (rest : List ℕ) → w ≡ v → read_sign b v (b ∷ rest) ≡ Some (w, rest)
sign_back {V} b v w rest is =
    ap (λ t. let found : Option (V × List ℕ) = Some (v, rest) in if t then found else None) (eq-eqb b b refl)
    ∙ ap (λ u. let found : Option (V × List ℕ) = Some (u, rest) in found) (sym is)

sign_one : {V : Type 0} (b : ℕ) (v : V) (bs : List ℕ) (w : V) (rest : List ℕ) → read_sign b v bs ≡ Some (w, rest) → IsSpelled (sign b v) bs w rest
sign_one b v [] w rest e = cc
sign_one b v (c ∷ bs) w rest e =
    by_byte c b _ _ (w, rest)
    (λ is found. let same = same_answer v w bs rest found in record { fits = sym same.0; bytes = λ i. is i ∷ same.1 i })
    (λ none. cc) e

pub sign_is_format : {V : Type 0} (b : ℕ) (v : V) → IsFormat (sign b v)
sign_is_format b v = record { reads_back = λ w rest fits. sign_back b v w rest fits; one_spelling = sign_one b v }

no_name_is_format : IsFormat no_name
no_name_is_format = record {
  reads_back = λ n rest fits. ap (λ n. let found : Option (Option (List ℕ) × List ℕ) = Some (n, rest) in found) (sym fits);
  one_spelling = λ bs n rest e. let same = same_answer None n bs rest e in record { fits = sym same.0; bytes = same.1 };
}

a_name_is_format : IsFormat a_name
a_name_is_format = made_of_is_format (λ n. Some n) (λ n. n) name (λ n. refl) (λ v n is. sym is) (raw_is_format 16)

label_is_format : (v : Version) → IsFormat (label v)
label_is_format One = no_name_is_format
label_is_format Two = a_name_is_format

nodes_fit : (v : Version) → most_nodes v < 256 ^ 1
nodes_fit One = lit< tt
nodes_fit Two = lit< tt

owner_is_format : (s : StackId) (v : Version) → IsFormat (owner s v)
owner_is_format s v =
    let parts = pair (sign (stack_byte s) s) (pair (number 1 0 255) (pair (number 1 1 (most_nodes v)) (label v))) in
    let are_parts : IsFormat parts =
    pair_is_format (sign (stack_byte s) s) (pair (number 1 0 255) (pair (number 1 1 (most_nodes v)) (label v))) (sign_is_format (stack_byte s) s)
    (pair_is_format (number 1 0 255) (pair (number 1 1 (most_nodes v)) (label v)) (number_is_format 1 0 255 (lit< tt))
    (pair_is_format (number 1 1 (most_nodes v)) (label v) (number_is_format 1 1 (most_nodes v) (nodes_fit v)) (label_is_format v))) in
    tested_is_format (λ o. is_spelled_in v s && nat_lt o.me o.nodes)
    (mapped (λ p. owner_as p.0 p.1.0 p.1.1.0 p.1.1.1) (λ o. (o.stack, (o.me, (o.nodes, o.name)))) parts)
    (mapped_is_format (λ p. owner_as p.0 p.1.0 p.1.1.0 p.1.1.1) (λ o. (o.stack, (o.me, (o.nodes, o.name)))) parts (λ o. refl) (λ p. refl) are_parts)

vote_back : (v : Option ℕ) (rest : List ℕ) → VoteFits v → read_vote (spell_vote v ++ rest) ≡ Some (v, rest)
vote_back None rest fits = refl
vote_back (Some n) rest fits =
    let other : Option (Option ℕ × List ℕ) = if nat_lt n NO_VOTE then Some (Some n, rest) else None in
    ap (λ b. let none : Option (Option ℕ × List ℕ) = Some (None, rest) in if b then none else other) (ne_eqb n NO_VOTE (λ is. omega (arith, is, fits)))
    ∙ ap (λ b. let found : Option (Option ℕ × List ℕ) = Some (Some n, rest) in if b then found else None) (lt-ltb n NO_VOTE fits)

vote_below : (b : ℕ) (bs : List ℕ) (v : Option ℕ) (rest : List ℕ) (t : Bool) → nat_lt b NO_VOTE ≡ t → ◌≡◌ {A = Option (Option ℕ × List ℕ)} (if t then Some (Some b, bs) else None) (Some (v, rest)) → IsSpelled any_vote (b ∷ bs) v rest
vote_below b bs v rest true below e =
    let same = same_answer (Some b) v bs rest e in
    let spelled : IsSpelled any_vote (b ∷ bs) (Some b) bs = record { fits = ltb-true b NO_VOTE below; bytes = refl } in
    subst (λ r. IsSpelled any_vote (b ∷ bs) v r) same.1 (subst (λ u. IsSpelled any_vote (b ∷ bs) u bs) same.0 spelled)
vote_below b bs v rest false below e = cc

vote_one : (bs : List ℕ) (v : Option ℕ) (rest : List ℕ) → read_vote bs ≡ Some (v, rest) → IsSpelled any_vote bs v rest
vote_one [] v rest e = cc
vote_one (b ∷ bs) v rest e =
    by_byte b NO_VOTE _ _ (v, rest)
    (λ is found. let same = same_answer None v bs rest found in
    let spelled : IsSpelled any_vote (b ∷ bs) None bs = record { fits = tt; bytes = ap (λ c. c ∷ bs) is } in
    subst (λ r. IsSpelled any_vote (b ∷ bs) v r) same.1 (subst (λ u. IsSpelled any_vote (b ∷ bs) u bs) same.0 spelled))
    (λ there. vote_below b bs v rest (nat_lt b NO_VOTE) refl there) e

pub vote_is_format : (nodes : ℕ) → IsFormat (vote nodes)
vote_is_format nodes = tested_is_format (λ v. is_among nodes v) any_vote (record { reads_back = vote_back; one_spelling = vote_one })

pub log_is_format : {C : Type 0} (e : Format (EntryView C)) → IsFormat e → IsFormat (log e)
log_is_format e is_e = keyed_is_format length log_index (λ n. listed e n) (λ n v fits. fits.0) log_index_is_format (λ n. listed_is_format e is_e n)

kept_is_format : {C : Type 0} (nodes : ℕ) (e : Format (EntryView C)) → IsFormat e → IsFormat (kept nodes e)
kept_is_format nodes e is_e =
    mapped_is_format (λ p. kept_as p.0 p.1.0 p.1.1) (λ k. (k.term, (k.voted, k.log))) (pair any_term (pair (vote nodes) (log e))) (λ k. refl) (λ p. refl)
    (pair_is_format any_term (pair (vote nodes) (log e)) any_term_is_format (pair_is_format (vote nodes) (log e) (vote_is_format nodes) (log_is_format e is_e)))

pub entry_in_is_format : {C : Type 0} (v : Version) (f : Format C) → IsFormat f → IsFormat (entry_in v f)
entry_in_is_format One f is_f = old_entry_is_format f is_f
entry_in_is_format Two f is_f = entry_is_format f is_f

module _ {C : Type 0} (s : StackId) (f : Format C) (is_f : IsFormat f) where
  state_is_format : (v : Version) → IsFormat (linked (owner s v) (λ o. kept o.nodes (entry_in v f)))
  state_is_format v =
      linked_is_format (owner s v) (λ o. kept o.nodes (entry_in v f)) (owner_is_format s v) (λ o. kept_is_format o.nodes (entry_in v f) (entry_in_is_format v f is_f))

  pub body_is_format : IsFormat (body s f)
  body_is_format =
      mapped_is_format (λ p. body_as p.0 p.1.0 p.1.1) (λ b. (b.version, (b.owner, b.kept))) (linked mark (λ v. linked (owner s v) (λ o. kept o.nodes (entry_in v f)))) (λ b. refl) (λ p. refl)
      (linked_is_format mark (λ v. linked (owner s v) (λ o. kept o.nodes (entry_in v f))) mark_is_format state_is_format)

-- what all of the bytes are, stands in front of nothing
module _ {V : Type 0} (f : Format V) (is_f : IsFormat f) where
  whole_here : (v u : V) (rest bs : List ℕ) → f.read bs ≡ Some (v, rest) → if_none_left v rest ≡ Some u → f.read bs ≡ Some (u, [])
  whole_here v u [] bs read e =
      let same : v ≡ u = cc in
      read ∙ ap (λ w. let found : Option (V × List ℕ) = Some (w, []) in found) same
  whole_here v u (b ∷ rest) bs read e = cc

  whole_by : (u : V) (bs : List ℕ) (o : Option (V × List ℕ)) → f.read bs ≡ o → whole o ≡ Some u → f.read bs ≡ Some (u, [])
  whole_by u bs None read e = cc
  whole_by u bs (Some p) read e = whole_here p.0 u p.1 bs read e

  pub whole_one : (bs : List ℕ) (u : V) → read_whole f bs ≡ Some u → IsSpelled f bs u []
  whole_one bs u e = is_f.one_spelling bs u [] (whole_by u bs (f.read bs) refl e)

module _ {C : Type 0} (s : StackId) (f : Format C) (is_f : IsFormat f) where
  -- the name shows the version
  named_by : (v : Version) (o : Owner) (k : KeptView C) (n : List ℕ) (bs : List ℕ) → o.name ≡ Some n → IsSpelled (body s f) bs (body_as v o k) [] → IsBodyOf s f (who_of o n) k bs
  named_by One o k n bs is spelled = let no : ◌≡◌ {A = Option (List ℕ)} None (Some n) = sym spelled.fits.1.0.0.1.1.1 ∙ is in cc
  named_by Two o k n bs is spelled =
      let same : o ≡ owner_of (who_of o n) = ap (λ m. owner_as o.stack o.me o.nodes m) is in
      record {
        fits = subst (λ o. (body s f).Fits (body_as Two o k)) same spelled.fits;
        bytes = spelled.bytes ∙ append-nil ((body s f).spell (body_as Two o k)) ∙ ap (λ o. (body s f).spell (body_as Two o k)) same;
      }

  one_by_name : (bs : List ℕ) (who : Who) (k : KeptView C) (b : Body C) (m : Option (List ℕ)) → read_whole (body s f) bs ≡ Some b → b.owner.name ≡ m → with_name b.owner b.kept m ≡ Some (who, k) → IsBodyOf s f who k bs
  one_by_name bs who k b None read is e = cc
  one_by_name bs who k b (Some n) read is e =
      let same : ◌≡◌ {A = Who × KeptView C} (who_of b.owner n, b.kept) (who, k) = cc in
      subst (λ (p : Who × KeptView C). IsBodyOf s f p.0 p.1 bs) same (named_by b.version b.owner b.kept n bs is (whole_one (body s f) (body_is_format s f is_f) bs b read))

  one_by : (bs : List ℕ) (who : Who) (k : KeptView C) (o : Option (Body C)) → read_whole (body s f) bs ≡ o → if_named o ≡ Some (who, k) → IsBodyOf s f who k bs
  one_by bs who k None read e = cc
  one_by bs who k (Some b) read e = one_by_name bs who k b b.owner.name read refl e

  pub body_one : (bs : List ℕ) (who : Who) (k : KeptView C) → read_body s f bs ≡ Some (who, k) → IsBodyOf s f who k bs
  body_one bs who k e = one_by bs who k (read_whole (body s f) bs) refl e

  pub body_back : (bs : List ℕ) (who : Who) (k : KeptView C) → IsBodyOf s f who k bs → read_body s f bs ≡ Some (who, k)
  body_back bs who k is =
      let b = body_of who k in
      let there : (body s f).read bs ≡ Some (b, []) =
      ap (body s f).read (is.bytes ∙ sym (append-nil ((body s f).spell b))) ∙ (body_is_format s f is_f).reads_back b [] is.fits in
      ap (λ o. if_named (whole o)) there

pub vote_fits : (nodes : ℕ) (v : Option ℕ) → nodes ≤ MAX_NODES → VoteAmong nodes v → (vote nodes).Fits v
vote_fits nodes None few voted = (tt, refl)
vote_fits nodes (Some n) few voted = (omega (arith, few, voted), lt-ltb n nodes voted)

-- what has a body: a node of a cluster of the stack, with a name, whose vote and whose log are in their ranges
pub body_fits : {C : Type 0} (s : StackId) (f : Format C) (who : Who) (k : KeptView C) → who.stack ≡ s → (1 ≤ who.nodes) × (who.nodes ≤ MAX_NODES) → who.me < who.nodes → name.Fits who.name
    → k.term ≤ MAX_TERM → VoteAmong who.nodes k.voted → (log (entry f)).Fits k.log → (body s f).Fits (body_of who k)
body_fits s f who k stack nodes me named term voted entries = (
  tt,
  (
    ((stack, ((omega arith, omega (arith, me, nodes.1)), (nodes, named))), lt-ltb who.me who.nodes me),
    ((omega arith, term), (vote_fits who.nodes k.voted nodes.1 voted, entries)),
  ),
)
