-- Each request and each answer of a cluster has one text, where the machine's commands and outputs have one.
use Rattle.std.specs.Prelude.{◌≡◌, ◌==◌, ℕ, Bool, true, false, nat_le, List, [], ◌∷◌, ◌++◌, Option, None, Some, codes, refl, option_map, option_and_then, cond, if◌then◌else◌}
use Rattle.std.specs.Fmt.{decimal}
use Rattle.std.specs.List.{list_all, list_any}
use Rattle.std.proofs.Common.{sym, ap, subst, ◌∙◌, arith}
use Rattle.std.proofs.lemmas.Bool.{and_parts, or_from, eqb-true, leb-true, ne_eqb}
use Rattle.std.proofs.lemmas.Fmt.{digits_decimal}
use Rattle.std.proofs.lemmas.List.Folds.{list_any-append}
use Rattle.std.proofs.lemmas.Slice.Eq.{bytes_eq-Decides}
use Rattle.app_text.specs.Spelling.{IsSpelling}
use Rattle.line_reader.specs.Lines.{onto_cut}
use Rattle.raft_types.specs.declared.client.RaftInput.{RaftInput}
use Rattle.raft_types.specs.declared.client.RaftOut.{RaftOut}
use Rattle.raft_types.specs.declared.client.RaftOut.TheVariants.{Reply, NotLeader, Full}
use Rattle.schedule_text.specs.Words.{cut, is_digit}
use Rattle.schedule_text.proofs.NumeralLaws.{own, number_up_to-decimal, numeral_read}
use Rattle.schedule_text.proofs.ReadBackLaws.{cut-digits}
use Rattle.raft_text.specs.RaftTexts.{IsNumber, number_of, names_text, named_text, front_number, names_of, named_of, asked, IsRaftInput, raft_input_of, raft_input_text, IsRaftOutput, reply_of, answer_of, raft_output_of, raft_output_text}

-- what was cut is the text again
cut_joined_by : (b : ℕ) (bs : List ℕ) (p : List ℕ × List ℕ) (here : Bool) (o : Option (List ℕ × List ℕ)) → (b == 32) ≡ here → ((q : List ℕ × List ℕ) → o ≡ Some q → q.0 ++ 32 ∷ q.1 ≡ bs)
    → cond here (Some ([], bs)) (onto_cut b o) ≡ Some p → p.0 ++ 32 ∷ p.1 ≡ b ∷ bs
cut_joined_by b bs p true o is_here joined e =
    let pair : ◌≡◌ {A = List ℕ × List ℕ} ([], bs) p = cc in
    subst (λ (q : List ℕ × List ℕ). q.0 ++ 32 ∷ q.1 ≡ b ∷ bs) pair (ap (λ c. c ∷ bs) (sym (eqb-true b 32 is_here)))
cut_joined_by b bs p false (Some q) is_here joined e =
    let pair : ◌≡◌ {A = List ℕ × List ℕ} (b ∷ q.0, q.1) p = cc in
    subst (λ (q : List ℕ × List ℕ). q.0 ++ 32 ∷ q.1 ≡ b ∷ bs) pair (ap (λ t. b ∷ t) (joined q refl))
cut_joined_by b bs p false None is_here joined e = cc

cut_joined : (bs : List ℕ) (p : List ℕ × List ℕ) → cut bs ≡ Some p → p.0 ++ 32 ∷ p.1 ≡ bs
cut_joined [] p e = cc
cut_joined (b ∷ bs) p e = cut_joined_by b bs p (b == 32) (cut bs) refl (λ q is. cut_joined bs q is) e

-- numbers that were read stand in the text as their digits
record IsFront (bs : List ℕ) (p : ℕ × List ℕ) : Type 0 where
  text : decimal p.0 ++ 32 ∷ p.1 ≡ bs
  fits : IsNumber p.0

number_read : (w : List ℕ) (n : ℕ) → number_of w ≡ Some n → (decimal n ≡ w) × IsNumber n
number_read w n e =
    let read = numeral_read 18446744073709551615 w n (omega arith) e in
    (sym read.digits, read.fits)

front_read : (bs : List ℕ) (v : ℕ × List ℕ) → front_number bs ≡ Some v → IsFront bs v
front_read bs v e = by (cut bs) refl e
  where
    with_number : (p : List ℕ × List ℕ) (o : Option ℕ) → cut bs ≡ Some p → number_of p.0 ≡ o → option_map (λ n. (n, p.1)) o ≡ Some v → IsFront bs v
    with_number p (Some n) is reads e =
        let pair : ◌≡◌ {A = ℕ × List ℕ} (n, p.1) v = cc in
        let number = number_read p.0 n reads in
        subst (IsFront bs) pair (record { text = ap (λ w. w ++ 32 ∷ p.1) number.0 ∙ cut_joined bs p is; fits = number.1 })
    with_number p None is reads e = cc

    by : (o : Option (List ℕ × List ℕ)) → cut bs ≡ o → option_and_then (λ p. option_map (λ n. (n, p.1)) (number_of p.0)) o ≡ Some v → IsFront bs v
    by (Some p) is e = with_number p (number_of p.0) is refl e
    by None is e = cc

record AreNames (bs : List ℕ) (p : ℕ × ℕ) : Type 0 where
  text : names_text p.0 p.1 ≡ bs
  client : IsNumber p.0
  request : IsNumber p.1

names_read : (bs : List ℕ) (v : ℕ × ℕ) → names_of bs ≡ Some v → AreNames bs v
names_read bs v e = by (front_number bs) refl e
  where
    with_number : (p : ℕ × List ℕ) (o : Option ℕ) → front_number bs ≡ Some p → number_of p.1 ≡ o → option_map (λ n. (p.0, n)) o ≡ Some v → AreNames bs v
    with_number p (Some n) is reads e =
        let pair : ◌≡◌ {A = ℕ × ℕ} (p.0, n) v = cc in
        let number = number_read p.1 n reads in
        let front = front_read bs p is in
        subst (AreNames bs) pair (record { text = ap (λ w. decimal p.0 ++ 32 ∷ w) number.0 ∙ front.text; client = front.fits; request = number.1 })
    with_number p None is reads e = cc

    by : (o : Option (ℕ × List ℕ)) → front_number bs ≡ o → option_and_then (λ p. option_map (λ n. (p.0, n)) (number_of p.1)) o ≡ Some v → AreNames bs v
    by (Some p) is e = with_number p (number_of p.1) is refl e
    by None is e = cc

record IsNamed (bs : List ℕ) (p : ℕ × ℕ × List ℕ) : Type 0 where
  text : named_text p.0 p.1 p.2 ≡ bs
  client : IsNumber p.0
  request : IsNumber p.1

named_read : (bs : List ℕ) (v : ℕ × ℕ × List ℕ) → named_of bs ≡ Some v → IsNamed bs v
named_read bs v e = by (front_number bs) refl e
  where
    with_front : (p : ℕ × List ℕ) (o : Option (ℕ × List ℕ)) → front_number bs ≡ Some p → front_number p.1 ≡ o → option_map (λ q. (p.0, q.0, q.1)) o ≡ Some v → IsNamed bs v
    with_front p (Some q) is reads e =
        let triple : ◌≡◌ {A = ℕ × ℕ × List ℕ} (p.0, q.0, q.1) v = cc in
        let first = front_read bs p is in
        let second = front_read p.1 q reads in
        subst (IsNamed bs) triple (record { text = ap (λ w. decimal p.0 ++ 32 ∷ w) second.text ∙ first.text; client = first.fits; request = second.fits })
    with_front p None is reads e = cc

    by : (o : Option (ℕ × List ℕ)) → front_number bs ≡ o → option_and_then (λ p. option_map (λ q. (p.0, q.0, q.1)) (front_number p.1)) o ≡ Some v → IsNamed bs v
    by (Some p) is e = with_front p (front_number p.1) is refl e
    by None is e = cc

-- and numbers that were printed read back
number_reads_back : (n : ℕ) → IsNumber n → number_of (decimal n) ≡ Some n
number_reads_back n fits = number_up_to-decimal 18446744073709551615 n fits (omega arith)

front_reads_back : (n : ℕ) (rest : List ℕ) → IsNumber n → front_number (decimal n ++ 32 ∷ rest) ≡ Some (n, rest)
front_reads_back n rest fits =
    let front : cut (decimal n ++ 32 ∷ rest) ≡ Some (decimal n, rest) = cut-digits (decimal n) rest (digits_decimal own n (omega (arith, fits))) in
    rw (front, number_reads_back n fits) refl

names_read_back : (client request : ℕ) → IsNumber client → IsNumber request → names_of (names_text client request) ≡ Some (client, request)
names_read_back client request c r = rw (front_reads_back client (decimal request) c, number_reads_back request r) refl

named_reads_back : (client request : ℕ) (text : List ℕ) → IsNumber client → IsNumber request → named_of (named_text client request text) ≡ Some (client, request, text)
named_reads_back client request text c r = rw (front_reads_back client (decimal request ++ 32 ∷ text) c, front_reads_back request text r) refl

-- no number has a newline
abbrev IsOneLine : List ℕ → Type 0
IsOneLine bs = list_any (λ b. b == 10) bs ≡ false

both_one_line : (xs ys : List ℕ) → IsOneLine xs → IsOneLine ys → IsOneLine (xs ++ ys)
both_one_line xs ys x y = list_any-append (λ b. b == 10) xs ys ∙ or_from _ _ x y

digits_one_line : (ds : List ℕ) → list_all is_digit ds ≡ true → IsOneLine ds
digits_one_line [] all = refl
digits_one_line (d ∷ ds) all =
    let parts : (is_digit d ≡ true) × (list_all is_digit ds ≡ true) = and_parts (is_digit d) (list_all is_digit ds) all in
    let first : (nat_le 48 d ≡ true) × (nat_le d 57 ≡ true) = and_parts (nat_le 48 d) (nat_le d 57) parts.0 in
    or_from _ _ (ne_eqb d 10 (λ e. omega (arith, leb-true 48 d first.0, e))) (digits_one_line ds parts.1)

number_one_line : (n : ℕ) → IsNumber n → IsOneLine (decimal n)
number_one_line n fits = digits_one_line (decimal n) (digits_decimal own n (omega (arith, fits)))

names_one_line : (client request : ℕ) → IsNumber client → IsNumber request → IsOneLine (names_text client request)
names_one_line client request c r = both_one_line (decimal client) (32 ∷ decimal request) (number_one_line client c) (number_one_line request r)

named_one_line : (client request : ℕ) (text : List ℕ) → IsNumber client → IsNumber request → IsOneLine text → IsOneLine (named_text client request text)
named_one_line client request text c r plain =
    both_one_line (decimal client) (32 ∷ (decimal request ++ 32 ∷ text)) (number_one_line client c) (both_one_line (decimal request) (32 ∷ text) (number_one_line request r) plain)

module _ {C : Type 0} {IsCommand : C → Type 0} {command_of : List ℕ → Option C} {command_text : C → List ℕ} (s : IsSpelling IsCommand command_of command_text) where
  record IsReadInput (bs : List ℕ) (q : RaftInput C) : Type 0 where
    text : raft_input_text command_text q ≡ bs
    has_text : IsRaftInput IsCommand q

  read_input : (bs : List ℕ) (v : RaftInput C) → raft_input_of command_of bs ≡ Some v → IsReadInput bs v
  read_input bs v e = by (named_of bs) refl e
    where
      with_command : (p : ℕ × ℕ × List ℕ) (o : Option C) → named_of bs ≡ Some p → command_of p.2 ≡ o → option_map (λ cmd. asked p.0 p.1 cmd) o ≡ Some v → IsReadInput bs v
      with_command p (Some c) is reads e =
          let same : asked p.0 p.1 c ≡ v = cc in
          let named = named_read bs p is in
          subst (IsReadInput bs) same (record { text = ap (λ t. named_text p.0 p.1 t) (s.one_text p.2 c reads) ∙ named.text; has_text = (named.client, named.request, s.has_text p.2 c reads) })
      with_command p None is reads e = cc

      by : (o : Option (ℕ × ℕ × List ℕ)) → named_of bs ≡ o → option_and_then (λ p. option_map (λ cmd. asked p.0 p.1 cmd) (command_of p.2)) o ≡ Some v → IsReadInput bs v
      by (Some p) is e = with_command p (command_of p.2) is refl e
      by None is e = cc

  input_reads_back : (q : RaftInput C) → IsRaftInput IsCommand q → raft_input_of command_of (raft_input_text command_text q) ≡ Some q
  input_reads_back q has = rw (named_reads_back q.client q.request (command_text q.cmd) has.0 has.1, s.reads_back q.cmd has.2) refl

  pub raft_inputs_are_spelled : IsSpelling (IsRaftInput IsCommand) (raft_input_of command_of) (raft_input_text command_text)
  raft_inputs_are_spelled = record {
    one_text = λ bs q e. (read_input bs q e).text;
    has_text = λ bs q e. (read_input bs q e).has_text;
    reads_back = input_reads_back;
    one_line = λ q has. named_one_line q.client q.request (command_text q.cmd) has.0 has.1 (s.one_line q.cmd has.2);
  }

module _ {O : Type 0} {IsOutput : O → Type 0} {output_of : List ℕ → Option O} {output_text : O → List ℕ} (s : IsSpelling IsOutput output_of output_text) where
  -- after a word
  record IsReadAnswer (word rest : List ℕ) (v : RaftOut O) : Type 0 where
    text : raft_output_text output_text v ≡ word ++ 32 ∷ rest
    has_text : IsRaftOutput IsOutput v

  read_reply : (rest : List ℕ) (v : RaftOut O) → reply_of output_of rest ≡ Some v → IsReadAnswer (codes "reply") rest v
  read_reply rest v e = by (named_of rest) refl e
    where
      with_output : (p : ℕ × ℕ × List ℕ) (o : Option O) → named_of rest ≡ Some p → output_of p.2 ≡ o → option_map (λ o. Reply p.0 p.1 o) o ≡ Some v → IsReadAnswer (codes "reply") rest v
      with_output p (Some o) is reads e =
          let same : Reply p.0 p.1 o ≡ v = cc in
          let named = named_read rest p is in
          subst (IsReadAnswer (codes "reply") rest) same (record {
            text = ap (λ t. codes "reply " ++ t) (ap (λ t. named_text p.0 p.1 t) (s.one_text p.2 o reads) ∙ named.text);
            has_text = (named.client, named.request, s.has_text p.2 o reads);
          })
      with_output p None is reads e = cc

      by : (o : Option (ℕ × ℕ × List ℕ)) → named_of rest ≡ o → option_and_then (λ p. option_map (λ o. Reply p.0 p.1 o) (output_of p.2)) o ≡ Some v → IsReadAnswer (codes "reply") rest v
      by (Some p) is e = with_output p (output_of p.2) is refl e
      by None is e = cc

  read_notleader : (rest : List ℕ) (v : RaftOut O) (o : Option (ℕ × ℕ)) → names_of rest ≡ o → option_map (λ p. NotLeader p.0 p.1) o ≡ Some v → IsReadAnswer (codes "notleader") rest v
  read_notleader rest v (Some p) is e =
      let same : ◌≡◌ {A = RaftOut O} (NotLeader p.0 p.1) v = cc in
      let names = names_read rest p is in
      subst (IsReadAnswer (codes "notleader") rest) same (record { text = ap (λ t. codes "notleader " ++ t) names.text; has_text = (names.client, names.request) })
  read_notleader rest v None is e = cc

  read_full : (rest : List ℕ) (v : RaftOut O) (o : Option (ℕ × ℕ)) → names_of rest ≡ o → option_map (λ p. Full p.0 p.1) o ≡ Some v → IsReadAnswer (codes "full") rest v
  read_full rest v (Some p) is e =
      let same : ◌≡◌ {A = RaftOut O} (Full p.0 p.1) v = cc in
      let names = names_read rest p is in
      subst (IsReadAnswer (codes "full") rest) same (record { text = ap (λ t. codes "full " ++ t) names.text; has_text = (names.client, names.request) })
  read_full rest v None is e = cc

  -- by the test that the word passes
  read_answer : (word rest : List ℕ) (v : RaftOut O) (reply notleader full : Bool)
      → (reply ≡ true → word ≡ codes "reply") → (notleader ≡ true → word ≡ codes "notleader") → (full ≡ true → word ≡ codes "full")
      → (if reply then reply_of output_of rest
      else if notleader then option_map (λ p. NotLeader p.0 p.1) (names_of rest)
      else if full then option_map (λ p. Full p.0 p.1) (names_of rest)
      else None) ≡ Some v → IsReadAnswer word rest v
  read_answer word rest v true notleader full is_reply is_notleader is_full e = subst (λ w. IsReadAnswer w rest v) (sym (is_reply refl)) (read_reply rest v e)
  read_answer word rest v false true full is_reply is_notleader is_full e = subst (λ w. IsReadAnswer w rest v) (sym (is_notleader refl)) (read_notleader rest v (names_of rest) refl e)
  read_answer word rest v false false true is_reply is_notleader is_full e = subst (λ w. IsReadAnswer w rest v) (sym (is_full refl)) (read_full rest v (names_of rest) refl e)
  read_answer word rest v false false false is_reply is_notleader is_full e = cc

  record IsReadOutput (bs : List ℕ) (v : RaftOut O) : Type 0 where
    text : raft_output_text output_text v ≡ bs
    has_text : IsRaftOutput IsOutput v

  read_output : (bs : List ℕ) (v : RaftOut O) → raft_output_of output_of bs ≡ Some v → IsReadOutput bs v
  read_output bs v e = by (cut bs) refl e
    where
      by : (o : Option (List ℕ × List ℕ)) → cut bs ≡ o → option_and_then (λ p. answer_of output_of p.0 p.1) o ≡ Some v → IsReadOutput bs v
      by (Some p) is e =
          let word = λ (text : List ℕ). (bytes_eq-Decides p.0 text).0 in
          let read = read_answer p.0 p.1 v _ _ _ (word (codes "reply")) (word (codes "notleader")) (word (codes "full")) e in
          record { text = read.text ∙ cut_joined bs p is; has_text = read.has_text }
      by None is e = cc

  output_reads_back : (v : RaftOut O) → IsRaftOutput IsOutput v → raft_output_of output_of (raft_output_text output_text v) ≡ Some v
  output_reads_back (Reply client request o) has = rw (named_reads_back client request (output_text o) has.0 has.1, s.reads_back o has.2) refl
  output_reads_back (NotLeader client request) has = rw (names_read_back client request has.0 has.1) refl
  output_reads_back (Full client request) has = rw (names_read_back client request has.0 has.1) refl

  output_one_line : (v : RaftOut O) → IsRaftOutput IsOutput v → IsOneLine (raft_output_text output_text v)
  output_one_line (Reply client request o) has = named_one_line client request (output_text o) has.0 has.1 (s.one_line o has.2)
  output_one_line (NotLeader client request) has = names_one_line client request has.0 has.1
  output_one_line (Full client request) has = names_one_line client request has.0 has.1

  pub raft_outputs_are_spelled : IsSpelling (IsRaftOutput IsOutput) (raft_output_of output_of) (raft_output_text output_text)
  raft_outputs_are_spelled = record {
    one_text = λ bs v e. (read_output bs v e).text;
    has_text = λ bs v e. (read_output bs v e).has_text;
    reads_back = output_reads_back;
    one_line = output_one_line;
  }
