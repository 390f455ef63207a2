use Rattle.std.proofs.Common.{◌≡◌, ℕ, inl, inr, ap, arith, refl}
use Rattle.commands.specs.Lines.{read_failed_line}
use Rattle.commands.specs.Seen.{SinkSeen}
use Rattle.commands.specs.declared.trouble.Trouble.TheVariants as trouble
use Rattle.commands.proofs.NodeRefuted.{says_no_opening, wants_no_beginning, wants_no_receive}
use Rattle.commands.proofs.NodeSilent.{served, sized, unread, wanting_first}
use Rattle.commands.proofs.node_examples.worked_failures.Goals as goal

pub returns-clause-out_failed : goal.returns-clause-out_failed
returns-clause-out_failed c = inl (record {
  served = served _ _ (record { begin = refl; receive = refl; store = refl; send = omega arith });
  front = (3, refl);
  rose = omega arith;
  unwanted = refl;
  err = refl;
})

pub returns-clause-out_failed_uncounted : goal.returns-clause-out_failed_uncounted
returns-clause-out_failed_uncounted c = λ h. elim h [
  | inl x ↦ omega (arith, x.rose)
  | inr x ↦ omega (arith, x.rose)
]

pub returns-clause-out_wanted_as_failed : goal.returns-clause-out_wanted_as_failed
returns-clause-out_wanted_as_failed c = λ h. elim h [
  | inl x ↦ omega (arith, x.rose)
  | inr x ↦ omega (arith, x.rose)
]

pub returns-clause-err_failed : goal.returns-clause-err_failed
returns-clause-err_failed c = inr (record {
  saying = record { line = read_failed_line; may = inl (trouble.Read, unread, refl); front = (2, refl); out = inl refl };
  rose = omega arith;
  unwanted = refl;
})

pub returns-clause-err_failed_in_another_line : goal.returns-clause-err_failed_in_another_line
returns-clause-err_failed_in_another_line c = λ h. elim h [
  | inl x ↦ omega (arith, x.rose)
  | inr x ↦ says_no_opening x.saying.line x.saying.may x.saying.front
]

pub returns-clause-err_failed_uncounted : goal.returns-clause-err_failed_uncounted
returns-clause-err_failed_uncounted c = λ h. elim h [
  | inl x ↦ omega (arith, x.rose)
  | inr x ↦ omega (arith, x.rose)
]

pub returns-clause-wrote_at_most : goal.returns-clause-wrote_at_most
returns-clause-wrote_at_most c =
    inr (served _ _ (record { begin = refl; receive = refl; store = refl; send = omega arith }), record { front = (3, refl); unfailed = refl; rose = omega arith })

pub returns-clause-wrote_in_part : goal.returns-clause-wrote_in_part
returns-clause-wrote_in_part c = λ h. elim h [
  | inl same ↦ let e : ◌≡◌ {A = ℕ} 3 0 = ap (λ (k : SinkSeen). sized k.written) same in omega (arith, e)
  | inr x ↦ omega (arith, x.1.rose)
]

pub returns-clause-wanted : goal.returns-clause-wanted
returns-clause-wanted c = record {
  said = inl (record { came = wanting_first; err = refl; unwanted = refl; out = inl refl });
  reads = inl refl;
  out = refl;
  err = refl;
}

pub returns-clause-wanted_in_silence : goal.returns-clause-wanted_in_silence
returns-clause-wanted_in_silence c = λ h. elim h.said [
  | inl x ↦ let e : ◌≡◌ {A = ℕ} 0 7 = ap sized x.err in omega (arith, e)
  | inr x ↦ omega (arith, x.rose)
]

pub returns-clause-wanted_after_turns_that_none_took : goal.returns-clause-wanted_after_turns_that_none_took
returns-clause-wanted_after_turns_that_none_took c = λ h. elim h.said [
  | inl x ↦ elim x.out [
    | inl same ↦ let e : ◌≡◌ {A = ℕ} 8 0 = ap (λ (k : SinkSeen). sized k.written) same in omega (arith, e)
    | inr wrote ↦ omega (arith, wrote.1.rose)
  ]
  | inr x ↦ omega (arith, x.rose)
]

pub returns-clause-wanted_for_the_line_of_a_read : goal.returns-clause-wanted_for_the_line_of_a_read
returns-clause-wanted_for_the_line_of_a_read c = record {
  said = inr (record {
    saying = record { line = read_failed_line; may = inl (trouble.Read, unread, refl); front = (2, refl); out = inl refl };
    rose = omega arith;
  });
  reads = inr (record { came = unread; front = (2, refl); rose = omega arith });
  out = refl;
  err = refl;
}

pub returns-clause-wanted_in_another_line : goal.returns-clause-wanted_in_another_line
returns-clause-wanted_in_another_line c = λ h. elim h.said [
  | inl x ↦ let e : ◌≡◌ {A = ℕ} 2 7 = ap sized x.err in omega (arith, e)
  | inr x ↦ says_no_opening x.saying.line x.saying.may x.saying.front
]

pub returns-clause-wanted_for_a_read : goal.returns-clause-wanted_for_a_read
returns-clause-wanted_for_a_read c = λ h. elim h.reads [
  | inl same ↦ let e : ◌≡◌ {A = ℕ} 1 0 = same in omega (arith, e)
  | inr x ↦ omega (arith, x.rose)
]

pub returns-clause-wanted_for_a_failed_write : goal.returns-clause-wanted_for_a_failed_write
returns-clause-wanted_for_a_failed_write c = λ h. let e : ◌≡◌ {A = ℕ} 1 0 = h.err in omega (arith, e)

pub returns-clause-wanted_for_a_beginning : goal.returns-clause-wanted_for_a_beginning
returns-clause-wanted_for_a_beginning c = λ h. elim h.said [
  | inl x ↦ wants_no_beginning x.came
  | inr x ↦ omega (arith, x.rose)
]

pub returns-clause-wanted_for_a_receive : goal.returns-clause-wanted_for_a_receive
returns-clause-wanted_for_a_receive c = λ h. elim h.said [
  | inl x ↦ wants_no_receive x.came
  | inr x ↦ omega (arith, x.rose)
]
