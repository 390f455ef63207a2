-- What a check of a text comes to on the stack that is found for it, over whatever is found: so no proof looks at each stack of the table.
use Rattle.std.specs.Prelude.{◌≡◌, ℕ, List, Option, Some, Result, Err, IfSome}
use Rattle.std.proofs.Common.{subst}
use Rattle.line_reader.specs.Lines.{lines_of}
use Rattle.line_reader.specs.declared.why.Why.TheVariants as why
use Rattle.claim_verdicts.specs.declared.verdict.Verdict.{Verdict}
use Rattle.vst_base.specs.Stacks.{row_of}
use Rattle.vst_base.specs.declared.stack.StackId.{StackId}
use Rattle.vst_base.specs.declared.stack.StackRow.{StackRow}
use Rattle.stacks.specs.Checks.{checked, checked_on, refused_on, refused_so_far}
use Rattle.stacks.specs.Claimed.{AnyClaims, claims_on}
use Rattle.stacks.specs.Plays.{Found, Here, IfFound, Nowhere, found_or}
use Rattle.stacks.specs.Stack.{stack_at}
use Rattle.stacks.proofs.Found.{claims-from-stack}
use Rattle.trace_check.specs.Outcomes.{ChecksText, ComesTo}
use Rattle.trace_check.specs.declared.fault.CheckFault.{CheckFault}

module _ (left left' : Option (List ℕ)) (faults faults' : ℕ) (result : Result Verdict CheckFault) where
  abbrev Is : ℕ → AnyClaims → Type 0
  Is n a = ChecksText n a.plays.play a.claimed left left' faults faults' result

  found-told : (n : ℕ) (x : Found AnyClaims) → IfFound x (Is n)
      → IfSome left (λ bytes. ComesTo (λ bs. found_or (Err (1, why.Header)) (λ a. checked_on n a.plays.play a.claimed (lines_of bs)) x)
      (λ ls. found_or (Some (1, why.Header)) (λ a. refused_on n a.plays.play a.claimed ls) x) bytes left' result)
  found-told n Nowhere is = elim is [ ]
  found-told n (Here a) is = is.told

  -- by the row of the stack
  pub checked-told : (i : StackId) (row : StackRow) → row ≡ row_of i
      → IfFound (stack_at (record { net = row.net; stack = i; nodes = row.most })) (λ s. ChecksText row.most s.plays.play s.claimed left left' faults faults' result)
      → IfSome left (λ bytes. ComesTo (checked i) (refused_so_far i) bytes left' result)
  checked-told i row is there =
      found-told (row_of i).most (claims_on i) (claims-from-stack i (Is (row_of i).most)
      (subst (λ (r : StackRow). IfFound (stack_at (record { net = r.net; stack = i; nodes = r.most })) (λ s. ChecksText r.most s.plays.play s.claimed left left' faults faults' result)) is there))
