use Rattle.std.specs.Prelude.{◌≡◌, false, [], ◌∷◌, ◌++◌, length, true, Some, Err}
use Rattle.std.proofs.Common.{ap, subst, sym, ◌∙◌}
use Rattle.std.proofs.lemmas.Result.{err_from_is_err_and}
use Rattle.std.proofs.lemmas.List.{append-nil}
use Rattle.std.specs.Option.{option_to_list}
use Rattle.raft_reads.specs.Clusters.{input_of}
use Rattle.vst_base.specs.declared.step.Step.TheVariants as step
use Rattle.xform_stack.specs.Running.{IsRunAnswer}
use Rattle.read_observer.proofs.Checking.{Checks, goes-on, no_input, refused-pair, refused-within, within}
use Rattle.read_observer.specs.Pairs.{CheckedView, HasNoted, checked, inputs_in, uses_again}
use Rattle.read_observer.proofs.checked.PairCheckedRuns.step.Goals as goal

pub returns-then-is_used-clause-refused : goal.returns-then-is_used-clause-refused
returns-then-is_used-clause-refused g c = λ ss gone had.
    let r = g.R.Runs in
    let is_read = g.M.Queries.reads c.self.inside.machine in
    let p = r.played c.self.inside.running in
    let v : CheckedView g.row.M.Denot g.row.R.Denot = record { running = c.self.inside.running; machine = c.self.inside.machine; pairs = c.self.inside.pairs } in
    let ran = rw (← c.self.view_is) at had in
    let has : Checks is_read {M = g.row.M.Denot} p r.follows r.progress ss gone v = record { followed = ran.followed; traced = ran.traced; allowed = ran.allowed; counted = ran.counted } in
    let input = c.in-In.input in
    let again : uses_again is_read (inputs_in ss) (Some input) ≡ true = sym (c.is_used.ensures is_read (inputs_in ss) (sym c.is_read-reads.ensures) has.followed.1) ∙ c.if-is_used.true in
    let within = c.refusal_of_input.ensures ss gone input (within is_read p r.follows r.progress ss gone v has) in
    let refused = refused-pair is_read p r.follows r.progress ss gone v has (step.In c.in-In.node input) c.refusal_of_input.result again within in
    rw (← c.self.view_is) (subst (λ s. (checked is_read p).refused (ss ++ s ∷ []) ≡ Some (length ss, c.unwrap_or-why.result)) (sym c.in-In.is)
    (refused ∙ ap (λ y. Some (length ss, y)) (sym c.unwrap_or-why.ensures)))

pub returns-in_err-step-2-clause-refused : goal.returns-in_err-step-2-clause-refused
returns-in_err-step-2-clause-refused g c = λ ss gone had.
    let r = g.R.Runs in
    let is_read = g.M.Queries.reads c.self.inside.machine in
    let p = r.played c.self.inside.running in
    let v : CheckedView g.row.M.Denot g.row.R.Denot = record { running = c.self.inside.running; machine = c.self.inside.machine; pairs = c.self.inside.pairs } in
    let ran = rw (← c.self.view_is) at had in
    let has : Checks is_read {M = g.row.M.Denot} p r.follows r.progress ss gone v = record { followed = ran.followed; traced = ran.traced; allowed = ran.allowed; counted = ran.counted } in
    let unused : uses_again is_read (inputs_in ss) (Some c.in-In.input) ≡ false = sym (c.is_used.ensures is_read (inputs_in ss) (sym c.is_read-reads.ensures) has.followed.1) ∙ c.if-is_used.false in
    let none : uses_again is_read (inputs_in ss) (input_of c.args.step.now) ≡ false = subst (λ s. uses_again is_read (inputs_in ss) (input_of s) ≡ false) (sym c.in-In.is) unused in
    let same = refused-within is_read p r.follows r.progress ss gone v has c.args.step.now none in
    let q = err_from_is_err_and c.from_residual-in_err-step-2.result c.from_residual-in_err-step-2.ensures.1 in
    let y = c.in_err-step-2.field-0.0 in
    rw (← c.self.view_is, q.1, q.2) (subst (λ o. IsRunAnswer {A = Unit {0}} (Err y) (length ss) o) (sym same) (c.in_err-step-2.ensures.refused ss gone (within is_read p r.follows r.progress ss gone v has)))

pub returns-in_err-note-clause-refused : goal.returns-in_err-note-clause-refused
returns-in_err-note-clause-refused g c = λ ss gone had.
    let r = g.R.Runs in
    let is_read = g.M.Queries.reads c.self.inside.machine in
    let p = r.played c.self.inside.running in
    let v : CheckedView g.row.M.Denot g.row.R.Denot = record { running = c.self.inside.running; machine = c.self.inside.machine; pairs = c.self.inside.pairs } in
    let ran = rw (← c.self.view_is) at had in
    let has : Checks is_read {M = g.row.M.Denot} p r.follows r.progress ss gone v = record { followed = ran.followed; traced = ran.traced; allowed = ran.allowed; counted = ran.counted } in
    let unused : uses_again is_read (inputs_in ss) (Some c.in-In.input) ≡ false = sym (c.is_used.ensures is_read (inputs_in ss) (sym c.is_read-reads.ensures) has.followed.1) ∙ c.if-is_used.false in
    let none : uses_again is_read (inputs_in ss) (input_of c.args.step.now) ≡ false = subst (λ s. uses_again is_read (inputs_in ss) (input_of s) ≡ false) (sym c.in-In.is) unused in
    let same = refused-within is_read p r.follows r.progress ss gone v has c.args.step.now none in
    let q = err_from_is_err_and c.from_residual-in_err-note.result c.from_residual-in_err-note.ensures.1 in
    rw (← c.self.view_is, q.1, q.2) (same ∙ c.in_ok-step-2.ensures.refused ss gone (within is_read p r.follows r.progress ss gone v has))

pub returns-clause-refused : goal.returns-clause-refused
returns-clause-refused g c = λ ss gone had.
    let r = g.R.Runs in
    let is_read = g.M.Queries.reads c.self.inside.machine in
    let p = r.played c.self.inside.running in
    let v : CheckedView g.row.M.Denot g.row.R.Denot = record { running = c.self.inside.running; machine = c.self.inside.machine; pairs = c.self.inside.pairs } in
    let ran = rw (← c.self.view_is) at had in
    let has : Checks is_read {M = g.row.M.Denot} p r.follows r.progress ss gone v = record { followed = ran.followed; traced = ran.traced; allowed = ran.allowed; counted = ran.counted } in
    let unused : uses_again is_read (inputs_in ss) (Some c.in-In.input) ≡ false = sym (c.is_used.ensures is_read (inputs_in ss) (sym c.is_read-reads.ensures) has.followed.1) ∙ c.if-is_used.false in
    let none : uses_again is_read (inputs_in ss) (input_of c.args.step.now) ≡ false = subst (λ s. uses_again is_read (inputs_in ss) (input_of s) ≡ false) (sym c.in-In.is) unused in
    let same = refused-within is_read p r.follows r.progress ss gone v has c.args.step.now none in
    rw (← c.self.view_is) (same ∙ c.in_ok-step-2.ensures.refused ss gone (within is_read p r.follows r.progress ss gone v has))

pub returns-clause-next : goal.returns-clause-next
returns-clause-next g c = λ ss gone had.
    let r = g.R.Runs in
    let is_read = g.M.Queries.reads c.self.inside.machine in
    let p = r.played c.self.inside.running in
    let v : CheckedView g.row.M.Denot g.row.R.Denot = record { running = c.self.inside.running; machine = c.self.inside.machine; pairs = c.self.inside.pairs } in
    let d : CheckedView g.row.M.Denot g.row.R.Denot = record { running = c.step-2.new.self; machine = c.self.inside.machine; pairs = c.note.new.self } in
    let ran = rw (← c.self.view_is) at had in
    let has : Checks is_read {M = g.row.M.Denot} p r.follows r.progress ss gone v = record { followed = ran.followed; traced = ran.traced; allowed = ran.allowed; counted = ran.counted } in
    let unused : uses_again is_read (inputs_in ss) (Some c.in-In.input) ≡ false = sym (c.is_used.ensures is_read (inputs_in ss) (sym c.is_read-reads.ensures) has.followed.1) ∙ c.if-is_used.false in
    let none : uses_again is_read (inputs_in ss) (input_of c.args.step.now) ≡ false = subst (λ s. uses_again is_read (inputs_in ss) (input_of s) ≡ false) (sym c.in-In.is) unused in
    let noted = subst (λ s. HasNoted is_read c.note.new.self (inputs_in ss ++ option_to_list (input_of s))) (sym c.in-In.is) (c.in_ok-note.ensures.ok is_read (inputs_in ss) (sym c.is_read-reads.ensures) unused has.followed.1) in
    let on = goes-on is_read p r.follows r.progress ss gone v has d c.args.step.now none (c.in_ok-step-2.ensures.next ss gone (within is_read p r.follows r.progress ss gone v has)) noted in
    rw (← c.self.view_is) (record { followed = on.followed; traced = on.traced; allowed = on.allowed; counted = on.counted })

pub returns-in_err-step-clause-refused : goal.returns-in_err-step-clause-refused
returns-in_err-step-clause-refused g c = λ ss gone had.
    let r = g.R.Runs in
    let is_read = g.M.Queries.reads c.self.inside.machine in
    let p = r.played c.self.inside.running in
    let v : CheckedView g.row.M.Denot g.row.R.Denot = record { running = c.self.inside.running; machine = c.self.inside.machine; pairs = c.self.inside.pairs } in
    let ran = rw (← c.self.view_is) at had in
    let has : Checks is_read {M = g.row.M.Denot} p r.follows r.progress ss gone v = record { followed = ran.followed; traced = ran.traced; allowed = ran.allowed; counted = ran.counted } in
    let none = no_input c.args.step.now c.in_default.not-In in
    let same = refused-within is_read p r.follows r.progress ss gone v has c.args.step.now (ap (uses_again is_read (inputs_in ss)) none) in
    let q = err_from_is_err_and c.from_residual.result c.from_residual.ensures.1 in
    let y = c.in_err-step.field-0.0 in
    rw (← c.self.view_is, q.1, q.2) (subst (λ o. IsRunAnswer {A = Unit {0}} (Err y) (length ss) o) (sym same) (c.in_err-step.ensures.refused ss gone (within is_read p r.follows r.progress ss gone v has)))

pub returns-in_default : goal.returns-in_default
returns-in_default g c = record {
  refused = λ ss gone had.
      let r = g.R.Runs in
      let is_read = g.M.Queries.reads c.self.inside.machine in
      let p = r.played c.self.inside.running in
      let v : CheckedView g.row.M.Denot g.row.R.Denot = record { running = c.self.inside.running; machine = c.self.inside.machine; pairs = c.self.inside.pairs } in
      let ran = rw (← c.self.view_is) at had in
      let has : Checks is_read {M = g.row.M.Denot} p r.follows r.progress ss gone v = record { followed = ran.followed; traced = ran.traced; allowed = ran.allowed; counted = ran.counted } in
      let none = no_input c.args.step.now c.in_default.not-In in
      let same = refused-within is_read p r.follows r.progress ss gone v has c.args.step.now (ap (uses_again is_read (inputs_in ss)) none) in
      rw (← c.self.view_is) (same ∙ c.in_ok-step.ensures.refused ss gone (within is_read p r.follows r.progress ss gone v has));
  unchanged = tt;
  next = λ ss gone had.
      let r = g.R.Runs in
      let is_read = g.M.Queries.reads c.self.inside.machine in
      let p = r.played c.self.inside.running in
      let v : CheckedView g.row.M.Denot g.row.R.Denot = record { running = c.self.inside.running; machine = c.self.inside.machine; pairs = c.self.inside.pairs } in
      let ran = rw (← c.self.view_is) at had in
      let has : Checks is_read {M = g.row.M.Denot} p r.follows r.progress ss gone v = record { followed = ran.followed; traced = ran.traced; allowed = ran.allowed; counted = ran.counted } in
      let none = no_input c.args.step.now c.in_default.not-In in
      let d : CheckedView g.row.M.Denot g.row.R.Denot = record { running = c.step.new.self; machine = c.self.inside.machine; pairs = c.self.inside.pairs } in
      let noted = subst (λ o. HasNoted is_read c.self.inside.pairs (inputs_in ss ++ option_to_list o)) (sym none) (subst (HasNoted is_read c.self.inside.pairs) (sym (append-nil (inputs_in ss))) has.followed.1) in
      let on = goes-on is_read p r.follows r.progress ss gone v has d c.args.step.now (ap (uses_again is_read (inputs_in ss)) none) (c.in_ok-step.ensures.next ss gone (within is_read p r.follows r.progress ss gone v has)) noted in
      rw (← c.self.view_is) (record { followed = on.followed; traced = on.traced; allowed = on.allowed; counted = on.counted });
  played = rw (← c.self.view_is) (ap (checked (g.M.Queries.reads c.self.inside.machine)) c.step.ensures.played);
  grows = rw (← c.self.view_is) c.in_ok-step.ensures.grows;
  taken = rw (← c.self.view_is) c.in_ok-step.ensures.taken;
  sound = c.in_ok-step.ensures.sound;
}
