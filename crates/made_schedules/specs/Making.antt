-- What writing the steps of a made schedule comes to.
use Rattle.std.specs.Prelude.{◌≡◌, ◌≤◌, ℕ, List, Option, Result, IfErr, IsErrOf, OnErr, OnOk}
use Rattle.line_reader.specs.declared.write_fault.WriteFault.{WriteFault}
use Rattle.line_reader.specs.declared.write_fault.WriteFault.TheVariants as line
use Rattle.outside.specs.Wholes.{Gained, GainedPrefix}
use Rattle.schedule_text.specs.Sending.{HasWriteCause}

-- the sink gained the whole text, or, at a failed write or want of memory, a front of it; and no fault of the sink is hidden
pub record WritesText {A : Type 0} (text : List ℕ) (out out' : Option (List ℕ)) (faults faults' wants wants' : ℕ)
    (result : Result A WriteFault) : Type 0 where
  pub ok : OnOk result (Gained out out' text)
  pub err : OnErr result (GainedPrefix out out' text)
  pub fault : IfErr result (HasWriteCause faults faults')
  pub unfailed : IsErrOf result line.Memory → faults' ≡ faults
  pub unwanted : IsErrOf result line.Write → wants' ≡ wants
  pub quiet : OnOk result ((faults' ≡ faults) × (wants' ≡ wants))
  pub counts : faults ≤ faults'
