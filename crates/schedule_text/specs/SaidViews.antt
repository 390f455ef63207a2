-- What the code's lines that were read say, with the texts that they hold.
use Rattle.std.specs.Prelude.{List, ℕ, Result, Ok, Err}
use Rattle.std.specs.Borrow.{Bor}
use Rattle.line_reader.specs.declared.why.Why.{Why}
use Rattle.vst_base.specs.declared.step.Step.{Step}
use Rattle.vst_base.specs.declared.step.Step.TheVariants as step
use Rattle.schedule_text.specs.declared.said.Said.{Said}
use Rattle.schedule_text.specs.declared.said.Said.TheVariants as said

abbrev pub step_view : Step (Bor (List ℕ)) → Step (List ℕ)
step_view (step.In n text) = step.In n text.now
step_view (step.Deliver k) = step.Deliver k
step_view (step.Tick n) = step.Tick n
step_view (step.Dup k) = step.Dup k
step_view (step.Lose k) = step.Lose k
step_view (step.Crash n) = step.Crash n
step_view (step.Reboot n) = step.Reboot n

abbrev pub said_view : Said (Bor (List ℕ)) → Said (List ℕ)
said_view (said.Step s) = said.Step (step_view s)
said_view (said.Act n) = said.Act n
said_view (said.Stop n c) = said.Stop n c

abbrev pub view_or_refusal : Result (Said (Bor (List ℕ))) Why → Result (Said (List ℕ)) Why
view_or_refusal (Ok x) = Ok (said_view x)
view_or_refusal (Err w) = Err w
