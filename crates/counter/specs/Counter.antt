-- The counter, as a function on numbers.
use Rattle.std.specs.Prelude.{ℕ, ◌+◌, ◌-◌, ◌^◌, nat_le, if◌then◌else◌}
use Rattle.vst_base.specs.Machines.{MachineMeaning}
use Rattle.counter.specs.declared.CounterCmd.{CounterCmd}
use Rattle.counter.specs.declared.CounterCmd.TheVariants.{Add, Read}
use Rattle.counter.specs.declared.CounterOut.{CounterOut}
use Rattle.counter.specs.declared.CounterOut.TheVariants.{Value, Full}

-- the greatest u64
abbrev pub greatest : ℕ
greatest = 2 ^ 64 - 1

-- what a command makes of the value, and its answer
abbrev pub apply : ℕ → CounterCmd → ℕ × CounterOut
apply v (Add n) = if nat_le (v + n) greatest then (v + n, Value (v + n)) else (v, Full)
apply v Read = (v, Value v)

abbrev pub counter : MachineMeaning ℕ CounterCmd CounterOut
counter = record { init = 0; apply = apply }
