-- Memory was not what was wanted where a read, a beginning or a receive failed; and where a read failed, no other line is said.
use Rattle.std.specs.Prelude.{◌≡◌, ℕ, zero, suc, List, [], ◌∷◌, length, take, Option, Some, None, Result, Ok, Err, codes}
use Rattle.std.proofs.Common.{ap, arith, inl, inr, refl, ◌∙◌}
use Rattle.node_device.specs.Examples.{counts, untold}
use Rattle.commands.specs.Lines.{memory_line, read_failed_line}
use Rattle.udp_node.specs.declared.fault.NodeFault.TheVariants as fault
use Rattle.commands.specs.NodeExamples.{begins, complained, device, idle, source, words}
use Rattle.commands.specs.NodeComing.{Comes}
use Rattle.commands.specs.NodeLines.{line_of}
use Rattle.commands.specs.NodeSeen.{DeviceSeen}
use Rattle.commands.specs.NodeStatuses.{CameTo, MaySay}
use Rattle.commands.specs.NodeTelling.{MaySayMemory}
use Rattle.commands.specs.declared.trouble.Trouble.{Trouble}
use Rattle.commands.specs.declared.trouble.Trouble.TheVariants as trouble
use Rattle.commands.proofs.NodeEnding.{reads_stay}

wants_no_beginning_so : (came : Result (Unit {0}) Trouble) → Comes words (source 0) (source 0) (device untold (begins 1)) (device untold (begins 2)) came → MaySayMemory came → ⊥
wants_no_beginning_so (Ok x) came may = let e : ◌≡◌ {A = ℕ} 2 1 = came.counts.begin in omega (arith, e)
wants_no_beginning_so (Err trouble.Read) came may = absurd may
wants_no_beginning_so (Err (trouble.Config key)) came may = let e : ◌≡◌ {A = ℕ} 2 1 = ap (λ (d : DeviceSeen). d.faults.begin) came.device_stays in omega (arith, e)
wants_no_beginning_so (Err trouble.Begin) came may = absurd may
wants_no_beginning_so (Err trouble.Memory) came may = let e : ◌≡◌ {A = ℕ} 2 1 = ap (λ (d : DeviceSeen). d.faults.begin) came.device_stays in omega (arith, e)
wants_no_beginning_so (Err (trouble.Ended fault.Receive)) came may = absurd may
wants_no_beginning_so (Err (trouble.Ended fault.Store)) came may = absurd may
wants_no_beginning_so (Err (trouble.Ended (fault.Refused why))) came may = let e : ◌≡◌ {A = ℕ} 2 1 = came.counts.begin in omega (arith, e)
wants_no_beginning_so (Err (trouble.Ended fault.Memory)) came may = let e : ◌≡◌ {A = ℕ} 2 1 = came.counts.begin in omega (arith, e)

pub wants_no_beginning : (came : Result (Unit {0}) Trouble) × Comes words (source 0) (source 0) (device untold (begins 1)) (device untold (begins 2)) came × MaySayMemory came → ⊥
wants_no_beginning wants = wants_no_beginning_so wants.0 wants.1 wants.2

wants_no_receive_so : (came : Result (Unit {0}) Trouble) → Comes words (source 0) (source 0) (device untold (counts 1 1)) (device untold (counts 2 1)) came → MaySayMemory came → ⊥
wants_no_receive_so (Ok x) came may = let e : ◌≡◌ {A = ℕ} 2 1 = came.counts.receive in omega (arith, e)
wants_no_receive_so (Err trouble.Read) came may = absurd may
wants_no_receive_so (Err (trouble.Config key)) came may = let e : ◌≡◌ {A = ℕ} 2 1 = ap (λ (d : DeviceSeen). d.faults.receive) came.device_stays in omega (arith, e)
wants_no_receive_so (Err trouble.Begin) came may = absurd may
wants_no_receive_so (Err trouble.Memory) came may = let e : ◌≡◌ {A = ℕ} 2 1 = ap (λ (d : DeviceSeen). d.faults.receive) came.device_stays in omega (arith, e)
wants_no_receive_so (Err (trouble.Ended fault.Receive)) came may = absurd may
wants_no_receive_so (Err (trouble.Ended fault.Store)) came may = absurd may
wants_no_receive_so (Err (trouble.Ended (fault.Refused why))) came may = let e : ◌≡◌ {A = ℕ} 2 1 = came.counts.receive in omega (arith, e)
wants_no_receive_so (Err (trouble.Ended fault.Memory)) came may = let e : ◌≡◌ {A = ℕ} 2 1 = came.counts.receive in omega (arith, e)

pub wants_no_receive : (came : Result (Unit {0}) Trouble) × Comes words (source 0) (source 0) (device untold (counts 1 1)) (device untold (counts 2 1)) came × MaySayMemory came → ⊥
wants_no_receive wants = wants_no_receive_so wants.0 wants.1 wants.2

none_failed : ◌≡◌ {A = ℕ} 1 0 → ⊥
none_failed e = omega (arith, e)

no_line : (t : Trouble) → CameTo words (complained 1 [] idle) (Err t) → memory_line ≡ line_of t → ⊥
no_line trouble.Read came is = let e : ◌≡◌ {A = ℕ} 7 5 = ap length is in omega (arith, e)
no_line (trouble.Config key) came is = none_failed came.quiet
no_line trouble.Begin came is = none_failed came.configured_so.read.quiet
no_line trouble.Memory came is = none_failed came.quiet
no_line (trouble.Ended e) came is = none_failed came.configured_so.read.quiet

pub says_no_memory : MaySay words (complained 1 [] idle) memory_line → ⊥
says_no_memory (inl said) = no_line said.0 said.1 said.2
says_no_memory (inr wants) = none_failed (reads_stay words (complained 1 [] idle) wants.0.0 wants.0.1 wants.0.2)

line_of_a_read : (t : Trouble) → CameTo words (complained 1 [] idle) (Err t) → line_of t ≡ read_failed_line
line_of_a_read trouble.Read came = refl
line_of_a_read (trouble.Config key) came = absurd (none_failed came.quiet)
line_of_a_read trouble.Begin came = absurd (none_failed came.configured_so.read.quiet)
line_of_a_read trouble.Memory came = absurd (none_failed came.quiet)
line_of_a_read (trouble.Ended e) came = absurd (none_failed came.configured_so.read.quiet)

says_read : (line : List ℕ) → MaySay words (complained 1 [] idle) line → line ≡ read_failed_line
says_read line (inl said) = said.2 ∙ line_of_a_read said.0 said.1
says_read line (inr wants) = absurd (none_failed (reads_stay words (complained 1 [] idle) wants.0.0 wants.0.1 wants.0.2))

abbrev first_of : Option (List ℕ) → ℕ
first_of None = 0
first_of (Some []) = 0
first_of (Some (b ∷ bytes)) = b

no_front : (n : ℕ) → Some (codes "op") ≡ Some (take n read_failed_line) → ⊥
no_front zero is = let e : ◌≡◌ {A = ℕ} 111 0 = ap first_of is in omega (arith, e)
no_front (suc n) is = let e : ◌≡◌ {A = ℕ} 111 114 = ap first_of is in omega (arith, e)

-- a front of another line
pub says_no_opening : (line : List ℕ) → MaySay words (complained 1 [] idle) line → (n : ℕ) × (Some (codes "op") ≡ Some (take n line)) → ⊥
says_no_opening line may front = no_front front.0 (front.1 ∙ ap (λ line. Some (take front.0 line)) (says_read line may))
