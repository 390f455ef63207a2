use Rattle.std.proofs.Common.{◌≡◌, ◌≤◌, ◌∷◌, false, length, refl, arith, []}
use Rattle.vst_base.specs.declared.lock.LockMsg.TheVariants as lock
use Rattle.vst_base.specs.declared.net.Net.TheVariants as net
use Rattle.vst_base.specs.declared.stack.StackId.TheVariants as stack
use Rattle.wire_codec.specs.Bodies.{is_message}
use Rattle.wire_codec.specs.declared.kind.Kind.TheVariants as kind
use Rattle.wire_fields.specs.Bytes.{has_bytes, number_bytes, read_number}
use Rattle.wired.specs.Examples.{gets_the_lock}
use Rattle.wire_messages.specs.PeerBytes.{lock_message}
use Rattle.wired.specs.Wiring.{no_name, packet}
use Rattle.wired.proofs.examples.worked_runs.Goals as goal

-- one byte is no numbered packet: its number alone has eight
too_short_for_a_number : is_message stack.LockSeq kind.Peer (1 ∷ []) ≡ false
unfolding has_bytes read_number
too_short_for_a_number = refl

its_length : length (packet lock_message stack.Lock no_name 1 0 lock.Lock) ≡ 23
unfolding number_bytes
its_length = refl

pub returns-clause-runs_alike : goal.returns-clause-runs_alike
returns-clause-runs_alike c =
    c.runs_as_bytes.ensures 3 stack.Lock tt (λ bytes. refl) (omega arith) (omega arith) no_name net.Bag gets_the_lock (refl, refl)
    (record { few = omega arith; inputs = (tt, (tt, (tt, tt))) })

pub returns-clause-runs_the_same : goal.returns-clause-runs_the_same
returns-clause-runs_the_same c = (returns-clause-runs_alike c).allowed refl

pub returns-clause-hears_nothing : goal.returns-clause-hears_nothing
returns-clause-hears_nothing c = λ h. cc (h.trace)

pub returns-clause-not_alike : goal.returns-clause-not_alike
returns-clause-not_alike c = λ h. cc ((h.allowed refl).trace)

pub returns-clause-not_of_another_stack : goal.returns-clause-not_of_another_stack
returns-clause-not_of_another_stack c = λ h. cc (h.of (1 ∷ []), too_short_for_a_number)

pub returns-clause-not_to_a_tenth_node : goal.returns-clause-not_to_a_tenth_node
returns-clause-not_to_a_tenth_node c = λ h. let e : 9 ≤ 8 = h.heading.1.1.1.1.0.1 in omega (arith, e)

pub returns-clause-not_under_no_name : goal.returns-clause-not_under_no_name
returns-clause-not_under_no_name c = λ h. cc (h.heading.1.1.1.1.1.0)

pub returns-clause-not_of_numbered : goal.returns-clause-not_of_numbered
returns-clause-not_of_numbered c = λ h. cc (h (1 ∷ []), too_short_for_a_number)

pub returns-clause-not_of_no_packets : goal.returns-clause-not_of_no_packets
returns-clause-not_of_no_packets c = λ h. cc (h (1 ∷ []))

pub returns-clause-is_format : goal.returns-clause-is_format
returns-clause-is_format c = λ bytes. refl

pub returns-clause-has_bytes : goal.returns-clause-has_bytes
returns-clause-has_bytes c = record {
  of = λ bytes. refl;
  heading = (tt, (tt, ((tt, refl), ((omega arith, omega arith), ((omega arith, omega arith), (refl, refl))))));
  message = tt;
  size = omega (arith, its_length);
  bytes = refl;
}
