-- The slots that were found, of version 2 and of version 1.
use Rattle.std.proofs.Common.{refl, rules}
use Rattle.vst_base.specs.declared.stack.StackId.TheVariants as stack
use Rattle.wire_fields.specs.Bytes.{has_bytes, number_bytes, number_in, read_number}
use Rattle.wire_messages.specs.KvBytes.{kv_command}
use Rattle.node_body.specs.Bodies.{body, body_of}
use Rattle.node_body.specs.Examples.{new_held, old_held}
use Rattle.node_body.specs.Journals.{from_gate}
use Rattle.node_acts.specs.Examples.{Command, who}
use Rattle.node_acts.specs.StateActs.{first_kept}
use Rattle.node_state.specs.Examples.{found_so, held, known}
use Rattle.node_state.proofs.examples.worked_openings.Goals as goal

first_fits : (body stack.KvRaft kv_command).Fits (body_of who (first_kept {C = Command}))
unfolding number_bytes number_in has_bytes read_number
first_fits = search rules

of_version_two : found_so 0 known first_kept held
unfolding number_bytes number_in has_bytes read_number from_gate
of_version_two =
    record { slot = new_held first_kept 1000 0; found = refl; store_is = refl; kept_is = refl; fits = λ one. first_fits }

pub returns-clause-found : goal.returns-clause-found
returns-clause-found c = of_version_two

pub returns-clause-of_version_one : goal.returns-clause-of_version_one
unfolding number_bytes number_in has_bytes read_number from_gate
returns-clause-of_version_one c =
    record { slot = old_held first_kept 0 0; found = refl; store_is = refl; kept_is = refl; fits = λ one. first_fits }

pub returns-clause-opened : goal.returns-clause-opened
returns-clause-opened c = (0, refl, of_version_two)
