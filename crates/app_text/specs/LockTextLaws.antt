-- Each input and output of the lock server has one text.
use Rattle.std.specs.List.{list_any}
use Rattle.std.specs.Prelude.{◌≡◌, ◌==◌, ℕ, false, List, Some, refl}
use Rattle.app_text.specs.LockTexts.{input_of, input_text, output_of, output_text}
use Rattle.app_text.specs.Spelling.{IsSpelling}
use Rattle.app_text.specs.WordLaws.{read_fixed}
use Rattle.vst_base.specs.declared.lock.LockInput.{LockInput}
use Rattle.vst_base.specs.declared.lock.LockInput.TheVariants.{Lock, Unlock}
use Rattle.vst_base.specs.declared.lock.LockOutput.{LockOutput}
use Rattle.vst_base.specs.declared.lock.LockOutput.TheVariants.{Locked}

one_input_text : (bs : List ℕ) (v : LockInput) → input_of bs ≡ Some v → input_text v ≡ bs
one_input_text bs v e = read_fixed input_text Lock (read_fixed input_text Unlock (λ none. cc)) e

one_output_text : (bs : List ℕ) (v : LockOutput) → output_of bs ≡ Some v → output_text v ≡ bs
one_output_text bs v e = read_fixed output_text Locked (λ none. cc) e

input_reads_back : (v : LockInput) → Unit {0} → input_of (input_text v) ≡ Some v
input_reads_back Lock any = refl
input_reads_back Unlock any = refl

output_reads_back : (v : LockOutput) → Unit {0} → output_of (output_text v) ≡ Some v
output_reads_back Locked any = refl

input_one_line : (v : LockInput) → Unit {0} → list_any (λ b. b == 10) (input_text v) ≡ false
input_one_line Lock any = refl
input_one_line Unlock any = refl

output_one_line : (v : LockOutput) → Unit {0} → list_any (λ b. b == 10) (output_text v) ≡ false
output_one_line Locked any = refl

pub inputs_are_spelled : IsSpelling (λ _. Unit {0}) input_of input_text
inputs_are_spelled = record {
  one_text = one_input_text;
  has_text = λ bs v e. tt;
  reads_back = input_reads_back;
  one_line = input_one_line;
}

pub outputs_are_spelled : IsSpelling (λ _. Unit {0}) output_of output_text
outputs_are_spelled = record {
  one_text = one_output_text;
  has_text = λ bs v e. tt;
  reads_back = output_reads_back;
  one_line = output_one_line;
}
