-- Inputs that are made have texts, and short ones.
use Rattle.std.specs.Prelude.{◌≡◌, ℕ, ◌^◌, ◌/◌, ◌%◌, ◌<◌, ◌≤◌, ◌==◌, Bool, true, false, List, ◌∷◌, ◌++◌, length, IsTrue, cond}
use Rattle.std.specs.Fmt.{decimal}
use Rattle.std.proofs.Common.{arith, refl, length-append}
use Rattle.std.proofs.lemmas.Bool.{and_from}
use Rattle.std.proofs.lemmas.Nat.{mod_below}
use Rattle.app_text.specs.KvTexts as kv
use Rattle.app_text.specs.LockTexts as lock
use Rattle.app_text.specs.MirrorTexts as mirror
use Rattle.app_text.specs.TableTexts as table
use Rattle.raft_text.specs.RaftTexts.{IsRaftInput, raft_input_text}
use Rattle.schedule_make.proofs.Letters.{digits-few, letter-number}
use Rattle.schedule_make.specs.Inputs.{asked_by_client, kv_input, kv_key, kv_value, lock_input, lock_name, lock_owner, mirror_input, table_input}
use Rattle.vst_base.specs.Tokens.{is_key, is_value}
use Rattle.vst_base.specs.declared.lock.LockInput.TheVariants.{Lock, Unlock}
use Rattle.vst_base.specs.declared.step.TheConstants.{MAX_STEPS}
use Rattle.made_schedules.specs.Texts.{HaveCommandTexts, HaveShortTexts}

small-rest : (x k : ℕ) → 0 < k → k ≤ 10 → x % k < 2 ^ 64
small-rest x k some few = omega (arith, mod_below x k some, few)

small-place : (i : ℕ) → i < MAX_STEPS → i < 2 ^ 64
small-place i below = omega (arith, below)

key-fits : (x : ℕ) → is_key (kv_key x) ≡ true
key-fits x = letter-number 64 107 (x % 8) (omega arith) refl (small-rest x 8 (omega arith) (omega arith))

value-fits : (i : ℕ) → i < MAX_STEPS → is_value (kv_value i) ≡ true
value-fits i below = letter-number 1024 118 i (omega arith) refl (small-place i below)

name-fits : (x : ℕ) → is_key (lock_name x) ≡ true
name-fits x = letter-number 64 108 (x % 8) (omega arith) refl (small-rest x 8 (omega arith) (omega arith))

owner-fits : (x : ℕ) → is_key (lock_owner x) ≡ true
owner-fits x = letter-number 64 111 (x / 64 % 4) (omega arith) refl (small-rest (x / 64) 4 (omega arith) (omega arith))

length-key : (x : ℕ) → length (kv_key x) ≤ 21
length-key x = omega (arith, digits-few (x % 8) (small-rest x 8 (omega arith) (omega arith)))

length-value : (i : ℕ) → i < MAX_STEPS → length (kv_value i) ≤ 21
length-value i below = omega (arith, digits-few i (small-place i below))

length-name : (x : ℕ) → length (lock_name x) ≤ 21
length-name x = omega (arith, digits-few (x % 8) (small-rest x 8 (omega arith) (omega arith)))

length-owner : (x : ℕ) → length (lock_owner x) ≤ 21
length-owner x = omega (arith, digits-few (x / 64 % 4) (small-rest (x / 64) 4 (omega arith) (omega arith)))

-- a command that has a text, of at most 100 bytes
record IsBrief {C : Type 0} (is_command : C → Bool) (text : C → List ℕ) (c : C) : Type 0 where
  fits : is_command c ≡ true
  few : length (text c) ≤ 100

either : {C : Type 0} {is_command : C → Bool} {text : C → List ℕ} (b : Bool) {c d : C} → IsBrief is_command text c → IsBrief is_command text d
    → IsBrief is_command text (cond b c d)
either true k l = k
either false k l = l

kv-brief : (x i : ℕ) → i < MAX_STEPS → IsBrief kv.is_command kv.input_text (kv_input x i)
kv-brief x i below =
    let key = length-key x in
    let value = length-value i below in
    let both = and_from _ _ (key-fits x) (value-fits i below) in
    let joined = length-append (kv_key x) (32 ∷ kv_value i) in
    let expected = length-append (kv_key x) (32 ∷ 45 ∷ 32 ∷ kv_value i) in
    either (x / 8 % 4 == 0) (record { fits = key-fits x; few = omega (arith, key) })
    (either (x / 8 % 4 == 1) (record { fits = both; few = omega (arith, joined, key, value) })
    (either (x / 8 % 4 == 2) (record { fits = key-fits x; few = omega (arith, key) })
    (record { fits = and_from _ _ both refl; few = omega (arith, expected, key, value) })))

table-brief : (x i : ℕ) → IsBrief table.is_command table.input_text (table_input x i)
table-brief x i =
    let name = length-name x in
    let owner = length-owner x in
    let both = and_from _ _ (name-fits x) (owner-fits x) in
    let joined = length-append (lock_name x) (32 ∷ lock_owner x) in
    either (x / 8 % 3 == 0) (record { fits = both; few = omega (arith, joined, name, owner) })
    (either (x / 8 % 3 == 1) (record { fits = both; few = omega (arith, joined, name, owner) })
    (record { fits = name-fits x; few = omega (arith, name) }))

-- commands that are brief
module _ {C : Type 0} {is_command : C → Bool} {text : C → List ℕ} (cmd : ℕ → ℕ → C) (brief : (x i : ℕ) → i < MAX_STEPS → IsBrief is_command text (cmd x i)) where
  of-machine : HaveCommandTexts (λ c. IsTrue (is_command c)) text cmd
  of-machine = record { has_text = λ x i below. (brief x i below).fits; short = λ x i below. omega (arith, (brief x i below).few) }

-- commands as inputs, and the same as requests of clients
module _ {C : Type 0} {HasText : C → Type 0} {text : C → List ℕ} {cmd : ℕ → ℕ → C} (texts : HaveCommandTexts HasText text cmd) where
  pub of-commands : HaveShortTexts HasText text cmd
  of-commands = record { has_text = texts.has_text; short = λ x i below. omega (arith, texts.short x i below) }

  request-short : (client request : ℕ) (c : C) → client < 2 ^ 64 → request < 2 ^ 64 → length (text c) ≤ 3900
      → length (raft_input_text text (record { client = client; request = request; cmd = c })) ≤ 4000
  request-short client request c client_low request_low few =
      let first = length-append (decimal client) (32 ∷ (decimal request ++ 32 ∷ text c)) in
      let second = length-append (decimal request) (32 ∷ text c) in
      omega (arith, first, second, digits-few client client_low, digits-few request request_low, few)

  pub of-clients : HaveShortTexts (IsRaftInput HasText) (raft_input_text text) (asked_by_client cmd)
  of-clients = record {
    has_text = λ x i below. (omega (arith, mod_below (x / 256) 4 (omega arith)), omega (arith, below), texts.has_text x i below);
    short = λ x i below. request-short (x / 256 % 4) i (cmd x i) (omega (arith, mod_below (x / 256) 4 (omega arith))) (omega (arith, below)) (texts.short x i below);
  }

lock-short : (b : Bool) → length (lock.input_text (cond b Lock Unlock)) ≤ 4000
lock-short true = omega arith
lock-short false = omega arith

pub lock-texts : HaveShortTexts (λ c. Unit {0}) lock.input_text lock_input
lock-texts = record { has_text = λ x i below. tt; short = λ x i below. lock-short (x % 2 == 0) }

-- `put v` and the place
pub mirror-texts : HaveShortTexts (λ i. IsTrue (mirror.is_input i)) mirror.input_text mirror_input
mirror-texts = record { has_text = λ x i below. value-fits i below; short = λ x i below. omega (arith, length-value i below) }

pub kv-texts : HaveCommandTexts (λ c. IsTrue (kv.is_command c)) kv.input_text kv_input
kv-texts = of-machine kv_input kv-brief

pub table-texts : HaveCommandTexts (λ c. IsTrue (table.is_command c)) table.input_text table_input
table-texts = of-machine table_input (λ x i below. table-brief x i)
