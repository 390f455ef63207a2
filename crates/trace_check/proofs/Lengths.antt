-- How long lines are: none is longer than 4,096 bytes that is printed of a text of 4,050, nor is a text of these that a transformer
-- makes of one of 4,000.
use Rattle.std.specs.Prelude.{ℕ, ◌+◌, ◌<◌, ◌≤◌, List, [], ◌∷◌, ◌++◌, length, map, codes}
use Rattle.std.specs.Fmt.{decimal}
use Rattle.std.proofs.Common.{length-append, arith}
use Rattle.std.proofs.lemmas.Fmt.{length-decimal-le}
use Rattle.app_text.specs.PbTexts.{IsPbOutput, pb_output_text}
use Rattle.raft_text.specs.RaftTexts.{IsNumber, IsRaftInput, IsRaftOutput, named_text, names_text, order_text, raft_input_text, raft_output_text}
use Rattle.raft_types.specs.declared.client.RaftInput.{RaftInput}
use Rattle.raft_types.specs.declared.client.RaftOut.TheVariants.{Reply, NotLeader, Full}
use Rattle.schedule_text.specs.Printing.{item_text, numbered, step_text}
use Rattle.schedule_text.specs.Spellable.{IsSpellable}
use Rattle.vst_base.specs.declared.pb_out.PbOut.TheVariants as pb
use Rattle.vst_base.specs.declared.step.Item.{Item}
use Rattle.vst_base.specs.declared.step.Item.TheVariants as item
use Rattle.vst_base.specs.declared.step.Step.{Step}
use Rattle.vst_base.specs.declared.step.Step.TheVariants as step
use Rattle.trace_check.specs.Spelled.{IsTextItem, most_bytes}
use Rattle.trace_check.proofs.TraceReading.{IsShort}
use Rattle.lists.specs.Each.{Each}

-- values whose texts have so many bytes at most
abbrev pub AreWithin : {V : Type 0} → ℕ → (V → Type 0) → (V → List ℕ) → Type 0
AreWithin {V = V} most HasText text = (v : V) → HasText v → length (text v) ≤ most

number-length : (n : ℕ) → n < 4294967296 → length (decimal n) ≤ 10
number-length n fits = length-decimal-le 10 n (omega arith) (omega (arith, fits)) (omega (arith, fits))

pub numbered-length : (word : List ℕ) (n : ℕ) → n < 4294967296 → length (numbered word n) ≤ length word + 11
numbered-length word n fits =
    let digits = number-length n fits in
    omega (arith, digits, length-append word (32 ∷ decimal n))

behind-length : (word text : List ℕ) (n : ℕ) → n < 4294967296 → length (numbered word n ++ 32 ∷ text) ≤ length word + (length text + 12)
behind-length word text n fits =
    let front = numbered-length word n fits in
    omega (arith, front, length-append (numbered word n) (32 ∷ text))

module _ {I O : Type 0} (nodes : ℕ) (t : I → List ℕ) (u : O → List ℕ) (HasIn : I → Type 0) (HasOut : O → Type 0) (few_nodes : nodes < 4294967296) (brief_inputs : AreWithin 4050 HasIn t) (brief_outputs : AreWithin 4050 HasOut u) where
  item-short : (x : Item I O) → IsTextItem nodes HasIn HasOut x → IsShort (item_text t u x)
  item-short (item.Input n i) has = let text = brief_inputs i has.1 in let line = behind-length (codes "in") (t i) n (omega (arith, has.0, few_nodes)) in omega (arith, text, line)
  item-short (item.Output n o) has = let text = brief_outputs o has.1 in let line = behind-length (codes "out") (u o) n (omega (arith, has.0, few_nodes)) in omega (arith, text, line)

  pub short-trace : (items : List (Item I O)) → Each (IsTextItem nodes HasIn HasOut) items → Each IsShort (map (item_text t u) items)
  short-trace [] has = tt
  short-trace (x ∷ items) has = (item-short x has.0, short-trace items has.1)

module _ {I : Type 0} (t : I → List ℕ) (HasIn : I → Type 0) (brief : AreWithin 4050 HasIn t) where
  step-short : (s : Step I) → IsSpellable HasIn s → IsShort (step_text t s)
  step-short (step.In n i) has = let text = brief i has.1 in let line = behind-length (codes "in") (t i) n has.0 in omega (arith, text, line)
  step-short (step.Deliver k) has = let line = numbered-length (codes "deliver") k has in omega (arith, line)
  step-short (step.Tick n) has = let line = numbered-length (codes "tick") n has in omega (arith, line)
  step-short (step.Dup k) has = let line = numbered-length (codes "dup") k has in omega (arith, line)
  step-short (step.Lose k) has = let line = numbered-length (codes "lose") k has in omega (arith, line)
  step-short (step.Crash n) has = let line = numbered-length (codes "crash") n has in omega (arith, line)
  step-short (step.Reboot n) has = let line = numbered-length (codes "reboot") n has in omega (arith, line)

  pub short-steps : (ss : List (Step I)) → Each (IsSpellable HasIn) ss → Each IsShort (map (step_text t) ss)
  short-steps [] has = tt
  short-steps (s ∷ ss) has = (step-short s has.0, short-steps ss has.1)

-- the texts of a machine's outputs under primary-backup
pub brief-pb-outputs : {O : Type 0} (HasOut : O → Type 0) (u : O → List ℕ) → AreWithin most_bytes HasOut u → AreWithin most_bytes (IsPbOutput HasOut) (pb_output_text u)
brief-pb-outputs HasOut u brief (pb.Reply o) has = brief o has
brief-pb-outputs HasOut u brief pb.Redirect has = omega arith

-- and those of a cluster
name-length : (n : ℕ) → IsNumber n → length (decimal n) ≤ 20
name-length n fits = length-decimal-le 20 n (omega arith) (omega (arith, fits)) (omega (arith, fits))

names-length : (client request : ℕ) → IsNumber client → IsNumber request → length (names_text client request) ≤ 41
names-length client request c r =
    let a = name-length client c in
    let b = name-length request r in
    omega (arith, a, b, length-append (decimal client) (32 ∷ decimal request))

named-length : (client request : ℕ) (text : List ℕ) → IsNumber client → IsNumber request → length (named_text client request text) ≤ length text + 42
named-length client request text c r =
    let a = name-length client c in
    let b = name-length request r in
    omega (arith, a, b, length-append (decimal client) (32 ∷ (decimal request ++ 32 ∷ text)), length-append (decimal request) (32 ∷ text))

module _ {C : Type 0} (HasIn : C → Type 0) (t : C → List ℕ) (brief : AreWithin most_bytes HasIn t) where
  request-length : (q : RaftInput C) → IsRaftInput HasIn q → length (raft_input_text t q) ≤ 4042
  request-length q has = let a = brief q.cmd has.2 in let b = named-length q.client q.request (t q.cmd) has.0 has.1 in omega (arith, a, b)

  pub brief-requests : AreWithin 4050 (IsRaftInput HasIn) (raft_input_text t)
  brief-requests q has = let all = request-length q has in omega (arith, all)

  pub short-orders : (order : List (RaftInput C)) → Each (IsRaftInput HasIn) order → Each IsShort (map (order_text t) order)
  short-orders [] has = tt
  short-orders (q ∷ order) has = let all = request-length q has.0 in (omega (arith, all), short-orders order has.1)

pub brief-answers : {O : Type 0} (HasOut : O → Type 0) (u : O → List ℕ) → AreWithin most_bytes HasOut u → AreWithin 4050 (IsRaftOutput HasOut) (raft_output_text u)
brief-answers HasOut u brief (Reply client request o) has = let a = brief o has.2 in let b = named-length client request (u o) has.0 has.1 in omega (arith, a, b)
brief-answers HasOut u brief (NotLeader client request) has = let a = names-length client request has.0 has.1 in omega (arith, a)
brief-answers HasOut u brief (Full client request) has = let a = names-length client request has.0 has.1 in omega (arith, a)

-- shorter texts are within more
pub within-more : {V : Type 0} (HasText : V → Type 0) (text : V → List ℕ) → AreWithin most_bytes HasText text → AreWithin 4050 HasText text
within-more HasText text brief v has = let all = brief v has in omega (arith, all)
