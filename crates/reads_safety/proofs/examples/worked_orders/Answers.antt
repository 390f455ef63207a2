-- An order of what the deposed leader was asked would have the write and the read alone, one before the other.
use Rattle.std.proofs.Common.{ℕ, List, [], ◌∷◌, inl, inr}
use Rattle.vst_base.specs.Examples.{counter}
use Rattle.raft_types.specs.declared.client.RaftInput.{RaftInput}
use Rattle.linearizability.specs.Linearizable.{IsLinearizable}
use Rattle.reads_safety.specs.Examples.{eight_reads, five, stale}
use Rattle.reads_safety.proofs.examples.worked_orders.Goals as goal

write_first : (b : RaftInput ℕ) (rest : List (RaftInput ℕ)) → IsLinearizable counter (five ∷ b ∷ rest) stale → ⊥
write_first b rest l = elim (l.requested.put_in.1.0) [
  | inl e ↦ cc ((rw (← e) at l).requested.once.0.0)
  | inr h ↦ elim h [ inl e ↦ cc ((rw (← e) at l).outputs.1.0) | inr h ↦ absurd h ]
]

read_first : (b : RaftInput ℕ) (rest : List (RaftInput ℕ)) → IsLinearizable counter (eight_reads ∷ b ∷ rest) stale → ⊥
read_first b rest l = elim (l.requested.put_in.1.0) [
  | inl e ↦ elim ((rw (← e) at l).in_time.0.0) [ inl q ↦ cc q | inr h ↦ absurd h ]
  | inr h ↦ elim h [ inl e ↦ cc ((rw (← e) at l).requested.once.0.0) | inr h ↦ absurd h ]
]

one_alone : (a : RaftInput ℕ) → IsLinearizable counter (a ∷ []) stale → ⊥
one_alone a l = elim (l.requested.put_in.0) [
  | inl e ↦ cc ((rw (← e) at l).outputs.1.0)
  | inr h ↦ elim h [ inl e ↦ cc ((rw (← e) at l).outputs.0) | inr h ↦ absurd h ]
]

no_order : (order : List (RaftInput ℕ)) → IsLinearizable counter order stale → ⊥
no_order [] l = cc (l.outputs.0)
no_order (a ∷ []) l = one_alone a l
no_order (a ∷ b ∷ rest) l = elim (l.requested.put_in.0) [
  | inl e ↦ write_first b rest (rw (← e) at l)
  | inr h ↦ elim h [ inl e ↦ read_first b rest (rw (← e) at l) | inr h ↦ absurd h ]
]

pub returns-clause-no_order : goal.returns-clause-no_order
returns-clause-no_order c = no_order
