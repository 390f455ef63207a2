-- What the definitions are computed on.
use Rattle.std.specs.Prelude.{ℕ, true, List, [], ◌∷◌, None}
use Rattle.net_semantics.specs.Worlds.{Packet, World, put}
use Rattle.vst_base.specs.declared.retry.RetryMsg.{RetryMsg}
use Rattle.vst_base.specs.declared.retry.RetryMsg.TheVariants as msg
use Rattle.retry_xform.specs.Keeping.{Kept, Retrying}

-- a kept packet, and a packet with one copy
abbrev pub kept : ℕ → ℕ → ℕ → Kept ℕ
kept number destination content = record { number = number; destination = destination; content = content }

abbrev pub packet : {M : Type 0} → ℕ → ℕ → M → Packet M
packet source destination content = record { source = source; destination = destination; content = content; copies = 1 }

-- one node keeps these packets, and the others none
abbrev pub only_at : ℕ → List (Kept ℕ) → ℕ → List (Kept ℕ)
only_at n ks = put (λ i. []) n ks

-- nodes 1 and 2 each sent data number 0 to node 0, and each node keeps its packets
abbrev pub keeping : (ℕ → List (Kept ℕ)) → World (Retrying ℕ ℕ) ℕ (RetryMsg ℕ)
keeping at = record {
  state = λ n. record { inner = 0; next = 1; kept = at n };
  is_up = λ n. true;
  kept = λ n. None;
  packets = packet 1 0 (msg.Data 0 5) ∷ packet 2 0 (msg.Data 0 6) ∷ [];
}

-- the same of the handlers within
abbrev pub within : World ℕ ℕ ℕ
within = record { state = λ n. 0; is_up = λ n. true; kept = λ n. None; packets = packet 1 0 5 ∷ packet 2 0 6 ∷ [] }
