-- The nodes of a cluster by their names.
use Rattle.std.specs.Prelude.{ℕ, List, nat_lt, if◌then◌else◌}
use Rattle.vst_base.specs.declared.stack.StackId.{StackId}
use Rattle.wire_fields.specs.Fields.{name}
use Rattle.node_body.specs.declared.who.Who.{Who}

-- bytes that name a cluster
abbrev pub IsName : List ℕ → Type 0
IsName bytes = name.Fits bytes

-- node n of so many under this name; a number that is out of range names node 0, so that no law needs a bound
abbrev pub who_in : StackId → ℕ → List ℕ → ℕ → Who
who_in s nodes cluster n = record { stack = s; me = if nat_lt n nodes then n else 0; nodes = nodes; name = cluster }
