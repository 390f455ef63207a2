-- Packets in lists, each list by its number.
use Rattle.std.specs.Prelude.{ℕ, List, []}
use Rattle.std.proofs.Common.{get_or}

-- the list with this number, empty where there is none
abbrev pub list_at : List (List ℕ) → ℕ → List ℕ
list_at lists number = get_or lists number []
