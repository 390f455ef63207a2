-- Numbers as bytes in network order, the highest byte first.
use Rattle.std.specs.Prelude.{ℕ, Bool, ◌&&◌, nat_le, nat_lt, List, length, take, drop, Option, Some, None, if◌then◌else◌}
use Rattle.std.specs.Int.{bytes_high_first}
use Rattle.std.specs.List.{list_all}
use Rattle.byteorder.specs.Endian.{big_number}

-- the bytes of a number, so many
unfoldable pub number_bytes : ℕ → ℕ → List ℕ
number_bytes n x = bytes_high_first n x

-- the number that the first n bytes are
unfoldable pub number_in : ℕ → List ℕ → ℕ
number_in n bs = big_number n bs

-- n bytes stand in front
unfoldable pub has_bytes : ℕ → List ℕ → Bool
has_bytes n bs = nat_le n (length bs) && list_all (λ b. nat_lt b 256) (take n bs)

-- the number in a range that the first n bytes are, and what stands after them
unfoldable pub read_number : ℕ → ℕ → ℕ → List ℕ → Option (ℕ × List ℕ)
read_number n low high bs =
    if has_bytes n bs && (nat_le low (number_in n bs) && nat_le (number_in n bs) high) then Some (number_in n bs, drop n bs) else None
