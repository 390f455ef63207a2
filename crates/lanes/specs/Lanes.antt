-- Packets in the order of sending, each with the one before it on its lane. Here a packet is its ends, source and destination.
use Rattle.std.specs.Prelude.{◌≡◌, ℕ, ◌+◌, ◌*◌, ◌<◌, Bool, ◌&&◌, ◌==◌, List, [], ◌∷◌, length, take, slice_get, Option, Some, None, if◌then◌else◌, option_and_then, refl}
use Rattle.std.specs.Coded.{Coded, code_by, coded×, coded_ℕ, coded_list, coded_option}
use Rattle.std.specs.FinMap.{FinMap, code, get}
use Rattle.std.specs.Option.{option_map, option_or}
use Rattle.std.specs.Ordering.{nat_cmp}

-- what is kept: the last packet of each lane, by the lane's number, and the packet before each packet
pub record LanesView : Type 0 where
  pub lasts : FinMap nat_cmp ℕ
  pub previous : List (Option ℕ)

abbrev pub lanes_code : Coded LanesView
lanes_code = code_by (FinMap nat_cmp ℕ × List (Option ℕ)) (coded× (code coded_ℕ coded_ℕ) (coded_list (coded_option coded_ℕ)))
    (λ l. (l.lasts, l.previous)) (λ p. record { lasts = p.0; previous = p.1 }) (λ _. refl)

-- the number of the lane from one node to the other
abbrev pub lane : ℕ → ℕ → ℕ
lane source destination = 256 * source + destination

-- whether two packets go one lane
abbrev pub is_same : ℕ × ℕ → ℕ × ℕ → Bool
is_same e x = (e.0 == x.0) && (e.1 == x.1)

-- the place of the last of these that is e
abbrev pub last_at : ℕ × ℕ → List (ℕ × ℕ) → Option ℕ
last_at e [] = None
last_at e (x ∷ xs) = option_or (option_map (λ k. k + 1) (last_at e xs)) (if is_same e x then Some 0 else None)

-- the packet before packet k of the same ends
abbrev pub previous_of : List (ℕ × ℕ) → ℕ → Option ℕ
previous_of es k = option_and_then (λ e. last_at e (take k es)) (slice_get es k)

-- what is kept follows these packets
pub record Follows (l : LanesView) (es : List (ℕ × ℕ)) : Type 0 where
  pub count : length l.previous ≡ length es
  pub each : (k : ℕ) → k < length es → slice_get l.previous k ≡ Some (previous_of es k)
  pub lasts : (s d : ℕ) → s < 256 → d < 256 → get l.lasts (lane s d) ≡ last_at (s, d) es
