-- Addresses as texts, and lists of them.
use Rattle.std.specs.Prelude.{◌≡◌, ℕ, zero, suc, ◌≤◌, nat_le, Bool, true, not, ◌&&◌, ◌==◌, List, [], ◌∷◌, ◌++◌, length, Option, Some, None, option_map, option_and_then, bytes_eq}
use Rattle.std.specs.Fmt.{decimal}
use Rattle.std.specs.List.{list_all, list_any}
use Rattle.line_reader.specs.Lines.{cut_at}
use Rattle.outside.specs.declared.device.Address.{Address}
use Rattle.schedule_text.specs.Words.{number_up_to}

infixl 10 ◌>>=◌
abbrev ◌>>=◌ : {A B : Type 0} → Option A → (A → Option B) → Option B
o >>= f = option_and_then f o

-- the number, at most 255, before the first of these bytes, and what stands after that
unfoldable pub number_before : ℕ → List ℕ → Option (ℕ × List ℕ)
number_before end text = do
  p ← cut_at end text
  n ← number_up_to 255 p.0
  Some (n, p.1)

-- such numbers before each of these bytes in turn
abbrev pub numbers_before : List ℕ → List ℕ → Option (List ℕ × List ℕ)
numbers_before [] text = Some ([], text)
numbers_before (end ∷ others) text =
    number_before end text >>= (λ p. option_map (λ q. (p.0 ∷ q.0, q.1)) (numbers_before others p.1))

abbrev pub positive : ℕ → Option ℕ
positive zero = None
positive (suc n) = Some (suc n)

unfoldable pub port_of : List ℕ → Option ℕ
port_of text = number_up_to 65535 text >>= positive

-- three dots and a colon
abbrev pub ends : List ℕ
ends = 46 ∷ 46 ∷ 46 ∷ 58 ∷ []

-- four numbers before them, and a port
unfoldable pub address_of : List ℕ → Option Address
address_of text = do
  p ← numbers_before ends text
  port ← port_of p.1
  Some (record { ip = p.0; port = port })

-- numbers in decimal, each before its byte
abbrev pub numbers_text : List ℕ → List ℕ → List ℕ
numbers_text [] numbers = []
numbers_text (end ∷ others) [] = []
numbers_text (end ∷ others) (n ∷ numbers) = decimal n ++ end ∷ numbers_text others numbers

unfoldable pub address_text : Address → List ℕ
address_text a = numbers_text ends a.ip ++ decimal a.port

-- an address that has a text
abbrev pub is_byte : ℕ → Bool
is_byte n = nat_le n 255

pub record IsAddress (a : Address) : Type 0 where
  pub four : length a.ip ≡ 4
  pub bytes : list_all is_byte a.ip ≡ true
  pub some : 1 ≤ a.port
  pub fits : a.port ≤ 65535

abbrev pub same_address : Address → Address → Bool
same_address a b = bytes_eq a.ip b.ip && (a.port == b.port)

-- no two are equal
abbrev pub are_distinct : List Address → Bool
are_distinct [] = true
are_distinct (a ∷ others) = not (list_any (same_address a) others) && are_distinct others
