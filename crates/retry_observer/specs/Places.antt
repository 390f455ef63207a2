-- What the packets of retrying handlers carry: packets of the run within, each by its place there. Here a packet is its source and,
-- where it is data, its number.
use Rattle.std.specs.Prelude.{◌≡◌, ℕ, zero, suc, ◌+◌, ◌≤◌, ◌==◌, ◌&&◌, Bool, true, false, List, [], ◌∷◌, ◌++◌, length, map, take, Option, Some, None, slice_get, if◌then◌else◌}
use Rattle.net_semantics.specs.Worlds.{Packet}
use Rattle.observer_parts.specs.PacketLists.{list_at}
use Rattle.vst_base.specs.declared.retry.RetryMsg.{RetryMsg}
use Rattle.vst_base.specs.declared.retry.RetryMsg.TheVariants as msg
use Rattle.retry_xform.specs.Image.{place_of, with_name}

-- the number of data; an acknowledgement bears none of its own
abbrev pub number_in : {M : Type 0} → RetryMsg M → Option ℕ
number_in (msg.Data number inner) = Some number
number_in (msg.Ack number) = None

abbrev pub numbers_in : {M : Type 0} → List (Packet (RetryMsg M)) → List (ℕ × Option ℕ)
numbers_in ps = map (λ p. (p.source, number_in p.content)) ps

-- these names, and that of one packet more
abbrev pub with_number : ℕ → Option ℕ → List (ℕ × ℕ) → List (ℕ × ℕ)
with_number n None ns = ns
with_number n (Some x) ns = with_name (n, x) ns

-- the names of the data among these packets, in the order in which each was first sent: the packets of the run within
abbrev pub named_from : List (ℕ × ℕ) → List (ℕ × Option ℕ) → List (ℕ × ℕ)
named_from ns [] = ns
named_from ns (b ∷ bs) = named_from (with_number b.0 b.1 ns) bs

abbrev pub named : List (ℕ × Option ℕ) → List (ℕ × ℕ)
named bs = named_from [] bs

-- the numbers of one node among these names, in their order
abbrev pub numbers_at : ℕ → List (ℕ × ℕ) → List ℕ
numbers_at n [] = []
numbers_at n (a ∷ ns) = if n == a.0 then a.1 ∷ numbers_at n ns else numbers_at n ns

-- 0, 1 and so on, so many
abbrev pub up_to : ℕ → List ℕ
up_to zero = []
up_to (suc x) = up_to x ++ x ∷ []

-- the packet of the run within that a packet carries, by its place among these names
abbrev pub carried_by : List (ℕ × ℕ) → ℕ → Option ℕ → Option ℕ
carried_by ns n None = None
carried_by ns n (Some x) = place_of (n, x) ns

-- what each of these packets carries
abbrev pub all_carried : List (ℕ × ℕ) → List (ℕ × Option ℕ) → List (Option ℕ)
all_carried ns bs = map (λ b. carried_by ns b.0 b.1) bs

-- and what packet k of these does
abbrev pub if_sent : List (ℕ × ℕ) → Option (ℕ × Option ℕ) → Option ℕ
if_sent ns None = None
if_sent ns (Some b) = carried_by ns b.0 b.1

abbrev pub carried_at : List (ℕ × Option ℕ) → ℕ → Option ℕ
carried_at bs k = if_sent (named bs) (slice_get bs k)

-- what is kept: what each packet carries, the packets of the run within of each node, by their numbers, and how many there are
pub record PlacesView : Type 0 where
  pub carried : List (Option ℕ)
  pub lists : List (List ℕ)
  pub count : ℕ

-- what is kept follows these packets
pub record Follows (v : PlacesView) (bs : List (ℕ × Option ℕ)) : Type 0 where
  pub carried : v.carried ≡ all_carried (named bs) bs
  pub lists : (n number : ℕ) → slice_get (list_at v.lists n) number ≡ place_of (n, number) (named bs)
  pub count : v.count ≡ length (named bs)

-- a packet that comes after these is new data: it has the next number of its source
pub record IsNew (bs : List (ℕ × Option ℕ)) (n : ℕ) (o : Option ℕ) : Type 0 where
  pub number : ℕ
  pub is : o ≡ Some number
  pub next : numbers_at n (named bs) ≡ up_to number

-- or it bears no new name: it carries this
pub record IsKnown (carried : Option ℕ) (bs : List (ℕ × Option ℕ)) (n : ℕ) (o : Option ℕ) : Type 0 where
  pub carries : carried_by (named bs) n o ≡ carried
  pub same : with_number n o (named bs) ≡ named bs

abbrev pub Comes : Bool → Option ℕ → List (ℕ × Option ℕ) → ℕ → Option ℕ → Type 0
Comes true carried bs n o = IsKnown carried bs n o
Comes false carried bs n o = IsNew bs n o

-- of these packets each that comes after the first so many is new data, but for the last one where that is known
abbrev pub ComeAfter : ℕ → Bool → Option ℕ → List (ℕ × Option ℕ) → Type 0
ComeAfter before known carried bs =
    (k n : ℕ) (o : Option ℕ) → before ≤ k → slice_get bs k ≡ Some (n, o) → Comes (known && (k + 1 == length bs)) carried (take k bs) n o
