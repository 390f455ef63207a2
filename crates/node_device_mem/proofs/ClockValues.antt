-- How many clock values are in the record.
use Rattle.std.proofs.Common.{◌≡◌, ℕ, zero, suc, ◌+◌, ◌-◌, ◌^◌, ◌≤◌, Bool, true, false, if◌then◌else◌, Option, Some, None, List, flat_map, refl, ap, ◌∙◌, arith}
use Rattle.disk.specs.Acts.{Act}
use Rattle.disk.specs.Disk.{Disk}
use Rattle.node_device.specs.Telling.{TellsOn, nows_in}
use Rattle.node_device.proofs.ClockValues.{nows_append}
use Rattle.node_device_mem.specs.Devices.{told_by}
use Rattle.node_device_mem.specs.Histories.{acts_of, all_acts, nows_from}
use Rattle.node_device_mem.specs.declared.past.Past.{Past}

nows_all : (clock : List ℕ) (from n : ℕ) → nows_in (nows_from clock from n) ≡ n
nows_all clock from zero = refl
nows_all clock from (suc n) = ap (λ m. suc m) (nows_all clock (suc from) n)

nows_of : (clock : List ℕ) (pasts : List Past) (from nows : ℕ) →
    nows_in (all_acts clock pasts from nows) ≡ nows_in (flat_map (acts_of clock) pasts) + nows
nows_of clock pasts from nows =
    nows_append (flat_map (acts_of clock) pasts) (nows_from clock from nows)
    ∙ ap (λ n. nows_in (flat_map (acts_of clock) pasts) + n) (nows_all clock from nows)

abbrev pub told_unless : Bool → List Act → Option (List Act)
told_unless full acts = if full then None else Some acts

-- one clock value more
pub tells_on : (full : Bool) (clock : List ℕ) (pasts : List Past) (from nows : ℕ) (disk : Disk) →
    TellsOn 1 (told_by (told_unless full (all_acts clock pasts from nows)) disk)
    (told_by (told_unless full (all_acts clock pasts from (nows + 1))) disk)
tells_on true clock pasts from nows disk = refl
tells_on false clock pasts from nows disk =
    let before = nows_of clock pasts from nows in
    let after = nows_of clock pasts from (nows + 1) in
    omega arith

-- one that is not counted any more
pub tells_no_more : (full : Bool) (clock : List ℕ) (pasts : List Past) (from nows : ℕ) (disk : Disk) → 2 ^ 64 - 1 ≤ nows →
    TellsOn 1 (told_by (told_unless full (all_acts clock pasts from nows)) disk) None
tells_no_more true clock pasts from nows disk h = refl
tells_no_more false clock pasts from nows disk h = let all = nows_of clock pasts from nows in omega arith
