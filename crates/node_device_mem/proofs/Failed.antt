-- Store calls that did to the areas just what they stand for in the record.
use Rattle.std.proofs.Common.{◌≡◌, ℕ, zero, suc, [], ◌∷◌, Option, Some, None, option_map, refl, sym, ap, subst, ◌∙◌}
use Rattle.disk.specs.Acts.{StoreCall, Act, StoreFailed}
use Rattle.disk.specs.Areas.{changed}
use Rattle.disk.specs.Disk.{Area, Disk, settled}
use Rattle.node_device.specs.Telling.{Told, Did, WhereTold, Recorded, OthersStay, besides}
use Rattle.node_device_mem.specs.Devices.{noted, noted_with}

pub failed_exactly : (call : StoreCall) (old new : Option Told) → Did old new (StoreFailed call ∷ []) → WhereTold old new (Recorded (StoreFailed call ∷ []))
failed_exactly call None new e = e
failed_exactly call (Some t) new e =
    subst (λ (o : Option Told). WhereTold (Some t) o (Recorded (StoreFailed call ∷ []))) (sym e) (record { acts = refl; disk = λ image h. h })

left_out : (area : ℕ) (f : Area → Area) (disk : Disk) → changed (changed disk area f) area (λ _. settled []) ≡ changed disk area (λ _. settled [])
left_out zero f disk = refl
left_out (suc zero) f disk = refl
left_out (suc (suc n)) f disk = refl

-- one area is changed
pub others_changed : (area : ℕ) (f : Area → Area) (act : Act) (old new : Option Told) → new ≡ noted_with act (λ disk. changed disk area f) old → OthersStay area old new
others_changed area f act None new e = ap (λ o. option_map (besides area) o) e
others_changed area f act (Some t) new e =
    ap (λ o. option_map (besides area) o) e ∙ ap (λ disk. let found : Option Disk = Some disk in found) (left_out area f t.disk)

-- none is changed
pub others_noted : (area : ℕ) (act : Act) (old new : Option Told) → new ≡ noted act old → OthersStay area old new
others_noted area act None new e = ap (λ o. option_map (besides area) o) e
others_noted area act (Some t) new e = ap (λ o. option_map (besides area) o) e
