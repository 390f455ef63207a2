-- A plain command has no global argument.
use Rattle.std.proofs.Common.{◌≡◌, ◌&&◌, Bool, true, false, not}
use Rattle.std.proofs.lemmas.Bool.{not-true}
use Rattle.clap.proofs.WalkLemmas.{both}

pub none_global : (no_groups no_external global rest : Bool) → (no_groups && (no_external && (not global && rest))) ≡ true → global ≡ false
none_global no_groups no_external global rest plain =
    not-true global (both (not global) rest (both no_external (not global && rest) (both no_groups (no_external && (not global && rest)) plain).1).1).0
