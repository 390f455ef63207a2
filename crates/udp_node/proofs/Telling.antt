-- What a device tells, call after call.
use Rattle.std.proofs.Common.{◌≡◌, ◌+◌, ◌≤◌, ℕ, List, Option, Some, None, IfSome, OnSome, arith, subst}
use Rattle.disk.specs.Acts.{Act}
use Rattle.node_device.specs.Telling.{Told, told_after, Did, TellsOn, WhereTold}
use Rattle.udp_node.specs.Serving.{StillTold}
use Rattle.udp_node.proofs.Clock.{tells_both, tells_more}

pub told_is : (before now : Told) (acts : List Act) → Did (Some before) (Some now) acts → now ≡ told_after before acts
told_is before now acts did = cc

-- a device that stopped telling
stopped : (n : ℕ) (R : Told → Told → Type 0) (a c : Option Told) → c ≡ None → TellsOn n a None → StillTold n a c R
stopped n R None c e tells = e
stopped n R (Some before) None e tells = tells
stopped n R (Some before) (Some now) e tells = cc

-- a call that may stop telling, and then one that may not
pub then_told : (P Q : Told → Told → Type 0) (n : ℕ) (a b c : Option Told) (acts : List Act) → TellsOn n a b → OnSome b (Did a b acts) → WhereTold b c P →
    ((before mid now : Told) → mid ≡ told_after before acts → P mid now → Q before now) → StillTold n a c Q
then_told P Q n a None c acts tells did p by = stopped n Q a c p tells
then_told P Q n None (Some mid) c acts tells did p by = cc
then_told P Q n (Some before) (Some mid) None acts tells did p by = absurd p
then_told P Q n (Some before) (Some mid) (Some now) acts tells did p by = by before mid now (told_is before mid acts did) p

-- a call that may stop telling, alone
pub alone_told : (Q : Told → Told → Type 0) (n : ℕ) (a b : Option Told) (acts : List Act) → TellsOn n a b → OnSome b (Did a b acts) →
    ((before now : Told) → now ≡ told_after before acts → Q before now) → StillTold n a b Q
alone_told Q n None b acts tells did by = tells
alone_told Q n (Some before) None acts tells did by = tells
alone_told Q n (Some before) (Some now) acts tells did by = by before now (told_is before now acts did)

-- Two calls of which one at least may stop telling. This held of what was told before them.

pub still_then : (I : Told → Type 0) (P Q R : Told → Told → Type 0) (n : ℕ) (a b c : Option Told) → IfSome a I → StillTold n a b P → WhereTold b c Q →
    ((before mid now : Told) → I before → P before mid → Q mid now → R before now) → StillTold n a c R
still_then I P Q R n None b c i p q by = subst (λ (o : Option Told). WhereTold o c Q) p q
still_then I P Q R n (Some before) None c i p q by = stopped n R (Some before) c q p
still_then I P Q R n (Some before) (Some mid) None i p q by = absurd q
still_then I P Q R n (Some before) (Some mid) (Some now) i p q by = by before mid now i p q

pub still_still : (P Q R : Told → Told → Type 0) (j k : ℕ) (a b c : Option Told) → TellsOn j a b → StillTold j a b P → StillTold k b c Q →
    ((before mid now : Told) → P before mid → Q mid now → R before now) → StillTold (j + k) a c R
still_still P Q R j k None b c tells p q by = subst (λ (o : Option Told). StillTold k o c Q) tells q
still_still P Q R j k (Some before) None c tells p q by = stopped (j + k) R (Some before) c q (tells_more j (j + k) (omega arith) (Some before) None tells)
still_still P Q R j k (Some before) (Some mid) None tells p q by = tells_both j k (Some before) (Some mid) None tells q
still_still P Q R j k (Some before) (Some mid) (Some now) tells p q by = by before mid now p q

pub still_both : (P Q : Told → Told → Type 0) (n : ℕ) (a b : Option Told) → StillTold n a b P → StillTold n a b Q →
    StillTold n a b (λ before now. P before now × Q before now)
still_both P Q n None b p q = p
still_both P Q n (Some before) None p q = p
still_both P Q n (Some before) (Some now) p q = (p, q)

-- the same of one call

pub still_as : (I : Told → Type 0) (P Q : Told → Told → Type 0) (n : ℕ) (a b : Option Told) → IfSome a I → StillTold n a b P →
    ((before now : Told) → I before → P before now → Q before now) → StillTold n a b Q
still_as I P Q n None b i p by = p
still_as I P Q n (Some before) None i p by = p
still_as I P Q n (Some before) (Some now) i p by = by before now i p

pub still_if : (I J : Told → Type 0) (P : Told → Told → Type 0) (n : ℕ) (a b : Option Told) → IfSome a I → StillTold n a b P →
    ((before now : Told) → I before → P before now → J now) → IfSome b J
still_if I J P n a None i p by = tt
still_if I J P n None (Some now) i p by = cc
still_if I J P n (Some before) (Some now) i p by = by before now i p

-- with clock values to spare
pub still_more : (P : Told → Told → Type 0) (j k : ℕ) → j ≤ k → (a b : Option Told) → StillTold j a b P → StillTold k a b P
still_more P j k le None b p = p
still_more P j k le (Some before) None p = tells_more j k le (Some before) None p
still_more P j k le (Some before) (Some now) p = p
