-- From what a device tells after it has begun to what it told before, and from a node's answer to what its run comes to.
use Rattle.std.specs.Prelude.{◌≡◌, ℕ, List, [], ◌∷◌, Option, Some, None, Result, Ok, Err, IfSome, IsErrAnd}
use Rattle.std.proofs.Common.{arith, refl, subst, sym}
use Rattle.disk.specs.Acts.{Began}
use Rattle.node_config.specs.declared.config.Config.{Config}
use Rattle.node_datagrams.specs.Saying.{SendsOnly}
use Rattle.node_device.specs.Faults.{Faults}
use Rattle.node_device.specs.Telling.{Did, Told, told_after}
use Rattle.outside.specs.declared.device.Address.{Address}
use Rattle.node_device.proofs.ClockValues.{nows_append}
use Rattle.udp_node.specs.Causes.{RanFault}
use Rattle.udp_node.specs.Serving.{Meets, StillTold}
use Rattle.udp_node.specs.Stacks.{refused_areas}
use Rattle.udp_node.specs.declared.fault.NodeFault.{NodeFault}
use Rattle.vst_base.specs.declared.stack.StackId.{StackId}
use Rattle.vst_base.specs.declared.stack.StackId.TheVariants as stack
use Rattle.commands.specs.declared.trouble.Trouble.{Trouble}

-- beginning changes no area
refused_same : (s : StackId) (config : Config) (at : Address) (dir : List ℕ) (before : Told)
    → refused_areas s config (told_after before (Began at dir ∷ [])) ≡ refused_areas s config before
refused_same stack.Lock config at dir before = refl
refused_same stack.LockSeq config at dir before = refl
refused_same stack.KvPb config at dir before = refl
refused_same stack.KvPbSeq config at dir before = refl
refused_same stack.KvRaft config at dir before = refl
refused_same stack.TablePbSeq config at dir before = refl
refused_same stack.TableRaft config at dir before = refl
refused_same stack.Kv config at dir before = refl
refused_same stack.Table config at dir before = refl
refused_same stack.Mirror config at dir before = refl
refused_same stack.MirrorFifo config at dir before = refl
refused_same stack.LockSeqRetry config at dir before = refl
refused_same stack.KvPbSeqRetry config at dir before = refl
refused_same stack.KvRaftRead config at dir before = refl
refused_same stack.TableRaftRead config at dir before = refl

pub areas_begun : (config : Config) (at : Address) (dir : List ℕ) (answer : Result (Unit {0}) NodeFault) (old mid : Option Told) → Did old mid (Began at dir ∷ [])
    → IfSome mid (λ told. Meets (refused_areas config.stack config told) answer) → IfSome old (λ told. Meets (refused_areas config.stack config told) answer)
areas_begun config at dir answer None mid did p = tt
areas_begun config at dir answer (Some told) mid did p =
    subst (λ first. Meets first answer) (refused_same config.stack config at dir told)
    (subst (λ mid. IfSome mid (λ told. Meets (refused_areas config.stack config told) answer)) did p)

-- beginning asks for no clock value
pub still_begun : (P : Told → Told → Type 0) (n : ℕ) (at : Address) (dir : List ℕ) (old mid new : Option Told) → Did old mid (Began at dir ∷ [])
    → StillTold n mid new P → StillTold n old new (λ before now. P (told_after before (Began at dir ∷ [])) now)
still_begun P n at dir None mid new did p = subst (λ mid. StillTold n mid new P) did p
still_begun P n at dir (Some before) mid None did p =
    let stopped = subst (λ mid. StillTold n mid None P) did p in omega (arith, stopped, nows_append before.acts (Began at dir ∷ []))
still_begun P n at dir (Some before) mid (Some now) did p = subst (λ mid. StillTold n mid (Some now) P) did p

-- counts that beginning left as they were
pub sends_begun : (old mid new : Faults) → mid ≡ old → SendsOnly mid new → SendsOnly old new
sends_begun old mid new same p = subst (λ mid. SendsOnly mid new) same p

pub fault_begun : (old mid new : Faults) (e : NodeFault) → mid ≡ old → RanFault mid new e → RanFault old new e
fault_begun old mid new e same p = subst (λ mid. RanFault mid new e) same p

-- an answer that is handed on
pub handed_on : (r : Result (Unit {0}) Trouble) (t : Trouble) (P : Result (Unit {0}) Trouble → Type 0) → IsErrAnd r (λ y. y ≡ t) → P (Err t) → P r
handed_on (Ok x) t P h p = absurd h
handed_on (Err y) t P h p = subst (λ y. P (Err y)) (sym h) p
