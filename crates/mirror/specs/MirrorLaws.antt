-- An event of the mirror puts out one value and sends one packet at most, to node 0.
use Rattle.std.specs.Prelude.{ℕ, ◌<◌, ◌==◌, Bool, true, false, cond}
use Rattle.std.proofs.Common.{arith}
use Rattle.handler_trait.specs.Handling.{IsModest}
use Rattle.vst_base.specs.declared.mirror.MirrorInput.{MirrorInput}
use Rattle.vst_base.specs.declared.mirror.MirrorInput.TheVariants as ask
use Rattle.vst_base.specs.declared.mirror.MirrorMsg.{MirrorMsg}
use Rattle.vst_base.specs.declared.mirror.MirrorMsg.TheVariants as msg
use Rattle.mirror.specs.Mirroring.{MirrorEffect, mirror, nothing, said}

abbrev pub IsMirrorModest : ℕ → MirrorEffect → Type 0
IsMirrorModest nodes e = IsModest nodes 1 (λ _. Unit {0}) (λ _. 0) tt e

pub modest_input : (nodes n : ℕ) (i : MirrorInput) → n < nodes → IsMirrorModest nodes ((mirror nodes).input n tt i)
modest_input nodes n (ask.Put value) below = record { few = omega arith; to_nodes = (omega arith, tt); cheap = omega arith; few_outputs = λ sound. omega arith }

modest-said : (nodes from : ℕ) (m : MirrorMsg) (b : Bool) → IsMirrorModest nodes (cond b (said from m) nothing)
modest-said nodes from (msg.Item value) true = record { few = omega arith; to_nodes = tt; cheap = omega arith; few_outputs = λ sound. omega arith }
modest-said nodes from m false = record { few = omega arith; to_nodes = tt; cheap = omega arith; few_outputs = λ sound. omega arith }

pub modest_message : (nodes n from : ℕ) (m : MirrorMsg) → IsMirrorModest nodes ((mirror nodes).message n tt from m)
modest_message nodes n from m = modest-said nodes from m (n == 0)

pub modest_timeout : (nodes n : ℕ) → IsMirrorModest nodes ((mirror nodes).timeout n tt)
modest_timeout nodes n = record { few = omega arith; to_nodes = tt; cheap = omega arith; few_outputs = λ sound. omega arith }
