use Rattle.std.specs.Prelude.{ℕ, List}
use Rattle.std.proofs.Common.{subst, sym}
use Rattle.vst_base.specs.declared.net.Net.TheVariants as net
use Rattle.vst_base.specs.declared.stack.StackId.{StackId}
use Rattle.wired.specs.Same.{RunsAlike}
use Rattle.wired.specs.Saving.{saved, saved_recovery}
use Rattle.wired.specs.Wiring.{wired}
use Rattle.runs_in_bytes.specs.Clusters.{byte_world}
use Rattle.runs_in_bytes.proofs.WorldInBytes.{is_name}
use Rattle.runs_in_bytes.proofs.cluster.WiredSavedOnBytesAlone.run_on_bytes_alone.Goals as goal

-- the bodies are of the stack and the name of the packets
pub returns : goal.returns
returns g c = λ h ss own may.
    let f = g.H.Msg.Wire.format in
    let saving = g.H.Saves.saving in
    let within = h.inner.inner in
    let m = g.H.Handlers.meaning within in
    let r = g.H.Rebootable.recovery within in
    let law = c.clusters_run_the_same_on_bytes_alone.ensures within h.stack own.packets own.format own.size own.short in
    let alike = law h.name net.Fail ss (is_name h.name own.named) may in
    let named = subst (λ (name : List ℕ). RunsAlike net.Fail (wired f h.stack h.name (saved m)) (saved_recovery (saving within h.stack name) m r) m r (byte_world f saving h) ss)
    (sym own.same_name) alike in
    subst (λ (stack : StackId). RunsAlike net.Fail (wired f h.stack h.name (saved m)) (saved_recovery (saving within stack h.inner.name) m r) m r (byte_world f saving h) ss)
    (sym own.same_stack) named
