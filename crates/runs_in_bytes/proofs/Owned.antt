-- Of handlers that are put into a cluster the bytes are its own.
use Rattle.std.specs.Prelude.{◌≡◌, ℕ, ◌≤◌, List}
use Rattle.std.proofs.Common.{ap, subst, sym, ◌∙◌}
use Rattle.handler_trait.specs.Handling.{Meaning}
use Rattle.raft_types.specs.Messages.{IsClusterSize}
use Rattle.vst_base.specs.declared.stack.StackId.{StackId}
use Rattle.wire_codec.specs.Datagrams.{longest_message}
use Rattle.wire_codec.specs.Headings.{HasByte}
use Rattle.wire_fields.specs.Formats.{Format}
use Rattle.wired.specs.WiredRuns.{IsFormatOf}
use Rattle.wired.specs.Wiring.{Named, no_name}
use Rattle.runs_in_bytes.specs.Clusters.{ByteCluster, IsOwnCluster}

module _ {H : Type 0} (h : H) (stack : StackId) (name : List ℕ) where
  abbrev put_in : {A : Type 0} → A → Named A
  put_in x = record { inner = x; stack = stack; name = name }

  pub within : (kept : Named H) (w : ByteCluster H) → kept ≡ put_in h → w ≡ put_in kept → w.inner.inner ≡ h
  within kept w keeps packets = ap (λ (w : ByteCluster H). w.inner.inner) packets ∙ ap (λ (k : Named H). k.inner) keeps

  pub owned : {S I O M : Type 0} (f : Format M) (longest : ℕ) (meaning : H → Meaning S I O M) (kept : Named H) (w : ByteCluster H) → kept ≡ put_in h → w ≡ put_in kept → name ≡ no_name → HasByte stack → IsFormatOf stack f → longest ≤ longest_message
      → IsClusterSize (meaning h).nodes → IsOwnCluster f longest meaning w
  owned f longest meaning kept w keeps packets named has is short size =
      let stacks = ap (λ (w : ByteCluster H). w.stack) packets in
      let names = ap (λ (w : ByteCluster H). w.name) packets in
      let bodies : w.inner ≡ put_in h = ap (λ (w : ByteCluster H). w.inner) packets ∙ keeps in
      record {
        packets = subst HasByte (sym stacks) has;
        format = subst (λ (s : StackId). IsFormatOf s f) (sym stacks) is;
        short = short;
        size = subst (λ (h : H). IsClusterSize (meaning h).nodes) (sym (ap (λ (k : Named H). k.inner) bodies)) size;
        same_stack = ap (λ (k : Named H). k.stack) bodies ∙ sym stacks;
        same_name = ap (λ (k : Named H). k.name) bodies ∙ sym names;
        named = names ∙ named;
      }
