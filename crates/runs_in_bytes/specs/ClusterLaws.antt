-- A cluster on bytes alone has the nodes of the cluster within, and its worlds tell of nodes and packets what those within tell.
use Rattle.std.specs.Prelude.{◌≡◌, ℕ, List, Option, option_map, refl}
use Rattle.std.proofs.Common.{subst, sym}
use Rattle.handler_trait.specs.Handling.{Meaning}
use Rattle.net_semantics.specs.Worlds.{World}
use Rattle.vst_base.specs.declared.stack.StackId.{StackId}
use Rattle.wire_fields.specs.Formats.{Format}
use Rattle.wired.specs.Saving.{Saving, saved, world_saved}
use Rattle.wired.specs.Wiring.{no_name, wired}
use Rattle.runs_in_bytes.specs.Clusters.{ByteCluster, byte_world}
use Rattle.runs_in_bytes.specs.ToldLaws.{as_many_copies, as_many_sent, ends_alike}
use Rattle.runs_in_bytes.specs.Within.{TellsTheSame}

module _ {H S K M : Type 0} (f : Format M) (saving : H → StackId → List ℕ → Saving K) (w : ByteCluster H) where
  pub cluster_tells : {I O : Type 0} (meaning : H → Meaning S I O M)
      → TellsTheSame (wired f w.stack w.name (saved (meaning w.inner.inner))) (meaning w.inner.inner) (byte_world f saving w)
  cluster_tells meaning =
      let kept = saving w.inner.inner w.stack w.name in
      record {
        nodes = refl;
        takes_input = λ n. refl;
        is_up = λ v n. refl;
        sent = λ v. as_many_sent f w.stack w.name (world_saved kept v);
        copies = λ v k. as_many_copies f w.stack w.name (world_saved kept v) k;
        ends = λ v k. ends_alike f w.stack w.name (world_saved kept v) k;
      }

  -- what a stopped node of it keeps is the bytes of what the node within would keep
  pub kept_as : (v : World S K M) (n : ℕ) (o : Option (List ℕ)) → w.name ≡ no_name → (byte_world f saving w v).kept n ≡ o
      → o ≡ option_map ((saving w.inner.inner w.stack no_name).spell n) (v.kept n)
  kept_as v n o named same =
      subst (λ (x : List ℕ). o ≡ option_map ((saving w.inner.inner w.stack x).spell n) (v.kept n)) named (sym same)
