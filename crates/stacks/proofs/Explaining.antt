-- Each kind of stack explains what it plays, of any handlers and any machine, and of any transformers over them.
use Rattle.std.specs.Prelude.{ℕ, ◌≤◌, List, map, refl}
use Rattle.std.proofs.Common.{◌∙◌, ap, arith, subst, sym}
use Rattle.net_semantics.specs.BelowPb.{below_pb}
use Rattle.net_semantics.specs.RunLaws.{outputs_in-machine_trace_from}
use Rattle.net_semantics.specs.Runs.{IsAllowed, machine_trace, no_recovery, outputs_in}
use Rattle.net_semantics.specs.Worlds.{first_world}
use Rattle.primary_backup.proofs.Backing.{bag_explained}
use Rattle.trace_maps.proofs.Alone.{all-of-them, any-commands, from-any-state}
use Rattle.trace_maps.specs.SingleNode.{single_node, alone}
use Rattle.transformers.specs.Transformers.{IsCarried}
use Rattle.vst_base.specs.declared.net.Net.{Net}
use Rattle.vst_base.specs.declared.pb_out.PbOut.TheVariants as told
use Rattle.vst_base.specs.declared.stack.StackRow.{StackRow}
use Rattle.vst_base.specs.declared.step.Item.{Item}
use Rattle.stacks.specs.Explained.{ExplainsAll, LayersTakeImages, RepliesAsAlone, TakesCommands, TakesImages, alone_play}
use Rattle.stacks.specs.Fits.{AreCarried, IsFit}
use Rattle.stacks.specs.Kinds.{Alone, Application, Backed, Clustered, Itself, Kind, Layers, Own, Service, Steady, Through, plays, service, steady_plays}

-- layers explain what they play, by what each transformer carries
layers-explain : (l : Layers) (n : ℕ) → AreCarried l → ExplainsAll (steady_plays (service l) n)
layers-explain (Own h) n carried = λ ss allowed. record { allowed = allowed; trace = refl }
layers-explain (Alone p) n carried = λ ss allowed. record { allowed = allowed; trace = from-any-state p.machine no_recovery (first_world (single_node p.machine)) ss allowed }
layers-explain (Backed p) n carried = λ ss allowed. record { machine = bag_explained p.machine no_recovery ss allowed; image = refl }
layers-explain (Through t l) n carried = λ ss allowed.
    let s : Service = service l in
    let inner = t.within (s.handlers n) ss in
    let is : IsCarried t (s.handlers n) ss = carried.0.carries (s.handlers n) ss allowed in
    let below : IsAllowed s.net (s.handlers n) (no_recovery {S = s.State}) inner =
    subst (λ (on : Net). IsAllowed on (s.handlers n) (no_recovery {S = s.State}) inner) (sym carried.0.stands) is.allowed in
    subst (λ (items : List (Item s.Input s.Output)). s.Explains (record { trace = items; header = (s.below n).header; image = s.image n inner items })) (sym is.trace)
    (layers-explain l n carried.1 inner below)
layers-explain (Itself i l) n carried = λ ss allowed. record { allowed = allowed; trace = refl }

pub explains : (row : StackRow) (k : Kind) (n : ℕ) → IsFit row k → row.least ≤ n → n ≤ row.most → ExplainsAll (plays k n)
explains row (Steady l) n fit least most = layers-explain l n fit.nodes.carried
explains row (Clustered k) n fit least most = λ ss allowed.
    fit.nodes.acts.linearizable n ss (omega (arith, fit.some, least), omega (arith, fit.few, most)) allowed

takes-commands : (p : Application) → TakesCommands p
takes-commands p =
    let first = first_world (single_node p.machine) in
    record {
      allowed = λ cs. any-commands p.machine no_recovery first cs refl;
      trace = λ cs. from-any-state p.machine no_recovery first (alone cs) (any-commands p.machine no_recovery first cs refl) ∙ ap (machine_trace p.machine) (all-of-them cs);
    }

replies-as-alone : (p : Application) → RepliesAsAlone p
replies-as-alone p =
    let takes = takes-commands p in
    record {
      takes = takes;
      replies = λ c is.
          let below = below_pb c.trace in
          let alone_trace = ap (λ image. (alone_play p).trace image) is.image ∙ takes.trace below in
          is.machine.outputs ∙ ap (λ os. map told.Reply os) (sym (ap (λ items. outputs_in items) alone_trace ∙ outputs_in-machine_trace_from p.machine p.machine.init below));
    }

layers-take-images : (l : Layers) → LayersTakeImages l
layers-take-images (Own h) = tt
layers-take-images (Alone p) = takes-commands p
layers-take-images (Backed p) = replies-as-alone p
layers-take-images (Through t l) = layers-take-images l
layers-take-images (Itself i l) = tt

pub takes-images : (k : Kind) → TakesImages k
takes-images (Steady l) = layers-take-images l
takes-images (Clustered k) = tt
