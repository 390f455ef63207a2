-- What a yes means of a claim, by how its values are spelled: of each record of a machine, and of handlers.
use Rattle.std.specs.Prelude.{◌≡◌, ◌↔◌, ℕ, List, [], map, Option}
use Rattle.std.proofs.Common.{◌∙◌, sym, refl}
use Rattle.app_text.specs.Spelling.{IsSpelling}
use Rattle.check_text.specs.Claims.{image_line, item_line}
use Rattle.handler_trait.specs.Handling.{Meaning}
use Rattle.linearizability.specs.Linearizable.{IsLinearizable}
use Rattle.net_semantics.specs.BelowPb.{below_pb, inputs_at}
use Rattle.net_semantics.specs.Runs.{first_refused, no_recovery, trace}
use Rattle.schedule_text.specs.Printing.{item_text, step_text}
use Rattle.trace_maps.specs.SingleNode.{alone}
use Rattle.vst_base.specs.Machines.{MachineMeaning, fold}
use Rattle.vst_base.specs.declared.net.Net.{Net}
use Rattle.claim_verdicts.specs.Backups.{BackupClaim, backup_verdict, is_wrong_answer, is_wrong_at_backup}
use Rattle.claim_verdicts.specs.Clusters.{ClusterClaim, cluster_verdict}
use Rattle.claim_verdicts.specs.Laws.{AreSpelled, AreSpelledReplies, IsExplained, IsShown}
use Rattle.claim_verdicts.specs.Places.{first_difference, first_wrong}
use Rattle.claim_verdicts.specs.Schedules.{ScheduleClaim, schedule_verdict, shown_lines}
use Rattle.claim_verdicts.specs.declared.verdict.Verdict.TheVariants.{Yes}
use Rattle.claim_verdicts.proofs.Apart.{told-apart}
use Rattle.claim_verdicts.proofs.Differences.{shown-same}
use Rattle.claim_verdicts.proofs.Explained.{explained-of, none-answer, none-backup}
use Rattle.claim_verdicts.proofs.Linear.{linear-of, yes-of}
use Rattle.claim_verdicts.proofs.NoneWrongs.{first-none, none-first}
use Rattle.claim_verdicts.proofs.SameLines.{all-true, both-true, lines-same, same-lines}

-- on handlers, whose image is a schedule: nothing need be spelled
pub yes-shown : {S I O M : Type 0} (input_text : I → List ℕ) (output_text : O → List ℕ) (net : Net) (m : Meaning S I O M) (c : ScheduleClaim I O)
    → (schedule_verdict input_text output_text net m c ≡ Yes) ↔ IsShown input_text output_text net m c
yes-shown t u net m c =
    let shown = trace m no_recovery c.image in
    let same = shown-same t u 0 c.trace shown in (
      λ e.
          let parts = both-true 4 5 (λ p. image_line c p.0) item_line (first_refused net m no_recovery c.image) (first_difference 0 (shown_lines t u c.trace) (shown_lines t u shown)) e in
          record { allowed = parts.0; trace = same-lines 0 (map (item_text t u) c.trace) (map (item_text t u) shown) (sym same ∙ parts.1) },
      λ is. rw (is.allowed, same ∙ lines-same 0 (map (item_text t u) c.trace) (map (item_text t u) shown) is.trace) refl,
    )

module _ {S C O : Type 0} (HasOut : O → Type 0) (output_of : List ℕ → Option O) (output_text : O → List ℕ) (outs : IsSpelling HasOut output_of output_text) (m : MachineMeaning S C O) where
  -- on a machine under primary-backup: its outputs
  pub yes-one-machine : (input_text : C → List ℕ) (c : BackupClaim C O) → AreSpelledReplies HasOut m c → (backup_verdict input_text output_text m c ≡ Yes) ↔ IsExplained input_text m c
  yes-one-machine t c spelled =
      let apart = told-apart HasOut output_of output_text outs in
      let all = fold m (inputs_at 0 c.trace) in
      let given = map (step_text t) c.image in
      let wanted = map (step_text t) (alone (below_pb c.trace)) in (
        λ e.
            let parts = all-true 6 7 8 (image_line c) item_line item_line (first_difference 0 given wanted) (first_wrong (is_wrong_answer output_text all) [] c.trace) (first_wrong is_wrong_at_backup [] c.trace) e in
            record {
              machine = explained-of HasOut output_text apart m c.trace spelled.trace spelled.outputs (none-first (is_wrong_answer output_text all) [] c.trace parts.1) (none-first is_wrong_at_backup [] c.trace parts.2);
              image = same-lines 0 given wanted parts.0;
            },
        λ is. rw (
          lines-same 0 given wanted is.image,
          first-none (is_wrong_answer output_text all) [] c.trace (none-answer output_text m c.trace is.machine [] c.trace refl),
          first-none is_wrong_at_backup [] c.trace (none-backup output_text m c.trace is.machine [] c.trace refl),
        ) refl,
      )

  -- and on a cluster: its commands too
  pub yes-linearizable : (HasIn : C → Type 0) (input_of : List ℕ → Option C) (input_text : C → List ℕ) → IsSpelling HasIn input_of input_text → (c : ClusterClaim C O) → AreSpelled HasIn HasOut m c
      → (cluster_verdict input_text output_text m c ≡ Yes) ↔ IsLinearizable m c.image c.trace
  yes-linearizable HasIn input_of t ins c spelled =
      let inputs = told-apart HasIn input_of t ins in
      let outputs = told-apart HasOut output_of output_text outs in
      (linear-of HasIn HasOut t output_text inputs outputs m c spelled, yes-of HasIn HasOut t output_text inputs outputs m c spelled)
