-- Claims whose image is a schedule: where they were read, the lines of a trace tell its items.
use Rattle.std.specs.Prelude.{◌≡◌, ◌↔◌, ℕ, ◌<◌, ◌≤◌, List, map, Some, None}
use Rattle.std.proofs.Common.{ap, ◌∙◌, arith, sym}
use Rattle.app_text.specs.Spelling.{IsSpelling}
use Rattle.check_text.specs.Forms.{Form, claim_of, form_of}
use Rattle.check_text.specs.ImageLines.{step_says}
use Rattle.check_text.specs.Reading.{Whole}
use Rattle.check_text.specs.TraceLines.{item_or_refusal, trace_says}
use Rattle.claim_verdicts.specs.Laws.{IsShown}
use Rattle.claim_verdicts.specs.Schedules.{ScheduleClaim, schedule_verdict}
use Rattle.claim_verdicts.specs.declared.verdict.Verdict.TheVariants.{Yes}
use Rattle.claim_verdicts.proofs.Decided.{yes-shown}
use Rattle.handler_trait.specs.Handling.{Meaning}
use Rattle.net_semantics.specs.Runs.{IsAllowed, no_recovery, trace}
use Rattle.net_semantics.specs.Worlds.{first_world}
use Rattle.schedule_text.specs.Headers.{IsBy, IsHeader}
use Rattle.schedule_text.specs.Printing.{item_text}
use Rattle.schedule_text.specs.Spellable.{IsSpellable}
use Rattle.schedule_text.specs.declared.header.Header.{Header}
use Rattle.trace_maps.specs.SingleNode.{single_node}
use Rattle.trace_maps.proofs.Alone.{from-any-state}
use Rattle.stacks.specs.Claimed.{claims, of_itself}
use Rattle.stacks.specs.Kinds.{Alone, Application, IsWhatClientsSee, Service, Steady, itself, nodes_of, single, steady_plays}
use Rattle.stacks.specs.Plays.{Texts}
use Rattle.stacks.proofs.Headed.{within-row}
use Rattle.vst_base.specs.Stacks.{row_of}
use Rattle.vst_base.specs.declared.net.Net.{Net}
use Rattle.vst_base.specs.declared.net.Net.TheVariants as net
use Rattle.vst_base.specs.declared.stack.StackId.{StackId}
use Rattle.vst_base.specs.declared.step.Item.{Item}
use Rattle.vst_base.specs.declared.step.Step.{Step}
use Rattle.trace_check.specs.Spelled.{AreSpelled, HasInputText, HasOutputText, IsTextItem}
use Rattle.trace_check.proofs.ImageSteps.{same-by, step-text}
use Rattle.trace_check.proofs.ReadClaims.{AreApart, IsReadClaim, read-whole}
use Rattle.trace_check.proofs.Sights.{IsSpelledService}
use Rattle.trace_check.proofs.TextItems.{item-said, more-nodes}
use Rattle.trace_check.proofs.Verdicts.{IsDecided}
use Rattle.lists.specs.Each.{Each}

-- how a claim is spelled whose image is a schedule of this stack, and what it is once it was read
abbrev pub schedule_form : {I O : Type 0} → ℕ → StackId → Texts I O → Form I O (Step I)
schedule_form nodes own t = form_of nodes t.input_of t.output_of (Some own) (step_says t.input_of)

abbrev pub IsReadSchedule : {I O : Type 0} → ℕ → StackId → (I → Type 0) → (O → Type 0) → ScheduleClaim I O → Type 0
IsReadSchedule nodes own HasIn HasOut c = IsReadClaim nodes HasIn HasOut (IsSpellable HasIn) (Some own) c

module _ {I O : Type 0} (apart : AreApart) (nodes : ℕ) (own : StackId) (t : Texts I O) (HasIn : I → Type 0) (HasOut : O → Type 0) (ins : IsSpelling HasIn t.input_of t.input_text) (outs : IsSpelling HasOut t.output_of t.output_text) where
  pub schedule-read : (ls : List (List ℕ)) (c : ScheduleClaim I O) → claim_of (schedule_form nodes own t) ls ≡ Whole c → IsReadSchedule nodes own HasIn HasOut c
  schedule-read ls c is =
      read-whole apart (schedule_form nodes own t) HasIn HasOut (IsSpellable HasIn) ins.has_text outs.has_text (step-text t.input_of t.input_text HasIn ins) ls c is

  module _ (few_nodes : nodes < 4294967296) where
    item-apart : (a b : Item I O) → IsTextItem nodes HasIn HasOut a → IsTextItem nodes HasIn HasOut b → item_text t.input_text t.output_text a ≡ item_text t.input_text t.output_text b → a ≡ b
    item-apart a b one two e =
        let said = item-said (schedule_form nodes own t) t.input_text t.output_text HasIn HasOut few_nodes ins outs in
        let same : item_or_refusal None (Some a) ≡ item_or_refusal None (Some b) = sym (said a one) ∙ (ap (trace_says t.input_of t.output_of nodes) e ∙ said b two) in
        cc

    -- handlers of which clients see items that have texts
    module _ {S M : Type 0} (on : Net) (m : Meaning S I O M) (c : ScheduleClaim I O) (read : IsReadSchedule nodes own HasIn HasOut c)
        (seen : IsAllowed on m (no_recovery {S = S}) c.image → Each (IsTextItem nodes HasIn HasOut) (trace m (no_recovery {S = S}) c.image)) where
      clients-see : IsShown t.input_text t.output_text on m c → IsWhatClientsSee on m c
      clients-see by = record {
        allowed = by.allowed;
        trace = same-by (IsTextItem nodes HasIn HasOut) (item_text t.input_text t.output_text) item-apart c.trace (trace m (no_recovery {S = S}) c.image) read.trace (seen by.allowed) by.trace;
      }

      shown : IsWhatClientsSee on m c → IsShown t.input_text t.output_text on m c
      shown by = record { allowed = by.allowed; trace = ap (map (item_text t.input_text t.output_text)) by.trace }

      -- a yes on such a claim
      pub sees : (schedule_verdict t.input_text t.output_text on m c ≡ Yes) ↔ IsWhatClientsSee on m c
      sees = let law = yes-shown t.input_text t.output_text on m c in (λ y. clients-see (law.0 y), λ by. law.1 (shown by))

-- on handlers whose image is their own schedule, as one of this stack: an image has as many nodes as its header says
module _ (apart : AreApart) (own_row : (h : Header) → IsHeader h → IsBy (row_of h.stack) h) (nodes : ℕ) (few_nodes : nodes < 4294967296) (i : StackId) (s : Service) (fits : (row_of i).most ≤ nodes) (texts : AreSpelled s.texts)
    (seen : (k : ℕ) → (row_of i).least ≤ k → k ≤ (row_of i).most → IsSpelledService s k) where
  pub itself-decided : (n : ℕ) → IsDecided nodes (record { plays = steady_plays (itself i s.net s.handlers s.texts) n; claimed = of_itself s.net s.handlers s.texts })
  itself-decided n ls c by =
      let HasIn = HasInputText s.texts in
      let HasOut = HasOutputText s.texts in
      let read = schedule-read apart nodes i s.texts HasIn HasOut texts.inputs texts.outputs ls c by in
      let k = nodes_of c.header in
      let within = within-row own_row i c.header read.header in
      sees apart nodes i s.texts HasIn HasOut texts.inputs texts.outputs few_nodes s.net (s.handlers k) c read
      (λ allowed. more-nodes k nodes HasIn HasOut (omega (arith, within.1, fits)) (trace (s.handlers k) (no_recovery {S = s.State}) c.image) ((seen k within.0 within.1).items c.image allowed read.image))

-- on a machine alone, which shows each command with its answer
module _ (apart : AreApart) (nodes : ℕ) (few_nodes : nodes < 4294967296) (p : Application) (is : IsSpelledService (single p) nodes) where
  pub alone-decided : (n : ℕ) → IsDecided nodes (claims (Steady (Alone p)) n)
  alone-decided n ls c by =
      let HasIn = HasInputText p.texts in
      let HasOut = HasOutputText p.texts in
      let m = single_node p.machine in
      let none = no_recovery {S = p.State} in
      let read = schedule-read apart nodes p.own p.texts HasIn HasOut is.texts.inputs is.texts.outputs ls c by in
      let seen = sees apart nodes p.own p.texts HasIn HasOut is.texts.inputs is.texts.outputs few_nodes net.One m c read (λ allowed. is.items c.image allowed read.image) in
      let shows = λ (allowed : IsAllowed net.One m none c.image). from-any-state p.machine none (first_world m) c.image allowed in (
        λ y. let by = seen.0 y in record { allowed = by.allowed; trace = by.trace ∙ shows by.allowed },
        λ by. seen.1 (record { allowed = by.allowed; trace = by.trace ∙ sym (shows by.allowed) }),
      )
