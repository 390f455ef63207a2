-- When commands explain a trace of a primary and its backup: the machine alone explains it, and the commands are the image.
use Rattle.std.specs.Prelude.{ℕ, Bool, false, not, ◌&&◌, ◌||◌, ◌==◌, nat_le, List, [], ◌∷◌, length, map, Option, Some, None, option_map, slice_get}
use Rattle.vst_base.specs.Machines.{MachineMeaning, fold}
use Rattle.vst_base.specs.declared.pb_out.PbOut.{PbOut}
use Rattle.vst_base.specs.declared.pb_out.PbOut.TheVariants as told
use Rattle.vst_base.specs.declared.step.Item.{Item}
use Rattle.vst_base.specs.declared.step.Item.TheVariants as item
use Rattle.vst_base.specs.declared.step.Step.{Step}
use Rattle.net_semantics.specs.BelowPb.{below_pb, inputs_at, outputs_at}
use Rattle.trace_maps.specs.SingleNode.{alone}
use Rattle.schedule_text.specs.Printing.{step_text}
use Rattle.schedule_text.specs.Words.{is_text}
use Rattle.check_text.specs.Claims.{Claim, image_line, item_line}
use Rattle.claim_verdicts.specs.Places.{first_difference, first_wrong, verdict_by}
use Rattle.claim_verdicts.specs.declared.verdict.Verdict.{Verdict}

-- what clients see, and a claim on it: its image is a schedule of the machine alone
abbrev pub Items : Type 0 → Type 0 → Type 0
Items C O = List (Item C (PbOut O))

abbrev pub BackupClaim : Type 0 → Type 0 → Type 0
BackupClaim C O = Claim C (PbOut O) (Step C)

-- the output is this reply, by its text
abbrev pub replies_so : {O : Type 0} → (O → List ℕ) → Option O → PbOut O → Bool
replies_so output_text None o = false
replies_so output_text (Some p) told.Redirect = false
replies_so output_text (Some p) (told.Reply o) = is_text (output_text p) (output_text o)

module _ {C O : Type 0} where
  abbrev pub asks : Item C (PbOut O) → Bool
  asks (item.Input n c) = n == 0
  asks (item.Output n o) = false

  abbrev pub answers : Item C (PbOut O) → Bool
  answers (item.Input n c) = false
  answers (item.Output n o) = n == 0

  -- after so many inputs and outputs of the primary, an output there is not the machine's, or not after the input that it is
  -- to answer. The outputs there answer the inputs there in order
  abbrev pub is_wrong_after : (O → List ℕ) → List O → ℕ → ℕ → Item C (PbOut O) → Bool
  is_wrong_after output_text outputs asked answered (item.Input n c) = false
  is_wrong_after output_text outputs asked answered (item.Output n o) = n == 0 && (nat_le asked answered || not (replies_so output_text (slice_get outputs answered) o))

  abbrev pub is_wrong_answer : (O → List ℕ) → List O → Items C O → Item C (PbOut O) → Items C O → Bool
  is_wrong_answer output_text outputs before x after = is_wrong_after output_text outputs (length (inputs_at 0 before)) (length (outputs_at 0 before)) x

  abbrev pub redirects : Item C (PbOut O) → Bool
  redirects (item.Output n told.Redirect) = n == 1
  redirects (item.Output n (told.Reply o)) = false
  redirects (item.Input n c) = false

  abbrev pub is_at_backup : Item C (PbOut O) → Bool
  is_at_backup (item.Input n c) = n == 1
  is_at_backup (item.Output n o) = false

  -- there is an item, and it passes the test
  abbrev pub passes : (Item C (PbOut O) → Bool) → Option (Item C (PbOut O)) → Bool
  passes test None = false
  passes test (Some x) = test x

  -- the last of some items, if there is one
  abbrev pub last_of : Items C O → Option (Item C (PbOut O))
  last_of [] = None
  last_of (x ∷ []) = Some x
  last_of (x ∷ y ∷ rest) = last_of (y ∷ rest)

  -- between its neighbours, an input at the backup is not redirected at once, or the backup puts out something else, or
  -- without an input
  abbrev pub is_wrong_between : Bool → Item C (PbOut O) → Option (Item C (PbOut O)) → Bool
  is_wrong_between after_input (item.Input n c) next = n == 1 && not (passes redirects next)
  is_wrong_between after_input (item.Output n o) next = n == 1 && not (redirects (item.Output n o) && after_input)

  abbrev pub is_wrong_at_backup : Items C O → Item C (PbOut O) → Items C O → Bool
  is_wrong_at_backup before x after = is_wrong_between (passes is_at_backup (last_of before)) x (slice_get after 0)

  -- the first line of the image that is not the one to be expected, or is missing or over
  abbrev pub image_differs : (C → List ℕ) → BackupClaim C O → Option ℕ
  image_differs command_text c = option_map (image_line c) (first_difference 0 (map (step_text command_text) c.image) (map (step_text command_text) (alone (below_pb c.trace))))

  -- the first line of the trace with a wrong output of the primary; by the outputs of the machine for all inputs there
  abbrev pub wrong_answer_line : {S : Type 0} → (O → List ℕ) → MachineMeaning S C O → BackupClaim C O → Option ℕ
  wrong_answer_line output_text m c = option_map item_line (first_wrong (is_wrong_answer output_text (fold m (inputs_at 0 c.trace))) [] c.trace)

  -- the first line of the trace that is wrong at the backup
  abbrev pub wrong_backup_line : BackupClaim C O → Option ℕ
  wrong_backup_line c = option_map item_line (first_wrong is_wrong_at_backup [] c.trace)

  abbrev pub backup_verdict : {S : Type 0} → (C → List ℕ) → (O → List ℕ) → MachineMeaning S C O → BackupClaim C O → Verdict
  backup_verdict command_text output_text m c =
      verdict_by ((6, image_differs command_text c) ∷ (7, wrong_answer_line output_text m c) ∷ (8, wrong_backup_line c) ∷ [])
