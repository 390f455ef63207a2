-- A small disk, and small handlers, on which definitions are computed.
use Rattle.std.specs.Prelude.{Option, ◌≡◌, ℕ, ◌+◌, ◌==◌, ◌||◌, List, [], ◌∷◌, Some, if◌then◌else◌}
use Rattle.handler_trait.specs.Handling.{Meaning, Recovery}
use Rattle.vst_base.specs.declared.step.Step.{Step}
use Rattle.vst_base.specs.declared.step.StepRefusal.{StepRefusal}
use Rattle.vst_base.specs.declared.step.Item.{Item}
use Rattle.act_network.specs.declared.step.ActStep.{ActStep}
use Rattle.act_network.specs.declared.step.ActStep.TheVariants as act
use Rattle.act_network.specs.Disks.{Disks}
use Rattle.act_network.specs.ActRefusals.{act_refusal}
use Rattle.act_network.specs.ActLaws.{EventsCanSave, IsRecoverable}
use Rattle.act_network.specs.ActRuns.{acts_run, first_refused_act, IsActRun, IsActSchedule, image_of, listed_trace}
use Rattle.act_network.specs.Listing.{LeavesOut}
use Rattle.act_network.specs.Noting.{noted}
use Rattle.act_network.specs.Words.{by_words}

-- one number, and what a read gives
pub record CellDisk : Type 0 where
  pub durable : ℕ
  pub read : ℕ

pub data CellAct : Type 0 where
  Write : (number : ℕ) → CellAct
  Sync : CellAct

abbrev pub cell_does : CellAct → CellDisk → CellDisk
cell_does (Write k) disk = record { durable = disk.durable; read = k }
cell_does Sync disk = record { durable = disk.read; read = disk.read }

-- a number is written, and then synced; a crash leaves what is durable, or what a read gives
abbrev pub cells : Disks ℕ CellDisk CellAct ℕ
cells = record {
  fresh = λ n. record { durable = 0; read = 0 };
  acts = λ disk k. if k == disk.read then [] else Write k ∷ Sync ∷ [];
  does = cell_does;
  learns = λ k disk. disk;
  may_leave = λ disk left. (left == disk.durable) || (left == disk.read);
  opens = λ n left. Some left;
  reopened = λ n left. record { durable = left; read = left };
  is_held = λ disk k. k == disk.durable;
}

pub record CellHolds (n k : ℕ) (disk : CellDisk) : Type 0 where
  pub durable : disk.durable ≡ k
  pub read : disk.read ≡ k

abbrev pub CellCanSave : ℕ → ℕ → ℕ → Type 0
CellCanSave n old new = Unit {0}

-- a node adds what it is given, tells the sum, and tells node 1 what it was given; node 1 adds that too
abbrev pub summing : Meaning ℕ ℕ ℕ ℕ
summing = record {
  nodes = 2;
  takes_input = λ n. n == 0;
  init = λ n. 0;
  input = λ n s i. record { state = s + i; outputs = (s + i) ∷ []; sends = (1, i) ∷ [] };
  message = λ n s from c. record { state = s + c; outputs = (s + c) ∷ []; sends = [] };
  timeout = λ n s. record { state = s; outputs = s ∷ []; sends = [] };
}

abbrev pub all_kept : Recovery ℕ ℕ
all_kept = record { keep = λ s. s; reboot = λ n k. k }

abbrev pub cell_image : List (ActStep ℕ ℕ) → List (Step ℕ)
cell_image ss = image_of summing all_kept cells ss

abbrev pub cell_listed : List (ActStep ℕ ℕ) → List (Item ℕ ℕ)
cell_listed ss = listed_trace summing all_kept cells ss

abbrev pub cell_refusal : List (ActStep ℕ ℕ) → ActStep ℕ ℕ → Option StepRefusal
cell_refusal ss s = act_refusal summing (acts_run summing all_kept cells ss) s

abbrev pub CellsTake : List (ActStep ℕ ℕ) → Type 0
CellsTake ss = IsActRun summing all_kept cells CellCanSave ss

abbrev pub CellsAllow : List (ActStep ℕ ℕ) → Type 0
CellsAllow ss = IsActSchedule summing all_kept cells ss

abbrev pub CellsLeaveOut : List (Item ℕ ℕ) → List (Item ℕ ℕ) → Type 0
CellsLeaveOut xs ys = LeavesOut xs ys

-- what is asked of recoveries and of saves, of these handlers
abbrev pub CellsRecover : Recovery ℕ ℕ → Type 0
CellsRecover r = IsRecoverable summing r cells CellHolds

abbrev pub CellEventsCanSave : (ℕ → ℕ → ℕ → Type 0) → Type 0
CellEventsCanSave CanSave = EventsCanSave summing all_kept CanSave

-- no state can be saved
abbrev pub NothingCanSave : ℕ → ℕ → ℕ → Type 0
NothingCanSave n old new = ⊥

-- what a word leaves: what is durable, or else what a read gives
abbrev pub cell_word : CellDisk → ℕ → ℕ
cell_word disk word = if word == 0 then disk.durable else disk.read

abbrev pub cells_by_words : List (ActStep ℕ ℕ) → List (ActStep ℕ ℕ)
cells_by_words ss = by_words summing all_kept cells cell_word ss

abbrev pub first_refused_of_cells : List (ActStep ℕ ℕ) → Option (ℕ × StepRefusal)
first_refused_of_cells ss = first_refused_act summing all_kept cells ss

abbrev pub noted_of_cells : List (ActStep ℕ ℕ) → List (Item ℕ ℕ)
noted_of_cells ss = noted summing all_kept cells ss

-- node 0 is given 5, and goes on: it has two acts on its area, one send and one output
abbrev pub saves_5 : List (ActStep ℕ ℕ) → List (ActStep ℕ ℕ)
saves_5 more = act.In 0 5 ∷ more

-- a node that starts again with one more than it kept
abbrev pub one_more_kept : Recovery ℕ ℕ
one_more_kept = record { keep = λ s. s; reboot = λ n k. k + 1 }

abbrev pub stopped_twice : List (ActStep ℕ ℕ)
stopped_twice = act.Stop 0 0 ∷ act.Reboot 0 ∷ act.Stop 0 0 ∷ act.Reboot 0 ∷ act.Tick 0 ∷ act.Act 0 ∷ act.Act 0 ∷ act.Act 0 ∷ []
