-- Turns of the small handlers on the small disk, as the code keeps them.
use Rattle.std.specs.Prelude.{ℕ, List, [], ◌∷◌, Option, None, Some}
use Rattle.vst_base.specs.declared.step.Step.{Step}
use Rattle.vst_base.specs.declared.step.Step.TheVariants as step
use Rattle.act_network.specs.ActRuns.{acts_run}
use Rattle.handler_trait.specs.Facts.{RebootableFacts}
use Rattle.act_network.specs.ActWorlds.{ActWorld}
use Rattle.act_network.specs.Cells.{CellAct, CellDisk, Sync, Write, all_kept, cell_word, cells, summing}
use Rattle.act_network.specs.declared.step.ActStep.{ActStep}
use Rattle.act_network.specs.declared.step.ActStep.TheVariants as act
use Rattle.act_world.specs.ActViews.{ActView}
use Rattle.act_world.specs.ByWords.{HasFollowedWords, LeavesSo}
use Rattle.act_world.specs.Nodes.{ShowsTurn}
use Rattle.act_world.specs.Turns.{saving, telling}
use Rattle.act_world.specs.Views.{SeenTurn}
use Rattle.act_world.specs.declared.act_node.ActNode.{ActNode}
use Rattle.act_world.specs.declared.turn.Turn.{Turn}
use Rattle.act_world.specs.declared.turn.Turn.TheVariants as turn

abbrev pub small_run : List (ActStep ℕ ℕ) → ActWorld ℕ ℕ ℕ ℕ CellDisk CellAct ℕ
small_run ss = acts_run summing all_kept cells ss

-- node 0 with this state and this turn stands for that of the world after these steps
abbrev pub StandsAfter : List (ActStep ℕ ℕ) → ℕ → Option (Turn ℕ CellAct ℕ ℕ) → Type 0
StandsAfter ss held t = ShowsTurn (small_run ss).listed 0 held ((small_run ss).state 0) t ((small_run ss).turn 0)

-- it has these acts left, was given 5, and sends and tells it
abbrev pub saves_by : List CellAct → Option (Turn ℕ CellAct ℕ ℕ)
saves_by acts = Some (turn.Saving (saving (step.In 0 5) acts ((1, 5) ∷ []) (5 ∷ [])))

abbrev pub both_acts : List CellAct
both_acts = Write 5 ∷ Sync ∷ []

abbrev pub last_act : List CellAct
last_act = Sync ∷ []

-- its turn counts, and this is left to send and to tell
abbrev pub tells_of : List (ℕ × ℕ) → List ℕ → ℕ → Option (Turn ℕ CellAct ℕ ℕ)
tells_of sends outputs number = Some (turn.Telling (telling sends outputs 0 number))

abbrev pub seen_turn : ℕ → Option ℕ → List ℕ → SeenTurn ℕ ℕ
seen_turn n input sent = record { node = n; input = input; sent = sent }

-- what these handlers promise, as a value that nothing is asked of
abbrev pub summing_facts : RebootableFacts (Unit {0}) ℕ ℕ ℕ ℕ ℕ
summing_facts = record {
  meaning = λ _. summing;
  sound = λ _ n s. Unit {0};
  spent = λ _ s. 0;
  SENDS = 1;
  recovery = λ _. all_kept;
  fits = λ _ k. Unit {0};
}

abbrev pub SmallNode : Type 0
SmallNode = ActNode ℕ CellDisk ℕ CellAct ℕ ℕ ℕ

abbrev pub SmallView : Type 0
SmallView = ActView (Unit {0}) ℕ CellDisk ℕ CellAct ℕ ℕ ℕ

-- what is durable on a disk, and what a read of it gives
abbrev pub cell : ℕ → ℕ → CellDisk
cell durable read = record { durable = durable; read = read }

abbrev pub node_on : CellDisk → Option ℕ → SmallNode
node_on disk left = record { state = 0; disk = disk; turn = None; left = left }

-- these nodes, of which none is in a turn, and this written down
abbrev pub small_view : List SmallNode → List (Step ℕ) → List (SeenTurn ℕ ℕ) → ℕ → SmallView
small_view nodes image listed sent = record {
  handlers = tt;
  nodes = nodes;
  flights = [];
  notes = record { image = image; listed = listed; sent = sent };
  taken = 0;
}

-- what a word leaves of the disk of node 0, which is then another
abbrev pub WordLeaves : ℕ → CellDisk → CellDisk → ℕ → Type 0
WordLeaves word before after left =
    LeavesSo cells 0 (small_view (node_on before None ∷ []) [] [] 0) (small_view (node_on after None ∷ []) [] [] 0) (λ disk. cell_word disk word) left

-- a turn of node 0 of which one of two acts was made, and a stop of which this word says what is left
abbrev pub stopped_by : ℕ → List (ActStep ℕ ℕ)
stopped_by word = act.In 0 5 ∷ act.Act 0 ∷ act.Stop 0 word ∷ []

-- node 0 is down with this left, node 1 is as at first, and this is written down
abbrev pub down_with : ℕ → List (Step ℕ) → List (SeenTurn ℕ ℕ) → ℕ → SmallView
down_with left image listed sent = small_view (node_on (cell 0 5) (Some left) ∷ node_on (cell 0 0) None ∷ []) image listed sent

abbrev pub HasFollowedSmall : SmallView → List (ActStep ℕ ℕ) → Type 0
HasFollowedSmall v ss = HasFollowedWords summing_facts cells cell_word v ss
