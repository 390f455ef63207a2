-- Runs of a node for worked rows. Their input tells nothing where no other is named, and their output and error stream were empty.
use Rattle.std.specs.Prelude.{ℕ, List, [], ◌∷◌, ◌++◌, Option, None, Some, Result, codes, replicate, take}
use Rattle.command_line.specs.AskedNodes.{NodeWordsView}
use Rattle.disk.specs.Acts.{Act, Now, ReceiveFailed}
use Rattle.disk.specs.Disk.{settled}
use Rattle.node_config.specs.Configs.{config_as}
use Rattle.node_config.specs.Examples.{sample_text}
use Rattle.node_config.specs.declared.config.Config.{Config}
use Rattle.node_device.specs.Examples.{counts, node_at, tells, untold}
use Rattle.node_device.specs.Faults.{Faults}
use Rattle.node_device.specs.Telling.{Told}
use Rattle.node_run.specs.Examples.{three_turns}
use Rattle.commands.specs.Seen.{SinkSeen, SourceSeen}
use Rattle.vst_base.specs.declared.stack.StackId.TheVariants as stack
use Rattle.commands.specs.NodeComing.{Comes}
use Rattle.commands.specs.NodeSeen.{DeviceSeen, NodeRun}
use Rattle.commands.specs.declared.trouble.Trouble.{Trouble}

-- node 0 for so many turns in this directory, and for three in the directory d
abbrev pub words_for : ℕ → List ℕ → NodeWordsView
words_for turns dir = record { me = 0; turns = turns; state = dir }

abbrev pub words : NodeWordsView
words = words_for 3 (codes "d")

abbrev pub source : ℕ → SourceSeen
source faults = record { left = None; faults = faults }

-- an input that has no bytes
abbrev pub empty : SourceSeen
empty = record { left = Some []; faults = 0 }

abbrev pub sink : List ℕ → SinkSeen
sink written = record { written = Some written; faults = 0; wants = 0 }

abbrev pub device : Option Told → Faults → DeviceSeen
device told faults = record { told = told; faults = faults }

abbrev pub idle : DeviceSeen
idle = device (tells []) (counts 1 1)

-- the run in which so many reads failed, that wrote this line on the error stream, and left the device as this
abbrev pub complained : ℕ → List ℕ → DeviceSeen → NodeRun
complained reads line after = record {
  streams = record {
    before = record { input = source 0; out = sink []; err = sink [] };
    after = record { input = source reads; out = sink []; err = sink line };
  };
  before = idle;
  after = after;
}

-- the run in which neither the input nor the device tells, that wrote nothing, and whose device's calls had failed so often before it and
-- after it
abbrev pub in_silence : Faults → Faults → NodeRun
in_silence before after = record {
  streams = record {
    before = record { input = source 0; out = sink []; err = sink [] };
    after = record { input = source 0; out = sink []; err = sink [] };
  };
  before = device untold before;
  after = device untold after;
}

-- a sink of which one write failed, and one of which one wanted memory
abbrev pub failing : List ℕ → SinkSeen
failing written = record { written = Some written; faults = 1; wants = 0 }

abbrev pub wanting : List ℕ → SinkSeen
wanting written = record { written = Some written; faults = 0; wants = 1 }

-- the same run, which left the output as this, or the error stream; and one that found this text on its input, and read it
abbrev pub out_as : SinkSeen → NodeRun → NodeRun
out_as out r = record r { streams = record r.streams { after = record r.streams.after { out = out } } }

abbrev pub err_as : SinkSeen → NodeRun → NodeRun
err_as err r = record r { streams = record r.streams { after = record r.streams.after { err = err } } }

abbrev pub fed : List ℕ → NodeRun → NodeRun
fed text r = record r {
  streams = record {
    before = record r.streams.before { input = record { left = Some text; faults = 0 } };
    after = record r.streams.after { input = empty };
  };
}

-- a device that has done nothing, with empty areas
abbrev pub untouched : Told
untouched = record { acts = []; disk = record { slot0 = settled []; slot1 = settled []; selector = settled [] } }

-- the same with these bytes in the selector
abbrev pub selecting : List ℕ → Told
selecting bytes = record untouched { disk = record untouched.disk { selector = settled bytes } }

-- a cluster of one node
abbrev pub alone : Config
alone = config_as stack.KvRaft 0 (node_at 7000 ∷ []) [] 50 300 (replicate 16 0)

-- so many beginnings failed, and one call of each other kind
abbrev pub begins : ℕ → Faults
begins n = record { begin = n; receive = 1; store = 1; send = 1 }

-- what a node's run comes to in which so many reads failed, where neither its input nor its device tells, and the device's calls had
-- failed so often before it and after it
abbrev pub comes_to : ℕ → Faults → Faults → Result (Unit {0}) Trouble → Type 0
comes_to reads before after r = Comes words (source 0) (source reads) (device untold before) (device untold after) r

-- and what it comes to where its input is empty
abbrev pub comes_of_nothing : Result (Unit {0}) Trouble → Type 0
comes_of_nothing r = Comes words empty empty idle idle r

-- and where its device told before, and tells no more after
abbrev pub comes_untold : Result (Unit {0}) Trouble → Type 0
comes_untold r = Comes words (source 0) (source 0) idle (device untold (counts 1 1)) r

-- and what it comes to where its input is this text, and its device told nothing before and these acts after
abbrev pub comes_of : List ℕ → List Act → Result (Unit {0}) Trouble → Type 0
comes_of text acts r =
    Comes words (record { left = Some text; faults = 0 }) empty (device (tells []) (begins 1)) (device (tells acts) (begins 2)) r

-- and what it comes to where its input is the text of three peers, and its device told the first before, of which one call of each kind
-- had failed, and tells the second after, with so many failed
abbrev pub comes_from : NodeWordsView → Told → Told → Faults → Result (Unit {0}) Trouble → Type 0
comes_from w found now faults r =
    Comes w (record { left = Some sample_text; faults = 0 }) empty (device (Some found) (counts 1 1)) (device (Some now) faults) r

-- two turns, and a third whose receive failed
abbrev pub broken_third : List Act
broken_third = take 5 three_turns ++ (Now 0 ∷ ReceiveFailed 300 ∷ [])
