-- What a replay that is done has shown, in one place: the bytes of its input are a schedule that its network allows, and the text on
-- its output is exactly what clients saw, with an image below it that explains that.
use Rattle.std.specs.Prelude.{◌≡◌, ℕ, List, ◌++◌, Option, Some, None, IfSome}
use Rattle.vst_base.specs.Stacks.{row_of}
use Rattle.vst_base.specs.declared.step.Step.{Step}
use Rattle.check_text.specs.Claims.{Claim}
use Rattle.line_reader.specs.Lines.{lines_of}
use Rattle.linearizability.specs.Linearizable.{IsLinearizable}
use Rattle.schedule_replay.specs.Replaying.{image_lines, trace_lines}
use Rattle.schedule_replay.specs.Explained.{most_lines, steps_of}
use Rattle.schedule_text.specs.Schedules.{Opened, Script, opening, script}
use Rattle.schedule_text.specs.declared.header.Header.{Header}
use Rattle.stacks.specs.ClaimTexts.{claim_by}
use Rattle.stacks.specs.Plays.{IfFound, Play}
use Rattle.stacks.specs.Kinds.{Alone, Backed, Clustered, IsMachineAlone, IsOneMachine, IsWhatClientsSee, Itself, Kind, Layers, Own, Steady, Through, nodes_of, plays, service}
use Rattle.stacks.specs.Table.{kind_at}

-- An image explains a trace, by what the stack is made of. Handlers of their own: the image is a schedule of these handlers, and the
-- trace is their own under it. A machine alone: the same of the machine. Below primary-backup: one machine gave the outputs, and took the
-- image. Through a transformer the image explains as it does without.
abbrev pub LayersExplain : (l : Layers) → Claim (service l).Input (service l).Output (service l).Line → Type 0
LayersExplain (Own h) c = IsWhatClientsSee (row_of h.own).net (h.handlers (nodes_of c.header)) c
LayersExplain (Alone p) c = IsMachineAlone p.machine c
LayersExplain (Backed p) c = IsOneMachine p.machine c
LayersExplain (Through t l) c = LayersExplain l c
LayersExplain (Itself i l) c = IsWhatClientsSee (service l).net ((service l).handlers (nodes_of c.header)) c

-- And on a cluster: what clients saw is linearizable, to the one machine that takes the requests in the image's order.
abbrev pub ExplainsIt : (k : Kind) (nodes : ℕ) → Claim (plays k nodes).Input (plays k nodes).Output (plays k nodes).Line → Type 0
ExplainsIt (Steady l) nodes c = LayersExplain l c
ExplainsIt (Clustered k) nodes c = IsLinearizable k.application.machine c.image c.trace

module _ (k : Kind) (nodes : ℕ) where
  abbrev play_at : Play (plays k nodes).Input (plays k nodes).Output (plays k nodes).Line
  play_at = (plays k nodes).play

  -- what lines of a schedule say, of which the first has this number
  abbrev said_by : ℕ → List (List ℕ) → Script (plays k nodes).Input
  said_by number ls = script most_lines play_at.texts.input_of number 0 ls

  -- the lines say these steps, and nothing else; the network allows them; the text is the lines of their trace, and below it those of
  -- their image; and the image explains the trace
  pub record IsHeadlineOn (number : ℕ) (ls : List (List ℕ)) (text : List ℕ) : Type 0 where
    pub steps : List (Step (plays k nodes).Input)
    pub faultless : (said_by number ls).fault ≡ None
    pub says : steps_of (said_by number ls) ≡ steps
    pub allowed : play_at.refused steps ≡ None
    pub text_is : text ≡ trace_lines play_at steps ++ image_lines play_at steps
    pub explained : ExplainsIt k nodes (claim_by play_at steps)

-- the bytes open with a header, which names a stack of the table, and the text is so by that
pub record Headline (bytes text : List ℕ) : Type 0 where
  pub header : Header
  pub number : ℕ
  pub lines : List (List ℕ)
  pub opens : opening most_lines 1 (lines_of bytes) ≡ Opened header number lines
  pub replayed : IfFound (kind_at header.net header.stack) (λ k. IsHeadlineOn k header.nodes number lines text)

-- a sink gained a text of these bytes
abbrev pub GainedHeadline : Option (List ℕ) → Option (List ℕ) → List ℕ → Type 0
GainedHeadline out out' bytes = IfSome out (λ held. (text : List ℕ) × (out' ≡ Some (held ++ text)) × Headline bytes text)

-- where its input and its output are told, a replay has shown the headline
pub record ShowsHeadline (left out out' : Option (List ℕ)) : Type 0 where
  pub shown : IfSome left (GainedHeadline out out')
