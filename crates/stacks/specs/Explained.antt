-- What it means that a stack explains what it plays, and that what stands below a trace can itself be replayed.
use Rattle.std.specs.Prelude.{◌≡◌, List, None, map}
use Rattle.check_text.specs.Claims.{Claim}
use Rattle.net_semantics.specs.BelowPb.{outputs_at}
use Rattle.net_semantics.specs.Runs.{machine_trace, outputs_in}
use Rattle.trace_maps.specs.SingleNode.{alone}
use Rattle.vst_base.specs.declared.pb_out.PbOut.{PbOut}
use Rattle.vst_base.specs.declared.pb_out.PbOut.TheVariants as told
use Rattle.vst_base.specs.declared.step.Step.{Step}
use Rattle.stacks.specs.ClaimTexts.{claim_by}
use Rattle.stacks.specs.Kinds.{Alone, Application, Backed, Clustered, IsOneMachine, Itself, Kind, Layers, Own, Steady, Through, service_play, single}
use Rattle.stacks.specs.Plays.{AnyPlay, Play}

-- the image of each schedule that its network allows explains the trace
abbrev pub ExplainsAll : AnyPlay → Type 0
ExplainsAll a = (ss : List (Step a.Input)) → a.play.refused ss ≡ None → a.Explains (claim_by a.play ss)

-- how a machine alone plays
abbrev pub alone_play : (p : Application) → Play p.Command p.Output (Step p.Command)
alone_play p = service_play (single p) 1

-- a machine alone takes any commands, and its trace is each of them with the machine's answer after it
pub record TakesCommands (p : Application) : Type 0 where
  pub allowed : (cs : List p.Command) → (alone_play p).refused (alone cs) ≡ None
  pub trace : (cs : List p.Command) → (alone_play p).trace (alone cs) ≡ machine_trace p.machine cs

-- and under primary-backup the outputs of the machine alone, over what stands below a trace, are what the primary told clients
pub record RepliesAsAlone (p : Application) : Type 0 where
  pub takes : TakesCommands p
  pub replies : (c : Claim p.Command (PbOut p.Output) (Step p.Command)) → IsOneMachine p.machine c
      → outputs_at 0 c.trace ≡ map told.Reply (outputs_in ((alone_play p).trace c.image))

-- where an image is a schedule of a machine alone, it takes the image, and answers as it says
abbrev pub LayersTakeImages : Layers → Type 0
LayersTakeImages (Own h) = Unit {0}
LayersTakeImages (Alone p) = TakesCommands p
LayersTakeImages (Backed p) = RepliesAsAlone p
LayersTakeImages (Through t l) = LayersTakeImages l
LayersTakeImages (Itself i l) = Unit {0}

abbrev pub TakesImages : Kind → Type 0
TakesImages (Steady l) = LayersTakeImages l
TakesImages (Clustered k) = Unit {0}
