-- What holds of each event of a node.
use Rattle.std.proofs.Common.{ℕ, ◌<◌, length, Option, Some, None, IfSome}
use Rattle.raft_xform.specs.Nodes.{RaftView}
use Rattle.raft_xform.proofs.Keeping.{keeps_input, keeps_message, keeps_tick}
use Rattle.vst_base.specs.Machines.{MachineMeaning}
use Rattle.wire_fields.specs.Formats.{Format}
use Rattle.node_body.specs.Bodies.{VoteAmong}
use Rattle.node_run.specs.Runs.{effect_of}
use Rattle.node_run.specs.Settings.{Settings}
use Rattle.node_run.specs.declared.event.Event.{Event}
use Rattle.node_run.specs.declared.event.Event.TheVariants.{Tick, Peer, Asked}
use Rattle.node_growth.specs.Growth.{brought, left_by}
use Rattle.node_growth.specs.GrowthLaws.{LogContinues, LeftIsCommon, FewAreNew, StaysSound, KeptFits}
use Rattle.node_growth.proofs.Becoming.{log_becomes}
use Rattle.node_growth.proofs.Leaving.{IsLeft, event_leaves}

vote_among : (nodes : ℕ) (vote : Option ℕ) → IfSome vote (λ node. node < nodes) → VoteAmong nodes vote
vote_among nodes None h = tt
vote_among nodes (Some node) h = h

module _ {S C O : Type 0} (f : Format C) (g : Format O) where
  leaves : (settings : Settings) (m : MachineMeaning S C O) (s : RaftView S C O) (event : Event C) →
      let log = (effect_of settings m f g s event).state.log in
      IsLeft s.log log (left_by event (length s.log) (length log)) (brought event)
  leaves settings m s event = event_leaves event s.log (effect_of settings m f g s event).state.log (log_becomes f g settings m s event)

  pub log_continues : LogContinues S f g
  log_continues settings m s event store knows = rw (knows.terms) ((leaves settings m s event).agree)

  pub left_is_common : LeftIsCommon S f g
  left_is_common settings m s event = (leaves settings m s event).in_common

  pub few_are_new : FewAreNew S f g
  few_are_new settings m s event = (leaves settings m s event).few

  pub stays_sound : StaysSound S f g
  stays_sound settings m s Tick sound of = (keeps_tick sound m).sound
  stays_sound settings m s (Peer from message) sound of = (keeps_message sound m from (of.0) message (of.1)).sound
  stays_sound settings m s (Asked request) sound of = (keeps_input sound m request).sound

pub kept_fits : {S C O : Type 0} → KeptFits S C O
kept_fits m nodes me s sound = record { term = sound.term; vote = vote_among nodes s.ballot.voted sound.vote; log = sound.short }
