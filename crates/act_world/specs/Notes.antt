-- What is written down of a run of single acts.
use Rattle.std.specs.Prelude.{ℕ, ◌+◌, [], ◌∷◌, ◌++◌, Option, Some, None}
use Rattle.vst_base.specs.declared.step.Step.{Step}
use Rattle.vst_base.specs.declared.step.Step.TheVariants as step
use Rattle.net_semantics.specs.Worlds.{change_at}
use Rattle.act_world.specs.Views.{NotesView, SeenTurn}

-- the input of an event
abbrev pub input_in : {I : Type 0} → Step I → Option I
input_in (step.In n i) = Some i
input_in (step.Deliver k) = None
input_in (step.Tick n) = None
input_in (step.Dup k) = None
input_in (step.Lose k) = None
input_in (step.Crash n) = None
input_in (step.Reboot n) = None

abbrev pub told : {I O : Type 0} → O → SeenTurn I O → SeenTurn I O
told o t = record { node = t.node; input = t.input; sent = t.sent ++ o ∷ [] }

module _ {I O : Type 0} where
  -- a turn of this node counts, with this event and so many sends
  abbrev pub counted : NotesView I O → ℕ → Step I → ℕ → NotesView I O
  counted v n event sends = record {
    image = v.image ++ event ∷ [];
    listed = v.listed ++ record { node = n; input = input_in event; sent = [] } ∷ [];
    sent = v.sent + sends;
  }

  -- the turn at this place has sent this output
  abbrev pub output_sent : NotesView I O → ℕ → O → NotesView I O
  output_sent v place o = record { image = v.image; listed = change_at (told o) place v.listed; sent = v.sent }

  -- the network itself does this
  abbrev pub noted : NotesView I O → Step I → NotesView I O
  noted v s = record { image = v.image ++ s ∷ []; listed = v.listed; sent = v.sent }
