-- What a mirror is for, said of what clients see alone.
use Rattle.std.specs.Prelude.{ℕ, ◌==◌, List, [], ◌∷◌, if◌then◌else◌}
use Rattle.lists.specs.Prefixes.{IsPrefix}
use Rattle.vst_base.specs.declared.step.Item.{Item}
use Rattle.vst_base.specs.declared.step.Item.TheVariants as item
use Rattle.vst_base.specs.declared.mirror.MirrorInput.{MirrorInput}
use Rattle.vst_base.specs.declared.mirror.MirrorInput.TheVariants as ask
use Rattle.vst_base.specs.declared.mirror.MirrorOutput.{MirrorOutput}
use Rattle.vst_base.specs.declared.mirror.MirrorOutput.TheVariants as told

-- what clients see of a mirror
abbrev pub MirrorTrace : Type 0
MirrorTrace = List (Item MirrorInput MirrorOutput)

-- the values that were put at a node, in order
abbrev pub put_at : ℕ → MirrorTrace → List (List ℕ)
put_at a [] = []
put_at a (item.Input n (ask.Put value) ∷ items) = if n == a then value ∷ put_at a items else put_at a items
put_at a (item.Output n o ∷ items) = put_at a items

-- the values that node 0 said came from a node, in order
abbrev pub said_from : ℕ → MirrorTrace → List (List ℕ)
said_from a [] = []
said_from a (item.Input n i ∷ items) = said_from a items
said_from a (item.Output n (told.From from value) ∷ items) = if n == 0 then (if from == a then value ∷ said_from a items else said_from a items) else said_from a items

-- what was said of each node is a prefix of what was put there
abbrev pub Mirrors : MirrorTrace → Type 0
Mirrors trace = (a : ℕ) → IsPrefix (said_from a trace) (put_at a trace)
