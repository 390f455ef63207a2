-- What explains a trace below primary-backup: the machine, over the first inputs at the primary.
use Rattle.std.specs.Prelude.{◌≡◌, ℕ, suc, ◌==◌, ◌<◌, List, [], ◌∷◌, ◌++◌, length, map, take, if◌then◌else◌}
use Rattle.vst_base.specs.Machines.{MachineMeaning, fold}
use Rattle.vst_base.specs.declared.pb_out.PbOut.{PbOut}
use Rattle.vst_base.specs.declared.pb_out.PbOut.TheVariants as told
use Rattle.vst_base.specs.declared.step.Item.{Item}
use Rattle.vst_base.specs.declared.step.Item.TheVariants as item

-- how many of some outputs are replies
abbrev pub replies_in : {O : Type 0} → List (PbOut O) → ℕ
replies_in [] = 0
replies_in (told.Reply o ∷ os) = suc (replies_in os)
replies_in (told.Redirect ∷ os) = replies_in os

module _ {C O : Type 0} where
  -- the inputs that a node took, and the outputs that it gave, in order
  abbrev pub inputs_at : ℕ → List (Item C (PbOut O)) → List C
  inputs_at n [] = []
  inputs_at n (item.Input k c ∷ items) = if k == n then c ∷ inputs_at n items else inputs_at n items
  inputs_at n (item.Output k o ∷ items) = inputs_at n items

  abbrev pub outputs_at : ℕ → List (Item C (PbOut O)) → List (PbOut O)
  outputs_at n [] = []
  outputs_at n (item.Input k c ∷ items) = outputs_at n items
  outputs_at n (item.Output k o ∷ items) = if k == n then o ∷ outputs_at n items else outputs_at n items

  -- the image: as many of the first inputs at the primary as there are replies there
  abbrev pub below_pb : List (Item C (PbOut O)) → List C
  below_pb items = take (replies_in (outputs_at 0 items)) (inputs_at 0 items)

  -- each output of the primary stands after the input that it answers
  abbrev pub AnswersInputs : List (Item C (PbOut O)) → Type 0
  AnswersInputs items = (before after : List (Item C (PbOut O))) (o : PbOut O) → items ≡ before ++ item.Output 0 o ∷ after → length (outputs_at 0 before) < length (inputs_at 0 before)

  -- an input at the backup is redirected at once
  abbrev pub RedirectsAtOnce : List (Item C (PbOut O)) → Type 0
  RedirectsAtOnce items = (before after : List (Item C (PbOut O))) (c : C) → items ≡ before ++ item.Input 1 c ∷ after → (rest : List (Item C (PbOut O))) × (after ≡ item.Output 1 told.Redirect ∷ rest)

  -- the last of these items is an input at the backup, and the output redirects
  pub record Redirects (before : List (Item C (PbOut O))) (o : PbOut O) : Type 0 where
    pub front : List (Item C (PbOut O))
    pub input : C
    pub last_is : before ≡ front ++ item.Input 1 input ∷ []
    pub redirect : o ≡ told.Redirect

  -- and nothing else comes from there
  abbrev pub OnlyRedirects : List (Item C (PbOut O)) → Type 0
  OnlyRedirects items = (before after : List (Item C (PbOut O))) (o : PbOut O) → items ≡ before ++ item.Output 1 o ∷ after → Redirects before o

  -- a trace is explained by a machine: the primary's outputs are the machine's, over the image
  pub record IsExplainedBy {S : Type 0} (m : MachineMeaning S C O) (items : List (Item C (PbOut O))) : Type 0 where
    pub outputs : outputs_at 0 items ≡ map told.Reply (fold m (below_pb items))
    pub answers : AnswersInputs items
    pub redirected : RedirectsAtOnce items
    pub nothing_else : OnlyRedirects items
