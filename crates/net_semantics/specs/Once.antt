-- A schedule without its repeats: what is left where each packet is delivered once and none is copied.
use Rattle.std.specs.Prelude.{ℕ, Bool, true, false, List, [], ◌∷◌, if◌then◌else◌}
use Rattle.vst_base.specs.declared.step.Step.{Step}
use Rattle.vst_base.specs.Nets.{Fate, Delivered, Copied, Lost, StepView, AtNode, OfPacket, Stops, Starts, view_of}
use Rattle.net_semantics.specs.Worlds.{put}

-- whether a step is left out after deliveries of these packets: every copy, and each further delivery of one of them
abbrev pub comes_again : Bool → Fate → Bool
comes_again before Delivered = before
comes_again before Copied = true
comes_again before Lost = false

abbrev pub repeats_in : {I : Type 0} → (ℕ → Bool) → StepView I → Bool
repeats_in delivered (AtNode n input) = false
repeats_in delivered (OfPacket k fate) = comes_again (delivered k) fate
repeats_in delivered (Stops n) = false
repeats_in delivered (Starts n) = false

abbrev pub is_repeat : {I : Type 0} → (ℕ → Bool) → Step I → Bool
is_repeat delivered s = repeats_in delivered (view_of s)

-- the delivered packets, once a step is taken
abbrev pub delivered_by : (ℕ → Bool) → ℕ → Fate → ℕ → Bool
delivered_by delivered k Delivered = put delivered k true
delivered_by delivered k Copied = delivered
delivered_by delivered k Lost = delivered

abbrev pub delivered_in : {I : Type 0} → (ℕ → Bool) → StepView I → ℕ → Bool
delivered_in delivered (AtNode n input) = delivered
delivered_in delivered (OfPacket k fate) = delivered_by delivered k fate
delivered_in delivered (Stops n) = delivered
delivered_in delivered (Starts n) = delivered

abbrev pub delivered_after : {I : Type 0} → (ℕ → Bool) → Step I → ℕ → Bool
delivered_after delivered s = delivered_in delivered (view_of s)

-- and once several are
abbrev pub delivered_from : {I : Type 0} → (ℕ → Bool) → List (Step I) → ℕ → Bool
delivered_from delivered [] = delivered
delivered_from delivered (s ∷ ss) = delivered_from (delivered_after delivered s) ss

-- what is left of a schedule after these deliveries
abbrev pub once_from : {I : Type 0} → (ℕ → Bool) → List (Step I) → List (Step I)
once_from delivered [] = []
once_from delivered (s ∷ ss) =
    if is_repeat delivered s then once_from (delivered_after delivered s) ss
    else s ∷ once_from (delivered_after delivered s) ss

-- and of a whole one
abbrev pub once : {I : Type 0} → List (Step I) → List (Step I)
once ss = once_from (λ _. false) ss
