-- Where no call fails a node's run answers the status that its input and its areas have, or that memory was wanted.
use Rattle.std.specs.Prelude.{◌≡◌, ◌⊎◌, ℕ, List, Option, Some, None, Result, Ok, Err, IfSome}
use Rattle.std.proofs.Common.{inl, inr, ap, ◌∙◌, subst, sym, refl}
use Rattle.command_line.specs.AskedNodes.{NodeWordsView}
use Rattle.node_config.specs.declared.config.Config.{Config}
use Rattle.node_device.specs.Telling.{Told}
use Rattle.commands.specs.Lines.{memory_line}
use Rattle.commands.specs.Saying.{Said, Tells}
use Rattle.slots.specs.Opening.{Why}
use Rattle.node_state.specs.Answers.{refusal_of}
use Rattle.udp_node.specs.Stacks.{refused_areas}
use Rattle.udp_node.specs.declared.fault.NodeFault.TheVariants as fault
use Rattle.node_config.specs.Configs.{configured}
use Rattle.node_config.specs.declared.key.ConfigKey.{ConfigKey}
use Rattle.commands.specs.NodeComplete.{IsComplete, IsStatusOf, NoneRose, areas_status}
use Rattle.commands.specs.NodeLines.{line_of, status_of}
use Rattle.commands.specs.NodeSeen.{NodeRun}
use Rattle.commands.specs.NodeStatuses.{CameTo}
use Rattle.commands.specs.NodeTelling.{Ends, TellsTurns, TellsWhat}
use Rattle.commands.specs.declared.trouble.Trouble.{Trouble}
use Rattle.commands.specs.declared.trouble.Trouble.TheVariants as trouble

-- what holds of what is told, where this is told
told : {A : Type 0} (P : A → Type 0) (o : Option A) (a : A) → o ≡ Some a → IfSome o P → P a
told P None a is p = cc
told P (Some b) a is p = let same : b ≡ a = cc in subst P same p

each : {A : Type 0} {P : A → Type 0} (o : Option A) → ((a : A) → o ≡ Some a → P a) → IfSome o P
each None then = tt
each (Some a) then = then a refl

module _ (w : NodeWordsView) (r : NodeRun) (result : ℕ) (none : NoneRose r) where
  -- that memory was wanted is said whole, or wants memory
  said_so : Said 8 memory_line r.streams.before.err r.streams.after.err result → result ≡ 8
  said_so (inl whole) = whole.0
  said_so (inr (inl failed)) = absurd (none.complains failed.2)
  said_so (inr (inr wanted)) = wanted.0

  said_line : (t : Trouble) → Said (status_of t) (line_of t) r.streams.before.err r.streams.after.err result → (result ≡ status_of t) ⊎ (result ≡ 8)
  said_line t (inl whole) = inl whole.0
  said_line t (inr (inl failed)) = absurd (none.complains failed.2)
  said_line t (inr (inr wanted)) = inr wanted.0

  said_made : (t : Trouble) → Tells (status_of t) (line_of t) r.streams.before.err r.streams.after.err result → (result ≡ status_of t) ⊎ (result ≡ 8)
  said_made t (inl said) = said_line t said
  said_made t (inr said) = inr (said_so said)

  said_turns : TellsTurns w.turns r.streams.before.out r.streams.after.out r.streams.before.err r.streams.after.err result → (result ≡ 0) ⊎ (result ≡ 8)
  said_turns (inl wrote) = inl wrote.status
  said_turns (inr (inl failed)) = absurd (none.writes failed.rose)
  said_turns (inr (inr wanted)) = inr (said_so wanted.said)

  -- the status of a configuration that was read, by why its areas are refused
  by_areas : (config : Config) (first : Option Why) (before : Option Told) → IfSome before (λ told. refused_areas config.stack config told ≡ first)
      → (result ≡ areas_status first) ⊎ (result ≡ 8) → IsStatusOf (Ok config) before result ⊎ (result ≡ 8)
  by_areas config first before areas (inr eight) = inr eight
  by_areas config first None areas (inl is) = inl tt
  by_areas config first (Some before) areas (inl is) = inl (is ∙ ap areas_status (sym areas))

  module _ (text : List ℕ) (text_is : r.streams.before.input.left ≡ Some text) where
    says : (is : Result Config ConfigKey) → IfSome r.streams.before.input.left (λ text. configured w.me text ≡ is)
        → IsStatusOf is r.before.told result ⊎ (result ≡ 8) → IsStatusOf (configured w.me text) r.before.told result ⊎ (result ≡ 8)
    says is said p =
        subst (λ of. IsStatusOf of r.before.told result ⊎ (result ≡ 8)) (sym (told _ r.streams.before.input.left text text_is said)) p

    came_so : (came : Result (Unit {0}) Trouble) → CameTo w r came
        → TellsWhat w.turns came r.streams.before.out r.streams.after.out r.streams.before.err r.streams.after.err result
        → IsStatusOf (configured w.me text) r.before.told result ⊎ (result ≡ 8)
    came_so (Ok tt) came tells =
        says (Ok came.config) came.configured_so.read.says (by_areas came.config None r.before.told came.areas (said_turns tells))
    came_so (Err trouble.Read) came tells = absurd (none.reads came.rose)
    came_so (Err (trouble.Config key)) came tells = says (Err key) came.says (said_made (trouble.Config key) tells.told)
    came_so (Err trouble.Begin) came tells = absurd (none.begins came.counts.0)
    came_so (Err trouble.Memory) came tells = inr (said_so tells.told)
    came_so (Err (trouble.Ended fault.Receive)) came tells = absurd (none.receives came.counts.receive)
    came_so (Err (trouble.Ended fault.Store)) came tells = absurd (none.stores came.counts.store)
    came_so (Err (trouble.Ended (fault.Refused why))) came tells =
        says (Ok came.config) came.configured_so.read.says
        (by_areas came.config (Some (refusal_of why)) r.before.told came.areas (said_made (trouble.Ended (fault.Refused why)) tells.told))
    came_so (Err (trouble.Ended fault.Memory)) came tells = inr (said_so tells.told)

pub is_complete : (w : NodeWordsView) (r : NodeRun) (result : ℕ) → Ends w r result → IsComplete w r result
is_complete w r result e =
    each r.streams.before.input.left (λ text text_is none. came_so w r result none text text_is e.came e.comes e.tells)
