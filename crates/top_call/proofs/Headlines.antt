-- A replay says the headline.
use Rattle.std.specs.Prelude.{◌≡◌, ℕ, List, ◌++◌, Option, Some, None, IfSome}
use Rattle.std.proofs.Common.{◌∙◌, ap, arith, inl, inr, subst, sym}
use Rattle.check_text.specs.Claims.{Claim}
use Rattle.command_line.specs.AskedNodes.{NodeWordsView}
use Rattle.command_line.specs.declared.asked.Asked.{Asked}
use Rattle.command_line.specs.declared.asked.Asked.TheVariants.{Node, Texts}
use Rattle.command_line.specs.declared.command.Command.{Command}
use Rattle.command_line.specs.declared.command.Command.TheVariants as command
use Rattle.commands.specs.Lines.{memory_line}
use Rattle.commands.specs.Saying.{Said}
use Rattle.commands.specs.Seen.{Run, SinkSeen}
use Rattle.schedule_replay.specs.Explained.{IsReplay, IsReplayOn}
use Rattle.stacks.specs.ClaimTexts.{claim_by}
use Rattle.stacks.specs.Plays.{Found, Here, IfFound, Nowhere, found_map}
use Rattle.stacks.specs.Kinds.{Alone, Backed, Clustered, Itself, Kind, Layers, Own, Steady, Through, plays, service}
use Rattle.stacks.specs.Table.{kind_at}
use Rattle.commands.specs.Complaints.{Told}
use Rattle.commands.specs.Statuses.{IsDone}
use Rattle.commands.specs.declared.complaint.Complaint.TheVariants as complaint
use Rattle.top_call.specs.Headline.{ExplainsIt, GainedHeadline, Headline, IsHeadlineOn, LayersExplain}

-- what layers say of their claims
layers-explain : (l : Layers) (c : Claim (service l).Input (service l).Output (service l).Line) → (service l).Explains c → LayersExplain l c
layers-explain (Own h) c is = is
layers-explain (Alone p) c is = is
layers-explain (Backed p) c is = is
layers-explain (Through t l) c is = layers-explain l c is
layers-explain (Itself i l) c is = is

explained-by-layers : (l : Layers) (c : Claim (service l).Input (service l).Output (service l).Line) → LayersExplain l c → (service l).Explains c
explained-by-layers (Own h) c is = is
explained-by-layers (Alone p) c is = is
explained-by-layers (Backed p) c is = is
explained-by-layers (Through t l) c is = explained-by-layers l c is
explained-by-layers (Itself i l) c is = is

-- and what a stack of a kind says of its
explains-it : (k : Kind) (nodes : ℕ) (c : Claim (plays k nodes).Input (plays k nodes).Output (plays k nodes).Line) → (plays k nodes).Explains c → ExplainsIt k nodes c
explains-it (Steady l) nodes c is = layers-explain l c is
explains-it (Clustered k) nodes c is = is

explained-by-it : (k : Kind) (nodes : ℕ) (c : Claim (plays k nodes).Input (plays k nodes).Output (plays k nodes).Line) → ExplainsIt k nodes c → (plays k nodes).Explains c
explained-by-it (Steady l) nodes c is = explained-by-layers l c is
explained-by-it (Clustered k) nodes c is = is

on-kind : (k : Kind) (nodes number : ℕ) (ls : List (List ℕ)) (text : List ℕ) → IsReplayOn (plays k nodes) number ls text → IsHeadlineOn k nodes number ls text
on-kind k nodes number ls text r = record {
  steps = r.steps;
  faultless = r.faultless;
  says = r.says;
  allowed = r.allowed;
  text_is = r.written;
  explained = explains-it k nodes (claim_by (plays k nodes).play r.steps) r.explained;
}

on-found : (nodes number : ℕ) (ls : List (List ℕ)) (text : List ℕ) (found : Found Kind)
    → IfFound (found_map (λ k. plays k nodes) found) (λ a. IsReplayOn a number ls text) → IfFound found (λ k. IsHeadlineOn k nodes number ls text)
on-found nodes number ls text Nowhere none = none
on-found nodes number ls text (Here k) r = on-kind k nodes number ls text r

pub headline_of : (bytes text : List ℕ) → IsReplay bytes text → Headline bytes text
headline_of bytes text r = record {
  header = r.header;
  number = r.number;
  lines = r.lines;
  opens = r.opens;
  replayed = on-found r.header.nodes r.number r.lines text (kind_at r.header.net r.header.stack) r.replayed;
}

gained : (out out' : Option (List ℕ)) (bytes : List ℕ) → IfSome out (λ held. (text : List ℕ) × (out' ≡ Some (held ++ text)) × IsReplay bytes text)
    → GainedHeadline out out' bytes
gained None out' bytes told = tt
gained (Some held) out' bytes told = (told.0, told.1, headline_of bytes told.0 told.2)

by-input : (left : Option (List ℕ)) (out out' : Option (List ℕ))
    → IfSome left (λ bytes. IfSome out (λ held. (text : List ℕ) × (out' ≡ Some (held ++ text)) × IsReplay bytes text)) → IfSome left (GainedHeadline out out')
by-input None out out' told = tt
by-input (Some bytes) out out' told = gained out out' bytes told

-- a replay that is done shows it
pub done_headline : (r : Run) → IsDone (Some command.Replay) r → IfSome r.before.input.left (GainedHeadline r.before.out.written r.after.out.written)
done_headline r done = by-input r.before.input.left r.before.out.written r.after.out.written done.explained

-- and nothing else is one
replays-it : (k : Kind) (nodes number : ℕ) (ls : List (List ℕ)) (text : List ℕ) → IsHeadlineOn k nodes number ls text → IsReplayOn (plays k nodes) number ls text
replays-it k nodes number ls text r = record {
  steps = r.steps;
  faultless = r.faultless;
  says = r.says;
  allowed = r.allowed;
  written = r.text_is;
  explained = explained-by-it k nodes (claim_by (plays k nodes).play r.steps) r.explained;
}

found-on : (nodes number : ℕ) (ls : List (List ℕ)) (text : List ℕ) (found : Found Kind)
    → IfFound found (λ k. IsHeadlineOn k nodes number ls text) → IfFound (found_map (λ k. plays k nodes) found) (λ a. IsReplayOn a number ls text)
found-on nodes number ls text Nowhere none = none
found-on nodes number ls text (Here k) r = replays-it k nodes number ls text r

pub replay_of : (bytes text : List ℕ) → Headline bytes text → IsReplay bytes text
replay_of bytes text r = record {
  header = r.header;
  number = r.number;
  lines = r.lines;
  opens = r.opens;
  replayed = found-on r.header.nodes r.number r.lines text (kind_at r.header.net r.header.stack) r.replayed;
}

abbrev texts_in : Option Asked → Option Command
texts_in None = None
texts_in (Some (Texts c)) = Some c
texts_in (Some (Node w)) = None

-- where the words ask for a replay, no other command ran
pub texts_headline : (asked : Option Asked) (c : Command) (r : Run) → asked ≡ Some (Texts c) → asked ≡ Some (Texts command.Replay) → IsDone (Some c) r
    → IfSome r.before.input.left (GainedHeadline r.before.out.written r.after.out.written)
texts_headline asked c r is replay done = done_headline r (subst (λ o. IsDone o r) (ap texts_in (sym is ∙ replay)) done)

-- nor a node
pub node_headline : {P : Type 0} (asked : Option Asked) (w : NodeWordsView) → asked ≡ Some (Node w) → asked ≡ Some (Texts command.Replay) → P
node_headline asked w is replay = let e : None ≡ Some command.Replay = ap texts_in (sym is ∙ replay) in cc

pub none_headline : {P : Type 0} (asked : Option Asked) → asked ≡ None → asked ≡ Some (Texts command.Replay) → P
none_headline asked is replay = let e : None ≡ Some command.Replay = ap texts_in (sym is ∙ replay) in cc

-- and want of memory is not done
said_not : (b a : SinkSeen) (result : ℕ) → Said 8 memory_line b a result → result ≡ 0 → ⊥
said_not b a result (inl whole) is = omega (arith, whole.0, is)
said_not b a result (inr (inl failed)) is = omega (arith, failed.0, is)
said_not b a result (inr (inr wanted)) is = omega (arith, wanted.0, is)

pub wanting_headline : {P : Type 0} (b a : SinkSeen) (result : ℕ) → Told complaint.Memory b a result → result ≡ 0 → P
wanting_headline b a result (inl said) is = absurd (said_not b a result said is)
wanting_headline b a result (inr made) is = absurd (said_not b a result made.1 is)
