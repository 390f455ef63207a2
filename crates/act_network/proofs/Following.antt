-- When a world of whole events follows a world of single acts.
use Rattle.std.proofs.Common.{◌≡◌, ◌≢◌, ℕ, suc, ◌+◌, ◌<◌, Bool, true, false, List, [], ◌∷◌, ◌++◌, length, Option, Some, None, slice_get, refl, ap, sym, subst, ◌∙◌, inl, inr, ◌==◌}
use Rattle.std.specs.Prelude.{nat_lt, if◌then◌else◌}
use Rattle.std.proofs.lemmas.Bool.{cases_eq, lt-ltb}
use Rattle.handler_trait.specs.Handling.{Meaning, Effect, Recovery}
use Rattle.net_semantics.specs.Worlds.{World, Packet, one_less}
use Rattle.act_network.specs.Disks.{Disks, DiskLaws, did}
use Rattle.act_network.specs.ActWorlds.{Cause, Input, Fired, Came, Turn, Flying, ActWorld}
use Rattle.act_network.specs.ActSteps.{going}
use Rattle.std.proofs.lemmas.Option.{slice_get_within}
use Rattle.act_network.proofs.Theres.{There, there-append, less-any, elsewhere}
use Rattle.act_network.proofs.Failing.{Comes, Ready, consumed}

-- whose a packet of the run of whole events is: it is the k-th that a single act has sent, or node n has yet to send it, if ever
pub data Owner : Type 0 where
  Made : (k : ℕ) → Owner
  Due : (n : ℕ) → Owner

-- how many copies of the packet of this number a turn has taken and not yet used
abbrev pub claim_of : {I : Type 0} → Cause I → ℕ → ℕ
claim_of (Input i) k = 0
claim_of Fired k = 0
claim_of (Came j) k = if j == k then 1 else 0

abbrev pub claim_in : {I A : Type 0} → List A → Cause I → ℕ → ℕ
claim_in [] c k = 0
claim_in (a ∷ more) c k = claim_of c k

abbrev pub claim : {S I O M A : Type 0} → Option (Turn S I O M A) → ℕ → ℕ
claim None k = 0
claim (Some t) k = claim_in t.acts t.cause k

module _ {M : Type 0} where
  -- the k-th packet of single acts has all its copies among the whole events, and one for the turn that took it
  pub record IsCarried (fps : List (Packet M)) (owner : ℕ → Owner) (k : ℕ) (p : Flying M) (claimed : ℕ) : Type 0 where
    pub made : owner p.number ≡ Made k
    pub there : There fps p.number p.packet.source p.packet.destination p.packet.content (p.packet.copies + claimed)

  abbrev pub AreCarried : List (Flying M) → List (Packet M) → (ℕ → Owner) → (ℕ → ℕ → ℕ) → Type 0
  AreCarried aps fps owner claims = (k : ℕ) (p : Flying M) → slice_get aps k ≡ Some p → IsCarried fps owner k p (claims p.packet.destination p.number)

  -- node n has yet to send this
  pub record IsDue (fps : List (Packet M)) (owner : ℕ → Owner) (n k : ℕ) (s : ℕ × M) : Type 0 where
    pub due : owner k ≡ Due n
    pub there : There fps k n s.0 s.1 1

  abbrev pub AreDue : List (Packet M) → (ℕ → Owner) → ℕ → ℕ → List (ℕ × M) → Type 0
  AreDue fps owner n k [] = Unit {0}
  AreDue fps owner n k (s ∷ ss) = IsDue fps owner n k s × AreDue fps owner n (suc k) ss

-- an event happens at node n: the owners from then on
abbrev pub owned : (ℕ → Owner) → ℕ → ℕ → ℕ → Owner
owned owner count n k = if nat_lt k count then owner k else Due n

pub owned-before : (owner : ℕ → Owner) (count n k : ℕ) → k < count → owned owner count n k ≡ owner k
owned-before owner count n k h = let t : nat_lt k count ≡ true = lt-ltb k count h in rw t refl

-- what an event takes was made
abbrev pub IsMade : {I : Type 0} → (ℕ → Owner) → Cause I → Type 0
IsMade owner (Input i) = Unit {0}
IsMade owner Fired = Unit {0}
IsMade owner (Came k) = (j : ℕ) × (owner k ≡ Made j)

module _ {S K I O M D A X : Type 0} (m : Meaning S I O M) (r : Recovery S K) (d : Disks K D A X) (CanSave : ℕ → K → K → Type 0) (laws : DiskLaws d CanSave) where
  -- a turn of the node has made some acts on its areas, and some are left
  pub record IsSaving (aps : List (Flying M)) (fps : List (Packet M)) (n : ℕ) (s : S) (disk : D) (c : Cause I) (e : Effect S O M) (rest : List A) : Type 0 where
    pub base : D
    pub early : List A
    pub holds : laws.Holds n (r.keep s) base
    pub can : CanSave n (r.keep s) (r.keep e.state)
    pub acts_are : d.acts base (r.keep e.state) ≡ early ++ rest
    pub disk_is : disk ≡ did d early base
    pub ready : Ready m r aps fps n s c e

  pub record IsSending (fps : List (Packet M)) (owner : ℕ → Owner) (n : ℕ) (s : S) (disk : D) (sends : List (ℕ × M)) (number : ℕ) : Type 0 where
    pub holds : laws.Holds n (r.keep s) disk
    pub due : AreDue fps owner n number sends

  module _ (aps : List (Flying M)) (fps : List (Packet M)) (owner : ℕ → Owner) (n : ℕ) where
    abbrev pub InTurn : S → D → Cause I → Effect S O M → List A → List (ℕ × M) → ℕ → Type 0
    InTurn s disk c e [] sends number = IsSending fps owner n s disk sends number
    InTurn s disk c e (a ∷ more) sends number = IsSaving aps fps n s disk c e (a ∷ more)

    abbrev pub Does : S → D → Option (Turn S I O M A) → Type 0
    Does s disk None = laws.Holds n (r.keep s) disk
    Does s disk (Some t) = InTurn s disk t.cause t.effect t.acts t.sends t.number

    pub record IsUp (turn : Option (Turn S I O M A)) (s : S) (disk : D) (up : Bool) (state : S) : Type 0 where
      pub up_is : up ≡ true
      pub state_is : state ≡ s
      pub does : Does s disk turn

    pub record IsDown (left : X) (turn : Option (Turn S I O M A)) (s : S) (up : Bool) (state : S) (kept : Option K) : Type 0 where
      pub state_is : state ≡ s
      pub turn_is : turn ≡ None
      pub up_is : up ≡ false
      pub found : K
      pub opens : d.opens n left ≡ Some found
      pub kept_is : kept ≡ Some found

    abbrev pub IsNode : Option X → Option (Turn S I O M A) → S → D → Bool → S → Option K → Type 0
    IsNode None turn s disk up state kept = IsUp turn s disk up state
    IsNode (Some left) turn s disk up state kept = IsDown left turn s up state kept

  abbrev pub NodeAt : ActWorld S I O M D A X → World S K M → (ℕ → Owner) → ℕ → Type 0
  NodeAt w f owner n = IsNode w.packets f.packets owner n (w.down n) (w.turn n) (w.state n) (w.disk n) (f.is_up n) (f.state n) (f.kept n)

  abbrev pub Others : ℕ → ActWorld S I O M D A X → World S K M → (ℕ → Owner) → Type 0
  Others n w f owner = (i : ℕ) → i ≢ n → NodeAt w f owner i

  pub record Follows (w : ActWorld S I O M D A X) (f : World S K M) (owner : ℕ → Owner) : Type 0 where
    pub node : (n : ℕ) → NodeAt w f owner n
    pub carried : AreCarried w.packets f.packets owner (λ n k. claim (w.turn n) k)
    pub sent : w.sent ≡ length f.packets

  pub each-node : (w : ActWorld S I O M D A X) (f : World S K M) (owner : ℕ → Owner) (n : ℕ) → Others n w f owner → NodeAt w f owner n → (i : ℕ) → NodeAt w f owner i
  each-node w f owner n others mine i = elim (cases_eq i n) [
    | inl same ↦ subst (λ (x : ℕ). NodeAt w f owner x) (sym same) mine
    | inr ne ↦ others i ne
  ]

  -- what a node's part of the tie asks of the packets stays
  pub record Onward (aps aps' : List (Flying M)) (fps fps' : List (Packet M)) (owner owner' : ℕ → Owner) (n : ℕ) : Type 0 where
    pub comes : (k : ℕ) → Comes aps k n → Comes aps' k n
    pub there : (k s d : ℕ) (c : M) → There fps k s d c 0 → There fps' k s d c 0
    pub due : (k : ℕ) (s : ℕ × M) → IsDue fps owner n k s → IsDue fps' owner' n k s

  module _ {aps aps' : List (Flying M)} {fps fps' : List (Packet M)} {owner owner' : ℕ → Owner} {n : ℕ} (go : Onward aps aps' fps fps' owner owner' n) where
    pub ready-on : (s : S) (c : Cause I) (e : Effect S O M) → Ready m r aps fps n s c e → Ready m r aps' fps' n s c e
    ready-on s (Input i) e h = h
    ready-on s Fired e h = h
    ready-on s (Came k) e h = record {
      comes = go.comes k h.comes;
      source = h.source;
      content = h.content;
      there = go.there k h.source n h.content h.there;
      effect_is = h.effect_is;
    }

    pub due-on : (k : ℕ) (ss : List (ℕ × M)) → AreDue fps owner n k ss → AreDue fps' owner' n k ss
    due-on k [] h = tt
    due-on k (s ∷ ss) h = (go.due k s h.0, due-on (suc k) ss h.1)

    in-turn-on : (s : S) (disk : D) (c : Cause I) (e : Effect S O M) (acts : List A) (ss : List (ℕ × M)) (k : ℕ) →
        InTurn aps fps owner n s disk c e acts ss k → InTurn aps' fps' owner' n s disk c e acts ss k
    in-turn-on s disk c e [] ss k h = record { holds = h.holds; due = due-on k ss h.due }
    in-turn-on s disk c e (a ∷ more) ss k h = record {
      base = h.base;
      early = h.early;
      holds = h.holds;
      can = h.can;
      acts_are = h.acts_are;
      disk_is = h.disk_is;
      ready = ready-on s c e h.ready;
    }

    does-on : (s : S) (disk : D) (t : Option (Turn S I O M A)) → Does aps fps owner n s disk t → Does aps' fps' owner' n s disk t
    does-on s disk None h = h
    does-on s disk (Some t) h = in-turn-on s disk t.cause t.effect t.acts t.sends t.number h

    pub node-on : (down : Option X) (t : Option (Turn S I O M A)) (s : S) (disk : D) (up : Bool) (state : S) (kept : Option K) →
        IsNode aps fps owner n down t s disk up state kept → IsNode aps' fps' owner' n down t s disk up state kept
    node-on None t s disk up state kept h = record { up_is = h.up_is; state_is = h.state_is; does = does-on s disk t h.does }
    node-on (Some left) t s disk up state kept h = record { state_is = h.state_is; turn_is = h.turn_is; up_is = h.up_is; found = h.found; opens = h.opens; kept_is = h.kept_is }

  -- of a turn that counts nothing is claimed
  pub going-claims : (c : Cause I) (e : Effect S O M) (ss : List (ℕ × M)) (os : List O) (place number k : ℕ) →
      claim {A = A} (going (record { cause = c; effect = e; acts = []; sends = ss; outputs = os; place = place; number = number })) k ≡ 0
  going-claims c e [] [] place number k = refl
  going-claims c e [] (o ∷ os) place number k = refl
  going-claims c e (s ∷ ss) os place number k = refl

  -- and what is left of it is to be done
  pub going-does : (aps : List (Flying M)) (fps : List (Packet M)) (owner : ℕ → Owner) (n : ℕ) (s : S) (disk : D) (c : Cause I) (e : Effect S O M)
      (ss : List (ℕ × M)) (os : List O) (place number : ℕ) → laws.Holds n (r.keep s) disk → AreDue fps owner n number ss →
      Does aps fps owner n s disk (going (record { cause = c; effect = e; acts = []; sends = ss; outputs = os; place = place; number = number }))
  going-does aps fps owner n s disk c e [] [] place number holds due = holds
  going-does aps fps owner n s disk c e [] (o ∷ os) place number holds due = record { holds = holds; due = due }
  going-does aps fps owner n s disk c e (x ∷ ss) os place number holds due = record { holds = holds; due = due }

  module _ (aps : List (Flying M)) (fps : List (Packet M)) (owner : ℕ → Owner) (n : ℕ) (new : List (Packet M)) where
    there-after : (c : Cause I) (k s d : ℕ) (x : M) → There fps k s d x 0 → There (consumed c fps ++ new) k s d x 0
    there-after (Input i) k s d x h = there-append new h
    there-after Fired k s d x h = there-append new h
    there-after (Came j) k s d x h = there-append new (less-any j h)

    due-there : (c : Cause I) → IsMade owner c → (i k : ℕ) (s : ℕ × M) → IsDue fps owner i k s → There (consumed c fps ++ new) k i s.0 s.1 1
    due-there (Input j) made i k s h = there-append new h.there
    due-there Fired made i k s h = there-append new h.there
    due-there (Came j) made i k s h = there-append new (elsewhere one_less j (other h.due) h.there)
      where
        other : owner k ≡ Due i → k ≢ j
        other due same = let e : Made made.0 ≡ Due i = sym made.1 ∙ (ap owner (sym same) ∙ due) in cc

    pub onward-event : (c : Cause I) → IsMade owner c → (i : ℕ) → Onward aps aps fps (consumed c fps ++ new) owner (owned owner (length fps) n) i
    onward-event c made i = record {
      comes = λ k h. h;
      there = λ k s d x h. there-after c k s d x h;
      due = λ k s h. record {
        due = owned-before owner (length fps) n k (slice_get_within fps k h.there.packet h.there.is) ∙ h.due;
        there = due-there c made i k s h;
      };
    }

  -- a node has the same state in both
  pub states-same : (w : ActWorld S I O M D A X) (f : World S K M) (owner : ℕ → Owner) → Follows w f owner → (n : ℕ) → f.state n ≡ w.state n
  states-same w f owner fol n = by (w.down n) (fol.node n)
    where
      by : (down : Option X) → IsNode w.packets f.packets owner n down (w.turn n) (w.state n) (w.disk n) (f.is_up n) (f.state n) (f.kept n) → f.state n ≡ w.state n
      by None h = h.state_is
      by (Some left) h = h.state_is
