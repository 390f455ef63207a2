-- Datagrams and the deeds that they are, and deeds one after the other.
use Rattle.std.proofs.Common.{◌≡◌, ℕ, zero, suc, List, [], ◌∷◌, ◌++◌, take, Option, None, Some, refl, sym, ap, subst, ◌∙◌, append_assoc, ◌⊎◌, inl, inr}
use Rattle.std.specs.Prelude.{Contains, slice_get}
use Rattle.cluster_histories.specs.Deeds.{Answered, Decided, Deed, Opened, Running, Said, StoresFirst_from, after_deed, after_deeds}
use Rattle.disk.specs.Acts.{Act}
use Rattle.handler_trait.specs.Handling.{Effect, Meaning, Recovery}
use Rattle.lists.specs.Each.{Each, each_append}
use Rattle.lists.specs.Places.{no_back, no_front}
use Rattle.node_histories.proofs.Lists.{contains_here, contains_later}
use Rattle.node_records.proofs.ActKinds.{datagrams_append}
use Rattle.node_run.specs.Events.{datagram_to, packet_to, replied, reply_of, reply_to, said_by, sent}
use Rattle.node_run.specs.Runs.{Done, Stage, done_in, stage_after, step}
use Rattle.node_run.specs.Settings.{Settings}
use Rattle.outside.specs.declared.device.Address.{Address}
use Rattle.raft_types.specs.Messages.{KeptView}
use Rattle.raft_types.specs.declared.client.RaftInput.{RaftInput}
use Rattle.raft_types.specs.declared.client.RaftOut.{RaftOut}
use Rattle.raft_types.specs.declared.msg.RaftMsg.{RaftMsg}
use Rattle.slots.specs.Turns.{datagrams}
use Rattle.vst_base.specs.Machines.{MachineMeaning}
use Rattle.wire_codec.specs.declared.kind.Kind.{Kind}
use Rattle.wire_fields.specs.Formats.{Format}
use Rattle.wire_messages.specs.ClientBytes.{client_reply}
use Rattle.wire_messages.specs.RaftBytes.{raft_message}
use Rattle.wire_codec.specs.declared.kind.Kind.TheVariants as kind
use Rattle.node_lives.specs.LifeDeeds.{AreActsOf, AreOf, RaftDeed, decided_on}

-- a deed by which one of these messages goes out, or one of those outputs
abbrev pub GoesOut : {C O : Type 0} → List (ℕ × RaftMsg C) → List (RaftOut O) → RaftDeed C O → Type 0
GoesOut sends outputs (Said to c) = Contains sends (to, c)
GoesOut sends outputs (Answered o) = Contains outputs o
GoesOut sends outputs (Decided event) = ⊥
GoesOut sends outputs (Opened kept) = ⊥

-- Such deeds store first, and leave the state as it is.
module _ {S C O : Type 0} (r : Meaning S (RaftInput C) (RaftOut O) (RaftMsg C)) (k : Recovery S (KeptView C)) (n : ℕ) where
  pub out_stores : (x : Running S (RaftOut O) (RaftMsg C) (KeptView C)) (out : List (RaftDeed C O)) →
      Each (GoesOut x.sends x.outputs) out → StoresFirst_from r k n x out
  out_stores x [] all = tt
  out_stores x (Said to c ∷ out) all = (all.0, out_stores (after_deed r k n x (Said to c)) out all.1)
  out_stores x (Answered o ∷ out) all = (all.0, out_stores (after_deed r k n x (Answered o)) out all.1)
  out_stores x (deed ∷ out) all = absurd all.0

  pub out_state : (x : Running S (RaftOut O) (RaftMsg C) (KeptView C)) (out : List (RaftDeed C O)) →
      Each (GoesOut x.sends x.outputs) out → (after_deeds r k n x out).state ≡ x.state
  out_state x [] all = refl
  out_state x (Said to c ∷ out) all = out_state (after_deed r k n x (Said to c)) out all.1
  out_state x (Answered o ∷ out) all = out_state (after_deed r k n x (Answered o)) out all.1
  out_state x (deed ∷ out) all = absurd all.0

-- deeds one after the other

module _ {S K I O M : Type 0} (r : Meaning S I O M) (k : Recovery S K) (n : ℕ) where
  pub after_both : (x : Running S O M K) (xs ys : List (Deed I O M K)) →
      after_deeds r k n x (xs ++ ys) ≡ after_deeds r k n (after_deeds r k n x xs) ys
  after_both x [] ys = refl
  after_both x (d ∷ xs) ys = after_both (after_deed r k n x d) xs ys

  pub stores_both : (x : Running S O M K) (xs ys : List (Deed I O M K)) → StoresFirst_from r k n x xs →
      StoresFirst_from r k n (after_deeds r k n x xs) ys →
      StoresFirst_from r k n x (xs ++ ys)
  stores_both x [] ys a b = b
  stores_both x (d ∷ xs) ys a b = (a.0, stores_both (after_deed r k n x d) xs ys a.1 b)

module _ {C O : Type 0} (settings : Settings) (f : Format C) (g : Format O) where
  abbrev are_of : List (Address × List ℕ) → List (RaftDeed C O) → Type 0
  are_of out deeds = AreOf settings f g out deeds

  pub of_both : (xs ys : List (Address × List ℕ)) (ds es : List (RaftDeed C O)) → are_of xs ds → are_of ys es → are_of (xs ++ ys) (ds ++ es)
  of_both [] ys ds es a b = subst (λ zs. are_of ys (zs ++ es)) (sym a) b
  of_both (x ∷ xs) ys [] es a b = absurd a
  of_both (x ∷ xs) ys (d ∷ ds) es a b = (a.0, of_both xs ys ds es a.1 b)

  -- so many of each
  pub of_front : (n : ℕ) (xs : List (Address × List ℕ)) (ds : List (RaftDeed C O)) → are_of xs ds → are_of (take n xs) (take n ds)
  of_front zero xs ds a = refl
  of_front (suc n) [] ds a = subst (λ es. are_of [] (take (suc n) es)) (sym a) refl
  of_front (suc n) (x ∷ xs) [] a = absurd a
  of_front (suc n) (x ∷ xs) (d ∷ ds) a = (a.0, of_front n xs ds a.1)

  -- the deeds that the first of two lists of datagrams are, and those that the second are
  pub record Parts (xs ys : List (Address × List ℕ)) (deeds : List (RaftDeed C O)) : Type 0 where
    pub ds : List (RaftDeed C O)
    pub es : List (RaftDeed C O)
    pub first : are_of xs ds
    pub second : are_of ys es
    pub is : deeds ≡ ds ++ es

  pub of_parts : (xs ys : List (Address × List ℕ)) (deeds : List (RaftDeed C O)) → are_of (xs ++ ys) deeds → Parts xs ys deeds
  of_parts [] ys deeds a = record { ds = []; es = deeds; first = refl; second = a; is = refl }
  of_parts (x ∷ xs) ys [] a = absurd a
  of_parts (x ∷ xs) ys (d ∷ deeds) a =
      let rest = of_parts xs ys deeds a.1 in
      record { ds = d ∷ rest.ds; es = rest.es; first = (a.0, rest.first); second = rest.second; is = ap (λ zs. d ∷ zs) rest.is }

  -- all that an event says is its messages and outputs

  pub record Sayings (sends : List (ℕ × RaftMsg C)) (outputs : List (RaftOut O)) (out : List (Address × List ℕ)) : Type 0 where
    pub deeds : List (RaftDeed C O)
    pub are : are_of out deeds
    pub all : Each (GoesOut sends outputs) deeds

  one_or_none : {M : Type 0} (h : Format M) (to : Option Address) (k : Kind) (n : ℕ) (c : M) →
      (datagram_to settings h to k n c ≡ []) ⊎ ((d : Address × List ℕ) × (datagram_to settings h to k n c ≡ d ∷ []))
  one_or_none h None k n c = inl refl
  one_or_none h (Some address) k n c = inr (_, refl)

  said_one : (sends : List (ℕ × RaftMsg C)) (outputs : List (RaftOut O)) (p : ℕ × RaftMsg C) → Contains sends p →
      Sayings sends outputs (packet_to settings f p)
  said_one sends outputs p i = elim (one_or_none (raft_message f) (slice_get settings.peers p.0) kind.Peer p.0 p.1) [
    | inl none ↦ record { deeds = []; are = subst (λ ds. are_of ds []) (sym none) refl; all = tt }
    | inr one ↦ record {
      deeds = Said p.0 p.1 ∷ [];
      are = subst (λ ds. are_of ds (Said p.0 p.1 ∷ [])) (sym one.1) (one.1, refl);
      all =
          (i, tt);
    }
  ]

  told_one : (sends : List (ℕ × RaftMsg C)) (outputs : List (RaftOut O)) (o : RaftOut O) → Contains outputs o →
      Sayings sends outputs (reply_to settings g (reply_of o))
  told_one sends outputs o i = elim (one_or_none (client_reply g) (slice_get settings.clients (reply_of o).0) kind.Reply
      (reply_of o).0 (reply_of o).1) [
        | inl none ↦ record { deeds = []; are = subst (λ ds. are_of ds []) (sym none) refl; all = tt }
        | inr one ↦ record { deeds = Answered o ∷ []; are = subst (λ ds. are_of ds (Answered o ∷ [])) (sym one.1) (one.1, refl); all = (i, tt) }
      ]

  says_both : (sends : List (ℕ × RaftMsg C)) (outputs : List (RaftOut O)) (xs ys : List (Address × List ℕ)) →
      Sayings sends outputs xs → Sayings sends outputs ys →
      Sayings sends outputs (xs ++ ys)
  says_both sends outputs xs ys a b = record {
    deeds = a.deeds ++ b.deeds;
    are = of_both xs ys a.deeds b.deeds a.are b.are;
    all = each_append (GoesOut sends outputs) a.deeds b.deeds a.all b.all;
  }

  says_sent : (sends : List (ℕ × RaftMsg C)) (outputs : List (RaftOut O)) (ps : List (ℕ × RaftMsg C)) → ((p : ℕ × RaftMsg C) →
      Contains ps p → Contains sends p) →
      Sayings sends outputs (sent settings f ps)
  says_sent sends outputs [] among = record { deeds = []; are = refl; all = tt }
  says_sent sends outputs (p ∷ ps) among =
      says_both sends outputs (packet_to settings f p) (sent settings f ps) (said_one sends outputs p (among p (contains_here p ps)))
      (says_sent sends outputs ps (λ q i. among q (contains_later p ps q i)))

  says_told : (sends : List (ℕ × RaftMsg C)) (outputs os : List (RaftOut O)) → ((o : RaftOut O) → Contains os o → Contains outputs o) →
      Sayings sends outputs (replied settings g os)
  says_told sends outputs [] among = record { deeds = []; are = refl; all = tt }
  says_told sends outputs (o ∷ os) among =
      says_both sends outputs (reply_to settings g (reply_of o)) (replied settings g os) (told_one sends outputs o (among o
      (contains_here o os)))
      (says_told sends outputs os (λ p i. among p (contains_later o os p i)))

  pub says_all : {S : Type 0} (e : Effect S (RaftOut O) (RaftMsg C)) → Sayings e.sends e.outputs (said_by settings f g e)
  says_all e =
      says_both e.sends e.outputs (sent settings f e.sends) (replied settings g e.outputs) (says_sent e.sends e.outputs e.sends (λ p i. i))
      (says_told e.sends e.outputs e.outputs (λ o i. i))

-- acts one after the other

module _ {S C O : Type 0} (settings : Settings) (m : MachineMeaning S C O) (f : Format C) (g : Format O) where
  abbrev acts_of : Stage S C O → List Act → List (RaftDeed C O) → Type 0
  acts_of stage acts deeds = AreActsOf settings m f g stage acts deeds

  pub acts_both : (stage : Stage S C O) (xs ys : List Act) (ds es : List (RaftDeed C O)) → acts_of stage xs ds →
      acts_of (stage_after settings m f g stage xs) ys es →
      acts_of stage (xs ++ ys) (ds ++ es)
  acts_both stage [] ys ds es a b = subst (λ zs. acts_of stage ys (zs ++ es)) (sym a) b
  acts_both stage (x ∷ xs) ys ds es (here, later, one, rest, is) b = (
    here,
    later ++ es,
    one,
    acts_both (step settings m f g stage x).stage xs ys later es rest b,
    ap (λ zs. zs ++ es) is ∙ append_assoc here later es,
  )

  -- where no event is decided, the deeds are the datagrams alone
  pub acts_say : (stage : Stage S C O) (acts : List Act) (out : List (RaftDeed C O)) → done_in settings m f g stage acts ≡ [] →
      AreOf settings f g (datagrams acts) out → acts_of stage acts out
  acts_say stage [] out none are = are
  acts_say stage (act ∷ acts) out none are =
      let next = step settings m f g stage act in
      let parts = of_parts settings f g (datagrams (act ∷ [])) (datagrams acts) out
      (subst (λ ds. AreOf settings f g ds out) (datagrams_append (act ∷ []) acts) are) in (
        parts.ds,
        parts.es,
        record {
          out = parts.ds;
          are_out = parts.first;
          are = ap (λ (ds : List (Done C)). decided_on ds ++ parts.ds) (sym
              (no_front next.done (done_in settings m f g next.stage acts) none));
        },
        acts_say next.stage acts parts.es (no_back next.done (done_in settings m f g next.stage acts) none) parts.second,
        parts.is,
      )
