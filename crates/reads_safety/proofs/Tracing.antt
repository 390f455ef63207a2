-- What clients see of a run with reads, beside what they see of the run of Raft.
use Rattle.std.proofs.Common.{◌≡◌, ℕ, ◌⊎◌, inl, inr, Bool, true, false, ◌&&◌, ◌||◌, eqb, List, [], ◌∷◌, ◌++◌, map, Option, Some, None, cond, slice_get, refl, sym, ap, ◌∙◌}
use Rattle.std.proofs.lemmas.Bool.{and_parts, cases_Bool, eq-eqb, eqb-true, false≢true}
use Rattle.net_semantics.specs.Runs.{trace_from}
use Rattle.net_semantics.specs.Steps.{delivery, items_of, items_of_event}
use Rattle.net_semantics.specs.Worlds.{Packet}
use Rattle.vst_base.specs.declared.step.Item.{Item}
use Rattle.vst_base.specs.declared.step.Item.TheVariants as item
use Rattle.vst_base.specs.declared.step.Step.{Step}
use Rattle.vst_base.specs.declared.step.Step.TheVariants as step
use Rattle.raft_free.specs.Events.{In}
use Rattle.raft_types.specs.declared.client.RaftInput.{RaftInput}
use Rattle.raft_types.specs.declared.client.RaftOut.{RaftOut}
use Rattle.raft_types.specs.declared.msg.RaftMsg.{RaftMsg}
use Rattle.raft_xform.specs.Raft.{raft, raft_recovery}
use Rattle.lists.specs.Each.{Each}
use Rattle.linearizability.specs.Linearizable.{HasInput, is_named}
use Rattle.raft_safety.proofs.Listing.{each_in}
use Rattle.raft_reads.specs.ReadRaft.{read_raft, read_recovery, waits}
use Rattle.raft_reads.specs.Clusters.{ReadCluster, ReadWorld, next_world, world_from}
use Rattle.raft_reads.specs.Erasing.{erased_from, erased_packet, erased_step, erased_world}
use Rattle.reads_safety.specs.Runs.{ArePairsUnused, AreUnused, IsUnused}
use Rattle.raft_reads.proofs.Erasing.{next_erased}

pub has_append : {I O : Type 0} (xs ys : List (Item I O)) (z : I) → HasInput (xs ++ ys) z → HasInput xs z ⊎ HasInput ys z
has_append [] ys z h = inr h
has_append (item.Input n j ∷ xs) ys z (inl e) = inl (inl e)
has_append (item.Input n j ∷ xs) ys z (inr h) = elim (has_append xs ys z h) [ inl q ↦ inl (inr q) | inr q ↦ inr q ]
has_append (item.Output n o ∷ xs) ys z h = has_append xs ys z h

pub has_after : {I O : Type 0} (xs ys : List (Item I O)) (z : I) → HasInput ys z → HasInput (xs ++ ys) z
has_after [] ys z h = h
has_after (item.Input n j ∷ xs) ys z h = inr (has_after xs ys z h)
has_after (item.Output n o ∷ xs) ys z h = has_after xs ys z h

pub no_output : {I O : Type 0} (n : ℕ) (outputs : List O) (z : I) → HasInput {I = I} {O = O} (map (λ o. item.Output n o) outputs) z → ⊥
no_output n [] z h = h
no_output n (o ∷ outputs) z h = no_output n outputs z h

pub in_split : {A : Type 0} (xs : List A) (x : A) (ys : List A) → In x (xs ++ x ∷ ys)
in_split [] x ys = inl refl
in_split (z ∷ xs) x ys = inr (in_split xs x ys)

pub in_front : {A : Type 0} (x : A) (xs ys : List A) → In x xs → In x (xs ++ ys)
in_front x [] ys h = absurd h
in_front x (z ∷ xs) ys (inl e) = inl e
in_front x (z ∷ xs) ys (inr h) = inr (in_front x xs ys h)

-- a list and the place of an element in it
pub split_cases : {A : Type 0} (xs ys pre post : List A) (z : A) → xs ++ ys ≡ pre ++ z ∷ post → In z xs ⊎ ((mid : List A) × (xs ++ mid ≡ pre))
split_cases [] ys pre post z e = inr (pre, refl)
split_cases (x ∷ xs) ys [] post z e = inl (inl (cc e))
split_cases (x ∷ xs) ys (p ∷ pre) post z e = elim (split_cases xs ys pre post z (cc e)) [
  | inl h ↦ inl (inr h)
  | inr h ↦ inr (h.0, let same : x ≡ p = cc e in rw same (ap (λ zs. p ∷ zs) h.1))
]

-- two places: one comes first, or they are one
pub two_places : {A : Type 0} (xs ys pre post : List A) (x z : A) → xs ++ x ∷ ys ≡ pre ++ z ∷ post →
    In x pre ⊎ (In z xs ⊎ ((xs ≡ pre) × (x ≡ z)))
two_places [] ys [] post x z e = inr (inr (refl, cc e))
two_places [] ys (p ∷ pre) post x z e = inl (inl (cc e))
two_places (y ∷ xs) ys [] post x z e = inr (inl (inl (cc e)))
two_places (y ∷ xs) ys (p ∷ pre) post x z e = elim (two_places xs ys pre post x z (cc e)) [
  | inl h ↦ inl (inr h)
  | inr h ↦ elim h [ inl q ↦ inr (inl (inr q)) | inr q ↦ (let same : y ≡ p = cc e in inr (inr (rw (same, q.0) refl, q.1))) ]
]

named_same : {C : Type 0} (y z : RaftInput C) → is_named z.client z.request y ≡ true → is_named y.client y.request z ≡ true
named_same y z e =
    let p = and_parts (eqb y.client z.client) (eqb y.request z.request) e in
    rw (eqb-true _ _ p.0, eqb-true _ _ p.1, eq-eqb z.client z.client refl, eq-eqb z.request z.request refl) refl

pub other_back : {C : Type 0} (y z : RaftInput C) → is_named z.client z.request y ≡ false → is_named y.client y.request z ≡ false
other_back y z e = elim (cases_Bool (is_named y.client y.request z)) [ inl h ↦ absurd (false≢true (sym e ∙ named_same z y h)) | inr h ↦ h ]

pub named_trans : {C : Type 0} (client request : ℕ) (y z : RaftInput C) → is_named client request y ≡ true → is_named client request z ≡ true → is_named y.client y.request z ≡ true
named_trans client request y z a b =
    let p = and_parts (eqb y.client client) (eqb y.request request) a in
    rw (eqb-true _ _ p.0, eqb-true _ _ p.1) b

unused_parts : (a b : Bool) → (a && b) ≡ false → b ≡ true → a ≡ false
unused_parts true true e h = absurd (false≢true (sym e))
unused_parts false b e h = refl
unused_parts true false e h = absurd (false≢true h)

module _ {S C O : Type 0} (c : ReadCluster S C O) where
  -- a request that a client put in, which did not wait
  pub record IsPutIn (w : ReadWorld S C O) (ss : List (Step (RaftInput C))) (z : RaftInput C) : Type 0 where
    pub early : List (Step (RaftInput C))
    pub late : List (Step (RaftInput C))
    pub node : ℕ
    pub is : early ++ step.In node z ∷ late ≡ ss
    pub came : waits c.is_read ((world_from c w early).state node) z ≡ false

  record IsStep (w : ReadWorld S C O) (s : Step (RaftInput C)) (z : RaftInput C) : Type 0 where
    node : ℕ
    is : step.In node z ≡ s
    came : waits c.is_read (w.state node) z ≡ false

  input_step : (w : ReadWorld S C O) (n : ℕ) (q z : RaftInput C) (b : Bool) → waits c.is_read (w.state n) q ≡ b → HasInput (items_of (raft c.nodes c.machine) (erased_world w) (cond b (step.Tick n) (step.In n q))) z → IsStep w (step.In n q) z
  input_step w n q z true e h = absurd (no_output {O = RaftOut O} n ((raft c.nodes c.machine).timeout n (w.state n).raft).outputs z h)
  input_step w n q z false e (inl same) = rw (← same) (record { node = n; is = refl; came = e })
  input_step w n q z false e (inr h) = absurd (no_output {O = RaftOut O} n ((raft c.nodes c.machine).input n (w.state n).raft q).outputs z h)

  at_step : (w : ReadWorld S C O) (s : Step (RaftInput C)) (z : RaftInput C) → HasInput (items_of (raft c.nodes c.machine) (erased_world w) (erased_step c w s)) z → IsStep w s z
  at_step w (step.In n q) z h = input_step w n q z (waits c.is_read (w.state n) q) refl h
  at_step w (step.Tick n) z h = absurd (no_output {O = RaftOut O} n ((raft c.nodes c.machine).timeout n (w.state n).raft).outputs z h)
  at_step w (step.Deliver k) z h = absurd (go (slice_get (map erased_packet w.packets) k) h)
    where
      go : (o : Option (Packet (RaftMsg C))) → HasInput (items_of_event (delivery (raft c.nodes c.machine) (erased_world w) o)) z → ⊥
      go None h = h
      go (Some p) h = no_output {O = RaftOut O} p.destination ((raft c.nodes c.machine).message p.destination (w.state p.destination).raft p.source p.content).outputs z h
  at_step w (step.Dup k) z h = absurd h
  at_step w (step.Lose k) z h = absurd h
  at_step w (step.Crash n) z h = absurd h
  at_step w (step.Reboot n) z h = absurd h

  pub erased_input : (w : ReadWorld S C O) (ss : List (Step (RaftInput C))) (z : RaftInput C) →
      HasInput (trace_from (raft c.nodes c.machine) (raft_recovery c.machine) (erased_world w) (erased_from c w ss)) z → IsPutIn w ss z
  erased_input w [] z h = absurd h
  erased_input w (s ∷ ss) z h = elim (has_append (items_of (raft c.nodes c.machine) (erased_world w) (erased_step c w s)) _ z h) [
    | inl q ↦ (let i = at_step w s z q in record { early = []; late = ss; node = i.node; is = ap (λ x. x ∷ ss) i.is; came = i.came })
    | inr q ↦ (let i = erased_input (next_world c w s) ss z (rw (← next_erased c w s) at q) in record { early = s ∷ i.early; late = i.late; node = i.node; is = ap (λ xs. s ∷ xs) i.is; came = i.came })
  ]

  -- what comes is seen
  pub input_seen : (w : ReadWorld S C O) (ss : List (Step (RaftInput C))) (j : ℕ) (z : RaftInput C) → In (step.In j z) ss →
      HasInput (trace_from (read_raft c.nodes c.machine c.is_read) (read_recovery c.nodes c.machine) w ss) z
  input_seen w [] j z h = absurd h
  input_seen w (s ∷ ss) j z (inl e) = rw (← e) (inl refl)
  input_seen w (s ∷ ss) j z (inr h) = has_after (items_of (read_raft c.nodes c.machine c.is_read) w s) _ z (input_seen (next_world c w s) ss j z h)

  each_later : (z : RaftInput C) (xs : List (Step (RaftInput C))) (s : Step (RaftInput C)) (ys : List (Step (RaftInput C))) → Each (IsUnused c z) (xs ++ s ∷ ys) → IsUnused c z s
  each_later z xs s ys e = each_in (IsUnused c z) (xs ++ s ∷ ys) s e (in_split xs s ys)

  unused_from : (j : ℕ) (z : RaftInput C) (x : Step (RaftInput C)) (later : List (Step (RaftInput C))) → step.In j z ≡ x → AreUnused c x later → Each (IsUnused c z) later
  unused_from j z x later e u = rw (← e) at u

  pub unused_at : (xs : List (Step (RaftInput C))) (s : Step (RaftInput C)) (ys : List (Step (RaftInput C))) (j : ℕ) (z : RaftInput C) → ArePairsUnused c (xs ++ s ∷ ys) → In (step.In j z) xs → IsUnused c z s
  unused_at [] s ys j z u h = absurd h
  unused_at (x ∷ xs) s ys j z u (inl e) = each_later z xs s ys (unused_from j z x (xs ++ s ∷ ys) e u.0)
  unused_at (x ∷ xs) s ys j z u (inr h) = unused_at xs s ys j z u.1 h

  -- an earlier request and a later one, one of them a read, have different names
  pub other_name : (n : ℕ) (z y : RaftInput C) → IsUnused c z (step.In n y) → (c.is_read z.cmd || c.is_read y.cmd) ≡ true → is_named y.client y.request z ≡ false
  other_name n z y u reads = unused_parts (eqb z.client y.client && eqb z.request y.request) (c.is_read z.cmd || c.is_read y.cmd) u reads
