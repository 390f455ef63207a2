-- How much is left of a log, where it becomes what an event may make of it.
use Rattle.std.proofs.Common.{◌≡◌, ℕ, ◌+◌, ◌≤◌, min, max, Bool, true, false, nat_eq, List, [], ◌∷◌, length, take, drop, eqb, refl, arith, inl, inr, if◌then◌else◌, length-append}
use Rattle.std.proofs.lemmas.Bool.{eqb-false, eqb-true}
use Rattle.std.proofs.lemmas.List.{length-take-le}
use Rattle.raft_types.specs.declared.msg.RaftMsg.TheVariants as msg
use Rattle.raft_xform.proofs.Lengths.{accepted_has_new, accepted_no_longer}
use Rattle.vst_base.specs.Entries.{EntryView}
use Rattle.vst_base.specs.Logs.{accepted, merged}
use Rattle.node_acts.specs.Stores.{common, terms_of}
use Rattle.node_run.specs.declared.event.Event.{Event}
use Rattle.node_run.specs.declared.event.Event.TheVariants.{Tick, Peer, Asked}
use Rattle.node_growth.specs.Growth.{Becomes, IsTaking, IsWithOne, brought, left_by}
use Rattle.node_growth.proofs.Agreeing.{Agree, agree_accepted, agree_more, common_after, common_merged, common_more, common_same}

-- of a log and what an event makes of it
pub record IsLeft {C : Type 0} (old new : List (EntryView C)) (left more : ℕ) : Type 0 where
  pub agree : Agree old new
  pub in_common : left ≤ common (terms_of old) new
  pub few : length new ≤ left + more

-- what is left where entries came for the places after an index
abbrev left_of : {C : Type 0} → ℕ → List (EntryView C) → List (EntryView C) → List (EntryView C) → ℕ
left_of prev es old new = if nat_eq (length new) (prev + length es) then min (length old) prev else min (length old) (length new)

-- of a log that reaches an index, and takes entries for the places after it
module _ {C : Type 0} (prev : ℕ) (es old : List (EntryView C)) (reaches : prev ≤ length old) where
  abbrev log : List (EntryView C)
  log = accepted old prev es

  abbrev rest : List (EntryView C)
  rest = merged (drop prev old) es

  terms : common (terms_of old) log ≡ prev + common (terms_of (drop prev old)) rest
  terms = common_after prev old rest reaches

  long : length log ≡ prev + length rest
  long = omega (arith, length-append (take prev old) rest, length-take-le prev old reaches)

  short : length log ≤ max (length old) (prev + length es)
  short = accepted_no_longer old prev es reaches

  accepted_left : IsLeft old log (left_of prev es old log) (length es)
  accepted_left = go (eqb (length log) (prev + length es)) refl
    where
      go : (b : Bool) → eqb (length log) (prev + length es) ≡ b →
          IsLeft old log (if b then min (length old) prev else min (length old) (length log)) (length es)
      go true ends = record {
        agree = agree_accepted old prev es;
        in_common = omega (arith, terms);
        few = let end = eqb-true _ _ ends in omega (arith, end, reaches);
      }
      go false goes_on =
          let on = eqb-false _ _ goes_on in
          let has = accepted_has_new old prev es reaches in
          let all = common_merged (drop prev old) es (omega (arith, on, has, long)) in
          record { agree = agree_accepted old prev es; in_common = omega (arith, terms, all, long); few = omega (arith, on, has, short) }

module _ {C : Type 0} where
  one_left : (old new : List (EntryView C)) → IsWithOne old new → IsLeft old new (min (length old) (length new)) 1
  one_left old new (inl same) =
      let all = common_same old in rw same (record { agree = refl; in_common = omega (arith, all); few = omega arith })
  one_left old new (inr more) =
      let e : EntryView C = more.0 in
      rw (more.1) (record {
        agree = agree_more old (e ∷ []);
        in_common = let all = common_more old (e ∷ []) in omega (arith, all);
        few = omega (arith, length-append old (e ∷ []));
      })

  taken_left : (prev : ℕ) (es old new : List (EntryView C)) → IsTaking prev es old new →
      IsLeft old new (left_of prev es old new) (length es)
  taken_left prev es old new (inl same) = rw same (go (eqb (length old) (prev + length es)) refl)
    where
      go : (b : Bool) → eqb (length old) (prev + length es) ≡ b →
          IsLeft old old (if b then min (length old) prev else min (length old) (length old)) (length es)
      go true ends =
          let all = common_same old in
          let end = eqb-true _ _ ends in
          record { agree = refl; in_common = omega (arith, all); few = omega (arith, end) }
      go false goes_on = let all = common_same old in record { agree = refl; in_common = omega (arith, all); few = omega arith }
  taken_left prev es old new (inr taken) = rw (taken.1) (accepted_left prev es old (taken.0))

  pub event_leaves : (event : Event C) (old new : List (EntryView C)) → Becomes event old new →
      IsLeft old new (left_by event (length old) (length new)) (brought event)
  event_leaves Tick old new h = one_left old new h
  event_leaves (Asked request) old new h = one_left old new h
  event_leaves (Peer from (msg.RequestVote r)) old new h = one_left old new h
  event_leaves (Peer from (msg.Vote v)) old new h = one_left old new h
  event_leaves (Peer from (msg.Append a)) old new h = taken_left a.prev_index a.entries old new h
  event_leaves (Peer from (msg.Appended a)) old new h = one_left old new h
