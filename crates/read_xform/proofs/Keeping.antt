-- What a node knows of reads stays sound.
use Rattle.std.proofs.Common.{ℕ, suc, ◌≤◌, Bool, true, false, not, List, [], ◌∷◌, ◌++◌, cond, IsTrue, ◌∙◌, arith, length-append}
use Rattle.std.proofs.lemmas.List.{length-replicate, length-set}
use Rattle.std.specs.List.{filter}
use Rattle.lists.specs.Each.{Each, each_append, each_weaker}
use Rattle.raft_types.specs.declared.client.RaftInput.{RaftInput}
use Rattle.raft_reads.specs.Reads.{Reads, Waiting, no_reads, with_ack, with_read}
use Rattle.read_xform.specs.ReadLaws.{few_filtered}
use Rattle.read_xform.specs.Rounds.{without}
use Rattle.read_xform.specs.Sound.{AreInOrder, AreSoundReads, IsBefore, IsKept}

each_filter : {A : Type 0} (P : A → Type 0) (p : A → Bool) (xs : List A) → Each P xs → Each P (filter p xs)
each_filter P p [] all = tt
each_filter P p (x ∷ xs) all = go (p x) (each_filter P p xs all.1)
  where
    go : (b : Bool) → Each P (filter p xs) → Each P (cond b (x ∷ filter p xs) (filter p xs))
    go true rest = (all.0, rest)
    go false rest = rest

module _ {C : Type 0} where
  in_order_filter : (p : Waiting C → Bool) (xs : List (Waiting C)) → AreInOrder xs → AreInOrder (filter p xs)
  in_order_filter p [] all = tt
  in_order_filter p (x ∷ xs) all = go (p x) (in_order_filter p xs all.1)
    where
      go : (b : Bool) → AreInOrder (filter p xs) → AreInOrder (cond b (x ∷ filter p xs) (filter p xs))
      go true rest = (each_filter (IsBefore x) p xs all.0, rest)
      go false rest = rest

  -- a read after all others
  in_order_with : (y : Waiting C) (xs : List (Waiting C)) → AreInOrder xs → Each (λ x. IsBefore x y) xs → AreInOrder (xs ++ y ∷ [])
  in_order_with y [] all before = (tt, tt)
  in_order_with y (x ∷ xs) all before = (each_append (IsBefore x) xs (y ∷ []) all.0 (before.0, tt), in_order_with y xs all.1 before.1)

module _ {C : Type 0} (is_read : C → Bool) (nodes : ℕ) where
  pub sound_none : (commit : ℕ) → AreSoundReads is_read nodes commit (no_reads nodes)
  sound_none commit = record { acked = length-replicate nodes 0; kept = tt; in_order = tt; few = omega arith }

  -- what each is that waits
  pub all_read : (commit : ℕ) (r : Reads C) → AreSoundReads is_read nodes commit r → Each (λ x. IsTrue (is_read x.input.cmd)) r.waiting
  all_read commit r k = each_weaker (IsKept is_read r.round commit) (λ x. IsTrue (is_read x.input.cmd)) (λ x h. h.reads) r.waiting k.kept

  -- more is committed
  pub sound_grown : (from to : ℕ) (r : Reads C) → from ≤ to → AreSoundReads is_read nodes from r → AreSoundReads is_read nodes to r
  sound_grown from to r more k = record {
    acked = k.acked;
    kept = each_weaker (IsKept is_read r.round from) (IsKept is_read r.round to)
        (λ x h. record { reads = h.reads; began = h.began; read_index = omega (arith, h.read_index, more) }) r.waiting k.kept;
    in_order = k.in_order;
    few = k.few;
  }

  -- a read comes when so much is committed
  pub sound_with_read : (from to : ℕ) (r : Reads C) (i : RaftInput C) → IsTrue (is_read i.cmd) → from ≤ to → AreSoundReads is_read nodes from r
      → AreSoundReads is_read nodes to (with_read r i from)
  sound_with_read from to r i reads more k =
      let new : Waiting C = record { input = i; round = suc r.round; read_index = from } in
      let longer = length-append r.waiting (new ∷ []) in
      record {
        acked = k.acked;
        kept = each_append (IsKept is_read (suc r.round) to) r.waiting (new ∷ [])
            (each_weaker (IsKept is_read r.round from) (IsKept is_read (suc r.round) to)
            (λ x h. record { reads = h.reads; began = omega (arith, h.began); read_index = omega (arith, h.read_index, more) }) r.waiting k.kept)
            (record { reads = reads; began = omega arith; read_index = more }, tt);
        in_order = in_order_with new r.waiting k.in_order
            (each_weaker (IsKept is_read r.round from) (λ x. IsBefore x new)
            (λ x h. record { round = omega (arith, h.began); read_index = h.read_index }) r.waiting k.kept);
        few = omega (arith, k.few, longer);
      }

  -- an acknowledgement comes, or none
  pub sound_acked : (commit : ℕ) (r : Reads C) (b : Bool) (from round : ℕ) → AreSoundReads is_read nodes commit r
      → AreSoundReads is_read nodes commit (cond b (with_ack r from round) r)
  sound_acked commit r true from round k = record {
    acked = length-set r.acked from _ ∙ k.acked;
    kept = k.kept;
    in_order = k.in_order;
    few = k.few;
  }
  sound_acked commit r false from round k = k

  -- those that may be answered are
  pub sound_without : (commit : ℕ) (r : Reads C) (ready : Waiting C → Bool) → AreSoundReads is_read nodes commit r → AreSoundReads is_read nodes commit (without ready r)
  sound_without commit r ready k = record {
    acked = k.acked;
    kept = each_filter (IsKept is_read r.round commit) (λ x. not (ready x)) r.waiting k.kept;
    in_order = in_order_filter (λ x. not (ready x)) r.waiting k.in_order;
    few = let fewer = few_filtered (λ x. not (ready x)) r.waiting in omega (arith, fewer, k.few);
  }

  -- a node that does not lead on drops them
  pub sound_either : (commit : ℕ) (r : Reads C) (b : Bool) → AreSoundReads is_read nodes commit r → AreSoundReads is_read nodes commit (cond b r (no_reads nodes))
  sound_either commit r true k = k
  sound_either commit r false k = sound_none commit
