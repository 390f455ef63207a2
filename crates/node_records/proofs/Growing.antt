-- Records one after the other.
use Rattle.std.proofs.Common.{◌≡◌, ℕ, ◌+◌, List, [], ◌++◌, sym, ap, subst, ◌∙◌, arith}
use Rattle.std.proofs.lemmas.List.{append-nil}
use Rattle.disk.specs.Acts.{Act}
use Rattle.disk.specs.DiskLaws.{IsCutShort}
use Rattle.slots.specs.Turns.{datagrams}
use Rattle.vst_base.specs.Machines.{MachineMeaning}
use Rattle.wire_fields.specs.Formats.{Format}
use Rattle.node_acts.specs.Stores.{StoreView}
use Rattle.node_run.specs.Runs.{Done, Stage, done_in, said_in, stage_after}
use Rattle.node_run.specs.Settings.{Settings}
use Rattle.node_records.specs.Records.{AreRecord, IsNoFault, IsOfTurns, IsStopped, saves_of, store_acts, store_by}
use Rattle.node_records.proofs.ActKinds.{cut_short_behind, datagrams_append, whole, store_acts_append}
use Rattle.node_records.proofs.Folds.{done_append, orderly_append, said_append, saves_append, turns_append}
use Rattle.lists.specs.Each.{each_append}
use Rattle.lists.specs.Prefixes.{prefix_behind, prefix_of}

module _ {S C O : Type 0} (settings : Settings) (m : MachineMeaning S C O) (f : Format C) (g : Format O) where
  abbrev decides : Stage S C O → List Act → List (Done C)
  decides stage acts = done_in settings m f g stage acts

  abbrev stands : Stage S C O → List Act → Stage S C O
  stands stage acts = stage_after settings m f g stage acts

  -- what whole turns say, and then what others do
  pub said_first : (stage : Stage S C O) (xs ys : List Act) → datagrams xs ≡ said_in (decides stage xs) →
      datagrams (xs ++ ys) ≡ said_in (decides stage xs) ++ datagrams ys
  said_first stage xs ys e = datagrams_append xs ys ∙ ap (λ r. r ++ datagrams ys) e

  said_both : (stage : Stage S C O) (xs ys : List Act) →
      said_in (decides stage (xs ++ ys)) ≡ said_in (decides stage xs) ++ said_in (decides (stands stage xs) ys)
  said_both stage xs ys = ap said_in (done_append settings m f g stage xs ys) ∙ said_append (decides stage xs) (decides (stands stage xs) ys)

  stored_first : (stage : Stage S C O) (store : StoreView) (a : ℕ) (xs ys : List Act) → AreRecord settings m f g stage store a xs →
      store_acts (xs ++ ys) ≡ saves_of settings.stack f store (decides stage xs) ++ store_acts ys
  stored_first stage store a xs ys x = store_acts_append xs ys ∙ ap (λ r. r ++ store_acts ys) x.stored

  saves_both : (stage : Stage S C O) (store : StoreView) (xs ys : List Act) →
      saves_of settings.stack f store (decides stage (xs ++ ys))
      ≡ saves_of settings.stack f store (decides stage xs)
      ++ saves_of settings.stack f (store_by settings.stack f store (decides stage xs)) (decides (stands stage xs) ys)
  saves_both stage store xs ys =
      ap (λ r. saves_of settings.stack f store r) (done_append settings m f g stage xs ys)
      ∙ saves_append settings.stack f store (decides stage xs) (decides (stands stage xs) ys)

  pub records_grow : (stage : Stage S C O) (store : StoreView) (a b : ℕ) (xs ys : List Act) → AreRecord settings m f g stage store a xs →
      AreRecord settings m f g (stands stage xs) (store_by settings.stack f store (decides stage xs)) b ys → AreRecord settings m f g stage store (a + b) (xs ++ ys)
  records_grow stage store a b xs ys x y = record {
    of_turns = each_append IsOfTurns xs ys x.of_turns y.of_turns;
    orderly = orderly_append settings m f g stage xs ys x.orderly y.orderly;
    turns = let e = turns_append settings m f g stage xs ys in let p = x.turns in let q = y.turns in omega arith;
    stored = stored_first stage store a xs ys x
        ∙ (ap (λ r. saves_of settings.stack f store (decides stage xs) ++ r) y.stored ∙ sym (saves_both stage store xs ys));
    said = said_first stage xs ys x.said ∙ (ap (λ r. said_in (decides stage xs) ++ r) y.said ∙ sym (said_both stage xs ys));
    faultless = each_append IsNoFault xs ys x.faultless y.faultless;
  }

  pub stops_grow : (stage : Stage S C O) (store : StoreView) (a b : ℕ) (xs ys : List Act) → AreRecord settings m f g stage store a xs →
      IsStopped settings m f g (stands stage xs) (store_by settings.stack f store (decides stage xs)) b ys →
      IsStopped settings m f g stage store (a + b) (xs ++ ys)
  stops_grow stage store a b xs ys x y = record {
    of_turns = each_append IsOfTurns xs ys x.of_turns y.of_turns;
    orderly = orderly_append settings m f g stage xs ys x.orderly y.orderly;
    turns = let e = turns_append settings m f g stage xs ys in let p = x.turns in let q = y.turns in omega arith;
    stored = subst (λ (r : List Act). IsCutShort (saves_of settings.stack f store (decides stage (xs ++ ys))) r)
        (sym (stored_first stage store a xs ys x))
        (subst (λ (r : List Act). IsCutShort r (saves_of settings.stack f store (decides stage xs) ++ store_acts ys)) (sym (saves_both stage store xs ys))
        (cut_short_behind (saves_of settings.stack f store (decides stage xs))
        (saves_of settings.stack f (store_by settings.stack f store (decides stage xs)) (decides (stands stage xs) ys)) (store_acts ys) y.stored));
    said = rw (said_first stage xs ys x.said, said_both stage xs ys) (prefix_behind (said_in (decides stage xs)) _ y.said);
  }

  pub record_stops : (stage : Stage S C O) (store : StoreView) (count : ℕ) (acts : List Act) → AreRecord settings m f g stage store count acts →
      IsStopped settings m f g stage store count acts
  record_stops stage store count acts x = record {
    of_turns = x.of_turns;
    orderly = x.orderly;
    turns = let e = x.turns in omega arith;
    stored = subst (λ (r : List Act). IsCutShort (saves_of settings.stack f store (decides stage acts)) r) (sym x.stored)
        (whole (saves_of settings.stack f store (decides stage acts)));
    said = prefix_of _ [] _ (append-nil (datagrams acts) ∙ x.said);
  }
