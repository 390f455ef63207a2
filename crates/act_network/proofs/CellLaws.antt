-- The small disk keeps to what is asked of a disk.
use Rattle.std.proofs.Common.{◌≡◌, ◌≢◌, ℕ, true, false, List, [], ◌∷◌, ◌++◌, Option, Some, refl, ap, sym, subst, ◌∙◌, inl, inr, ◌⊎◌}
use Rattle.std.proofs.lemmas.Bool.{eq-eqb, eqb-true, ne_eqb}
use Rattle.std.proofs.lemmas.Bool.Decides.{eqb_tells}
use Rattle.act_network.specs.Disks.{DiskLaws, Saves, did}
use Rattle.act_network.specs.Cells.{CellAct, CellCanSave, CellDisk, CellHolds, Sync, Write, cells}

-- a crash leaves what is durable, or what a read gives
pub one-of-both : (left : ℕ) (disk : CellDisk) → cells.may_leave disk left ≡ true → (left ≡ disk.durable) ⊎ (left ≡ disk.read)
one-of-both left disk may = elim (eqb_tells left disk.durable) [
  | inl t ↦ inl (t.1)
  | inr t ↦ inr (eqb-true left disk.read (rw (t.0) at may))
]

module _ (n old new : ℕ) (disk : CellDisk) (h : CellHolds n old disk) where
  abbrev Either : ℕ → Type 0
  Either left = (Some left ≡ Some old) ⊎ (Some left ≡ Some new)

  some-of : (left : ℕ) (a b : ℕ) → (left ≡ a) ⊎ (left ≡ b) → (a ≡ old) ⊎ (a ≡ new) → (b ≡ old) ⊎ (b ≡ new) → Either left
  some-of left a b (inl e) (inl x) y = inl (ap (λ (k : ℕ). let s : Option ℕ = Some k in s) (e ∙ x))
  some-of left a b (inl e) (inr x) y = inr (ap (λ (k : ℕ). let s : Option ℕ = Some k in s) (e ∙ x))
  some-of left a b (inr e) x (inl y) = inl (ap (λ (k : ℕ). let s : Option ℕ = Some k in s) (e ∙ y))
  some-of left a b (inr e) x (inr y) = inr (ap (λ (k : ℕ). let s : Option ℕ = Some k in s) (e ∙ y))

  -- while a number is written and synced
  at-front : (early late : List CellAct) (left : ℕ) → Write new ∷ Sync ∷ [] ≡ early ++ late → cells.may_leave (did cells early disk) left ≡ true → Either left
  at-front [] late left is may = some-of left disk.durable disk.read (one-of-both left disk may) (inl h.durable) (inl h.read)
  at-front (x ∷ []) late left is may =
      let first : x ≡ Write new = cc in
      let now : cells.may_leave (record { durable = disk.durable; read = new }) left ≡ true = subst (λ (y : CellAct). cells.may_leave (cells.does y disk) left ≡ true) first may in
      some-of left disk.durable new (one-of-both left (record { durable = disk.durable; read = new }) now) (inl h.durable) (inr refl)
  at-front (x ∷ y ∷ []) late left is may =
      let first : x ≡ Write new = cc in
      let second : y ≡ Sync = cc in
      let one = subst (λ (z : CellAct). cells.may_leave (cells.does y (cells.does z disk)) left ≡ true) first may in
      let two : cells.may_leave (record { durable = new; read = new }) left ≡ true = subst (λ (z : CellAct). cells.may_leave (cells.does z (record { durable = disk.durable; read = new })) left ≡ true) second one in
      some-of left new new (one-of-both left (record { durable = new; read = new }) two) (inr refl) (inr refl)
  at-front (x ∷ y ∷ z ∷ early) late left is may = cc

  same-front : (early late : List CellAct) (left : ℕ) → [] ≡ early ++ late → cells.may_leave (did cells early disk) left ≡ true → Either left
  same-front [] late left is may = some-of left disk.durable disk.read (one-of-both left disk may) (inl h.durable) (inl h.read)
  same-front (x ∷ early) late left is may = cc

  no-front : (early late : List CellAct) (a : CellAct) → [] ≡ early ++ a ∷ late → ⊥
  no-front [] late a is = cc
  no-front (x ∷ early) late a is = cc

  still-durable : (early late : List CellAct) (a : CellAct) → Write new ∷ Sync ∷ [] ≡ early ++ a ∷ late → (did cells early disk).durable ≡ disk.durable
  still-durable [] late a is = refl
  still-durable (x ∷ []) late a is = let first : x ≡ Write new = cc in rw first refl
  still-durable (x ∷ y ∷ []) late a is = cc
  still-durable (x ∷ y ∷ z ∷ early) late a is = cc

  old-told : (early late : List CellAct) (a : CellAct) → Write new ∷ Sync ∷ [] ≡ early ++ a ∷ late → cells.is_held (did cells early disk) old ≡ true
  old-told early late a is = eq-eqb old (did cells early disk).durable (sym h.durable ∙ sym (still-durable early late a is))

  new-told : new ≢ disk.read → (early late : List CellAct) (a : CellAct) → Write new ∷ Sync ∷ [] ≡ early ++ a ∷ late → cells.is_held (did cells early disk) new ≡ false
  new-told ne early late a is = ne_eqb new (did cells early disk).durable (λ same. ne (same ∙ (still-durable early late a is ∙ (h.durable ∙ sym h.read))))

  pub cell-saves : Saves cells CellHolds n old new disk
  cell-saves = elim (eqb_tells new disk.read) [
    | inl t ↦ record {
      each = rw (t.0) same-front;
      done = rw (t.0) (record { durable = h.durable ∙ (sym h.read ∙ sym (t.1)); read = sym (t.1) });
      nothing = λ none. sym h.read ∙ sym (t.1);
      tells_old = rw (t.0) (λ early late a is. absurd (no-front early late a is));
      tells_new = rw (t.0) (λ early late a is. absurd (no-front early late a is));
    }
    | inr t ↦ record {
      each = rw (t.0) at-front;
      done = rw (t.0) (record { durable = refl; read = refl });
      nothing = rw (t.0) (λ none. cc);
      tells_old = rw (t.0) (λ early late a is. old-told early late a is);
      tells_new = rw (t.0) (λ early late a is. new-told t.1 early late a is);
    }
  ]

abbrev pub cell_laws : DiskLaws cells CellCanSave
cell_laws = record {
  Holds = CellHolds;
  rests = λ n k disk left h may. elim (one-of-both left disk may) [
    | inl e ↦ ap (λ (x : ℕ). let s : Option ℕ = Some x in s) (e ∙ h.durable)
    | inr e ↦ ap (λ (x : ℕ). let s : Option ℕ = Some x in s) (e ∙ h.read)
  ];
  saves = λ n old new disk h can. cell-saves n old new disk h;
  reopens = λ n k left e. (let same : left ≡ k = cc in record { durable = same; read = same });
}
