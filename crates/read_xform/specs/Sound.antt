-- What the state of a node with reads keeps to.
use Rattle.std.specs.Prelude.{◌≡◌, ℕ, Bool, ◌<◌, ◌≤◌, List, [], ◌∷◌, length, IsTrue}
use Rattle.lists.specs.Each.{Each}
use Rattle.raft_xform.specs.Sound.{IsSoundNode}
use Rattle.raft_reads.specs.Reads.{ReadView, Reads, Waiting}

module _ {C : Type 0} where
  -- of two reads the first came earlier: its round is less, and its read index no greater
  pub record IsBefore (x y : Waiting C) : Type 0 where
    pub round : x.round < y.round
    pub read_index : x.read_index ≤ y.read_index

  -- reads in the order in which they came
  abbrev pub AreInOrder : List (Waiting C) → Type 0
  AreInOrder [] = Unit {0}
  AreInOrder (x ∷ xs) = Each (IsBefore x) xs × AreInOrder xs

  -- it reads, and came in this round or before it, when no more than this was committed
  pub record IsKept (is_read : C → Bool) (round commit : ℕ) (x : Waiting C) : Type 0 where
    pub reads : IsTrue (is_read x.input.cmd)
    pub began : x.round ≤ round
    pub read_index : x.read_index ≤ commit

  -- what a node of so many nodes and with this commit knows of reads: no more of them wait than rounds began
  pub record AreSoundReads (is_read : C → Bool) (nodes commit : ℕ) (r : Reads C) : Type 0 where
    pub acked : length r.acked ≡ nodes
    pub kept : Each (IsKept is_read r.round commit) r.waiting
    pub in_order : AreInOrder r.waiting
    pub few : length r.waiting ≤ r.round

-- the node of this number, of so many nodes
pub record IsSoundReader {S C O : Type 0} (is_read : C → Bool) (nodes me : ℕ) (s : ReadView S C O) : Type 0 where
  pub raft : IsSoundNode nodes me s.raft
  pub reads : AreSoundReads is_read nodes s.raft.commit s.reads
