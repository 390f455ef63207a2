-- What handlers that are carried on bytes alone owe to the handlers within.
use Rattle.std.specs.Prelude.{◌≡◌, ℕ, length}
use Rattle.handler_trait.specs.Handling.{Meaning}
use Rattle.net_semantics.specs.Worlds.{World, copies, ends}

-- handlers have the nodes of others, and their worlds tell of nodes and packets what the worlds tell that they stand for
pub record TellsTheSame {S K M S2 K2 M2 I O : Type 0} (m2 : Meaning S2 I O M2) (m : Meaning S I O M)
    (stands_for : World S K M → World S2 K2 M2) : Type 0 where
  pub nodes : m2.nodes ≡ m.nodes
  pub takes_input : (n : ℕ) → m2.takes_input n ≡ m.takes_input n
  pub is_up : (w : World S K M) (n : ℕ) → (stands_for w).is_up n ≡ w.is_up n
  pub sent : (w : World S K M) → length (stands_for w).packets ≡ length w.packets
  pub copies : (w : World S K M) (k : ℕ) → copies (stands_for w) k ≡ copies w k
  pub ends : (w : World S K M) (k : ℕ) → ends (stands_for w) k ≡ ends w k
