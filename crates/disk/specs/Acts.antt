-- What a device has done, act by act.
use Rattle.std.specs.Prelude.{ℕ, List}
use Rattle.outside.specs.declared.device.Address.{Address}

-- a call on an area
pub data StoreCall : Type 0 where
  ReadAt : (area at room : ℕ) → StoreCall
  WriteAt : (area at : ℕ) → (bytes : List ℕ) → StoreCall
  CutTo : (area len : ℕ) → StoreCall
  Sync : (area : ℕ) → StoreCall

pub data Act : Type 0 where
  Began : (at : Address) → (dir : List ℕ) → Act
  BeginFailed : (at : Address) → (dir : List ℕ) → Act
  Now : (ms : ℕ) → Act
  Took : (wait : ℕ) → (from : Address) → (bytes : List ℕ) → Act
  Quiet : (wait : ℕ) → Act
  ReceiveFailed : (wait : ℕ) → Act
  Sent : (to : Address) → (bytes : List ℕ) → Act
  SendFailed : (to : Address) → (bytes : List ℕ) → Act
  Wrote : (area at : ℕ) → (bytes : List ℕ) → Act
  Cut : (area len : ℕ) → Act
  Synced : (area : ℕ) → Act
  StoreFailed : (call : StoreCall) → Act
