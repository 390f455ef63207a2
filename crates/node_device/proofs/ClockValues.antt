-- How many clock values are among acts.
use Rattle.std.proofs.Common.{◌≡◌, ◌+◌, List, [], ◌∷◌, ◌++◌, arith}
use Rattle.disk.specs.Acts.{Act, Began, BeginFailed, Now, Took, Quiet, ReceiveFailed, Sent, SendFailed, Wrote, Cut, Synced, StoreFailed}
use Rattle.node_device.specs.Telling.{nows_in}

pub nows_append : (xs ys : List Act) → nows_in (xs ++ ys) ≡ nows_in xs + nows_in ys
nows_append [] ys = omega arith
nows_append (Now ms ∷ xs) ys = let e = nows_append xs ys in omega arith
nows_append (Began at dir ∷ xs) ys = nows_append xs ys
nows_append (BeginFailed at dir ∷ xs) ys = nows_append xs ys
nows_append (Took wait from bytes ∷ xs) ys = nows_append xs ys
nows_append (Quiet wait ∷ xs) ys = nows_append xs ys
nows_append (ReceiveFailed wait ∷ xs) ys = nows_append xs ys
nows_append (Sent to bytes ∷ xs) ys = nows_append xs ys
nows_append (SendFailed to bytes ∷ xs) ys = nows_append xs ys
nows_append (Wrote area at bytes ∷ xs) ys = nows_append xs ys
nows_append (Cut area len ∷ xs) ys = nows_append xs ys
nows_append (Synced area ∷ xs) ys = nows_append xs ys
nows_append (StoreFailed call ∷ xs) ys = nows_append xs ys
