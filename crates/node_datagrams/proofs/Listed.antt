-- What is sent and replied, as one list for each packet and each output.
use Rattle.std.proofs.Common.{◌≡◌, ℕ, List, [], ◌∷◌, ◌++◌, refl, ap}
use Rattle.std.specs.List.{flat_map}
use Rattle.outside.specs.declared.device.Address.{Address}
use Rattle.raft_types.specs.declared.client.RaftOut.{RaftOut}
use Rattle.raft_types.specs.declared.msg.RaftMsg.{RaftMsg}
use Rattle.wire_fields.specs.Formats.{Format}
use Rattle.node_run.specs.Events.{packet_to, replied, reply_of, reply_to, sent}
use Rattle.node_run.specs.Settings.{Settings}

abbrev pub told_by : {O : Type 0} → Settings → Format O → RaftOut O → List (Address × List ℕ)
told_by settings f o = reply_to settings f (reply_of o)

pub sent_each : {C : Type 0} (settings : Settings) (f : Format C) (sends : List (ℕ × RaftMsg C)) → sent settings f sends ≡ flat_map (packet_to settings f) sends
sent_each settings f [] = refl
sent_each settings f (p ∷ sends) = ap (λ more. packet_to settings f p ++ more) (sent_each settings f sends)

pub replied_each : {O : Type 0} (settings : Settings) (f : Format O) (outputs : List (RaftOut O)) → replied settings f outputs ≡ flat_map (told_by settings f) outputs
replied_each settings f [] = refl
replied_each settings f (o ∷ outputs) = ap (λ more. told_by settings f o ++ more) (replied_each settings f outputs)
