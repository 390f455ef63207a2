use Rattle.node_state.proofs.Stopping.{on_err, on_fault}
use Rattle.node_state.proofs.Openings.{areas_did, areas_opened, areas_refused, areas_stopped, names_read}
use Rattle.node_state.proofs.opening.open_areas.Goals as goal

pub returns-in-len1-clause-did : goal.returns-in-len1-clause-did
returns-in-len1-clause-did g c =
    let names = names_read (g.D.Device.told c.sync_all.new.device) c.in_ok-selector.selector.items c.as_slice.result.now c.as_slice.ensures.value c.in-len1.len_at_least c.in-len1.len_below c.in_ok-selector.ensures.front in
    areas_did g.C.Commands.stack g.C.Wire.format c.args.who.now _ (g.D.Device.told c.args.device.now) (g.D.Device.told c.sync_all.new.device) _ c.in_ok-sync_all.ensures.did names
    (rw c.in_ok-selector.ensures.same at c.in_ok-store-in-len1.ensures.did)

pub returns-in-len1-clause-opened : goal.returns-in-len1-clause-opened
returns-in-len1-clause-opened g c =
    let names = names_read (g.D.Device.told c.sync_all.new.device) c.in_ok-selector.selector.items c.as_slice.result.now c.as_slice.ensures.value c.in-len1.len_at_least c.in-len1.len_below c.in_ok-selector.ensures.front in
    areas_opened g.C.Commands.stack g.C.Wire.format c.args.who.now _ (g.D.Device.told c.args.device.now) (g.D.Device.told c.sync_all.new.device) _ _ c.in_ok-sync_all.ensures.did names
    (rw c.in_ok-selector.ensures.same at c.in_ok-store-in-len1.ensures.found)

pub returns-in_err-store-in-len1-clause-stopped : goal.returns-in_err-store-in-len1-clause-stopped
returns-in_err-store-in-len1-clause-stopped g c =
    let names = names_read (g.D.Device.told c.sync_all.new.device) c.in_ok-selector.selector.items c.as_slice.result.now c.as_slice.ensures.value c.in-len1.len_at_least c.in-len1.len_below c.in_ok-selector.ensures.front in
    on_err _ _
    (areas_stopped g.C.Commands.stack g.C.Wire.format c.args.who.now _ (g.D.Device.told c.args.device.now) (g.D.Device.told c.sync_all.new.device) _ c.in_ok-sync_all.ensures.did names
    (rw c.in_ok-selector.ensures.same at c.in_err-store-in-len1.ensures.stopped))

pub returns-in_err-store-in-len1-clause-refused : goal.returns-in_err-store-in-len1-clause-refused
returns-in_err-store-in-len1-clause-refused g c =
    let names = names_read (g.D.Device.told c.sync_all.new.device) c.in_ok-selector.selector.items c.as_slice.result.now c.as_slice.ensures.value c.in-len1.len_at_least c.in-len1.len_below c.in_ok-selector.ensures.front in
    on_fault _ c.in_err-store-in-len1.field-0.0 _ c.from_residual-in_err-store-in-len1.ensures.1
    (areas_refused g.C.Commands.stack g.C.Wire.format c.args.who.now _ (g.D.Device.told c.args.device.now) (g.D.Device.told c.sync_all.new.device) _ c.in_err-store-in-len1.field-0.0
    c.in_ok-sync_all.ensures.did names (rw c.in_ok-selector.ensures.same at c.in_err-store-in-len1.ensures.refused))
