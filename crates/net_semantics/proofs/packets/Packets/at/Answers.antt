use Rattle.net_semantics.proofs.Keeping.{sent_there, shown_parcel}
use Rattle.net_semantics.proofs.packets.Packets.at.Goals as goal

pub index-requires : goal.index-requires
index-requires g c =
    let i = c.self.inside in
    let s = c.index-sent.result.now in
    let found = sent_there i.contents i.items.items c.args.k s (rw c.self.view_is c.requires) c.index-sent.ensures in
    c.self.invariant.there c.args.k s found.0 found.1

pub returns : goal.returns
returns g c =
    let i = c.self.inside in
    let s = c.index-sent.result.now in
    let found = sent_there i.contents i.items.items c.args.k s (rw c.self.view_is c.requires) c.index-sent.ensures in
    shown_parcel i.contents c.args.self.now i.items.items c.args.k c.self.view_is s c.index.result.now found.0 found.1 c.index.ensures
