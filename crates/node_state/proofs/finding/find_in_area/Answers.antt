use Rattle.std.proofs.Common.{◌≡◌, ◌≤◌, ◌<◌, IfSome, arith, length, rules, subst, take, vec_len, ◌∙◌}
use Rattle.disk.specs.Areas.{area_at}
use Rattle.node_state.proofs.Needs.{found_decided, found_whole, need_twice, need_whole}
use Rattle.node_state.proofs.finding.find_in_area.Goals as goal

-- the area ended
pub returns-then-len-most-clause-found : goal.returns-then-len-most-clause-found
returns-then-len-most-clause-found g c =
    let bytes = c.read_on.new.bytes in
    let size : c.len-then-len-most.result ≡ length bytes.items = omega (arith, bytes.ok.0, c.len-then-len-most.ensures) in
    let less : length bytes.items < c.loop-bytes.most = omega (arith, bytes.ok.0, c.len.ensures, c.if-len-most.true) in
    found_whole g.C.Commands.stack g.C.Wire.format c.args.who.now (g.D.Device.told c.args.device.now) c.args.area c.loop-bytes.most _ bytes.items _ c.in_ok-found.found
    size less (rw c.loop-bytes.invariant.told at c.in_ok-read_on.ensures.front) c.deref.ensures.value c.in_ok-found.ensures.found

pub returns-then-len-most-clause-need : goal.returns-then-len-most-clause-need
returns-then-len-most-clause-need g c =
    let few : c.len-then-len-most.result ≤ c.loop-bytes.most = omega (arith, c.len-then-len-most.ensures, c.in_ok-read_on.ensures.len) in
    need_whole g.C.Commands.stack g.C.Wire.format c.args.who.now (g.D.Device.told c.args.device.now) c.args.area c.loop-bytes.most _ few c.loop-bytes.invariant.need

-- the front decides
pub returns-in-Some-clause-found : goal.returns-in-Some-clause-found
returns-in-Some-clause-found g c =
    let bytes = c.read_on.new.bytes in
    let size : c.len-in-Some.result ≡ length bytes.items = omega (arith, bytes.ok.0, c.len-in-Some.ensures) in
    let full : length bytes.items ≡ c.loop-bytes.most = omega (arith, bytes.ok.0, c.len.ensures, c.if-len-most.false, c.in_ok-read_on.ensures.len) in
    found_decided g.C.Commands.stack g.C.Wire.format g.met.C.Wire.is_format c.args.who.now (g.D.Device.told c.args.device.now) c.args.area c.loop-bytes.most _
    bytes.items _ c.in-Some.found _ size full (rw c.loop-bytes.invariant.told at c.in_ok-read_on.ensures.front) c.deref-in-loop-bytes.ensures.value c.in_ok-found-2.ensures.found c.in-Some.is

pub returns-in-Some-clause-need : goal.returns-in-Some-clause-need
returns-in-Some-clause-need g c =
    let few : c.len-in-Some.result ≤ c.loop-bytes.most = omega (arith, c.len-in-Some.ensures, c.in_ok-read_on.ensures.len) in
    need_whole g.C.Commands.stack g.C.Wire.format c.args.who.now (g.D.Device.told c.args.device.now) c.args.area c.loop-bytes.most _ few c.loop-bytes.invariant.need

-- or does not
pub loop-bytes-preserved : goal.loop-bytes-preserved
loop-bytes-preserved g c =
    let bytes = c.read_on.new.bytes in
    let read = rw c.loop-bytes.invariant.told at c.in_ok-read_on.ensures.front in
    let full : c.loop-bytes.most ≡ vec_len bytes = omega (arith, c.len.ensures, c.if-len-most.false, c.in_ok-read_on.ensures.len) in
    record {
      told = c.in_ok-read_on.ensures.same ∙ c.loop-bytes.invariant.told;
      front = subst (λ n. IfSome (g.D.Device.told c.args.device.now) (λ told. bytes.items ≡ take n (area_at told.disk c.args.area).bytes)) full read;
      len = omega (arith, full);
      some = omega (arith, c.loop-bytes.invariant.some);
      need = need_twice g.C.Commands.stack g.C.Wire.format g.met.C.Wire.is_format c.args.who.now (g.D.Device.told c.args.device.now) c.args.area c.loop-bytes.most
          bytes.items _ _ read c.deref-in-loop-bytes.ensures.value c.in_ok-found-2.ensures.found c.in_default.is;
      begun = search rules;
      counts = search rules;
      wants = search rules;
    }
