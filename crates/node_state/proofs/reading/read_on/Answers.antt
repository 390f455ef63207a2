use Rattle.std.proofs.Common.{◌≡◌, ◌+◌, ◌≤◌, length, vec_len, ◌∙◌, arith, rules}
use Rattle.std.proofs.lemmas.Grind.{common_steps}
use Rattle.node_state.proofs.Fronts.{more}
use Rattle.node_state.proofs.reading.read_on.Goals as goal

pub loop-buf-preserved : goal.loop-buf-preserved
loop-buf-preserved g c =
    let o = c.in-Got.ensures.outcome in
    let some : c.in-Got.n ≤ length c.read_at.new.buf = grind (arith, common_steps) in
    let len : vec_len c.extend_from_slice.new.self ≡ vec_len c.loop-buf.bytes + c.in-Got.n = grind (arith, common_steps) in
    record {
      told = o.1 ∙ c.loop-buf.invariant.told;
      front = more (g.D.Device.told c.args.device.now) c.args.area c.loop-buf.bytes.items c.read_at.new.buf _ c.extend_from_slice.new.self.items _ (vec_len c.loop-buf.bytes) c.in-Got.n
          (vec_len c.extend_from_slice.new.self) c.len-at.result some c.len-at.ensures len c.in_ok-extend_from_slice-in-Got.ensures.items c.loop-buf.invariant.front
          (rw c.loop-buf.invariant.told at o.2);
      most = grind (arith, common_steps);
      begun = search rules;
      counts = search rules;
      wants = search rules;
    }
