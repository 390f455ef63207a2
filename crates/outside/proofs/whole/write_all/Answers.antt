use Rattle.std.proofs.Common.{refl, [], ◌++◌, take, drop, ap, ◌∙◌, sym, append_assoc, take-append-drop}
use Rattle.outside.proofs.Wholes.{gained-more, gained-nothing, gained-front}
use Rattle.outside.proofs.whole.write_all.Goals as goal

pub loop-rest-init : goal.loop-rest-init
loop-rest-init g c = record {
  written = ([], refl, gained-nothing _);
  front = gained-front _ _ [] c.args.bytes.now _ refl (gained-nothing _);
  faults = refl;
  wants = refl;
}

pub loop-rest-preserved : goal.loop-rest-preserved
loop-rest-preserved g c =
    let so_far = c.loop-rest.invariant.written in
    let n = c.in-Took.n in
    let rest = c.loop-rest.rest.now in
    let whole = so_far.1 ∙ (ap (λ xs. so_far.0 ++ xs) (sym (take-append-drop n rest)) ∙ (sym (append_assoc so_far.0 (take n rest) (drop n rest)) ∙ rw c.split_at.ensures.back refl)) in
    let gained = gained-more _ _ _ so_far.0 (take n rest) so_far.2 c.in-Took.ensures.written.0 in
    record {
      written = (so_far.0 ++ take n rest, whole, gained);
      front = gained-front _ _ (so_far.0 ++ take n rest) _ _ whole gained;
      faults = c.in-Took.ensures.causes.0 ∙ c.loop-rest.invariant.faults;
      wants = c.in-Took.ensures.causes.1 ∙ c.loop-rest.invariant.wants;
    }
