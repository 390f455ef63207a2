-- Where one transformer stands on the network that another carries handlers to, the one over the other carries them on.
use Rattle.std.proofs.Common.{◌≡◌, ◌∙◌, subst}
use Rattle.net_semantics.specs.Runs.{IsAllowed, no_recovery}
use Rattle.vst_base.specs.declared.net.Net.{Net}
use Rattle.transformers.specs.Transformers.{Carries, IsCarried, Transformer, over}

pub composed : (S I O M : Type 0) (t u : Transformer) → t.lower ≡ u.upper → Carries u S I O M → Carries t (u.State S M) I O (u.Msg M) → Carries (over t u) S I O M
composed S I O M t u same below above m ss allowed =
    let first : IsCarried t (u.transforms m) ss = above (u.transforms m) ss allowed in
    let on : IsAllowed u.upper (u.transforms m) (no_recovery {S = u.State S M}) (t.within (u.transforms m) ss) =
    subst (λ (n : Net). IsAllowed n (u.transforms m) (no_recovery {S = u.State S M}) (t.within (u.transforms m) ss)) same first.allowed in
    let second : IsCarried u m (t.within (u.transforms m) ss) = below m (t.within (u.transforms m) ss) on in
    record { allowed = second.allowed; trace = first.trace ∙ second.trace }
