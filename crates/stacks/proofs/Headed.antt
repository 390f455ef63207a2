-- An image that is headed as a schedule of a stack names as many nodes as the stack may have.
use Rattle.std.specs.Prelude.{◌≤◌, Option, Some, None}
use Rattle.std.proofs.Common.{subst}
use Rattle.check_text.specs.ImageLines.{IsHeaded}
use Rattle.schedule_text.specs.Headers.{IsBy, IsHeader}
use Rattle.schedule_text.specs.declared.header.Header.{Header}
use Rattle.vst_base.specs.Stacks.{row_of}
use Rattle.vst_base.specs.declared.stack.StackId.{StackId}
use Rattle.stacks.specs.Kinds.{nodes_of}

pub within-row : (own_row : (h : Header) → IsHeader h → IsBy (row_of h.stack) h) (i : StackId) (o : Option Header) → IsHeaded (Some i) o
    → ((row_of i).least ≤ nodes_of o) × (nodes_of o ≤ (row_of i).most)
within-row own_row i None is = absurd is
within-row own_row i (Some g) is =
    let own = own_row g is.0 in
    (subst (λ (x : StackId). (row_of x).least ≤ g.nodes) is.1 own.least, subst (λ (x : StackId). g.nodes ≤ (row_of x).most) is.1 own.most)
