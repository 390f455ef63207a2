-- The text of a header, computed through its digits.
use Rattle.std.specs.Prelude.{refl}
use Rattle.std.specs.Fmt.{digits}
use Rattle.schedule_text.proofs.examples.worked_headers.Goals as goal

pub returns-clause-text : goal.returns-clause-text
unfolding digits
returns-clause-text c = refl

pub returns-clause-numbered_text : goal.returns-clause-numbered_text
unfolding digits
returns-clause-numbered_text c = refl

pub returns-clause-cluster_text : goal.returns-clause-cluster_text
unfolding digits
returns-clause-cluster_text c = refl

pub returns-clause-mirror_text : goal.returns-clause-mirror_text
unfolding digits
returns-clause-mirror_text c = refl

pub returns-clause-fifo_text : goal.returns-clause-fifo_text
unfolding digits
returns-clause-fifo_text c = refl

pub returns-clause-retried_text : goal.returns-clause-retried_text
unfolding digits
returns-clause-retried_text c = refl

pub returns-clause-reading_text : goal.returns-clause-reading_text
unfolding digits
returns-clause-reading_text c = refl
