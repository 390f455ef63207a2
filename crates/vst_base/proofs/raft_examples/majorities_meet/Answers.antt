use Rattle.vst_base.proofs.Majorities.{majorities_meet}
use Rattle.vst_base.proofs.raft_examples.majorities_meet.Goals as goal

pub returns : goal.returns
returns c = majorities_meet
