use Rattle.act_network.proofs.Wording.{words_may_be_left}
use Rattle.act_network.proofs.laws.words_may_be_left.Goals as goal

pub returns : goal.returns
returns g c = words_may_be_left _ _ _ _ g.D.SavesStates.disks g.D.LeavesByWord.by_word g.D.LeavesByWord.is_such
