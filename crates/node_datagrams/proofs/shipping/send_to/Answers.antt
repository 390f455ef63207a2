use Rattle.node_datagrams.proofs.Sayings.{counts_send, says_it}
use Rattle.node_datagrams.proofs.shipping.send_to.Goals as goal

pub returns-in-Sent : goal.returns-in-Sent
returns-in-Sent g c = record {
  said = says_it _ _ _ _ c.send.result c.in-Sent.is c.send.ensures.outcome;
  nothing = tt;
  counts = counts_send _ _ c.send.result c.send.ensures.causes c.send.ensures.counts;
  begun = c.send.ensures.begun;
}
