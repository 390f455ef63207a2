-- Sequence numbers, from a bag to a network that copies packets.
use Rattle.net_semantics.specs.Once.{once}
use Rattle.seqnum_xform.specs.Numbering.{Numbered, sequence_numbered}
use Rattle.vst_base.specs.declared.net.Net.TheVariants as net
use Rattle.vst_base.specs.declared.seq.SeqMsg.{SeqMsg}
use Rattle.transformers.specs.Transformers.{Transformer}

abbrev pub numbering : Transformer
numbering = record {
  lower = net.Bag;
  upper = net.Dup;
  State = λ S M. Numbered S;
  Msg = SeqMsg;
  transforms = λ m. sequence_numbered m;
  within = λ m ss. once ss;
}
