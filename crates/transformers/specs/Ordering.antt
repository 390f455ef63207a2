-- Numbers by destination, from a network that keeps the order between two nodes to one that copies and reorders packets.
use Rattle.fifo_xform.specs.Fifo.{FifoState, fifo}
use Rattle.fifo_xform.specs.Image.{fifo_image}
use Rattle.vst_base.specs.declared.net.Net.TheVariants as net
use Rattle.vst_base.specs.declared.seq.SeqMsg.{SeqMsg}
use Rattle.transformers.specs.Transformers.{Transformer}

abbrev pub ordering : Transformer
ordering = record {
  lower = net.Ord;
  upper = net.Dup;
  State = FifoState;
  Msg = SeqMsg;
  transforms = λ m. fifo m;
  within = λ m ss. fifo_image m ss;
}
