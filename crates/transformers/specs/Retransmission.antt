-- Acknowledgements, from a network that loses nothing to one that loses packets.
use Rattle.retry_xform.specs.Image.{retried_image}
use Rattle.retry_xform.specs.Keeping.{Retrying}
use Rattle.retry_xform.specs.Retransmission.{retrying}
use Rattle.vst_base.specs.declared.retry.RetryMsg.{RetryMsg}
use Rattle.vst_base.specs.declared.net.Net.TheVariants as net
use Rattle.transformers.specs.Transformers.{Transformer}

abbrev pub retransmission : Transformer
retransmission = record {
  lower = net.Dup;
  upper = net.Loss;
  State = Retrying;
  Msg = RetryMsg;
  transforms = λ m. retrying m;
  within = λ m ss. retried_image m ss;
}
