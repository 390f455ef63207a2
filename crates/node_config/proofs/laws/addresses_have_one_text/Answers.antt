use Rattle.node_config.proofs.Spelling.{address-parts, address-read}
use Rattle.node_config.proofs.laws.addresses_have_one_text.Goals as goal

pub returns : goal.returns
returns c = record {
  reads_back = address-read;
  one_text = λ text a e. let parts = address-parts text a e in (parts.has_text, parts.text_is);
}
