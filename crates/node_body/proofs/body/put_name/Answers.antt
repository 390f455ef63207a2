use Rattle.node_body.proofs.Wholes.{all_bytes, where_ok}
use Rattle.node_body.proofs.body.put_name.Goals as goal

pub returns-clause-fits : goal.returns-clause-fits
returns-clause-fits c = where_ok c.extend_from_slice.result (c.told-name, all_bytes c.args.name.now c.fits-name)
