use Rattle.cert_merge.proofs.ProvedWorths.{before_is}
use Rattle.cert_merge.proofs.proved_keys.is_earlier.Goals as goal

pub returns : goal.returns
returns c = before_is c.args.row.now.key c.args.key.now c.is_before.result c.is_before.ensures
