use Rattle.svr_postpage.proofs.ByLayout.{pair_in-read}
use Rattle.svr_postpage.proofs.codec.get_pair.Goals as goal

pub returns : goal.returns
returns c = pair_in-read c.args.at c.args.bytes.now c.get_u64.result c.get_u64-2.result c.get_u64.ensures c.get_u64-2.ensures
