use Rattle.std.specs.Int.{to_be_bytes, w64}
use Rattle.svr_postpage.proofs.Writing.{two_written}
use Rattle.svr_postpage.proofs.codec.put_pair.Goals as goal

pub returns : goal.returns
returns c =
    two_written c.args.at c.args.into.now c.put_u64.new.into c.put_u64-2.new.into (to_be_bytes w64 c.args.pair.now.key)
    (to_be_bytes w64 c.args.pair.now.id) c.put_u64.ensures.number c.put_u64.ensures.before c.put_u64.ensures.after
    c.put_u64-2.ensures.number c.put_u64-2.ensures.before c.put_u64-2.ensures.after
