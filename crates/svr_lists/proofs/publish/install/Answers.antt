use Rattle.svr_lists.proofs.Publishing.{installs-run}
use Rattle.svr_lists.proofs.publish.install.Goals as goal

pub returns : goal.returns
returns g c =
    installs-run c.install.new.self c.args.run c.args.documents.now c.finish-lists.result.1 c.in_ok-keys.keys c.finish-lists.result.0
    c.install.ensures.installs c.install.ensures.entries c.finish-lists.ensures.method c.finish-lists.ensures.lists c.in_ok-keys.ensures
