use Rattle.svr_catalog.proofs.Standing.{stands-new}
use Rattle.svr_catalog.proofs.catalog.Catalog.new.Goals as goal

pub returns-clause-stands : goal.returns-clause-stands
returns-clause-stands c =
    stands-new c.args.schema c.in_ok-contents.contents.tables c.in_ok-contents.contents.lists c.in_ok-contents.ensures.tables
    c.in_ok-contents.ensures.stands
