use Rattle.svr_fakes.specs.Disks.{view_of}
use Rattle.svr_pages.specs.Asked.{IsReady}
use Rattle.svr_tests_search.proofs.over_pages.reads.are_searched.Given as goal

abbrev pub invariant-loop-k : goal.invariant-loop-k
invariant-loop-k l = IsReady l.reader.reach (view_of l.reader.disk) l.reader.pages
