use Rattle.std.proofs.Common.{◌≡◌, refl, arith, rules}
use Rattle.svr_edge.specs.Disk.{DiskView}
use Rattle.svr_fakes.specs.Flips.{flip_view}
use Rattle.svr_pages.proofs.Grown.{ready-grown}
use Rattle.svr_tests_search.proofs.over_pages.shelf.reach_end.Goals as goal

pub returns-in-Ok : goal.returns-in-Ok
returns-in-Ok c =
    let disk : DiskView = flip_view c.end_of.new.reader.disk in
    let ready = c.end_of.ensures.ready in
    let end : c.in-Ok.end ≡ disk.size = search rules in
    ready-grown c.end_of.new.reader.reach c.in-Ok.end disk disk c.end_of.new.reader.pages ready
    (omega (arith, ready.within, end)) (omega (arith, end)) refl
