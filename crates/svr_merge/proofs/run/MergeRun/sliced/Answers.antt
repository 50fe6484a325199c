use Rattle.std.proofs.Common.{rules, ◌≡◌, true}
use Rattle.svr_listing.specs.Merges.{is_after}
use Rattle.svr_merge.specs.Runs.{PutsPages}
use Rattle.svr_merge.proofs.Slicing.{no_later-put}
use Rattle.svr_merge.proofs.run.MergeRun.sliced.Goals as goal

pub invariant_of-self-2 : goal.invariant_of-self-2
invariant_of-self-2 c =
    let after : is_after c.self.inside.last c.in_ok-last.last ≡ true = search rules in
    let puts : PutsPages c.self.inside.lists c.put_pages.new.lists c.in_ok-last.last c.args.pages.items = search rules in (
      c.self.invariant.0,
      no_later-put c.self.inside.last c.in_ok-last.last c.self.inside.lists c.put_pages.new.lists c.args.pages.items c.self.invariant.1 after puts,
    )
