use Rattle.std.proofs.Common.{rules, ◌≡◌, sym, subst}
use Rattle.svr_merge.specs.Images.{MayFillPages, pairs_by}
use Rattle.svr_merge.specs.Runs.{Run}
use Rattle.svr_merge.proofs.Imaged.{may_fill}
use Rattle.svr_merge.proofs.run.MergeRun.images.Goals as goal

pub write_pages-requires : goal.write_pages-requires
write_pages-requires c =
    let is : c.as_slice.result.now ≡ pairs_by c.self.inside.keys c.args.ids.now = search rules in
    subst MayFillPages (sym is) (may_fill c.self.inside.keys c.args.ids.now c.self.invariant.0 c.requires)

pub returns-clause-ordered : goal.returns-clause-ordered
returns-clause-ordered c =
    let may : MayFillPages (pairs_by c.args.self.now.keys c.args.ids.now) =
    subst (λ (r : Run). MayFillPages (pairs_by r.keys c.args.ids.now)) c.self.view_is
    (may_fill c.self.inside.keys c.args.ids.now c.self.invariant.0 c.requires) in
    search rules
