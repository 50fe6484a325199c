use Rattle.std.proofs.Common.{IfOk, subst}
use Rattle.std.specs.Option.{ForSome}
use Rattle.std.proofs.lemmas.Result.{IfOk-weaker}
use Rattle.svr_catalog.specs.Merging.{IsSliceExactly}
use Rattle.svr_catalog.proofs.Merging.{slice-exactly}
use Rattle.svr_catalog.proofs.catalog.Catalog.slice.Goals as goal

pub returns-clause-exact : goal.returns-clause-exact
returns-clause-exact g c =
    let told = g.R.PageReader.told c.args.reader.now in
    subst (λ v. IfOk c.slice.result (λ slice. ForSome told (λ bytes. IsSliceExactly v c.args.most bytes slice))) c.self.view_is
    (IfOk-weaker c.slice.result _ _ (λ slice is bytes tells. slice-exactly _ c.args.most bytes slice (is bytes tells)) c.slice.ensures.slice)
