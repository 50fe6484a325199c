use Rattle.std.proofs.Common.{Err, ap, ◌∙◌}
use Rattle.std.proofs.lemmas.Result.{err_from_is_err_and}
use Rattle.svr_serve.proofs.Opened.{stops_by}
use Rattle.svr_serve.proofs.session.Session.open.Goals as goal

pub returns-in_err-open_store-clause-opens : goal.returns-in_err-open_store-clause-opens
returns-in_err-open_store-clause-opens g c =
    let p = err_from_is_err_and c.from_residual-in_err-open_store.result c.from_residual-in_err-open_store.ensures.1 in
    let o = c.open_store.ensures in
    let was = c.in_err-open_store.was in
    rw (p.1, p.2) (stops_by c.in_err-open_store.field-0.0 _ _ (g.met.D.Disk.laws c.args.disk.now) o.stays
    (λ at bytes is reads. o.fault at bytes (was ∙ ap Err is) reads) (λ is. o.causes.device (was ∙ ap Err is)))
