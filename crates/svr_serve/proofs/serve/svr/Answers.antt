use Rattle.std.proofs.Common.{inl}
use Rattle.svr_serve.proofs.Endings.{ends_by, unread_by}
use Rattle.svr_serve.proofs.serve.svr.Goals as goal

pub returns-in-Ok-clause-ends : goal.returns-in-Ok-clause-ends
returns-in-Ok-clause-ends g c =
    let end = c.finish.ensures in
    let s = c.serve-ending.ensures in
    ends_by c.finish.result c.serve-ending.result _ _ _ _ _ _ _ end.line.0 end.status end.line.2 end.line.1 s.because _ _
    c.in-Ok.ensures.asked s.ends

pub returns-in-Err-clause-ends : goal.returns-in-Err-clause-ends
returns-in-Err-clause-ends g c =
    let end = c.finish-in-Err.ensures in
    inl (unread_by _ _ _ _ _ _ end.line.0 end.line.2 c.finish-in-Err.result _ end.status end.line.1 c.in-Err.ensures.stop)
