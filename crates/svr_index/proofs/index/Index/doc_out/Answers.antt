use Rattle.std.proofs.Common.{refl, sym, subst}
use Rattle.svr_index.specs.Index.{Indexed, StandsFor}
use Rattle.svr_index.proofs.Following.{follows-gone}
use Rattle.svr_index.proofs.index.Index.doc_out.Goals as goal

pub returns-clause-follows : goal.returns-clause-follows
returns-clause-follows g c tokens l now is stood differs gone =
    follows-gone tokens (record { method = c.self.inside.method; entries = c.self.inside.keys; marks = c.self.inside.short; pages = c.self.inside.long })
    _ l now c.args.id is (subst (λ (i : Indexed). StandsFor i l) (sym c.self.view_is) stood)
    differs gone refl refl c.forget.ensures c.drop_doc.ensures.others c.drop_doc.ensures.gone
