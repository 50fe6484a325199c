use Rattle.std.proofs.Common.{sym, ap, None, ◌∙◌}
use Rattle.svr_index.specs.Index.{Indexed}
use Rattle.svr_index.proofs.Following.{follows-moved, rules-key}
use Rattle.svr_index.proofs.index.Index.doc_in.Goals as goal

pub returns-clause-follows : goal.returns-clause-follows
returns-clause-follows g c tokens l now is stood differs with =
    follows-moved tokens c.args.self.now c.move_to.new.self l now c.args.id c.key-key.result c.args.score c.args.terms.now with.it None is stood
    differs with.is with.score_is with.terms_are (sym (stood.entries c.args.id) ∙ c.requires.new)
    (rules-key c.args.self.now l c.self.inside.method c.args.score c.key-key.result stood (ap (λ (i : Indexed). i.method) c.self.view_is)
    c.key-key.ensures.value)
    c.move_to.ensures.method c.move_to.ensures.pages c.in_ok-move_to.ensures.entry c.in_ok-move_to.ensures.others
    c.in_ok-move_to.ensures.marks
