use Rattle.std.proofs.Common.{sym, ◌∙◌, rules}
use Rattle.svr_store.specs.Store.{StoreValue}
use Rattle.svr_store.proofs.Silent.{search_causes, search_submits, search_unclosed, submits-over}
use Rattle.svr_store.proofs.store.Store.search.Goals as goal

pub returns-clause-submits : goal.returns-clause-submits
returns-clause-submits g c = λ s request serves is.
    let here = rw (← c.self.view_is) at serves in
    let inside = c.self.inside in
    let store : StoreValue = record { core = inside.core; end = inside.journal.end; pages = inside.pages; closed = inside.closed } in
    submits-over c.self.view_is (search_submits (g.D.Disk.view c.args.disk.now) _ (g.met.D.Disk.laws _) store _ s request here
    (record { serves = here.serves; pages = here.pages; end = here.end }) c.args.query.now is c.find.result (search rules)).submits

pub returns-clause-closed : goal.returns-clause-closed
returns-clause-closed g c =
    let was = rw (← c.self.view_is) at c.requires.open in
    was.unclosed ∙ sym (search_unclosed c.find.result c.find.ensures.kind)

pub returns-clause-causes : goal.returns-clause-causes
returns-clause-causes g c =
    search_causes c.self.inside.core c.args.query.now c.self.inside.journal.end (g.D.Disk.view c.args.disk.now) _ c.self.inside.pages
    c.find.new.reader.pages.now c.find.result (search rules)
    c.find.ensures.kind
