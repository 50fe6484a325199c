use Rattle.std.proofs.Common.{option_map, sym, subst, ◌∙◌}
use Rattle.svr_index.specs.Index.{Indexed, StandsFor}
use Rattle.svr_index.proofs.NextTerm.{next-live}
use Rattle.svr_index.proofs.index.Index.next_term.Goals as goal

pub returns : goal.returns
returns c tokens l is stood =
    let inside : Indexed = record { method = c.self.inside.method; entries = c.self.inside.keys; marks = c.self.inside.short; pages = c.self.inside.long } in
    c.lesser.ensures
    ∙ next-live inside l (option_map (λ t. t.now) c.args.after) tokens is (subst (λ (i : Indexed). StandsFor i l) (sym c.self.view_is) stood)
    c.next_term.ensures.paged c.next_term.ensures.ordered (option_map (λ t. t.now) c.next_term.result)
    (option_map (λ t. t.now) c.next_term-2.result) c.next_term.ensures.value c.next_term-2.ensures
