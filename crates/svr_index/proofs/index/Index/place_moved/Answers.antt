use Rattle.std.proofs.Common.{rules, refl, sym, subst, ap, true, ◌≡◌, ◌∙◌}
use Rattle.svr_idmap.specs.Ids.{value_at}
use Rattle.svr_index.specs.Index.{Indexed, StandsBut, is_moved}
use Rattle.svr_index.proofs.Placing.{places}
use Rattle.svr_index.proofs.index.Index.place_moved.Goals as goal

pub returns-clause-places : goal.returns-clause-places
returns-clause-places g c pending l score stood_now with =
    let before : Indexed = record { method = c.self.inside.method; entries = c.self.inside.keys; marks = c.self.inside.short; pages = c.self.inside.long } in
    let stood : StandsBut pending before l = subst (λ (i : Indexed). StandsBut pending i l) (sym c.self.view_is) stood_now in
    let moved : is_moved (value_at before.entries c.args.id) ≡ true =
    ap (λ (i : Indexed). is_moved (value_at i.entries c.args.id)) c.self.view_is ∙ c.requires.moved in
    places before _ c.args.id c.args.terms.now c.in-Some.entry pending l score c.in-Some.ensures.value moved stood with refl refl refl
    (search rules) (search rules)
