use Rattle.std.proofs.Common.{rules, ◌≡◌, [], ◌∷◌, ap, ◌∙◌, nat_cmp}
use Rattle.std.specs.BTreeMap.Range.{entries_between}
use Rattle.std.specs.declared.ops.Bound.TheVariants as bound
use Rattle.svr_idmap.specs.Layout.{behind}
use Rattle.svr_idmap.proofs.Walks.{first_entry, first-behind}
use Rattle.svr_idmap.proofs.id_map.next_in.Goals as goal

pub returns-in-Some : goal.returns-in-Some
returns-in-Some g c =
    let found : (c.in-Some.id.now, c.in-Some.value.now) ∷ c.next.new.self
    ≡ entries_between nat_cmp (behind c.args.after) bound.Unbounded c.args.values.now.entries = search rules in
    ap first_entry found ∙ first-behind c.args.after c.args.values.now.entries

pub returns-in-None : goal.returns-in-None
returns-in-None g c =
    let found : [] ≡ entries_between nat_cmp (behind c.args.after) bound.Unbounded c.args.values.now.entries = search rules in
    ap first_entry found ∙ first-behind c.args.after c.args.values.now.entries
