use Rattle.std.proofs.Common.{◌≡◌, ◌<◌, ◌^◌, rules, subst, sym}
use Rattle.std.specs.List.{All}
use Rattle.svr_listing.specs.Groups.{ids_in}
use Rattle.svr_listing.proofs.Computing.{ids_fit}
use Rattle.svr_listing.proofs.hits.best_of_groups.Goals as goal

pub hits_of-requires : goal.hits_of-requires
hits_of-requires g c =
    let ids : c.deref.result.now ≡ ids_in c.args.groups.now = search rules in
    subst (All (λ id. id < 2 ^ 63)) (sym ids) (ids_fit c.args.groups.now c.requires)
