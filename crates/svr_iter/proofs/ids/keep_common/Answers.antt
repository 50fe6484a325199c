use Rattle.std.proofs.Common.{◌≡◌, ◌<◌, ℕ, length, slice_index, ap, subst, ◌∙◌, arith}
use Rattle.std.proofs.lemmas.Grind.{get_or_default_zero}
use Rattle.svr_listing.specs.Joined.{is_in}
use Rattle.svr_iter.specs.Layout.{IsPlaceOf}
use Rattle.svr_iter.proofs.KeptIds.{AreKept-id, AreKept-more, IsPassed-more}
use Rattle.svr_iter.proofs.ids.keep_common.Goals as goal

pub loop-at-preserved : goal.loop-at-preserved
loop-at-preserved c =
    let inv = c.loop-at.invariant in
    let all = c.args.ids.now.items in
    let at = c.loop-at.at in
    let others = c.args.others.now in
    let lt : at < length all = omega (arith, c.loop-at-test.true, c.len-at-end.ensures) in
    let there : at < length c.loop-at.ids.items = omega (arith, inv.kept.same_length) in
    let id_is : c.index-id.result.now ≡ slice_index all at =
    c.index-id.ensures ∙ get_or_default_zero c.loop-at.ids.items at c.index-id.result.now there ∙ AreKept-id inv.kept lt in
    record {
      kept = AreKept-more inv.kept lt c.stands_at.result c.keep_id-kept.result c.keep_id-kept.new.ids.items
          (c.stands_at.ensures ∙ ap (λ (n : ℕ). is_in n others) id_is)
          c.keep_id-kept.ensures.count c.keep_id-kept.ensures.ids;
      passed = IsPassed-more c.requires.ids lt
          (subst (λ (n : ℕ). IsPlaceOf n others c.place_of-place.result) id_is c.place_of-place.ensures);
    }
