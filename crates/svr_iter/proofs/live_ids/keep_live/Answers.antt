use Rattle.std.proofs.Common.{◌≡◌, ◌<◌, ◌&&◌, ◌||◌, ℕ, Bool, Option, length, slice_index, ap, ap₂, sym, subst, ◌∙◌, arith}
use Rattle.std.proofs.lemmas.Grind.{get_or_default_zero}
use Rattle.svr_listing.specs.Joined.{is_in}
use Rattle.svr_iter.specs.Layout.{IsPlaceOf}
use Rattle.svr_iter.specs.Marks.{has_mark, ids_of, live_ids, stands}
use Rattle.svr_iter.specs.declared.marks.Mark.{Mark}
use Rattle.svr_iter.proofs.KeptIds.{AreKept-id, AreKept-more, IsPassed-more}
use Rattle.svr_iter.proofs.Membership.{in_live}
use Rattle.svr_iter.proofs.live_ids.keep_live.Goals as goal

pub loop-at-preserved : goal.loop-at-preserved
loop-at-preserved g c =
    let inv = c.loop-at.invariant in
    let all = c.args.ids.now.items in
    let at = c.loop-at.at in
    let key = c.args.key in
    let posted = c.args.posted.now in
    let marks = c.args.marks.now in
    let entry = g.K.KeySource.entry c.args.keys.now in
    let id = c.index-id.result.now in
    let lt : at < length all = omega (arith, c.loop-at-test.true, c.len-at-end.ensures) in
    let there : at < length c.loop-at.ids.items = omega (arith, inv.kept.same_length) in
    let id_is : id ≡ slice_index all at = c.index-id.ensures ∙ get_or_default_zero c.loop-at.ids.items at id there
    ∙ AreKept-id inv.kept lt in
    let passed : c.is_live-passed.result ≡ is_in id (live_ids entry key marks posted) =
    c.is_live-passed.ensures
    ∙ ap₂ (λ (m : Option Mark) (b : Bool). stands (entry id) key m && (has_mark m || b)) c.mark_at.ensures c.stands_at-is_posted.ensures
    ∙ sym (in_live entry key marks posted id) in
    record {
      kept = AreKept-more inv.kept lt c.is_live-passed.result c.keep_id-kept.result c.keep_id-kept.new.ids.items
          (passed ∙ ap (λ (n : ℕ). is_in n (live_ids entry key marks posted)) id_is) c.keep_id-kept.ensures.count
          c.keep_id-kept.ensures.ids;
      posted = IsPassed-more c.requires.ids lt (subst (λ (n : ℕ). IsPlaceOf n posted c.place_of-i.result) id_is c.place_of-i.ensures);
      marked = IsPassed-more c.requires.ids lt
          (subst (λ (n : ℕ). IsPlaceOf n (ids_of marks) c.mark_place-j.result) id_is c.mark_place-j.ensures);
    }
