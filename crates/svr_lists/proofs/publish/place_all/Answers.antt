use Rattle.std.proofs.Common.{◌≡◌, ◌-◌, ◌<◌, ◌≤◌, drop, length, ◌∙◌, rules, arith}
use Rattle.svr_lists.proofs.Publishing.{places-all, places-more}
use Rattle.svr_lists.proofs.publish.place_all.Goals as goal

pub loop-at-preserved : goal.loop-at-preserved
loop-at-preserved g c =
    let some : 0 < c.loop-at.at = search rules in
    let within : c.loop-at.at ≤ length c.args.documents.now = c.loop-at.invariant.within in
    record {
      within = omega (arith, within);
      places = places-more c.args.index.now c.loop-at.index c.place.new.index c.args.documents.now c.loop-at.at (c.loop-at.at - 1) _
          (omega (arith, some)) (omega (arith, some, within)) c.loop-at.invariant.places c.in_ok-place.ensures.places;
      kept = record {
        method = c.in_ok-place.ensures.entries.method ∙ c.loop-at.invariant.kept.method;
        pages = c.in_ok-place.ensures.entries.pages ∙ c.loop-at.invariant.kept.pages;
        entries = c.in_ok-place.ensures.entries.entries ∙ c.loop-at.invariant.kept.entries;
      };
    }

pub returns-clause-places : goal.returns-clause-places
returns-clause-places g c =
    let all : drop c.loop-at.at c.args.documents.now ≡ c.args.documents.now = search rules in
    places-all c.args.index.now c.loop-at.index c.args.documents.now (drop c.loop-at.at c.args.documents.now) all c.loop-at.invariant.places
