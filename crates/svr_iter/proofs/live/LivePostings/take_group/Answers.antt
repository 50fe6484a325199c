use Rattle.std.proofs.Common.{◌≡◌, List, ℕ, Option, Some, cond, ap, refl, sym, subst, ◌∙◌}
use Rattle.svr_iter.specs.LiveLaws.{marks_up, next-fits}
use Rattle.svr_iter.specs.Layout.{is_next}
use Rattle.svr_iter.specs.Marks.{ids_of, live_ids, marks_at, next_add}
use Rattle.svr_iter.specs.Merging.{Up}
use Rattle.svr_iter.specs.declared.marks.Marked.{Marked}
use Rattle.svr_iter.proofs.Living.{key_is, live_fits, live_takes}
use Rattle.svr_iter.proofs.live.LivePostings.take_group.Goals as goal

pub take_posted-requires-clause-fits : goal.take_posted-requires-clause-fits
take_posted-requires-clause-fits g c =
    let s = c.args.self.now in
    let ms = g.S.ShortSource.marks s.short.now s.term.now in
    live_fits c.next_key.result (next_add s.below ms) (Some c.in-Some.key)
    (key_is c.next_key.result c.next_key-short.result c.next_key.result
    (next_add s.below ms) c.in-Some.key c.in-Some.ensures refl c.next_key-short.ensures)
    c.next_key.ensures.within (next-fits _ _ (g.met.S.ShortSource.lawful s.short.now s.term.now).each)

pub take_live-requires-clause-marks : goal.take_live-requires-clause-marks
take_live-requires-clause-marks g c =
    let s = c.args.self.now in
    let same : c.deref-2.result.now ≡ marks_at c.in-Some.key (g.S.ShortSource.marks s.short.now s.term.now) =
    c.deref-2.ensures.value ∙ c.in_ok-at_key.ensures in
    subst (λ (l : List Marked). Up (ids_of l)) (sym same) (marks_up c.in-Some.key _ (g.met.S.ShortSource.lawful s.short.now s.term.now))

pub returns-clause-takes : goal.returns-clause-takes
returns-clause-takes g c =
    let s = c.args.self.now in
    let ms = g.S.ShortSource.marks s.short.now s.term.now in
    let entry = g.K.KeySource.entry s.keys.now in
    let key = c.in-Some.key in
    let same : c.take_live.new.into.items ≡ live_ids entry key (marks_at key ms) c.take_posted.new.ids.items =
    c.in_ok-take_live.ensures
    ∙ ap (λ (l : List Marked). live_ids entry key l c.deref.result.now) (c.deref-2.ensures.value ∙ c.in_ok-at_key.ensures)
    ∙ ap (λ (l : List ℕ). live_ids entry key (marks_at key ms) l) c.deref.ensures.value in
    let t = live_takes g.L.LongSource.groups g.L.LongSource.next g.L.LongSource.pages entry ms (g.R.PageReader.told c.args.reader.now) key
    (record { long = s.long; below = s.below }) (record { long = c.take_posted.new.long; below = c.last_short-self.result })
    c.take_posted.new.ids.items c.take_live.new.into.items
    (record {
      is_key = key_is c.next_key.result c.next_key-short.result (g.L.LongSource.next s.long)
          (next_add s.below ms) key c.in-Some.ensures c.next_key.ensures.key c.next_key-short.ensures;
      takes = c.in_ok-take_posted.ensures.takes;
      below = c.last_short-self.ensures ∙ ap (λ (o : Option ℕ). cond (is_next key o) (Some key) s.below) c.next_key-short.ensures;
    })
    (g.met.S.ShortSource.lawful s.short.now s.term.now) (λ l bytes. g.met.L.LongSource.lawful l bytes) same in
    record { first = t.first; lawful = t.lawful; next_less = t.next_less; same_may = t.same_may; same_pages = t.same_pages }
