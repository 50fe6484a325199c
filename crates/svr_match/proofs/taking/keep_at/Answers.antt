use Rattle.std.proofs.Common.{◌≡◌, ◌==◌, ℕ, false, Option, Some, ap, sym, ◌∙◌}
use Rattle.std.specs.Option.{option_eq}
use Rattle.svr_iter.specs.Layout.{is_next}
use Rattle.svr_iter.proofs.Choosing.{is_next-eq, none_at}
use Rattle.svr_match.proofs.taking.keep_at.Goals as goal

pub returns-else-eq-clause-keeps : goal.returns-else-eq-clause-keeps
returns-else-eq-clause-keeps g c =
    let next = g.P.Postings.next c.args.list.now in
    let e : is_next c.args.key next ≡ false =
    sym (is_next-eq c.args.key next) ∙ sym (ap (λ (o : Option ℕ). option_eq (λ a b. a == b) o (Some c.args.key)) c.next_key.ensures.key)
    ∙ sym c.eq.ensures ∙ c.if-eq.false in
    none_at g.P.Postings.groups g.P.Postings.next g.P.Postings.may g.P.Postings.pages
    (g.R.PageReader.told c.args.reader.now) c.args.key c.args.list.now c.args.ids.now.items _
    e c.requires.up_to c.requires.fits c.truncate.ensures.items
