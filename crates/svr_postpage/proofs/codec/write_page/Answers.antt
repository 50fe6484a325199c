use Rattle.std.proofs.Common.{arith, ◌<◌, ◌+◌, ◌*◌, ◌++◌, ◌∙◌, List, ℕ, ap, sym, take, drop, get_or, length}
use Rattle.std.proofs.lemmas.List.{length-take-le, take_all, take_more}
use Rattle.svr_postpage.specs.declared.pair.Pair.{Pair}
use Rattle.svr_postpage.specs.Pages.{page_in, pair_bytes}
use Rattle.svr_postpage.proofs.Spelling.{page_in-page_bytes}
use Rattle.svr_postpage.proofs.Writing.{written, written-all, written-more, written-none}
use Rattle.svr_postpage.proofs.codec.write_page.Goals as goal

pub loop-i-init : goal.loop-i-init
loop-i-init c = written-none (length c.args.pairs.now) c.put_u16.new.into c.put_u16.ensures.number c.put_u16.ensures.after

pub loop-i-preserved : goal.loop-i-preserved
loop-i-preserved c =
    let i : ℕ = c.loop-i.i in
    let none : Pair = record { key = 0; id = 0 } in
    let p : Pair = get_or c.args.pairs.now i none in
    let below : i < length c.args.pairs.now = omega arith in
    c.put_pair.ensures
    ∙ ap (λ (l : List ℕ). take (4 + 16 * i) l ++ (pair_bytes p ++ drop (4 + 16 * i + 16) l)) c.loop-i.invariant
    ∙ written-more (length c.args.pairs.now) i (take i c.args.pairs.now) p (length-take-le i c.args.pairs.now (omega arith))
    ∙ ap (written (length c.args.pairs.now)) (sym (take_more c.args.pairs.now i none below))

pub returns-clause-bytes : goal.returns-clause-bytes
returns-clause-bytes c =
    c.loop-i.invariant
    ∙ ap (written (length c.args.pairs.now)) (take_all c.loop-i.i c.args.pairs.now (omega arith))
    ∙ written-all c.args.pairs.now

pub returns-clause-is_page : goal.returns-clause-is_page
returns-clause-is_page c =
    ap page_in (c.loop-i.invariant
    ∙ ap (written (length c.args.pairs.now)) (take_all c.loop-i.i c.args.pairs.now (omega arith))
    ∙ written-all c.args.pairs.now)
    ∙ page_in-page_bytes c.args.pairs.now c.requires
