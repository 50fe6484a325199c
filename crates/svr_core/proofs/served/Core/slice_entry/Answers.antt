use Rattle.std.proofs.Common.{Some, sym, ap, ◌∙◌, rules}
use Rattle.svr_core.specs.Kept.{CoreValue}
use Rattle.svr_core.proofs.Slicing.{asks_sliced, asks_spent, asks_unsliced, none_sliced, slice_planned}
use Rattle.svr_core.proofs.served.Core.slice_entry.Goals as goal

pub returns-in_err-slice-clause-asks : goal.returns-in_err-slice-clause-asks
returns-in_err-slice-clause-asks g c =
    let kept = ap (λ (n : CoreValue). n.kept) (sym c.self.view_is) ∙ c.in-Some.is in
    asks_unsliced (g.R.PageReader.told c.args.reader.now) c.args.self.now c.in-Some.catalog kept c.requires.begun c.args.most c.min.result (search rules)
    g.R.PageReader.gives g.R.PageReader.fails c.args.reader.now c.slice.new.reader c.in_err-slice.field-0.0 c.from_residual.result
    (search rules) c.in_err-slice.ensures.asks

pub returns-then-is_empty-clause-entry : goal.returns-then-is_empty-clause-entry
returns-then-is_empty-clause-entry g c s serves at =
    let kept = ap (λ (n : CoreValue). n.kept) (sym c.self.view_is) ∙ c.in-Some.is in
    none_sliced (g.R.PageReader.told c.args.reader.now) c.args.self.now c.in-Some.catalog kept c.requires.begun c.args.most c.min.result (search rules)
    s serves c.in_ok-slice.slice c.in_ok-slice.ensures.exact (search rules)

pub returns-in_err-entry-clause-asks : goal.returns-in_err-entry-clause-asks
returns-in_err-entry-clause-asks g c =
    let kept = ap (λ (n : CoreValue). n.kept) (sym c.self.view_is) ∙ c.in-Some.is in
    asks_spent (g.R.PageReader.told c.args.reader.now) c.args.self.now c.in-Some.catalog kept c.requires.begun c.args.most c.min.result (search rules)
    g.R.PageReader.gives g.R.PageReader.fails c.args.reader.now c.slice.new.reader c.in_ok-slice.slice c.from_residual-in_err-entry.result
    (search rules) c.in_ok-slice.ensures.asks

pub returns-clause-entry : goal.returns-clause-entry
returns-clause-entry g c s serves at =
    let kept = ap (λ (n : CoreValue). n.kept) (sym c.self.view_is) ∙ c.in-Some.is in
    slice_planned (g.R.PageReader.told c.args.reader.now) c.args.self.now c.in-Some.catalog kept c.requires.begun c.args.most c.min.result (search rules)
    s serves c.in_ok-slice.slice c.in_ok-slice.ensures.exact c.in_ok-entry.entry c.args.end c.in_ok-entry.ensures at (search rules)
    (c.in_ok-slice.ensures.may_come (search rules))

pub returns-clause-asks : goal.returns-clause-asks
returns-clause-asks g c =
    let kept = ap (λ (n : CoreValue). n.kept) (sym c.self.view_is) ∙ c.in-Some.is in
    asks_sliced (g.R.PageReader.told c.args.reader.now) c.args.self.now c.in-Some.catalog kept c.requires.begun c.args.most c.min.result (search rules)
    g.R.PageReader.gives g.R.PageReader.fails c.args.reader.now c.slice.new.reader c.in_ok-slice.slice (Some c.in_ok-entry.entry)
    c.in_ok-slice.ensures.asks
