use Rattle.std.proofs.Common.{option_map, refl, subst}
use Rattle.std.proofs.lemmas.Option.{slice_get_read}
use Rattle.std.proofs.lemmas.Result.{IfOk-weaker}
use Rattle.svr_view.specs.Layout.{AddsId}
use Rattle.svr_view.proofs.Counting.{AllUntouched-all, HasIds-more, HasIds-none}
use Rattle.svr_view.proofs.counted.counted_ids.Goals as goal

pub loop-component-init : goal.loop-component-init
loop-component-init c = HasIds-none _ _ _ _ _

pub loop-component-preserved : goal.loop-component-preserved
loop-component-preserved c =
    let at = slice_get_read c.args.components.now _ c.loop-component.component-index c.component-item.result refl c.loop-component-test.true
    c.component-item.is in
    HasIds-more c.loop-component.component-index c.args.components.now c.args.table (option_map (λ row. row.now) c.args.old)
    (option_map (λ row. row.now) c.args.new) c.loop-component.ids c.add_id.new.ids c.add_id-in-loop-component.new.ids c.component-item.result
    c.loop-component.invariant at (subst (AddsId c.loop-component.ids c.add_id.new.ids) c.counted_of.ensures c.in_ok-add_id.ensures)
    (subst (AddsId c.add_id.new.ids c.add_id-in-loop-component.new.ids) c.counted_of-in-loop-component.ensures c.in_ok-add_id-2.ensures)

pub returns-clause-complete : goal.returns-clause-complete
returns-clause-complete c =
    IfOk-weaker c.ascending.result _ _
    (λ all same.
    AllUntouched-all c.loop-component.component-index c.args.components.now c.args.table (option_map (λ row. row.now) c.args.old)
    (option_map (λ row. row.now) c.args.new) c.loop-component.ids all.items c.loop-component.invariant c.loop-component-test.false same)
    c.ascending.ensures.same
