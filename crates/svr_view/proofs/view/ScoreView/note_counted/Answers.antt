use Rattle.std.proofs.Common.{◌≡◌, ◌==◌, ℕ, List, false, option_map, refl, sym, ap, ◌∙◌, subst}
use Rattle.std.specs.List.{list_any}
use Rattle.std.specs.List.Sorted.{IsStrictlyIncreasing}
use Rattle.svr_schema.specs.declared.component.Component.{Component}
use Rattle.svr_view.specs.Layout.{AllUntouched}
use Rattle.svr_view.proofs.Noted.{NotesIds-told}
use Rattle.svr_view.proofs.view.ScoreView.note_counted.Goals as goal

pub returns-clause-notes : goal.returns-clause-notes
returns-clause-notes c =
    let old = option_map (λ row. row.now) c.args.old in
    let new = option_map (λ row. row.now) c.args.new in
    let Complete : List Component → List ℕ → Type 0
    = λ components ids. (id : ℕ) → list_any (λ k. k == id) ids ≡ false → AllUntouched components c.args.table old new id in
    record {
      ids = c.deref.result.now;
      complete = subst (λ ks. Complete ks c.deref.result.now) c.as_slice-components.ensures
          (subst (Complete c.as_slice-components.result.now) (sym c.deref.ensures.value) c.in_ok-ids.ensures.complete);
      notes = NotesIds-told c.args.self.now _ c.self.inside.scores c.settle_all.new.scores c.deref.result.now _ c.from_vec.result
          (ap (λ v. v.scores) c.self.view_is) refl (subst IsStrictlyIncreasing (sym c.deref.ensures.value) c.in_ok-ids.ensures.ascending)
          c.in_ok-moves.ensures.scores (c.from_vec.ensures ∙ c.in_ok-moves.ensures.moves);
    }
