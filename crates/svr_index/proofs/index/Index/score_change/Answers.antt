use Rattle.std.proofs.Common.{◌≡◌, ℕ, Some, true, refl, sym, ap, subst, ◌∙◌}
use Rattle.svr_chunks.specs.Chosen.{chosen_rules}
use Rattle.svr_idmap.specs.Ids.{SetsValue, value_at}
use Rattle.svr_listing.specs.Methods.{Rules}
use Rattle.svr_num.specs.declared.list_key.ListKey.{ListKey}
use Rattle.svr_index.specs.Index.{Indexed}
use Rattle.svr_index.proofs.Following.{entry_now-moved, entry_now-stays, follows-moved, rules-key, set-again}
use Rattle.svr_listing.specs.Changes.{entry_now, moved_to}
use Rattle.svr_index.proofs.index.Index.score_change.Goals as goal

pub returns-then-stays-clause-follows : goal.returns-then-stays-clause-follows
returns-then-stays-clause-follows g c = c.if-stays.ensures.kept refl c.args.terms.now

pub returns-then-stays-clause-entries : goal.returns-then-stays-clause-entries
returns-then-stays-clause-entries g c = record {
  method = refl;
  pages = refl;
  entries = set-again c.args.self.now.entries c.args.id _
      (entry_now-stays (chosen_rules c.args.self.now.method) c.args.score (value_at c.args.self.now.entries c.args.id) (sym c.if-stays.ensures.value));
}

pub returns-clause-follows : goal.returns-clause-follows
returns-clause-follows g c tokens l now is stood differs scored =
    let method = ap (λ (i : Indexed). i.method) c.self.view_is in
    let entry = value_at c.args.self.now.entries c.args.id in
    follows-moved tokens c.args.self.now c.move_to.new.self l now c.args.id c.key-key.result c.args.score c.args.terms.now scored.is.it
    entry is stood differs scored.is.is scored.is.score_is scored.is.terms_are (sym (stood.entries c.args.id))
    (ap (λ (r : Rules). entry_now r c.args.score entry) (sym stood.rules)
    ∙ entry_now-moved (chosen_rules c.args.self.now.method) c.args.score entry (sym c.if-stays.ensures.value)
    ∙ ap (λ (r : Rules). moved_to r c.args.score) stood.rules
    ∙ rules-key c.args.self.now l c.self.inside.method c.args.score c.key-key.result stood method c.key-key.ensures.value)
    c.move_to.ensures.method c.move_to.ensures.pages c.in_ok-move_to.ensures.entry c.in_ok-move_to.ensures.others
    c.in_ok-move_to.ensures.marks

pub returns-clause-entries : goal.returns-clause-entries
returns-clause-entries g c =
    let key : c.key-key.result ≡ (chosen_rules c.args.self.now.method).key c.args.score =
    c.key-key.ensures.value ∙ ap (λ (i : Indexed). (chosen_rules i.method).key c.args.score) c.self.view_is in
    record {
      method = c.move_to.ensures.method;
      pages = c.move_to.ensures.pages;
      entries = subst (λ (k : ListKey). SetsValue c.args.self.now.entries c.move_to.new.self.entries c.args.id (Some k))
          (ap (λ (n : ℕ). record { key = n; moved = true }) key
          ∙ sym (entry_now-moved (chosen_rules c.args.self.now.method) c.args.score _ (sym c.if-stays.ensures.value)))
          c.in_ok-move_to.ensures.entry;
    }
