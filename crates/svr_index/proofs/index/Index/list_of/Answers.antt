use Rattle.std.proofs.Common.{◌≡◌, ℕ, true, List, sym, subst, ap, ◌∙◌}
use Rattle.svr_idmap.specs.Ids.{value_at}
use Rattle.svr_iter.specs.Effective.{Tells}
use Rattle.svr_iter.specs.Marks.{is_listed}
use Rattle.svr_iter.specs.MemPairs.{grouped}
use Rattle.svr_long.specs.Cursor.{page_pairs, pages_of_key, pairs_from}
use Rattle.svr_long.specs.Heads.{are_heads}
use Rattle.svr_postpage.specs.declared.page_ref.PageRef.{PageRef}
use Rattle.svr_short.specs.Short.{marks_of}
use Rattle.svr_index.specs.Index.{Indexed, StandsFor}
use Rattle.svr_index.specs.Docs.{refs_at}
use Rattle.svr_index.proofs.Telling.{tells}
use Rattle.svr_index.proofs.index.Index.list_of.Goals as goal

pub returns : goal.returns
returns c =
    let inside : Indexed = record { method = c.self.inside.method; entries = c.self.inside.keys; marks = c.self.inside.short; pages = c.self.inside.long } in
    let ordered : are_heads (refs_at inside c.args.term.now) ≡ true = ap are_heads (sym c.pages.ensures.value) ∙ c.pages.ensures.heads in
    record {
      groups_are = λ l bytes up stood.
          c.new.ensures.listing l (page_pairs bytes) bytes
          (subst (Tells l c.args.term.now (page_pairs bytes) (value_at inside.entries) (marks_of inside.marks c.args.term.now))
          (sym (c.new-long.ensures.groups bytes ∙ ap (λ (ps : List PageRef). grouped (pairs_from (page_pairs bytes) ps)) c.pages.ensures.value))
          (tells inside l c.args.term.now bytes up (subst (λ (i : Indexed). StandsFor i l) (sym c.self.view_is) stood) ordered));
      may_is = c.new.ensures.may ∙ ap (λ (i : Indexed). is_listed (value_at i.entries)) c.self.view_is;
      pages_are = λ key.
          ap (λ (f : ℕ → List PageRef). f key) c.new.ensures.pages ∙ c.new-long.ensures.pages key
          ∙ ap (pages_of_key key) (c.pages.ensures.value ∙ ap (λ (i : Indexed). refs_at i c.args.term.now) c.self.view_is);
      heads = subst (λ (i : Indexed). are_heads (refs_at i c.args.term.now) ≡ true) c.self.view_is ordered;
    }
