use Rattle.std.proofs.Common.{ap, ◌∙◌, Option, List, unwrap_or, []}
use Rattle.svr_chunks.specs.Chosen.{chosen_rules}
use Rattle.svr_postpage.specs.declared.page_ref.PageRef.{PageRef}
use Rattle.svr_lists.proofs.lists.Lists.new.Goals as goal

pub returns-clause-stands : goal.returns-clause-stands
returns-clause-stands c = record {
  index = record {
    rules = ap chosen_rules c.new.ensures.method ∙ c.method_for.ensures;
    entries = c.new.ensures.entries;
    marks = c.new.ensures.unmarked;
    pages = λ term. ap (λ (o : Option (List PageRef)). unwrap_or o []) (c.new.ensures.pages term);
  };
  merge = tt;
}
