use Rattle.std.proofs.Common.{Some, ap, ◌∙◌, arith}
use Rattle.svr_listing.specs.declared.group.Group.{Group}
use Rattle.svr_iter.specs.MemLaws.{AreGroups-drop}
use Rattle.svr_iter.proofs.MemTaking.{first_key-some, key_within}
use Rattle.svr_iter.proofs.mem_postings.MemPostingsPostings.next_key.Goals as goal

pub returns-then-self-len-clause-key : goal.returns-then-self-len-clause-key
returns-then-self-len-clause-key c =
    let m = c.args.self.now in
    ap (λ (p : Group). Some p.key) c.index.ensures ∙ first_key-some m.given.items m.at c.index.result.now (omega (arith, m.given.ok.0))

pub returns-then-self-len-clause-within : goal.returns-then-self-len-clause-within
returns-then-self-len-clause-within c =
    let m = c.args.self.now in
    key_within _ _ _ c.index.result.now.key (AreGroups-drop m.at m.given.items m.ordered)
    (ap (λ (p : Group). Some p.key) c.index.ensures ∙ first_key-some m.given.items m.at c.index.result.now (omega (arith, m.given.ok.0)))
