use Rattle.std.proofs.Common.{[], ◌∷◌, rules}
use Rattle.svr_match.specs.JoinedLaws.{greatest-fits}
use Rattle.svr_match.proofs.all_of.AllOfPostings.next_key.Goals as goal

pub returns-clause-within : goal.returns-clause-within
returns-clause-within g c =
    greatest-fits g.P.Postings.may g.P.Postings.next (λ p. g.P.Postings.groups p []) (λ p. g.met.P.Postings.lawful p [])
    (c.args.self.now.first ∷ c.args.self.now.others.items) c.greater_key.result (search rules)
