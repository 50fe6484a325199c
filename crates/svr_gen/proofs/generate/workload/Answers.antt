use Rattle.std.proofs.Common.{◌∙◌, ap}
use Rattle.svr_gen.specs.Parts.{generator_of}
use Rattle.svr_gen.specs.Workload.{requests, workload_of}
use Rattle.svr_gen.proofs.Following.{followed-start}
use Rattle.svr_gen.proofs.generate.workload.Goals as goal

pub returns : goal.returns
unfolding workload_of
returns c =
    c.into_text.ensures
    ∙ ap (λ w. w.text) (c.in_ok-put_requests.ensures
    ∙ followed-start c.new-writer.result (generator_of c.args.number) requests c.new-writer.ensures)
