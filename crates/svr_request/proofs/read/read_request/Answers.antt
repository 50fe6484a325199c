use Rattle.std.proofs.Common.{sym, ◌∙◌}
use Rattle.std.proofs.lemmas.Bool.{false≢true}
use Rattle.serde_json.specs.View.{view}
use Rattle.svr_request.proofs.Lines.{block_of-none, block_of-value, request_of-none, request_of-value}
use Rattle.svr_request.proofs.read.read_request.Goals as goal

pub returns-in_ok-request_in-in-Ok-clause-request : goal.returns-in_ok-request_in-in-Ok-clause-request
returns-in_ok-request_in-in-Ok-clause-request c =
    c.in_ok-request_in-in-Ok.ensures
    ∙ sym (request_of-value c.args.line.now (view c.in-Ok.value) c.in-Ok.ensures.ok.0 c.in-Ok.ensures.ok.1)

pub returns-in_ok-request_in-in-Ok-clause-block : goal.returns-in_ok-request_in-in-Ok-clause-block
returns-in_ok-request_in-in-Ok-clause-block c =
    c.read_block_size.ensures
    ∙ sym (block_of-value c.args.line.now (view c.in-Ok.value) c.in-Ok.ensures.ok.0 c.in-Ok.ensures.ok.1)

pub returns-else-is_memory-clause-request : goal.returns-else-is_memory-clause-request
returns-else-is_memory-clause-request c =
    sym (request_of-none c.args.line.now (c.in-Err.ensures.err (λ m. absurd (false≢true (c.if-is_memory.ensures.1 m)))))

pub returns-else-is_memory-clause-block : goal.returns-else-is_memory-clause-block
returns-else-is_memory-clause-block c =
    sym (block_of-none c.args.line.now (c.in-Err.ensures.err (λ m. absurd (false≢true (c.if-is_memory.ensures.1 m)))))
