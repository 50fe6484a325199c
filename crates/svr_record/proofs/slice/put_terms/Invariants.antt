use Rattle.std.proofs.Common.{◌≡◌, ◌++◌, length, take}
use Rattle.std.specs.Int.{to_be_bytes, w16}
use Rattle.std.specs.List.{flat_map, AllByRecursion}
use Rattle.svr_record.specs.Bodies.{term_body}
use Rattle.svr_record.specs.Limits.{IsTerm}
use Rattle.svr_record.proofs.slice.put_terms.Given as goal

abbrev pub invariant-loop-term : goal.invariant-loop-term
invariant-loop-term l =
    (l.out.items ≡ l.fn.out.items ++ (to_be_bytes w16 (length l.terms) ++ flat_map term_body (take l.term-index l.terms)))
    × AllByRecursion IsTerm (take l.term-index l.terms)
