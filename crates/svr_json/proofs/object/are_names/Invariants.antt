use Rattle.std.proofs.Common.{◌≡◌, map, string_bytes}
use Rattle.std.specs.Cmp.Lexicographic.{pointwise}
use Rattle.std.specs.Map.{keys_of}
use Rattle.std.specs.Slice.Iter.{iter_rest}
use Rattle.std.specs.Str.{bytes_eq}
use Rattle.svr_json.proofs.object.are_names.Given as goal

abbrev pub invariant-loop-key : goal.invariant-loop-key
invariant-loop-key l =
    pointwise bytes_eq (map string_bytes (keys_of l.fn.members.entries)) (map (λ n. n.now) l.fn.names)
    ≡ pointwise bytes_eq (map string_bytes l.key-iterator) (map (λ n. n.now) (iter_rest l.rest))
