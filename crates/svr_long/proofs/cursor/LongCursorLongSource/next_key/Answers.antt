use Rattle.std.proofs.Common.{rules, ◌≡◌, ◌++◌, ◌<◌, ◌^◌, ℕ, List, drop, Option, None, Some, slice_get, sym, ap, subst, ◌∙◌}
use Rattle.std.specs.Option.{IfSome}
use Rattle.svr_postpage.specs.declared.pair.Pair.{Pair}
use Rattle.svr_long.specs.Cursor.{first_key_of}
use Rattle.svr_long.specs.Heads.{heads}
use Rattle.svr_long.proofs.Firsts.{first_fits, next_fits, none_left}
use Rattle.svr_long.proofs.cursor.LongCursorLongSource.next_key.Goals as goal

pub returns-in-Some-clause-within : goal.returns-in-Some-clause-within
returns-in-Some-clause-within c =
    let found : slice_get c.args.self.now.buffer 0 ≡ Some c.in-Some.pair = search rules in
    first_fits c.args.self.now.buffer (heads (drop c.args.self.now.at c.args.self.now.pages.now)) c.in-Some.pair c.args.self.now.in_order found

pub returns-in-None-clause-key : goal.returns-in-None-clause-key
returns-in-None-clause-key c =
    let none : slice_get c.args.self.now.buffer 0 ≡ None = search rules in
    c.key_at.ensures
    ∙ ap (λ (ps : List Pair). first_key_of (ps ++ heads (drop c.args.self.now.at c.args.self.now.pages.now))) (sym (none_left c.args.self.now.buffer none))

pub returns-in-None-clause-within : goal.returns-in-None-clause-within
returns-in-None-clause-within c =
    let none : slice_get c.args.self.now.buffer 0 ≡ None = search rules in
    let rest : List Pair = heads (drop c.args.self.now.at c.args.self.now.pages.now) in
    let key : c.key_at.result ≡ first_key_of (c.args.self.now.buffer ++ rest) =
    c.key_at.ensures ∙ ap (λ (ps : List Pair). first_key_of (ps ++ rest)) (sym (none_left c.args.self.now.buffer none)) in
    subst (λ (o : Option ℕ). IfSome o (λ key. key < 2 ^ 48)) (sym key) (next_fits (c.args.self.now.buffer ++ rest) c.args.self.now.in_order)
