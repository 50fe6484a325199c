use Rattle.std.proofs.Common.{rules, ◌≡◌, ℕ, ◌<◌, true, false, length, get_or}
use Rattle.svr_postpage.specs.Layout.{has_layout}
use Rattle.svr_postpage.proofs.ByLayout.{counted, found_at, has_a_pair, not_found}
use Rattle.svr_postpage.proofs.codec.read_page.Goals as goal

pub returns-then-not-has_layout-clause-not_a_page : goal.returns-then-not-has_layout-clause-not_a_page
returns-then-not-has_layout-clause-not_a_page c =
    let long : length c.args.bytes.now ≡ 4096 = search rules in
    let small : (i : ℕ) → get_or c.args.bytes.now i 0 < 256 = search rules in
    let fails : has_layout c.get_u16-count.result c.args.bytes.now ≡ false = search rules in
    not_found c.get_u16-count.result c.args.bytes.now long small c.get_u16-count.ensures fails

pub returns-clause-page : goal.returns-clause-page
returns-clause-page c =
    let long : length c.args.bytes.now ≡ 4096 = search rules in
    let small : (i : ℕ) → get_or c.args.bytes.now i 0 < 256 = search rules in
    let holds : has_layout c.get_u16-count.result c.args.bytes.now ≡ true = search rules in
    found_at c.get_u16-count.result c.args.at c.args.bytes.now c.get_pair-first.result long small c.get_u16-count.ensures holds
    c.get_pair-first.ensures

pub returns-clause-not_empty : goal.returns-clause-not_empty
returns-clause-not_empty c =
    let holds : has_layout c.get_u16-count.result c.args.bytes.now ≡ true = search rules in
    has_a_pair c.get_u16-count.result c.args.bytes.now holds

pub returns-clause-count : goal.returns-clause-count
returns-clause-count c =
    let long : length c.args.bytes.now ≡ 4096 = search rules in
    let small : (i : ℕ) → get_or c.args.bytes.now i 0 < 256 = search rules in
    let holds : has_layout c.get_u16-count.result c.args.bytes.now ≡ true = search rules in
    counted c.get_u16-count.result c.args.bytes.now long small c.get_u16-count.ensures holds
