use Rattle.std.proofs.Common.{rules, ◌≡◌, ◌∙◌, None, Some, IsErr, IsOk, refl, subst, sym}
use Rattle.svr_postpage.specs.Wanted.{damage_in}
use Rattle.svr_postpage.proofs.Undamaged.{damage_in-found}
use Rattle.svr_pages.specs.Cached.{MayKeep}
use Rattle.svr_pages.proofs.AfterRead.{at-found, not_a_page, read_failed, read_ok}
use Rattle.svr_pages.proofs.reader.read.Goals as goal

pub returns-then-is_err : goal.returns-then-is_err
returns-then-is_err g c =
    let err : IsErr c.read_at.result = search rules in (
      read_failed c.args.want.now.at (g.D.Disk.view c.args.disk.now) (g.D.Disk.view c.read_at.new.self) _ c.read_at.result (search rules) err
          c.read_at.ensures.stays c.read_at.ensures.trace_failed c.read_at.ensures.cause,
      refl,
    )

pub returns-in_default : goal.returns-in_default
returns-in_default g c =
    let ok : IsOk c.read_at.result = search rules in
    let read = read_ok c.args.want.now.at (g.D.Disk.view c.args.disk.now) (g.D.Disk.view c.read_at.new.self) c.read_at.new.into _
    c.read_at.result (search rules) ok c.read_at.ensures.stays c.read_at.ensures.trace c.read_at.ensures.bytes c.read_at.ensures.cause in
    (read.0, read.1, not_a_page c.args.want.now c.read_at.new.into c.in_default.ensures.not_a_page, refl, refl)

pub returns-in-Some : goal.returns-in-Some
returns-in-Some g c =
    let ok : IsOk c.read_at.result = search rules in
    let read = read_ok c.args.want.now.at (g.D.Disk.view c.args.disk.now) (g.D.Disk.view c.read_at.new.self) c.read_at.new.into _
    c.read_at.result (search rules) ok c.read_at.ensures.stays c.read_at.ensures.trace c.read_at.ensures.bytes c.read_at.ensures.cause in
    let is : damage_in c.args.want.now c.read_at.new.into ≡ Some c.in-Some.why =
    damage_in-found c.args.want.now c.in-Ok.found c.read_at.new.into c.in-Ok.ensures.page ∙ sym c.damage_by_head.ensures ∙ c.in-Some.is in
    (read.0, read.1, is, refl, refl)

pub returns : goal.returns
returns g c =
    let ok : IsOk c.read_at.result = search rules in
    let read = read_ok c.args.want.now.at (g.D.Disk.view c.args.disk.now) (g.D.Disk.view c.read_at.new.self) c.read_at.new.into _
    c.read_at.result (search rules) ok c.read_at.ensures.stays c.read_at.ensures.trace c.read_at.ensures.bytes c.read_at.ensures.cause in
    let is : damage_in c.args.want.now c.read_at.new.into ≡ None =
    damage_in-found c.args.want.now c.in-Ok.found c.read_at.new.into c.in-Ok.ensures.page
    ∙ sym c.damage_by_head.ensures
    ∙ c.in_default-damage_by_head.is in
    let same = at-found c.args.want.now.at _ c.in-Ok.found c.in-Ok.ensures.page in (
      read.0,
      read.1,
      is,
      subst (λ at. MayKeep at c.read_at.new.into c.args.pages.now c.keep.new.self) same c.keep.ensures,
    )
