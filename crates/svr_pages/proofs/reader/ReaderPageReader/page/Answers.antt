use Rattle.std.proofs.Common.{rules, ◌≡◌, ◌∙◌, false, true, ap, inl, inr, refl, subst, sym}
use Rattle.std.proofs.lemmas.Result.{IfErr-weaker, on_ok_weaker}
use Rattle.svr_postpage.proofs.Undamaged.{damage_in-found}
use Rattle.svr_pages.specs.Asked.{IsReady}
use Rattle.svr_pages.specs.Cached.{CachedPages, cached_at}
use Rattle.svr_pages.specs.Layout.{ReadsPage}
use Rattle.svr_pages.specs.Told.{Fails-tells, past_is_none, read_is_told}
use Rattle.svr_pages.proofs.AfterRead.{reads-bytes, reads-fails, reads-gives, reads-ready}
use Rattle.svr_pages.proofs.Finding.{used-none}
use Rattle.svr_pages.proofs.Telling.{cached_is_read, ready-used, says_fault, says_page}
use Rattle.svr_pages.proofs.reader.ReaderPageReader.page.Goals as goal

pub returns-then-not-ends_within-clause-damaged : goal.returns-then-not-ends_within-clause-damaged
returns-then-not-ends_within-clause-damaged g c =
    let no : c.ends_within.result ≡ false = search rules in
    past_is_none c.args.self.now.reach (g.D.Disk.view c.args.self.now.disk.now).content c.args.want.now (c.ends_within.ensures.no no)

pub returns-in-Some-clause-ready : goal.returns-in-Some-clause-ready
returns-in-Some-clause-ready g c =
    subst (IsReady c.args.self.now.reach (g.D.Disk.view c.args.self.now.disk.now)) (sym c.find.ensures.used)
    (ready-used c.args.self.now.reach (g.D.Disk.view c.args.self.now.disk.now) c.args.self.now.pages.now c.args.want.now.at c.requires)

pub returns-in-Some-clause-gives : goal.returns-in-Some-clause-gives
returns-in-Some-clause-gives g c =
    let yes : c.ends_within.result ≡ true = search rules in
    let d = g.D.Disk.view c.args.self.now.disk.now in
    let is = damage_in-found c.args.want.now c.in-Some.found c.find.new.into c.in-Some.ensures.known in
    on_ok_weaker c.as_wanted.result (λ none. (
      record {
        bytes = c.find.new.into;
        wanted = is ∙ none;
        are_read = cached_is_read c.args.self.now.reach d c.args.self.now.pages.now c.args.want.now.at c.find.new.into c.requires
            c.in-Some.ensures.found;
        from = inl (record {
          within = c.ends_within.ensures.yes yes;
          cached = c.in-Some.ensures.found;
          same_disk = refl;
          in_front = c.find.ensures.used;
        });
      },
      refl,
      refl,
      refl,
    )) (says_page c.args.want.now _ c.as_wanted.result c.as_wanted.ensures)

pub returns-in-Some-clause-fails : goal.returns-in-Some-clause-fails
returns-in-Some-clause-fails g c =
    let yes : c.ends_within.result ≡ true = search rules in
    let d = g.D.Disk.view c.args.self.now.disk.now in
    let is = damage_in-found c.args.want.now c.in-Some.found c.find.new.into c.in-Some.ensures.known in
    says_fault c.args.want.now _ c.as_wanted.result _ c.as_wanted.ensures (λ why other. (
      (
        refl,
        inr (record {
          bytes = c.find.new.into;
          wrong = is ∙ other;
          are_read = cached_is_read c.args.self.now.reach d c.args.self.now.pages.now c.args.want.now.at c.find.new.into c.requires
              c.in-Some.ensures.found;
          from = inl (record {
            within = c.ends_within.ensures.yes yes;
            cached = c.in-Some.ensures.found;
            same_disk = refl;
            in_front = c.find.ensures.used;
          });
        }),
      ),
      refl,
      refl,
      refl,
    ))

pub returns-in-Some-clause-bytes : goal.returns-in-Some-clause-bytes
returns-in-Some-clause-bytes g c =
    let yes : c.ends_within.result ≡ true = search rules in
    let d = g.D.Disk.view c.args.self.now.disk.now in
    on_ok_weaker c.as_wanted.result (λ _. read_is_told c.args.self.now.reach d c.args.want.now.at c.find.new.into (c.ends_within.ensures.yes yes)
    (cached_is_read c.args.self.now.reach d c.args.self.now.pages.now c.args.want.now.at c.find.new.into c.requires c.in-Some.ensures.found))
    (says_page c.args.want.now _ c.as_wanted.result c.as_wanted.ensures)

pub returns-in-Some-clause-damaged : goal.returns-in-Some-clause-damaged
returns-in-Some-clause-damaged g c = IfErr-weaker c.as_wanted.result _ _ (λ why failed.
    Fails-tells g.D.Disk.view c.args.self.now.reach c.args.want.now c.args.self.now.disk.now c.args.self.now.disk.now c.args.self.now.pages.now
    c.find.new.self why failed.0) (returns-in-Some-clause-fails g c)

pub read-requires-clause-new : goal.read-requires-clause-new
read-requires-clause-new g c =
    let none = c.find.ensures.none c.in_default.is in
    ap (cached_at c.args.want.now.at) (c.find.ensures.used ∙ used-none c.args.want.now.at c.args.self.now.pages.now none) ∙ none

pub returns-clause-ready : goal.returns-clause-ready
returns-clause-ready g c =
    let none = c.find.ensures.none c.in_default.is in
    let same : c.find.new.self ≡ c.args.self.now.pages.now =
    c.find.ensures.used ∙ used-none c.args.want.now.at c.args.self.now.pages.now none in
    let d = g.D.Disk.view c.args.self.now.disk.now in
    let yes : c.ends_within.result ≡ true = search rules in
    reads-ready c.args.want.now d (g.D.Disk.view c.read.new.disk) c.find.new.self c.read.new.pages c.read.new.into c.args.self.now.reach
    c.read.result (c.ends_within.ensures.yes yes) c.read.ensures (subst (IsReady c.args.self.now.reach d) (sym same) c.requires)

pub returns-clause-gives : goal.returns-clause-gives
returns-clause-gives g c =
    let yes : c.ends_within.result ≡ true = search rules in
    let none = c.find.ensures.none c.in_default.is in
    let same : c.find.new.self ≡ c.args.self.now.pages.now =
    c.find.ensures.used ∙ used-none c.args.want.now.at c.args.self.now.pages.now none in
    let d = g.D.Disk.view c.args.self.now.disk.now in
    on_ok_weaker c.read.result (λ given. (given, refl, refl, refl))
    (reads-gives g.D.Disk.view c.args.self.now.reach c.args.want.now c.args.self.now.disk.now c.read.new.disk c.args.self.now.pages.now
    c.read.new.pages c.read.new.into (c.ends_within.ensures.yes yes) none c.read.result
    (subst (λ (p : CachedPages). ReadsPage c.args.want.now d (g.D.Disk.view c.read.new.disk) p c.read.new.pages c.read.new.into c.read.result)
    same c.read.ensures))

pub returns-clause-fails : goal.returns-clause-fails
returns-clause-fails g c =
    let yes : c.ends_within.result ≡ true = search rules in
    let none = c.find.ensures.none c.in_default.is in
    let same : c.find.new.self ≡ c.args.self.now.pages.now =
    c.find.ensures.used ∙ used-none c.args.want.now.at c.args.self.now.pages.now none in
    let d = g.D.Disk.view c.args.self.now.disk.now in
    IfErr-weaker c.read.result _ _ (λ why failed. (failed, refl, refl, refl))
    (reads-fails g.D.Disk.view c.args.self.now.reach c.args.want.now c.args.self.now.disk.now c.read.new.disk c.args.self.now.pages.now
    c.read.new.pages c.read.new.into (c.ends_within.ensures.yes yes) none c.read.result
    (subst (λ (p : CachedPages). ReadsPage c.args.want.now d (g.D.Disk.view c.read.new.disk) p c.read.new.pages c.read.new.into c.read.result)
    same c.read.ensures))

pub returns-clause-bytes : goal.returns-clause-bytes
returns-clause-bytes g c =
    let yes : c.ends_within.result ≡ true = search rules in
    let d = g.D.Disk.view c.args.self.now.disk.now in
    reads-bytes c.args.want.now d (g.D.Disk.view c.read.new.disk) c.find.new.self c.read.new.pages c.read.new.into _ c.read.result c.read.ensures
    (read_is_told c.args.self.now.reach d c.args.want.now.at c.read.new.into (c.ends_within.ensures.yes yes))

pub returns-clause-damaged : goal.returns-clause-damaged
returns-clause-damaged g c = IfErr-weaker c.read.result _ _ (λ why failed.
    Fails-tells g.D.Disk.view c.args.self.now.reach c.args.want.now c.args.self.now.disk.now c.read.new.disk c.args.self.now.pages.now
    c.read.new.pages why failed.0) (returns-clause-fails g c)
