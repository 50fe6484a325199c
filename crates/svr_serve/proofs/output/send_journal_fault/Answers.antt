use Rattle.std.proofs.Common.{◌≡◌, List, ℕ, codes, ◌++◌, ◌∙◌, sym, ap, ap₂, append_assoc, OnOk, Result, Ok, Err}
use Rattle.std.proofs.KnownBytes.{Appends-trans}
use Rattle.std.proofs.lemmas.Result.{err_from_is_err_and}
use Rattle.std.specs.Fmt.{decimal}
use Rattle.svr_serve.specs.Program.{IsPrefix}
use Rattle.svr_serve.proofs.output.send_journal_fault.Goals as goal

-- a beginning of the first piece, and of one behind another
of_first : (front piece rest : List ℕ) → IsPrefix front piece → IsPrefix front (piece ++ rest)
of_first front piece rest p = (p.0 ++ rest, ap (λ xs. xs ++ rest) p.1 ∙ append_assoc front p.0 rest)

behind : (first before front piece : List ℕ) → first ≡ before → IsPrefix front piece → IsPrefix (first ++ front) (before ++ piece)
behind first before front piece is p =
    (p.0, ap₂ (λ xs ys. xs ++ ys) (sym is) p.1 ∙ sym (append_assoc first front p.0))

on_ok : {E : Type 0} (r : Result (Unit {0}) E) (P Q : Type 0) → (P → Q) → OnOk r P → OnOk r Q
on_ok (Ok u) P Q f p = f p
on_ok (Err e) P Q f p = tt

abbrev head : List ℕ
head = codes "{\"fault\":\"journal\",\"at\":"

abbrev tail : List ℕ
tail = codes "}\n"

pub returns-in_err-write_all-clause-bytes : goal.returns-in_err-write_all-clause-bytes
returns-in_err-write_all-clause-bytes g c =
    let w = c.write_all.ensures.bytes in
    let p = err_from_is_err_and c.from_residual.result c.from_residual.ensures.1 in
    (w.0, of_first w.0 head (decimal c.args.at ++ tail) w.1, w.2, rw p.1 tt)

pub returns-in_err-write_all-2-clause-bytes : goal.returns-in_err-write_all-2-clause-bytes
returns-in_err-write_all-2-clause-bytes g c =
    let first = c.in_ok-write_all.ensures.bytes in
    let w = c.write_all-2.ensures.bytes in
    let digits : c.as_bytes.result.now ≡ decimal c.args.at = c.as_bytes.ensures.value ∙ c.format.ensures.text in
    let part : IsPrefix w.0 (decimal c.args.at) = (w.1.0, sym digits ∙ w.1.1) in
    let p = err_from_is_err_and c.from_residual-in_err-write_all-2.result c.from_residual-in_err-write_all-2.ensures.1 in (
      first.0 ++ w.0,
      behind first.0 head w.0 (decimal c.args.at ++ tail) first.3 (of_first w.0 (decimal c.args.at) tail part),
      Appends-trans _ _ _ first.0 w.0 first.2 w.2,
      rw p.1 tt,
    )

pub returns-clause-bytes : goal.returns-clause-bytes
returns-clause-bytes g c =
    let first = c.in_ok-write_all.ensures.bytes in
    let second = c.in_ok-write_all-2.ensures.bytes in
    let w = c.send.ensures.bytes in
    let digits : second.0 ≡ decimal c.args.at = second.3 ∙ c.as_bytes.ensures.value ∙ c.format.ensures.text in (
      first.0 ++ (second.0 ++ w.0),
      behind first.0 head (second.0 ++ w.0) (decimal c.args.at ++ tail) first.3 (behind second.0 (decimal c.args.at) w.0 tail digits w.1),
      Appends-trans _ _ _ first.0 (second.0 ++ w.0) first.2 (Appends-trans _ _ _ second.0 w.0 second.2 w.2),
      on_ok c.send.result _ _ (λ is. ap₂ (λ xs ys. xs ++ ys) first.3 (ap₂ (λ xs ys. xs ++ ys) digits is)) w.3,
    )
