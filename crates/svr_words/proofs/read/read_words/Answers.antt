use Rattle.std.proofs.Common.{arith, ◌≡◌, ◌≢◌, ◌↔◌, ◌∙◌, sym, List, ℕ, false, map, string_bytes, Option, Some, None, Err, IfOk, IsErrOf}
use Rattle.std.proofs.lemmas.Result.{err_from_is_err_and}
use Rattle.std.specs.Option.{ok_or}
use Rattle.clap.specs.Words.{kind_of}
use Rattle.clap.specs.declared.error.Error.{Error}
use Rattle.clap.specs.declared.error.kind.ErrorKind.TheVariants as kind
use Rattle.svr_words.specs.Command.{is_taken}
use Rattle.svr_words.specs.Words.{words_in}
use Rattle.svr_words.specs.declared.fault.WordsFault.{WordsFault}
use Rattle.svr_words.specs.declared.fault.WordsFault.TheVariants as fault
use Rattle.svr_words.specs.declared.words.Words.{Words}
use Rattle.svr_words.proofs.Readings.{words_in-found, words_in-refused}
use Rattle.svr_words.proofs.read.read_words.Goals as goal

-- an error of the command that is told as no reading
refused : (words : List (List ℕ)) (e : Error) (why : WordsFault) → ((why ≡ fault.Memory) ↔ (kind_of e ≡ kind.OutOfMemory))
    → (kind_of e ≢ kind.OutOfMemory → is_taken words ≡ false)
    → IsErrOf {T = Words} (Err why) fault.NoReading → words_in words ≡ None
refused words e fault.NoReading given other none_read = words_in-refused words (other (λ memory. let same = given.1 memory in grind arith))
refused words e fault.Memory given other none_read = absurd (grind arith)

-- a reading, or none, as the result that it is made of
read : (o asked : Option Words) → o ≡ asked → IfOk (ok_or o fault.NoReading) (λ w. asked ≡ Some w)
read (Some w) asked is = sym is
read None asked is = tt

none : (o asked : Option Words) → o ≡ asked → IsErrOf (ok_or o fault.NoReading) fault.NoReading → asked ≡ None
none (Some w) asked is none_read = absurd (grind arith)
none None asked is _ = sym is

-- what MODE, N and PAGES ask for is what the words ask for
asks : (c : goal.Joined-matches) → c.reading-reading.result ≡ words_in (map string_bytes c.args.words.now)
asks c =
    c.reading-reading.ensures
    ∙ words_in-found (map string_bytes c.args.words.now) c.in_ok-matches.matches _ _ _ c.in_ok-matches.ensures.ok
    c.get_str.ensures c.get_str-2.ensures c.get_str-3.ensures

pub returns-in_err-matches-clause-none : goal.returns-in_err-matches-clause-none
returns-in_err-matches-clause-none c =
    let p = err_from_is_err_and c.from_residual.result c.from_residual.ensures.1 in
    rw p.1 (refused (map string_bytes c.args.words.now) c.in_err-matches.field-0.0 p.0 p.2 c.in_err-matches.ensures.err)

pub returns-clause-read : goal.returns-clause-read
returns-clause-read c = rw c.ok_or.ensures.value (read c.reading-reading.result _ (asks c))

pub returns-clause-none : goal.returns-clause-none
returns-clause-none c = rw c.ok_or.ensures.value (none c.reading-reading.result _ (asks c))
