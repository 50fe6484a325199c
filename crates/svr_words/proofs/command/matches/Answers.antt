use Rattle.std.proofs.Common.{rules, arith, ap, ap₂, refl, true, false, map, ◌≡◌, ◌≢◌, ◌∙◌, inl, inr, subst, List, ℕ, [], ◌∷◌, Ok, Err, IfOk, IfErr, string_bytes}
use Rattle.std.specs.declared.result.Result.{Result}
use Rattle.clap.specs.Words.{FailsBy, HasKind, HasMatchesOf, Kinds, app_of, fault_of, is_simple, is_simple_and_free, kind_of, rule_of, with_rule}
use Rattle.clap.specs.declared.error.Error.{Error}
use Rattle.clap.specs.declared.error.kind.ErrorKind.TheVariants as kind
use Rattle.clap.specs.declared.parser.matches.ArgMatches.{ArgMatches}
use Rattle.clap.proofs.OnLiterals.{clap_on_literals}
use Rattle.svr_words.specs.Command.{cache, is_taken, mode, number, svr}
use Rattle.svr_words.specs.Layout.{Finds}
use Rattle.svr_words.proofs.command.matches.Goals as goal

-- `clap` says exactly what the command takes, and what it finds
is_free_svr : is_simple_and_free svr ≡ true
unfolding clap_on_literals
is_free_svr = refl

is_simple_svr : is_simple svr ≡ true
unfolding clap_on_literals
is_simple_svr = refl

-- no error may come, or one that isn't want of memory has come
no_fault : (words : List (List ℕ)) → fault_of svr words ≡ [] → is_taken words ≡ true
no_fault words none = rw none refl

fault : (words : List (List ℕ)) (kinds : Kinds) (e : Error) → fault_of svr words ≡ kinds → HasKind kinds e
    → kind_of e ≢ kind.OutOfMemory → is_taken words ≡ false
fault words [] e is (inl memory) other = absurd (other memory)
fault words [] e is (inr none) other = absurd none
fault words (k ∷ kinds) e is has other = rw is (grind arith)

-- what the parse of the words gives
finds : (words : List (List ℕ)) (r : Result ArgMatches Error) → FailsBy (fault_of svr words) r
    → IfOk r (HasMatchesOf svr words) → IfOk r (Finds words)
finds words (Ok m) none has = record { taken = no_fault words none; rows = (has is_simple_svr).0 }
finds words (Err e) fails has = tt

refused : (words : List (List ℕ)) (r : Result ArgMatches Error) → FailsBy (fault_of svr words) r
    → IfErr r (λ e. kind_of e ≢ kind.OutOfMemory → is_taken words ≡ false)
refused words (Ok m) none = tt
refused words (Err e) has = fault words (fault_of svr words) e refl has

-- the command that is built is the one of the definition
is_svr : (c : goal.After-try_get_matches_from) → app_of c.in_ok-command.command ≡ svr
is_svr c =
    let mode_is : rule_of c.required-mode.result ≡ mode = search rules in
    let number_is : rule_of c.new-number.result ≡ number = search rules in
    let cache_is : rule_of c.long-cache.result ≡ cache = search rules in
    c.in_ok-command.ensures.shape (search rules)
    ∙ ap₂ with_rule (c.in_ok-arg-2.ensures.shape (search rules)
    ∙ ap₂ with_rule (c.in_ok-arg.ensures.shape (search rules)
    ∙ ap₂ with_rule c.new-3.ensures.app mode_is) number_is) cache_is

fails_by : (c : goal.After-try_get_matches_from) → FailsBy (fault_of svr (map string_bytes c.args.words.now)) c.try_get_matches_from.result
fails_by c =
    subst (λ a. FailsBy (fault_of a (map string_bytes c.args.words.now)) c.try_get_matches_from.result) (is_svr c)
    (c.try_get_matches_from.ensures.kinds (ap is_simple_and_free (is_svr c) ∙ is_free_svr))

pub returns-clause-ok : goal.returns-clause-ok
returns-clause-ok c =
    finds (map string_bytes c.args.words.now) c.try_get_matches_from.result (fails_by c)
    (subst (λ a. IfOk c.try_get_matches_from.result (HasMatchesOf a (map string_bytes c.args.words.now))) (is_svr c)
    c.try_get_matches_from.ensures.matches)

pub returns-clause-err : goal.returns-clause-err
returns-clause-err c = refused (map string_bytes c.args.words.now) c.try_get_matches_from.result (fails_by c)
