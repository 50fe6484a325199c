-- What a use leaves of a cache: the same pages in another order.
use Rattle.std.proofs.Common.{◌≡◌, ℕ, zero, suc, ◌+◌, Bool, true, false, cond, nat_eq, List, [], ◌∷◌, length, take, Option, None, Some, refl, sym, ap, subst, ◌∙◌, arith, eqb-true}
use Rattle.std.specs.Map.{lookup, lookup_entry, remove_entry}
use Rattle.std.specs.Option.{IsSome, option_map_or}
use Rattle.lru.specs.LruCache.{promoted}
use Rattle.lru.proofs.CallerLemmas.{Contains-lookup_entry}
use Rattle.svr_pages.specs.Cached.{CachedPages, cached_at, used}

module _ {V : Type 0} where
  -- one entry fewer, if one passes
  removed_length : (test : ℕ → Bool) (es : List (ℕ × V)) (e : ℕ × V) → lookup_entry test es ≡ Some e
      → length (remove_entry test es) + 1 ≡ length es
  removed_length test [] e is = absurd (cc)
  removed_length test (f ∷ es) e is = (elim (test f.0) as (λ b. test f.0 ≡ b → length (remove_entry test (f ∷ es)) + 1 ≡ length (f ∷ es)) [
    | true ↦ λ t. rw t (omega arith)
    | false ↦ λ t.
        let rest = removed_length test es e (rw t at is) in
        rw t (omega (arith, rest))
  ]) refl

  in_front_length : (test : ℕ → Bool) (es : List (ℕ × V)) (o : Option (ℕ × V)) → lookup_entry test es ≡ o
      → length (option_map_or (λ e. e ∷ remove_entry test es) o es) ≡ length es
  in_front_length test es None is = refl
  in_front_length test es (Some e) is = omega (arith, removed_length test es e is)

  -- as many as before
  pub length-promoted : (test : ℕ → Bool) (es : List (ℕ × V)) → length (promoted test es) ≡ length es
  length-promoted test es = in_front_length test es (lookup_entry test es) refl

  -- what another key has isn't touched
  lookup-others : (q test : ℕ → Bool) (es : List (ℕ × V)) → ((k : ℕ) → test k ≡ true → q k ≡ false)
      → lookup q (remove_entry test es) ≡ lookup q es
  lookup-others q test [] apart = refl
  lookup-others q test (f ∷ es) apart = (elim (test f.0) as (λ b. test f.0 ≡ b → lookup q (remove_entry test (f ∷ es)) ≡ lookup q (f ∷ es)) [
    | true ↦ λ t. rw (t, apart f.0 t) refl
    | false ↦ λ t. rw t (ap (λ (o : Option V). cond (q f.0) (Some f.1) o) (lookup-others q test es apart))
  ]) refl

  -- the entry that a look-up finds has its value
  lookup-own : (test : ℕ → Bool) (es : List (ℕ × V)) (e : ℕ × V) → lookup_entry test es ≡ Some e → lookup test es ≡ Some e.1
  lookup-own test [] e is = absurd (cc)
  lookup-own test (f ∷ es) e is = (elim (test f.0) as (λ b. test f.0 ≡ b → lookup test (f ∷ es) ≡ Some e.1) [
    | true ↦ λ t.
        let is_it : Some f ≡ Some e = rw t at is in
        let same : f ≡ e = cc in
        rw t (ap (λ (x : ℕ × V). Some x.1) same)
    | false ↦ λ t. rw t (lookup-own test es e (rw t at is))
  ]) refl

  -- a look-up at any address, after the page at one went in front
  in_front_lookup : (a at : ℕ) (es : List (ℕ × V)) (o : Option (ℕ × V)) → lookup_entry (nat_eq at) es ≡ o
      → lookup (nat_eq a) (option_map_or (λ e. e ∷ remove_entry (nat_eq at) es) o es) ≡ lookup (nat_eq a) es
  in_front_lookup a at es None is = refl
  in_front_lookup a at es (Some e) is =
      let passes : nat_eq at e.0 ≡ true = (Contains-lookup_entry (nat_eq at) es e is).1 in
      let key : at ≡ e.0 = eqb-true at e.0 passes in
      (elim (nat_eq a e.0) as (λ b. nat_eq a e.0 ≡ b
      → cond (nat_eq a e.0) (Some e.1) (lookup (nat_eq a) (remove_entry (nat_eq at) es)) ≡ lookup (nat_eq a) es) [
        | true ↦ λ t.
            let same : at ≡ a = key ∙ sym (eqb-true a e.0 t) in
            rw t (sym (subst (λ k. lookup (nat_eq k) es ≡ Some e.1) same (lookup-own (nat_eq at) es e is)))
        | false ↦ λ t.
            rw t (lookup-others (nat_eq a) (nat_eq at) es (λ k passes_too.
            let same : e.0 ≡ k = sym key ∙ eqb-true at k passes_too in
            subst (λ n. nat_eq a n ≡ false) same t))
      ]) refl

  -- what is found in front is found in all
  pub found-front : (test : ℕ → Bool) (n : ℕ) (es : List (ℕ × V)) → IsSome (lookup test (take n es)) → IsSome (lookup test es)
  found-front test zero es there = absurd (cc)
  found-front test (suc n) [] there = there
  found-front test (suc n) (e ∷ es) there = (elim (test e.0) as (λ b. test e.0 ≡ b → IsSome (lookup test (e ∷ es))) [
    | true ↦ λ t. rw t refl
    | false ↦ λ t. rw t (found-front test n es (rw t at there))
  ]) refl

-- each address has what it had, after a page went in front
pub cached_at-used : (a at : ℕ) (c : CachedPages) → cached_at a (used at c) ≡ cached_at a c
cached_at-used a at c = in_front_lookup a at c.pages (lookup_entry (nat_eq at) c.pages) refl
