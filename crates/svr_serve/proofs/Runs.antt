-- Runs that go on by one turn.
use Rattle.std.proofs.Common.{◌≡◌, ◌⊎◌, ℕ, false, List, [], ◌∷◌, ◌++◌, flat_map, inl, inr, take}
use Rattle.std.proofs.Common.{refl, sym, ap, ◌∙◌, subst, arith, zero, suc, append_assoc, append-nil, Contains}
use Rattle.std.proofs.lemmas.Bool.{false≢true}
use Rattle.std.proofs.lemmas.List.{take_all}
use Rattle.svr_core.specs.Reads.{ReadsIfSearch}
use Rattle.svr_core.specs.Run.{IsRun, IsTurn, Turn, closes, doubtful, kept, reads_of, records_of, state_in_end, state_then}
use Rattle.svr_core.specs.State.{State}
use Rattle.svr_core.proofs.Runs.{flat_map-more, going_is_sure}
use Rattle.svr_request.specs.Requests.{Submitted}
use Rattle.svr_serve.specs.Program.{GoesOn, ReadAsNeeded, line_of, lines_of, requests_in}

-- ---- lists of turns

pub lines_of-more : (ts : List Turn) (t : Turn) → lines_of (ts ++ t ∷ []) ≡ lines_of ts ++ line_of t
lines_of-more ts t = flat_map-more line_of ts t

pub kept-more : (ts : List Turn) (t : Turn) → flat_map kept (ts ++ t ∷ []) ≡ flat_map kept ts ++ kept t
kept-more ts t = flat_map-more kept ts t

pub doubtful-more : (ts : List Turn) (t : Turn) → flat_map doubtful (ts ++ t ∷ []) ≡ flat_map doubtful ts ++ doubtful t
doubtful-more ts t = flat_map-more doubtful ts t

pub requests_in-more : (ts : List Turn) (t : Turn) → requests_in (ts ++ t ∷ []) ≡ requests_in ts ++ t.request ∷ []
requests_in-more [] t = refl
requests_in-more (u ∷ ts) t = ap (λ (rs : List Submitted). u.request ∷ rs) (requests_in-more ts t)

pub GoesOn-more : (ts : List Turn) (t : Turn) → GoesOn ts → closes t.reply ≡ false → GoesOn (ts ++ t ∷ [])
GoesOn-more [] t going is = (is, tt)
GoesOn-more (u ∷ ts) t going is = (going.0, GoesOn-more ts t going.1 is)

-- a closing reply comes last
pub GoesOn-last : (ts : List Turn) (t : Turn) → GoesOn (ts ++ t ∷ []) → closes t.reply ≡ false
GoesOn-last [] t going = going.0
GoesOn-last (u ∷ ts) t going = GoesOn-last ts t going.1

-- the first turns of one more are the first ones of those before, or all
pub take-more : (n : ℕ) (ts : List Turn) (t : Turn)
    → (take n (ts ++ t ∷ []) ≡ take n ts) ⊎ (take n (ts ++ t ∷ []) ≡ ts ++ t ∷ [])
take-more zero ts t = inl refl
take-more (suc n) [] t = inr (ap (λ (xs : List Turn). t ∷ xs) (take_all n [] (omega arith)))
take-more (suc n) (u ∷ ts) t = elim (take-more n ts t) [
  | inl same ↦ inl (ap (λ (xs : List Turn). u ∷ xs) same)
  | inr all ↦ inr (ap (λ (xs : List Turn). u ∷ xs) all)
]

-- ---- records

pub kept_all : (ts : List Turn) → GoesOn ts → flat_map kept ts ≡ records_of ts
kept_all [] going = refl
kept_all (t ∷ ts) going = rw (going_is_sure t.reply going.0) (ap (λ (xs : List (List ℕ)). t.added ++ xs) (kept_all ts going.1))

pub doubts_none : (ts : List Turn) → GoesOn ts → flat_map doubtful ts ≡ []
doubts_none [] going = refl
doubts_none (t ∷ ts) going = rw (going_is_sure t.reply going.0) (doubts_none ts going.1)

-- ---- runs

pub IsRun-none : (kept : Type 0) (s : State) → IsRun kept s []
unfolding IsRun
IsRun-none kept s = tt

pub IsRun-more : (kept : Type 0) (s : State) (ts : List Turn) (t : Turn) → IsRun kept s ts → GoesOn ts → IsTurn kept (state_in_end s ts) t
    → IsRun kept s (ts ++ t ∷ [])
unfolding IsRun
IsRun-more kept s [] t run going is = (is, λ closed. refl, tt)
IsRun-more kept s (u ∷ ts) t run going is =
    (run.0, λ closed. absurd (false≢true (sym going.0 ∙ closed)), IsRun-more kept (state_then s u) ts t run.2 going.1 is)

-- ---- reads

pub ReadAsNeeded-none : (known : Type 0) (cache : ℕ) (s : State) (before : List ℕ) → ReadAsNeeded known cache s before []
unfolding ReadAsNeeded
ReadAsNeeded-none known cache s before = tt

pub ReadAsNeeded-more : (known : Type 0) (cache : ℕ) (s : State) (before : List ℕ) (ts : List Turn) (t : Turn) → ReadAsNeeded known cache s before ts
    → (known → ReadsIfSearch (Contains (before ++ reads_of ts)) cache (state_in_end s ts) t) → ReadAsNeeded known cache s before (ts ++ t ∷ [])
unfolding ReadAsNeeded
ReadAsNeeded-more known cache s before [] t reads is =
    (subst (λ (l : List ℕ). known → ReadsIfSearch (Contains l) cache s t) (append-nil before) is, tt)
ReadAsNeeded-more known cache s before (u ∷ ts) t reads is = (
  reads.0,
  ReadAsNeeded-more known cache (state_then s u) (before ++ u.reads) ts t reads.1
      (subst (λ (l : List ℕ). known → ReadsIfSearch (Contains l) cache (state_in_end (state_then s u) ts) t)
      (sym (append_assoc before u.reads (reads_of ts))) is),
)

pub ReadAsNeeded-by : (known more : Type 0) → (more → known) → (cache : ℕ) (s : State) (before : List ℕ) (ts : List Turn)
    → ReadAsNeeded known cache s before ts → ReadAsNeeded more cache s before ts
unfolding ReadAsNeeded
ReadAsNeeded-by known more knows cache s before [] reads = tt
ReadAsNeeded-by known more knows cache s before (t ∷ ts) reads =
    ((λ is. reads.0 (knows is)), ReadAsNeeded-by known more knows cache (state_then s t) (before ++ t.reads) ts reads.1)
