-- What an append, and what reads leave of the records of a state.
use Rattle.std.proofs.Common.{◌≡◌, ◌<◌, ◌≤◌, ℕ, List, [], ◌∷◌, ◌++◌, refl, ap, sym, subst, ◌∙◌, ⊎_elim, arith, append-nil, append_assoc}
use Rattle.svr_edge.specs.Disk.{DiskView, IsDisk, IsImage, Leaves, Stays}
use Rattle.svr_edge.proofs.DiskLemmas.{Leaves-weaker, images_after}
use Rattle.svr_journal.specs.File.{StandsFor, StandsForSome, end_of}
use Rattle.svr_journal.specs.Keeping.{IsSafe, IsStored}
use Rattle.svr_store.specs.Store.{Keeps}

module _ (old new : DiskView) (bodies : List (List ℕ)) (start : ℕ) (at_end : start ≡ end_of bodies)
    (frame body : List ℕ) (same : frame ≡ body) where
  stored_there : Keeps old bodies → IsStored old start bodies
  stored_there kept = subst (λ (n : ℕ). IsStored old n bodies) (sym at_end) kept.stored

  pub any_moment : ((bs : List (List ℕ)) → IsStored old start bs → IsSafe old bs → Leaves old new (StandsForSome bs (frame ∷ [])))
      → Keeps old bodies → Leaves old new (StandsForSome bodies (body ∷ []))
  any_moment span kept = subst (λ (b : List ℕ). Leaves old new (StandsForSome bodies (b ∷ []))) same (span bodies (stored_there kept) kept.safe)

  pub keeps : (end : ℕ) → ((bs : List (List ℕ)) → IsStored old start bs → IsStored new end (bs ++ frame ∷ []))
      → ((bs : List (List ℕ)) → IsStored old start bs → IsSafe old bs → IsSafe new (bs ++ frame ∷ []))
      → Keeps old bodies → Keeps new (bodies ++ body ∷ [])
  keeps end stored safe kept =
      let now = stored bodies (stored_there kept) in
      let all : Keeps new (bodies ++ frame ∷ []) = record {
        stored = subst (λ (n : ℕ). IsStored new n (bodies ++ frame ∷ [])) now.at_end now;
        safe = safe bodies (stored_there kept) kept.safe;
      } in
      subst (λ (b : List ℕ). Keeps new (bodies ++ b ∷ [])) same all

pub fits_unless : (size limit : ℕ) → (limit < size → ⊥) → size ≤ limit
fits_unless size limit not_more = omega (arith, not_more)

-- ---- reads

pub leaves_read : (old new : DiskView) (P : List ℕ → Type 0) → Stays old new → Leaves old new P
leaves_read old new P stays = Leaves-weaker old new (λ _. ⊥) P stays.images (λ image none. absurd none)

-- what is read is kept
pub keeps_read : (old new : DiskView) → IsDisk new → (bodies : List (List ℕ)) → Stays old new → Keeps old bodies → Keeps new bodies
keeps_read old new laws bodies stays kept = record {
  stored = record {
    bytes = kept.stored.bytes;
    reads = stays.content ∙ kept.stored.reads;
    stands = kept.stored.stands;
    at_end = kept.stored.at_end;
  };
  safe = λ image there. ⊎_elim (λ before. kept.safe image before) (λ none. absurd none)
      (images_after old new (λ _. ⊥) laws stays.images image there);
}

-- ---- spans of records

-- some of the first are some of all
pub some_more : (bodies xs ys : List (List ℕ)) (image : List ℕ) → StandsForSome bodies xs image → StandsForSome bodies (xs ++ ys) image
some_more bodies xs ys image s = record {
  taken = s.taken;
  left_out = s.left_out ++ ys;
  split = ap (λ (zs : List (List ℕ)). zs ++ ys) s.split ∙ append_assoc s.taken s.left_out ys;
  stands = s.stands;
}

-- all of the first and some of the others are some of all
pub some_behind : (bodies xs ys : List (List ℕ)) (image : List ℕ) → StandsForSome (bodies ++ xs) ys image → StandsForSome bodies (xs ++ ys) image
some_behind bodies xs ys image s = record {
  taken = xs ++ s.taken;
  left_out = s.left_out;
  split = ap (λ (zs : List (List ℕ)). xs ++ zs) s.split ∙ sym (append_assoc xs s.taken s.left_out);
  stands = subst (λ (zs : List (List ℕ)). StandsFor image zs) (append_assoc bodies xs s.taken) s.stands;
}

-- all, and none of no more
pub some_of_none : (bodies : List (List ℕ)) (image : List ℕ) → StandsFor image bodies → StandsForSome bodies [] image
some_of_none bodies image stands = record {
  taken = [];
  left_out = [];
  split = refl;
  stands = subst (λ (zs : List (List ℕ)). StandsFor image zs) (sym (append-nil bodies)) stands;
}

-- none of them
pub some_left_out : (bodies xs : List (List ℕ)) (image : List ℕ) → StandsFor image bodies → StandsForSome bodies xs image
some_left_out bodies xs image stands = record {
  taken = [];
  left_out = xs;
  split = refl;
  stands = subst (λ (zs : List (List ℕ)). StandsFor image zs) (sym (append-nil bodies)) stands;
}

-- the records of a write that failed may be there or not
pub some_in_doubt : (old new : DiskView) → IsDisk new → (bodies added : List (List ℕ)) → Keeps old bodies
    → Leaves old new (StandsForSome bodies added) → (image : List ℕ) → IsImage new image → StandsForSome bodies added image
some_in_doubt old new laws bodies added keeps leaves image there =
    ⊎_elim (λ before. some_left_out bodies added image (keeps.safe image before)) (λ some. some)
    (images_after old new (StandsForSome bodies added) laws leaves image there)
