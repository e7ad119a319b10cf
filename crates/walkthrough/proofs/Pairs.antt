-- A loop over two slices side by side: what is left of both, as one list of pairs. Assumes nothing.
use Rattle.std.proofs.Common.{◌≡◌, List, [], ◌∷◌, Some, None, Option, refl, ap, ◌∙◌, inl, inr}
use Rattle.std.specs.Iterator.Adapters.{zip_first, zip_second}
use Rattle.std.specs.List.{zip}
use Rattle.std.specs.Slice.Iter.{iter_rest}
use Rattle.std.specs.declared.iter.Zip.{Zip}
use Rattle.std.specs.declared.slice.Iter.{Iter}
use Rattle.std.proofs.iter.Yields.{fronts}
use Rattle.std.proofs.lemmas.Iterator.{zips}
use Rattle.std.proofs.lemmas.Slice.Zip.{Zip-more, either_empty_from_Zip}
use denote.Ref.{Bor}

zip-nil : {A B : Type 0} (xs : List A) → zip {X = B} xs [] ≡ []
zip-nil [] = refl
zip-nil (x ∷ xs) = refl

module _ {A B : Type 0} where
  abbrev pub pairs_rest : Zip (Iter A) (Iter B) → List (A × B)
  pairs_rest s = zip (iter_rest (zip_first s)) (iter_rest (zip_second s))

  module _ (s t : Zip (Iter A) (Iter B)) (r : Option (Bor A × Bor B)) where
    pub pairs_rest_more : (p : Bor A × Bor B) → r ≡ Some p → zips fronts fronts s r t → pairs_rest s ≡ (p.0.now, p.1.now) ∷ pairs_rest t
    pairs_rest_more p e h = let left = Zip-more s t r p e h in λ i. zip (left.0 i) (left.1 i)

    pub pairs_rest_all : r ≡ None → zips fronts fronts s r t → pairs_rest s ≡ []
    pairs_rest_all e h =
        elim (either_empty_from_Zip s t r e h) [
          | inl none ↦ ap (λ l. zip l (iter_rest (zip_second s))) none
          | inr none ↦ ap (zip (iter_rest (zip_first s))) none ∙ zip-nil (iter_rest (zip_first s))
        ]
