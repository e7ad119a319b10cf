-- What a table gives at an index by `get` and `copied`. Assumes nothing.
use denote.Ref.{Bor}
use Rattle.std.proofs.Common.{◌≡◌, ℕ, ◌<◌, ◌≤◌, List, length, get_or, Option, Some, None, sym, refl, subst, ltb-false, ltb-true}
use Rattle.std.proofs.lemmas.Option.{slice_get_read, get_or_from_slice_get}
use Rattle.std.specs.Option.{MatchOption, option_copied}
use Rattle.std.specs.Slice.{IsItemAt}

module _ (xs : List ℕ) (x : ℕ) where
  abbrev Entry : Option ℕ → Type 0
  Entry o = MatchOption o (length xs ≤ x) (λ y. (x < length xs) × (y ≡ get_or xs x 0))

  read : (r : Option (Bor ℕ)) → IsItemAt xs x r → Entry (option_copied r)
  read None item = ltb-false x (length xs) (sym item.0)
  read (Some b) item =
      let within : x < length xs = ltb-true x (length xs) (sym item.0) in
      (within, sym (get_or_from_slice_get xs x b.now 0 (slice_get_read xs (length xs) x b.now refl within item.1)))

  pub looked_up : (i : ℕ) → i ≡ x → (r : Option (Bor ℕ)) → IsItemAt xs i r → (o : Option ℕ) → o ≡ option_copied r → Entry o
  looked_up i same r item o e = subst Entry (sym e) (read r (subst (λ k. IsItemAt xs k r) same item))
