-- A rule of a table, proved at all of its entries by one test that antt computes. Assumes nothing.
use Rattle.std.specs.Prelude.{◌≡◌, ℕ, zero, suc, ◌+◌, ◌<◌, Bool, true, false, cond, T, ltb, List, [], ◌∷◌, length, ◌==◌, nat_eq, nat_lt, slice_index}
use Rattle.std.proofs.Common.{◌∙◌, ap, subst, sym, add-zero, zero-add, add-suc, suc-add, le_of_suc-le-suc, not-suc-le-zero, eqb→eq, ltb→lt}

abbrev both : Bool → Bool → Bool
both true b = b
both false b = false

both_left : (a b : Bool) → T (both a b) → T a
both_left true b t = tt
both_left false b t = t

both_right : (a b : Bool) → T (both a b) → T b
both_right true b t = t
both_right false b t = absurd t

-- the test f passes at each entry of the list and its place, counted from i
abbrev pub every : (ℕ → ℕ → Bool) → ℕ → List ℕ → Bool
every f i [] = true
every f i (x ∷ xs) = both (f i x) (every f (suc i) xs)

from : (f : ℕ → ℕ → Bool) (xs : List ℕ) (i : ℕ) → T (every f i xs) → (k : ℕ) → k < length xs → T (f (i + k) (slice_index xs k))
from f [] i t k h = absurd (not-suc-le-zero h)
from f (x ∷ xs) i t zero h = subst (λ (m : ℕ). T (f m x)) (sym (add-zero i)) (both_left (f i x) (every f (suc i) xs) t)
from f (x ∷ xs) i t (suc k) h =
    subst (λ (m : ℕ). T (f m (slice_index xs k))) (suc-add i k ∙ sym (add-suc i k))
    (from f xs (suc i) (both_right (f i x) (every f (suc i) xs) t) k (le_of_suc-le-suc h))

-- each entry is what the rule says
abbrev pub follows : (ℕ → ℕ) → List ℕ → Bool
follows rule xs = every (λ k x. nat_eq x (rule k)) 0 xs

pub at : (rule : ℕ → ℕ) (xs : List ℕ) → T (follows rule xs) → (k : ℕ) → k < length xs → slice_index xs k ≡ rule k
at rule xs t k h =
    eqb→eq (slice_index xs k) (rule k) (subst (λ (m : ℕ). T (slice_index xs k == rule m)) (zero-add k) (from (λ k x. nat_eq x (rule k)) xs 0 t k h))

-- each entry is below n, and so is what stands for an entry past the end
pub small : (n : ℕ) → 0 < n → (xs : List ℕ) (i : ℕ) → T (every (λ _ x. ltb x n) i xs) → (k : ℕ) → slice_index xs k < n
small n pos [] i t k = pos
small n pos (x ∷ xs) i t zero = ltb→lt x n (both_left (nat_lt x n) (every (λ _ y. ltb y n) (suc i) xs) t)
small n pos (x ∷ xs) i t (suc k) = small n pos xs (suc i) (both_right (nat_lt x n) (every (λ _ y. ltb y n) (suc i) xs) t) k

-- the first place of v
abbrev pub place : List ℕ → ℕ → ℕ
place [] v = 0
place (x ∷ xs) v = cond (v == x) 0 (suc (place xs v))

-- each entry stands first where it stands, so none stands twice
abbrev pub firsts : List ℕ → Bool
firsts xs = every (λ k x. nat_eq (place xs x) k) 0 xs

pub once : (xs : List ℕ) → T (firsts xs) → (j k : ℕ) → j < length xs → k < length xs → slice_index xs j ≡ slice_index xs k → j ≡ k
once xs t j k hj hk e = sym (stands j hj) ∙ ap (place xs) e ∙ stands k hk
  where
    stands : (i : ℕ) → i < length xs → place xs (slice_index xs i) ≡ i
    stands i h =
        eqb→eq (place xs (slice_index xs i)) i
        (subst (λ (m : ℕ). T (place xs (slice_index xs i) == m)) (zero-add i) (from (λ k x. nat_eq (place xs x) k) xs 0 t i h))
