-- The algebraic forms of S7 and S9 over GF(2) (ISO/IEC 18033-3:2010, C.2, Figures C.1 and C.2), and what the tables owe.
-- A form is the exclusive or of products of bits of x, bit 0 the least significant; the constant 1 is the empty product.
use Rattle.std.specs.Prelude.{◌≡◌, ℕ, ◌+◌, ◌*◌, ◌/◌, ◌%◌, ◌^◌, ◌<◌, List, [], ◌∷◌}
use Rattle.misty1.specs.Tables.{S7, S9}

unfoldable pub bit : ℕ → ℕ → ℕ
bit x i = x / 2 ^ i % 2

-- the product of the bits of x at the given places
unfoldable pub product : ℕ → List ℕ → ℕ
product x [] = 1
product x (i ∷ is) = bit x i * product x is

-- one bit of the output: the exclusive or of products
unfoldable pub parity : ℕ → List (List ℕ) → ℕ
parity x [] = 0
parity x (m ∷ ms) = (product x m + parity x ms) % 2

-- the output: y0, y1 and so on, from the least significant bit
unfoldable pub value : ℕ → List (List (List ℕ)) → ℕ
value x [] = 0
value x (y ∷ ys) = parity x y + 2 * value x ys

-- y0 to y6
unfoldable pub forms7 : List (List (List ℕ))
forms7 =
    ((0 ∷ []) ∷ (1 ∷ 3 ∷ []) ∷ (0 ∷ 3 ∷ 4 ∷ []) ∷ (1 ∷ 5 ∷ []) ∷ (0 ∷ 2 ∷ 5 ∷ []) ∷ (4 ∷ 5 ∷ []) ∷ (0 ∷ 1 ∷ 6 ∷ []) ∷ (2 ∷ 6 ∷ []) ∷ (0 ∷ 5 ∷ 6 ∷ []) ∷ (3 ∷ 5 ∷ 6 ∷ []) ∷ [] ∷ [])
    ∷ ((0 ∷ 2 ∷ []) ∷ (0 ∷ 4 ∷ []) ∷ (3 ∷ 4 ∷ []) ∷ (1 ∷ 5 ∷ []) ∷ (2 ∷ 4 ∷ 5 ∷ []) ∷ (6 ∷ []) ∷ (0 ∷ 6 ∷ []) ∷ (3 ∷ 6 ∷ []) ∷ (2 ∷ 3 ∷ 6 ∷ []) ∷ (1 ∷ 4 ∷ 6 ∷ []) ∷ (0 ∷ 5 ∷ 6 ∷ []) ∷ [] ∷ [])
    ∷ ((1 ∷ 2 ∷ []) ∷ (0 ∷ 2 ∷ 3 ∷ []) ∷ (4 ∷ []) ∷ (1 ∷ 4 ∷ []) ∷ (0 ∷ 1 ∷ 4 ∷ []) ∷ (0 ∷ 5 ∷ []) ∷ (0 ∷ 4 ∷ 5 ∷ []) ∷ (3 ∷ 4 ∷ 5 ∷ []) ∷ (1 ∷ 6 ∷ []) ∷ (3 ∷ 6 ∷ []) ∷ (0 ∷ 3 ∷ 6 ∷ []) ∷ (4 ∷ 6 ∷ []) ∷ (2 ∷ 4 ∷ 6 ∷ []) ∷ [])
    ∷ ((0 ∷ []) ∷ (1 ∷ []) ∷ (0 ∷ 1 ∷ 2 ∷ []) ∷ (0 ∷ 3 ∷ []) ∷ (2 ∷ 4 ∷ []) ∷ (1 ∷ 4 ∷ 5 ∷ []) ∷ (2 ∷ 6 ∷ []) ∷ (1 ∷ 3 ∷ 6 ∷ []) ∷ (0 ∷ 4 ∷ 6 ∷ []) ∷ (5 ∷ 6 ∷ []) ∷ [] ∷ [])
    ∷ ((2 ∷ 3 ∷ []) ∷ (0 ∷ 4 ∷ []) ∷ (1 ∷ 3 ∷ 4 ∷ []) ∷ (5 ∷ []) ∷ (2 ∷ 5 ∷ []) ∷ (1 ∷ 2 ∷ 5 ∷ []) ∷ (0 ∷ 3 ∷ 5 ∷ []) ∷ (1 ∷ 6 ∷ []) ∷ (1 ∷ 5 ∷ 6 ∷ []) ∷ (4 ∷ 5 ∷ 6 ∷ []) ∷ [] ∷ [])
    ∷ ((0 ∷ []) ∷ (1 ∷ []) ∷ (2 ∷ []) ∷ (0 ∷ 1 ∷ 2 ∷ []) ∷ (0 ∷ 3 ∷ []) ∷ (1 ∷ 2 ∷ 3 ∷ []) ∷ (1 ∷ 4 ∷ []) ∷ (0 ∷ 2 ∷ 4 ∷ []) ∷ (0 ∷ 5 ∷ []) ∷ (0 ∷ 1 ∷ 5 ∷ []) ∷ (3 ∷ 5 ∷ []) ∷ (0 ∷ 6 ∷ []) ∷ (2 ∷ 5 ∷ 6 ∷ []) ∷ [])
    ∷ ((0 ∷ 1 ∷ []) ∷ (3 ∷ []) ∷ (0 ∷ 3 ∷ []) ∷ (2 ∷ 3 ∷ 4 ∷ []) ∷ (0 ∷ 5 ∷ []) ∷ (2 ∷ 5 ∷ []) ∷ (3 ∷ 5 ∷ []) ∷ (1 ∷ 3 ∷ 5 ∷ []) ∷ (1 ∷ 6 ∷ []) ∷ (1 ∷ 2 ∷ 6 ∷ []) ∷ (0 ∷ 3 ∷ 6 ∷ []) ∷ (4 ∷ 6 ∷ []) ∷ (2 ∷ 5 ∷ 6 ∷ []) ∷ []) ∷ []

-- y0 to y8
unfoldable pub forms9 : List (List (List ℕ))
forms9 =
    ((0 ∷ 4 ∷ []) ∷ (0 ∷ 5 ∷ []) ∷ (1 ∷ 5 ∷ []) ∷ (1 ∷ 6 ∷ []) ∷ (2 ∷ 6 ∷ []) ∷ (2 ∷ 7 ∷ []) ∷ (3 ∷ 7 ∷ []) ∷ (3 ∷ 8 ∷ []) ∷ (4 ∷ 8 ∷ []) ∷ [] ∷ [])
    ∷ ((0 ∷ 2 ∷ []) ∷ (3 ∷ []) ∷ (1 ∷ 3 ∷ []) ∷ (2 ∷ 3 ∷ []) ∷ (3 ∷ 4 ∷ []) ∷ (4 ∷ 5 ∷ []) ∷ (0 ∷ 6 ∷ []) ∷ (2 ∷ 6 ∷ []) ∷ (7 ∷ []) ∷ (0 ∷ 8 ∷ []) ∷ (3 ∷ 8 ∷ []) ∷ (5 ∷ 8 ∷ []) ∷ [] ∷ [])
    ∷ ((0 ∷ 1 ∷ []) ∷ (1 ∷ 3 ∷ []) ∷ (4 ∷ []) ∷ (0 ∷ 4 ∷ []) ∷ (2 ∷ 4 ∷ []) ∷ (3 ∷ 4 ∷ []) ∷ (4 ∷ 5 ∷ []) ∷ (0 ∷ 6 ∷ []) ∷ (5 ∷ 6 ∷ []) ∷ (1 ∷ 7 ∷ []) ∷ (3 ∷ 7 ∷ []) ∷ (8 ∷ []) ∷ [])
    ∷ ((0 ∷ []) ∷ (1 ∷ 2 ∷ []) ∷ (2 ∷ 4 ∷ []) ∷ (5 ∷ []) ∷ (1 ∷ 5 ∷ []) ∷ (3 ∷ 5 ∷ []) ∷ (4 ∷ 5 ∷ []) ∷ (5 ∷ 6 ∷ []) ∷ (1 ∷ 7 ∷ []) ∷ (6 ∷ 7 ∷ []) ∷ (2 ∷ 8 ∷ []) ∷ (4 ∷ 8 ∷ []) ∷ [])
    ∷ ((1 ∷ []) ∷ (0 ∷ 3 ∷ []) ∷ (2 ∷ 3 ∷ []) ∷ (0 ∷ 5 ∷ []) ∷ (3 ∷ 5 ∷ []) ∷ (6 ∷ []) ∷ (2 ∷ 6 ∷ []) ∷ (4 ∷ 6 ∷ []) ∷ (5 ∷ 6 ∷ []) ∷ (6 ∷ 7 ∷ []) ∷ (2 ∷ 8 ∷ []) ∷ (7 ∷ 8 ∷ []) ∷ [])
    ∷ ((2 ∷ []) ∷ (0 ∷ 3 ∷ []) ∷ (1 ∷ 4 ∷ []) ∷ (3 ∷ 4 ∷ []) ∷ (1 ∷ 6 ∷ []) ∷ (4 ∷ 6 ∷ []) ∷ (7 ∷ []) ∷ (3 ∷ 7 ∷ []) ∷ (5 ∷ 7 ∷ []) ∷ (6 ∷ 7 ∷ []) ∷ (0 ∷ 8 ∷ []) ∷ (7 ∷ 8 ∷ []) ∷ [])
    ∷ ((0 ∷ 1 ∷ []) ∷ (3 ∷ []) ∷ (1 ∷ 4 ∷ []) ∷ (2 ∷ 5 ∷ []) ∷ (4 ∷ 5 ∷ []) ∷ (2 ∷ 7 ∷ []) ∷ (5 ∷ 7 ∷ []) ∷ (8 ∷ []) ∷ (0 ∷ 8 ∷ []) ∷ (4 ∷ 8 ∷ []) ∷ (6 ∷ 8 ∷ []) ∷ (7 ∷ 8 ∷ []) ∷ [] ∷ [])
    ∷ ((1 ∷ []) ∷ (0 ∷ 1 ∷ []) ∷ (1 ∷ 2 ∷ []) ∷ (2 ∷ 3 ∷ []) ∷ (0 ∷ 4 ∷ []) ∷ (5 ∷ []) ∷ (1 ∷ 6 ∷ []) ∷ (3 ∷ 6 ∷ []) ∷ (0 ∷ 7 ∷ []) ∷ (4 ∷ 7 ∷ []) ∷ (6 ∷ 7 ∷ []) ∷ (1 ∷ 8 ∷ []) ∷ [] ∷ [])
    ∷ ((0 ∷ []) ∷ (0 ∷ 1 ∷ []) ∷ (1 ∷ 2 ∷ []) ∷ (4 ∷ []) ∷ (0 ∷ 5 ∷ []) ∷ (2 ∷ 5 ∷ []) ∷ (3 ∷ 6 ∷ []) ∷ (5 ∷ 6 ∷ []) ∷ (0 ∷ 7 ∷ []) ∷ (0 ∷ 8 ∷ []) ∷ (3 ∷ 8 ∷ []) ∷ (6 ∷ 8 ∷ []) ∷ [] ∷ []) ∷ []

-- A table of n entries has the values of its form.
abbrev pub HasForm : ℕ → (ℕ → ℕ) → List (List (List ℕ)) → Type 0
HasForm n S ys = (x : ℕ) → x < n → S x ≡ value x ys

-- No value stands twice in a table of n entries.
abbrev pub OneToOne : ℕ → (ℕ → ℕ) → Type 0
OneToOne n S = (x y : ℕ) → x < n → y < n → S x ≡ S y → x ≡ y

-- What is proved of each table.
abbrev pub S7Stands : Type 0
S7Stands = HasForm 128 S7 forms7 × OneToOne 128 S7

abbrev pub S9Stands : Type 0
S9Stands = HasForm 512 S9 forms9 × OneToOne 512 S9
