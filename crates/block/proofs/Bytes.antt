-- Blocks and their bytes turn into each other without loss. Assumes nothing.
use Rattle.std.proofs.Common.{◌≡◌, ℕ, suc, ◌+◌, ◌*◌, ◌/◌, ◌%◌, ◌^◌, ◌<◌, List, [], ◌∷◌, ◌++◌, length, get_or, sym, refl, ap, ◌∙◌, subst, arith, lit<, length-append}
use Rattle.std.proofs.lemmas.Nat.{shr-shr, shr_high}
use Rattle.std.proofs.lemmas.List.{nil_from_length}
use Rattle.std.specs.List.{flat_map}
use Rattle.block.specs.Block.{IsBlock, AllBytes, AllBlocks, number, bytes_of, blocks_of}

pub number-bytes : (b : ℕ) → IsBlock b → number (bytes_of b) ≡ b
unfolding bytes_of
number-bytes b h = omega arith

pub bytes_all : (b : ℕ) → AllBytes (bytes_of b)
unfolding bytes_of
bytes_all b = (omega arith, (omega arith, (omega arith, (omega arith, (omega arith, (omega arith, (omega arith, (omega arith, tt))))))))

pub all_append : (xs ys : List ℕ) → AllBytes xs → AllBytes ys → AllBytes (xs ++ ys)
all_append [] ys hx hy = hy
all_append (x ∷ xs) ys hx hy = (hx.0, all_append xs ys hx.1 hy)

pub length-bytes : (b : ℕ) → length (bytes_of b) ≡ 8
unfolding bytes_of
length-bytes b = refl

-- a list of eight is its eight elements
pub eight : (xs : List ℕ) → length xs ≡ 8 → xs ≡ get_or xs 0 0 ∷ get_or xs 1 0 ∷ get_or xs 2 0 ∷ get_or xs 3 0 ∷ get_or xs 4 0 ∷ get_or xs 5 0 ∷ get_or xs 6 0 ∷ get_or xs 7 0 ∷ []
eight [] e = absurd (omega arith)
eight (a ∷ []) e = absurd (omega arith)
eight (a ∷ b ∷ []) e = absurd (omega arith)
eight (a ∷ b ∷ c ∷ []) e = absurd (omega arith)
eight (a ∷ b ∷ c ∷ d ∷ []) e = absurd (omega arith)
eight (a ∷ b ∷ c ∷ d ∷ f ∷ []) e = absurd (omega arith)
eight (a ∷ b ∷ c ∷ d ∷ f ∷ g ∷ []) e = absurd (omega arith)
eight (a ∷ b ∷ c ∷ d ∷ f ∷ g ∷ h ∷ []) e = absurd (omega arith)
eight (a ∷ b ∷ c ∷ d ∷ f ∷ g ∷ h ∷ i ∷ []) e = refl
eight (a ∷ b ∷ c ∷ d ∷ f ∷ g ∷ h ∷ i ∷ j ∷ xs) e = absurd (omega arith)

-- past a number's last byte
past : (n x k : ℕ) → x < 256 → (n * 256 + x) / 2 ^ (8 + k) ≡ n / 2 ^ k
past n x k h = sym (shr-shr (n * 256 + x) 8 k) ∙ ap (λ m. m / 2 ^ k) (shr_high n 8 x h)

last : (n x : ℕ) → x < 256 → (n * 256 + x) % 256 ≡ x
last n x h = omega arith

module _ (a b c d e f g h : ℕ) (fits : AllBytes (a ∷ b ∷ c ∷ d ∷ e ∷ f ∷ g ∷ h ∷ [])) where
  pub number_block : IsBlock (number (a ∷ b ∷ c ∷ d ∷ e ∷ f ∷ g ∷ h ∷ []))
  number_block = omega arith

  pub bytes-number : bytes_of (number (a ∷ b ∷ c ∷ d ∷ e ∷ f ∷ g ∷ h ∷ [])) ≡ a ∷ b ∷ c ∷ d ∷ e ∷ f ∷ g ∷ h ∷ []
  unfolding bytes_of
  bytes-number =
      let n1 : ℕ = 0 * 256 + a in
      let n2 : ℕ = n1 * 256 + b in
      let n3 : ℕ = n2 * 256 + c in
      let n4 : ℕ = n3 * 256 + d in
      let n5 : ℕ = n4 * 256 + e in
      let n6 : ℕ = n5 * 256 + f in
      let n7 : ℕ = n6 * 256 + g in
      let fa : a < 256 = fits.0 in
      let fb : b < 256 = fits.1.0 in
      let fc : c < 256 = fits.1.1.0 in
      let fd : d < 256 = fits.1.1.1.0 in
      let fe : e < 256 = fits.1.1.1.1.0 in
      let ff : f < 256 = fits.1.1.1.1.1.0 in
      let fg : g < 256 = fits.1.1.1.1.1.1.0 in
      let fh : h < 256 = fits.1.1.1.1.1.1.1.0 in
      let byte : ℕ → ℕ = λ n. n % 256 in
      let pg = shr_high n7 8 h fh in
      let pf = past n7 h 8 fh ∙ shr_high n6 8 g fg in
      let pe = past n7 h 16 fh ∙ past n6 g 8 fg ∙ shr_high n5 8 f ff in
      let pd = past n7 h 24 fh ∙ past n6 g 16 fg ∙ past n5 f 8 ff ∙ shr_high n4 8 e fe in
      let pc = past n7 h 32 fh ∙ past n6 g 24 fg ∙ past n5 f 16 ff ∙ past n4 e 8 fe ∙ shr_high n3 8 d fd in
      let pb = past n7 h 40 fh ∙ past n6 g 32 fg ∙ past n5 f 24 ff ∙ past n4 e 16 fe ∙ past n3 d 8 fd ∙ shr_high n2 8 c fc in
      let pa = past n7 h 48 fh ∙ past n6 g 40 fg ∙ past n5 f 32 ff ∙ past n4 e 24 fe ∙ past n3 d 16 fd ∙ past n2 c 8 fc ∙ shr_high n1 8 b fb in
      λ i.
      (ap byte pa ∙ last 0 a fa) i ∷ (ap byte pb ∙ last n1 b fb) i ∷ (ap byte pc ∙ last n2 c fc) i ∷ (ap byte pd ∙ last n3 d fd) i
      ∷ (ap byte pe ∙ last n4 e fe) i ∷ (ap byte pf ∙ last n5 f ff) i ∷ (ap byte pg ∙ last n6 g fg) i ∷ last n7 h fh i ∷ []

-- induction on whole blocks of bytes
pub by_eights : (P : List ℕ → Type 0)
    → ((xs : List ℕ) → length xs < 8 → blocks_of xs ≡ [] → P xs)
    → ((a b c d e f g h : ℕ) (rest : List ℕ) → P rest → P (a ∷ b ∷ c ∷ d ∷ e ∷ f ∷ g ∷ h ∷ rest))
    → (xs : List ℕ) → P xs
unfolding blocks_of
by_eights P base step [] = base [] (lit< tt) refl
by_eights P base step (a ∷ []) = base (a ∷ []) (lit< tt) refl
by_eights P base step (a ∷ b ∷ []) = base (a ∷ b ∷ []) (lit< tt) refl
by_eights P base step (a ∷ b ∷ c ∷ []) = base (a ∷ b ∷ c ∷ []) (lit< tt) refl
by_eights P base step (a ∷ b ∷ c ∷ d ∷ []) = base (a ∷ b ∷ c ∷ d ∷ []) (lit< tt) refl
by_eights P base step (a ∷ b ∷ c ∷ d ∷ e ∷ []) = base (a ∷ b ∷ c ∷ d ∷ e ∷ []) (lit< tt) refl
by_eights P base step (a ∷ b ∷ c ∷ d ∷ e ∷ f ∷ []) = base (a ∷ b ∷ c ∷ d ∷ e ∷ f ∷ []) (lit< tt) refl
by_eights P base step (a ∷ b ∷ c ∷ d ∷ e ∷ f ∷ g ∷ []) = base (a ∷ b ∷ c ∷ d ∷ e ∷ f ∷ g ∷ []) (lit< tt) refl
by_eights P base step (a ∷ b ∷ c ∷ d ∷ e ∷ f ∷ g ∷ h ∷ rest) = step a b c d e f g h rest (by_eights P base step rest)

-- the bytes of blocks, one block after another
abbrev pub flat : List ℕ → List ℕ
flat bs = flat_map bytes_of bs

pub length-flat : (bs : List ℕ) → length (flat bs) ≡ 8 * length bs
length-flat [] = refl
length-flat (b ∷ bs) = length-append (bytes_of b) (flat bs) ∙ omega (arith, length-bytes b, length-flat bs)

pub flat_all : (bs : List ℕ) → AllBytes (flat bs)
flat_all [] = tt
flat_all (b ∷ bs) = all_append (bytes_of b) (flat bs) (bytes_all b) (flat_all bs)

pub length-blocks : (xs : List ℕ) → length (blocks_of xs) ≡ length xs / 8
unfolding blocks_of
length-blocks =
    by_eights (λ xs. length (blocks_of xs) ≡ length xs / 8)
    (λ xs short e. ap length e ∙ omega arith)
    (λ a b c d e f g h rest ih. omega (arith, ih))

pub blocks-flat : (bs : List ℕ) → AllBlocks bs → blocks_of (flat bs) ≡ bs
unfolding blocks_of bytes_of
blocks-flat [] fits = refl
blocks-flat (b ∷ bs) fits = λ i. number-bytes b fits.0 i ∷ blocks-flat bs fits.1 i

pub blocks_all : (xs : List ℕ) → AllBytes xs → AllBlocks (blocks_of xs)
unfolding blocks_of
blocks_all =
    by_eights (λ xs. AllBytes xs → AllBlocks (blocks_of xs))
    (λ xs short e fits. subst AllBlocks (sym e) tt)
    (λ a b c d e f g h rest ih fits. (omega arith, ih fits.1.1.1.1.1.1.1.1))

pub flat-blocks : (xs : List ℕ) → AllBytes xs → length xs % 8 ≡ 0 → flat (blocks_of xs) ≡ xs
unfolding blocks_of
flat-blocks =
    by_eights (λ xs. AllBytes xs → length xs % 8 ≡ 0 → flat (blocks_of xs) ≡ xs)
    (λ xs short e fits whole. ap flat e ∙ sym (nil_from_length xs (omega arith)))
    (λ a b c d e f g h rest ih fits whole.
    let front = bytes-number a b c d e f g h (fits.0, (fits.1.0, (fits.1.1.0, (fits.1.1.1.0, (fits.1.1.1.1.0, (fits.1.1.1.1.1.0, (fits.1.1.1.1.1.1.0, (fits.1.1.1.1.1.1.1.0, tt)))))))) in
    λ i. front i ++ ih fits.1.1.1.1.1.1.1.1 (omega arith) i)

-- eight bytes stand for a block, and are its bytes
pub number_fits : (xs : List ℕ) → length xs ≡ 8 → AllBytes xs → IsBlock (number xs)
number_fits xs e h =
    subst (λ ys. IsBlock (number ys)) (sym (eight xs e)) (number_block _ _ _ _ _ _ _ _ (subst AllBytes (eight xs e) h))

pub bytes_of-number : (xs : List ℕ) → length xs ≡ 8 → AllBytes xs → bytes_of (number xs) ≡ xs
bytes_of-number xs e h =
    ap (λ ys. bytes_of (number ys)) (eight xs e) ∙ bytes-number _ _ _ _ _ _ _ _ (subst AllBytes (eight xs e) h) ∙ sym (eight xs e)

-- bytes, from what is known of each
pub typed_bytes : (xs : List ℕ) → ((i : ℕ) → get_or xs i 0 < 256) → AllBytes xs
typed_bytes [] h = tt
typed_bytes (x ∷ xs) h = (h 0, typed_bytes xs (λ i. h (suc i)))
