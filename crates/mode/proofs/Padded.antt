-- The pad and the tail before it. Assumes nothing.
use Rattle.std.proofs.Common.{◌≡◌, ℕ, zero, suc, ◌+◌, ◌-◌, ◌<◌, ◌≤◌, Bool, true, false, cond, eqb, ltb, ◌≢◌, ◌⊎◌, List, [], ◌∷◌, ◌++◌, length, get_or, take, set, replicate, Some, None, sym, refl, ap, ◌∙◌, subst, inl, inr, ⊎_elim, arith, lit<, ltb-false, ltb-true, ne_eqb, eqb-true}
use borrow.Rule.Slice.PartMut.{post_of}
use Rattle.block.specs.Block.{AllBytes}
use Rattle.block.proofs.Bytes.{all_append}
use Rattle.std.proofs.str.Laws.{order}
use Rattle.std.proofs.lemmas.List.{ext_get_or, get_or_append_left, get_or-append_right, get_or-take, get_or-replicate, length-append, length-take-le, length-replicate}
use Rattle.std.specs.Bool.{then_some}
use Rattle.mode.specs.Pad.{padded, pad, tail_within, tail_length}

-- what `pad` writes: the tail, then 80, into eight zeros
pub written : (tail : List ℕ) → length tail < 8
    → Some (set (tail ++ post_of 0 (length tail) (0 ∷ 0 ∷ 0 ∷ 0 ∷ 0 ∷ 0 ∷ 0 ∷ 0 ∷ [])) (length tail) 0x80) ≡ pad tail
written [] h = refl
written (a ∷ []) h = refl
written (a ∷ b ∷ []) h = refl
written (a ∷ b ∷ c ∷ []) h = refl
written (a ∷ b ∷ c ∷ d ∷ []) h = refl
written (a ∷ b ∷ c ∷ d ∷ e ∷ []) h = refl
written (a ∷ b ∷ c ∷ d ∷ e ∷ f ∷ []) h = refl
written (a ∷ b ∷ c ∷ d ∷ e ∷ f ∷ g ∷ []) h = refl
written (a ∷ b ∷ c ∷ d ∷ e ∷ f ∷ g ∷ i ∷ tail) h = absurd (omega arith)

-- a tail's length is found again behind its pad
pub tail_padded : (tail : List ℕ) → length tail < 8 → tail_length (padded tail) ≡ Some (length tail)
unfolding tail_within
tail_padded [] h = refl
tail_padded (a ∷ []) h = refl
tail_padded (a ∷ b ∷ []) h = refl
tail_padded (a ∷ b ∷ c ∷ []) h = refl
tail_padded (a ∷ b ∷ c ∷ d ∷ []) h = refl
tail_padded (a ∷ b ∷ c ∷ d ∷ e ∷ []) h = refl
tail_padded (a ∷ b ∷ c ∷ d ∷ e ∷ f ∷ []) h = refl
tail_padded (a ∷ b ∷ c ∷ d ∷ e ∷ f ∷ g ∷ []) h = refl
tail_padded (a ∷ b ∷ c ∷ d ∷ e ∷ f ∷ g ∷ i ∷ tail) h = absurd (omega arith)

-- a padded tail is eight bytes
pub length-padded : (tail : List ℕ) → length tail < 8 → length (padded tail) ≡ 8
length-padded tail h =
    length-append tail (0x80 ∷ replicate (7 - length tail) 0) ∙ omega (arith, length-replicate {A = ℕ} (7 - length tail) 0)

zeros_bytes : (n : ℕ) → AllBytes (replicate n 0)
zeros_bytes zero = tt
zeros_bytes (suc n) = (lit< tt, zeros_bytes n)

pub padded_bytes : (tail : List ℕ) → AllBytes tail → AllBytes (padded tail)
padded_bytes tail h = all_append tail (0x80 ∷ replicate (7 - length tail) 0) h (lit< tt, zeros_bytes (7 - length tail))

chosen : (b : Bool) (n : ℕ) → cond b (Some n) None ≡ then_some b n
chosen true n = refl
chosen false n = refl

last_or_below : (k m : ℕ) → k < suc m → (k < m) ⊎ (k ≡ m)
last_or_below k m h = elim (ltb k m) as (λ b. ltb k m ≡ b → (k < m) ⊎ (k ≡ m)) [ true ↦ λ e. inl (ltb-true k m e) | false ↦ λ e. inr (omega (arith, ltb-false k m e)) ] refl

-- one turn of the search from the end, at the byte before n
module _ (bytes : List ℕ) where
  pub tail_here : (n : ℕ) → 0 < n → get_or bytes (n - 1) 0 ≡ 0x80 → tail_within bytes n ≡ Some (n - 1)
  unfolding tail_within
  tail_here zero h e = absurd (omega arith)
  tail_here (suc n) h e =
      let back : suc n - 1 ≡ n = omega arith in
      let here : get_or bytes n 0 ≡ 0x80 = rw back at e in
      rw (here, back)

  pub tail_on : (n : ℕ) → 0 < n → get_or bytes (n - 1) 0 ≡ 0 → tail_within bytes (n - 1) ≡ tail_within bytes n
  unfolding tail_within
  tail_on zero h e = absurd (omega arith)
  tail_on (suc n) h e =
      let back : suc n - 1 ≡ n = omega arith in
      let here : get_or bytes n 0 ≡ 0 = rw back at e in
      rw (here, back)

  pub tail_none : (n : ℕ) → 0 < n → get_or bytes (n - 1) 0 ≢ 0x80 → get_or bytes (n - 1) 0 ≢ 0 → tail_within bytes n ≡ None
  unfolding tail_within
  tail_none zero h e f = absurd (omega arith)
  tail_none (suc n) h e f =
      let back : suc n - 1 ≡ n = omega arith in
      let not-zero : eqb (get_or bytes n 0) 0 ≡ false = ne_eqb (get_or bytes n 0) 0 (rw back at f) in
      let not-80 : eqb (get_or bytes n 0) 0x80 ≡ false = ne_eqb (get_or bytes n 0) 0x80 (rw back at e) in
      rw (not-zero, not-80)

  pub tail_nowhere : (n : ℕ) → n ≡ 0 → tail_within bytes n ≡ None
  unfolding tail_within
  tail_nowhere zero h = refl
  tail_nowhere (suc n) h = absurd (omega arith)

  -- of n zeros there is no tail
  pub tail_of_zeros : (n : ℕ) → ((k : ℕ) → k < n → get_or bytes k 0 ≡ 0) → tail_within bytes n ≡ None
  unfolding tail_within
  tail_of_zeros zero zeros = refl
  tail_of_zeros (suc n) zeros =
      let last : get_or bytes n 0 ≡ 0 = zeros n (omega arith) in
      rw last (tail_of_zeros n (λ k h. zeros k (omega arith)))

  -- the last byte that is not zero decides
  pub tail_last : (n at : ℕ) → at < n → get_or bytes at 0 ≢ 0 → ((k : ℕ) → at < k → k < n → get_or bytes k 0 ≡ 0)
      → tail_within bytes n ≡ then_some (eqb (get_or bytes at 0) 0x80) at
  unfolding tail_within
  tail_last zero at h here zeros = absurd (omega arith)
  tail_last (suc n) at h here zeros =
      ⊎_elim
      (λ l.
      let last : get_or bytes n 0 ≡ 0 = zeros n l (omega arith) in
      rw last (tail_last n at l here (λ k a b. zeros k a (omega arith))))
      (λ e.
      let last : eqb (get_or bytes n 0) 0 ≡ false = ne_eqb (get_or bytes n 0) 0 (subst (λ j. get_or bytes j 0 ≢ 0) e here) in
      rw (last, e) (chosen (eqb (get_or bytes n 0) 0x80) n))
      (last_or_below at n h)

  -- where a tail ends: at byte 80, and with zeros behind it
  pub tail_found : (m n : ℕ) → tail_within bytes m ≡ Some n
      → (n < m) × (get_or bytes n 0 ≡ 0x80) × ((k : ℕ) → n < k → k < m → get_or bytes k 0 ≡ 0)
  unfolding tail_within
  tail_found zero n e = absurd (let z : ◌≡◌ {A = ℕ} 0 1 = cc in omega arith)
  tail_found (suc m) n e = go (tail_found m n) (eqb (get_or bytes m 0) 0) refl (eqb (get_or bytes m 0) 0x80) refl
    where
      here : (k : ℕ) → m < k → k < suc m → get_or bytes k 0 ≡ 0
      here k l h = absurd (omega arith)

      go : (tail_within bytes m ≡ Some n → (n < m) × (get_or bytes n 0 ≡ 0x80) × ((k : ℕ) → n < k → k < m → get_or bytes k 0 ≡ 0))
          → (a : Bool) → eqb (get_or bytes m 0) 0 ≡ a → (b : Bool) → eqb (get_or bytes m 0) 0x80 ≡ b
          → (n < suc m) × (get_or bytes n 0 ≡ 0x80) × ((k : ℕ) → n < k → k < suc m → get_or bytes k 0 ≡ 0)
      go ih true ea b eb =
          let on : tail_within bytes m ≡ Some n = rw ea at e in
          let (below, at, behind) = ih on in
          (omega arith, at, λ k l h. ⊎_elim (λ q. behind k l q) (λ q. ap (λ j. get_or bytes j 0) q ∙ eqb-true _ _ ea) (last_or_below k m h))
      go ih false ea true eb =
          let on : Some m ≡ Some n = rw (ea, eb) at e in
          let same : m ≡ n = cc in
          subst (λ j. (j < suc m) × (get_or bytes j 0 ≡ 0x80) × ((k : ℕ) → j < k → k < suc m → get_or bytes k 0 ≡ 0)) same
          (omega arith, eqb-true _ _ eb, here)
      go ih false ea false eb =
          let on : None ≡ Some n = rw (ea, eb) at e in
          absurd (let z : ◌≡◌ {A = ℕ} 0 1 = cc in omega arith)

-- an opened block with a tail is that tail with its pad
pub padded_tail : (bytes : List ℕ) (n : ℕ) → length bytes ≡ 8 → tail_length bytes ≡ Some n → padded (take n bytes) ≡ bytes
padded_tail bytes n e found =
    let (below, at, behind) = tail_found bytes 8 n found in
    let front : length (take n bytes) ≡ n = length-take-le n bytes (omega arith) in
    let pad-length : 7 - length (take n bytes) ≡ 7 - n = ap (λ j. 7 - j) front in
    let back : List ℕ = 0x80 ∷ replicate (7 - length (take n bytes)) 0 in
    let long : length (padded (take n bytes)) ≡ 8 =
    length-append (take n bytes) back ∙ omega (arith, front, length-replicate {A = ℕ} (7 - length (take n bytes)) 0) in
    ext_get_or 0 (padded (take n bytes)) bytes (long ∙ sym e) (λ k h. place k front (omega arith) at behind (order k n))
  where
    place : (k : ℕ) → length (take n bytes) ≡ n → k < 8 → get_or bytes n 0 ≡ 0x80 → ((k : ℕ) → n < k → k < 8 → get_or bytes k 0 ≡ 0)
        → (k < n) ⊎ (n ≤ k) → get_or (padded (take n bytes)) k 0 ≡ get_or bytes k 0
    place k front h at behind (inl l) =
        get_or_append_left (take n bytes) _ 0 k (omega arith) ∙ get_or-take n bytes k 0 l
    place k front h at behind (inr l) =
        get_or-append_right (take n bytes) _ n k 0 front l ∙ past k (k - n) (omega arith) h at behind
      where
        past : (k j : ℕ) → k ≡ n + j → k < 8 → get_or bytes n 0 ≡ 0x80 → ((k : ℕ) → n < k → k < 8 → get_or bytes k 0 ≡ 0)
            → get_or (0x80 ∷ replicate (7 - length (take n bytes)) 0) j 0 ≡ get_or bytes k 0
        past k zero e h at behind = sym at ∙ ap (λ i. get_or bytes i 0) (omega arith)
        past k (suc j) e h at behind =
            get_or-replicate (7 - length (take n bytes)) j 0 0 (omega arith) ∙ sym (behind k (omega arith) h)
