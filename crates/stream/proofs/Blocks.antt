-- Blocks through a line's step. Assumes nothing.
use Rattle.std.proofs.Common.{◌≡◌, ℕ, ◌+◌, ◌-◌, ◌<◌, ◌≤◌, min, Bool, true, false, cond, eqb, ltb, List, [], ◌∷◌, ◌++◌, length, get_or, take, drop, Some, None, Option, unwrap_or, sym, refl, ap, ◌∙◌, arith, length-drop, take-append-drop, ltb-true, eq-eqb}
use borrow.Rule.Slice.PartMut.{put_mid}
use Rattle.std.specs.List.{flat_map}
use Rattle.std.proofs.lemmas.List.{append-nil, append_assoc, length-take, length-take-le, length-append, take_all, take-take, drop-drop}
use Rattle.std.proofs.lemmas.Slice.{take-put_mid, drop-put_mid}
use Rattle.block.specs.Block.{number, bytes_of, blocks_of}
use Rattle.block.proofs.Bytes.{eight, length-bytes, by_eights}
use Rattle.mode.specs.Pad.{tail_length}
use Rattle.stream.specs.declared.last.Last.{Last}
use Rattle.stream.specs.Stream.{outs, last_register, opened_last, opened_last_of, last_of, tail_of, last_bytes, fitting, overwritten}
use Rattle.mode.proofs.Padded.{tail_found}

-- an opened last block, from the eight bytes that were read one by one
pub opened_last_is : (step : ℕ → ℕ → ℕ × ℕ) (r : ℕ) (input : List ℕ) (b : ℕ) (out : ℕ × ℕ) (bytes : List ℕ) (tail : Option ℕ)
    → length input ≡ 8
    → b ≡ number (get_or input 0 0 ∷ get_or input 1 0 ∷ get_or input 2 0 ∷ get_or input 3 0 ∷ get_or input 4 0 ∷ get_or input 5 0 ∷ get_or input 6 0 ∷ get_or input 7 0 ∷ [])
    → out ≡ step r b → bytes ≡ bytes_of out.0 → tail ≡ tail_length bytes
    → Some (record { block = out.0; register = out.1; tail = tail }) ≡ opened_last_of step r input
opened_last_is step r input b out bytes tail e eb eo es et =
    let whole : b ≡ number input = eb ∙ sym (ap number (eight input e)) in
    let made : Some (record { block = out.0; register = out.1; tail = tail }) ≡ Some (opened_last out) =
    λ i. Some (record { block = out.0; register = out.1; tail = (et ∙ ap tail_length es) i }) in
    made ∙ ap (λ o. Some (opened_last o)) (eo ∙ ap (step r) whole)
    ∙ ap (λ t. cond t (Some (opened_last (step r (number input)))) None) (sym (eq-eqb (length input) 8 e))

-- a list of eight and more is its first eight elements and the rest
pub eight_more : (xs : List ℕ) → 8 ≤ length xs
    → xs ≡ get_or xs 0 0 ∷ get_or xs 1 0 ∷ get_or xs 2 0 ∷ get_or xs 3 0 ∷ get_or xs 4 0 ∷ get_or xs 5 0 ∷ get_or xs 6 0 ∷ get_or xs 7 0 ∷ drop 8 xs
eight_more =
    by_eights (λ xs. 8 ≤ length xs → xs ≡ get_or xs 0 0 ∷ get_or xs 1 0 ∷ get_or xs 2 0 ∷ get_or xs 3 0 ∷ get_or xs 4 0 ∷ get_or xs 5 0 ∷ get_or xs 6 0 ∷ get_or xs 7 0 ∷ drop 8 xs)
    (λ xs short e h. absurd (omega arith))
    (λ a b c d e f g h rest ih long. refl)

-- fewer than eight bytes hold no block
pub no_block : (xs : List ℕ) → length xs < 8 → blocks_of xs ≡ []
no_block =
    by_eights (λ xs. length xs < 8 → blocks_of xs ≡ [])
    (λ xs short e h. e)
    (λ a b c d e f g h rest ih short. absurd (omega arith))

-- writing into a part of a list leaves its length
pub length-put : {A : Type 0} (at n : ℕ) (out bytes : List A) → at + n ≤ length out → length bytes ≡ n → length (put_mid at n out bytes) ≡ length out
length-put at n out bytes within size =
    length-append (take at out) (bytes ++ drop n (drop at out))
    ∙ omega (arith, length-take-le at out (omega arith), length-append bytes (drop n (drop at out)), length-drop n (drop at out), length-drop at out, size)

module _ (step : ℕ → ℕ → ℕ × ℕ) (start : ℕ) (input old : List ℕ) where
  -- where the loop over the blocks of a put stands: `rest` is what is left of the input, and `at` bytes are written
  pub record Passed (register at : ℕ) (rest out : List ℕ) : Type 0 where
    pub room : at + length rest ≡ length input
    pub long : length out ≡ length old
    pub last : last_register step register (blocks_of rest) ≡ last_register step start (blocks_of input)
    pub front : take at out ++ flat_map bytes_of (outs step register (blocks_of rest)) ≡ flat_map bytes_of (outs step start (blocks_of input))
    pub back : drop at out ≡ drop at old

  pub passed_none : Passed start 0 input old
  passed_none = record { room = omega arith; long = refl; last = refl; front = refl; back = refl }

  pub passed_more : (register at : ℕ) (rest out : List ℕ) (b : ℕ) (sealed : ℕ × ℕ) (bytes more : List ℕ)
      → length input ≤ length old → 8 ≤ length rest → Passed register at rest out
      → b ≡ number (get_or rest 0 0 ∷ get_or rest 1 0 ∷ get_or rest 2 0 ∷ get_or rest 3 0 ∷ get_or rest 4 0 ∷ get_or rest 5 0 ∷ get_or rest 6 0 ∷ get_or rest 7 0 ∷ [])
      → sealed ≡ step register b → bytes ≡ bytes_of sealed.0 → more ≡ drop 8 rest
      → Passed sealed.1 (at + 8) more (put_mid at 8 out bytes)
  unfolding last_register outs blocks_of
  passed_more register at rest out b sealed bytes more fits eight h eb es ey em =
      let split : blocks_of rest ≡ b ∷ blocks_of more = ap blocks_of (eight_more rest eight) ∙ (λ i. sym eb i ∷ blocks_of (sym em i)) in
      let size : length bytes ≡ 8 = ap length ey ∙ length-bytes sealed.0 in
      let left : length more ≡ length rest - 8 = ap length em ∙ length-drop 8 rest in
      let within : at + 8 ≤ length out = omega (arith, h.room, h.long) in
      let flat : List ℕ → List ℕ = flat_map bytes_of in
      let behind : List ℕ = flat (outs step sealed.1 (blocks_of more)) in
      let block : bytes ++ behind ≡ flat (outs step register (blocks_of rest)) =
      (λ i. ey i ++ behind)
      ∙ ap (λ (o : ℕ × ℕ). bytes_of o.0 ++ flat (outs step o.1 (blocks_of more))) es
      ∙ sym (ap (λ bs. flat (outs step register bs)) split) in
      record {
        room = omega (arith, h.room, left);
        long = length-put at 8 out bytes within size ∙ h.long;
        last = ap (λ (o : ℕ × ℕ). last_register step o.1 (blocks_of more)) es ∙ sym (ap (last_register step register) split) ∙ h.last;
        front =
            ap (λ l. l ++ behind) (take-put_mid at 8 out bytes (at + 8) (omega arith) (omega arith))
            ∙ append_assoc (take at out) bytes behind ∙ ap (λ l. take at out ++ l) block ∙ h.front;
        back =
            drop-put_mid at 8 out bytes (at + 8) (omega arith) (omega arith) size
            ∙ sym (drop-drop 8 at out) ∙ ap (drop 8) h.back ∙ drop-drop 8 at old;
      }

  pub passed_all : (register at : ℕ) (rest out : List ℕ) → length input ≤ length old → length rest < 8 → Passed register at rest out
      → (register ≡ last_register step start (blocks_of input)) × (out ≡ overwritten (flat_map bytes_of (outs step start (blocks_of input))) old)
  unfolding last_register outs
  passed_all register at rest out fits short h =
      let none = no_block rest short in
      let all : take at out ≡ flat_map bytes_of (outs step start (blocks_of input)) =
      sym (append-nil (take at out)) ∙ ap (λ bs. take at out ++ flat_map bytes_of (outs step register bs)) (sym none) ∙ h.front in
      let size : length (flat_map bytes_of (outs step start (blocks_of input))) ≡ at =
      sym (ap length all) ∙ length-take-le at out (omega (arith, h.room, h.long)) in (
        ap (last_register step register) (sym none) ∙ h.last,
        sym (take-append-drop at out) ∙ (λ i. all i ++ h.back i) ∙ ap (λ n. flat_map bytes_of (outs step start (blocks_of input)) ++ drop n old) (sym size),
      )

-- what an accepted end writes is a front of the last block's bytes
pub last_front : (opens : Bool) (l : Last) (n : ℕ) → n ≡ cond opens (unwrap_or l.tail 0) 8 → last_bytes opens (Some l) ≡ take n (bytes_of l.block)
last_front true l n e = ap (λ k. take k (bytes_of l.block)) (sym e)
last_front false l n e = sym (take_all n (bytes_of l.block) (omega (arith, length-bytes l.block)))

-- what is cut off where either the list or the room ends
pub take_cut : (n m : ℕ) (xs : List ℕ) → m ≡ min (length xs) n → take m xs ≡ take n xs
take_cut n m xs e = sym (take-take m n xs (omega arith)) ∙ take_all m (take n xs) (omega (arith, length-take n xs))

pub last_written : (opens : Bool) (l : Last) (size n : ℕ) (front old : List ℕ)
    → size ≡ cond opens (unwrap_or l.tail 0) 8 → n ≡ min (min size 8) (length old) → front ≡ take n (bytes_of l.block)
    → front ++ drop n old ≡ overwritten (fitting (last_bytes opens (Some l)) old) old
last_written opens l size n front old es en ef =
    let bytes : List ℕ = bytes_of l.block in
    let long : length bytes ≡ 8 = length-bytes l.block in
    let fits : front ≡ fitting (last_bytes opens (Some l)) old =
    ef ∙ sym (take-take n size bytes (omega arith))
    ∙ take_cut (length old) n (take size bytes) (omega (arith, length-take size bytes))
    ∙ sym (ap (take (length old)) (last_front opens l size es)) in
    let count : length front ≡ n = ap length ef ∙ length-take-le n bytes (omega arith) in
    ap (λ k. front ++ drop k old) (sym count) ∙ ap (λ f. overwritten f old) fits

-- the same over any buffer, of as many bytes as a last block writes
pub last_written_whole : (opens : Bool) (l : Last) (n : ℕ) (front old : List ℕ)
    → front ≡ take n (bytes_of l.block) → n ≡ cond opens (unwrap_or l.tail 0) 8 → n ≤ 8
    → front ++ drop n old ≡ overwritten (last_bytes opens (Some l)) old
last_written_whole opens l n front old ef en within =
    let same : last_bytes opens (Some l) ≡ front = last_front opens l n en ∙ sym ef in
    let long : length front ≡ n = ap length ef ∙ length-take-le n (bytes_of l.block) (omega (arith, length-bytes l.block)) in
    ap (λ k. front ++ drop k old) (sym long) ∙ ap (λ f. overwritten f old) (sym same)

pub none_written : (opens : Bool) (last : Option Last) (old : List ℕ) → last ≡ None → old ≡ overwritten (fitting (last_bytes opens last) old) old
none_written opens last old e =
    sym (ap (λ f. overwritten f old) (ap (λ o. fitting (last_bytes opens o) old) e ∙ take_all (length old) [] (omega arith)))

-- a last block writes no more than a block
pub last_short : (opens : Bool) (last : Option Last) → length (last_bytes opens last) ≤ 8
last_short true None = omega arith
last_short false None = omega arith
last_short true (Some l) = omega (arith, length-take (unwrap_or l.tail 0) (bytes_of l.block), length-bytes l.block)
last_short false (Some l) = omega (arith, length-bytes l.block)

-- a tail is shorter than a block
pub tail_fits : (opens : Bool) (step : ℕ → ℕ → ℕ × ℕ) (r : ℕ) (input : List ℕ) (last : Option Last) → last ≡ last_of opens step r input
    → unwrap_or (tail_of last) 0 ≤ 8
unfolding last_of
tail_fits false step r input last e = go (ltb (length input) 8) refl
  where
    go : (b : Bool) → ltb (length input) 8 ≡ b → unwrap_or (tail_of last) 0 ≤ 8
    go true t = rw (e, t) (omega (arith, ltb-true (length input) 8 t))
    go false t = rw (e, t) (omega arith)
tail_fits true step r input last e = go (eqb (length input) 8) refl
  where
    found : (bytes : List ℕ) (t : Option ℕ) → tail_length bytes ≡ t → unwrap_or t 0 ≤ 8
    found bytes None q = omega arith
    found bytes (Some n) q = omega (arith, (tail_found bytes 8 n q).0)

    go : (b : Bool) → eqb (length input) 8 ≡ b → unwrap_or (tail_of last) 0 ≤ 8
    go true t = rw (e, t) (found (bytes_of (step r (number input)).0) _ refl)
    go false t = rw (e, t) (omega arith)
