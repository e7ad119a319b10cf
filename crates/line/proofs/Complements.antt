-- A sealing line over a complemented cipher, with complemented start values. Assumes nothing.
use Rattle.std.proofs.Common.{◌≡◌, ℕ, ◌*◌, ◌/◌, ◌<◌, Bool, true, false, cond, ltb, List, [], ◌∷◌, ◌++◌, map, length, take, drop, is_some, Some, None, Option, sym, refl, ap, ◌∙◌, subst, arith, ltb-true, lt-ltb}
use Rattle.std.specs.List.{flat_map}
use Rattle.std.proofs.lemmas.List.{take_at, drop_at, length-map, map-append}
use Rattle.block.specs.Block.{IsBlock, AllBlocks, number, bytes_of, blocks_of, flip, flip_byte}
use Rattle.block.proofs.Bytes.{length-bytes, length-flat, length-blocks, blocks_all}
use Rattle.block.proofs.Complement.{bytes-flip}
use Rattle.mode.specs.Pad.{padded}
use Rattle.protocol.specs.declared.refusal.Refusal.{Refusal}
use Rattle.protocol.specs.declared.state.State.{State}
use Rattle.stream.specs.declared.last.Last.{Last}
use Rattle.protocol.specs.declared.state.Event.TheVariants as event
use Rattle.protocol.specs.Rules.{refusal, fresh, with_register}
use Rattle.stream.specs.Stream.{overwritten, outs, last_register, sealed_last, last_of, last_bytes}
use Rattle.line.specs.Model.{Call, Begin, Put, End, Abandon, output_of, Fit, AllFit, Params, After, after, run, written, refusal_to}
use Rattle.line.specs.Laws.{flip_start, Complements, AllComplement, ComplementRuns}
use Rattle.stream.proofs.Through.{Step, Closed, FlippedBy, outs_blocks, length-outs, outs_flipped, last_flipped}
use Rattle.line.proofs.SameRuns.{tail_block, after_block}
use Rattle.protocol.proofs.Causes.{put_facts, end_facts}
use Rattle.line.proofs.Outcomes.{done, after_done, denied, after_denied}
use Rattle.line.proofs.RoundTrips.{idle}

flat-flip : (bs : List ℕ) → AllBlocks bs → flat_map bytes_of (map flip bs) ≡ map flip_byte (flat_map bytes_of bs)
flat-flip [] h = refl
flat-flip (b ∷ bs) h =
    (λ i. bytes-flip b h.0 i ++ flat-flip bs h.1 i) ∙ sym (map-append flip_byte (bytes_of b) (flat_map bytes_of bs))

-- complemented bytes at the front, and the rest as it was
flipped_front : (w v old : List ℕ) (n : ℕ) → length w ≡ n → v ≡ map flip_byte w
    → overwritten v old ≡ map flip_byte (take n (overwritten w old)) ++ drop n (overwritten w old)
flipped_front w v old n e ev =
    let size : length v ≡ length w = ap length ev ∙ length-map w flip_byte in
    (λ i. ev i ++ drop (size i) old)
    ∙ sym (λ i. map flip_byte (take_at w (drop (length w) old) n e i) ++ drop_at w (drop (length w) old) n e i)

abbrev tail_number : List ℕ → ℕ
tail_number input = number (padded input)

-- the last block of a sealing line
sealed_last_is : (f : Step) (r : ℕ) (input : List ℕ) → length input < 8 → last_of false f r input ≡ Some (sealed_last (length input) (f r (tail_number input)))
unfolding last_of
sealed_last_is f r input short = ap (λ b. cond b (Some (sealed_last (length input) (f r (tail_number input)))) None) (lt-ltb (length input) 8 short)

sealed_short : (f : Step) (r : ℕ) (input : List ℕ) (l : Last) → last_of false f r input ≡ Some l → length input < 8
unfolding last_of
sealed_short f r input l is = go (ltb (length input) 8) refl
  where
    go : (b : Bool) → ltb (length input) 8 ≡ b → length input < 8
    go true e = ltb-true _ _ e
    go false e = let bad : None ≡ Some l = rw e at is in absurd (let z : ◌≡◌ {A = ℕ} 0 1 = cc in omega arith)

same_output : (c : Call) → output_of (flip_start c) ≡ output_of c
same_output (Begin start) = refl
same_output (Put input output) = refl
same_output (End line file input output) = refl
same_output (Abandon line file) = refl

module _ (f g : Step) (number : ℕ) (closed : Closed f) (flipped : FlippedBy f g) where
  abbrev p : Params
  p = record { opens = false; step = f; number = number }

  abbrev q : Params
  q = record { opens = false; step = g; number = number }

  -- one call, from states that differ in the register
  module _ (s : State) (x : ℕ) (hs : IsBlock s.register) (hx : is_some s.running ≡ true → x ≡ flip s.register) where
    abbrev t : State
    t = with_register x s

    record Twins (c : Call) (a b : After) : Type 0 where
      complements : Complements a b
      register : is_some a.state.running ≡ true → b.state.register ≡ flip a.state.register

    refusal_same : (c : Call) → refusal_to q t (flip_start c) ≡ refusal_to p s c
    unfolding last_of
    refusal_same (Begin start) = refl
    refusal_same (Put input output) = refl
    refusal_same (End line file input output) = go (ltb (length input) 8)
      where
        go : (b : Bool)
            → refusal number s (event.End line file (cond b (Some (sealed_last (length input) (g x (tail_number input)))) None) (length output))
            ≡ refusal number s (event.End line file (cond b (Some (sealed_last (length input) (f s.register (tail_number input)))) None) (length output))
        go true = refl
        go false = refl
    refusal_same (Abandon line file) = refl

    accepted : (c : Call) → Fit c → refusal_to p s c ≡ None → Twins c (done p s c) (done q t (flip_start c))
    unfolding written
    accepted (Begin start) hc none = record {
      complements = record { answer = refl; out = refl; used = refl; files = refl; blocks = refl; running = refl };
      register = λ _. refl;
    }
    accepted (Put input output) hc none =
        let facts = put_facts number s (length input) (length output) none in
        let r = s.register in
        let bs = blocks_of input in
        let hb = blocks_all input hc in
        let F : List ℕ = flat_map bytes_of (outs f r bs) in
        let size : length F ≡ 8 * (length input / 8) = length-flat (outs f r bs) ∙ ap (λ n. 8 * n) (length-outs f r bs ∙ length-blocks input) in
        let at = hx facts.runs in
        let bytes : flat_map bytes_of (outs g x bs) ≡ map flip_byte F =
        ap (λ y. flat_map bytes_of (outs g y bs)) at ∙ ap (flat_map bytes_of) (outs_flipped f g closed flipped r bs hs hb) ∙ flat-flip (outs f r bs) (outs_blocks f closed r bs hs hb) in
        record {
          complements = record {
            answer = refl;
            out = flipped_front F (flat_map bytes_of (outs g x bs)) output (8 * (length input / 8)) size bytes;
            used = refl;
            files = refl;
            blocks = refl;
            running = refl;
          };
          register = λ _. ap (λ y. last_register g y bs) at ∙ last_flipped f g closed flipped r bs hs hb;
        }
    accepted (End line file input output) hc none =
        let facts = end_facts number s line file (last_of false f s.register input) (length output) none in
        let short : length input < 8 = sealed_short f s.register input facts.block facts.last_is in
        let P : ℕ = tail_number input in
        let hP : IsBlock P = tail_block input hc short in
        let is = sealed_last_is f s.register input short in
        let is' = sealed_last_is g x input short in
        let C : ℕ = (f s.register P).0 in
        let out : g x P ≡ (flip C, flip (f s.register P).1) = ap (λ y. g y P) (hx facts.runs) ∙ flipped s.register P hs hP in
        let bytes : last_bytes false (last_of false g x input) ≡ map flip_byte (last_bytes false (last_of false f s.register input)) =
        ap (last_bytes false) is' ∙ ap (λ o. bytes_of o.0) out ∙ bytes-flip C (closed.block s.register P hs hP) ∙ sym (ap (λ o. map flip_byte (last_bytes false o)) is) in
        record {
          complements = record {
            answer = refl;
            out = flipped_front (last_bytes false (last_of false f s.register input)) (last_bytes false (last_of false g x input)) output 8 (ap (λ o. length (last_bytes false o)) is ∙ length-bytes C) bytes;
            used = refl;
            files = refl;
            blocks = refl;
            running = refl;
          };
          register = λ e. idle e;
        }
    accepted (Abandon line file) hc none = record {
      complements = record { answer = refl; out = refl; used = refl; files = refl; blocks = refl; running = refl };
      register = λ e. idle e;
    }

    refused : (c : Call) (r : Refusal) → Twins c (denied s c r) (denied t (flip_start c) r)
    refused c r = record {
      complements = record { answer = refl; out = same_output c; used = refl; files = refl; blocks = refl; running = refl };
      register = hx;
    }

    twins : (c : Call) → Fit c → Twins c (after p s c) (after q t (flip_start c))
    twins c hc = go (refusal_to p s c) refl
      where
        go : (o : Option Refusal) → refusal_to p s c ≡ o → Twins c (after p s c) (after q t (flip_start c))
        go None e =
            let is = after_done p s c e in
            let is' = after_done q t (flip_start c) (refusal_same c ∙ e) in
            subst (λ a. Twins c a (after q t (flip_start c))) (sym is) (subst (Twins c (done p s c)) (sym is') (accepted c hc e))
        go (Some r) e =
            let is = after_denied p s c r e in
            let is' = after_denied q t (flip_start c) r (refusal_same c ∙ e) in
            subst (λ a. Twins c a (after q t (flip_start c))) (sym is) (subst (Twins c (denied s c r)) (sym is') (refused c r))

  run_twins : (s t : State) (cs : List Call) → IsBlock s.register → AllFit cs
      → t ≡ with_register t.register s → (is_some s.running ≡ true → t.register ≡ flip s.register)
      → AllComplement (run p s cs) (run q t (map flip_start cs))
  unfolding run
  run_twins s t [] hs hc e hx = refl
  run_twins s t (c ∷ cs) hs hc e hx =
      let a = after p s c in
      let b = after q t (flip_start c) in
      let both : Twins s t.register hs hx c a b =
      subst (λ u. Twins s t.register hs hx c a (after q u (flip_start c))) (sym e) (twins s t.register hs hx c hc.0) in
      let same = both.complements in (
        same,
        run_twins a.state b.state cs (after_block p closed s c hs hc.0) hc.1
            (λ i. record { register = b.state.register; used = same.used i; files = same.files i; blocks = same.blocks i; running = same.running i })
            both.register,
      )

  pub complement_runs : ComplementRuns p q
  complement_runs cs hc = run_twins fresh fresh cs (omega arith) hc refl (λ e. idle e)
