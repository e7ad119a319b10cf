-- A line of the other kind takes back what a line wrote. Assumes nothing.
use Rattle.std.proofs.Common.{◌≡◌, ℕ, ◌+◌, ◌*◌, ◌/◌, ◌%◌, ◌<◌, ◌≤◌, Bool, true, false, cond, not, eqb, ltb, List, [], ◌∷◌, length, take, drop, is_some, Some, None, Ok, Err, Result, unwrap_or, sym, refl, ap, ◌∙◌, subst, arith, ltb-true, lt-ltb, eqb-true}
use Rattle.std.specs.List.{flat_map}
use Rattle.std.proofs.lemmas.List.{take_at, length-take-le}
use Rattle.block.specs.Block.{IsBlock, AllBytes, number, bytes_of, blocks_of}
use Rattle.block.proofs.Bytes.{number-bytes, length-bytes, length-flat, length-blocks, blocks_all, blocks-flat, flat-blocks, number_fits, bytes_of-number}
use Rattle.mode.specs.Pad.{padded, tail_length}
use Rattle.mode.proofs.Padded.{length-padded, padded_bytes, tail_padded, tail_found, padded_tail}
use Rattle.protocol.specs.declared.refusal.Refusal.{Refusal}
use Rattle.protocol.specs.declared.state.State.{State}
use Rattle.stream.specs.declared.last.Last.{Last}
use Rattle.protocol.specs.declared.state.Answer.{Answer}
use Rattle.protocol.specs.declared.state.Answer.TheVariants.{Taken, Sealed, Opened}
use Rattle.protocol.specs.declared.state.Event.TheVariants as event
use Rattle.stream.specs.Stream.{tail_of, register_of, overwritten, outs, last_register, sealed_last, opened_last, last_of, last_bytes}
use Rattle.protocol.specs.Rules.{next, fresh, with_register}
use Rattle.line.specs.Model.{Call, Begin, Put, End, Abandon, Fit, AllFit, Params, After, after, run, left, moved, written, refusal_to}
use Rattle.line.specs.Laws.{writes, wrote, ByAnswer, slip_after, Paired, HandsOn, counterpart, Restores, RoundTrip}
use Rattle.stream.proofs.Through.{Step, Closed, UndoneBy, outs_blocks, length-outs, outs_undone, last_undone}
use Rattle.line.proofs.SameRuns.{tail_block, after_block}
use Rattle.protocol.proofs.Causes.{put_facts, put_allowed, end_facts, end_allowed, abandon_facts, abandon_allowed}
use Rattle.line.proofs.Outcomes.{done, after_done, accepted_by, refused_stays}

-- what a call wrote is what stands at the front
front : (w old : List ℕ) (n : ℕ) → length w ≡ n → take n (overwritten w old) ≡ w
front w old n e = take_at w (drop (length w) old) n e

module _ (f g : Step) (closed : Closed f) (undone : UndoneBy f g) (r : ℕ) (hr : IsBlock r) (input : List ℕ) (hi : AllBytes input) where
  -- what the other kind makes of a written last block
  record Mirrored (opens : Bool) (l : Last) (n : ℕ) : Type 0 where
    other : Last
    is : last_of (not opens) g r (last_bytes opens (Some l)) ≡ Some other
    register : other.register ≡ l.register
    tail : other.tail ≡ Some n
    bytes : last_bytes (not opens) (Some other) ≡ input
    size : length (last_bytes opens (Some l)) ≡ cond opens n 8
    sealed : cond opens (length input) n ≡ length input

  mirrored_sealed : (n : ℕ) → length input < 8 → length input ≡ n → Mirrored false (sealed_last (length input) (f r (number (padded input)))) n
  unfolding last_of
  mirrored_sealed n short e =
      let P : ℕ = number (padded input) in
      let hP : IsBlock P = tail_block input hi short in
      let C : ℕ = (f r P).0 in
      let hC : IsBlock C = closed.block r P hr hP in
      let out : ℕ × ℕ = g r (number (bytes_of C)) in
      let back : out ≡ (P, (f r P).1) = ap (g r) (number-bytes C hC) ∙ undone r P hr hP in
      let plain : bytes_of out.0 ≡ padded input = ap (λ o. bytes_of o.0) back ∙ bytes_of-number (padded input) (length-padded input short) (padded_bytes input hi) in
      let tail : tail_length (bytes_of out.0) ≡ Some n = ap tail_length plain ∙ tail_padded input short ∙ ap Some e in
      record {
        other = opened_last out;
        is = ap (λ k. cond (eqb k 8) (Some (opened_last out)) None) (length-bytes C);
        register = ap (λ o. o.1) back;
        tail = tail;
        bytes = (λ i. take (unwrap_or (tail i) 0) (plain i)) ∙ take_at input _ n e;
        size = length-bytes C;
        sealed = sym e;
      }

  mirrored_opened : (n : ℕ) → length input ≡ 8 → tail_length (bytes_of (f r (number input)).0) ≡ Some n → Mirrored true (opened_last (f r (number input))) n
  unfolding last_of
  mirrored_opened n whole e =
      let C : ℕ = number input in
      let hC : IsBlock C = number_fits input whole hi in
      let P : ℕ = (f r C).0 in
      let hP : IsBlock P = closed.block r C hr hC in
      let T : List ℕ = take (unwrap_or (tail_length (bytes_of P)) 0) (bytes_of P) in
      let short : n < 8 = (tail_found (bytes_of P) 8 n e).0 in
      let is_n : T ≡ take n (bytes_of P) = ap (λ o. take (unwrap_or o 0) (bytes_of P)) e in
      let size : length T ≡ n = ap length is_n ∙ length-take-le n (bytes_of P) (omega (arith, length-bytes P)) in
      let whole_again : padded T ≡ bytes_of P = ap padded is_n ∙ padded_tail (bytes_of P) n (length-bytes P) e in
      let out : ℕ × ℕ = g r (number (padded T)) in
      let back : out ≡ (C, (f r C).1) = ap (λ x. g r (number x)) whole_again ∙ ap (g r) (number-bytes P hP) ∙ undone r C hr hC in
      record {
        other = sealed_last (length T) out;
        is = ap (λ b. cond b (Some (sealed_last (length T) out)) None) (lt-ltb (length T) 8 (omega arith));
        register = ap (λ o. o.1) back;
        tail = ap Some size;
        bytes = ap (λ o. bytes_of o.0) back ∙ bytes_of-number input whole hi;
        size = size;
        sealed = refl;
      }

  mirrored : (opens : Bool) (l : Last) (n : ℕ) → last_of opens f r input ≡ Some l → l.tail ≡ Some n → Mirrored opens l n
  unfolding last_of
  mirrored false l n is tail = go (ltb (length input) 8) refl
    where
      go : (b : Bool) → ltb (length input) 8 ≡ b → Mirrored false l n
      go true e =
          let same : Some (sealed_last (length input) (f r (number (padded input)))) ≡ Some l = rw e at is in
          let l_is : sealed_last (length input) (f r (number (padded input))) ≡ l = cc in
          let size : Some (length input) ≡ Some n = ap (λ x. x.tail) l_is ∙ tail in
          subst (λ x. Mirrored false x n) l_is (mirrored_sealed n (ltb-true _ _ e) (cc))
      go false e = let bad : None ≡ Some l = rw e at is in absurd (let z : ◌≡◌ {A = ℕ} 0 1 = cc in omega arith)
  mirrored true l n is tail = go (eqb (length input) 8) refl
    where
      go : (b : Bool) → eqb (length input) 8 ≡ b → Mirrored true l n
      go true e =
          let same : Some (opened_last (f r (number input))) ≡ Some l = rw e at is in
          let l_is : opened_last (f r (number input)) ≡ l = cc in
          subst (λ x. Mirrored true x n) l_is (mirrored_opened n (eqb-true _ _ e) (ap (λ x. x.tail) l_is ∙ tail))
      go false e = let bad : None ≡ Some l = rw e at is in absurd (let z : ◌≡◌ {A = ℕ} 0 1 = cc in omega arith)

end_writes : (opens : Bool) (b t : ℕ) → writes (Ok (cond opens (Opened b t) (Sealed b))) ≡ cond opens t 8
end_writes true b t = refl
end_writes false b t = refl

end_answer : (opens : Bool) (b n t u len : ℕ) → u ≡ n → cond opens len n ≡ len
    → ◌≡◌ {A = Result Answer Refusal} (Ok (cond (not opens) (Opened b u) (Sealed b))) (counterpart len (Ok (cond opens (Opened b t) (Sealed b))))
end_answer true b n t u len eu el = refl
end_answer false b n t u len eu el = ap (λ k. Ok (Opened b k)) (eu ∙ el)

-- no file runs on an idle line
pub idle : {A : Type 0} → false ≡ true → A
idle e = absurd (let z : ◌≡◌ {A = ℕ} 0 1 = cc in omega arith)

module _ (opens : Bool) (f g : Step) (number : ℕ) (closed : Closed f) (undone : UndoneBy f g) where
  abbrev p : Params
  p = record { opens = opens; step = f; number = number }

  abbrev q : Params
  q = record { opens = not opens; step = g; number = number }

  -- while a file runs, the second line's own slip has its number and the file's
  Own : ℕ × ℕ → State → Type 0
  Own own s = is_some s.running ≡ true → own ≡ (number, s.files)

  -- the second line takes what the first one handed on, from the same state
  record TakenBack (own : ℕ × ℕ) (s : State) (c d : Call) : Type 0 where
    restores : Restores own c (done p s c) d (after q s d)
    state : (after q s d).state ≡ moved p s c
    slip : Own (slip_after own (after q s d).answer) (moved p s c)

  -- it is enough that the second line accepts the call
  taken_back : (own : ℕ × ℕ) (s : State) (c d : Call) → refusal_to q s d ≡ None
      → Restores own c (done p s c) d (done q s d) → moved q s d ≡ moved p s c → Own (slip_after own (done q s d).answer) (moved p s c)
      → TakenBack own s c d
  taken_back own s c d none restores state slip =
      let e = sym (after_done q s d none) in
      record {
        restores = subst (λ b. Restores own c (done p s c) d b) e restores;
        state = sym (ap (λ b. b.state) e) ∙ state;
        slip = subst (λ b. Own (slip_after own b.answer) (moved p s c)) e slip;
      }

  begin_back : (own : ℕ × ℕ) (s : State) (start : ℕ) → refusal_to p s (Begin start) ≡ None → TakenBack own s (Begin start) (Begin start)
  unfolding written Own
  begin_back own s start none = taken_back own s (Begin start) (Begin start) none (refl, refl) refl (λ _. refl)

  put_back : (own : ℕ × ℕ) (s : State) (input output room : List ℕ) → IsBlock s.register → AllBytes input → Own own s
      → refusal_to p s (Put input output) ≡ None → length (wrote (done p s (Put input output))) ≤ length room
      → TakenBack own s (Put input output) (Put (wrote (done p s (Put input output))) room)
  unfolding written Own
  put_back own s input output room hs hi slip none fits =
      let facts = put_facts number s (length input) (length output) none in
      let r = s.register in
      let bs = blocks_of input in
      let F : List ℕ = flat_map bytes_of (outs f r bs) in
      let size : length F ≡ 8 * (length input / 8) = length-flat (outs f r bs) ∙ ap (λ n. 8 * n) (length-outs f r bs ∙ length-blocks input) in
      let W : List ℕ = wrote (done p s (Put input output)) in
      let is : W ≡ F = front F output (8 * (length input / 8)) size in
      let long : length W ≡ length input = ap length is ∙ size ∙ omega (arith, facts.whole) in
      let blocks : blocks_of W ≡ outs f r bs = ap blocks_of is ∙ blocks-flat (outs f r bs) (outs_blocks f closed r bs hs (blocks_all input hi)) in
      let plain : outs g r (blocks_of W) ≡ bs = ap (outs g r) blocks ∙ outs_undone f g closed undone r bs hs (blocks_all input hi) in
      let last : last_register g r (blocks_of W) ≡ last_register f r bs = ap (last_register g r) blocks ∙ last_undone f g closed undone r bs hs (blocks_all input hi) in
      let bytes : flat_map bytes_of (outs g r (blocks_of W)) ≡ input = ap (flat_map bytes_of) plain ∙ flat-blocks input hi facts.whole in
      let allowed : refusal_to q s (Put W room) ≡ None =
      put_allowed number s (length W) (length room) (record {
        runs = facts.runs;
        whole = ap (λ n. n % 8) long ∙ facts.whole;
        room = fits;
        few = ap (λ n. ltb 1048575 (s.used + n / 8)) long ∙ facts.few;
      }) in
      taken_back own s (Put input output) (Put W room) allowed
      (ap (λ n. Ok (Taken (n / 8))) long, ap (λ x. overwritten x room) bytes)
      (λ i. with_register (last i) (next s (event.Put (long i) (length output))))
      slip

  end_back : (own : ℕ × ℕ) (s : State) (line file : ℕ) (input output room : List ℕ) → IsBlock s.register → AllBytes input → Own own s
      → refusal_to p s (End line file input output) ≡ None → 8 ≤ length room
      → TakenBack own s (End line file input output) (End own.0 own.1 (wrote (done p s (End line file input output))) room)
  unfolding written Own
  end_back own s line file input output room hs hi slip none fits =
      let facts = end_facts number s line file (last_of opens f s.register input) (length output) none in
      let l = facts.block in
      let n = facts.tail in
      let m = mirrored f g closed undone s.register hs input hi opens l n facts.last_is facts.tail_is in
      let c : Call = End line file input output in
      let W : List ℕ = wrote (done p s c) in
      let tail : unwrap_or (tail_of (last_of opens f s.register input)) 0 ≡ n = ap (λ o. unwrap_or (tail_of o) 0) facts.last_is ∙ ap (λ o. unwrap_or o 0) facts.tail_is in
      let is : W ≡ last_bytes opens (Some l) =
      front (last_bytes opens (last_of opens f s.register input)) output _
      (ap (λ o. length (last_bytes opens o)) facts.last_is ∙ m.size ∙ ap (λ t. cond opens t 8) (sym tail) ∙ sym (end_writes opens (s.blocks + 1) _))
      ∙ ap (last_bytes opens) facts.last_is in
      let other : last_of (not opens) g s.register W ≡ Some m.other = ap (last_of (not opens) g s.register) is ∙ m.is in
      let mine = slip facts.runs in
      let allowed : refusal_to q s (End own.0 own.1 W room) ≡ None =
      end_allowed number s own.0 own.1 (last_of (not opens) g s.register W) (length room) (record {
        runs = facts.runs;
        line_is = ap (λ o. o.0) mine;
        file_is = ap (λ o. o.1) mine;
        block = m.other;
        last_is = other;
        room = fits;
        tail = n;
        tail_is = m.tail;
        not_empty = facts.not_empty;
      }) in
      taken_back own s c (End own.0 own.1 W room) allowed
      (end_answer opens (s.blocks + 1) n _ _ (length input) (ap (λ o. unwrap_or (tail_of o) 0) other ∙ ap (λ o. unwrap_or o 0) m.tail) m.sealed, ap (λ o. overwritten (last_bytes (not opens) o) room) other ∙ ap (λ x. overwritten x room) m.bytes)
      (λ i. record {
        register = (ap (λ o. register_of o s.register) other ∙ m.register ∙ sym (ap (λ o. register_of o s.register) facts.last_is)) i;
        used = s.used + 1;
        files = s.files;
        blocks = s.blocks + 1;
        running = None;
      })
      (λ e. idle e)

  abandon_back : (own : ℕ × ℕ) (s : State) (line file : ℕ) → Own own s → refusal_to p s (Abandon line file) ≡ None
      → TakenBack own s (Abandon line file) (Abandon own.0 own.1)
  unfolding written Own
  abandon_back own s line file slip none =
      let facts = abandon_facts number s line file none in
      let mine = slip facts.runs in
      taken_back own s (Abandon line file) (Abandon own.0 own.1)
      (abandon_allowed number s own.0 own.1 (record { runs = facts.runs; line_is = ap (λ o. o.0) mine; file_is = ap (λ o. o.1) mine }))
      (refl, refl) refl (λ e. idle e)

  -- each call that the first line accepted
  call_back : (own : ℕ × ℕ) (s : State) (c d : Call) (b : After) → IsBlock s.register → Fit c → Own own s → refusal_to p s c ≡ None
      → HandsOn own c (done p s c) d b → TakenBack own s c d
  call_back own s (Begin start) d b hs hc slip none h = subst (TakenBack own s (Begin start)) (sym h) (begin_back own s start none)
  call_back own s (Put input output) d b hs hc slip none (room, is, fits) =
      subst (TakenBack own s (Put input output)) (sym is) (put_back own s input output room hs hc slip none fits)
  call_back own s (End line file input output) d b hs hc slip none (room, is, fits) =
      subst (TakenBack own s (End line file input output)) (sym is) (end_back own s line file input output room hs hc slip none fits)
  call_back own s (Abandon line file) d b hs hc slip none h = subst (TakenBack own s (Abandon line file)) (sym h) (abandon_back own s line file slip none)

  -- both lists, from the same state
  abbrev Goal : ℕ × ℕ → State → List Call → List Call → Type 0
  Goal own s cs ds = Paired Restores own cs (run p s cs) ds (run q s ds) × (left p s cs ≡ left q s ds)

  by_answer : (r : Result Answer Refusal) (R A R' A' Z : Type 0) → ByAnswer r R A
      → ((e : Refusal) → r ≡ Err e → R → R' × Z) → ((a : Answer) → r ≡ Ok a → A → A' × Z) → ByAnswer r R' A' × Z
  by_answer (Err e) R A R' A' Z h refused accepted = refused e refl h
  by_answer (Ok a) R A R' A' Z h refused accepted = accepted a refl h

  trip : (cs ds : List Call) (own : ℕ × ℕ) (s : State) → IsBlock s.register → AllFit cs → Own own s
      → Paired HandsOn own cs (run p s cs) ds (run q s ds) → Goal own s cs ds
  unfolding run left
  trip [] ds own s hs hc slip h = (h, sym (ap (left q s) h))
  trip (c ∷ cs) [] own s hs hc slip h =
      let s' = (after p s c).state in
      by_answer (after p s c).answer _ _ _ _ _ h
      (λ r e on.
      let stays : s' ≡ s = refused_stays p s c r e in
      let ih = trip cs [] own s' (after_block p closed s c hs hc.0) hc.1 (subst (Own own) (sym stays) slip) on in
      (ih.0, ih.1 ∙ stays))
      (λ a e no_call. absurd no_call)
  trip (c ∷ cs) (d ∷ ds) own s hs hc slip h =
      let s' = (after p s c).state in
      let hs' = after_block p closed s c hs hc.0 in
      by_answer (after p s c).answer _ _ _ _ _ h
      (λ r e on.
      let stays : s' ≡ s = refused_stays p s c r e in
      let ih = trip cs (d ∷ ds) own s' hs' hc.1 (subst (Own own) (sym stays) slip)
      (subst (λ x. Paired HandsOn own cs (run p s' cs) (d ∷ ds) (run q x (d ∷ ds))) (sym stays) on) in
      (subst (λ x. Paired Restores own cs (run p s' cs) (d ∷ ds) (run q x (d ∷ ds))) stays ih.0, ih.1 ∙ ap (λ x. left q x (d ∷ ds)) stays))
      (λ a e on.
      let none = accepted_by p s c a e in
      let is = after_done p s c none in
      let back = call_back own s c d (after q s d) hs hc.0 slip none (subst (λ x. HandsOn own c x d (after q s d)) is on.0) in
      let t' = (after q s d).state in
      let same : t' ≡ s' = back.state ∙ sym (ap (λ x. x.state) is) in
      let own' = slip_after own (after q s d).answer in
      let ih = trip cs ds own' s' hs' hc.1 (subst (Own own') (sym (ap (λ x. x.state) is)) back.slip)
      (subst (λ x. Paired HandsOn own' cs (run p s' cs) ds (run q x ds)) same on.1) in (
        (
          subst (λ x. Restores own c x d (after q s d)) (sym is) back.restores,
          subst (λ x. Paired Restores own' cs (run p s' cs) ds (run q x ds)) (sym same) ih.0,
        ),
        ih.1 ∙ ap (λ x. left q x ds) (sym same),
      ))

  pub round_trips : RoundTrip p q
  unfolding Own
  round_trips own cs ds hc h = trip cs ds own fresh (omega arith) hc (λ e. idle e) h
