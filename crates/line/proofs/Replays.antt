-- A list of calls performed one after another. Assumes nothing.
use Rattle.std.proofs.Common.{◌≡◌, ℕ, ◌+◌, ◌-◌, ◌<◌, ◌≤◌, Bool, true, false, leb, ◌⊎◌, List, [], ◌∷◌, ◌++◌, length, get_or, take, drop, set, Result, sym, refl, ap, ◌∙◌, subst, inl, inr, arith, length-drop, take-append-drop, le-leb, leb-true}
use borrow.Author.Tests.{lt-leb}
use borrow.Rule.Slice.PartMut.{put_mid}
use Rattle.std.proofs.lemmas.List.{append-nil, append_assoc, at_drop_more, at_drop_all, drop-drop, drop-set-lt, length-append, length-set, length-take-le, take_more_set}
use Rattle.std.proofs.lemmas.Slice.{take-put_mid, drop-put_mid}
use Rattle.protocol.specs.declared.refusal.Refusal.{Refusal}
use Rattle.protocol.specs.declared.state.State.{State}
use Rattle.protocol.specs.declared.state.Answer.{Answer}
use Rattle.stream.specs.Stream.{overwritten}
use Rattle.line.specs.Model.{Call, Fit, AllFit, Params, After, after, run, left}
use Rattle.line.specs.declared.request.Request.{Request}
use Rattle.protocol.specs.Rules.{both}
use Rattle.line.specs.Replay.{input_size, output_size, call_of, calls, bytes_fit, answers, out_bytes}

module _ (rs : List Request) (k : ℕ) (d : Request) (i o x y : ℕ) (here : k < length rs)
    (ex : x ≡ input_size (get_or rs k d)) (ey : y ≡ output_size (get_or rs k d)) where
  next_fit : bytes_fit (drop k rs) i o ≡ both (leb x i) (both (leb y o) (bytes_fit (drop (k + 1) rs) (i - x) (o - y)))
  unfolding bytes_fit
  next_fit =
      at_drop_more (λ l. bytes_fit l i o) rs k d here
      ∙ sym (λ j. both (leb (ex j) i) (both (leb (ey j) o) (bytes_fit (drop (k + 1) rs) (i - ex j) (o - ey j))))

  pub fits_more : x ≤ i → y ≤ o → bytes_fit (drop (k + 1) rs) (i - x) (o - y) ≡ bytes_fit (drop k rs) i o
  fits_more hx hy =
      sym (next_fit ∙ (λ j. both (le-leb x i hx j) (both (le-leb y o hy j) (bytes_fit (drop (k + 1) rs) (i - x) (o - y)))))

  pub fits_not : (i < x) ⊎ ((x ≤ i) × (o < y)) → bytes_fit (drop k rs) i o ≡ false
  fits_not (inl h) = next_fit ∙ ap (λ b. both b (both (leb y o) (bytes_fit (drop (k + 1) rs) (i - x) (o - y)))) (lt-leb x i h)
  fits_not (inr (hx, hy)) =
      next_fit ∙ (λ j. both (le-leb x i hx j) (both (lt-leb y o hy j) (bytes_fit (drop (k + 1) rs) (i - x) (o - y))))

pub fits_all : (rs : List Request) (k i o : ℕ) → length rs ≤ k → bytes_fit (drop k rs) i o ≡ true
unfolding bytes_fit
fits_all rs k i o h = at_drop_all (λ l. bytes_fit l i o) rs k h

-- a call that fits takes no more than what is left
both_true : (a b : Bool) → both a b ≡ true → (a ≡ true) × (b ≡ true)
both_true true b e = (refl, e)
both_true false b e = absurd (let z : ◌≡◌ {A = ℕ} 0 1 = cc in omega arith)

pub fits_here : (rs : List Request) (k : ℕ) (d : Request) (i o : ℕ) → k < length rs → bytes_fit (drop k rs) i o ≡ true
    → (input_size (get_or rs k d) ≤ i) × (output_size (get_or rs k d) ≤ o)
    × (bytes_fit (drop (k + 1) rs) (i - input_size (get_or rs k d)) (o - output_size (get_or rs k d)) ≡ true)
fits_here rs k d i o here fits =
    let e = both_true _ _ (sym (next_fit rs k d i o _ _ here refl refl) ∙ fits) in
    let f = both_true _ _ e.1 in
    (leb-true _ _ e.0, leb-true _ _ f.0, f.1)

length-put : {A : Type 0} (at n : ℕ) (out bytes : List A) → at + n ≤ length out → length bytes ≡ n → length (put_mid at n out bytes) ≡ length out
length-put at n out bytes within size =
    length-append (take at out) (bytes ++ drop n (drop at out))
    ∙ omega (arith, length-take-le at out (omega arith), length-append bytes (drop n (drop at out)), length-drop n (drop at out), length-drop at out, size)

module _ (p : Params) (start : State) (rs : List Request) (inputs outputs : List ℕ) (replies : List (Result Answer Refusal)) where
  -- the calls that are left
  abbrev pub rest : ℕ → List ℕ → ℕ → List Call
  rest k ins wrote = calls (drop k rs) ins (drop wrote outputs)

  -- where the loop over the calls stands: k are done and `wrote` bytes with them, and `ins` are the bytes that are left to read
  pub record Sofar (k : ℕ) (ins : List ℕ) (wrote : ℕ) (s : State) (outs : List ℕ) (reps : List (Result Answer Refusal)) : Type 0 where
    pub writes : wrote ≤ length outputs
    pub bytes : bytes_fit (drop k rs) (length ins) (length outputs - wrote) ≡ true
    pub outs_long : length outs ≡ length outputs
    pub reps_long : length reps ≡ length replies
    pub state : left p s (rest k ins wrote) ≡ left p start (calls rs inputs outputs)
    pub reply : take k reps ++ answers (run p s (rest k ins wrote)) ≡ answers (run p start (calls rs inputs outputs))
    pub out : take wrote outs ++ out_bytes (run p s (rest k ins wrote)) ≡ out_bytes (run p start (calls rs inputs outputs))
    pub reps_back : drop k reps ≡ drop k replies
    pub outs_back : drop wrote outs ≡ drop wrote outputs
    pub fit : AllFit (rest k ins wrote) → AllFit (calls rs inputs outputs)

  pub none_done : bytes_fit rs (length inputs) (length outputs) ≡ true → Sofar 0 inputs 0 start outputs replies
  none_done fits = record {
    writes = omega arith;
    bytes = subst (λ n. bytes_fit rs (length inputs) n ≡ true) (minus (length outputs)) fits;
    outs_long = refl;
    reps_long = refl;
    state = refl;
    reply = refl;
    out = refl;
    reps_back = refl;
    outs_back = refl;
    fit = λ h. h;
  }
    where
      minus : (n : ℕ) → n ≡ n - 0
      minus n = omega arith

  pub one_more : (k : ℕ) (ins : List ℕ) (wrote : ℕ) (s s' : State) (outs : List ℕ) (reps : List (Result Answer Refusal)) (d : Request) (a : Result Answer Refusal) (o : List ℕ)
      → k < length rs → length rs ≤ length replies → Sofar k ins wrote s outs reps
      → after p s (call_of (get_or rs k d) (take (input_size (get_or rs k d)) ins) (take (output_size (get_or rs k d)) (drop wrote outs))) ≡ record { state = s'; answer = a; out = o }
      → Fit (call_of (get_or rs k d) (take (input_size (get_or rs k d)) ins) (take (output_size (get_or rs k d)) (drop wrote outs)))
      → length o ≡ output_size (get_or rs k d)
      → Sofar (k + 1) (drop (input_size (get_or rs k d)) ins) (wrote + output_size (get_or rs k d)) s' (put_mid wrote (output_size (get_or rs k d)) outs o) (set reps k a)
  unfolding calls run left
  one_more k ins wrote s s' outs reps d a o here room h did fit size =
      let x : ℕ = input_size (get_or rs k d) in
      let y : ℕ = output_size (get_or rs k d) in
      let (hx, hy, more) = fits_here rs k d (length ins) (length outputs - wrote) here h.bytes in
      let in_room : k < length reps = omega (arith, h.reps_long) in
      let within : wrote + y ≤ length outs = omega (arith, h.outs_long, h.writes) in
      let c : Call = call_of (get_or rs k d) (take x ins) (take y (drop wrote outs)) in
      let later : List Call = rest (k + 1) (drop x ins) (wrote + y) in
      let split : rest k ins wrote ≡ c ∷ later =
      at_drop_more (λ l. calls l ins (drop wrote outputs)) rs k d here
      ∙ (λ i. call_of (get_or rs k d) (take x ins) (take y (sym h.outs_back i)) ∷ calls (drop (k + 1) rs) (drop x ins) (drop-drop y wrote outputs i)) in
      record {
        writes = omega (arith, h.writes, hy);
        bytes = subst (λ n. bytes_fit (drop (k + 1) rs) n (length outputs - (wrote + y)) ≡ true) (sym (length-drop x ins))
            (subst (λ n. bytes_fit (drop (k + 1) rs) (length ins - x) n ≡ true) (sub-sub (length outputs) wrote y) more);
        outs_long = length-put wrote y outs o within size ∙ h.outs_long;
        reps_long = length-set reps k a ∙ h.reps_long;
        state = sym (ap (λ z. left p z.state later) did) ∙ sym (ap (left p s) split) ∙ h.state;
        reply =
            ap (λ l. l ++ answers (run p s' later)) (take_more_set reps k a in_room)
            ∙ append_assoc (take k reps) (a ∷ []) (answers (run p s' later))
            ∙ ap (λ (z : After). take k reps ++ (z.answer ∷ answers (run p z.state later))) (sym did)
            ∙ ap (λ l. take k reps ++ answers (run p s l)) (sym split)
            ∙ h.reply;
        out =
            ap (λ l. l ++ out_bytes (run p s' later)) (take-put_mid wrote y outs o (wrote + y) (ap (λ n. wrote + n) (sym size)) (omega (arith, h.writes, h.outs_long)))
            ∙ append_assoc (take wrote outs) o (out_bytes (run p s' later))
            ∙ ap (λ (z : After). take wrote outs ++ (z.out ++ out_bytes (run p z.state later))) (sym did)
            ∙ ap (λ l. take wrote outs ++ out_bytes (run p s l)) (sym split)
            ∙ h.out;
        reps_back = drop-set-lt (k + 1) reps k a (omega arith) ∙ sym (drop-drop 1 k reps) ∙ ap (drop 1) h.reps_back ∙ drop-drop 1 k replies;
        outs_back =
            drop-put_mid wrote y outs o (wrote + y) (omega arith) (omega (arith, h.writes, h.outs_long)) size
            ∙ sym (drop-drop y wrote outs) ∙ ap (drop y) h.outs_back ∙ drop-drop y wrote outputs;
        fit = λ g. h.fit (subst AllFit (sym split) (fit, g));
      }
    where
      sub-sub : (n a b : ℕ) → n - a - b ≡ n - (a + b)
      sub-sub n a b = omega arith

  -- the next call stays within the buffers
  pub within : (k : ℕ) (ins : List ℕ) (wrote : ℕ) (s : State) (outs : List ℕ) (reps : List (Result Answer Refusal)) (d : Request) (x y : ℕ)
      → k < length rs → Sofar k ins wrote s outs reps → x ≡ input_size (get_or rs k d) → y ≡ output_size (get_or rs k d)
      → (x ≤ length ins) × (wrote + y ≤ length outs)
  within k ins wrote s outs reps d x y here h ex ey =
      let (hx, hy, more) = fits_here rs k d (length ins) (length outputs - wrote) here h.bytes in
      (omega (arith, hx, ex), omega (arith, h.writes, hy, ey, h.outs_long))

  -- `one_more`, by the lengths of the parts that were lent and what is left after them
  pub one_more_at : (k : ℕ) (ins : List ℕ) (wrote : ℕ) (s s' : State) (outs : List ℕ) (reps : List (Result Answer Refusal)) (d : Request) (a : Result Answer Refusal) (o : List ℕ)
      (n m wrote' : ℕ)
      → k < length rs → length rs ≤ length replies → Sofar k ins wrote s outs reps
      → n ≡ input_size (get_or rs k d) → m ≡ output_size (get_or rs k d) → wrote' ≡ wrote + output_size (get_or rs k d)
      → after p s (call_of (get_or rs k d) (take n ins) (take m (drop wrote outs))) ≡ record { state = s'; answer = a; out = o }
      → Fit (call_of (get_or rs k d) (take n ins) (take m (drop wrote outs)))
      → length o ≡ m
      → Sofar (k + 1) (drop n ins) wrote' s' (put_mid wrote m outs o) (set reps k a)
  one_more_at k ins wrote s s' outs reps d a o n m wrote' here room h en em ew did fit size =
      let done = one_more k ins wrote s s' outs reps d a o here room h
      (subst (λ y. after p s (call_of (get_or rs k d) (take (input_size (get_or rs k d)) ins) (take y (drop wrote outs))) ≡ record { state = s'; answer = a; out = o }) em
      (subst (λ x. after p s (call_of (get_or rs k d) (take x ins) (take m (drop wrote outs))) ≡ record { state = s'; answer = a; out = o }) en did))
      (subst (λ y. Fit (call_of (get_or rs k d) (take (input_size (get_or rs k d)) ins) (take y (drop wrote outs)))) em
      (subst (λ x. Fit (call_of (get_or rs k d) (take x ins) (take m (drop wrote outs)))) en fit))
      (size ∙ em) in
      subst (λ x. Sofar (k + 1) (drop x ins) wrote' s' (put_mid wrote m outs o) (set reps k a)) (sym en)
      (subst (λ w. Sofar (k + 1) (drop (input_size (get_or rs k d)) ins) w s' (put_mid wrote m outs o) (set reps k a)) (sym ew)
      (subst (λ y. Sofar (k + 1) (drop (input_size (get_or rs k d)) ins) (wrote + output_size (get_or rs k d)) s' (put_mid wrote y outs o) (set reps k a)) (sym em) done))

  pub record AllDone (s : State) (outs : List ℕ) (reps : List (Result Answer Refusal)) : Type 0 where
    pub state : s ≡ left p start (calls rs inputs outputs)
    pub out : outs ≡ overwritten (out_bytes (run p start (calls rs inputs outputs))) outputs
    pub reply : reps ≡ overwritten (answers (run p start (calls rs inputs outputs))) replies
    pub fit : AllFit (calls rs inputs outputs)

  pub all_done : (k : ℕ) (ins : List ℕ) (wrote : ℕ) (s : State) (outs : List ℕ) (reps : List (Result Answer Refusal))
      → length rs ≤ k → k ≤ length replies → Sofar k ins wrote s outs reps → AllDone s outs reps
  unfolding calls run left
  all_done k ins wrote s outs reps end room h =
      let none : rest k ins wrote ≡ [] = at_drop_all (λ l. calls l ins (drop wrote outputs)) rs k end in
      record {
        state = sym (ap (left p s) none) ∙ h.state;
        out = whole outs outputs wrote (out_bytes (run p start (calls rs inputs outputs)))
            (sym (append-nil (take wrote outs)) ∙ ap (λ l. take wrote outs ++ out_bytes (run p s l)) (sym none) ∙ h.out) h.outs_back (omega (arith, h.writes, h.outs_long));
        reply = whole reps replies k (answers (run p start (calls rs inputs outputs)))
            (sym (append-nil (take k reps)) ∙ ap (λ l. take k reps ++ answers (run p s l)) (sym none) ∙ h.reply) h.reps_back (omega (arith, h.reps_long));
        fit = h.fit (subst AllFit (sym none) tt);
      }
    where
      whole : {A : Type 0} (now old : List A) (n : ℕ) (front : List A) → take n now ≡ front → drop n now ≡ drop n old → n ≤ length now → now ≡ overwritten front old
      whole now old n front ef eb fits =
          let long : length front ≡ n = sym (ap length ef) ∙ length-take-le n now fits in
          sym (take-append-drop n now) ∙ (λ i. ef i ++ eb i) ∙ ap (λ m. front ++ drop m old) (sym long)

-- the next call stays within the buffers, for the loop
pub room_for : {p : Params} {start : State} {rs : List Request} {inputs outputs : List ℕ} {replies : List (Result Answer Refusal)}
    {k : ℕ} {ins : List ℕ} {wrote : ℕ} {s : State} {outs : List ℕ} {reps : List (Result Answer Refusal)} {x y : ℕ}
    (d : Request) → k < length rs → Sofar p start rs inputs outputs replies k ins wrote s outs reps → x ≡ input_size (get_or rs k d) → y ≡ output_size (get_or rs k d)
    → (x ≤ length ins) × (wrote + y ≤ length outs)
room_for d here h ex ey = within _ _ _ _ _ _ _ _ _ _ _ _ _ _ _ here h ex ey
