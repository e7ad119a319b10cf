-- One turn of a loop over calls and their replies. Assumes nothing.
use Rattle.std.proofs.Common.{◌≡◌, ℕ, List, [], arith, ◌∷◌, ◌++◌, take, drop, Ok, Err, Result, sym, ap, ◌∙◌}
use Rattle.std.proofs.lemmas.List.{append-nil, append_assoc, take-take}
use Rattle.protocol.specs.declared.refusal.Refusal.{Refusal}
use Rattle.line.specs.declared.request.Request.{Request}
use Rattle.protocol.specs.declared.state.Answer.{Answer}
use Rattle.line.specs.Replay.{input_size}
use Rattle.walkthrough.specs.Second.{Replied, wrote, handed_on, second_calls, used_bytes, bytes_taken}

-- what a part of a list adds to the front
joined_on : {A : Type 0} (done done' part rest whole : List A) → done' ≡ done ++ part → part ++ rest ≡ whole → done' ++ rest ≡ done ++ whole
joined_on done done' part rest whole ed ew = ap (λ l. l ++ rest) ed ∙ append_assoc done part rest ∙ ap (λ l. done ++ l) ew

-- nothing is left
pub all_done : {A B : Type 0} (f : List B → List A) (done whole : List A) (rest : List B)
    → f [] ≡ [] → rest ≡ [] → done ++ f rest ≡ whole → done ≡ whole
all_done f done whole rest ef er inv = sym (append-nil done) ∙ ap (λ l. done ++ l) (sym (ap f er ∙ ef)) ∙ inv

module _ (rest rest' : List Replied) (r : Request) (y : Result Answer Refusal) (here : rest ≡ (r, y) ∷ rest') where
  pub calls_more : (done done' : List Request) (x : Request) (a : Answer) (n : ℕ)
      → y ≡ Ok a → n ≡ wrote r a → x ≡ handed_on r n → done' ≡ done ++ x ∷ []
      → done' ++ second_calls rest' ≡ done ++ second_calls rest
  unfolding second_calls
  calls_more done done' x a n ey en ex ed =
      joined_on done done' (x ∷ []) (second_calls rest') (second_calls rest) ed
      (ap (λ z. z ∷ second_calls rest') (ex ∙ ap (handed_on r) en) ∙ sym (ap second_calls here ∙ ap (λ z. second_calls ((r, z) ∷ rest')) ey))

  pub calls_skip : (done : List Request) (e : Refusal) → y ≡ Err e → done ++ second_calls rest' ≡ done ++ second_calls rest
  unfolding second_calls
  calls_skip done e ey = ap (λ l. done ++ l) (sym (ap second_calls here ∙ ap (λ z. second_calls ((r, z) ∷ rest')) ey))

  module _ (size : Request → ℕ) (used : Request → Answer → ℕ) (done buffer more : List ℕ) (n : ℕ) (is_size : n ≡ size r) (left : more ≡ drop n buffer) where
    pub used_more : (done' part out : List ℕ) (a : Answer) (k : ℕ)
        → y ≡ Ok a → part ≡ take n buffer → k ≡ used r a → out ≡ take k part → done' ≡ done ++ out
        → done' ++ used_bytes size used rest' more ≡ done ++ used_bytes size used rest buffer
    unfolding used_bytes
    used_more done' part out a k ey el ek ep ed =
        joined_on done done' out (used_bytes size used rest' more) (used_bytes size used rest buffer) ed
        ((λ i. (ep ∙ (λ j. take (ek j) ((el ∙ ap (λ m. take m buffer) is_size) j))) i ++ used_bytes size used rest' ((left ∙ ap (λ m. drop m buffer) is_size) i))
        ∙ sym (ap (λ l. used_bytes size used l buffer) here ∙ ap (λ z. used_bytes size used ((r, z) ∷ rest') buffer) ey))

    pub used_skip : (e : Refusal) → y ≡ Err e → done ++ used_bytes size used rest' more ≡ done ++ used_bytes size used rest buffer
    unfolding used_bytes
    used_skip e ey =
        ap (λ l. done ++ l)
        (ap (used_bytes size used rest') (left ∙ ap (λ m. drop m buffer) is_size)
        ∙ sym (ap (λ l. used_bytes size used l buffer) here ∙ ap (λ z. used_bytes size used ((r, z) ∷ rest') buffer) ey))

-- what a put or an end took is the whole of its part
pub taken_is : (r : Request) (a : Answer) (ps : List Replied) (input : List ℕ)
    → bytes_taken ((r, Ok a) ∷ ps) input ≡ take (input_size r) input ++ bytes_taken ps (drop (input_size r) input)
unfolding used_bytes
taken_is r a ps input = ap (λ l. l ++ bytes_taken ps (drop (input_size r) input)) (take-take (input_size r) (input_size r) input (omega arith))
