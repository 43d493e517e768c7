-- What an answer leaves behind its pointers: the number of the first reply that applies, and the value after it. Assumes nothing.
use mathlib.Core.Path.{◌≡◌, refl, sym, ap, ◌∙◌}
use mathlib.Core.List.{List, [], ◌∷◌}
use mathlib.Core.Bool.{Bool, true, false, cond}
use Prim.Native.Nat.{ℕ, zero, suc}
use Rattle.std.specs.Prelude.{Result, Ok, Err}
use Rattle.replies.specs.Replies.{Reply, first_reply, after}
use Rattle.replies.specs.Refusals.{number, number_of, answer, Answered}
use Rattle.replies.specs.declared.Refusal.{Refusal}
use Rattle.replies.proofs.RefusalLaws.{number_some}
use Rattle.color.specs.declared.Rgba8888.{Rgba8888}
use Rattle.color.specs.declared.NormalizedColor.{NormalizedColor}
use Rattle.color.specs.Color.{rgba}
use Rattle.pam.specs.declared.Size.{Size}
use Rattle.exports.specs.Answers.{opaque_rgb, left}
use Rattle.exports.specs.Files.{size_left}

-- what is left of the answer x, where that is the case y
pub left_by : {A B : Type 0} (left : A → B) {x y : A} → x ≡ y → left y ≡ left x
left_by left e = sym (ap left e)

-- where a call is asked of three bytes as an opaque colour, its answer x is that for the bytes
pub of_rgb : {A : Type 0} (answer : NormalizedColor → A) (color : NormalizedColor) (r g b : ℕ) {x y : A} → color.0 ≡ rgba r g b 255 → x ≡ answer color
    → x ≡ y → answer (opaque_rgb r g b) ≡ y
of_rgb answer color r g b c p q = sym (ap (λ (u : Rgba8888). answer (record { 0 = u })) c) ∙ sym p ∙ q

-- after a number that is not 0 there is what was there
after_some : {A : Type 0} (n : ℕ) (value was : A) → (n ≡ 0 → ⊥) → was ≡ after n value was
after_some zero value was h = absurd (h refl)
after_some (suc n) value was h = refl

-- what is left of an answer, by the call's promise
pub left_after : {A : Type 0} {replies : List Reply} {value : A} (was : A) {r : Result A Refusal} → Answered replies value r
    → left was r ≡ (first_reply replies, after (first_reply replies) value was)
left_after {replies = replies} {value = value} was {r = Ok x} a =
    let n : 0 ≡ first_reply replies = a.number in
    let s : Ok x ≡ Ok value = a.answer in
    let e : x ≡ value = cc in
    (λ i. (0, e i)) ∙ ap (λ (n : ℕ). (n, after n value was)) n
left_after {replies = replies} {value = value} was {r = Err e} a =
    (λ i. (number e, after_some (number e) value was (number_some e) i)) ∙ ap (λ (n : ℕ). (n, after n value was)) a.number

-- what is left of an answer that is a size, by the call's promise
pub size_after : {replies : List Reply} {value : Size} (width height : ℕ) {r : Result Size Refusal} → Answered replies value r → size_left width height r
    ≡ (first_reply replies, after (first_reply replies) value.width width, after (first_reply replies) value.height height)
size_after {replies = replies} {value = value} width height {r = Ok x} a =
    let n : 0 ≡ first_reply replies = a.number in
    let s : Ok x ≡ Ok value = a.answer in
    let e : x ≡ value = cc in
    (λ i. (0, (e i).width, (e i).height)) ∙ ap (λ (n : ℕ). (n, after n value.width width, after n value.height height)) n
size_after {replies = replies} {value = value} width height {r = Err e} a =
    (λ i. (number e, after_some (number e) value.width width (number_some e) i, after_some (number e) value.height height (number_some e) i))
    ∙ ap (λ (n : ℕ). (n, after n value.width width, after n value.height height)) a.number

-- each number of the replies is a refusal's: of replies that are written out, a nested pair of a fact for each
abbrev pub Named : {A : Type 0} → A → List Reply → Type 0
Named value [] = Unit {0}
Named value (x ∷ xs) = (number_of (answer value x.number) ≡ x.number) × Named value xs

-- of either of two such numbers
either : {A : Type 0} (value : A) {m n : ℕ} (t : Bool) → number_of (answer value m) ≡ m → number_of (answer value n) ≡ n
    → number_of (answer value (cond t m n)) ≡ cond t m n
either value true p q = p
either value false p q = q

-- what is answered with the number of the first reply that applies has that number
pub first_named : {A : Type 0} (value : A) (xs : List Reply) → Named value xs → number_of (answer value (first_reply xs)) ≡ first_reply xs
first_named value [] h = refl
first_named value (x ∷ xs) h = either value x.applies h.0 (first_named value xs h.1)
