-- Answers that are a result or a refusal: a refusal is its number's, and so such an answer is promised by its number alone. Assumes nothing.
use mathlib.Core.Path.{◌≡◌, refl, ap, sym}
use mathlib.Core.List.{List}
use native.Mathlib.Omega.{arith}
use Rattle.std.specs.Prelude.{Ok, Err}
use Rattle.replies.specs.Replies.{Reply, first_reply}
use Rattle.replies.specs.Refusals.{number, refusal, answer, Answered}
use Rattle.replies.specs.declared.Refusal.{Refusal}
use Rattle.replies.specs.declared.Refusal.TheVariants.{KindOrShift, Size, Length, Entries, Tiles, Component, TooManyCandidates, NoMatrix, PamHeader, PamPixels, RetiredKind}

-- a refusal is that with its number
pub refusal_number : (e : Refusal) → refusal (number e) ≡ e
refusal_number KindOrShift = refl
refusal_number Size = refl
refusal_number Length = refl
refusal_number Entries = refl
refusal_number Tiles = refl
refusal_number Component = refl
refusal_number TooManyCandidates = refl
refusal_number NoMatrix = refl
refusal_number PamHeader = refl
refusal_number PamPixels = refl
refusal_number RetiredKind = refl

-- no refusal's number is 0
pub number_some : (e : Refusal) → number e ≡ 0 → ⊥
number_some KindOrShift z = omega arith
number_some Size z = omega arith
number_some Length z = omega arith
number_some Entries z = omega arith
number_some Tiles z = omega arith
number_some Component z = omega arith
number_some TooManyCandidates z = omega arith
number_some NoMatrix z = omega arith
number_some PamHeader z = omega arith
number_some PamPixels z = omega arith
number_some RetiredKind z = omega arith

-- with a refusal's number the refusal is answered
pub answer_number : {A : Type 0} (value : A) (e : Refusal) → Err e ≡ answer value (number e)
answer_number value KindOrShift = refl
answer_number value Size = refl
answer_number value Length = refl
answer_number value Entries = refl
answer_number value Tiles = refl
answer_number value Component = refl
answer_number value TooManyCandidates = refl
answer_number value NoMatrix = refl
answer_number value PamHeader = refl
answer_number value PamPixels = refl
answer_number value RetiredKind = refl

module _ {A : Type 0} (replies : List Reply) (value : A) where
  -- a refusal whose number is that of the first reply
  pub answered_err : {e : Refusal} → number e ≡ first_reply replies → Answered replies value (Err e)
  answered_err {e} n = record { number = n; answer = answer_number value e }

  -- the value, where no reply applies
  pub answered_ok : first_reply replies ≡ 0 → {x : A} → x ≡ value → Answered replies value (Ok x)
  answered_ok z e = record { number = sym z; answer = ap Ok e }
