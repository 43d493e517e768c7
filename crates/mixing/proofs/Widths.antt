-- Widths. `sixteenth n` is the only whole number q with n / 16 from q - 1/2, which is in, to q + 1/2, which is not; a width is from 1 to 16, and
-- 16 for more than 256 colours. And what `bracket_width` answers, by its number. Assumes nothing.
use mathlib.Core.Path.{◌≡◌, refl, sym, subst}
use mathlib.Core.Logic.{inl, inr}
use mathlib.Core.Bool.{Bool, true, false, not, ◌||◌, false≢true}
use mathlib.Core.List.{[], ◌∷◌}
use Prim.Native.Nat.{ℕ, ◌+◌, ◌*◌, ◌≤◌, ◌<◌}
use native.Mathlib.Nat.{mul-le-mul, le_of_lt}
use native.Mathlib.Omega.{arith}
use lib.Dec.{T, eqb, eqb→eq}
use mir.Facts.{or_yes}
use Rattle.std.specs.Prelude.{Result}
use Rattle.replies.specs.Replies.{◌if◌, first_reply, Lowest}
use Rattle.replies.specs.Refusals.{number_of, answer, Answered}
use Rattle.replies.specs.declared.Refusal.{Refusal}
use Rattle.replies.proofs.AnswerLaws.{answers_lowest}
use Rattle.reducing.specs.declared.Reducing.{Reducing}
use Rattle.reducing.specs.declared.Reducing.TheVariants.{ByAlpha, Grey, OpaqueColor}
use Rattle.reducing.specs.Reduce.{is_pairing}
use Rattle.mixing.specs.Widths.{is_shift, clamp_width, sixteenth, width_of}
use Rattle.mixing.specs.Widths.{width_replies, BracketWidthAnswered, bracket_width_of}

-- ---- the shifts
pub shift_range : (s : ℕ) → is_shift s ≡ true → (3 ≤ s) × (s ≤ 6)
unfolding is_shift
shift_range s e = elim (or_yes (eqb s 3) (eqb s 4 || (eqb s 5 || eqb s 6)) (subst T (sym e) tt)) [
  | inl t ↦ near s 3 (eqb→eq s 3 t) (omega arith) (omega arith)
  | inr t ↦ elim (or_yes (eqb s 4) (eqb s 5 || eqb s 6) t) [
    | inl u ↦ near s 4 (eqb→eq s 4 u) (omega arith) (omega arith)
    | inr u ↦ elim (or_yes (eqb s 5) (eqb s 6) u) [
      | inl v ↦ near s 5 (eqb→eq s 5 v) (omega arith) (omega arith)
      | inr v ↦ near s 6 (eqb→eq s 6 v) (omega arith) (omega arith)
    ]
  ]
]
  where
    near : (s k : ℕ) → s ≡ k → 3 ≤ k → k ≤ 6 → (3 ≤ s) × (s ≤ 6)
    near s k e l h = (omega arith, omega arith)

-- the shift of a pairing is one of them
pub pairing_shift : (by : Reducing) (s : ℕ) → is_pairing by s ≡ true → is_shift s ≡ true
unfolding is_pairing is_shift
pairing_shift ByAlpha s = among (eqb s 3) (eqb s 4) (eqb s 5) (eqb s 6)
  where
    among : (a b c d : Bool) → a || (b || c) ≡ true → a || (b || (c || d)) ≡ true
    among true b c d e = refl
    among false true c d e = refl
    among false false true d e = refl
    among false false false d e = absurd (false≢true e)
pairing_shift Grey s = behind (eqb s 3) (eqb s 4) (eqb s 5 || eqb s 6)
  where
    behind : (a b c : Bool) → c ≡ true → a || (b || c) ≡ true
    behind true b c e = refl
    behind false true c e = refl
    behind false false c e = e
pairing_shift OpaqueColor s = last (eqb s 3) (eqb s 4) (eqb s 5) (eqb s 6)
  where
    last : (a b c d : Bool) → d ≡ true → a || (b || (c || d)) ≡ true
    last true b c d e = refl
    last false true c d e = refl
    last false false true d e = refl
    last false false false d e = e

-- ---- rounding with halves up
pub sixteenth_low : (n : ℕ) → 16 * sixteenth n ≤ n + 8
sixteenth_low n = omega arith

pub sixteenth_high : (n : ℕ) → n < 16 * sixteenth n + 8
sixteenth_high n = omega arith

pub sixteenth_only : (n q : ℕ) → 16 * q ≤ n + 8 → n < 16 * q + 8 → q ≡ sixteenth n
sixteenth_only n q l h = omega arith

-- ---- the width
pub width_low : (s m : ℕ) → 1 ≤ width_of s m
unfolding width_of
width_low s m = omega arith

pub width_high : (s m : ℕ) → width_of s m ≤ 16
unfolding width_of
width_high s m = omega arith

-- the width that the code answers without the product
pub width_full : (s m : ℕ) → 3 ≤ s → 256 < m → width_of s m ≡ 16
unfolding width_of
width_full s m h k = full (m * s) (mul-le-mul (le_of_lt k) h)
  where
    full : (p : ℕ) → 256 * 3 ≤ p → clamp_width (sixteenth p) ≡ 16
    full p h = omega arith

-- ---- the answer
-- the value for a shift of the modes, and else 1
shift_promised : (v : ℕ) (shift : Bool) → Answered ((1 if not shift) ∷ []) v (answer v (first_reply ((1 if not shift) ∷ [])))
shift_promised v true = record { number = refl; answer = refl }
shift_promised v false = record { number = refl; answer = refl }

module _ (s m : ℕ) where
  pub width_promised : {r : Result ℕ Refusal} → r ≡ bracket_width_of s m → BracketWidthAnswered s m r
  width_promised e = subst (BracketWidthAnswered s m) (sym e) (shift_promised (width_of s m) (is_shift s))

  pub width_lowest : {r : Result ℕ Refusal} → BracketWidthAnswered s m r → Lowest (width_replies s) (number_of r)
  width_lowest p = answers_lowest _ _ _ tt p
