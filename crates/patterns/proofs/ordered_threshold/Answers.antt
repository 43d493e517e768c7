-- `patterns::ordered_threshold` meets its contract: an arm's kind has in the table the matrix and the n that the arm reads. Assumes nothing.
use Rattle.std.proofs.Common.{◌≡◌, ℕ, refl, sym, ap, ◌∙◌, subst, ok_or, Option, Some, None, Result, Ok, Err, IsErrAnd, inl, inr}
use lib.Ieee.{Float}
use Rattle.floats.proofs.Sixteenths.{sixteen}
use Rattle.replies.specs.declared.Refusal.{Refusal}
use Rattle.replies.specs.declared.Refusal.TheVariants.{KindOrShift}
use Rattle.patterns.specs.declared.Dither.{Dither}
use Rattle.patterns.specs.Kinds.{kind_of, way}
use Rattle.patterns.specs.Thresholds.{threshold_from, OrderedThresholdAnswered}
use Rattle.patterns.proofs.Thresholds.{answer_in, promised_as, two, four, sixty_four}
use Rattle.patterns.proofs.ordered_threshold.Goals as goal

-- what the number stands for
known : {o : Option Dither} {d : Dither} → Ok d ≡ ok_or o KindOrShift → o ≡ Some d
known {o = Some d} e = cc e
known {o = None} e = absurd (cc e)

unknown : {o : Option Dither} {f : Refusal} → Err f ≡ ok_or o KindOrShift → (o ≡ None) × (f ≡ KindOrShift)
unknown {o = Some d} e = absurd (cc e)
unknown {o = None} e = (refl, cc e)

-- in an arm of one kind the answer is that of the table
arm : (kind x y : ℕ) {dither d : Dither} → Ok dither ≡ ok_or (kind_of kind) KindOrShift → dither ≡ d
    → {r : Result Float Refusal} → r ≡ answer_in (way d) x y → OrderedThresholdAnswered kind x y r
arm kind x y named is a = subst (OrderedThresholdAnswered kind x y) (sym a) (promised_as kind x y (known named ∙ ap Some is))

-- 1 is passed on where the number stands for none
refused : (kind x y : ℕ) {f : Refusal} → Err f ≡ ok_or (kind_of kind) KindOrShift → (r : Result Float Refusal) → IsErrAnd r (λ e. e ≡ f)
    → OrderedThresholdAnswered kind x y r
refused kind x y named (Ok t) h = absurd h
refused kind x y named (Err e) h =
    let u = unknown named in
    subst (λ (v : Refusal). OrderedThresholdAnswered kind x y (Err v)) (sym (h ∙ u.1)) (promised_as kind x y u.0)

pub returns-in_err-try_from : goal.returns-in_err-try_from
returns-in_err-try_from c = refused _ _ _ c.in_err-try_from.ensures c.from_residual.result c.from_residual.ensures.1

pub returns-in-Bayer2x2 : goal.returns-in-Bayer2x2
returns-in-Bayer2x2 c = arm _ _ _ c.in_ok-try_from.ensures c.in-Bayer2x2.is (ap Ok (c.threshold_in.ensures ∙ ap (threshold_from _) four))

pub returns-in-Bayer4x4 : goal.returns-in-Bayer4x4
returns-in-Bayer4x4 c = arm _ _ _ c.in_ok-try_from.ensures c.in-Bayer4x4.is (ap Ok (c.threshold_in-in-Bayer4x4.ensures ∙ ap (threshold_from _) sixteen))

pub returns-in-Bayer8x8 : goal.returns-in-Bayer8x8
returns-in-Bayer8x8 c = arm _ _ _ c.in_ok-try_from.ensures c.in-Bayer8x8.is (ap Ok (c.threshold_in-in-Bayer8x8.ensures ∙ ap (threshold_from _) sixty_four))

pub returns-in-Checker : goal.returns-in-Checker
returns-in-Checker c = arm _ _ _ c.in_ok-try_from.ensures c.in-Checker.is (ap Ok (c.threshold_in-in-Checker.ensures ∙ ap (threshold_from _) two))

pub returns-in-LineV : goal.returns-in-LineV
returns-in-LineV c = arm _ _ _ c.in_ok-try_from.ensures c.in-LineV.is (ap Ok (c.threshold_in-in-LineV.ensures ∙ ap (threshold_from _) two))

pub returns-in-LineH : goal.returns-in-LineH
returns-in-LineH c = arm _ _ _ c.in_ok-try_from.ensures c.in-LineH.is (ap Ok (c.threshold_in-in-LineH.ensures ∙ ap (threshold_from _) two))

pub returns-in-StippleV : goal.returns-in-StippleV
returns-in-StippleV c = elim c.in-StippleV.is [ inl e ↦ arm _ _ _ c.in_ok-try_from.ensures e refl | inr e ↦ arm _ _ _ c.in_ok-try_from.ensures e refl ]

pub returns-in-Off : goal.returns-in-Off
returns-in-Off c =
    elim c.in-Off.is [
      | inl e ↦ arm _ _ _ c.in_ok-try_from.ensures e refl
      | inr e ↦ elim e [ inl e ↦ arm _ _ _ c.in_ok-try_from.ensures e refl | inr e ↦ arm _ _ _ c.in_ok-try_from.ensures e refl ]
    ]
