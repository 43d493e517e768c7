-- An answer by its number: it is what is answered with the number of the first reply that applies, whatever is that has the form, and the form leaves one
-- answer; its number is the lowest that applies where the replies rise, and the first that applies in any order. And where one case holds a result: a
-- refusal with the number, the result with 0. Assumes nothing.
use mathlib.Core.Path.{◌≡◌, refl, sym, ap, ◌∙◌, subst}
use mathlib.Core.List.{List}
use Prim.Native.Nat.{ℕ, zero, suc}
use lib.Dec.{T}
use Rattle.replies.specs.Replies.{Reply, first_reply, numbered, FirstReply, rising_from, Lowest}
use Rattle.replies.specs.Answers.{Answers, value_or}
use Rattle.replies.specs.Unique.{Unique}
use Rattle.replies.proofs.ReplyLaws.{reply_is}
use Rattle.replies.proofs.LowestLaws.{lowest_is}

module _ {A : Type 0} (number_of : A → ℕ) (replies : List Reply) (answer_of : ℕ → A) where
  -- the answer, from the form
  pub answered : {r : A} → Answers number_of replies answer_of r → r ≡ answer_of (first_reply replies)
  answered a = a.answer ∙ ap answer_of a.number

  -- the form, from the answer: what is answered with a number has that number
  pub answers : ((n : ℕ) → number_of (answer_of n) ≡ n) → {r : A} → r ≡ answer_of (first_reply replies) → Answers number_of replies answer_of r
  answers own {r} e =
      let n : number_of r ≡ first_reply replies = ap number_of e ∙ own (first_reply replies) in
      record { number = n; answer = e ∙ ap answer_of (sym n) }

  pub answers_only : Unique (λ (r : A). Answers number_of replies answer_of r)
  answers_only x y a b = answered a ∙ sym (answered b)

  -- of rising replies the number is the lowest that applies
  pub answers_lowest : T (rising_from 1 replies) → {r : A} → Answers number_of replies answer_of r → Lowest replies (number_of r)
  answers_lowest h a = subst (Lowest replies) (sym a.number) (lowest_is replies h)

  -- in any other order it is that of the first that applies
  pub answers_first : T (numbered replies) → {r : A} → Answers number_of replies answer_of r → FirstReply replies (number_of r)
  answers_first h a = subst (FirstReply replies) (sym a.number) (reply_is replies h)

-- ---- one case holds a result: with a number that is not 0 a refusal is answered
pub value_other : {A : Type 0} (value : A) (refused : ℕ → A) (n : ℕ) → (n ≡ 0 → ⊥) → refused n ≡ value_or value refused n
value_other value refused zero h = absurd (h refl)
value_other value refused (suc n) h = refl

module _ {A : Type 0} (number_of : A → ℕ) (replies : List Reply) (value : A) (refused : ℕ → A) (zeroth : number_of value ≡ 0)
    (own : (n : ℕ) → number_of (refused n) ≡ n) where
  -- what is answered with a number has that number
  pub value_number : (n : ℕ) → number_of (value_or value refused n) ≡ n
  value_number zero = zeroth
  value_number (suc n) = own (suc n)

  -- the form, from the answer
  pub value_promised : {r : A} → r ≡ value_or value refused (first_reply replies) → Answers number_of replies (value_or value refused) r
  value_promised e = answers number_of replies (value_or value refused) value_number e

  -- a number that is not 0 is refused with
  pub value_refused : {n : ℕ} → n ≡ first_reply replies → (n ≡ 0 → ⊥) → Answers number_of replies (value_or value refused) (refused n)
  value_refused {n} e h = value_promised (value_other value refused n h ∙ ap (value_or value refused) e)

  -- with 0 the result is answered
  pub value_granted : first_reply replies ≡ 0 → {r : A} → r ≡ value → Answers number_of replies (value_or value refused) r
  value_granted z e = value_promised (e ∙ ap (value_or value refused) (sym z))
