-- The form in which every call says its answer. Definitions only.
-- Written from document 01, "Which places take which form": "Where an answer is an enum, a definition tells you this paper's number and values for each of
-- its cases. The promises use that definition"; and "Bounds and replies": "Said exactly if".
use Rattle.std.specs.Prelude.{ℕ, zero, suc, ◌≡◌, List}
use Rattle.replies.specs.Replies.{Reply, first_reply}

-- r's number, by the definition `number_of` of its cases, is that of the first reply that applies; and r is what is answered with that number
pub record Answers {A : Type 0} (number_of : A → ℕ) (replies : List Reply) (answer_of : ℕ → A) (r : A) : Type 0 where
  pub number : number_of r ≡ first_reply replies
  pub answer : r ≡ answer_of (number_of r)

-- what is answered with a number where one case holds a result: that with 0, else the refusal with the number
abbrev pub value_or : {A : Type 0} → A → (ℕ → A) → ℕ → A
value_or value refused zero = value
value_or value refused (suc n) = refused (suc n)
