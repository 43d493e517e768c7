-- The numbers of the refusals, and the form of every answer that is a result or a refusal. Definitions only.
-- Written from document 01, "Bounds and replies", whose table has 1 to 9, and from document 02, Asks 1 and 9, which add 10, 11 and 15; and from document
-- 01, "Which places take which form": "Where an answer is an enum, a definition tells you this paper's number and values for each of its cases."
use Rattle.std.specs.Prelude.{ℕ, List, Result, Ok, Err, if◌then◌else◌, eqb}
use Rattle.replies.specs.Replies.{Reply}
use Rattle.replies.specs.Answers.{Answers, value_or}
use Rattle.replies.specs.declared.Refusal.{Refusal}
use Rattle.replies.specs.declared.Refusal.TheVariants.{KindOrShift, Size, Length, Entries, Tiles, Component, TooManyCandidates, NoMatrix, PamHeader, PamPixels, RetiredKind}

-- a refusal's number
abbrev pub number : Refusal → ℕ
number KindOrShift = 1
number Size = 2
number Length = 3
number Entries = 4
number Tiles = 5
number Component = 6
number TooManyCandidates = 7
number NoMatrix = 9
number PamHeader = 10
number PamPixels = 11
number RetiredKind = 15

-- the refusal with a number of the table
abbrev pub refusal : ℕ → Refusal
refusal n =
    if eqb n 1 then KindOrShift
    else if eqb n 2 then Size
    else if eqb n 3 then Length
    else if eqb n 4 then Entries
    else if eqb n 5 then Tiles
    else if eqb n 6 then Component
    else if eqb n 7 then TooManyCandidates
    else if eqb n 9 then NoMatrix
    else if eqb n 10 then PamHeader
    else if eqb n 11 then PamPixels
    else RetiredKind

-- the number of an answer: 0 of a result
abbrev pub number_of : {A : Type 0} → Result A Refusal → ℕ
number_of (Ok x) = 0
number_of (Err e) = number e

-- what is answered with a number: with 0 the result
abbrev pub answer : {A : Type 0} → A → ℕ → Result A Refusal
answer value = value_or (Ok value) (λ n. Err (refusal n))

-- the promise of a call: the number is that of the first reply that applies, and with 0 the value is answered
abbrev pub Answered : {A : Type 0} → List Reply → A → Result A Refusal → Type 0
Answered replies value = Answers number_of replies (answer value)
