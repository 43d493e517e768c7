-- The replies of a call, the first of them that applies, and what a lent buffer holds after it. Definitions only.
-- Written from document 01, "Bounds and replies": "Said exactly if", "The lowest number that applies is given", "all unchanged"; and from document 02,
-- which gives some numbers another place than the next ("directly before 2", "directly after 1", "in this order").
use Rattle.std.specs.Prelude.{ℕ, zero, suc, ◌<◌, ◌≤◌, ◌≡◌, ◌⊎◌, Bool, true, false, cond, not, ◌&&◌, List, [], ◌∷◌, ◌++◌, leb, eqb}

-- a number of the table, and whether it applies
pub record Reply : Type 0 where
  pub number : ℕ
  pub applies : Bool

infix 68 ◌if◌
-- `n if t`: number n, which applies where t is true
abbrev pub ◌if◌ : ℕ → Bool → Reply
n if t = record { number = n; applies = t }

-- the number of the first reply that applies, in the order in which the call states them; 0 where none does
abbrev pub first_reply : List Reply → ℕ
first_reply [] = 0
first_reply (x ∷ xs) = cond x.applies x.number (first_reply xs)

-- none applies: for replies that are written out, a nested pair of a fact for each
abbrev pub NoneApplies : List Reply → Type 0
NoneApplies [] = Unit {0}
NoneApplies (x ∷ xs) = (x.applies ≡ false) × NoneApplies xs

-- no number is 0, which is said where none applies
abbrev pub numbered : List Reply → Bool
numbered [] = true
numbered (x ∷ xs) = not (eqb x.number 0) && numbered xs

-- r is the number of a reply that applies while none before it does; or it is 0, and none applies. What `first_reply` is of numbered replies, and all
-- that it is (proofs/ReplyLaws)
pub record FirstReply (xs : List Reply) (r : ℕ) : Type 0 where
  pub given : (r ≡ 0 → ⊥) → (before : List Reply) × (x : Reply) × (behind : List Reply)
      × (xs ≡ before ++ x ∷ behind) × NoneApplies before × (x.applies ≡ true) × (x.number ≡ r)
  pub none : r ≡ 0 → NoneApplies xs

-- ---- document 01's "lowest number", which is the first where the numbers rise

-- the numbers rise from n on: none is below n or below the one before it
abbrev pub rising_from : ℕ → List Reply → Bool
rising_from n [] = true
rising_from n (x ∷ xs) = leb n x.number && rising_from x.number xs

-- a reply with number n applies
abbrev pub Applies : ℕ → List Reply → Type 0
Applies n [] = ⊥
Applies n (x ∷ xs) = ((x.applies ≡ true) × (x.number ≡ n)) ⊎ Applies n xs

-- r is the lowest number that applies, 0 where none does: what `first_reply` is of replies that rise from 1 on, and all that it is (proofs/LowestLaws)
pub record Lowest (xs : List Reply) (r : ℕ) : Type 0 where
  pub given : (r ≡ 0 → ⊥) → Applies r xs
  pub least : (n : ℕ) → Applies n xs → (0 < r) × (r ≤ n)

-- ---- what a lent buffer holds after answer r: the result where r is 0, else what it held
abbrev pub after : {A : Type 0} → ℕ → A → A → A
after zero result was = result
after (suc r) result was = was
