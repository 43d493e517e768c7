-- Decimal digits. What `decimal` makes of a number below 10,000: the digit of a number below 10 (`decimal_one`), else the digits of its tenth and one more
-- (`decimal-more`). They are one or more digits and give the number (`decimal_number`), the first of them is 0 only where it stands alone (`decimal_bare`),
-- and no other bytes are so (`decimal_only`). Assumes nothing.
use mathlib.Core.Path.{◌≡◌, refl, sym, ap, ◌∙◌, subst}
use mathlib.Core.Bool.{Bool, true, false, cond}
use mathlib.Core.List.{List, [], ◌∷◌, ◌++◌}
use Prim.Native.Nat.{ℕ, zero, suc, ◌+◌, ◌*◌, ◌-◌, ◌/◌, ◌%◌, ◌^◌, ◌≤◌, ◌<◌}
use native.Mathlib.Nat.{add_comm, add-zero, add-suc, suc-add}
use native.Mathlib.Omega.{arith}
use borrow.Author.Tests.{lt-ltb, le-ltb, ltb-true, ltb-false}
use lib.Dec.{T, ltb, leb, leb→le, le→leb}
use lib.Ieee.Fits.{and_i, and_l, and_r}
use lib.ListN.{length, get_or, length-append, get_or-append}
use Rattle.lists.specs.Order.{All}
use Rattle.lists.proofs.OrderLaws.{all_append}
use Rattle.pam.specs.Text.{is_digit, value_from, value_of}
use Rattle.pam.specs.Subset.{Number}
use Rattle.pam.specs.Pam.{decimals, decimal}

-- ---- one digit, or more

few : (k n : ℕ) → n < 10 → decimals k n ≡ (48 + n) ∷ []
unfolding decimals
few zero n h = refl
few (suc k) n h = rw (lt-ltb n 10 h)

more : (k n : ℕ) → 10 ≤ n → decimals (suc k) n ≡ decimals k (n / 10) ++ ((48 + n % 10) ∷ [])
unfolding decimals
more k n h = rw (le-ltb n 10 h)

-- what holds of a digit, and of a tenth's digits and one more, holds of all digits
by_tenths : (P : ℕ → List ℕ → Type 0) → ((n : ℕ) → n < 10 → P n ((48 + n) ∷ []))
    → ((n : ℕ) (ds : List ℕ) → 10 ≤ n → P (n / 10) ds → P n (ds ++ ((48 + n % 10) ∷ []))) → (k n : ℕ) → n < 10 ^ suc k → P n (decimals k n)
by_tenths P one next zero n h = rw (few 0 n (omega arith)) (one n (omega arith))
by_tenths P one next (suc k) n h = go (ltb n 10) refl (by_tenths P one next k (n / 10))
  where
    go : (t : Bool) → ltb n 10 ≡ t → (n / 10 < 10 ^ suc k → P (n / 10) (decimals k (n / 10))) → P n (decimals (suc k) n)
    go true e tenth = let l : n < 10 = ltb-true n 10 e in rw (few (suc k) n l) (one n l)
    go false e tenth = let l : 10 ≤ n = ltb-false n 10 e in rw (more k n l) (next n (decimals k (n / 10)) l (tenth (omega arith)))

-- where the digits are enough, one more changes nothing
enough : (k n : ℕ) → n < 10 ^ suc k → decimals (suc k) n ≡ decimals k n
enough zero n h = few 1 n (omega arith) ∙ sym (few 0 n (omega arith))
enough (suc k) n h = go (ltb n 10) refl (enough k (n / 10))
  where
    go : (t : Bool) → ltb n 10 ≡ t → (n / 10 < 10 ^ suc k → decimals (suc k) (n / 10) ≡ decimals k (n / 10)) → decimals (suc (suc k)) n ≡ decimals (suc k) n
    go true e tenth = let l : n < 10 = ltb-true n 10 e in few (suc (suc k)) n l ∙ sym (few (suc k) n l)
    go false e tenth =
        let l : 10 ≤ n = ltb-false n 10 e in
        more (suc k) n l ∙ ap (λ (ds : List ℕ). ds ++ ((48 + n % 10) ∷ [])) (tenth (omega arith)) ∙ sym (more k n l)

pub decimal_one : (n : ℕ) → n < 10 → decimal n ≡ (48 + n) ∷ []
unfolding decimal
decimal_one n h = few 3 n h

pub decimal-more : (n : ℕ) → 10 ≤ n → n < 10000 → decimal n ≡ decimal (n / 10) ++ ((48 + n % 10) ∷ [])
unfolding decimal
decimal-more n l h = more 2 n l ∙ ap (λ (ds : List ℕ). ds ++ ((48 + n % 10) ∷ [])) (sym (enough 2 (n / 10) (omega arith)))

-- ---- how many there are

pub decimal_one_long : (n : ℕ) → n < 10 → length (decimal n) ≡ 1
decimal_one_long n h = ap length (decimal_one n h)

pub decimal_more_long : (n : ℕ) → 10 ≤ n → n < 10000 → length (decimal n) ≡ length (decimal (n / 10)) + 1
decimal_more_long n l h = ap length (decimal-more n l h) ∙ length-append (decimal (n / 10)) ((48 + n % 10) ∷ [])

short : (k n : ℕ) → length (decimals k n) ≤ suc k
unfolding decimals
short zero n = omega arith
short (suc k) n = go (ltb n 10) (short k (n / 10))
  where
    go : (t : Bool) → length (decimals k (n / 10)) ≤ suc k
        → length (cond t ((48 + n) ∷ []) (decimals k (n / 10) ++ ((48 + n % 10) ∷ []))) ≤ suc (suc k)
    go true h = omega arith
    go false h = omega (arith, length-append (decimals k (n / 10)) ((48 + n % 10) ∷ []))

pub decimal_short : (n : ℕ) → length (decimal n) ≤ 4
unfolding decimal
decimal_short n = short 3 n

-- ---- digits and their value

a_digit : (d : ℕ) → d < 10 → T (is_digit (48 + d))
unfolding is_digit
a_digit d h = and_i (leb 48 (48 + d)) (leb (48 + d) 57) (le→leb 48 (48 + d) (omega arith)) (le→leb (48 + d) 57 (omega arith))

pub digit_range : (d : ℕ) → T (is_digit d) → (48 ≤ d) × (d ≤ 57)
unfolding is_digit
digit_range d h = (leb→le 48 d (and_l (leb 48 d) (leb d 57) h), leb→le d 57 (and_r (leb 48 d) (leb d 57) h))

-- a digit more behind
value_snoc : (m : ℕ) (ds : List ℕ) (d : ℕ) → value_from m (ds ++ (d ∷ [])) ≡ 10 * value_from m ds + (d - 48)
unfolding value_from
value_snoc m [] d = refl
value_snoc m (x ∷ ds) d = value_snoc (10 * m + (x - 48)) ds d

-- digits behind a number never make it less
value_from_lem : (m : ℕ) (ds : List ℕ) → m ≤ value_from m ds
unfolding value_from
value_from_lem m [] = omega arith
value_from_lem m (d ∷ ds) = omega (arith, value_from_lem (10 * m + (d - 48)) ds)

-- no 0 in front of other digits
abbrev pub Bare : List ℕ → Type 0
Bare ds = get_or ds 0 0 ≡ 48 → ds ≡ 48 ∷ []

-- one or more digits that give n, the first of them 0 only where n is
record Digits (n : ℕ) (ds : List ℕ) : Type 0 where
  some : 0 < length ds
  each : All is_digit ds
  value : value_of ds ≡ n
  lead : get_or ds 0 0 ≡ 48 → n ≡ 0

digits_one : (n : ℕ) → n < 10 → Digits n ((48 + n) ∷ [])
unfolding value_from
digits_one n h = record { some = omega arith; each = (a_digit n h, tt); value = omega arith; lead = λ e. omega arith }

digits_more : (n : ℕ) (ds : List ℕ) → 10 ≤ n → Digits (n / 10) ds → Digits n (ds ++ ((48 + n % 10) ∷ []))
digits_more n ds h a = record {
  some = rw (length-append ds ((48 + n % 10) ∷ [])) (omega (arith, a.some));
  each = all_append is_digit ds ((48 + n % 10) ∷ []) a.each (a_digit (n % 10) (omega arith), tt);
  value = value_snoc 0 ds (48 + n % 10) ∙ rw a.value (omega arith);
  lead = λ e. let z : n / 10 ≡ 0 = a.lead (sym (get_or-append ds ((48 + n % 10) ∷ []) 0 0 a.some) ∙ e) in absurd (omega arith);
}

digits_are : (n : ℕ) → n < 10000 → Digits n (decimal n)
unfolding decimal
digits_are n h = by_tenths Digits digits_one digits_more 3 n (omega arith)

pub decimal_number : (n : ℕ) → n < 10000 → Number n (decimal n)
decimal_number n h =
    let a = digits_are n h in
    record { some = λ e. omega (arith, a.some, ap length e); each = a.each; value = a.value }

pub decimal_bare : (n : ℕ) → n < 10000 → Bare (decimal n)
decimal_bare n h e =
    let z : n ≡ 0 = (digits_are n h).lead e in
    ap decimal z ∙ decimal_one 0 (omega arith)

-- ---- nothing else is so

-- decimals of more digits than are needed
up : (j k n : ℕ) → n < 10 ^ suc k → decimals (k + j) n ≡ decimals k n
up zero k n h = ap (λ (m : ℕ). decimals m n) (add-zero k)
up (suc j) k n h = ap (λ (m : ℕ). decimals m n) (add-suc k j ∙ sym (suc-add k j)) ∙ up j (suc k) n (omega arith) ∙ enough k n h

-- the last of one digit or more, and those before it
last_of : (ds : List ℕ) → 0 < length ds → (xs : List ℕ) × (x : ℕ) × (ds ≡ xs ++ (x ∷ [])) × (length ds ≡ suc (length xs))
last_of [] h = absurd (omega arith)
last_of (d ∷ []) h = ([], d, refl, refl)
last_of (d ∷ e ∷ ds) h = let r = last_of (e ∷ ds) (omega arith) in (d ∷ r.0, r.1, ap (λ (l : List ℕ). d ∷ l) r.2, ap suc r.3)

all_before : (xs : List ℕ) (x : ℕ) → All is_digit (xs ++ (x ∷ [])) → All is_digit xs × T (is_digit x)
all_before [] x a = (tt, a.0)
all_before (y ∷ xs) x a = let r = all_before xs x a.1 in ((a.0, r.0), r.1)

-- digits that do not begin with 0 give at least 1
some_value : (ds : List ℕ) → 49 ≤ get_or ds 0 0 → 1 ≤ value_of ds
unfolding value_from
some_value [] h = absurd (omega arith)
some_value (d ∷ ds) h = omega (arith, value_from_lem (10 * 0 + (d - 48)) ds)

-- ds are the digits of their value, of which there are at most one and k more
abbrev Own : ℕ → List ℕ → Type 0
Own k ds = (value_of ds < 10 ^ suc k) × (ds ≡ decimals k (value_of ds))

own_one : (ds : List ℕ) → length ds ≡ 1 → All is_digit ds → Own 0 ds
unfolding value_from
own_one [] len a = absurd (omega arith)
own_one (d ∷ []) len a =
    let r = digit_range d a.0 in
    let e : d ≡ 48 + (10 * 0 + (d - 48)) = omega arith in
    (omega arith, ap (λ (x : ℕ). x ∷ []) e ∙ sym (few 0 (10 * 0 + (d - 48)) (omega arith)))
own_one (d ∷ e ∷ ds) len a = absurd (omega arith)

own_more : (k : ℕ) (ds : List ℕ) (d : ℕ) → T (is_digit d) → 1 ≤ value_of ds → Own k ds → Own (suc k) (ds ++ (d ∷ []))
own_more k ds d h some own =
    let r = digit_range d h in
    let w = value_of (ds ++ (d ∷ [])) in
    let e : w ≡ 10 * value_of ds + (d - 48) = value_snoc 0 ds d in
    let tenth : w / 10 ≡ value_of ds = omega arith in
    let last : 48 + w % 10 ≡ d = omega arith in (
      omega (arith, own.0),
      ap (λ (l : List ℕ). l ++ (d ∷ [])) (own.1 ∙ ap (decimals k) (sym tenth))
          ∙ ap (λ (x : ℕ). decimals k (w / 10) ++ (x ∷ [])) (sym last)
          ∙ sym (more k w (omega arith)),
    )

-- bare digits of which there are two or more do not begin with 0
not_zero : (ds : List ℕ) → 1 < length ds → All is_digit ds → Bare ds → 49 ≤ get_or ds 0 0
not_zero [] h a b = absurd (omega arith)
not_zero (d ∷ ds) h a b = go (ltb d 49) refl
  where
    go : (t : Bool) → ltb d 49 ≡ t → 49 ≤ d
    go true e =
        let low : d < 49 = ltb-true d 49 e in
        let r = digit_range d a.0 in
        let alone : d ∷ ds ≡ 48 ∷ [] = b (omega arith) in
        absurd (omega (arith, ap length alone))
    go false e = ltb-false d 49 e

own_from : (k : ℕ) (ds : List ℕ) → length ds ≡ suc k → All is_digit ds → Bare ds → Own k ds
own_from zero ds len a b = own_one ds len a
own_from (suc k) ds len a b =
    let r = last_of ds (omega arith) in
    let xs = r.0 in
    let parts = all_before xs r.1 (subst (All is_digit) r.2 a) in
    let same : get_or xs 0 0 ≡ get_or ds 0 0 =
    sym (get_or-append xs (r.1 ∷ []) 0 0 (omega (arith, r.3))) ∙ ap (λ (l : List ℕ). get_or l 0 0) (sym r.2) in
    let big : 49 ≤ get_or xs 0 0 = omega (arith, not_zero ds (omega arith) a b) in
    subst (Own (suc k)) (sym r.2)
    (own_more k xs r.1 parts.1 (some_value xs big) (own_from k xs (omega (arith, r.3)) parts.0 (λ e. absurd (omega arith))))

pub decimal_only : (n : ℕ) → n < 10000 → (ds : List ℕ) → Number n ds → Bare ds → ds ≡ decimal n
unfolding decimal
decimal_only n h [] a b = absurd (a.some refl)
decimal_only n h (d ∷ ds) a b =
    let k = length ds in
    let own = own_from k (d ∷ ds) refl a.each b in
    let small : n < 10 ^ suc k = omega (arith, own.0, a.value) in
    own.1
    ∙ ap (decimals k) a.value
    ∙ sym (up 3 k n small)
    ∙ ap (λ (m : ℕ). decimals m n) (add_comm k 3)
    ∙ up k 3 n (omega arith)
