-- Numbers and names as tokens: the test for one or more digits is the declarative one, and the digits, the five names and the tuple types have no white space
-- in them. Assumes nothing.
use mathlib.Core.Path.{◌≡◌, refl, sym, subst}
use Prim.Native.Nat.{ℕ, ◌≤◌}
use native.Mathlib.Omega.{arith}
use borrow.Author.Tests.{ne_eqb}
use mathlib.Core.Logic.{inl, inr}
use mathlib.Core.Bool.{Bool, true, false, not}
use mathlib.Core.List.{List, [], ◌∷◌}
use lib.Dec.{T, eqb, leb, leb→le, eqb-suc-zero}
use lib.ListN.{length, get_or}
use lib.Ieee.Fits.{and_l, and_r}
use Rattle.lists.specs.Order.{All}
use Rattle.lists.proofs.Bools.{clash, holds, is_true, and_split}
use Rattle.lists.proofs.Computed.{all}
use Rattle.std.specs.List.{list_all}
use Rattle.pam.specs.declared.header.Field.{Field}
use Rattle.pam.specs.declared.header.Field.TheVariants.{Width, Height, Depth, Maxval, TupleType}
use Rattle.pam.specs.Text.{text, is_white, is_digit, is_number, value_of}
use Rattle.pam.specs.Subset.{Number, Samples, name_text}
use Rattle.pam.proofs.TokenLaws.{is_ink}
use Rattle.pam.proofs.PairLaws.{Token, cons_some}

-- ---- one or more digits
each_digit : (l : List ℕ) → list_all is_digit l ≡ true → All is_digit l
each_digit [] e = tt
each_digit (d ∷ ds) e = let both = and_split (is_digit d) (list_all is_digit ds) e in (holds both.0, each_digit ds both.1)

all_digits : (l : List ℕ) → All is_digit l → list_all is_digit l ≡ true
all_digits [] a = refl
all_digits (d ∷ ds) a = rw (is_true (is_digit d) a.0, all_digits ds a.1)

pub number_is : (value : List ℕ) → is_number value ≡ true → Number (value_of value) value
unfolding is_number
number_is [] e = absurd (clash e refl)
number_is (d ∷ ds) e =
    let both = and_split (not (eqb (length (d ∷ ds)) 0)) (list_all is_digit (d ∷ ds)) e in
    record { some = cons_some; each = each_digit (d ∷ ds) both.1; value = refl }

pub number_only : (value : List ℕ) {n : ℕ} → Number n value → is_number value ≡ true
unfolding is_number
number_only [] h = absurd (h.some refl)
number_only (d ∷ ds) h = rw (eqb-suc-zero (length ds)) (all_digits (d ∷ ds) h.each)

-- ---- tokens
digit_ink : (b : ℕ) → T (is_digit b) → T (is_ink b)
unfolding is_digit is_white
digit_ink b h =
    let low : 48 ≤ b = leb→le 48 b (and_l (leb 48 b) (leb b 57) h) in
    rw (
      ne_eqb b 9 (λ q. omega arith),
      ne_eqb b 11 (λ q. omega arith),
      ne_eqb b 12 (λ q. omega arith),
      ne_eqb b 13 (λ q. omega arith),
      ne_eqb b 32 (λ q. omega arith),
    ) tt

pub number_token : {n : ℕ} (value : List ℕ) → Number n value → Token value
number_token value h = (h.some, digits value h.each)
  where
    digits : (l : List ℕ) → All is_digit l → All is_ink l
    digits [] a = tt
    digits (b ∷ bs) a = (digit_ink b a.0, digits bs a.1)

-- of bytes that are written out: one computed test
pub all_of : (test : ℕ → Bool) (l : List ℕ) → T (all test l) → All test l
all_of test [] h = tt
all_of test (b ∷ bs) h = (and_l (test b) (all test bs) h, all_of test bs (and_r (test b) (all test bs) h))

pub samples_token : (n : ℕ) (value : List ℕ) → Samples n value → Token value
unfolding is_white
samples_token n value (inl (e, q)) = subst Token (sym e) (cons_some, all_of is_ink (text "RGB") tt)
samples_token n value (inr (e, q)) = subst Token (sym e) (cons_some, all_of is_ink (text "RGB_ALPHA") tt)

-- ---- the five names
pub name_token : (name : Field) → Token (name_text name)
unfolding is_white
name_token Width = (cons_some, all_of is_ink (text "WIDTH") tt)
name_token Height = (cons_some, all_of is_ink (text "HEIGHT") tt)
name_token Depth = (cons_some, all_of is_ink (text "DEPTH") tt)
name_token Maxval = (cons_some, all_of is_ink (text "MAXVAL") tt)
name_token TupleType = (cons_some, all_of is_ink (text "TUPLTYPE") tt)

-- none of them begins with #
pub name_plain : (name : Field) → eqb (get_or (name_text name) 0 35) 35 ≡ false
name_plain Width = refl
name_plain Height = refl
name_plain Depth = refl
name_plain Maxval = refl
name_plain TupleType = refl
