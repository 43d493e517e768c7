-- Texts: the same bytes; where a test first passes, which cuts a list in two; numbers that are kept up to a bound. Assumes nothing.
use mathlib.Core.Path.{◌≡◌, refl, sym, ap, ◌∙◌}
use mathlib.Core.Bool.{Bool, true, false, cond, not}
use mathlib.Core.List.{List, [], ◌∷◌}
use Prim.Native.Nat.{ℕ, suc, ◌+◌, ◌*◌, ◌-◌, ◌<◌}
use native.Mathlib.Omega.{arith}
use borrow.Author.Tests.{eqb-true, ltb-true, ltb-false}
use lib.Dec.{eqb, ltb, eqb_refl}
use lib.ListN.{length, take, drop, length-drop}
use lib.Seq.{take_all}
use Rattle.std.specs.Prelude.{None, Some, position}
use Rattle.std.specs.List.{position_or_len, fold}
use Rattle.std.specs.Option.{unwrap_or}
use Rattle.std.specs.Cmp.Lexicographic.{pointwise}
use Rattle.std.proofs.lemmas.List.Sums.{prefix_len-le-length}
use Rattle.lists.specs.Order.{All}
use Rattle.lists.proofs.Bools.{fails, is_true, and_split, clash}
use Rattle.pam.specs.Text.{same_text, value_from}
use Rattle.pam.specs.Reading.{capped}

-- ---- the same text

pub same_text→eq : (xs ys : List ℕ) → same_text xs ys ≡ true → xs ≡ ys
same_text→eq [] [] e = refl
same_text→eq [] (y ∷ ys) e = absurd (clash refl (sym e))
same_text→eq (x ∷ xs) [] e = absurd (clash refl (sym e))
same_text→eq (x ∷ xs) (y ∷ ys) e =
    let both : (eqb x y ≡ true) × (same_text xs ys ≡ true) = and_split (eqb x y) (same_text xs ys) e in
    cc (eqb-true x y both.0, same_text→eq xs ys both.1)

pub same_text_refl : (xs : List ℕ) → same_text xs xs ≡ true
same_text_refl [] = refl
same_text_refl (x ∷ xs) = rw (is_true (eqb x x) (eqb_refl x), same_text_refl xs)

-- what `==` tells of two texts
pub same_told : (xs ys zs : List ℕ) {t : Bool} → t ≡ pointwise eqb xs ys → ys ≡ zs → same_text xs zs ≡ t
same_told xs ys zs e q = ap (pointwise eqb xs) (sym q) ∙ sym e

-- ---- the part of a slice from a place on, as a function that is lent it sees it
abbrev pub onward : ℕ → List ℕ → List ℕ
onward s l = take (length l - s) (drop s l)

pub onward_is : (s : ℕ) (l : List ℕ) → onward s l ≡ drop s l
onward_is s l = take_all (length l - s) (drop s l) (omega (arith, length-drop s l))

-- ---- where a test first passes

module _ (test : ℕ → Bool) where
  -- before that place it fails
  pub fails_before : (l : List ℕ) → All (λ b. not (test b)) (take (position_or_len test l) l)
  fails_before [] = tt
  fails_before (b ∷ bs) = go (test b) refl (1 + position_or_len test bs) (omega arith) (fails_before bs)
    where
      go : (t : Bool) → test b ≡ t → (n : ℕ) → n ≡ suc (position_or_len test bs) → All (λ b. not (test b)) (take (position_or_len test bs) bs)
          → All (λ b. not (test b)) (take (cond (not t) n 0) (b ∷ bs))
      go true e n more a = tt
      go false e n more a = rw more (fails e, a)

  -- at it stands a byte that passes, or the list ends there
  pub passes_then : (l : List ℕ) (b : ℕ) (rest : List ℕ) → drop (position_or_len test l) l ≡ b ∷ rest → test b ≡ true
  passes_then [] b rest e = absurd (no_cons e)
    where
      no_cons : [] ≡ b ∷ rest → ⊥
      no_cons e = let z : ◌≡◌ {A = ℕ} 0 1 = cc in omega arith
  passes_then (x ∷ xs) b rest e = go (test x) refl (1 + position_or_len test xs) (omega arith) (passes_then xs b rest) e
    where
      go : (t : Bool) → test x ≡ t → (n : ℕ) → n ≡ suc (position_or_len test xs) → (drop (position_or_len test xs) xs ≡ b ∷ rest → test b ≡ true)
          → drop (cond (not t) n 0) (x ∷ xs) ≡ b ∷ rest → test b ≡ true
      go true q n more h e = cc
      go false q n more h e = h (rw more at e)

  module _ (l : List ℕ) where
    -- the place, or the length where it passes nowhere
    pub first_or_length : unwrap_or (position test l) (length l) ≡ position_or_len test l
    first_or_length = go (ltb (position_or_len test l) (length l)) refl
      where
        go : (t : Bool) → ltb (position_or_len test l) (length l) ≡ t
            → unwrap_or (cond t (Some (position_or_len test l)) None) (length l) ≡ position_or_len test l
        go true e = refl
        go false e = omega (arith, ltb-false _ _ e, prefix_len-le-length (λ b. not (test b)) l)

    -- nowhere
    pub none_passes : position test l ≡ None → All (λ b. not (test b)) l
    none_passes e = go (ltb (position_or_len test l) (length l)) refl e
      where
        go : (t : Bool) → ltb (position_or_len test l) (length l) ≡ t → cond t (Some (position_or_len test l)) None ≡ None → All (λ b. not (test b)) l
        go true q e = cc
        go false q e = rw (take_all (position_or_len test l) l (ltb-false _ _ q)) at (fails_before l)

    -- at a place within
    pub one_passes : (i : ℕ) → position test l ≡ Some i → (i ≡ position_or_len test l) × (i < length l)
    one_passes i e = go (ltb (position_or_len test l) (length l)) refl e
      where
        go : (t : Bool) → ltb (position_or_len test l) (length l) ≡ t → cond t (Some (position_or_len test l)) None ≡ Some i
            → (i ≡ position_or_len test l) × (i < length l)
        go true q e = let same : position_or_len test l ≡ i = cc in (sym same, omega (arith, ltb-true _ _ q))
        go false q e = cc

-- ---- a number, digit by digit

-- the bound may be kept at each digit
pub value_capped : (n m : ℕ) (ds : List ℕ) → n ≡ capped m → fold (λ n d. capped (10 * n + (d - 48))) n ds ≡ capped (value_from m ds)
unfolding value_from
value_capped n m [] e = e
value_capped n m (d ∷ ds) e = value_capped (capped (10 * n + (d - 48))) (10 * m + (d - 48)) ds (omega (arith, e))
