-- The first of the least of some values, by any comparison. Definitions only.
-- Written from document 01, "Choosing colours": "smallest distance, first of equals", "the smallest `mix_residual`, first of equals".
use Rattle.std.specs.Prelude.{ℕ, zero, suc, ◌<◌, Bool, cond, not, T}

module _ {A : Type 0} (less : A → A → Bool) where
  -- the first of the least among the positions below n: a later position wins only where its value is less; 0 where n is 0
  unfoldable pub least_of : (ℕ → A) → ℕ → ℕ
  least_of d zero = zero
  least_of d (suc n) = cond (less (d n) (d (least_of d n))) n (least_of d n)

  -- r is that position: what `least_of` is, and all that it is (proofs/LeastLaws)
  pub record Least (d : ℕ → A) (n r : ℕ) : Type 0 where
    pub inside : r < n
    pub least : (k : ℕ) → k < n → T (not (less (d k) (d r)))
    pub first : (k : ℕ) → k < r → T (less (d r) (d k))

  -- what the comparison has to be on the values that satisfy P: asymmetric, and "not less" is transitive
  pub record Comparison (P : A → Type 0) : Type 0 where
    pub asymmetric : (x y : A) → P x → P y → T (less x y) → T (not (less y x))
    pub transitive : (x y z : A) → P x → P y → P z → T (not (less y x)) → T (not (less z y)) → T (not (less z x))
