-- The nearest of the records so far: what one record more makes of it. Assumes nothing.
use Rattle.std.proofs.Common.{◌≡◌, ℕ, ◌+◌, Bool, true, false, cond, sym, ap, ◌∙◌}
use Rattle.std.specs.Prelude.{Float}
use Rattle.std.specs.Float.Ieee.{lt}
use Rattle.lists.specs.Least.{least_of}
use Rattle.lists.proofs.LeastLaws.{least_step}

module _ (f : ℕ → Float) (k p : ℕ) (least d : Float) (P : p ≡ least_of lt f k) (L : least ≡ f p) (D : d ≡ f k) where
  stepped : (t : Bool) → lt d least ≡ t → cond t k p ≡ least_of lt f (k + 1)
  stepped t e =
      (λ i. cond (sym e i) k (P i)) ∙ (λ i. cond (lt (D i) ((L ∙ ap f P) i)) k (least_of lt f k)) ∙ sym (least_step lt f k)

  -- it is the new one where it is nearer, else the old one
  pub nearer : lt d least ≡ true → k ≡ least_of lt f (k + 1)
  nearer = stepped true

  pub not_nearer : lt d least ≡ false → p ≡ least_of lt f (k + 1)
  not_nearer = stepped false
