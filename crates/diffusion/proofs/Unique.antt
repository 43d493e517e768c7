-- Choices that follow one rule from the biased bytes, over the same sources, are the same; and where they do in one picture, they do in another
-- that is the same so far. Assumes nothing.
use mathlib.Core.Path.{◌≡◌, sym, ◌∙◌}
use mathlib.Core.Bool.{true}
use mathlib.Core.List.{List}
use Prim.Native.Nat.{ℕ, zero, suc, ◌<◌}
use native.Mathlib.Nat.{not-suc-le-zero}
use native.Mathlib.Omega.{arith}
use lib.Dec.{lit<}
use Rattle.patterns.specs.declared.Target.{Target}
use Rattle.diffusion.specs.Biased.{biased_of}
use Rattle.diffusion.specs.Diffusion.{Channel, Picture, channel, biased, Alike, Follows}
use Rattle.diffusion.proofs.Received.{fewer, cell_same}

biased_same : (k : List Target) (c c' : Channel) (i : ℕ) → c.source i ≡ c'.source i → Alike c c' i → biased k c i ≡ biased k c' i
unfolding biased
biased_same k c c' i e s = λ q. biased_of (e q) (cell_same c c' k i s q)

module _ {X : Type 0} (rule : ℕ → ℕ → ℕ → ℕ → X) (k : List Target) where
  -- the rule's answer at a pixel before which two pictures are the same
  rule_same : (p p' : Picture) (i : ℕ) → ((a : ℕ) → a < 3 → p.source a i ≡ p'.source a i) → ((a : ℕ) → a < 3 → Alike (channel p a) (channel p' a) i)
      → rule i (biased k (channel p 0) i) (biased k (channel p 1) i) (biased k (channel p 2) i)
      ≡ rule i (biased k (channel p' 0) i) (biased k (channel p' 1) i) (biased k (channel p' 2) i)
  rule_same p p' i S s = λ q. rule i (at 0 (lit< tt) q) (at 1 (lit< tt) q) (at 2 (lit< tt) q)
    where
      at : (a : ℕ) → a < 3 → biased k (channel p a) i ≡ biased k (channel p' a) i
      at a A = biased_same k (channel p a) (channel p' a) i (S a A) (s a A)

  -- ---- one way only
  module _ (bytes : ℕ → X → ℕ) (p p' : Picture) (x x' : ℕ → X) (W : p.width ≡ p'.width) (H : p.height ≡ p'.height)
      (D : (i : ℕ) → p.dithered i ≡ p'.dithered i) (S : (a i : ℕ) → a < 3 → p.source a i ≡ p'.source a i)
      (B : (a i : ℕ) → a < 3 → p.chosen a i ≡ bytes a (x i)) (B' : (a i : ℕ) → a < 3 → p'.chosen a i ≡ bytes a (x' i)) where
    alike : (i : ℕ) → ((j : ℕ) → j < i → p.dithered j ≡ true → x j ≡ x' j) → (a : ℕ) → a < 3 → Alike (channel p a) (channel p' a) i
    alike i before a A = record {
      width = W;
      height = H;
      dithered = λ j m. D j;
      source = λ j m. S a j A;
      chosen = λ j m e. B a j A ∙ (λ q. bytes a (before j m e q)) ∙ sym (B' a j A);
    }

    pub unique : (n : ℕ) → Follows rule k p x n → Follows rule k p' x' n → (i : ℕ) → i < n → p.dithered i ≡ true → x i ≡ x' i
    unique zero F F' i l d = absurd (not-suc-le-zero l)
    unique (suc n) F F' i l d =
        let before = unique n (λ j m. F j (omega arith)) (λ j m. F' j (omega arith)) in
        F i l d ∙ rule_same p p' i (λ a A. S a i A) (alike i (λ j m. before j (omega arith))) ∙ sym (F' i l (sym (D i) ∙ d))

  -- ---- another picture that is the same before the pixel n
  pub follows_kept : (p p' : Picture) (x x' : ℕ → X) (n : ℕ) → ((a : ℕ) → a < 3 → Alike (channel p a) (channel p' a) n)
      → ((i : ℕ) → i < n → p.dithered i ≡ true → x i ≡ x' i) → Follows rule k p x n → Follows rule k p' x' n
  follows_kept p p' x x' n s C F i l d =
      let d' : p.dithered i ≡ true = (s 0 (lit< tt)).dithered i l ∙ d in
      sym (C i l d') ∙ F i l d' ∙ rule_same p p' i (λ a A. (s a A).source i l) (λ a A. fewer (channel p a) (channel p' a) n i (omega arith) (s a A))
