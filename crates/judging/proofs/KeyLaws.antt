-- Numbers for colours: two are equal exactly if their colours are (`same_key`), so a number is among others exactly if its colour is among theirs
-- (`any_has`), and one that is not joins them as its colour does (`joins`). Assumes nothing.
use mathlib.Core.Path.{◌≡◌, refl, sym, ap, ◌∙◌, subst}
use mathlib.Core.Bool.{Bool, true, false, cond, ◌||◌}
use mathlib.Core.List.{List, [], ◌∷◌, map, map-append}
use Prim.Native.Nat.{ℕ, ◌+◌, ◌*◌, ◌/◌, ◌%◌, ◌<◌}
use native.Mathlib.Nat.{div-add-mod}
use native.Mathlib.Numerals.{add-one}
use native.Mathlib.Omega.{arith}
use borrow.Author.Tests.{eqb-true, eqb-false}
use Rattle.std.specs.List.{list_any}
use lib.Dec.{eqb}
use lib.ListN.{length, take, set}
use lib.Seq.{take-suc-set}
use Rattle.lists.proofs.Bools.{clash}
use Rattle.color.specs.declared.Rgba8888.{Rgba8888}
use Rattle.color.specs.declared.ReducedColor.{ReducedColor}
use Rattle.color.specs.Color.{same_reduced, rgba}
use Rattle.color.proofs.Same.{same→equal, same_self}
use Rattle.lists.specs.Different.{has, add_new}
use Rattle.judging.specs.Keys.{color_with_key}

-- ---- colours as numbers
-- a number from its lowest byte and what stands above it
joined : (k l : ℕ) → k % 256 ≡ l % 256 → k / 256 ≡ l / 256 → k ≡ l
joined k l r q = omega (arith, div-add-mod k 256, div-add-mod l 256)

module _ (r q : ℕ) (h : r < 256) where
  lowest : (r + 256 * q) % 256 ≡ r
  lowest = omega arith

  above : (r + 256 * q) / 256 ≡ q
  above = omega arith

pub color_only : (k l : ℕ) → color_with_key k ≡ color_with_key l → k ≡ l
unfolding color_with_key
color_only k l e =
    joined k l (ap (λ (c : ReducedColor). c.0.r) e)
    (joined (k / 256) (l / 256) (ap (λ (c : ReducedColor). c.0.g) e)
    (joined (k / 256 / 256) (l / 256 / 256) (ap (λ (c : ReducedColor). c.0.b) e) (ap (λ (c : ReducedColor). c.0.a) e)))

-- the number of four bytes
of_bytes : (r g b a : ℕ) → r < 256 → g < 256 → b < 256 → color_with_key (r + 256 * (g + 256 * (b + 256 * a))) ≡ record { 0 = rgba r g b a }
unfolding color_with_key
of_bytes r g b a hr hg hb =
    simp (
      above r (g + 256 * (b + 256 * a)) hr,
      above g (b + 256 * a) hg,
      above b a hb,
      lowest r (g + 256 * (b + 256 * a)) hr,
      lowest g (b + 256 * a) hg,
      lowest b a hb,
    )

pub color_of_lem : (c d : Rgba8888) → c.r < 256 → c.g < 256 → c.b < 256 → c ≡ d
    → color_with_key (c.r + 256 * (c.g + 256 * (c.b + 256 * c.a))) ≡ record { 0 = d }
color_of_lem c d hr hg hb e = of_bytes c.r c.g c.b c.a hr hg hb ∙ (λ i. record { 0 = e i })

same_key : (k l : ℕ) → same_reduced (color_with_key k) (color_with_key l) ≡ eqb k l
same_key k l = go (eqb k l) refl (same_reduced (color_with_key k) (color_with_key l)) refl
  where
    go : (s : Bool) → eqb k l ≡ s → (t : Bool) → same_reduced (color_with_key k) (color_with_key l) ≡ t → t ≡ s
    go true e true f = refl
    go false e false f = refl
    go false e true f = absurd (eqb-false k l e (color_only k l (same→equal (color_with_key k) (color_with_key l) f)))
    go true e false f = absurd (clash (subst (λ (m : ℕ). same_reduced (color_with_key k) (color_with_key m) ≡ true) (eqb-true k l e) (same_self (color_with_key k))) f)

has_color : (key : ℕ) (keys : List ℕ) → has same_reduced (color_with_key key) (map color_with_key keys) ≡ has eqb key keys
unfolding has
has_color key [] = refl
has_color key (k ∷ keys) = rw (same_key, has_color key keys)

pub any_has : (key : ℕ) (keys : List ℕ) → list_any (λ k. eqb k key) keys ≡ has same_reduced (color_with_key key) (map color_with_key keys)
unfolding has
any_has key keys = go keys ∙ sym (has_color key keys)
  where
    either : (t : Bool) (rest : Bool) → (t || rest) ≡ cond t true rest
    either true rest = refl
    either false rest = refl

    go : (ks : List ℕ) → list_any (λ k. eqb k key) ks ≡ has eqb key ks
    go [] = refl
    go (k ∷ ks) = rw (go ks) (either (eqb k key) (has eqb key ks))

-- one that is not goes behind them
pub joins : (keys : List ℕ) (n key : ℕ) {color : ReducedColor} → color_with_key key ≡ color → n < length keys
    → has same_reduced (color_with_key key) (map color_with_key (take n keys)) ≡ false
    → map color_with_key (take (n + 1) (set keys n key)) ≡ add_new same_reduced color (map color_with_key (take n keys))
unfolding add_new
joins keys n key {color} same h e =
    rw (← same, e, add-one) (ap (map color_with_key) (take-suc-set keys n key h) ∙ map-append color_with_key (take n keys) (key ∷ []))

-- one that is there changes nothing
pub joins_not : (keys : List ℕ) (n key : ℕ) {color : ReducedColor} → color_with_key key ≡ color
    → has same_reduced (color_with_key key) (map color_with_key (take n keys)) ≡ true
    → map color_with_key (take n keys) ≡ add_new same_reduced color (map color_with_key (take n keys))
unfolding add_new
joins_not keys n key {color} same e = rw (← same, e) refl
