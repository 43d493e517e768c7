-- The pixels of a raster: each has four bytes (`pixel_long`), and a raster of four samples a pixel is its pixels (`four_samples`). A raster of three samples
-- that is moved four bytes at once: alpha is put over the fourth a turn later (`Widening`). Assumes nothing.
use mathlib.Core.Path.{◌≡◌, refl, sym, ap, ◌∙◌}
use mathlib.Core.List.{List, [], ◌∷◌, ◌++◌, append-nil}
use Prim.Native.Nat.{ℕ, zero, suc, ◌+◌, ◌*◌, ◌-◌, ◌≤◌, ◌<◌}
use native.Mathlib.Nat.{add-zero}
use native.Mathlib.Numerals.{add-one}
use native.Mathlib.Omega.{arith}
use lib.ListN.{length, get_or, set, take, drop, length-set, drop_of_length-le}
use lib.Seq.{sets, sets-eq, set-set}
use Rattle.lists.specs.Gather.{gather}
use Rattle.lists.proofs.GatherLaws.{gather_only}
use Rattle.lists.proofs.FillLaws.{Filling, fill_store}
use Rattle.pam.specs.Pam.{pixel_at}
use Rattle.pam.specs.Reading.{samples_at}

pub pixel_long : (depth : ℕ) (raster : List ℕ) (i : ℕ) → length (pixel_at depth raster i) ≡ 4
unfolding pixel_at
pixel_long depth raster i = refl

pub four_samples : (n : ℕ) (raster : List ℕ) → length raster ≡ 4 * n → raster ≡ gather n (pixel_at 4 raster)
unfolding pixel_at
four_samples n raster h = gather_only 4 (pixel_at 4 raster) (pixel_long 4 raster) 0 n raster h (λ i j _ l. go i j l)
  where
    go : (i j : ℕ) → j < 4 → get_or raster (4 * i + j) 0 ≡ get_or (pixel_at 4 raster i) j 0
    go i zero l = ap (λ (m : ℕ). get_or raster m 0) (add-zero (4 * i))
    go i (suc zero) l = refl
    go i (suc (suc zero)) l = refl
    go i (suc (suc (suc zero))) l = refl
    go i (suc (suc (suc (suc j)))) l = absurd (omega arith)

-- ---- three samples a pixel, four bytes at once

-- alpha over the fourth byte makes the pixel
sealed : (raster l : List ℕ) (k : ℕ) → set (sets l (4 * k) (samples_at raster k)) (4 * k + 3) 255 ≡ sets l (4 * k) (pixel_at 3 raster k)
unfolding samples_at pixel_at
sealed raster l k =
    let third : 4 * k + 3 ≡ suc (suc (suc (4 * k))) = omega arith in
    let before : List ℕ =
    sets l (4 * k) (get_or raster (3 * k) 0 ∷ get_or raster (3 * k + 1) 0 ∷ get_or raster (3 * k + 2) 0 ∷ []) in
    rw third (set-set before (suc (suc (suc (4 * k)))) (get_or raster (3 * k + 3) 0) 255)

-- of a buffer d: the pixels up to i are in place, once pixel i's alpha is put
abbrev pub Widening : (raster d s : List ℕ) → ℕ → Type 0
Widening raster d s i = Filling 4 (pixel_at 3 raster) d (set s (4 * i + 3) 255) (i + 1)

pub widen_begin : (raster d s : List ℕ) → 4 ≤ length d → s ≡ sets d (4 * 0) (samples_at raster 0) → Widening raster s s 0
unfolding samples_at pixel_at gather
widen_begin raster d s h e =
    let cut : s ≡ samples_at raster 0 ++ drop 4 d = e ∙ sets-eq (samples_at raster 0) d 0 h in
    record {
      long = length-set s 3 255;
      within = omega (arith, ap length cut);
      so_far = rw cut;
    }

pub widen_more : (raster d s s' : List ℕ) (i : ℕ) → Widening raster d s i → 4 * (i + 2) ≤ length d
    → s' ≡ sets (set s (4 * i + 3) 255) (4 * (i + 1)) (samples_at raster (i + 1)) → Widening raster d s' (i + 1)
widen_more raster d s s' i w h e =
    fill_store w (pixel_long 3 raster) (omega (arith, h))
    (ap (λ (l : List ℕ). set l (4 * (i + 1) + 3) 255) e ∙ sealed raster (set s (4 * i + 3) 255) (i + 1))

-- the last pixel behind all others
last_pixel : (raster l : List ℕ) (k : ℕ) → length l ≡ 4 * (k + 1) → take (4 * k) l ≡ gather k (pixel_at 3 raster)
    → sets l (4 * k) (pixel_at 3 raster k) ≡ gather (k + 1) (pixel_at 3 raster)
unfolding gather
last_pixel raster l k h e =
    let long : 4 * k + length (pixel_at 3 raster k) ≡ length l = omega (arith, h, pixel_long 3 raster k) in
    sets-eq (pixel_at 3 raster k) l (4 * k) (omega (arith, long))
    ∙ rw (e, add-one k, drop_of_length-le l {i = 4 * k + length (pixel_at 3 raster k)} (omega (arith, long)))
    (append-nil (gather k (pixel_at 3 raster) ++ pixel_at 3 raster k))

-- no pixel, and one
pub no_pixel : (raster l : List ℕ) (n : ℕ) → n ≡ 0 → length l ≡ 4 * n → l ≡ gather n (pixel_at 3 raster)
unfolding gather
no_pixel raster [] n e h = rw e
no_pixel raster (b ∷ bs) n e h = absurd (omega (arith, e, h))

pub one_pixel : (raster l out : List ℕ) (n : ℕ) → n ≡ 1 → length l ≡ 4 * n → out ≡ sets l (4 * 0) (pixel_at 3 raster 0) → out ≡ gather n (pixel_at 3 raster)
unfolding gather
one_pixel raster l out n e h last = last ∙ last_pixel raster l 0 (omega (arith, e, h)) refl ∙ ap (λ (k : ℕ). gather k (pixel_at 3 raster)) (sym e)

-- alpha of the last but one, and the last
pub widen_all : (raster s l out : List ℕ) (n : ℕ) → 2 ≤ n → length s ≡ 4 * n
    → take (4 * (n - 1)) (set s (4 * (n - 2) + 3) 255) ≡ gather (n - 1) (pixel_at 3 raster)
    → l ≡ set s (4 * (n - 2) + 3) 255
    → out ≡ sets l (4 * (n - 1)) (pixel_at 3 raster (n - 1))
    → out ≡ gather n (pixel_at 3 raster)
widen_all raster s l out n h long most alpha last =
    let all : n - 1 + 1 ≡ n = omega arith in
    let size : length l ≡ 4 * (n - 1 + 1) = ap length alpha ∙ length-set s (4 * (n - 2) + 3) 255 ∙ long ∙ ap (λ (k : ℕ). 4 * k) (sym all) in
    last
    ∙ last_pixel raster l (n - 1) size (ap (take (4 * (n - 1))) alpha ∙ most)
    ∙ ap (λ (k : ℕ). gather k (pixel_at 3 raster)) all
