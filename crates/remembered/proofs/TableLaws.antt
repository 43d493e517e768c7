-- A table of answers remembered by colour: a colour's answer more, and the empty table; the answers themselves go by red, green and blue alone.
-- Assumes nothing.
use mathlib.Core.Path.{◌≡◌, refl, sym, ap, ◌∙◌}
use mathlib.Core.Bool.{Bool, true, false}
use Prim.Native.Nat.{ℕ, ◌+◌, ◌*◌, ◌%◌, ◌<◌}
use native.Mathlib.Omega.{arith}
use borrow.Author.Tests.{eqb-true, eqb-false}
use lib.Dec.{eqb}
use lib.ListN.{length, get_or, set, replicate, get_or-replicate}
use lib.Seq.{get_or-set_same, get_or-set_other}
use Rattle.std.specs.Prelude.{None}
use Rattle.color.specs.declared.NormalizedColor.{NormalizedColor}
use Rattle.color.specs.declared.Oklab.{Oklab}
use Rattle.color.specs.Color.{rgba}
use Rattle.mixing.specs.Lerp.{Bytes, EqualRgb, along, share_of, mix_residual}
use Rattle.lookup.specs.declared.Two.{Two}
use Rattle.conversion.specs.Linear.{linear_of}
use Rattle.conversion.specs.Oklab.{millionths_of, oklab_of, to_oklab}
use Rattle.shortlist.specs.Candidates.{Candidates}
use Rattle.shortlist.specs.Nearest.{nearest_in}
use Rattle.lookup.specs.Second.{nearest_two_of}
use Rattle.remembered.specs.declared.Known.{Known}
use Rattle.remembered.specs.declared.Memory.{Memory}
use Rattle.remembered.specs.Table.{nearest_alone, nearest_both, key_of, two_of, TableOf, ByRgb}

-- the key has red, green and blue
low : (x y : ℕ) → x < 256 → (x + 256 * y) % 256 ≡ x
low x y l = omega arith

same_low : (x y x' y' : ℕ) → x < 256 → x' < 256 → x + 256 * y ≡ x' + 256 * y' → x ≡ x'
same_low x y x' y' l l' e = sym (low x y l) ∙ ap (λ (n : ℕ). n % 256) e ∙ low x' y' l'

pub key_only : (c c' : NormalizedColor) → Bytes c → Bytes c' → key_of c ≡ key_of c' → EqualRgb c c'
unfolding key_of
key_only c c' s t e =
    let r : c.0.r ≡ c'.0.r = same_low c.0.r (c.0.g + 256 * c.0.b) c'.0.r (c'.0.g + 256 * c'.0.b) s.r t.r (omega arith) in
    let g : c.0.g ≡ c'.0.g = same_low c.0.g c.0.b c'.0.g c'.0.b s.g t.g (omega arith) in
    record { r = r; g = g; b = omega arith }

-- what is left alone
pub table_same : (f : NormalizedColor → Two) (was memory : Memory) → TableOf f was → memory.known ≡ was.known → TableOf f memory
table_same f was memory kept e = record { right = λ j l c s any. rw e (kept.right j l c s any) }

-- a colour's answer is remembered in place j
pub table_more : (f : NormalizedColor → Two) (was memory : Memory) → TableOf f was → ByRgb f → (c : NormalizedColor) (j : ℕ) (x : Known) → Bytes c
    → j < length was.known → x.key ≡ key_of c → two_of x.pair ≡ f c → memory.known ≡ set was.known j x → TableOf f memory
table_more f was memory kept by c j x s l k e m = record { right = λ i h. go i h (eqb i j) refl }
  where
    go : (i : ℕ) → i < 256 → (t : Bool) → eqb i j ≡ t → (c' : NormalizedColor) → Bytes c' → (any : Known)
        → (get_or memory.known i any).key ≡ key_of c' → two_of (get_or memory.known i any).pair ≡ f c'
    go i h true t c' s' any same =
        let q : i ≡ j = eqb-true i j t in
        let here : get_or memory.known i any ≡ x = rw (m, q, get_or-set_same) refl in
        let keys : key_of c ≡ key_of c' = sym k ∙ sym (ap (λ (y : Known). y.key) here) ∙ same in
        ap (λ (y : Known). two_of y.pair) here ∙ e ∙ by.same c c' (key_only c c' s s' keys)
    go i h false t c' s' any same =
        let n : i ≡ j → ⊥ = eqb-false i j t in
        let there : get_or memory.known i any ≡ get_or was.known i any = rw (m, get_or-set_other) refl in
        ap (λ (y : Known). two_of y.pair) there ∙ kept.right i h c' s' any (ap (λ (y : Known). y.key) (sym there) ∙ same)

-- nothing is remembered yet
pub table_none : (f : NormalizedColor → Two) (memory : Memory) → memory.known ≡ replicate 256 (record { key = 0; pair = record { first = 0; second = None } })
    → TableOf f memory
unfolding key_of
table_none f memory m = record { right = λ j l c s any e. absurd (none c (sym (key j l any) ∙ e)) }
  where
    none : (c : NormalizedColor) → 0 ≡ key_of c → ⊥
    none c e = omega arith

    key : (j : ℕ) → j < 256 → (any : Known) → (get_or memory.known j any).key ≡ 0
    key j l any = rw m (ap (λ (x : Known). x.key) (get_or-replicate 256 j _ any l))

-- ---- the answers go by red, green and blue alone
module _ (c c' : NormalizedColor) (e : EqualRgb c c') where
  oklab_same : to_oklab c ≡ to_oklab c'
  unfolding to_oklab
  oklab_same = λ q. oklab_of (millionths_of (linear_of (e.r q)) (linear_of (e.g q)) (linear_of (e.b q)))

pub alone_by_rgb : (oklab : ℕ → Oklab) (n : ℕ) → ByRgb (nearest_alone oklab n)
unfolding nearest_alone
alone_by_rgb oklab n = record { same = λ c c' e q. record { first = nearest_in oklab n (oklab_same c c' e q); second = None } }

-- the colour c, with the alpha a
abbrev with_alpha : NormalizedColor → ℕ → NormalizedColor
with_alpha c a = record { 0 = rgba c.0.r c.0.g c.0.b a }

pub both_by_rgb : (cs : Candidates) (width : ℕ) → ByRgb (nearest_both cs width)
unfolding nearest_both nearest_two_of share_of along mix_residual to_oklab
both_by_rgb cs width = record { same = same }
  where
    any_alpha : (c : NormalizedColor) (a : ℕ) → nearest_both cs width c ≡ nearest_both cs width (with_alpha c a)
    any_alpha c a = refl

    same : (c c' : NormalizedColor) → EqualRgb c c' → nearest_both cs width c ≡ nearest_both cs width c'
    same c c' e = any_alpha c c'.0.a ∙ (λ q. nearest_both cs width (record { 0 = rgba (e.r q) (e.g q) (e.b q) c'.0.a }))
