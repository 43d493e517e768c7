-- The Oklab of a list: how long it is (`list_long`), what is read of it (`list_at`), that equal colours have equal lists (`list_same`), that a buffer which
-- was filled with it begins with it (`list_front`), and that each component is from -2 to 2 where the scale table holds bytes (`list_ranged`).
-- Assumes nothing.
use mathlib.Core.Path.{◌≡◌, refl, sym, ap, subst}
use mathlib.Core.List.{List}
use Prim.Native.Nat.{ℕ, ◌*◌, ◌<◌}
use lib.Dec.{T}
use lib.Ieee.{Float}
use lib.ListN.{length, get_or, take}
use Rattle.lists.proofs.GatherLaws.{gather_same, gather-length, filled_front}
use Rattle.color.specs.declared.ReducedColor.{ReducedColor}
use Rattle.color.specs.declared.Oklab.{Oklab}
use Rattle.color.specs.Tables.{normalize_color}
use Rattle.color.specs.Oklab.{all_in_range, oklab_at}
use Rattle.color.proofs.Distances.{range_all_in}
use Rattle.color.proofs.PieceLaws.{oklab_gathered}
use Rattle.conversion.specs.Oklab.{to_oklab}
use Rattle.conversion.specs.Lists.{oklab_floats, list_oklab, oklab_over}
use Rattle.conversion.proofs.OklabLaws.{ranged}

module _ (scale : List ℕ) where
  pub list_same : {reduced other : ℕ → ReducedColor} (n : ℕ) → ((i : ℕ) → i < n → reduced i ≡ other i) → list_oklab scale reduced n ≡ list_oklab scale other n
  list_same {reduced} {other} n e = gather_same n (λ i h. ap (λ (c : ReducedColor). oklab_floats scale (λ _. c) i) (e i h))

  module _ (reduced : ℕ → ReducedColor) where
    pub list_long : (n : ℕ) → length (list_oklab scale reduced n) ≡ 3 * n
    list_long n = gather-length 3 (oklab_floats scale reduced) (λ _. refl) n

    pub list_front : (n : ℕ) (was : List Float) → take (3 * n) (oklab_over scale reduced n was) ≡ list_oklab scale reduced n
    list_front n was = filled_front 3 (oklab_floats scale reduced) (λ _. refl) was n

    pub list_at : (n i : ℕ) → i < n → oklab_at (list_oklab scale reduced n) i ≡ to_oklab (normalize_color scale (reduced i))
    list_at n i h = oklab_gathered (λ k. to_oklab (normalize_color scale (reduced k))) n i h

    pub list_ranged : ((k : ℕ) → get_or scale k 0 < 256) → (n i : ℕ) → i < n → T (all_in_range (oklab_at (list_oklab scale reduced n) i))
    unfolding normalize_color
    list_ranged bytes n i h =
        subst (λ (o : Oklab). T (all_in_range o)) (sym (list_at n i h)) (range_all_in _ (ranged (normalize_color scale (reduced i)) (bytes _) (bytes _) (bytes _)))
