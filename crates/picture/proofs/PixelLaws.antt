-- What is seen of a picture that is reduced through a table of bytes has alpha 255 and red, green and blue of the table. Assumes nothing.
use mathlib.Core.Path.{◌≡◌, sym, ap, ◌∙◌}
use mathlib.Core.Bool.{true, false, not}
use borrow.Author.Tests.{not-false}
use mathlib.Core.List.{List}
use Prim.Native.Nat.{ℕ, ◌<◌}
use lib.ListN.{get_or}
use Rattle.lists.proofs.Bools.{clash}
use Rattle.color.specs.declared.ReducedColor.{ReducedColor}
use Rattle.color.specs.Color.{transparent_reduced}
use Rattle.reducing.specs.declared.Reducing.{Reducing}
use Rattle.reducing.specs.declared.Reducing.TheVariants.{ByAlpha, Grey, OpaqueColor}
use Rattle.reducing.specs.Reduce.{through, solid, reduce_color, least_alpha, keeps_channels}
use Rattle.reducing.proofs.ReduceLaws.{red_of, green_of, blue_of, own_red, seen_solid, seen_least, unseen_is, none_below}
use Rattle.picture.specs.Pixels.{source_at, basis, reduced_by, is_seen, seen_from, Solid}

module _ (by : Reducing) (reduction pixels : List ℕ) where
  seen_is : (i : ℕ) → is_seen (reduced_by by reduction pixels) i ≡ true
      → (let c = source_at pixels i in reduced_by by reduction pixels i ≡ solid reduction (red_of by c) (green_of by c) (blue_of by c))
  unfolding is_seen reduced_by
  seen_is i = seen_solid reduction (source_at pixels i) by

  -- the red of what is seen, where its channels are kept
  pub seen_red : (i : ℕ) → keeps_channels by ≡ true → is_seen (reduced_by by reduction pixels) i ≡ true
      → through reduction (source_at pixels i).0.r ≡ (reduced_by by reduction pixels i).0.r
  seen_red i k s = ap (through reduction) (sym (own_red by (source_at pixels i) k)) ∙ sym (ap (λ (c : ReducedColor). c.0.r) (seen_is i s))

  -- below whatever bounds the table's entries
  pub reduced_below : {bound : ℕ} → ((v : ℕ) → get_or reduction v 0 < bound) → (i : ℕ) → is_seen (reduced_by by reduction pixels) i ≡ true
      → ((reduced_by by reduction pixels i).0.r < bound) × ((reduced_by by reduction pixels i).0.g < bound) × ((reduced_by by reduction pixels i).0.b < bound)
  reduced_below entries i s = (rw (seen_is i s) (entries _), rw (seen_is i s) (entries _), rw (seen_is i s) (entries _))

  pub reduced_solid : ((v : ℕ) → get_or reduction v 0 < 256) → Solid (reduced_by by reduction pixels)
  reduced_solid bytes = record {
    red = λ i s. (reduced_below bytes i s).0;
    green = λ i s. (reduced_below bytes i s).1;
    blue = λ i s. (reduced_below bytes i s).2;
    alpha = λ i s. ap (λ (c : ReducedColor). c.0.a) (seen_is i s);
  }

-- what is seen of a picture, by its pixels' own alpha
pub seen_from_lem : (by : Reducing) (reduction pixels opaque : List ℕ) → seen_from (least_alpha by) pixels ≡ is_seen (reduced_by by reduction (basis by pixels opaque))
unfolding is_seen reduced_by reduce_color
seen_from_lem ByAlpha reduction pixels opaque = λ t i. sym (seen_least reduction (source_at pixels i)) t
seen_from_lem Grey reduction pixels opaque = λ t i. not (none_below (source_at pixels i).0.a t)
seen_from_lem OpaqueColor reduction pixels opaque = λ t i. not (none_below (source_at pixels i).0.a t)

-- what is not seen is TRANSPARENT
pub unseen_kept : (by : Reducing) (reduction pixels opaque : List ℕ) (i : ℕ) → seen_from (least_alpha by) pixels i ≡ false
    → reduced_by by reduction (basis by pixels opaque) i ≡ transparent_reduced
unfolding reduced_by
unseen_kept ByAlpha reduction pixels opaque i e = unseen_is reduction (source_at pixels i) (not-false _ e)
unseen_kept Grey reduction pixels opaque i e = absurd (clash (not-false _ e) (none_below (source_at pixels i).0.a))
unseen_kept OpaqueColor reduction pixels opaque i e = absurd (clash (not-false _ e) (none_below (source_at pixels i).0.a))
