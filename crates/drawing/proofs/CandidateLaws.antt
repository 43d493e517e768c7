-- A dithered choice is one of the candidates, for every kind: the nearest is, and both ends of a bracket are. The Oklab of a list is fit to be chosen from
-- (`list_fit`). Assumes nothing.
use mathlib.Core.Path.{◌≡◌, refl, sym, subst}
use mathlib.Core.Bool.{Bool, true, false, cond, not, ◌&&◌}
use mathlib.Core.List.{List}
use Prim.Native.Nat.{ℕ, ◌+◌, ◌/◌, ◌%◌, ◌<◌}
use native.Mathlib.Nat.{le_of_eq}
use lib.Dec.{T}
use lib.ListN.{get_or}
use lib.Ieee.{lt}
use Rattle.color.specs.declared.NormalizedColor.{NormalizedColor}
use Rattle.color.specs.declared.ReducedColor.{ReducedColor}
use Rattle.color.specs.Color.{same_reduced}
use Rattle.color.specs.Oklab.{all_in_range}
use Rattle.conversion.specs.Oklab.{to_oklab}
use Rattle.conversion.specs.Lists.{list_oklab}
use Rattle.conversion.proofs.ListLaws.{list_long, list_ranged}
use Rattle.patterns.specs.Kinds.{is_ordered, is_diffusion}
use Rattle.patterns.specs.Thresholds.{threshold_at}
use Rattle.shortlist.specs.Candidates.{Candidates, RangedList}
use Rattle.shortlist.specs.Nearest.{nearest_of}
use Rattle.shortlist.proofs.NearestLaws.{nearest_inside}
use Rattle.lookup.specs.declared.BracketAt.{BracketAt}
use Rattle.lookup.specs.Bracket.{bracket_at_of, colored, pick_at}
use Rattle.lookup.proofs.BracketLaws.{bracket_inside}
use Rattle.drawing.specs.Drawing.{Among, Drawing, nearest_color, ordered_color, color_at, biased_at, dithered_at, drawn}
use Rattle.drawing.proofs.DrawnLaws.{drawn_dithered}

-- where the scale table holds bytes
pub list_fit : (scale : List ℕ) (reduced : ℕ → ReducedColor) (n : ℕ) → ((k : ℕ) → get_or scale k 0 < 256) → RangedList (list_oklab scale reduced n) n
list_fit scale reduced n bytes = record { long = le_of_eq (sym (list_long scale reduced n)); range = list_ranged scale reduced bytes n }

module _ (cs : Candidates) (some : 0 < cs.count) where
  pub nearest_among : (c : NormalizedColor) → Among cs (nearest_color cs c)
  unfolding nearest_color
  nearest_among c = (nearest_of cs (to_oklab c), nearest_inside cs.oklab cs.count (to_oklab c) some, refl)

  module _ (range : (k : ℕ) → k < cs.count → T (all_in_range (cs.oklab k))) where
    ordered_among : (kind bracket_width x y : ℕ) (c : NormalizedColor) → Among cs (ordered_color cs kind bracket_width x y c)
    unfolding ordered_color colored pick_at
    ordered_among kind bracket_width x y c = go (not (same_reduced (cs.reduced at.dark) (cs.reduced at.light)) && lt (threshold_at kind x y) at.ratio)
      where
        at : BracketAt
        at = bracket_at_of cs bracket_width (to_oklab c) c

        inside : (at.dark < cs.count) × (at.light < cs.count)
        inside = bracket_inside cs bracket_width (to_oklab c) c some range

        go : (t : Bool) → Among cs (cond t (cs.reduced at.light) (cs.reduced at.dark))
        go true = (at.light, inside.1, refl)
        go false = (at.dark, inside.0, refl)

    color_among : (kind bracket_width x y : ℕ) (c : NormalizedColor) → Among cs (color_at cs kind bracket_width x y c)
    unfolding color_at
    color_among kind bracket_width x y c = go (is_ordered kind)
      where
        go : (t : Bool) → Among cs (cond t (ordered_color cs kind bracket_width x y c) (nearest_color cs c))
        go true = ordered_among kind bracket_width x y c
        go false = nearest_among c

-- a pixel that is not skipped chooses a candidate
pub drawn_candidate : (d : Drawing) → 0 < d.candidates.count → ((k : ℕ) → k < d.candidates.count → T (all_in_range (d.candidates.oklab k)))
    → (i : ℕ) → d.skipped i ≡ false → Among d.candidates (drawn d i)
unfolding dithered_at
drawn_candidate d some range i s = subst (Among d.candidates) (sym (drawn_dithered d i s)) (go (is_diffusion d.kind))
  where
    own : ReducedColor
    own = color_at d.candidates d.kind d.bracket_width (d.origin_x + i % d.width) (d.origin_y + i / d.width) (d.source i)

    go : (t : Bool) → Among d.candidates (cond t (nearest_color d.candidates (biased_at d (drawn d) i)) own)
    go true = nearest_among d.candidates some (biased_at d (drawn d) i)
    go false = color_among d.candidates some range d.kind d.bracket_width (d.origin_x + i % d.width) (d.origin_y + i / d.width) (d.source i)
