-- What the code's choices are, from what the functions that it calls answer: the nearest, what is picked of a bracket, a diffused pixel, a plain one;
-- what is lent for a whole picture is what a pixel's choice needs; and what a skipped pixel keeps. Stated over plain parameters. Assumes nothing.
use mathlib.Core.Path.{◌≡◌, refl, sym, ap, ◌∙◌, subst}
use mathlib.Core.Bool.{Bool, true, false, true≢false}
use borrow.Author.Tests.{not-true, not-false}
use lib.ListN.{length}
use mathlib.Core.List.{List}
use Prim.Native.Nat.{ℕ, ◌+◌, ◌*◌, ◌/◌, ◌%◌, ◌<◌}
use native.Mathlib.Nat.{div-add-mod'}
use native.Mathlib.Omega.{arith}
use lib.Dec.{T}
use lib.IntN.{ℤ}
use lib.Ieee.{Float}
use Rattle.color.specs.declared.Rgba8888.{Rgba8888}
use Rattle.color.specs.declared.NormalizedColor.{NormalizedColor}
use Rattle.color.specs.declared.ReducedColor.{ReducedColor}
use Rattle.color.specs.Color.{rgba_at, is_transparent, transparent_reduced}
use Rattle.color.specs.Tables.{normalize_color}
use Rattle.color.specs.Oklab.{all_in_range, oklab_at}
use Rattle.conversion.specs.Oklab.{to_oklab}
use Rattle.reducing.specs.Reduce.{least_alpha}
use Rattle.picture.specs.Pixels.{source_at, basis, is_seen, seen_from}
use Rattle.picture.proofs.BoundLaws.{basis_long}
use Rattle.picture.proofs.PixelLaws.{seen_from_lem, unseen_kept}
use Rattle.patterns.specs.Kinds.{Way, plain, ordered, diffused, retired, none, way_of, has_matrix, has_kernel, is_ordered, is_diffusion, kernel_of}
use Rattle.patterns.specs.Thresholds.{threshold_at}
use Rattle.shortlist.specs.Candidates.{Candidates, scaled, RangedList}
use Rattle.shortlist.specs.Nearest.{nearest_in}
use Rattle.lookup.specs.declared.BracketAt.{BracketAt}
use Rattle.lookup.specs.declared.Bracket.{Bracket}
use Rattle.lookup.specs.declared.Choice.{Choice}
use Rattle.lookup.specs.Bracket.{bracket_at_of, colored, choice_at}
use Rattle.lookup.specs.Positions.{Takes}
use Rattle.lookup.proofs.PositionLaws.{nearest_taken, picked_taken}
use Rattle.diffusion.specs.Biased.{biased_color}
use Rattle.diffusion.specs.Scatter.{sends}
use Rattle.diffusion.specs.Sends.{residuals_of}
use Rattle.std.specs.Prelude.{Option, Some, None}
use Rattle.drawing.specs.declared.Ditherer.{Ditherer}
use Rattle.drawing.specs.Drawing.{nearest_color, ordered_color, color_at}
use Rattle.drawing.specs.Lent.{is_zero, is_skipped, Lent, reduced_lent, candidates_lent, drawing_of, Ready}
use Rattle.lookup.specs.declared.Two.{Two}
use Rattle.remembered.specs.declared.Memory.{Memory}
use Rattle.remembered.specs.Table.{TableOf}
use Rattle.remembered.specs.Shorts.{RowsOf}
use Rattle.drawing.specs.Turns.{KeepsZero, Inside, Diffused, RemembersBy, Remembers}
use Rattle.drawing.specs.Positions.{TakesAt}
use Rattle.drawing.proofs.DrawnLaws.{drawn_plain}
use Rattle.drawing.proofs.PositionLaws.{takes_dithered}

pub nearest_is : (colors scale : List ℕ) (oklab : List Float) (n : ℕ) → 0 < n → RangedList oklab n → (k : ℕ) (r : Rgba8888) (c : NormalizedColor)
    → k ≡ nearest_in (oklab_at oklab) n (to_oklab c) → r ≡ rgba_at colors k
    → let cs = scaled colors scale oklab n in Takes cs (nearest_color cs c) (record { color = record { 0 = r }; position = k })
unfolding nearest_color
nearest_is colors scale oklab n some ranged k r c near read =
    let e : r ≡ rgba_at colors (nearest_in (oklab_at oklab) n (to_oklab c)) = read ∙ ap (rgba_at colors) near in
    nearest_taken (scaled colors scale oklab n) some ranged.range (to_oklab c) _ (λ q. record { 0 = e q }) near

-- a kind that diffuses error has no matrix
pub diffusion_plain : (k : ℕ) → is_diffusion k ≡ true → is_ordered k ≡ false
unfolding is_diffusion is_ordered
diffusion_plain k e = go (way_of k) e
  where
    go : (w : Way) → has_kernel w ≡ true → has_matrix w ≡ false
    go plain e = refl
    go (ordered m n) e = absurd (true≢false (sym e))
    go (diffused k h) e = refl
    go retired e = refl
    go none e = refl

-- what is remembered, by the kind
module _ (t : Ditherer) (cs : Candidates) (memory : Memory) where
  pub remembers_as : (b : Bool) → is_ordered t.kind ≡ b → Remembers t cs memory → RemembersBy b cs t.bracket_width memory
  remembers_as b e = subst (λ (x : Bool). RemembersBy x cs t.bracket_width memory) e

  pub remembers_of : (b : Bool) → is_ordered t.kind ≡ b → RemembersBy b cs t.bracket_width memory → Remembers t cs memory
  remembers_of b e = subst (λ (x : Bool). RemembersBy x cs t.bracket_width memory) (sym e)

-- where all is remembered of nothing, what is remembered is right
pub remembers_none : (t : Ditherer) (cs : Candidates) (memory : Memory) → ((f : NormalizedColor → Two) → TableOf f memory)
    → ((g : ℕ → List ℕ) → RowsOf g memory) → Remembers t cs memory
remembers_none t cs memory table rows = go (is_ordered t.kind)
  where
    go : (b : Bool) → RemembersBy b cs t.bracket_width memory
    go true = record { pairs = table _; shorts = rows _ }
    go false = table _

module _ (cs : Candidates) (width : ℕ) (c : NormalizedColor) (at : BracketAt) (made : at ≡ bracket_at_of cs width (to_oklab c) c) where
  pub ordered_is : 0 < cs.count → ((k : ℕ) → k < cs.count → T (all_in_range (cs.oklab k)))
      → (kind x y x' y' : ℕ) (bracket : Bracket) (threshold : Float) (r : Choice) → bracket ≡ colored cs.reduced at
      → x ≡ x' → y ≡ y' → threshold ≡ threshold_at kind x y → r ≡ choice_at bracket threshold → Takes cs (ordered_color cs kind width x' y' c) r
  unfolding ordered_color
  ordered_is some range kind x y x' y' bracket threshold r read X Y found picked =
      let b : bracket ≡ colored cs.reduced (bracket_at_of cs width (to_oklab c) c) = read ∙ ap (colored cs.reduced) made in
      let t : threshold ≡ threshold_at kind x' y' = found ∙ (λ q. threshold_at kind (X q) (Y q)) in
      picked_taken cs some range width (to_oklab c) c (threshold_at kind x' y') r (picked ∙ (λ q. choice_at (b q) (t q)))

pub diffused_is : (t : Ditherer) (cs : Candidates) (scale : List ℕ) (was : List ℤ) (i : ℕ) (color biased normalized : NormalizedColor) (c : Choice)
    (x y : ℕ) (cells : List ℤ)
    → biased ≡ biased_color color was i → Takes cs (nearest_color cs biased) c → normalized ≡ normalize_color scale c.color → x ≡ i % t.width
    → y ≡ i / t.width
    → cells ≡ sends was (residuals_of biased.0 normalized.0) (kernel_of t.kind) t.width t.height (y * t.width + x)
    → Diffused t cs scale was i color c cells
diffused_is t cs scale was i color biased normalized c x y cells B C N X Y passed =
    let at : y * t.width + x ≡ i = (λ q. Y q * t.width + X q) ∙ div-add-mod' i t.width in
    record {
      choice = subst (λ (o : NormalizedColor). Takes cs (nearest_color cs o) c) B C;
      passed = passed ∙ (λ q. sends was (residuals_of (B q).0 (N q).0) (kernel_of t.kind) t.width t.height (at q));
    }

-- a pixel that is not skipped, where no error is diffused
module _ (t : Ditherer) (zero : Option ReducedColor) (l : Lent) (i : ℕ) where
  -- what is chosen for a colour in the pixel's column and row
  abbrev here : NormalizedColor → ReducedColor
  here = color_at (candidates_lent l) t.kind t.bracket_width (t.origin_x + i % t.width) (t.origin_y + i / t.width)

  pub plain_is : (color : NormalizedColor) (c : Choice) → is_skipped zero (reduced_lent l i) ≡ false → is_diffusion t.kind ≡ false
      → color ≡ source_at l.pixels i → Takes (candidates_lent l) (here color) c → TakesAt (drawing_of t zero l) i c
  plain_is color c s k own chosen =
      takes_dithered (drawing_of t zero l) i c (here color) s (ap here own ∙ sym (drawn_plain (drawing_of t zero l) i s k)) chosen

module _ {t : Ditherer} {zero : Option ReducedColor} {l : Lent} (ready : Ready t zero l) (i : ℕ) (inside : i < t.width * t.height) where
  -- what is asked of the lengths
  pub lent_inside : (4 * i + 3 < length l.pixels) × (4 * i + 3 < length (basis l.reducing l.pixels l.opaque))
  lent_inside =
      let long = basis_long l.reducing l.pixels l.opaque (t.width * t.height) ready.pixels ready.opaque in
      (omega (arith, ready.pixels), omega (arith, long))

  pub placed : Inside t i
  placed = record { inside = inside; wide = ready.wide; high = ready.high; across = ready.across; down = ready.down }

-- ---- what a skipped pixel keeps
module _ (l : Lent) (i : ℕ) where
  -- whether a pixel is seen, as the code asks; where it is not, its reduced colour is TRANSPARENT
  pub seen_as : {r t : Bool} → r ≡ seen_from (least_alpha l.reducing) l.pixels i → r ≡ t → is_seen (reduced_lent l) i ≡ t
  seen_as asked told = (λ q. sym (seen_from_lem l.reducing l.reduction l.pixels l.opaque) q i) ∙ sym asked ∙ told

  pub unseen_own : is_seen (reduced_lent l) i ≡ false → transparent_reduced ≡ reduced_lent l i
  unseen_own e =
      sym (unseen_kept l.reducing l.reduction l.pixels l.opaque i ((λ q. seen_from_lem l.reducing l.reduction l.pixels l.opaque q i) ∙ e))

-- a pixel that is not seen is skipped, and of one that is colour zero says whether it is
pub unseen_skipped : (zero : Option ReducedColor) (reduced : ℕ → ReducedColor) (i : ℕ) → is_seen reduced i ≡ false → is_skipped zero (reduced i) ≡ true
unfolding is_skipped is_seen
unseen_skipped zero reduced i e = let t : is_transparent (reduced i).0 ≡ true = not-false _ e in rw t

pub seen_skipped : (zero : Option ReducedColor) (reduced : ℕ → ReducedColor) (i : ℕ) {u : Bool} → is_seen reduced i ≡ true → is_zero zero (reduced i) ≡ u
    → is_skipped zero (reduced i) ≡ u
unfolding is_skipped is_seen
seen_skipped zero reduced i e z = let t : is_transparent (reduced i).0 ≡ false = not-true _ e in rw t z

-- what is kept by colour zero, by what was answered
pub kept_case : (zero : Option ReducedColor) (c : ReducedColor) {r : Option ReducedColor} {own : ReducedColor} → KeepsZero zero c r → r ≡ Some own
    → (is_zero zero c ≡ true) × (own ≡ c)
kept_case zero c k e = subst (KeepsZero zero c) e k

pub unkept : (zero : Option ReducedColor) (c : ReducedColor) {r : Option ReducedColor} → KeepsZero zero c r → r ≡ None → is_zero zero c ≡ false
unkept zero c k e = subst (KeepsZero zero c) e k
