-- A diffused picture pixel by pixel: how its cells begin, what room they have, what a skipped and a dithered pixel choose and leave behind, and how the
-- cells end. Stated of the pictures that the code draws, for a loop's invariant. Assumes nothing.
use mathlib.Core.Path.{◌≡◌, refl, sym, ap, ◌∙◌, subst}
use mathlib.Core.Bool.{Bool, true, false, not, cond}
use mathlib.Core.List.{List}
use Prim.Native.Nat.{ℕ, zero, suc, ◌+◌, ◌*◌, ◌/◌, ◌%◌, ◌≤◌, ◌<◌}
use native.Mathlib.Nat.{div-add-mod'}
use lib.Dec.{lit<}
use lib.IntN.{ℤ, pos}
use lib.ListN.{length, get_or, replicate}
use Rattle.color.specs.declared.NormalizedColor.{NormalizedColor}
use Rattle.color.specs.declared.ReducedColor.{ReducedColor}
use Rattle.color.specs.Color.{rgba}
use Rattle.color.specs.Tables.{normalize_color}
use Rattle.patterns.specs.declared.Target.{Target}
use Rattle.patterns.specs.Kinds.{is_diffusion, kernel_of}
use Rattle.patterns.proofs.Kernels.{kernel_later, kernel_total}
use Rattle.lookup.specs.declared.Choice.{Choice}
use Rattle.diffusion.specs.Biased.{biased_color}
use Rattle.diffusion.specs.Diffusion.{Picture}
use Rattle.diffusion.specs.Scatter.{sends, scatter, cell_buffer}
use Rattle.diffusion.specs.Sends.{byte_in, residuals_of, Room}
use Rattle.diffusion.proofs.Steps.{step_begin, step_length, step_room, step_biased, step_skipped, step_dithered, step_end}
use Rattle.std.specs.Prelude.{Option}
use Rattle.drawing.specs.declared.Ditherer.{Ditherer}
use Rattle.drawing.specs.Drawing.{Drawing, nearest_color, picture_of, biased_in, biased_at, drawn}
use Rattle.drawing.specs.Lent.{Lent, drawing_of, cells_after}
use Rattle.drawing.specs.Positions.{TakesAt}
use Rattle.drawing.specs.Turns.{Diffused, cells_before, cells_by}
use Rattle.drawing.proofs.DrawnLaws.{drawn_diffused}
use Rattle.drawing.proofs.PositionLaws.{takes_dithered}

-- a normalised byte is an entry of the table, or 0
pub scaled_byte : (scale : List ℕ) → ((v : ℕ) → get_or scale v 0 ≤ 255) → (a : ℕ) (c : ReducedColor) → byte_in a (normalize_color scale c).0 ≤ 255
unfolding normalize_color
scaled_byte scale bytes zero c = bytes c.0.r
scaled_byte scale bytes (suc zero) c = bytes c.0.g
scaled_byte scale bytes (suc (suc a)) c = bytes c.0.b

module _ (d : Drawing) where
  -- the kernel, and the drawn picture
  abbrev k : List Target
  k = kernel_of d.kind

  abbrev p : Picture
  p = picture_of d (drawn d)

  -- the biased colour that the cells give is the definition's
  turn_biased : (i : ℕ) → i < d.width * d.height → biased_color (d.source i) (scatter k p i) i ≡ biased_at d (drawn d) i
  unfolding biased_at
  turn_biased i inside = λ q. record { 0 = rgba (at 0 (lit< tt) q) (at 1 (lit< tt) q) (at 2 (lit< tt) q) (d.source i).0.a }
    where
      at : (a : ℕ) → a < 3 → byte_in a (biased_color (d.source i) (scatter k p i) i).0 ≡ biased_in d (drawn d) a i
      at a A = step_biased k p a i (d.source i) A inside refl

  pub turn_begin : (m : ℕ) (cells : List ℤ) → m ≡ 3 * (d.width * d.height) → cells ≡ replicate m (pos 0) → cells ≡ cells_before d 0
  unfolding cells_before
  turn_begin m cells e z = step_begin k p m cells e z

  pub turn_length : (i : ℕ) (cells : List ℤ) → i ≤ d.width * d.height → cells ≡ cells_before d i → length cells ≡ 3 * (d.width * d.height)
  unfolding cells_before
  turn_length i cells l is = step_length k p i l cells is

  pub turn_skipped : (i : ℕ) (cells : List ℤ) → d.skipped i ≡ true → cells ≡ cells_before d i → cells ≡ cells_before d (i + 1)
  unfolding cells_before
  turn_skipped i cells s is = is ∙ sym (step_skipped k p i (ap not s))

  pub turn_end : is_diffusion d.kind ≡ true → (cells was : List ℤ) → cells ≡ cells_before d (d.width * d.height) → cells ≡ cells_after d was
  unfolding cells_before cells_after
  turn_end diffuses cells was is = step_end k p (kernel_later d.kind) cells is ∙ sym (ap (λ (b : Bool). cond b (cell_buffer k p) was) diffuses)

  pub turn_none : is_diffusion d.kind ≡ false → (was : List ℤ) → was ≡ cells_after d was
  unfolding cells_after
  turn_none not_diffuses was = sym (ap (λ (b : Bool). cond b (cell_buffer k p) was) not_diffuses)

-- ---- the cells before a pixel's turn, by whether the kind diffuses
pub by_yes : (d : Drawing) (was : List ℤ) → is_diffusion d.kind ≡ true → (i : ℕ) → cells_before d i ≡ cells_by d was i
unfolding cells_by
by_yes d was e i = sym (ap (λ (b : Bool). cond b (cells_before d i) was) e)

pub by_no : (d : Drawing) (was : List ℤ) → is_diffusion d.kind ≡ false → (i : ℕ) → was ≡ cells_by d was i
unfolding cells_by
by_no d was e i = sym (ap (λ (b : Bool). cond b (cells_before d i) was) e)

module _ (d : Drawing) where
  -- at the end they are what is left after the picture
  pub by_end : (was : List ℤ) → cells_by d was (d.width * d.height) ≡ cells_after d was
  by_end was = go (is_diffusion d.kind) refl
    where
      go : (b : Bool) → is_diffusion d.kind ≡ b → cells_by d was (d.width * d.height) ≡ cells_after d was
      go true e = turn_end d e _ was (sym (by_yes d was e (d.width * d.height)))
      go false e = sym (by_no d was e (d.width * d.height)) ∙ turn_none d e was

  -- a skipped pixel leaves them
  pub by_skipped : (i : ℕ) (cells : List ℤ) → d.skipped i ≡ true → cells ≡ cells_by d cells i → cells ≡ cells_by d cells (i + 1)
  by_skipped i cells s is = go (is_diffusion d.kind) refl
    where
      go : (b : Bool) → is_diffusion d.kind ≡ b → cells ≡ cells_by d cells (i + 1)
      go true e = turn_skipped d i cells s (is ∙ sym (by_yes d cells e i)) ∙ by_yes d cells e (i + 1)
      go false e = by_no d cells e (i + 1)

  module _ (was : List ℤ) (i : ℕ) (cells : List ℤ) (is : cells ≡ cells_by d was i) where
    -- they are so whatever was lent
    pub by_again : cells ≡ cells_by d cells i
    by_again = go (is_diffusion d.kind) refl
      where
        go : (b : Bool) → is_diffusion d.kind ≡ b → cells ≡ cells_by d cells i
        go true e = is ∙ sym (by_yes d was e i) ∙ by_yes d cells e i
        go false e = by_no d cells e i

    -- and those of a later turn too
    pub by_more : (j : ℕ) (next : List ℤ) → next ≡ cells_by d cells j → next ≡ cells_by d was j
    by_more j next step = go (is_diffusion d.kind) refl
      where
        go : (b : Bool) → is_diffusion d.kind ≡ b → next ≡ cells_by d was j
        go true e = step ∙ sym (by_yes d cells e j) ∙ by_yes d was e j
        go false e = step ∙ sym (by_no d cells e j) ∙ is ∙ sym (by_no d was e i) ∙ by_no d was e j

module _ (t : Ditherer) (zero : Option ReducedColor) (l : Lent) where
  abbrev d : Drawing
  d = drawing_of t zero l

  abbrev before : ℕ → List ℤ
  before i = scatter (kernel_of t.kind) (picture_of d (drawn d)) i

  -- the buffer at that turn is `scatter`'s
  turn_scattered : (i : ℕ) (cells : List ℤ) → cells ≡ cells_before d i → cells ≡ before i
  unfolding cells_before
  turn_scattered i cells is = is

  pub turn_room : ((v : ℕ) → get_or l.scale v 0 ≤ 255) → (i : ℕ) (cells : List ℤ) → i ≤ t.width * t.height
      → cells ≡ cells_before d i → Room (kernel_of t.kind) t.width t.height i cells
  unfolding cells_before
  turn_room bytes i cells h is =
      step_room (kernel_of t.kind) (picture_of d (drawn d)) i h cells is (kernel_total t.kind) (λ a j A. scaled_byte l.scale bytes a (drawn d j))

  -- a dithered pixel: what it chose, and the cells that it left
  module _ (i : ℕ) (inside : i < t.width * t.height) (dithers : d.skipped i ≡ false) (diffuses : is_diffusion t.kind ≡ true)
      (color : NormalizedColor) (own : color ≡ d.source i)
      (c : Choice) (was cells : List ℤ) (at_turn : was ≡ cells_before d i) (left : Diffused t d.candidates l.scale was i color c cells) where
    made : Diffused t d.candidates l.scale (before i) i color c cells
    made = subst (λ (was : List ℤ). Diffused t d.candidates l.scale was i color c cells) (turn_scattered i was at_turn) left

    nearest_drawn : nearest_color d.candidates (biased_color color (before i) i) ≡ drawn d i
    nearest_drawn =
        ap (λ (x : NormalizedColor). nearest_color d.candidates (biased_color x (before i) i)) own
        ∙ ap (nearest_color d.candidates) (turn_biased d i inside)
        ∙ sym (drawn_diffused d i dithers diffuses)

    pub turn_choice : TakesAt d i c
    turn_choice = takes_dithered d i c _ dithers nearest_drawn made.choice

    pub turn_passed : cells ≡ cells_before d (i + 1)
    unfolding cells_before
    turn_passed =
        step_dithered k' (picture_of d (drawn d)) i (i % t.width) (i / t.width) color (normalize_color l.scale c.color) cells (div-add-mod' i t.width)
        (ap not dithers)
        (λ a A. ap (λ (x : NormalizedColor). byte_in a x.0) (sym own))
        (λ a A. ap (λ (x : ReducedColor). byte_in a (normalize_color l.scale x).0) (sym turn_choice.color))
        (made.passed ∙ ap passed_to (sym (div-add-mod' i t.width)))
      where
        k' : List Target
        k' = kernel_of t.kind

        -- the cells, where the residual is passed on from pixel j
        passed_to : ℕ → List ℤ
        passed_to j =
            sends (before i) (residuals_of (biased_color color (before i) i).0 (normalize_color l.scale c.color).0) k' t.width t.height j
