-- The picture that the original's f32 cells draw, and those cells. Definitions only.
-- Written from `Ditherer` of src/dither.rs; what a pixel chooses where no error is diffused, and what a skipped pixel keeps, is `drawing`'s.
use Rattle.std.specs.Prelude.{ℕ, ◌+◌, ◌*◌, ◌/◌, ◌%◌, ◌≤◌, cond, not, List, get_or, Float}
use Rattle.color.specs.declared.ReducedColor.{ReducedColor}
use Rattle.color.specs.Color.{rgba}
use Rattle.patterns.specs.Kinds.{is_diffusion, kernel_of}
use Rattle.diffusion.specs.Sends.{byte_in}
use Rattle.drawing.specs.Drawing.{Drawing, nearest_color, color_at}
use Rattle.float_cells.specs.Scan.{Scene, error_after, chosen_f}

-- a drawing as a scene: a pixel chooses the candidate nearest to its biased colour
abbrev pub scene_of : Drawing → Scene ReducedColor
scene_of d = record {
  width = d.width;
  height = d.height;
  dithered = λ i. not (d.skipped i);
  source = λ a i. byte_in a (d.source i).0;
  rule = λ i r g b. nearest_color d.candidates (record { 0 = rgba r g b (d.source i).0.a });
  bytes = λ a c. byte_in a (d.normalize c).0;
}

-- what pixel i chooses
unfoldable pub drawn_f : Drawing → ℕ → ReducedColor
drawn_f d i =
    cond (d.skipped i) (d.reduced i)
    (cond (is_diffusion d.kind) (chosen_f (scene_of d) (kernel_of d.kind) i)
    (color_at d.candidates d.kind d.bracket_width (d.origin_x + i % d.width) (d.origin_y + i / d.width) (d.source i)))

-- the cells after a picture is drawn: those of a diffusion kind, and otherwise what was lent
unfoldable pub error_f : Drawing → List Float → List Float
error_f d was = cond (is_diffusion d.kind) (error_after (scene_of d) (kernel_of d.kind) (d.width * d.height)) was

-- a lent list holds bytes
abbrev pub Bytes : List ℕ → Type 0
Bytes xs = (i : ℕ) → get_or xs i 0 ≤ 255
