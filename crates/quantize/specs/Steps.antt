-- What the steps of `quantize_pixels` need. Definitions only.
-- Written from document 01, "Bounds and replies".
use Rattle.std.specs.Prelude.{◌*◌, ◌/◌, ◌≤◌, ◌<◌, ◌≡◌, true}
use Rattle.picture.specs.Bounds.{opaque_needed}
use Rattle.patterns.specs.Kinds.{is_diffusion}
use Rattle.mixing.specs.Widths.{is_shift}
use Rattle.quantize.specs.declared.Lengths.{Lengths}
use Rattle.quantize.specs.Quantize.{Commission, size}

-- what an accepted picture has
pub record Fitting (q : Commission) (s : Lengths) : Type 0 where
  pub shift : is_shift q.shift ≡ true
  pub wide : q.width ≤ 4096
  pub high : q.height ≤ 4096
  pub small : size q ≤ 1048576
  pub reduction : s.reduction ≡ 256
  pub scale : s.scale ≡ 256
  pub pixels : s.pixels ≡ 4 * size q
  pub opaque : s.opaque ≡ opaque_needed q.reducing (size q)
  pub indices : s.indices ≡ size q
  pub out : s.out ≡ 4 * size q
  pub cells : is_diffusion q.kind ≡ true → s.cells ≡ 3 * size q
  pub some : 0 < s.palette / 4
  pub few : s.palette / 4 ≤ 256
