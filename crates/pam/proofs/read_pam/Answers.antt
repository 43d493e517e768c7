-- `pam::read_pam` meets its contract: a refusal is answered before any store, and an acceptance after the pixels are written. Assumes nothing.
use mathlib.Core.Path.{◌≡◌, refl, ap, ◌∙◌}
use Prim.Native.Nat.{ℕ, ◌*◌, ◌/◌}
use native.Mathlib.Omega.{arith}
use lib.ListN.{length}
use Rattle.lists.specs.Gather.{gather}
use Rattle.replies.proofs.RefusalLaws.{answered_ok, answered_err}
use Rattle.pam.specs.Pam.{pixel_at, read_replies, size_of}
use Rattle.pam.proofs.FileLaws.{found, room_refused, read_granted, pixels_read}
use Rattle.pam.proofs.read_pam.Goals as goal

pub returns-then-pixels-n : goal.returns-then-pixels-n
returns-then-pixels-n c =
    let file = c.args.file.now in
    let pixels = c.args.pixels.now in
    let h = c.in_ok-header.header in
    let known = c.in_ok-header.ensures in
    let f = found file h.size h.depth h.raster.now known.header known.number in
    record {
      answer = answered_err (read_replies file pixels) (size_of file) (room_refused file pixels h.size h.depth h.raster.now known.number f c.if-pixels-n.true);
      picture = refl;
    }

-- the buffer has room for as many pixels as the sides say
pub put_pixels-requires : goal.put_pixels-requires
put_pixels-requires c =
    let h = c.in_ok-header.header in
    let known = c.in_ok-header.ensures in
    let f = found c.args.file.now h.size h.depth h.raster.now known.header known.number in
    let many : h.size.width * h.size.height ≡ length c.args.pixels.now / 4 = omega (arith, c.if-pixels-n.false) in
    (omega (arith, many, f.most), f.samples.0, f.samples.1, f.whole ∙ ap (λ (n : ℕ). h.depth * n) many, omega (arith, many, c.if-pixels-n.false))

pub returns : goal.returns
returns c =
    let file = c.args.file.now in
    let pixels = c.args.pixels.now in
    let h = c.in_ok-header.header in
    let known = c.in_ok-header.ensures in
    let f = found file h.size h.depth h.raster.now known.header known.number in
    let many : length pixels / 4 ≡ h.size.width * h.size.height = omega (arith, c.if-pixels-n.false) in
    record {
      answer = answered_ok (read_replies file pixels) (size_of file)
          (read_granted file pixels h.size h.depth h.raster.now known.number f c.if-pixels-n.false) f.sides;
      picture = c.put_pixels.ensures ∙ ap (λ (n : ℕ). gather n (pixel_at h.depth h.raster.now)) many
          ∙ pixels_read file pixels h.size h.depth h.raster.now known.number f;
    }
