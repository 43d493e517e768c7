-- `pam::sides::Sides::put_header` meets its contract: five pieces, each behind the other. Assumes nothing.
use mathlib.Core.Path.{sym, ap, ◌∙◌}
use native.Mathlib.Omega.{arith}
use lib.ListN.{length}
use lib.Seq.{sets}
use Rattle.pam.specs.Pam.{decimal}
use Rattle.pam.proofs.PieceLaws.{Begun, begun_none, begun_more}
use Rattle.pam.proofs.WrittenLaws.{to_width, to_height, to_end, header_pieces, header_long}
use Rattle.pam.proofs.sides.Sides.put_header.Goals as goal

pub put-at-requires : goal.put-at-requires
put-at-requires c = omega (arith, c.requires, header_long c.args.self.width c.args.self.height)

pub put_decimal-at-requires : goal.put_decimal-at-requires
put_decimal-at-requires c =
    (omega arith, omega (arith, c.requires, header_long c.args.self.width c.args.self.height, c.put-at.ensures.0))

pub put-at-requires-2 : goal.put-at-requires-2
put-at-requires-2 c =
    omega (arith, c.requires, header_long c.args.self.width c.args.self.height, c.put-at.ensures.0, c.put_decimal-at.ensures.0)

pub put_decimal-at-requires-2 : goal.put_decimal-at-requires-2
put_decimal-at-requires-2 c = (
  omega arith,
  omega (arith, c.requires, header_long c.args.self.width c.args.self.height, c.put-at.ensures.0, c.put_decimal-at.ensures.0, c.put-at-2.ensures.0),
)

pub put-requires : goal.put-requires
put-requires c =
    omega (
      arith,
      c.requires,
      header_long c.args.self.width c.args.self.height,
      c.put-at.ensures.0,
      c.put_decimal-at.ensures.0,
      c.put-at-2.ensures.0,
      c.put_decimal-at-2.ensures.0,
    )

pub returns : goal.returns
returns c =
    let w = c.args.self.width in
    let h = c.args.self.height in
    let file = c.args.file.now in
    let b1 : Begun file to_width c.put-at.result c.put-at.new.file = begun_more (begun_none file) to_width c.put-at.ensures.0 c.put-at.ensures.1 in
    let b2 = begun_more b1 (decimal w) c.put_decimal-at.ensures.0 c.put_decimal-at.ensures.1 in
    let b3 = begun_more b2 to_height c.put-at-2.ensures.0 c.put-at-2.ensures.1 in
    let b4 = begun_more b3 (decimal h) c.put_decimal-at-2.ensures.0 c.put_decimal-at-2.ensures.1 in
    let b5 = begun_more b4 to_end c.put.ensures.0 c.put.ensures.1 in
    (b5.end ∙ ap length (sym (header_pieces w h)), b5.so_far ∙ ap (sets file 0) (sym (header_pieces w h)))
