-- `exports::color_zero` meets its contract: by the flag. Assumes nothing.
use borrow.Author.Tests.{eq-eqb, ne_eqb}
use Rattle.std.specs.Prelude.{Some}
use Rattle.exports.specs.Pictures.{zero_of}
use Rattle.exports.proofs.color_zero.Goals as goal

pub returns-then-has_zero-eq0 : goal.returns-then-has_zero-eq0
unfolding zero_of
returns-then-has_zero-eq0 c = rw (eq-eqb c.args.has_zero 0 c.if-has_zero-eq0.true)

pub returns : goal.returns
unfolding zero_of
returns c = rw (ne_eqb c.args.has_zero 0 c.if-has_zero-eq0.false) (λ i. Some (record { 0 = c.new.ensures i }))
