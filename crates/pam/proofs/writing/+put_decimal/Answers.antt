-- `pam::writing::put_decimal` meets its contract: the digits of a tenth are written, and one more behind them. Assumes nothing.
use mathlib.Core.Path.{◌≡◌, sym, ap, ◌∙◌}
use mathlib.Core.List.{List, [], ◌∷◌}
use Prim.Native.Nat.{ℕ, ◌+◌, ◌/◌, ◌%◌, ◌≤◌, ◌<◌}
use native.Mathlib.Omega.{arith}
use lib.ListN.{length, set}
use lib.Seq.{sets, length-sets}
use Rattle.pam.specs.Pam.{decimal}
use Rattle.pam.proofs.DecimalLaws.{decimal_one, decimal-more, decimal_one_long, decimal_more_long}
use Rattle.pam.proofs.PieceLaws.{sets_behind}
use Rattle.pam.proofs.writing.+put_decimal.Goals as goal

-- a digit, and the last of more
one_put : (l : List ℕ) (at n : ℕ) → n < 10 → set l at (48 + n) ≡ sets l at (decimal n)
one_put l at n h = ap (sets l at) (sym (decimal_one n h))

more_put : (l : List ℕ) (at n : ℕ) → 10 ≤ n → n < 10000
    → set (sets l at (decimal (n / 10))) (at + length (decimal (n / 10))) (48 + n % 10) ≡ sets l at (decimal n)
more_put l at n low h = sets_behind l at (decimal (n / 10)) ((48 + n % 10) ∷ []) ∙ ap (sets l at) (sym (decimal-more n low h))

pub put_digit-requires : goal.put_digit-requires
put_digit-requires t c =
    (c.if-n-lt10.true, omega (arith, c.requires.1, decimal_one_long c.args.n c.if-n-lt10.true))

pub returns-then-n-lt10 : goal.returns-then-n-lt10
returns-then-n-lt10 t c =
    let a = c.args in
    let low = c.if-n-lt10.true in (
      c.put_digit.ensures.0 ∙ ap (λ (k : ℕ). a.at + k) (sym (decimal_one_long a.n low)),
      c.put_digit.ensures.1 ∙ one_put a.file.now a.at a.n low,
    )

pub put_decimal-next-requires : goal.put_decimal-next-requires
put_decimal-next-requires t c =
    (omega arith, (omega arith, omega (arith, c.requires.1, decimal_more_long c.args.n c.if-n-lt10.false (omega arith))))

pub put_digit-requires-2 : goal.put_digit-requires-2
put_digit-requires-2 t c =
    let a = c.args in (
      omega arith,
      omega (
        arith,
        c.requires.1,
        c.put_decimal-next.ensures.0,
        decimal_more_long a.n c.if-n-lt10.false (omega arith),
        ap length c.put_decimal-next.ensures.1,
        length-sets a.file.now a.at (decimal (a.n / 10)),
      ),
    )

pub returns : goal.returns
returns t c =
    let a = c.args in
    let high = c.if-n-lt10.false in
    let d = c.put_digit-2.ensures in
    let e = c.put_decimal-next.ensures in
    let n = a.n in
    let small : n < 10000 = omega (arith, c.requires.0) in (
      omega (arith, d.0, e.0, decimal_more_long n high small),
      d.1
          ∙ ap (λ (l : List ℕ). set l c.put_decimal-next.result (48 + n % 10)) e.1
          ∙ ap (λ (k : ℕ). set (sets a.file.now a.at (decimal (n / 10))) k (48 + n % 10)) e.0
          ∙ more_put a.file.now a.at n high small,
    )
