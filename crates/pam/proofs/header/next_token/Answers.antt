-- `pam::header::next_token` meets its contract. Assumes nothing.
use mathlib.Core.Path.{sym, ap, ◌∙◌}
use Prim.Native.Nat.{ℕ}
use lib.ListN.{length}
use Rattle.std.specs.Prelude.{Option}
use Rattle.std.specs.Option.{unwrap_or}
use Rattle.pam.proofs.TextLaws.{onward}
use Rattle.pam.proofs.TokenLaws.{no_token_left, next_token_is}
use Rattle.pam.proofs.header.next_token.Goals as goal

pub returns-in_err-start : goal.returns-in_err-start
returns-in_err-start c = rw c.from_residual.ensures (no_token_left c.args.line.now (sym c.token_in.ensures ∙ c.in_err-start.was))

pub returns : goal.returns
returns c =
    let start = c.in_ok-start.start in
    rw (c.split_at.ensures.front, c.split_at.ensures.back)
    (next_token_is c.args.line.now start c.unwrap_or-size.result (sym c.token_in.ensures ∙ c.in_ok-start.was)
    (c.unwrap_or-size.ensures ∙ ap (λ (o : Option ℕ). unwrap_or o (length (onward start c.args.line.now))) c.white_in.ensures))
