-- `exports::badge_write_pam` meets its contract: the answer's number is handed over, with the file. Assumes nothing.
use mathlib.Core.Path.{ap, ◌∙◌}
use Prim.Native.Nat.{ℕ}
use Rattle.replies.specs.Replies.{after}
use Rattle.pam.specs.Pam.{pam_of}
use Rattle.exports.proofs.badge_write_pam.Goals as goal

pub returns : goal.returns
returns c =
    let a = c.args in
    let h = c.write_pam.ensures in
    let n = c.replied.ensures ∙ h.answer.number in
    let p = h.whole ∙ ap (λ (n : ℕ). after n (pam_of a.width a.height a.pixels.now) a.file.now) h.answer.number in
    λ i. (n i, p i)
