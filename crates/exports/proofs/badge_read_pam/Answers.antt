-- `exports::badge_read_pam` meets its contract: the answer's size is handed over, with the pixels. Assumes nothing.
use mathlib.Core.Path.{ap, ◌∙◌}
use Prim.Native.Nat.{ℕ}
use Rattle.replies.specs.Replies.{after}
use Rattle.pam.specs.Pam.{pixels_of}
use Rattle.exports.proofs.AnswerLaws.{size_after}
use Rattle.exports.proofs.badge_read_pam.Goals as goal

pub returns : goal.returns
returns c =
    let a = c.args in
    let h = c.read_pam.ensures in
    let s = c.handed_size.ensures ∙ size_after a.width.now a.height.now h.answer in
    let p = h.picture ∙ ap (λ (n : ℕ). after n (pixels_of a.file.now) a.pixels.now) h.answer.number in
    λ i. ((s i).0, p i, (s i).1, (s i).2)
