-- The four calls of `pam` leave one result each: one answer, and one content of the buffer; and the answer's number is that of the first reply that applies.
-- Assumes nothing.
use mathlib.Core.Path.{◌≡◌, sym, ◌∙◌, ap}
use mathlib.Core.List.{List}
use Prim.Native.Nat.{ℕ}
use Rattle.std.specs.Prelude.{Result}
use Rattle.replies.specs.Replies.{FirstReply, after}
use Rattle.replies.specs.Unique.{Unique}
use Rattle.replies.specs.Refusals.{number_of, answer}
use Rattle.replies.specs.declared.Refusal.{Refusal}
use Rattle.replies.proofs.AnswerLaws.{answers_only, answers_first}
use Rattle.pam.specs.declared.Size.{Size}
use Rattle.pam.specs.Pam.{pixels_of, pam_of, pam_length, size_replies, read_replies, length_replies, write_replies, size_of}
use Rattle.pam.specs.Pam.{PamSized, PamRead, PamMeasured, PamWritten}

-- ---- `pam_size`
pub pam_size_unique : (file : List ℕ) → Unique (λ (r : Result Size Refusal). PamSized file r)
pam_size_unique file = answers_only number_of (size_replies file) (answer (size_of file))

pub size_first : (file : List ℕ) {r : Result Size Refusal} → PamSized file r → FirstReply (size_replies file) (number_of r)
size_first file p = answers_first number_of (size_replies file) (answer (size_of file)) tt p

-- ---- `read_pam`: an answer, and what the pixels hold
module _ (file pixels₀ : List ℕ) where
  pub read_pam_unique : Unique (λ (x : Result Size Refusal × List ℕ). PamRead file pixels₀ x.0 x.1)
  read_pam_unique x y a b =
      let e : x.0 ≡ y.0 = answers_only number_of (read_replies file pixels₀) (answer (size_of file)) x.0 y.0 a.answer b.answer in
      let pixels : x.1 ≡ y.1 = a.picture ∙ ap (λ (r : Result Size Refusal). after (number_of r) (pixels_of file) pixels₀) e ∙ sym b.picture in
      λ t. (e t, pixels t)

  pub read_first : {r : Result Size Refusal} {pixels : List ℕ} → PamRead file pixels₀ r pixels → FirstReply (read_replies file pixels₀) (number_of r)
  read_first p = answers_first number_of (read_replies file pixels₀) (answer (size_of file)) tt p.answer

-- ---- `pam_length`
module _ (width height : ℕ) where
  pub pam_length_unique : Unique (λ (r : Result ℕ Refusal). PamMeasured width height r)
  pam_length_unique = answers_only number_of (length_replies width height) (answer (pam_length width height))

  pub length_first : {r : Result ℕ Refusal} → PamMeasured width height r → FirstReply (length_replies width height) (number_of r)
  length_first p = answers_first number_of (length_replies width height) (answer (pam_length width height)) tt p

-- ---- `write_pam`: an answer, and what the file's buffer holds
module _ (width height : ℕ) (pixels file₀ : List ℕ) where
  abbrev Told : Type 0
  Told = Result (Unit {0}) Refusal

  pub write_pam_unique : Unique (λ (x : Told × List ℕ). PamWritten width height pixels file₀ x.0 x.1)
  write_pam_unique x y a b =
      let e : x.0 ≡ y.0 = answers_only number_of (write_replies width height pixels file₀) (answer tt) x.0 y.0 a.answer b.answer in
      let file : x.1 ≡ y.1 = a.whole ∙ ap (λ (r : Told). after (number_of r) (pam_of width height pixels) file₀) e ∙ sym b.whole in
      λ t. (e t, file t)

  pub write_first : {r : Told} {file : List ℕ} → PamWritten width height pixels file₀ r file
      → FirstReply (write_replies width height pixels file₀) (number_of r)
  write_first p = answers_first number_of (write_replies width height pixels file₀) (answer tt) tt p.answer
