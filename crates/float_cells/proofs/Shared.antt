-- What both calls need: replies that differ in one row, and the bytes that are made of a picture's choices, where the choices are the same. Assumes nothing.
use mathlib.Core.Path.{◌≡◌, refl, sym, ap}
use mathlib.Core.Bool.{Bool, true, false, cond}
use mathlib.Core.List.{List, [], ◌∷◌, ◌++◌}
use Prim.Native.Nat.{ℕ, ◌*◌, ◌<◌}
use Rattle.replies.specs.Replies.{Reply, ◌if◌, first_reply}
use Rattle.lists.proofs.GatherLaws.{gather_same}
use Rattle.color.specs.declared.ReducedColor.{ReducedColor}
use Rattle.color.specs.Color.{bytes_of}
use Rattle.picture.specs.Pixels.{is_seen}
use Rattle.drawing.specs.Drawing.{Drawing, drawn}
use Rattle.drawing.specs.Finished.{finished, finished_bytes}
use Rattle.quantize.specs.Quantize.{index_for, index_bytes}
use Rattle.float_cells.specs.Drawn.{drawn_f}

-- ---- replies that differ in one row
pub row_changed : (front : List Reply) (n : ℕ) (a b : Bool) (behind : List Reply) → (first_reply (front ++ n if a ∷ behind) ≡ n → ⊥)
    → (first_reply (front ++ n if b ∷ behind) ≡ n → ⊥) → first_reply (front ++ n if a ∷ behind) ≡ first_reply (front ++ n if b ∷ behind)
row_changed [] n true b behind h k = absurd (h refl)
row_changed [] n false true behind h k = absurd (k refl)
row_changed [] n false false behind h k = refl
row_changed (x ∷ front) n a b behind h k = go (row_changed front n a b behind) x.applies h k
  where
    rest : Bool → ℕ
    rest c = first_reply (front ++ n if c ∷ behind)

    go : ((rest a ≡ n → ⊥) → (rest b ≡ n → ⊥) → rest a ≡ rest b) → (t : Bool) → (cond t x.number (rest a) ≡ n → ⊥)
        → (cond t x.number (rest b) ≡ n → ⊥) → cond t x.number (rest a) ≡ cond t x.number (rest b)
    go others true h k = refl
    go others false h k = others h k

-- ---- what becomes of a picture's choices
module _ (d : Drawing) (same : (i : ℕ) → i < d.width * d.height → drawn_f d i ≡ drawn d i) where
  pub finished_same : finished_bytes d.normalize (is_seen d.reduced) (drawn d) (d.width * d.height)
      ≡ finished_bytes d.normalize (is_seen d.reduced) (drawn_f d) (d.width * d.height)
  unfolding finished_bytes
  finished_same =
      gather_same (d.width * d.height) (λ i h. ap (λ (c : ReducedColor). bytes_of (finished d.normalize (is_seen d.reduced i) c).0) (sym (same i h)))

  pub index_same : (palette : List ℕ) (n : ℕ)
      → index_bytes palette n d.reduced (drawn d) (d.width * d.height) ≡ index_bytes palette n d.reduced (drawn_f d) (d.width * d.height)
  unfolding index_bytes
  index_same palette n =
      gather_same (d.width * d.height) (λ i h q. index_for palette n (is_seen d.reduced i) (sym (same i h) q) ∷ [])
