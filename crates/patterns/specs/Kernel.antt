-- Kernels of error diffusion, and where a pixel's sends arrive. Definitions only.
-- Written from document 01, "Diffusion runs row by row, left to right": which pixels get how many sixteenths, in the source's order of
-- targets, and "Targets outside the picture are dropped".
use Rattle.std.specs.Prelude.{ℕ, ◌+◌, ◌*◌, ◌/◌, ◌%◌, Bool, true, false, cond, ◌&&◌, ◌||◌, List, [], ◌∷◌, ltb, leb, ℤ, pos, negsuc, nat_abs, ◌+ℤ◌}
use Rattle.patterns.specs.declared.Target.{Target}

-- a target: columns to the right, rows down, and the weight, in sixteenths of the residual
abbrev pub target : ℤ → ℕ → ℕ → Target
target x y w = record { dx = x; dy = y; weight = w }

-- "2 each to (1,0), (2,0), (-1,1), (0,1), (1,1), (0,2)"
abbrev pub atkinson : List Target
atkinson =
    target (pos 1) 0 2
    ∷ target (pos 2) 0 2
    ∷ target (negsuc 0) 1 2
    ∷ target (pos 0) 1 2
    ∷ target (pos 1) 1 2
    ∷ target (pos 0) 2 2
    ∷ []

-- "7 to (1,0), 3 to (-1,1), 5 to (0,1), 1 to (1,1)"
abbrev pub floyd_steinberg : List Target
floyd_steinberg = target (pos 1) 0 7 ∷ target (negsuc 0) 1 3 ∷ target (pos 0) 1 5 ∷ target (pos 1) 1 1 ∷ []

-- what a kernel passes on of sixteen sixteenths: the sum of its weights
unfoldable pub total : List Target → ℕ
total [] = 0
total (t ∷ k) = t.weight + total k

-- above 0
unfoldable pub positive : ℤ → Bool
positive (pos n) = ltb 0 n
positive (negsuc n) = false

-- the target comes later in the scan: in a lower row, or further right in the same one
unfoldable pub comes_later : Target → Bool
comes_later t = ltb 0 t.dy || positive t.dx

-- each target of the kernel does (proofs/Kernels)
unfoldable pub later : List Target → Bool
later [] = true
later (t ∷ k) = comes_later t && later k

-- where a send arrives: at a pixel, numbered row by row from 0, or past an edge
pub data Place : Type 0 where
  pixel : ℕ → Place
  outside : Place

-- column x, row y of a picture of width w and height h
unfoldable pub place : ℕ → ℕ → ℤ → ℕ → Place
place w h (pos x) y = cond (ltb x w && ltb y h) (pixel (y * w + x)) outside
place w h (negsuc x) y = outside

-- the place of a target of the pixel i
unfoldable pub landing : ℕ → ℕ → ℕ → Target → Place
landing w h i t = place w h (pos (i % w) +ℤ t.dx) (i / w + t.dy)

-- a target at most 16 columns and rows away
abbrev pub near : Target → Bool
near t = leb (nat_abs t.dx) 16 && leb t.dy 16

-- each target of the kernel is
unfoldable pub all_near : List Target → Bool
all_near [] = true
all_near (t ∷ k) = near t && all_near k

-- each target of the kernel has a weight
unfoldable pub weighted : List Target → Bool
weighted [] = true
weighted (t ∷ k) = ltb 0 t.weight && weighted k
