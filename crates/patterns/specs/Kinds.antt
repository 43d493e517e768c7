-- The eleven kinds of dithering by number, and how each of them dithers or that it is retired. Definitions only.
-- Written from document 01: "Dither kinds are numbered 0 to 10 in the source's order"; "n being 4, 16, 64 for Bayer, 2 for checker and
-- lines"; the diffusion paragraph, for the kernels; "Atkinson's held-back weight of 4"; and "Bounds and replies", for the error cells. And from
-- document 02, Ask 9: "Kinds 5 and 6 are retired and never given to another kind", "The other kinds keep their numbers".
use Rattle.std.specs.Prelude.{ℕ, ◌*◌, Bool, true, false, cond, List, [], ◌∷◌, map, get_or, Option, Some, None}
use Rattle.patterns.specs.declared.Dither.{Dither}
use Rattle.patterns.specs.declared.Dither.TheVariants.{Off, Bayer2x2, Bayer4x4, Bayer8x8, Checker}
use Rattle.patterns.specs.declared.Dither.TheVariants.{StippleV, StippleH, LineV, LineH, Atkinson, FloydSteinberg}
use Rattle.patterns.specs.Matrices.{bayer2x2, bayer4x4, bayer8x8, checker, line_v, line_h}
use Rattle.patterns.specs.declared.Target.{Target}
use Rattle.patterns.specs.Kernel.{atkinson, floyd_steinberg}

-- the kinds in the source's order: a kind's number is its place here, a retired kind's too
abbrev pub kinds : List Dither
kinds = Off ∷ Bayer2x2 ∷ Bayer4x4 ∷ Bayer8x8 ∷ Checker ∷ StippleV ∷ StippleH ∷ LineV ∷ LineH ∷ Atkinson ∷ FloydSteinberg ∷ []

-- the kind with a number
unfoldable pub kind_of : ℕ → Option Dither
kind_of k = get_or (map Some kinds) k None

-- how a kind dithers: not at all, by a matrix and its n, or by a kernel and the sixteenths of a residual that it holds back; or it is retired, and
-- nothing is drawn by it; where there is no kind, there is no way
pub data Way : Type 0 where
  plain : Way
  ordered : List (List ℕ) → ℕ → Way
  diffused : List Target → ℕ → Way
  retired : Way
  none : Way

-- the table: which matrix and which n a kind has, or which kernel and how much it holds back (with the kernel's weights that is all sixteen
-- sixteenths: proofs/Kernels), or that it is retired
abbrev pub way : Dither → Way
way Off = plain
way Bayer2x2 = ordered bayer2x2 4
way Bayer4x4 = ordered bayer4x4 16
way Bayer8x8 = ordered bayer8x8 64
way Checker = ordered checker 2
way StippleV = retired
way StippleH = retired
way LineV = ordered line_v 2
way LineH = ordered line_h 2
way Atkinson = diffused atkinson 4
way FloydSteinberg = diffused floyd_steinberg 0

-- the same of what a number stands for
abbrev pub way_in : Option Dither → Way
way_in (Some d) = way d
way_in None = none

-- how the kind with a number dithers
unfoldable pub way_of : ℕ → Way
way_of k = way_in (kind_of k)

-- ---- what is asked of a way
-- it is some kind's: a retired kind is one
abbrev pub is_way : Way → Bool
is_way plain = true
is_way (ordered m n) = true
is_way (diffused k h) = true
is_way retired = true
is_way none = false

-- it is a retired kind's
abbrev pub is_gone : Way → Bool
is_gone plain = false
is_gone (ordered m n) = false
is_gone (diffused k h) = false
is_gone retired = true
is_gone none = false

-- it goes by a matrix
abbrev pub has_matrix : Way → Bool
has_matrix plain = false
has_matrix (ordered m n) = true
has_matrix (diffused k h) = false
has_matrix retired = false
has_matrix none = false

-- it goes by a kernel
abbrev pub has_kernel : Way → Bool
has_kernel plain = false
has_kernel (ordered m n) = false
has_kernel (diffused k h) = true
has_kernel retired = false
has_kernel none = false

-- its kernel
abbrev pub kernel_in : Way → List Target
kernel_in plain = []
kernel_in (ordered m n) = []
kernel_in (diffused k h) = k
kernel_in retired = []
kernel_in none = []

-- what it holds back
abbrev pub held_in : Way → ℕ
held_in plain = 0
held_in (ordered m n) = 0
held_in (diffused k h) = h
held_in retired = 0
held_in none = 0

-- ---- the same of a kind's number (which numbers these are: proofs/Numbers)
-- there is a kind with the number; 1 is said where there is none
unfoldable pub is_kind : ℕ → Bool
is_kind k = is_way (way_of k)

-- the kind with the number is retired; 15 is said of it
unfoldable pub is_retired : ℕ → Bool
is_retired k = is_gone (way_of k)

-- the kinds that have a threshold: Bayer, checker and lines
unfoldable pub is_ordered : ℕ → Bool
is_ordered k = has_matrix (way_of k)

-- the kinds that diffuse error: Atkinson and Floyd-Steinberg
unfoldable pub is_diffusion : ℕ → Bool
is_diffusion k = has_kernel (way_of k)

-- a diffusion kind's kernel; another kind has no target
unfoldable pub kernel_of : ℕ → List Target
kernel_of k = kernel_in (way_of k)

-- the sixteenths of a residual that a diffusion kind holds back; another kind has no residual
unfoldable pub held_of : ℕ → ℕ
held_of k = held_in (way_of k)

-- "error cells are three f32 a pixel for diffusion, else none"
unfoldable pub cells_needed : ℕ → ℕ → ℕ
cells_needed k pixels = cond (is_diffusion k) (3 * pixels) 0
