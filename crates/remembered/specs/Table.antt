-- A table of answers remembered by colour. An answer is a pair, the nearest candidate and the second. Definitions only.
-- Document 01, "What changes shape in Rattle", says of the `HashMap` of brackets: "worked out anew". The table departs from that form, for speed alone:
-- what is recalled is what would be worked out anew (`TableOf`), and no promise of a call mentions it.
use Rattle.std.specs.Prelude.{ℕ, ◌+◌, ◌*◌, ◌<◌, ◌≡◌, None, get_or}
use Rattle.color.specs.declared.NormalizedColor.{NormalizedColor}
use Rattle.color.specs.declared.Oklab.{Oklab}
use Rattle.conversion.specs.Oklab.{to_oklab}
use Rattle.mixing.specs.Lerp.{Bytes, EqualRgb}
use Rattle.shortlist.specs.Candidates.{Candidates}
use Rattle.shortlist.specs.Nearest.{nearest_in}
use Rattle.lookup.specs.declared.Two.{Two}
use Rattle.lookup.specs.Second.{nearest_two_of}
use Rattle.remembered.specs.declared.Narrow.{Narrow}
use Rattle.remembered.specs.declared.Known.{Known}
use Rattle.remembered.specs.declared.Memory.{Memory}

-- ---- what is remembered of a colour

-- the nearest of n colours alone
unfoldable pub nearest_alone : (ℕ → Oklab) → ℕ → NormalizedColor → Two
nearest_alone oklab n c = record { first = nearest_in oklab n (to_oklab c); second = None }

-- the nearest and the second
unfoldable pub nearest_both : Candidates → ℕ → NormalizedColor → Two
nearest_both cs width c = nearest_two_of cs width (to_oklab c) c

-- ---- the table

-- a colour's key: red, green and blue in one number, and one more, so that 0 is no colour's. Alpha plays no part in the answers.
unfoldable pub key_of : NormalizedColor → ℕ
key_of c = c.0.r + 256 * c.0.g + 65536 * c.0.b + 1

-- the answer that a narrow pair is
abbrev pub two_of : Narrow → Two
two_of pair = record { first = pair.first; second = pair.second }

-- the memory's table is of f's answers: what stands beside a colour's key, wherever it stands, is what f answers for that colour
pub record TableOf (f : NormalizedColor → Two) (memory : Memory) : Type 0 where
  pub right : (j : ℕ) → j < 256 → (c : NormalizedColor) → Bytes c → (any : Known) → (get_or memory.known j any).key ≡ key_of c
      → two_of (get_or memory.known j any).pair ≡ f c

-- f answers by red, green and blue alone
pub record ByRgb (f : NormalizedColor → Two) : Type 0 where
  pub same : (c c' : NormalizedColor) → EqualRgb c c' → f c ≡ f c'
