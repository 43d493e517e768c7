-- What the lent lists say, as functions of the position. Definitions only.
use Rattle.std.specs.Prelude.{ℕ}
use Rattle.color.specs.declared.Oklab.{Oklab}
use Rattle.color.specs.Oklab.{oklab_at}
use Rattle.shortlist.specs.Candidates as shortlist
use Rattle.shortlist.specs.Candidates.{scaled}
use Rattle.remembered.specs.declared.candidates.Oklabs.{Oklabs}
use Rattle.remembered.specs.declared.candidates.Candidates.{Candidates}

-- the Oklab colours
abbrev pub labs : Oklabs → ℕ → Oklab
labs o = oklab_at o.oklab.now

-- the candidates that a lookup chooses from
abbrev pub entries : Candidates → shortlist.Candidates
entries cs = scaled cs.colors.now cs.scale.now cs.oklabs.oklab.now cs.oklabs.count
