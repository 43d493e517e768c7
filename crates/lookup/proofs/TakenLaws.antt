-- Which entries the flat calls answer: dark and light of a bracket are the entries at its positions (`flat_ends`), and where twins are alike, what is picked of
-- it is the first entry equal to the colour picked (`flat_picked`). Assumes nothing.
use mathlib.Core.Path.{◌≡◌, refl, sym, ap, ◌∙◌, subst}
use mathlib.Core.List.{List}
use Prim.Native.Nat.{ℕ}
use lib.Ieee.{Float}
use Rattle.std.specs.Prelude.{Ok}
use Rattle.color.specs.declared.NormalizedColor.{NormalizedColor}
use Rattle.conversion.specs.Oklab.{to_oklab}
use Rattle.patterns.specs.Thresholds.{threshold_at}
use Rattle.shortlist.specs.Candidates.{Candidates, flat}
use Rattle.lookup.specs.Bracket.{bracket_of, choice_at}
use Rattle.lookup.specs.Positions.{first_equal, Takes, EndsOf}
use Rattle.lookup.specs.Answers.{FlatBracket, PickedAt}
use Rattle.lookup.specs.declared.Bracket.{Bracket}
use Rattle.lookup.specs.declared.Choice.{Choice}
use Rattle.lookup.proofs.ListLaws.{accepted}
use Rattle.lookup.proofs.PositionLaws.{bracket_ends, picked_taken}
use Rattle.lookup.proofs.AnswerLaws.{bracket_given, pick_given}

module _ (reduced normalized : List ℕ) (oklab : List Float) (color : NormalizedColor) (width : ℕ) {b : Bracket}
    (a : FlatBracket reduced normalized oklab color width (Ok b)) where
  abbrev cs : Candidates
  cs = flat reduced normalized oklab

  pub flat_ends : EndsOf cs b
  flat_ends =
      let g = bracket_given reduced normalized oklab color width a refl in
      let A = accepted reduced normalized oklab g.0 in
      subst (EndsOf cs) (sym g.1) (bracket_ends cs A.positive A.ranged.range width (to_oklab color) color)

  pub flat_picked : (kind x y : ℕ) {r : Choice} → PickedAt b kind x y (Ok r) → Takes cs r.color r
  flat_picked kind x y {r} p =
      let g = bracket_given reduced normalized oklab color width a refl in
      let A = accepted reduced normalized oklab g.0 in
      let t : Float = threshold_at kind x y in
      let e : r ≡ choice_at (bracket_of cs width (to_oklab color) color) t = pick_given b kind x y p ∙ ap (λ (u : Bracket). choice_at u t) g.1 in
      let taken = picked_taken cs A.positive A.ranged.range width (to_oklab color) color t r e in
      record { color = refl; inside = taken.inside; position = λ alike. taken.position alike ∙ ap (first_equal cs) (sym taken.color) }
