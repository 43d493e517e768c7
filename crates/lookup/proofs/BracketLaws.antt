-- The bracket: what the functions that make it answer; its positions are entries; one entry alone makes a solid bracket. What is picked: dark of equal
-- colours and of a NaN ratio. Assumes nothing.
use mathlib.Core.Path.{◌≡◌, refl, sym, ap, ◌∙◌, subst}
use mathlib.Core.Bool.{Bool, true, false, cond, not, ◌&&◌}
use Prim.Native.Nat.{ℕ, ◌<◌}
use lib.Dec.{T}
use lib.Ieee.{Float, nan, inf, fin, binary32, sub, le, lt}
use Rattle.floats.specs.Bytes.{one_f}
use Rattle.color.specs.declared.NormalizedColor.{NormalizedColor}
use Rattle.color.specs.declared.Oklab.{Oklab}
use Rattle.color.specs.Color.{same_reduced}
use Rattle.color.specs.Oklab.{all_in_range}
use Rattle.color.proofs.Same.{equal→same}
use Rattle.mixing.specs.Lerp.{lerp_of}
use Rattle.shortlist.specs.Candidates.{Candidates}
use Rattle.lookup.specs.Second.{nearest_two_of}
use Rattle.lookup.specs.Bracket.{bracket_with, solid_at, bracket_two, bracket_at_of, is_light, pick_at, position_at, choice_at}
use Rattle.lookup.specs.declared.BracketAt.{BracketAt}
use Rattle.lookup.specs.declared.Bracket.{Bracket}
use Rattle.lookup.specs.declared.Choice.{Choice}
use Rattle.lookup.specs.declared.Two.{Two}
use Rattle.std.specs.Prelude.{Option, Some, None}
use Rattle.lookup.proofs.TwoLaws.{first_inside, second_inside, one_alone}

-- ---- what `bracket_with` answers
module _ (oklab : ℕ → Oklab) (a b : ℕ) (c1 c2 c : NormalizedColor) (p q : Oklab) (t : Float) (P : p ≡ oklab a) (Q : q ≡ oklab b)
    (ratio : t ≡ lerp_of c1 c2 c true) where
  test : (u : Bool) → le p.l q.l ≡ u → le (oklab a).l (oklab b).l ≡ u
  test u e = (λ i. le (sym P i).l (sym Q i).l) ∙ e

  pub lighter : le p.l q.l ≡ true → ◌≡◌ {A = BracketAt} (record { dark = a; light = b; ratio = t }) (bracket_with oklab a b c1 c2 c)
  unfolding bracket_with
  lighter e = rw (test true e) (λ i. record { dark = a; light = b; ratio = ratio i })

  pub darker : le p.l q.l ≡ false → ◌≡◌ {A = BracketAt} (record { dark = b; light = a; ratio = sub binary32 one_f t }) (bracket_with oklab a b c1 c2 c)
  unfolding bracket_with
  darker e = rw (test false e) (λ i. record { dark = b; light = a; ratio = sub binary32 one_f (ratio i) })

-- ---- what `bracket_of_two` answers of the nearest two
module _ (cs : Candidates) (width : ℕ) (o : Oklab) (c : NormalizedColor) where
  pub bracket_is : (two : Two) → two ≡ nearest_two_of cs width o c → (r : BracketAt) → r ≡ bracket_two cs.oklab cs.normalized c two.first two.second
      → r ≡ bracket_at_of cs width o c
  unfolding bracket_at_of
  bracket_is two e r h = h ∙ ap (λ (t : Two). bracket_two cs.oklab cs.normalized c t.first t.second) e

  module _ (positive : 0 < cs.count) where
    -- one entry alone: the bracket is solid
    pub one_solid : cs.count ≡ 1 → bracket_at_of cs width o c ≡ solid_at (nearest_two_of cs width o c).first
    unfolding bracket_at_of
    one_solid h = ap (bracket_two cs.oklab cs.normalized c (nearest_two_of cs width o c).first) (one_alone cs width o c positive h)

    -- dark and light are entries
    pub bracket_inside : ((k : ℕ) → k < cs.count → T (all_in_range (cs.oklab k)))
        → ((bracket_at_of cs width o c).dark < cs.count) × ((bracket_at_of cs width o c).light < cs.count)
    unfolding bracket_at_of bracket_with
    bracket_inside range = go (nearest_two_of cs width o c).second (second_inside cs width o c positive range)
      where
        a : ℕ
        a = (nearest_two_of cs width o c).first

        A : a < cs.count
        A = first_inside cs width o c positive

        Inside : BracketAt → Type 0
        Inside r = (r.dark < cs.count) × (r.light < cs.count)

        ends : (u : Bool) (b : ℕ) (x y : Float) → b < cs.count
            → Inside (cond u (record { dark = a; light = b; ratio = x }) (record { dark = b; light = a; ratio = y }))
        ends true b x y B = (A, B)
        ends false b x y B = (B, A)

        go : (s : Option ℕ) → ((b : ℕ) → s ≡ Some b → b < cs.count)
            → ((bracket_two cs.oklab cs.normalized c a s).dark < cs.count) × ((bracket_two cs.oklab cs.normalized c a s).light < cs.count)
        go None h = (A, A)
        go (Some b) h = ends (le (cs.oklab a).l (cs.oklab b).l) b _ _ (h b refl)

-- the same of an answer that is equal to it
pub bracket_entries : (cs : Candidates) (width : ℕ) (o : Oklab) (c : NormalizedColor) (at : BracketAt) → at ≡ bracket_at_of cs width o c → 0 < cs.count
    → ((k : ℕ) → k < cs.count → T (all_in_range (cs.oklab k)))
    → (at.dark < cs.count) × (at.light < cs.count)
bracket_entries cs width o c at e positive range =
    subst (λ (r : BracketAt). (r.dark < cs.count) × (r.light < cs.count)) (sym e) (bracket_inside cs width o c positive range)

-- ---- what is picked
module _ (b : Bracket) (t : Float) where
  -- dark, and light, with their positions
  abbrev dark : Choice
  dark = record { color = b.dark; position = b.dark_position }

  abbrev light : Choice
  light = record { color = b.light; position = b.light_position }

  pub picks_light : is_light b t ≡ true → choice_at b t ≡ light
  unfolding pick_at position_at
  picks_light e = rw e refl

  pub picks_dark : is_light b t ≡ false → choice_at b t ≡ dark
  unfolding pick_at position_at
  picks_dark e = rw e refl

  -- where the colours are equal, dark
  pub equal_dark : b.dark ≡ b.light → choice_at b t ≡ dark
  equal_dark e = picks_dark (ap (λ (u : Bool). not u && lt t b.ratio) (equal→same b.dark b.light e))

  -- a NaN ratio picks dark
  pub nan_dark : b.ratio ≡ nan → choice_at b t ≡ dark
  unfolding lt
  nan_dark e = picks_dark (ap (λ (x : Float). not (same_reduced b.dark b.light) && lt t x) e ∙ both (not (same_reduced b.dark b.light)) t)
    where
      both : (u : Bool) (t : Float) → (u && lt t nan) ≡ false
      both true nan = refl
      both true (inf s) = refl
      both true (fin s m e) = refl
      both false t = refl
