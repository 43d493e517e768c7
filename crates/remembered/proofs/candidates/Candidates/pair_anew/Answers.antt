-- `Candidates::pair_anew` meets its contract: the nearest, its shortlist, and the second of that. Assumes nothing.
use mathlib.Core.Path.{◌≡◌, sym, subst, ◌∙◌}
use Prim.Native.Nat.{ℕ, ◌<◌}
use native.Mathlib.Omega.{arith}
use Rattle.color.specs.declared.Oklab.{Oklab}
use Rattle.conversion.specs.Oklab.{to_oklab}
use Rattle.shortlist.specs.Nearest.{nearest_in}
use Rattle.shortlist.proofs.NearestLaws.{nearest_inside}
use Rattle.lookup.proofs.TwoLaws.{two_is}
use Rattle.remembered.specs.Lent.{labs, entries}
use Rattle.remembered.specs.Shorts.{shortlist_at}
use Rattle.remembered.proofs.TableLaws.{table_same}
use Rattle.remembered.proofs.ShortLaws.{short_inside}
use Rattle.remembered.proofs.candidates.Candidates.pair_anew.Goals as goal

-- the nearest is an entry
inside : (oklab : ℕ → Oklab) (count : ℕ) (o : Oklab) (a seed : ℕ) → seed < count → a ≡ nearest_in oklab count o → a < count
inside oklab count o a seed l e = subst (λ (k : ℕ). k < count) (sym e) (nearest_inside oklab count o (omega arith))

pub shortlist-requires : goal.shortlist-requires
shortlist-requires c =
    let o = c.args.self.now.oklabs in
    (inside (labs o) o.count (to_oklab c.args.color) _ _ c.requires.0 c.nearest_anew-a.ensures, c.requires.1.shorts)

pub second_of-requires : goal.second_of-requires
second_of-requires c =
    let a = c.args in
    let o = a.self.now.oklabs in
    let l = inside (labs o) o.count (to_oklab a.color) _ _ c.requires.0 c.nearest_anew-a.ensures in
    (l, short_inside (labs o) o.count a.width o.ranged.range _ l _ (c.listed.ensures ∙ c.shortlist.ensures.listed))

pub returns : goal.returns
unfolding shortlist_at
returns c =
    let a = c.args in
    let short = c.shortlist.ensures in
    let two = two_is (entries a.self.now) a.width (to_oklab a.color) a.color _ _ _ c.nearest_anew-a.ensures (c.listed.ensures ∙ short.listed) c.second_of.ensures in
    (two, record { pairs = table_same _ _ _ c.requires.1.pairs short.known; shorts = short.rows })
