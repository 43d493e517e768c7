-- `Flat::two` meets its contract: the nearest, its shortlist, and the second of that. Assumes nothing.
use mathlib.Core.Path.{◌≡◌, sym, ap, subst, ◌∙◌}
use mathlib.Core.List.{List}
use Prim.Native.Nat.{ℕ, ◌/◌, ◌<◌}
use lib.Ieee.{Float}
use lib.ListN.{length, take}
use Rattle.color.specs.declared.Oklab.{Oklab}
use Rattle.color.specs.Oklab.{oklab_at}
use Rattle.shortlist.specs.Candidates.{flat, RangedList}
use Rattle.shortlist.specs.Nearest.{distances, nearest_of}
use Rattle.shortlist.specs.declared.Shortlist.{Shortlist as Short}
use Rattle.shortlist.specs.Shortlist.{shortlist_of, InArrays}
use Rattle.shortlist.proofs.NearestLaws.{nearest_inside, distances_plain}
use Rattle.shortlist.proofs.ShortlistLaws.{shortlist_inside}
use Rattle.lookup.proofs.ListLaws.{Accepted, accepted}
use Rattle.lookup.proofs.TwoLaws.{two_is}
use Rattle.lookup.proofs.flat.Flat.two.Goals as goal

-- the nearest is an entry
inside : (reduced normalized : List ℕ) (oklab : List Float) (o : Oklab) (a : ℕ) → Accepted reduced normalized oklab
    → a ≡ nearest_of (flat reduced normalized oklab) o → a < length reduced / 4
inside reduced normalized oklab o a A e = subst (λ (u : ℕ). u < length reduced / 4) (sym e) (nearest_inside (oklab_at oklab) (length reduced / 4) o A.positive)

-- what is listed is the shortlist
listed : (oklab : List Float) (n a width m : ℕ) → m ≡ n → (s : Short)
    → InArrays (distances (oklab_at oklab a) (oklab_at oklab)) s (shortlist_of (distances (oklab_at oklab a) (oklab_at oklab)) a m width)
    → (ks : List ℕ) → ks ≡ take s.count s.positions → ks ≡ shortlist_of (distances (oklab_at oklab a) (oklab_at oklab)) a n width
listed oklab n a width m e s h ks q = q ∙ h.places ∙ ap (λ (k : ℕ). shortlist_of (distances (oklab_at oklab a) (oklab_at oklab)) a k width) e

pub list-requires : goal.list-requires
list-requires c =
    let l = c.args.self.now in
    let A = accepted l.reduced.now l.normalized.now l.oklab.now l.accepted in
    let e = sym c.count.ensures in (
      subst (λ (n : ℕ). RangedList l.oklab.now n) e A.ranged,
      subst (λ (n : ℕ). c.nearest-a.result < n) e (inside l.reduced.now l.normalized.now l.oklab.now c.args.o c.nearest-a.result A c.nearest-a.ensures),
    )

pub second_of-requires : goal.second_of-requires
second_of-requires c =
    let l = c.args.self.now in
    let A = accepted l.reduced.now l.normalized.now l.oklab.now l.accepted in
    let at = oklab_at l.oklab.now in
    let n : ℕ = length l.reduced.now / 4 in
    let a : ℕ = c.nearest-a.result in
    let i : a < n = inside l.reduced.now l.normalized.now l.oklab.now c.args.o a A c.nearest-a.ensures in (
      i,
      shortlist_inside (distances (at a) at) a n c.args.width (distances_plain at n A.ranged.range (at a) (A.ranged.range a i)) c.listed.result.now
          (listed l.oklab.now n a c.args.width c.count.result c.count.ensures c.list.new.self c.list.ensures c.listed.result.now c.listed.ensures),
    )

pub returns : goal.returns
returns c =
    let l = c.args.self.now in
    let n : ℕ = length l.reduced.now / 4 in
    two_is (flat l.reduced.now l.normalized.now l.oklab.now) c.args.width c.args.o c.args.color c.nearest-a.result c.listed.result.now c.second_of.result
    c.nearest-a.ensures
    (listed l.oklab.now n c.nearest-a.result c.args.width c.count.result c.count.ensures c.list.new.self c.list.ensures c.listed.result.now
    c.listed.ensures) c.second_of.ensures
