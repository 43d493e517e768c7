-- Over budget: it is said exactly if some tile's different chosen colours outnumber the limit (`over_if`, `over_only`), and the tile that is
-- named is the first such one (`tile_first`). What judging answers says so (`judged_over`, `judged_fits`). Assumes nothing.
use mathlib.Core.Path.{◌≡◌, refl, sym, subst, ◌∙◌, ap}
use mathlib.Core.Bool.{Bool, true, false, cond}
use mathlib.Core.List.{List}
use Prim.Native.Nat.{ℕ, ◌+◌, ◌<◌}
use native.Mathlib.Omega.{arith}
use lib.Dec.{T, T_not}
use Rattle.color.specs.Color.{same_reduced, reduced_at}
use Rattle.reducing.specs.Reduce.{least_alpha}
use Rattle.picture.specs.Pixels.{is_seen, seen_from}
use Rattle.picture.proofs.PixelLaws.{seen_from_lem}
use Rattle.std.specs.Prelude.{Option, Some, None}
use Rattle.lists.specs.Different.{Many}
use Rattle.judging.specs.Tiles as judging
use Rattle.judging.specs.Tiles.{counts_in, verdict_of, judged_of, JudgedAs}
use Rattle.judging.proofs.JudgedLaws as laws
use Rattle.judging.proofs.JudgedLaws.{judged_is, judged_same}
use Rattle.dither.specs.Mode.{Commission, size, reduced_of, chosen, tiles, tile_over, over_budget}

module _ (q : Commission) where
  -- what judging answers of the chosen colours
  abbrev pub verdict : Option ℕ
  verdict =
      let s = q.settings in
      judged_of (is_seen (reduced_of q)) (chosen q) s.width s.height s.tile_width s.tile_height s.limit

  verdict_is : verdict ≡ cond (over_budget q) (Some (tile_over q)) None
  unfolding judged_of verdict_of over_budget tile_over
  verdict_is = refl

  -- ---- from what judging answered
  module _ {v : Option ℕ} (e : v ≡ verdict) where
    pub judged_over : (t : ℕ) → v ≡ Some t → (over_budget q ≡ true) × (t ≡ tile_over q)
    judged_over t w = go (over_budget q) refl (sym w ∙ e ∙ verdict_is)
      where
        go : (b : Bool) → over_budget q ≡ b → Some t ≡ cond b (Some (tile_over q)) None → (over_budget q ≡ true) × (t ≡ tile_over q)
        go true b f = let n : t ≡ tile_over q = cc in (b, n)
        go false b f = absurd (let z : ◌≡◌ {A = ℕ} 0 1 = cc in omega arith)

    pub judged_fits : v ≡ None → over_budget q ≡ false
    judged_fits w = go (over_budget q) refl (sym w ∙ e ∙ verdict_is)
      where
        go : (b : Bool) → over_budget q ≡ b → None ≡ cond b (Some (tile_over q)) None → over_budget q ≡ false
        go true b f = absurd (let z : ◌≡◌ {A = ℕ} 0 1 = cc in omega arith)
        go false b f = b

  -- the drawn bytes are judged as the choices are, and the pixels' own alphas say what is seen
  pub judged_bytes : (least : ℕ) → least ≡ least_alpha q.settings.reducing → (reduced : List ℕ)
      → ((i : ℕ) → i < size q → reduced_at reduced i ≡ chosen q i)
      → let s = q.settings in
      judged_of (seen_from least q.pixels) (reduced_at reduced) s.width s.height s.tile_width s.tile_height s.limit ≡ verdict
  judged_bytes least l reduced same =
      let s = q.settings in
      let seen : seen_from least q.pixels ≡ is_seen (reduced_of q) =
      ap (λ (n : ℕ). seen_from n q.pixels) l ∙ seen_from_lem s.reducing q.reduction q.pixels q.opaque in
      judged_same s.width s.height s.tile_width s.tile_height (λ i h t. seen t i) same s.limit

  -- ---- what it says
  -- of tile t's non-transparent pixels, more different colours are chosen than the limit: so many and one more, no two the same
  abbrev pub Outnumbers : ℕ → Type 0
  Outnumbers t =
      let s = q.settings in
      Many same_reduced (counts_in (is_seen (reduced_of q)) s.width s.tile_width s.tile_height t) (chosen q) (size q) (s.limit + 1)

  abbrev is_over : ℕ → Bool
  is_over t =
      let s = q.settings in
      judging.is_over (is_seen (reduced_of q)) (chosen q) s.width s.height s.tile_width s.tile_height s.limit t

  outnumbered : (t : ℕ) → T (is_over t) → Outnumbers t
  outnumbered t o =
      let s = q.settings in
      laws.over_only (is_seen (reduced_of q)) (chosen q) s.width s.height s.tile_width s.tile_height s.limit t o

  is_over_lem : (t : ℕ) → Outnumbers t → T (is_over t)
  is_over_lem t m =
      let s = q.settings in
      laws.over_if (is_seen (reduced_of q)) (chosen q) s.width s.height s.tile_width s.tile_height s.limit t m

  abbrev As : Option ℕ → Type 0
  As v =
      let s = q.settings in
      JudgedAs (is_seen (reduced_of q)) (chosen q) s.width s.height s.tile_width s.tile_height s.limit v

  said : (b : Bool) → over_budget q ≡ b → As (cond b (Some (tile_over q)) None)
  said b e =
      let s = q.settings in
      subst As (verdict_is ∙ ap (λ (x : Bool). cond x (Some (tile_over q)) None) e)
      (judged_is (is_seen (reduced_of q)) (chosen q) s.width s.height s.tile_width s.tile_height s.limit)

  -- the tile that is named is one of the picture's, is over its limit, and no earlier one is
  pub tile_first : over_budget q ≡ true → (tile_over q < tiles q.settings) × Outnumbers (tile_over q) × ((t : ℕ) → t < tile_over q → Outnumbers t → ⊥)
  tile_first e = let a = said true e in (a.0, outnumbered (tile_over q) a.1, λ t h m. T_not (is_over t) (a.2 t h) (is_over_lem t m))

  pub over_only : over_budget q ≡ true → (t : ℕ) × (t < tiles q.settings) × Outnumbers t
  over_only e = let f = tile_first e in (tile_over q, f.0, f.1)

  pub over_if : (t : ℕ) → t < tiles q.settings → Outnumbers t → over_budget q ≡ true
  over_if t h m = go (over_budget q) refl
    where
      go : (b : Bool) → over_budget q ≡ b → over_budget q ≡ true
      go true e = e
      go false e = absurd (T_not (is_over t) (said false e t h) (is_over_lem t m))
