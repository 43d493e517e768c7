-- A search that has a leader, and passes over entries that are farther than the leader or than some entry whose distance is the reach: it begins with the
-- first entry (`lead_begin`), goes on by one entry (`lead_one`), by two (`lead_two`) or by many that are all farther (`lead_past`), and ends with
-- the nearest (`lead_end`), since the entry within reach has been seen. Assumes nothing.
use mathlib.Core.Path.{◌≡◌, refl, sym, ap, ◌∙◌, subst}
use mathlib.Core.Bool.{Bool, true, false, cond, not}
use Prim.Native.Nat.{ℕ, ◌+◌, ◌≤◌, ◌<◌}
use native.Mathlib.Nat.{not-suc-le-zero}
use native.Mathlib.Omega.{arith}
use borrow.Author.Count.{below_more}
use lib.Dec.{T, T_not, not_T}
use lib.Ieee.{Float, lt}
use Rattle.floats.specs.Bounds.{Upto}
use Rattle.floats.proofs.Order.{Plain, upto_plain, lt_irreflexive, lt_transitive, lt_asymmetric, nlt_trans, lt_nlt_trans, nlt_lt_trans}
use Rattle.lists.specs.Least.{least_of}
use Rattle.lists.proofs.Bools.{holds, fails, is_true, is_false}
use Rattle.lists.proofs.FirstLaws.{split_at, pass_all}
use Rattle.lists.proofs.LeastLaws.{least_is, least_only}
use Rattle.shortlist.specs.declared.near.Leader.{Leader}
use Rattle.shortlist.specs.Nearest.{farther, lesser_of, entry_at, nearer_of, Leads, Onward}
use Rattle.shortlist.proofs.NearestLaws.{by_lt}

self : (x : Float) → T (not (lt x x))
self x = not_T (lt x x) (lt_irreflexive x)

-- of three it does not matter which two are compared first
nearer_of_three : (a b c : Leader) → Plain a.distance → Plain b.distance → Plain c.distance
    → nearer_of (nearer_of a b) c ≡ nearer_of a (nearer_of b c)
unfolding nearer_of
nearer_of_three a b c p q r = go (lt b.distance a.distance) (lt c.distance b.distance) refl refl
  where
    go : (s t : Bool) → lt b.distance a.distance ≡ s → lt c.distance b.distance ≡ t
        → cond (lt c.distance (cond s b a).distance) c (cond s b a) ≡ cond (lt (cond t c b).distance a.distance) (cond t c b) a
    go true true e f =
        ap (λ (x : Bool). cond x c b) f
        ∙ sym (ap (λ (x : Bool). cond x c a) (is_true (lt c.distance a.distance) (lt_transitive c.distance b.distance a.distance (holds f) (holds e))))
    go true false e f = ap (λ (x : Bool). cond x c b) f ∙ sym (ap (λ (x : Bool). cond x b a) e)
    go false true e f = refl
    go false false e f =
        ap (λ (x : Bool). cond x c a)
        (is_false (lt c.distance a.distance) (nlt_trans a.distance b.distance c.distance p q r (fails e) (fails f)))
        ∙ sym (ap (λ (x : Bool). cond x b a) e)

module _ (d : ℕ → Float) (reach : Float) where
  pub lead_begin : (n : ℕ) → 0 < n → Leads d reach n 0 (entry_at d 0)
  lead_begin n h =
      record { inside = h; behind = omega arith; away = refl; least = λ j l. absurd (not-suc-le-zero l); first = λ j l. absurd (not-suc-le-zero l) }

  known : (n : ℕ) → ((j : ℕ) → j < n → Upto 112 (d j)) → (j : ℕ) → j < n → Plain (d j)
  known n u j h = upto_plain 112 (d j) (u j h)

  module _ (leader : Leader) (k : ℕ) where
    -- entry k is nearer
    lead_taken : lt (d k) leader.distance ≡ true → Onward d reach k (k + 1) leader (entry_at d k)
    lead_taken t n h u s = record {
      inside = here;
      behind = omega arith;
      away = refl;
      least = below_more (λ (j : ℕ). T (not (lt reach (d j))) → T (not (lt (d j) (d k)))) k
          (λ j l q. nlt_trans (d k) leader.distance (d j) px pl (known n u j (omega arith)) (lt_asymmetric (d k) leader.distance px pl (holds t))
          (s.least j l q))
          (λ _. self (d k));
      first = λ j _ q l. lt_nlt_trans (d k) leader.distance (d j) px pl (known n u j (omega arith)) (holds t) (s.least j l q);
    }
      where
        here : k < n
        here = omega arith

        px : Plain (d k)
        px = known n u k here

        pl : Plain leader.distance
        pl = subst Plain (sym s.away) (known n u leader.position s.inside)

    -- entry k is not nearer
    lead_left : lt (d k) leader.distance ≡ false → Onward d reach k (k + 1) leader leader
    lead_left t n h u s = record {
      inside = s.inside;
      behind = omega (arith, s.behind);
      away = s.away;
      least = below_more (λ (j : ℕ). T (not (lt reach (d j))) → T (not (lt (d j) leader.distance))) k s.least (λ _. fails t);
      first = below_more (λ (j : ℕ). T (not (lt reach (d j))) → j < leader.position → T (lt leader.distance (d j))) k s.first
          (λ _ l. absurd (never l s.behind));
    }
      where
        never : k < leader.position → leader.position ≤ k → ⊥
        never l b = omega arith

    pub lead_one : Onward d reach k (k + 1) leader (nearer_of leader (entry_at d k))
    unfolding nearer_of
    lead_one = go (lt (d k) leader.distance) refl
      where
        go : (t : Bool) → lt (d k) leader.distance ≡ t → Onward d reach k (k + 1) leader (cond t (entry_at d k) leader)
        go true e = lead_taken e
        go false e = lead_left e

  -- the first entry leads itself
  pub lead_on : Onward d reach 0 1 (entry_at d 0) (entry_at d 0)
  lead_on = lead_left (entry_at d 0) 0 (is_false (lt (d 0) (d 0)) (self (d 0)))

  -- two entries, of which the nearer is compared with the leader
  pub lead_two : (leader : Leader) (k : ℕ) → Onward d reach k (k + 2) leader (nearer_of leader (nearer_of (entry_at d k) (entry_at d (k + 1))))
  lead_two leader k n h u s =
      subst (Leads d reach n (k + 2)) (nearer_of_three leader (entry_at d k) (entry_at d (k + 1)) pl (known n u k (omega arith)) (known n u (k + 1) (omega arith)))
      (subst (λ (i : ℕ). Leads d reach n i (nearer_of (nearer_of leader (entry_at d k)) (entry_at d (k + 1)))) next
      (lead_one (nearer_of leader (entry_at d k)) (k + 1) n (omega arith) u (lead_one leader k n (omega arith) u s)))
    where
      next : k + 1 + 1 ≡ k + 2
      next = omega arith

      pl : Plain leader.distance
      pl = subst Plain (sym s.away) (known n u leader.position s.inside)

  -- m entries that are all farther than the leader or than the reach
  pub lead_past : (leader : Leader) (k m : ℕ) (limit : Float) (t : Bool) → limit ≡ lesser_of reach leader.distance → t ≡ farther d limit k m → t ≡ true
      → Onward d reach k (k + m) leader leader
  unfolding lesser_of
  lead_past leader k m limit t c e g n h u s = record {
    inside = s.inside;
    behind = omega (arith, s.behind);
    away = s.away;
    least = λ j l q. split_at j k (λ a. s.least j a q) (λ a. lt_asymmetric leader.distance (d j) pl (known n u j (omega arith)) (beyond j a l q));
    first = λ j l q a. split_at j k (λ b. s.first j b q a) (λ b. beyond j b l q);
  }
    where
      pl : Plain leader.distance
      pl = subst Plain (sym s.away) (known n u leader.position s.inside)

      beyond : (j : ℕ) → k ≤ j → j < k + m → T (not (lt reach (d j))) → T (lt leader.distance (d j))
      beyond j a l q = go (lt leader.distance reach) c (pass_all (λ j. lt limit (d j)) k m (sym e ∙ g) j a l)
        where
          go : (b : Bool) → limit ≡ cond b leader.distance reach → T (lt limit (d j)) → T (lt leader.distance (d j))
          go true r f = subst (λ (y : Float). T (lt y (d j))) r f
          go false r f = absurd (T_not (lt reach (d j)) q (subst (λ (y : Float). T (lt y (d j))) r f))

-- all entries are seen, and so is the one whose distance is the reach
pub lead_end : (d : ℕ → Float) (n seed : ℕ) (leader : Leader) → seed < n → ((j : ℕ) → j < n → Upto 112 (d j)) → Leads d (d seed) n n leader
    → leader.position ≡ least_of lt d n
lead_end d n seed leader h u s =
    least_only
    (record {
      inside = s.inside;
      least = λ j l. subst (λ (y : Float). T (not (lt (d j) y))) s.away
          (within j l (s.least j l) (λ f. lt_asymmetric leader.distance (d j) pl (plain j l) f));
      first = λ j l. subst (λ (y : Float). T (lt y (d j))) s.away (within j (omega (arith, s.inside)) (λ q. s.first j (omega (arith, s.inside)) q l)
          (λ f. f));
    })
    (least_is by_lt n (omega arith) plain)
  where
    plain : (j : ℕ) → j < n → Plain (d j)
    plain j l = upto_plain 112 (d j) (u j l)

    pl : Plain leader.distance
    pl = subst Plain (sym s.away) (plain leader.position s.inside)

    -- entry j is within reach, or farther than the leader
    within : {G : Type 0} (j : ℕ) → j < n → (T (not (lt (d seed) (d j))) → G) → (T (lt leader.distance (d j)) → G) → G
    within {G} j l a b = go (lt (d seed) (d j)) refl
      where
        go : (t : Bool) → lt (d seed) (d j) ≡ t → G
        go true e = b (nlt_lt_trans leader.distance (d seed) (d j) pl (plain seed h) (plain j l) (s.least seed h (self (d seed))) (holds e))
        go false e = a (fails e)

-- one after the other
pub onward : (d : ℕ → Float) (reach : Float) {i j k : ℕ} {before at after : Leader} → j ≤ k → Onward d reach i j before at → Onward d reach j k at after
    → Onward d reach i k before after
onward d reach {j = j} {k = k} l x y n h u s = y n h u (x n (omega (arith, l, h)) u s)
