-- Scattering pixel by pixel from zeros gives the gathered sums, for any kernel: after n pixels the buffer holds what each pixel received from
-- them; every cell of it is small, and has room for what comes next; at the end it holds the cells of the picture. Assumes nothing.
use mathlib.Core.Path.{◌≡◌, refl, sym, ap, ◌∙◌, subst}
use mathlib.Core.Bool.{Bool, true, false, cond, ◌&&◌}
use mathlib.Core.List.{List, [], ◌∷◌}
use Prim.Native.Nat.{ℕ, zero, suc, ◌+◌, ◌*◌, ◌≤◌, ◌<◌}
use native.Mathlib.Nat.{add-zero, le_refl, le_of_lt}
use native.Mathlib.Omega.{arith}
use borrow.Author.Tests.{eq-eqb, ne_eqb, eqb-true, eqb-false}
use lib.Dec.{T, eqb, lit<}
use lib.IntN.{ℤ, pos, nat_abs, ◌+ℤ◌, ◌*ℤ◌, +ℤ_idr, +ℤ_assoc, *ℤ-zero, zero-*ℤ}
use lib.ListN.{length, get_or, set, replicate, length-set, length-replicate, get_or-replicate}
use lib.Seq.{get_or-set_same, get_or-set_other, set-get_or}
use Rattle.lists.proofs.GatherLaws.{gather_only}
use Rattle.floats.proofs.Int.{times_add}
use Rattle.patterns.specs.declared.Target.{Target}
use Rattle.patterns.specs.Kernel.{Place, pixel, outside, landing, total, later}
use Rattle.diffusion.specs.Diffusion.{Picture, channel, is_at, weight_to, residual_of, received, cell}
use Rattle.diffusion.specs.Scatter.{more, send, sends, left_over, scatter, Holds, cells_at, cell_buffer}
use Rattle.diffusion.proofs.Channels.{by_channel, by_pixel}
use Rattle.diffusion.specs.Sends.{Room}
use Rattle.diffusion.proofs.Received.{settled, bound, room}

-- ---- one cell
pub more-length : (cells : List ℤ) (at : ℕ) (z : ℤ) → length (more cells at z) ≡ length cells
unfolding more
more-length cells at z = length-set cells at (get_or cells at (pos 0) +ℤ z)

pub more_at : (cells : List ℤ) (at : ℕ) (z : ℤ) (i : ℕ) → i < length cells
    → get_or (more cells at z) i (pos 0) ≡ get_or cells i (pos 0) +ℤ cond (eqb at i) z (pos 0)
unfolding more
more_at cells at z i h = go (eqb at i) refl
  where
    v : ℤ
    v = get_or cells at (pos 0) +ℤ z

    go : (b : Bool) → eqb at i ≡ b → get_or (set cells at v) i (pos 0) ≡ get_or cells i (pos 0) +ℤ cond b z (pos 0)
    go true e =
        let same : at ≡ i = eqb-true at i e in
        rw same (get_or-set_same cells i (get_or cells i (pos 0) +ℤ z) (pos 0) h)
    go false e = get_or-set_other cells at i v (pos 0) (λ q. eqb-false at i e (sym q)) ∙ sym (+ℤ_idr (get_or cells i (pos 0)))

-- ---- three cells
spot : (m b i a : ℕ) → b < 3 → a < 3 → eqb (3 * m + b) (3 * i + a) ≡ eqb m i && eqb b a
spot m b i a B A = go (eqb m i) (eqb b a) refl refl
  where
    go : (s t : Bool) → eqb m i ≡ s → eqb b a ≡ t → eqb (3 * m + b) (3 * i + a) ≡ s && t
    go true true p q =
        let P : m ≡ i = eqb-true m i p in
        let Q : b ≡ a = eqb-true b a q in
        rw (P, Q) (eq-eqb (3 * i + a) (3 * i + a) refl)
    go true false p q =
        let P : m ≡ i = eqb-true m i p in
        let Q = eqb-false b a q in
        ne_eqb (3 * m + b) (3 * i + a) (omega arith)
    go false t p q =
        let P = eqb-false m i p in
        ne_eqb (3 * m + b) (3 * i + a) (omega arith)

pub send-length : (cells : List ℤ) (r : ℕ → ℤ) (p : Place) (w : ℕ) → length (send cells r p w) ≡ length cells
unfolding send
send-length cells r (pixel m) w = simp more-length
send-length cells r outside w = refl

three_at : (cells : List ℤ) (p₀ p₁ p₂ : ℕ) (z₀ z₁ z₂ : ℤ) (q : ℕ) → q < length cells
    → get_or (more (more (more cells p₀ z₀) p₁ z₁) p₂ z₂) q (pos 0)
    ≡ get_or cells q (pos 0) +ℤ cond (eqb p₀ q) z₀ (pos 0) +ℤ cond (eqb p₁ q) z₁ (pos 0) +ℤ cond (eqb p₂ q) z₂ (pos 0)
three_at cells p₀ p₁ p₂ z₀ z₁ z₂ q h =
    more_at (more (more cells p₀ z₀) p₁ z₁) p₂ z₂ q (simp more-length h)
    ∙ ap (λ (x : ℤ). x +ℤ cond (eqb p₂ q) z₂ (pos 0))
    (more_at (more cells p₀ z₀) p₁ z₁ q (simp more-length h) ∙ ap (λ (x : ℤ). x +ℤ cond (eqb p₁ q) z₁ (pos 0)) (more_at cells p₀ z₀ q h))

one_channel : (r : ℕ → ℤ) (w : ℕ) (s : Bool) (a : ℕ) → a < 3 → (v : ℤ)
    → v +ℤ cond (s && eqb 0 a) (r 0 *ℤ pos w) (pos 0) +ℤ cond (s && eqb 1 a) (r 1 *ℤ pos w) (pos 0) +ℤ cond (s && eqb 2 a) (r 2 *ℤ pos w) (pos 0)
    ≡ v +ℤ r a *ℤ pos (cond s w 0)
one_channel r w true a A v =
    by_channel
    (λ a. v +ℤ cond (eqb 0 a) (r 0 *ℤ pos w) (pos 0) +ℤ cond (eqb 1 a) (r 1 *ℤ pos w) (pos 0) +ℤ cond (eqb 2 a) (r 2 *ℤ pos w) (pos 0)
    ≡ v +ℤ r a *ℤ pos w)
    (simp +ℤ_idr)
    (simp +ℤ_idr)
    (simp +ℤ_idr)
    a
    A
one_channel r w false a A v = simp (+ℤ_idr, *ℤ-zero)

pub send_at : (cells : List ℤ) (r : ℕ → ℤ) (p : Place) (w a i : ℕ) → a < 3 → 3 * i + a < length cells
    → get_or (send cells r p w) (3 * i + a) (pos 0) ≡ get_or cells (3 * i + a) (pos 0) +ℤ r a *ℤ pos (cond (is_at i p) w 0)
unfolding send is_at
send_at cells r (pixel m) w a i A h =
    three_at cells (3 * m) (3 * m + 1) (3 * m + 2) (r 0 *ℤ pos w) (r 1 *ℤ pos w) (r 2 *ℤ pos w) (3 * i + a) h
    ∙ (λ q. get_or cells (3 * i + a) (pos 0)
    +ℤ cond (first q) (r 0 *ℤ pos w) (pos 0)
    +ℤ cond (spot m 1 i a (lit< tt) A q) (r 1 *ℤ pos w) (pos 0)
    +ℤ cond (spot m 2 i a (lit< tt) A q) (r 2 *ℤ pos w) (pos 0))
    ∙ one_channel r w (eqb m i) a A (get_or cells (3 * i + a) (pos 0))
  where
    first : eqb (3 * m) (3 * i + a) ≡ eqb m i && eqb 0 a
    first = ap (λ (n : ℕ). eqb n (3 * i + a)) (sym (add-zero (3 * m))) ∙ spot m 0 i a (lit< tt) A
send_at cells r outside w a i A h = sym (ap (λ (x : ℤ). get_or cells (3 * i + a) (pos 0) +ℤ x) (*ℤ-zero (r a)) ∙ +ℤ_idr (get_or cells (3 * i + a) (pos 0)))

module _ (r : ℕ → ℤ) (w h j : ℕ) where
  pub sends-length : (k : List Target) (cells : List ℤ) → length (sends cells r k w h j) ≡ length cells
  unfolding sends
  sends-length [] cells = refl
  sends-length (t ∷ k) cells = sends-length k (send cells r (landing w h j t) t.weight) ∙ send-length cells r (landing w h j t) t.weight

  pub sends_at : (k : List Target) (cells : List ℤ) (a i : ℕ) → a < 3 → 3 * i + a < length cells
      → get_or (sends cells r k w h j) (3 * i + a) (pos 0) ≡ get_or cells (3 * i + a) (pos 0) +ℤ r a *ℤ pos (weight_to k w h j i)
  unfolding sends weight_to
  sends_at [] cells a i A l = sym (ap (λ (x : ℤ). get_or cells (3 * i + a) (pos 0) +ℤ x) (*ℤ-zero (r a)) ∙ +ℤ_idr (get_or cells (3 * i + a) (pos 0)))
  sends_at (t ∷ k) cells a i A l =
      let v : ℕ = cond (is_at i (landing w h j t)) t.weight 0 in
      sends_at k (send cells r (landing w h j t) t.weight) a i A
      (subst (λ (n : ℕ). 3 * i + a < n) (sym (send-length cells r (landing w h j t) t.weight)) l)
      ∙ ap (λ (x : ℤ). x +ℤ r a *ℤ pos (weight_to k w h j i)) (send_at cells r (landing w h j t) t.weight a i A l)
      ∙ +ℤ_assoc (get_or cells (3 * i + a) (pos 0)) (r a *ℤ pos v) (r a *ℤ pos (weight_to k w h j i))
      ∙ ap (λ (x : ℤ). get_or cells (3 * i + a) (pos 0) +ℤ x) (sym (times_add (r a) v (weight_to k w h j i)))

-- the residuals of three channels count
pub sends_same : (r r' : ℕ → ℤ) (w h j : ℕ) → ((a : ℕ) → a < 3 → r a ≡ r' a) → (k : List Target) (cells : List ℤ)
    → sends cells r k w h j ≡ sends cells r' k w h j
unfolding sends send
sends_same r r' w h j e [] cells = refl
sends_same r r' w h j e (t ∷ k) cells =
    ap (λ (v : List ℤ). sends v r k w h j) (one (landing w h j t)) ∙ sends_same r r' w h j e k (send cells r' (landing w h j t) t.weight)
  where
    one : (p : Place) → send cells r p t.weight ≡ send cells r' p t.weight
    one (pixel i) =
        λ q. more (more (more cells (3 * i) (e 0 (lit< tt) q *ℤ pos t.weight)) (3 * i + 1) (e 1 (lit< tt) q *ℤ pos t.weight)) (3 * i + 2)
        (e 2 (lit< tt) q *ℤ pos t.weight)
    one outside = refl

-- residuals of 0 change nothing
more_none : (cells : List ℤ) (at w : ℕ) → more cells at (pos 0 *ℤ pos w) ≡ cells
unfolding more
more_none cells at w =
    ap (λ (z : ℤ). set cells at (get_or cells at (pos 0) +ℤ z)) (zero-*ℤ (pos w)) ∙ ap (set cells at) (+ℤ_idr (get_or cells at (pos 0))) ∙ set-get_or cells at (pos 0)

pub sends_none : (w h j : ℕ) (k : List Target) (cells : List ℤ) → sends cells (λ a. pos 0) k w h j ≡ cells
unfolding sends send
sends_none w h j [] cells = refl
sends_none w h j (t ∷ k) cells = ap (λ (v : List ℤ). sends v (λ a. pos 0) k w h j) (one (landing w h j t)) ∙ sends_none w h j k cells
  where
    one : (p : Place) → send cells (λ a. pos 0) p t.weight ≡ cells
    one (pixel i) = simp more_none
    one outside = refl

-- ---- a scan over the pixels
module _ (k : List Target) (p : Picture) where
  in_buffer : (a i n : ℕ) (cells : List ℤ) → length cells ≡ 3 * n → a < 3 → i < n → 3 * i + a < length cells
  in_buffer a i n cells e A l = omega arith

  holds_begin : Holds k p 0 (replicate (3 * (p.width * p.height)) (pos 0))
  unfolding received
  holds_begin = record {
    size = length-replicate (3 * (p.width * p.height)) (pos 0);
    each = λ a i A l. get_or-replicate (3 * (p.width * p.height)) (3 * i + a) (pos 0) (pos 0) (omega arith);
  }

  holds_more : (n : ℕ) (cells : List ℤ) → n < p.width * p.height → Holds k p n cells
      → Holds k p (suc n) (sends cells (left_over p n cells) k p.width p.height n)
  unfolding received
  holds_more n cells l h = record {
    size = sends-length (left_over p n cells) p.width p.height n k cells ∙ h.size;
    each = λ a i A m.
        sends_at (left_over p n cells) p.width p.height n k cells a i A (in_buffer a i (p.width * p.height) cells h.size A m)
        ∙ (λ q. h.each a i A m q +ℤ residual_of (channel p a) n (h.each a n A l q) *ℤ pos (weight_to k p.width p.height n i));
  }

  -- the buffer after n pixels holds the gathered sums
  pub scattered : (n : ℕ) → n ≤ p.width * p.height → Holds k p n (scatter k p n)
  unfolding scatter
  scattered zero l = holds_begin
  scattered (suc n) l = holds_more n (scatter k p n) l (scattered n (omega arith))

  -- every cell of such a buffer lies within 4080 sixteenths
  pub holds_small : total k ≤ 16 → ((a j : ℕ) → a < 3 → p.chosen a j ≤ 255) → (n : ℕ) (cells : List ℤ) → Holds k p n cells → (q : ℕ) → q < length cells
      → nat_abs (get_or cells q (pos 0)) ≤ 4080
  holds_small t bytes n cells h q l =
      by_pixel (λ q. nat_abs (get_or cells q (pos 0)) ≤ 4080) (p.width * p.height)
      (λ a i A m. subst (λ (z : ℤ). nat_abs z ≤ 4080) (sym (h.each a i A m)) (bound k (channel p a) (λ j. bytes a j A) t n i))
      q
      (subst (λ (m : ℕ). q < m) h.size l)

  -- and has room for all that the next pixel sends to it
  pub holds_room : total k ≤ 16 → ((a j : ℕ) → a < 3 → p.chosen a j ≤ 255) → (n : ℕ) (cells : List ℤ) → Holds k p n cells → Room k p.width p.height n cells
  holds_room t bytes n cells h a i A l =
      subst (λ (z : ℤ). nat_abs z + 255 * weight_to k p.width p.height n i ≤ 4080) (sym (h.each a i A l)) (room k (channel p a) (λ j. bytes a j A) t n i)

  -- ---- at the end: pixel by pixel, the cells of the picture
  three : (f : ℕ → ℤ) (a : ℕ) → a < 3 → get_or (f 0 ∷ f 1 ∷ f 2 ∷ []) a (pos 0) ≡ f a
  three f = by_channel (λ a. get_or (f 0 ∷ f 1 ∷ f 2 ∷ []) a (pos 0) ≡ f a) refl refl refl

  pub drawn : T (later k) → scatter k p (p.width * p.height) ≡ cell_buffer k p
  unfolding cell_buffer
  drawn s =
      let all : ℕ = p.width * p.height in
      let h : Holds k p all (scatter k p all) = scattered all (le_refl all) in
      gather_only 3 (cells_at k p) (λ j. refl) (pos 0) all (scatter k p all) h.size
      (λ i a l A. h.each a i A l ∙ settled k (channel p a) s all i (le_of_lt l) ∙ sym (three (λ a. cell k (channel p a) i) a A))
