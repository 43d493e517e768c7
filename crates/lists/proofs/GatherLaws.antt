-- `gather`: its length and its elements, which determine it, as its pieces do. `filled`: no piece, one more, all, and what is read meanwhile.
-- Over the element type and the piece size k. Assumes nothing.
use mathlib.Core.Path.{◌≡◌, refl, sym, ◌∙◌, ap, subst}
use mathlib.Core.Logic.{⊎_elim}
use mathlib.Core.List.{List, [], ◌∷◌, ◌++◌, append-nil}
use Prim.Native.Nat.{ℕ, zero, suc, ◌+◌, ◌-◌, ◌*◌, ◌/◌, ◌%◌, ◌≤◌, ◌<◌}
use native.Mathlib.Nat.{mul-zero, zero-mul, mul_comm, mul-suc, one-mul, mul-le-mul_left}
use native.Mathlib.Nat.{eq-or-lt_of_le, le_of_suc-le-suc, not-suc-le-zero, div-add-mod, mod-lt, div-lt_iff_lt-mul}
use native.Mathlib.Numerals.{add-one}
use native.Mathlib.Omega.{arith}
use lib.ListN.{length, get_or, take, drop, set, replicate, get_or-append, length-append, length-drop, replicate-append-replicate}
use lib.Seq.{sets, sets-eq, take_at, drop-length, drop-drop, drop-append-add, get_or-append-add, get_or-drop, ext_get_or}
use Rattle.lists.specs.Gather.{gather, filled}

module _ {A : Type 0} where
  -- ---- equal pieces, equal lists
  pub gather_same : {piece other : ℕ → List A} (n : ℕ) → ((i : ℕ) → i < n → piece i ≡ other i) → gather n piece ≡ gather n other
  unfolding gather
  gather_same zero e = refl
  gather_same {piece} {other} (suc n) e =
      ap (λ (l : List A). l ++ piece n) (gather_same n (λ i h. e i (omega arith))) ∙ ap (λ (l : List A). gather n other ++ l) (e n (omega arith))

  -- one value at every position
  pub gather-replicate : (n : ℕ) (v : A) → gather n (λ _. v ∷ []) ≡ replicate n v
  unfolding gather
  gather-replicate zero v = refl
  gather-replicate (suc n) v =
      ap (λ (l : List A). l ++ (v ∷ [])) (gather-replicate n v) ∙ replicate-append-replicate n 1 v ∙ ap (λ (m : ℕ). replicate m v) (add-one n)

  -- no piece in place, and all of them
  pub filled_none : (k : ℕ) (piece : ℕ → List A) (d : List A) → d ≡ filled k 0 piece d
  unfolding gather
  filled_none k piece d = rw mul-zero

  pub filled_all : (k : ℕ) (piece : ℕ → List A) (d : List A) (n : ℕ) → length d ≡ k * n → filled k n piece d ≡ gather n piece
  filled_all k piece d n h = rw (← h, drop-length) (append-nil (gather n piece))

  module _ (k : ℕ) (piece : ℕ → List A) (long : (j : ℕ) → length (piece j) ≡ k) where
    pub gather-length : (n : ℕ) → length (gather n piece) ≡ k * n
    unfolding gather
    gather-length zero = sym (mul-zero k)
    gather-length (suc n) = length-append (gather n piece) (piece n) ∙ rw (gather-length n, long n, mul-suc)

    -- a position inside piece i is inside the first n pieces
    inside : {n i j : ℕ} → i < n → j < k → k * i + j < k * n
    inside {n} {i} {j} h l = omega (arith, mul-le-mul_left k h, mul-suc k i)

    -- element j of piece i
    pub gather_at : (z : A) (n i j : ℕ) → i < n → j < k → get_or (gather n piece) (k * i + j) z ≡ get_or (piece i) j z
    unfolding gather
    gather_at z zero i j h l = absurd (not-suc-le-zero h)
    gather_at z (suc n) i j h l =
        let len : length (gather n piece) ≡ k * n = gather-length n in
        ⊎_elim
        (λ (e : i ≡ n). rw e (ap (λ (m : ℕ). get_or (gather n piece ++ piece n) (m + j) z) (sym len) ∙ get_or-append-add (gather n piece) (piece n) j z))
        (λ (p : i < n). get_or-append (gather n piece) (piece n) z (k * i + j) (rw len (inside p l)) ∙ gather_at z n i j p l)
        (eq-or-lt_of_le (le_of_suc-le-suc h))

    -- a list of that length with those elements is the gathered one
    pub gather_only : (z : A) (n : ℕ) (l : List A) → length l ≡ k * n → ((i j : ℕ) → i < n → j < k → get_or l (k * i + j) z ≡ get_or (piece i) j z)
        → l ≡ gather n piece
    gather_only z n l len at = ext_get_or z l (gather n piece) (len ∙ sym (gather-length n)) (λ m h. go m (subst (λ (x : ℕ). m < x) len h))
      where
        some : (k' m : ℕ) → m < k' * n → 0 < k'
        some zero m h = absurd (omega (arith, subst (λ (x : ℕ). m < x) (zero-mul n) h))
        some (suc k') m h = omega arith

        go : (m : ℕ) → m < k * n → get_or l m z ≡ get_or (gather n piece) m z
        go m h =
            let pos : 0 < k = some k m h in
            let i = m / k in
            let j = m % k in
            let hi : i < n = (div-lt_iff_lt-mul pos).1 (subst (λ (x : ℕ). m < x) (mul_comm k n) h) in
            let hj : j < k = mod-lt m pos in
            subst (λ (x : ℕ). get_or l x z ≡ get_or (gather n piece) x z) (div-add-mod m k) (at i j hi hj ∙ sym (gather_at z n i j hi hj))

    -- ---- a buffer d that is filled from the front, a piece a turn
    pub filled-length : (d : List A) (n : ℕ) → k * n ≤ length d → length (filled k n piece d) ≡ length d
    filled-length d n h = length-append (gather n piece) (drop (k * n) d) ∙ rw (gather-length n, length-drop) (omega arith)

    -- piece n stored where it belongs
    pub filled_more : (d : List A) (n : ℕ) → k * (n + 1) ≤ length d → sets (filled k n piece d) (k * n) (piece n) ≡ filled k (n + 1) piece d
    unfolding gather
    filled_more d n h =
        let g : gather (n + 1) piece ≡ gather n piece ++ piece n = rw add-one in
        let len : length (gather n piece) ≡ k * n = gather-length n in
        let more : k * (n + 1) ≡ k * n + k = ap (λ (m : ℕ). k * m) (add-one n) ∙ mul-suc k n in
        let rest : drop (k * n + k) (filled k n piece d) ≡ drop (k * (n + 1)) d =
        ap (λ (m : ℕ). drop (m + k) (filled k n piece d)) (sym len) ∙ drop-append-add (gather n piece) (drop (k * n) d) k ∙ drop-drop k (k * n) d ∙ ap
        (λ (m : ℕ). drop m d) (sym more) in
        sets-eq (piece n) (filled k n piece d) (k * n) (rw (long n, filled-length d n (omega arith)) (omega arith))
        ∙ rw (take_at (gather n piece) (drop (k * n) d) (k * n) len, long n, rest, g)

    -- element j of piece i, once it is in place
    pub filled_at : (z : A) (d : List A) (n i j : ℕ) → i < n → j < k → get_or (filled k n piece d) (k * i + j) z ≡ get_or (piece i) j z
    filled_at z d n i j h l = get_or-append (gather n piece) (drop (k * n) d) z (k * i + j) (rw (gather-length n) (inside h l)) ∙ gather_at z n i j h l

    -- the part that is filled
    pub filled_front : (d : List A) (n : ℕ) → take (k * n) (filled k n piece d) ≡ gather n piece
    filled_front d n = take_at (gather n piece) (drop (k * n) d) (k * n) (gather-length n)

    -- what is not filled yet is as it was
    pub filled_rest : (z : A) (d : List A) (n m : ℕ) → k * n ≤ m → get_or (filled k n piece d) m z ≡ get_or d m z
    filled_rest z d n m h =
        let e : k * n + (m - k * n) ≡ m = omega arith in
        let len : length (gather n piece) ≡ k * n = gather-length n in
        subst (λ (x : ℕ). get_or (filled k n piece d) x z ≡ get_or d x z) e
        (subst (λ (x : ℕ). get_or (filled k n piece d) (x + (m - k * n)) z ≡ get_or d (k * n + (m - k * n)) z) len
        (get_or-append-add (gather n piece) (drop (k * n) d) (m - k * n) z ∙ get_or-drop (k * n) d (m - k * n) z))

  -- pieces of one element: one store
  pub filled-set : (f : ℕ → A) (d : List A) (n : ℕ) → n < length d → set (filled 1 n (λ j. f j ∷ []) d) n (f n) ≡ filled 1 (n + 1) (λ j. f j ∷ []) d
  filled-set f d n h =
      ap (λ (m : ℕ). set (filled 1 n (λ j. f j ∷ []) d) m (f n)) (sym (one-mul n)) ∙ filled_more 1 (λ j. f j ∷ []) (λ j. refl) d n (omega arith)
