-- Thresholds. The answer by what a number stands for, and its number of document 01; the exact value of a threshold, (2 entry + 1) / 2n, strictly
-- between 0 and 1; and that only the remainders of x and y by the matrix size count. What holds of each matrix is one computed test over the
-- table. Assumes nothing.
use mathlib.Core.Path.{◌≡◌, refl, sym, ap, ◌∙◌, subst}
use mathlib.Core.Bool.{Bool, true, false, cond, not, ◌&&◌, ◌||◌}
use mathlib.Core.List.{List, [], ◌∷◌}
use Prim.Native.Nat.{ℕ, ◌+◌, ◌*◌, ◌%◌, ◌^◌, ◌<◌}
use native.Mathlib.Nat.{mul_comm, mul-one}
use native.Mathlib.Omega.{arith}
use lib.Dec.{T, eqb, leb, ltb, ltb→lt, eqb→eq, lit≤, lit<}
use lib.IntN.{pos}
use lib.ListN.{length, get_or}
use lib.Ieee.{Float, nan, inf, fin, up, down, binary32, round, add, div, of_int, of_bits, lt}
use lib.Ieee.Exact.{HasValue}
use lib.Ieee.Fits.{and_l, and_r}
use Rattle.std.specs.Prelude.{Option, Result, Ok, Err}
use Rattle.replies.specs.Replies.{◌if◌, first_reply, FirstReply}
use Rattle.replies.specs.Refusals.{number_of, Answered}
use Rattle.replies.specs.declared.Refusal.{Refusal}
use Rattle.replies.specs.declared.Refusal.TheVariants.{KindOrShift, NoMatrix, RetiredKind}
use Rattle.replies.proofs.AnswerLaws.{answered, answers_first}
use Rattle.lists.proofs.Computed.{all, all_at}
use Rattle.floats.specs.Over.{over, wholef}
use Rattle.floats.specs.Bounds.{Upto}
use Rattle.floats.specs.Bytes.{zero_f, one_f}
use Rattle.floats.proofs.At.{div_at}
use Rattle.floats.proofs.Over.{over_value, of_int_over, add-over}
use Rattle.floats.proofs.Sixteenths.{over_scale}
use Rattle.floats.proofs.Within.{round_upto}
use Rattle.patterns.specs.declared.Dither.{Dither}
use Rattle.patterns.specs.Kinds.{kind_of, Way, plain, ordered, diffused, retired, none, way_in, way_of, is_way, is_gone, has_matrix, is_kind, is_retired, is_ordered}
use Rattle.patterns.specs.Thresholds.{threshold_from, entry, threshold_in, threshold_at}
use Rattle.patterns.specs.Thresholds.{threshold_replies, OrderedThresholdAnswered, threshold_of}
use Rattle.patterns.proofs.Numbers.{of_all, kind_is, retired_is, ordered_is, ordered_way}

-- ---- the literals of the code
pub half : of_bits binary32 0x3f00_0000 ≡ over 2 (pos 1)
unfolding of_bits over round
half = refl

pub two : of_bits binary32 0x4000_0000 ≡ wholef (pos 2)
unfolding of_bits over round
two = refl

pub four : of_bits binary32 0x4080_0000 ≡ wholef (pos 4)
unfolding of_bits over round
four = refl

pub sixty_four : of_bits binary32 0x4280_0000 ≡ wholef (pos 64)
unfolding of_bits over round
sixty_four = refl

-- ---- the answer
-- the answer by how a kind dithers: the threshold, 9 where there is no matrix, 15 where it is retired, 1 where there is no kind
abbrev pub answer_in : Way → ℕ → ℕ → Result Float Refusal
answer_in plain x y = Err NoMatrix
answer_in (ordered m n) x y = Ok (threshold_in (ordered m n) x y)
answer_in (diffused k h) x y = Err NoMatrix
answer_in retired x y = Err RetiredKind
answer_in none x y = Err KindOrShift

-- it is the promised one
way_promised : (w : Way) (x y : ℕ)
    → Answered ((1 if not (is_way w)) ∷ (15 if is_gone w) ∷ (9 if not (has_matrix w)) ∷ []) (threshold_in w x y) (answer_in w x y)
way_promised plain x y = record { number = refl; answer = refl }
way_promised (ordered m n) x y = record { number = refl; answer = refl }
way_promised (diffused k h) x y = record { number = refl; answer = refl }
way_promised retired x y = record { number = refl; answer = refl }
way_promised none x y = record { number = refl; answer = refl }

module _ (k x y : ℕ) where
  answer_promised : OrderedThresholdAnswered k x y (answer_in (way_of k) x y)
  unfolding is_kind is_retired is_ordered threshold_at
  answer_promised = way_promised (way_of k) x y

  answer_by : answer_in (way_of k) x y ≡ threshold_of k x y
  answer_by = answered _ _ _ answer_promised

  pub threshold_promised : {r : Result Float Refusal} → r ≡ threshold_of k x y → OrderedThresholdAnswered k x y r
  threshold_promised e = subst (OrderedThresholdAnswered k x y) (answer_by ∙ sym e) answer_promised

  -- by what the number stands for
  pub promised_as : {o : Option Dither} → kind_of k ≡ o → OrderedThresholdAnswered k x y (answer_in (way_in o) x y)
  unfolding way_of
  promised_as e = subst (λ (v : Option Dither). OrderedThresholdAnswered k x y (answer_in (way_in v) x y)) e answer_promised

  -- 1 exactly above 10, 15 exactly for 5 and 6, 9 exactly for 0, 9 and 10
  pub number_is : number_of (threshold_of k x y) ≡ cond (leb k 10) (cond (eqb k 5 || eqb k 6) 15 (cond ((leb 1 k && leb k 4) || (eqb k 7 || eqb k 8)) 0 9)) 1
  number_is =
      (threshold_promised refl).number
      ∙ (λ i. first_reply ((1 if not (kind_is k i)) ∷ (15 if retired_is k i) ∷ (9 if not (ordered_is k i)) ∷ []))
      ∙ other (leb k 10) (eqb k 5 || eqb k 6) ((leb 1 k && leb k 4) || (eqb k 7 || eqb k 8))
    where
      other : (s t u : Bool) → ◌≡◌ {A = ℕ} (cond (not s) 1 (cond t 15 (cond (not u) 9 0))) (cond s (cond t 15 (cond u 0 9)) 1)
      other true true u = refl
      other true false true = refl
      other true false false = refl
      other false t u = refl

  -- and it is the first that applies
  pub threshold_first : {r : Result Float Refusal} → OrderedThresholdAnswered k x y r → FirstReply (threshold_replies k) (number_of r)
  threshold_first p = answers_first _ _ _ tt p

-- an ordered kind's answer is its threshold
pub ordered_answer : (k x y : ℕ) → T (is_ordered k) → threshold_of k x y ≡ Ok (threshold_at k x y)
unfolding is_ordered threshold_at
ordered_answer k x y h = sym (answer_by k x y) ∙ go (way_of k) h
  where
    go : (w : Way) → T (has_matrix w) → answer_in w x y ≡ Ok (threshold_in w x y)
    go plain h = absurd h
    go (ordered m n) h = refl
    go (diffused k l) h = absurd h
    go retired h = absurd h
    go none h = absurd h

-- ---- only the remainders by the matrix size count
abbrev pub size_in : Way → ℕ
size_in plain = 0
size_in (ordered m n) = length m
size_in (diffused k h) = 0
size_in retired = 0
size_in none = 0

pub repeats : (k x y x' y' : ℕ) → x % size_in (way_of k) ≡ x' % size_in (way_of k) → y % size_in (way_of k) ≡ y' % size_in (way_of k)
    → threshold_of k x y ≡ threshold_of k x' y'
repeats k x y x' y' p q = sym (answer_by k x y) ∙ go (way_of k) p q ∙ answer_by k x' y'
  where
    go : (w : Way) → x % size_in w ≡ x' % size_in w → y % size_in w ≡ y' % size_in w → answer_in w x y ≡ answer_in w x' y'
    go plain p q = refl
    go (ordered m n) p q = λ i. Ok (threshold_from (get_or (get_or m (q i) []) (p i) 0) (wholef (pos n)))
    go (diffused k h) p q = refl
    go retired p q = refl
    go none p q = refl

-- ---- the value: (2 entry + 1) / 2n
plus_half : (e : ℕ) → e < 256 → add binary32 (of_int binary32 (pos e)) (over 2 (pos 1)) ≡ over 2 (pos (2 * e + 1))
plus_half e E =
    let double : e * 2 < 2 ^ 24 = omega arith in
    ap (λ (v : Float). add binary32 v (over 2 (pos 1))) (of_int_over (pos e) ∙ sym (over_scale 1 (pos e) 2 (lit< tt) (lit< tt)))
    ∙ add-over 1 (pos (e * 2)) (pos 1) (lit≤ tt) double (lit< tt)
    ∙ ap (λ (z : ℕ). over 2 (pos (z + 1))) (mul_comm e 2)

pub threshold_is_lem : (e n : ℕ) → e < 256 → 0 < n → n < 256 → threshold_from e (wholef (pos n)) ≡ over (2 * n) (pos (2 * e + 1))
unfolding threshold_from over
threshold_is_lem e n E P N =
    let small : 2 * e + 1 < 2 ^ 24 = omega arith in
    ap (λ (v : Float). div binary32 v (wholef (pos n))) (plus_half e E)
    ∙ div_at binary32 (over 2 (pos (2 * e + 1))) (wholef (pos n)) false false (2 * e + 1) 2 n 1 (lit< tt) (lit< tt) P
    (over_value 1 (pos (2 * e + 1)) (lit≤ tt) small) (over_value 0 (pos n) (lit≤ tt) (omega arith))
    ∙ (λ i. round binary32 false (mul-one (2 * e + 1) i) (mul_comm n 2 i))

-- ---- the matrices of the table
-- a matrix whose rows are as many as its columns
abbrev pub square : Way → Bool
square plain = true
square (ordered m n) = all (λ (r : List ℕ). eqb (length r) (length m)) m
square (diffused k h) = true
square retired = true
square none = true

pub squares : (k : ℕ) → T (square (way_of k))
unfolding way_of kind_of
squares k = of_all square refl refl k

-- t is exactly a / c, and not negative
abbrev exactly : Float → ℕ → ℕ → Bool
exactly nan a c = false
exactly (inf s) a c = false
exactly (fin true m e) a c = false
exactly (fin false m e) a c = eqb (m * up e * c) (a * down e)

exact_value : (t : Float) (a c : ℕ) → T (exactly t a c) → HasValue t false a c
exact_value nan a c h = absurd h
exact_value (inf s) a c h = absurd h
exact_value (fin true m e) a c h = absurd h
exact_value (fin false m e) a c h = (refl, eqb→eq (m * up e * c) (a * down e) h)

-- the entry is below n, and its threshold exact and strictly between 0 and 1
strict : ℕ → ℕ → Bool
strict n e =
    let t = over (2 * n) (pos (2 * e + 1)) in
    ltb e n && (exactly t (2 * e + 1) (2 * n) && (lt zero_f t && lt t one_f))

-- n is from 1 to 255, and each entry is strict, as is the 0 that stands for none
good : Way → Bool
good plain = true
good (ordered m n) = (ltb 0 n && ltb n 256) && (strict n 0 && all (all (strict n)) m)
good (diffused k h) = true
good retired = true
good none = true

goods : (k : ℕ) → T (good (way_of k))
unfolding way_of kind_of over round lt good strict
goods k = of_all good refl refl k

-- ---- an ordered kind's threshold: exactly (2 e + 1) / 2n, which is the nearest f32 to it, and strictly between 0 and 1
pub record Fraction (e n : ℕ) (t : Float) : Type 0 where
  pub entry_below : e < n
  pub value : HasValue t false (2 * e + 1) (2 * n)
  pub nearest : t ≡ over (2 * n) (pos (2 * e + 1))
  pub above_0 : T (lt zero_f t)
  pub below_1 : T (lt t one_f)
  pub finite : Upto 1 t

strict_fraction : (e n : ℕ) → 0 < n → n < 256 → T (strict n e) → Fraction e n (threshold_from e (wholef (pos n)))
unfolding strict
strict_fraction e n P N s =
    let t : Float = over (2 * n) (pos (2 * e + 1)) in
    let inside : e < n = ltb→lt e n (and_l (ltb e n) (exactly t (2 * e + 1) (2 * n) && (lt zero_f t && lt t one_f)) s) in
    let rest = and_r (ltb e n) (exactly t (2 * e + 1) (2 * n) && (lt zero_f t && lt t one_f)) s in
    let parts = and_r (exactly t (2 * e + 1) (2 * n)) (lt zero_f t && lt t one_f) rest in
    let is : t ≡ threshold_from e (wholef (pos n)) = sym (threshold_is_lem e n (omega arith) P N) in
    record {
      entry_below = inside;
      value =
          subst (λ (v : Float). HasValue v false (2 * e + 1) (2 * n)) is
          (exact_value t (2 * e + 1) (2 * n) (and_l (exactly t (2 * e + 1) (2 * n)) (lt zero_f t && lt t one_f) rest));
      nearest = sym is;
      above_0 = subst (λ (v : Float). T (lt zero_f v)) is (and_l (lt zero_f t) (lt t one_f) parts);
      below_1 = subst (λ (v : Float). T (lt v one_f)) is (and_r (lt zero_f t) (lt t one_f) parts);
      finite = subst (λ (v : Float). Upto 1 v) is (unfold over in round_upto 1 (2 * e + 1) (2 * n) (omega arith) (lit≤ tt) (omega arith));
    }

pub fraction : (k x y n : ℕ) (m : List (List ℕ)) → way_of k ≡ ordered m n → Fraction (entry m x y) n (threshold_at k x y)
unfolding threshold_at good
fraction k x y n m e =
    let g = subst (λ (w : Way). T (good w)) e (goods k) in
    let sizes = and_l (ltb 0 n && ltb n 256) (strict n 0 && all (all (strict n)) m) g in
    let entries = and_r (ltb 0 n && ltb n 256) (strict n 0 && all (all (strict n)) m) g in
    let zero = and_l (strict n 0) (all (all (strict n)) m) entries in
    let rows = and_r (strict n 0) (all (all (strict n)) m) entries in
    let here = all_at (strict n) (get_or m (y % length m) []) 0 zero (all_at (all (strict n)) m [] tt rows (y % length m)) (x % length m) in
    subst (λ (w : Way). Fraction (entry m x y) n (threshold_in w x y)) (sym e)
    (strict_fraction (entry m x y) n (ltb→lt 0 n (and_l (ltb 0 n) (ltb n 256) sizes)) (ltb→lt n 256 (and_r (ltb 0 n) (ltb n 256) sizes)) here)

pub strictly_between : (k x y : ℕ) → T (is_ordered k) → T (lt zero_f (threshold_at k x y)) × T (lt (threshold_at k x y) one_f) × Upto 1 (threshold_at k x y)
strictly_between k x y h =
    let w = ordered_way k h in
    let b = fraction k x y w.1 w.0 w.2 in
    (b.above_0, b.below_1, b.finite)
