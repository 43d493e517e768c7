-- `first_reply` is the number of the first reply that applies, and nothing else is; it is 0 exactly where none applies; replies behind one that applies
-- change nothing; a number that no reply has is not given. `after`: the result, or what was there. Assumes nothing.
use mathlib.Core.Path.{◌≡◌, refl, sym, ap, ◌∙◌}
use mathlib.Core.Bool.{Bool, true, false, cond, not, ◌&&◌}
use mathlib.Core.List.{List, [], ◌∷◌, ◌++◌}
use Prim.Native.Nat.{ℕ, zero, suc}
use native.Mathlib.Omega.{arith}
use lib.Dec.{T, eqb, T_not, eqb_refl}
use lib.Ieee.Fits.{and_l, and_r}
use Rattle.replies.specs.Replies.{Reply, first_reply, NoneApplies, numbered, FirstReply, after}

-- ---- the one that applies where those before it do not
pub reply_at : (xs : List Reply) (x : Reply) (ys : List Reply) → NoneApplies xs → x.applies ≡ true → first_reply (xs ++ x ∷ ys) ≡ x.number
reply_at [] x ys a e = rw e
reply_at (y ∷ xs) x ys a e = rw a.0 (reply_at xs x ys a.1 e)

-- ---- 0 where none applies, and only there
pub reply_zero : (xs : List Reply) → NoneApplies xs → first_reply xs ≡ 0
reply_zero [] a = refl
reply_zero (x ∷ xs) a = rw a.0 (reply_zero xs a.1)

pub reply_none : (xs : List Reply) → T (numbered xs) → first_reply xs ≡ 0 → NoneApplies xs
reply_none [] h e = tt
reply_none (x ∷ xs) h e = go x.applies refl e (reply_none xs (and_r (not (eqb x.number 0)) (numbered xs) h))
  where
    go : (t : Bool) → x.applies ≡ t → cond t x.number (first_reply xs) ≡ 0 → (first_reply xs ≡ 0 → NoneApplies xs) → NoneApplies (x ∷ xs)
    go true a e later = absurd (T_not (eqb x.number 0) (and_l (not (eqb x.number 0)) (numbered xs) h) (rw e (eqb_refl 0)))
    go false a e later = (a, later e)

-- ---- replies behind one that applies change nothing
pub reply_front : (xs ys : List Reply) → (first_reply xs ≡ 0 → ⊥) → first_reply (xs ++ ys) ≡ first_reply xs
reply_front [] ys n = absurd (n refl)
reply_front (x ∷ xs) ys n = go x.applies n (reply_front xs ys)
  where
    go : (t : Bool) → (cond t x.number (first_reply xs) ≡ 0 → ⊥) → ((first_reply xs ≡ 0 → ⊥) → first_reply (xs ++ ys) ≡ first_reply xs)
        → cond t x.number (first_reply (xs ++ ys)) ≡ cond t x.number (first_reply xs)
    go true n later = refl
    go false n later = later n

-- nor do replies of which none applies
pub reply_behind : (xs ys : List Reply) → NoneApplies ys → first_reply (xs ++ ys) ≡ first_reply xs
reply_behind [] ys a = reply_zero ys a
reply_behind (x ∷ xs) ys a = ap (cond x.applies x.number) (reply_behind xs ys a)

-- none applies of two lists, one behind the other
pub none_both : (xs ys : List Reply) → NoneApplies xs → NoneApplies ys → NoneApplies (xs ++ ys)
none_both [] ys a b = b
none_both (x ∷ xs) ys a b = (a.0, none_both xs ys a.1 b)

-- no reply has the number n, nor is it 0: for replies that are written out, a computed test
abbrev pub lacks : ℕ → List Reply → Bool
lacks n [] = not (eqb n 0)
lacks n (x ∷ xs) = not (eqb x.number n) && lacks n xs

-- such a number is not given
pub reply_other : (n : ℕ) (xs : List Reply) → T (lacks n xs) → first_reply xs ≡ n → ⊥
reply_other n [] h e = T_not (eqb n 0) h (rw (sym e) (eqb_refl 0))
reply_other n (x ∷ xs) h e = go x.applies (reply_other n xs (and_r (not (eqb x.number n)) (lacks n xs) h)) e
  where
    go : (t : Bool) → (first_reply xs ≡ n → ⊥) → cond t x.number (first_reply xs) ≡ n → ⊥
    go true later e = T_not (eqb x.number n) (and_l (not (eqb x.number n)) (lacks n xs) h) (rw e (eqb_refl n))
    go false later e = later e

-- a number that the last reply alone has is given only where that applies
pub reply_last : (xs : List Reply) (x : Reply) → T (lacks x.number xs) → first_reply (xs ++ x ∷ []) ≡ x.number → x.applies ≡ true
reply_last xs x h e = go x.applies refl
  where
    go : (t : Bool) → x.applies ≡ t → x.applies ≡ true
    go true a = a
    go false a = absurd (reply_other x.number xs h (sym (reply_behind xs (x ∷ []) (a, tt)) ∙ e))

-- ---- what it is
first_given : (xs : List Reply) → (first_reply xs ≡ 0 → ⊥)
    → (before : List Reply) × (x : Reply) × (behind : List Reply) × (xs ≡ before ++ x ∷ behind) × NoneApplies before × (x.applies ≡ true) ×
    (x.number ≡ first_reply xs)
first_given [] h = absurd (h refl)
first_given (y ∷ ys) h = go y.applies refl h (first_given ys)
  where
    go : (t : Bool) → y.applies ≡ t → (cond t y.number (first_reply ys) ≡ 0 → ⊥)
        → ((first_reply ys ≡ 0 → ⊥)
        → (before : List Reply) × (x : Reply) × (behind : List Reply) × (ys ≡ before ++ x ∷ behind) × NoneApplies before × (x.applies ≡ true) ×
        (x.number ≡ first_reply ys))
        → (before : List Reply) × (x : Reply) × (behind : List Reply) × (y ∷ ys ≡ before ++ x ∷ behind) × NoneApplies before × (x.applies ≡ true)
        × (x.number ≡ cond t y.number (first_reply ys))
    go true e h later = ([], y, ys, refl, tt, e, refl)
    go false e h later = let r = later h in (y ∷ r.0, r.1, r.2, ap (λ (l : List Reply). y ∷ l) r.3, (e, r.4), r.5, r.6)

pub reply_is : (xs : List Reply) → T (numbered xs) → FirstReply xs (first_reply xs)
reply_is xs h = record { given = first_given xs; none = reply_none xs h }

-- whatever is so is `first_reply`
first_so : (xs : List Reply) (r : ℕ) → FirstReply xs r → r ≡ first_reply xs
first_so xs zero f = sym (reply_zero xs (f.none refl))
first_so xs (suc r) f =
    let g = f.given (λ e. omega arith) in
    sym g.6 ∙ sym (reply_at g.0 g.1 g.2 g.4 g.5) ∙ ap first_reply (sym g.3)

pub reply_only : {xs : List Reply} {r q : ℕ} → FirstReply xs r → FirstReply xs q → r ≡ q
reply_only {xs} {r} {q} a b = first_so xs r a ∙ sym (first_so xs q b)

-- ---- a buffer after an answer
module _ {A : Type 0} where
  pub after_accepted : (r : ℕ) (result was : A) → r ≡ 0 → result ≡ after r result was
  after_accepted zero result was e = refl
  after_accepted (suc r) result was e = absurd (omega arith)

  pub after_refused : (r : ℕ) (result was : A) → (r ≡ 0 → ⊥) → was ≡ after r result was
  after_refused zero result was n = absurd (n refl)
  after_refused (suc r) result was n = refl
