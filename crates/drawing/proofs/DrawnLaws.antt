-- A drawn picture: each choice follows from the choices before it (`drawn_is`), and no other choices do (`drawn_only`); what the choice is at one
-- pixel: skipped, diffused, and neither. Assumes nothing.
use mathlib.Core.Path.{◌≡◌, refl, sym, ap, ◌∙◌}
use mathlib.Core.Logic.{⊎_elim}
use mathlib.Core.Bool.{true, false, cond}
use mathlib.Core.List.{List, [], ◌∷◌, ◌++◌}
use Prim.Native.Nat.{ℕ, zero, suc, ◌+◌, ◌/◌, ◌%◌, ◌<◌}
use native.Mathlib.Nat.{not-suc-le-zero, le_of_suc-le-suc, eq-or-lt_of_le, add-zero}
use native.Mathlib.Omega.{arith}
use lib.ListN.{length, get_or, length-append, get_or-append}
use lib.Seq.{get_or-append-add}
use Rattle.color.specs.declared.ReducedColor.{ReducedColor}
use Rattle.color.specs.Color.{rgba, transparent_reduced}
use Rattle.patterns.specs.Kinds.{is_diffusion, kernel_of}
use Rattle.diffusion.specs.Biased.{biased_of}
use Rattle.diffusion.specs.Diffusion.{channel, biased, Alike}
use Rattle.diffusion.specs.Sends.{byte_in}
use Rattle.diffusion.proofs.Received.{cell_same}
use Rattle.drawing.specs.Drawing.{Drawing, nearest_color, color_at, picture_of, biased_in, biased_at, dithered_at, choice_at, Drawn, choices, drawn}

module _ (d : Drawing) where
  -- ---- a choice follows from the choices before it alone
  module _ (f g : ℕ → ReducedColor) (i : ℕ) (same : (j : ℕ) → j < i → f j ≡ g j) where
    alike : (a : ℕ) → Alike (channel (picture_of d f) a) (channel (picture_of d g) a) i
    alike a = record {
      width = refl;
      height = refl;
      dithered = λ j h. refl;
      source = λ j h. refl;
      chosen = λ j h e. ap (λ (c : ReducedColor). byte_in a (d.normalize c).0) (same j h);
    }

    biased_same : (a : ℕ) → biased_in d f a i ≡ biased_in d g a i
    unfolding biased
    biased_same a =
        ap (biased_of (byte_in a (d.source i).0)) (cell_same (channel (picture_of d f) a) (channel (picture_of d g) a) (kernel_of d.kind) i (alike a))

    color_same : biased_at d f i ≡ biased_at d g i
    unfolding biased_at
    color_same = λ q. record { 0 = rgba (biased_same 0 q) (biased_same 1 q) (biased_same 2 q) (d.source i).0.a }

    choice_same : choice_at d f i ≡ choice_at d g i
    unfolding choice_at dithered_at
    choice_same = λ q.
        cond (d.skipped i) (d.reduced i)
        (cond (is_diffusion d.kind) (nearest_color d.candidates (color_same q))
        (color_at d.candidates d.kind d.bracket_width (d.origin_x + i % d.width) (d.origin_y + i / d.width) (d.source i)))

  -- ---- the growing list of choices
  choices-length : (n : ℕ) → length (choices d n) ≡ n
  unfolding choices
  choices-length zero = refl
  choices-length (suc n) =
      length-append (choices d n) (choice_at d (λ j. get_or (choices d n) j transparent_reduced) n ∷ []) ∙ omega (arith, choices-length n)

  choices_at : (n i : ℕ) → i < n → get_or (choices d n) i transparent_reduced ≡ drawn d i
  unfolding choices drawn
  choices_at zero i h = absurd (not-suc-le-zero h)
  choices_at (suc n) i h =
      ⊎_elim
      (λ (e : i ≡ n). rw e (ap (λ (m : ℕ). get_or (choices d n ++ last) m transparent_reduced) (sym (add-zero (length (choices d n)) ∙ choices-length n)) ∙ here))
      (λ (l : i < n). get_or-append (choices d n) last transparent_reduced i (rw (choices-length n) l) ∙ choices_at n i l)
      (eq-or-lt_of_le (le_of_suc-le-suc h))
    where
      last : List ReducedColor
      last = choice_at d (λ j. get_or (choices d n) j transparent_reduced) n ∷ []

      here : get_or (choices d n ++ last) (length (choices d n) + 0) transparent_reduced ≡ choice_at d (λ j. get_or (choices d n) j transparent_reduced) n
      here = get_or-append-add (choices d n) last 0 transparent_reduced

  -- ---- what a drawn picture is, and all that it is
  drawn_choice : (i : ℕ) → drawn d i ≡ choice_at d (drawn d) i
  unfolding drawn
  drawn_choice i = choice_same (λ j. get_or (choices d i) j transparent_reduced) (drawn d) i (λ j h. choices_at i j h)

  pub drawn_is : (n : ℕ) → Drawn d (drawn d) n
  drawn_is n i h = drawn_choice i

  pub drawn_only : (chosen : ℕ → ReducedColor) (n : ℕ) → Drawn d chosen n → (i : ℕ) → i < n → chosen i ≡ drawn d i
  drawn_only chosen zero all i h = absurd (not-suc-le-zero h)
  drawn_only chosen (suc n) all i h =
      all i h ∙ choice_same chosen (drawn d) i (λ j l. drawn_only chosen n (λ k m. all k (omega arith)) j (omega arith)) ∙ sym (drawn_choice i)

  -- ---- what it is at one pixel
  pub drawn_skipped : (i : ℕ) → d.skipped i ≡ true → drawn d i ≡ d.reduced i
  unfolding drawn choice_at
  drawn_skipped i s = rw s

  module _ (i : ℕ) (s : d.skipped i ≡ false) where
    pub drawn_dithered : drawn d i ≡ dithered_at d (drawn d) i
    unfolding choice_at
    drawn_dithered = drawn_choice i ∙ rw s

    pub drawn_plain : is_diffusion d.kind ≡ false
        → drawn d i ≡ color_at d.candidates d.kind d.bracket_width (d.origin_x + i % d.width) (d.origin_y + i / d.width) (d.source i)
    unfolding dithered_at
    drawn_plain k = drawn_dithered ∙ rw k

    pub drawn_diffused : is_diffusion d.kind ≡ true → drawn d i ≡ nearest_color d.candidates (biased_at d (drawn d) i)
    unfolding dithered_at
    drawn_diffused k = drawn_dithered ∙ rw k
