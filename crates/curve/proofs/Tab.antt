-- A list made by a rule: its length, its elements, its pieces, and that equal rules make equal lists.
use mathlib.Core.Path.{◌≡◌, refl, sym, ap, ◌∙◌}
use mathlib.Core.List.{◌∷◌, ◌++◌}
use Prim.Native.Nat.{ℕ, zero, suc, suc-le-suc, ◌+◌, ◌<◌}
use native.Mathlib.Nat.{add-zero, zero-add, add-suc, suc-add, not-suc-le-zero, le_of_suc-le-suc, zero-lt-suc}
use lib.ListN.{length, get_or}
use Rattle.curve.specs.Tab.{tab}

module _ {A : Type 0} where
  pub length-tab : (f : ℕ → A) (i n : ℕ) → length (tab f i n) ≡ n
  unfolding tab
  length-tab f i zero = refl
  length-tab f i (suc n) = ap suc (length-tab f (suc i) n)

  pub get_or-tab : (f : ℕ → A) (i n k : ℕ) → k < n → (d : A) → get_or (tab f i n) k d ≡ f (i + k)
  unfolding tab
  get_or-tab f i zero k h d = absurd (not-suc-le-zero h)
  get_or-tab f i (suc n) zero h d = ap f (sym (add-zero i))
  get_or-tab f i (suc n) (suc k) h d = get_or-tab f (suc i) n k (le_of_suc-le-suc h) d ∙ ap f (suc-add i k ∙ sym (add-suc i k))

  pub tab-append : (f : ℕ → A) (i m n : ℕ) → tab f i (m + n) ≡ tab f i m ++ tab f (i + m) n
  unfolding tab
  tab-append f i zero n = ap (tab f i) (zero-add n) ∙ ap (λ (j : ℕ). tab f j n) (sym (add-zero i))
  tab-append f i (suc m) n =
      ap (tab f i) (suc-add m n) ∙ ap (λ l. f i ∷ l) (tab-append f (suc i) m n ∙ ap (λ (j : ℕ). tab f (suc i) m ++ tab f j n) (suc-add i m ∙ sym (add-suc i m)))

  -- two rules that agree at each of n places, counted from i and from j
  pub tab-same : (f g : ℕ → A) (i j n : ℕ) → ((k : ℕ) → k < n → f (i + k) ≡ g (j + k)) → tab f i n ≡ tab g j n
  unfolding tab
  tab-same f g i j zero e = refl
  tab-same f g i j (suc n) e =
      ap (λ x. x ∷ tab f (suc i) n) (ap f (sym (add-zero i)) ∙ e 0 (zero-lt-suc n) ∙ ap g (add-zero j))
      ∙ ap (λ l. g j ∷ l) (tab-same f g (suc i) (suc j) n (λ k h. ap f (suc-add i k ∙ sym (add-suc i k)) ∙ e (suc k) (suc-le-suc h) ∙ ap g (sym (suc-add j k ∙ sym (add-suc j k)))))
