-- Identities of whole numbers with a sign, decided by computation: an expression over variables has a normal form, a sum of monomials with each
-- monomial's variables in order; where the normal form of a difference has only zero coefficients the two sides are equal at all values (`solve`).
use mathlib.Core.Path.{◌≡◌, refl, sym, ap, ◌∙◌}
use mathlib.Core.Bool.{Bool, true, false, not, ◌&&◌, cond}
use mathlib.Core.List.{List, [], ◌∷◌}
use Prim.Native.Nat.{ℕ, zero, suc}
use lib.Dec.{T, leb, eqb, eqb→eq}
use lib.IntN.{ℤ, pos, negsuc, neg_ℤ, pred_ℤ, ◌+ℤ◌, ◌-ℤ◌, ◌*ℤ◌, +ℤ_idl, +ℤ_idr, +ℤ_assoc, +ℤ_comm, +ℤ_invr, +ℤ-suc_ℤ, +ℤ-pred_ℤ, zero-*ℤ, *ℤ-zero, *ℤ_comm, suc_ℤ-*ℤ, pred_ℤ-*ℤ, -ℤ-+ℤ_cancel, one, *ℤ-one}

-- ---- the ring laws that the library lacks

+ℤ-swap : (a b c : ℤ) → a +ℤ (b +ℤ c) ≡ b +ℤ (a +ℤ c)
+ℤ-swap a b c = sym (+ℤ_assoc a b c) ∙ ap (λ x. x +ℤ c) (+ℤ_comm a b) ∙ +ℤ_assoc b a c

pub *ℤ-distrib-r : (m n k : ℤ) → (m +ℤ n) *ℤ k ≡ m *ℤ k +ℤ n *ℤ k
*ℤ-distrib-r m (pos zero) k = ap (λ x. x *ℤ k) (+ℤ_idr m) ∙ sym (ap (λ x. m *ℤ k +ℤ x) (zero-*ℤ k) ∙ +ℤ_idr (m *ℤ k))
*ℤ-distrib-r m (pos (suc n)) k =
    ap (λ x. x *ℤ k) (+ℤ-suc_ℤ m (pos n))
    ∙ suc_ℤ-*ℤ (m +ℤ pos n) k
    ∙ ap (λ x. x +ℤ k) (*ℤ-distrib-r m (pos n) k)
    ∙ +ℤ_assoc (m *ℤ k) (pos n *ℤ k) k
    ∙ ap (λ x. m *ℤ k +ℤ x) (sym (suc_ℤ-*ℤ (pos n) k))
*ℤ-distrib-r m (negsuc zero) k =
    ap (λ x. x *ℤ k) (+ℤ-pred_ℤ m (pos zero) ∙ ap pred_ℤ (+ℤ_idr m))
    ∙ pred_ℤ-*ℤ m k
    ∙ ap (λ x. m *ℤ k +ℤ x) (sym (pred_ℤ-*ℤ (pos zero) k ∙ ap (λ x. x -ℤ k) (zero-*ℤ k) ∙ +ℤ_idl (neg_ℤ k)))
*ℤ-distrib-r m (negsuc (suc n)) k =
    ap (λ x. x *ℤ k) (+ℤ-pred_ℤ m (negsuc n))
    ∙ pred_ℤ-*ℤ (m +ℤ negsuc n) k
    ∙ ap (λ x. x -ℤ k) (*ℤ-distrib-r m (negsuc n) k)
    ∙ +ℤ_assoc (m *ℤ k) (negsuc n *ℤ k) (neg_ℤ k)
    ∙ ap (λ x. m *ℤ k +ℤ x) (sym (pred_ℤ-*ℤ (negsuc n) k))

pub *ℤ-distrib-l : (k m n : ℤ) → k *ℤ (m +ℤ n) ≡ k *ℤ m +ℤ k *ℤ n
*ℤ-distrib-l k m n = *ℤ_comm k (m +ℤ n) ∙ *ℤ-distrib-r m n k ∙ ap (λ x. x +ℤ n *ℤ k) (*ℤ_comm m k) ∙ ap (λ x. k *ℤ m +ℤ x) (*ℤ_comm n k)

-- -1 times a number is its negation
*ℤ-minus : (k : ℤ) → negsuc 0 *ℤ k ≡ neg_ℤ k
*ℤ-minus k = pred_ℤ-*ℤ (pos zero) k ∙ ap (λ x. x -ℤ k) (zero-*ℤ k) ∙ +ℤ_idl (neg_ℤ k)

negℤ-* : (m k : ℤ) → neg_ℤ m *ℤ k ≡ neg_ℤ (m *ℤ k)
negℤ-* m k =
    sym (+ℤ_idl (neg_ℤ m *ℤ k))
    ∙ ap (λ x. x +ℤ neg_ℤ m *ℤ k) (sym (+ℤ_invr (m *ℤ k)) ∙ +ℤ_comm (m *ℤ k) (neg_ℤ (m *ℤ k)))
    ∙ +ℤ_assoc (neg_ℤ (m *ℤ k)) (m *ℤ k) (neg_ℤ m *ℤ k)
    ∙ ap (λ x. neg_ℤ (m *ℤ k) +ℤ x) (sym (*ℤ-distrib-r m (neg_ℤ m) k) ∙ ap (λ x. x *ℤ k) (+ℤ_invr m) ∙ zero-*ℤ k)
    ∙ +ℤ_idr (neg_ℤ (m *ℤ k))

pub *ℤ-assoc : (m n k : ℤ) → m *ℤ n *ℤ k ≡ m *ℤ (n *ℤ k)
*ℤ-assoc (pos zero) n k = ap (λ x. x *ℤ k) (zero-*ℤ n) ∙ zero-*ℤ k ∙ sym (zero-*ℤ (n *ℤ k))
*ℤ-assoc (pos (suc m)) n k =
    ap (λ x. x *ℤ k) (suc_ℤ-*ℤ (pos m) n)
    ∙ *ℤ-distrib-r (pos m *ℤ n) n k
    ∙ ap (λ x. x +ℤ n *ℤ k) (*ℤ-assoc (pos m) n k)
    ∙ sym (suc_ℤ-*ℤ (pos m) (n *ℤ k))
*ℤ-assoc (negsuc zero) n k = ap (λ x. x *ℤ k) (*ℤ-minus n) ∙ negℤ-* n k ∙ sym (*ℤ-minus (n *ℤ k))
*ℤ-assoc (negsuc (suc m)) n k =
    ap (λ x. x *ℤ k) (pred_ℤ-*ℤ (negsuc m) n)
    ∙ *ℤ-distrib-r (negsuc m *ℤ n) (neg_ℤ n) k
    ∙ ap (λ x. negsuc m *ℤ n *ℤ k +ℤ x) (negℤ-* n k)
    ∙ ap (λ x. x -ℤ n *ℤ k) (*ℤ-assoc (negsuc m) n k)
    ∙ sym (pred_ℤ-*ℤ (negsuc m) (n *ℤ k))

*ℤ-swap : (a b c : ℤ) → a *ℤ (b *ℤ c) ≡ b *ℤ (a *ℤ c)
*ℤ-swap a b c = sym (*ℤ-assoc a b c) ∙ ap (λ x. x *ℤ c) (*ℤ_comm a b) ∙ *ℤ-assoc b a c

one-times : (z : ℤ) → pos 1 *ℤ z ≡ z
unfolding one
one-times z = *ℤ_comm (pos 1) z ∙ *ℤ-one z

times-one : (z : ℤ) → z *ℤ pos 1 ≡ z
unfolding one
times-one z = *ℤ-one z

-- ---- expressions and their values

pub data Ex : Type 0 where
  var : ℕ → Ex
  lit : ℤ → Ex
  ◌⊕◌ : Ex → Ex → Ex
  ◌⊖◌ : Ex → Ex → Ex
  ◌⊗◌ : Ex → Ex → Ex

infixl 6 ◌⊕◌ ◌⊖◌
infixl 7 ◌⊗◌
abbrev pub look : List ℤ → ℕ → ℤ
look [] n = pos 0
look (x ∷ r) zero = x
look (x ∷ r) (suc n) = look r n

abbrev pub ev : List ℤ → Ex → ℤ
ev r (var n) = look r n
ev r (lit z) = z
ev r (a ⊕ b) = ev r a +ℤ ev r b
ev r (a ⊖ b) = ev r a -ℤ ev r b
ev r (a ⊗ b) = ev r a *ℤ ev r b

-- ---- the normal form: terms, each a coefficient and the variables of its monomial in order

pub data Term : Type 0 where
  term : ℤ → List ℕ → Term

abbrev insert : ℕ → List ℕ → List ℕ
insert x [] = x ∷ []
insert x (y ∷ m) = cond (leb x y) (x ∷ y ∷ m) (y ∷ insert x m)

abbrev mul_m : List ℕ → List ℕ → List ℕ
mul_m [] n = n
mul_m (x ∷ m) n = insert x (mul_m m n)

abbrev eq_m : List ℕ → List ℕ → Bool
eq_m [] [] = true
eq_m [] (y ∷ n) = false
eq_m (x ∷ m) [] = false
eq_m (x ∷ m) (y ∷ n) = eqb x y && eq_m m n

abbrev add_t : ℤ → List ℕ → List Term → List Term
add_t c m [] = term c m ∷ []
add_t c m (term d n ∷ p) = cond (eq_m m n) (term (c +ℤ d) n ∷ p) (term d n ∷ add_t c m p)

abbrev add_p : List Term → List Term → List Term
add_p [] q = q
add_p (term c m ∷ p) q = add_t c m (add_p p q)

abbrev mul_t : ℤ → List ℕ → List Term → List Term
mul_t c m [] = []
mul_t c m (term d n ∷ p) = term (c *ℤ d) (mul_m m n) ∷ mul_t c m p

abbrev mul_p : List Term → List Term → List Term
mul_p [] q = []
mul_p (term c m ∷ p) q = add_p (mul_t c m q) (mul_p p q)

abbrev pub norm : Ex → List Term
norm (var n) = term (pos 1) (n ∷ []) ∷ []
norm (lit z) = term z [] ∷ []
norm (a ⊕ b) = add_p (norm a) (norm b)
norm (a ⊖ b) = add_p (norm a) (mul_t (negsuc 0) [] (norm b))
norm (a ⊗ b) = mul_p (norm a) (norm b)

-- ---- the normal form has the expression's value

ev_m : List ℤ → List ℕ → ℤ
ev_m r [] = pos 1
ev_m r (x ∷ m) = look r x *ℤ ev_m r m

ev_p : List ℤ → List Term → ℤ
ev_p r [] = pos 0
ev_p r (term c m ∷ p) = c *ℤ ev_m r m +ℤ ev_p r p

-- a choice has a property that each side has under its test
pub cond_ind : {A : Type 0} (b : Bool) (x y : A) (P : A → Type 0) → (T b → P x) → (T (not b) → P y) → P (cond b x y)
cond_ind true x y P f g = f tt
cond_ind false x y P f g = g tt

pub and_left : (a b : Bool) → T (a && b) → T a
and_left true b t = tt
and_left false b t = t

pub and_right : (a b : Bool) → T (a && b) → T b
and_right true b t = t
and_right false b t = absurd t

insert-ev : (r : List ℤ) (x : ℕ) (m : List ℕ) → ev_m r (insert x m) ≡ look r x *ℤ ev_m r m
unfolding ev_m
insert-ev r x [] = refl
insert-ev r x (y ∷ m) =
    cond_ind (leb x y) (x ∷ y ∷ m) (y ∷ insert x m) (λ n. ev_m r n ≡ look r x *ℤ (look r y *ℤ ev_m r m))
    (λ t. refl)
    (λ t. ap (λ z. look r y *ℤ z) (insert-ev r x m) ∙ *ℤ-swap (look r y) (look r x) (ev_m r m))

mul_m-ev : (r : List ℤ) (m n : List ℕ) → ev_m r (mul_m m n) ≡ ev_m r m *ℤ ev_m r n
unfolding ev_m
mul_m-ev r [] n = sym (one-times (ev_m r n))
mul_m-ev r (x ∷ m) n =
    insert-ev r x (mul_m m n) ∙ ap (λ z. look r x *ℤ z) (mul_m-ev r m n) ∙ sym (*ℤ-assoc (look r x) (ev_m r m) (ev_m r n))

eq_m-sound : (m n : List ℕ) → T (eq_m m n) → m ≡ n
eq_m-sound [] [] t = refl
eq_m-sound [] (y ∷ n) t = absurd t
eq_m-sound (x ∷ m) [] t = absurd t
eq_m-sound (x ∷ m) (y ∷ n) t =
    ap (λ z. z ∷ m) (eqb→eq x y (and_left (eqb x y) (eq_m m n) t)) ∙ ap (λ l. y ∷ l) (eq_m-sound m n (and_right (eqb x y) (eq_m m n) t))

add_t-ev : (r : List ℤ) (c : ℤ) (m : List ℕ) (p : List Term) → ev_p r (add_t c m p) ≡ c *ℤ ev_m r m +ℤ ev_p r p
unfolding ev_p
add_t-ev r c m [] = refl
add_t-ev r c m (term d n ∷ p) =
    cond_ind (eq_m m n) (term (c +ℤ d) n ∷ p) (term d n ∷ add_t c m p) (λ q. ev_p r q ≡ c *ℤ ev_m r m +ℤ (d *ℤ ev_m r n +ℤ ev_p r p))
    (λ t.
    ap (λ z. z +ℤ ev_p r p) (*ℤ-distrib-r c d (ev_m r n))
    ∙ +ℤ_assoc (c *ℤ ev_m r n) (d *ℤ ev_m r n) (ev_p r p)
    ∙ ap (λ l. c *ℤ ev_m r l +ℤ (d *ℤ ev_m r n +ℤ ev_p r p)) (sym (eq_m-sound m n t)))
    (λ t. ap (λ z. d *ℤ ev_m r n +ℤ z) (add_t-ev r c m p) ∙ +ℤ-swap (d *ℤ ev_m r n) (c *ℤ ev_m r m) (ev_p r p))

add_p-ev : (r : List ℤ) (p q : List Term) → ev_p r (add_p p q) ≡ ev_p r p +ℤ ev_p r q
unfolding ev_p
add_p-ev r [] q = sym (+ℤ_idl (ev_p r q))
add_p-ev r (term c m ∷ p) q =
    add_t-ev r c m (add_p p q) ∙ ap (λ z. c *ℤ ev_m r m +ℤ z) (add_p-ev r p q) ∙ sym (+ℤ_assoc (c *ℤ ev_m r m) (ev_p r p) (ev_p r q))

mul_t-ev : (r : List ℤ) (c : ℤ) (m : List ℕ) (p : List Term) → ev_p r (mul_t c m p) ≡ c *ℤ ev_m r m *ℤ ev_p r p
unfolding ev_p
mul_t-ev r c m [] = sym (*ℤ-zero (c *ℤ ev_m r m))
mul_t-ev r c m (term d n ∷ p) =
    ap (λ z. c *ℤ d *ℤ z +ℤ ev_p r (mul_t c m p)) (mul_m-ev r m n)
    ∙ ap (λ z. c *ℤ d *ℤ (ev_m r m *ℤ ev_m r n) +ℤ z) (mul_t-ev r c m p)
    ∙ ap (λ z. z +ℤ c *ℤ ev_m r m *ℤ ev_p r p) (shuffle c d (ev_m r m) (ev_m r n))
    ∙ sym (*ℤ-distrib-l (c *ℤ ev_m r m) (d *ℤ ev_m r n) (ev_p r p))
  where
    shuffle : (a b x y : ℤ) → a *ℤ b *ℤ (x *ℤ y) ≡ a *ℤ x *ℤ (b *ℤ y)
    shuffle a b x y = *ℤ-assoc a b (x *ℤ y) ∙ ap (λ z. a *ℤ z) (*ℤ-swap b x y) ∙ sym (*ℤ-assoc a x (b *ℤ y))

mul_p-ev : (r : List ℤ) (p q : List Term) → ev_p r (mul_p p q) ≡ ev_p r p *ℤ ev_p r q
unfolding ev_p
mul_p-ev r [] q = sym (zero-*ℤ (ev_p r q))
mul_p-ev r (term c m ∷ p) q =
    add_p-ev r (mul_t c m q) (mul_p p q)
    ∙ ap (λ z. z +ℤ ev_p r (mul_p p q)) (mul_t-ev r c m q)
    ∙ ap (λ z. c *ℤ ev_m r m *ℤ ev_p r q +ℤ z) (mul_p-ev r p q)
    ∙ sym (*ℤ-distrib-r (c *ℤ ev_m r m) (ev_p r p) (ev_p r q))

norm-ev : (r : List ℤ) (e : Ex) → ev_p r (norm e) ≡ ev r e
unfolding ev_p ev_m
norm-ev r (var n) = +ℤ_idr (pos 1 *ℤ (look r n *ℤ pos 1)) ∙ one-times (look r n *ℤ pos 1) ∙ times-one (look r n)
norm-ev r (lit z) = +ℤ_idr (z *ℤ pos 1) ∙ times-one z
norm-ev r (a ⊕ b) = add_p-ev r (norm a) (norm b) ∙ ap (λ z. z +ℤ ev_p r (norm b)) (norm-ev r a) ∙ ap (λ z. ev r a +ℤ z) (norm-ev r b)
norm-ev r (a ⊖ b) =
    add_p-ev r (norm a) (mul_t (negsuc 0) [] (norm b))
    ∙ ap (λ z. z +ℤ ev_p r (mul_t (negsuc 0) [] (norm b))) (norm-ev r a)
    ∙ ap (λ z. ev r a +ℤ z) (mul_t-ev r (negsuc 0) [] (norm b) ∙ *ℤ-minus (ev_p r (norm b)) ∙ ap neg_ℤ (norm-ev r b))
norm-ev r (a ⊗ b) = mul_p-ev r (norm a) (norm b) ∙ ap (λ z. z *ℤ ev_p r (norm b)) (norm-ev r a) ∙ ap (λ z. ev r a *ℤ z) (norm-ev r b)

-- ---- the decision

abbrev is_zero : ℤ → Bool
is_zero (pos n) = eqb n 0
is_zero (negsuc n) = false

is_zero-sound : (z : ℤ) → T (is_zero z) → z ≡ pos 0
is_zero-sound (pos n) t = ap pos (eqb→eq n 0 t)
is_zero-sound (negsuc n) t = absurd t

abbrev pub zeros : List Term → Bool
zeros [] = true
zeros (term c m ∷ p) = is_zero c && zeros p

zeros-sound : (r : List ℤ) (p : List Term) → T (zeros p) → ev_p r p ≡ pos 0
unfolding ev_p
zeros-sound r [] t = refl
zeros-sound r (term c m ∷ p) t =
    ap (λ z. z *ℤ ev_m r m +ℤ ev_p r p) (is_zero-sound c (and_left (is_zero c) (zeros p) t))
    ∙ ap (λ z. z +ℤ ev_p r p) (zero-*ℤ (ev_m r m))
    ∙ +ℤ_idl (ev_p r p)
    ∙ zeros-sound r p (and_right (is_zero c) (zeros p) t)

-- a difference of nothing
pub equal-of-sub : (a b : ℤ) → a -ℤ b ≡ pos 0 → a ≡ b
equal-of-sub a b e = sym (-ℤ-+ℤ_cancel a b) ∙ ap (λ z. z +ℤ b) e ∙ +ℤ_idl b

-- the test of an identity, which antt computes
abbrev pub Same : Ex → Ex → Type 0
Same a b = T (zeros (norm (a ⊖ b)))

pub solve : (r : List ℤ) (a b : Ex) → Same a b → ev r a ≡ ev r b
solve r a b t = equal-of-sub (ev r a) (ev r b) (sym (norm-ev r (a ⊖ b)) ∙ zeros-sound r (norm (a ⊖ b)) t)

-- a negation as a difference, which `solve` reads
pub minus : (z : ℤ) → neg_ℤ z ≡ pos 0 -ℤ z
minus z = sym (+ℤ_idl (neg_ℤ z))
