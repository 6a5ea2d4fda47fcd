-- The curves as the source documents print them, for one axis. The parameter is t = i / h, and every formula is multiplied by h^3, so that all is whole:
-- t^3, t^2, t and 1 become i^3, i^2·h, i·h^2 and h^3. A matrix with a fraction in front is multiplied by its denominator (`denominator`).
-- Sources: document 000, Clark 1981, chapter 1 (equations by number); 001, the slides' pages by title; 002, appendix A; 004, sections 2 and 3.
use Rattle.std.specs.Prelude.{◌≡◌, ℕ, ℤ, pos, ◌+ℤ◌, ◌-ℤ◌, ◌*ℤ◌}
use Rattle.curve.specs.declared.Four.{Four}
use Rattle.curve.specs.declared.Basis.{Basis}
use Rattle.curve.specs.declared.Basis.TheVariants.{Bezier, BSpline, Cardinal, Hermite, Loop}
use Rattle.curve.specs.Numbers.{neg}
use Rattle.curve.specs.Four.{four, dot}

-- ---- the matrix form, 000 (8): C(t) = [t^3 t^2 t 1] M G

pub record Matrix : Type 0 where
  pub cubed : Four
  pub squared : Four
  pub single : Four
  pub constant : Four

-- h^3 · C(i / h).
unfoldable pub cubic : Matrix → Four → ℤ → ℤ → ℤ
cubic m g i h = i *ℤ i *ℤ i *ℤ dot m.cubed g +ℤ i *ℤ i *ℤ h *ℤ dot m.squared g +ℤ i *ℤ h *ℤ h *ℤ dot m.single g +ℤ h *ℤ h *ℤ h *ℤ dot m.constant g

-- h^2 · C'(i / h), by 000's [3t^2 2t 1 0] M G (section 3.1).
unfoldable pub tangent : Matrix → Four → ℤ → ℤ → ℤ
tangent m g i h = pos 3 *ℤ (i *ℤ i) *ℤ dot m.cubed g +ℤ pos 2 *ℤ (i *ℤ h) *ℤ dot m.squared g +ℤ h *ℤ h *ℤ dot m.single g

-- h · C''(i / h).
unfoldable pub second_derivative : Matrix → Four → ℤ → ℤ → ℤ
second_derivative m g i h = pos 6 *ℤ i *ℤ dot m.cubed g +ℤ pos 2 *ℤ h *ℤ dot m.squared g

-- ---- the four matrices

-- 000 (14); 001 "The Bezier Spline Matrix"; 002 appendix A.2. Its geometry is the four control points.
abbrev pub bezier_matrix : Matrix
bezier_matrix =
    record {
      cubed = four (neg 1) (pos 3) (neg 3) (pos 1);
      squared = four (pos 3) (neg 6) (pos 3) (pos 0);
      single = four (neg 3) (pos 3) (pos 0) (pos 0);
      constant = four (pos 1) (pos 0) (pos 0) (pos 0);
    }

-- 000 before (9); 001 "The Cubic Hermite Spline Equation"; 002 appendix A.3. Its geometry is start, end, start tangent, end tangent.
abbrev pub hermite_matrix : Matrix
hermite_matrix =
    record {
      cubed = four (pos 2) (neg 2) (pos 1) (pos 1);
      squared = four (neg 3) (pos 3) (neg 2) (neg 1);
      single = four (pos 0) (pos 0) (pos 1) (pos 0);
      constant = four (pos 1) (pos 0) (pos 0) (pos 0);
    }

-- 001 "Catmull-Rom Spline Matrix", which has s for the parameter, and 000 (20), which has a: at n / m, and times m.
abbrev pub cardinal_matrix : ℤ → ℤ → Matrix
cardinal_matrix n m =
    record {
      cubed = four (pos 0 -ℤ n) (pos 2 *ℤ m -ℤ n) (n -ℤ pos 2 *ℤ m) n;
      squared = four (pos 2 *ℤ n) (n -ℤ pos 3 *ℤ m) (pos 3 *ℤ m -ℤ pos 2 *ℤ n) (pos 0 -ℤ n);
      single = four (pos 0 -ℤ n) (pos 0) n (pos 0);
      constant = four (pos 0) m (pos 0) (pos 0);
    }

-- 000 (21), its matrix M_bc, with the parameter a = n / m, times 3m: the Bezier controls of a cardinal span's four records.
abbrev pub cardinal_to_bezier : ℤ → ℤ → Four → Four
cardinal_to_bezier n m p =
    four
    (dot (four (pos 0) (pos 3 *ℤ m) (pos 0) (pos 0)) p)
    (dot (four (pos 0 -ℤ n) (pos 3 *ℤ m) n (pos 0)) p)
    (dot (four (pos 0) n (pos 3 *ℤ m) (pos 0 -ℤ n)) p)
    (dot (four (pos 0) (pos 0) (pos 3 *ℤ m) (pos 0)) p)

-- 001 "B-Spline Basis", times 6: it prints the 1/6 that 000 (22) leaves out. `BSpline` has the same curve by 004's recursion.
abbrev pub b_spline_matrix : Matrix
b_spline_matrix =
    record {
      cubed = four (neg 1) (pos 3) (neg 3) (pos 1);
      squared = four (pos 3) (neg 6) (pos 3) (pos 0);
      single = four (neg 3) (pos 0) (pos 3) (pos 0);
      constant = four (pos 1) (pos 4) (pos 1) (pos 0);
    }

-- ---- a basis' curve over its four records in document 01's order

-- The parameter of a cardinal curve is in 64ths, and at most one (document 02, request 7).
abbrev pub most_parameter : ℕ
most_parameter = 64

-- What the published value is multiplied by besides h^3.
abbrev pub denominator : Basis → ℕ
denominator Bezier = 1
denominator BSpline = 6
denominator (Cardinal c) = most_parameter
denominator Hermite = 1
denominator (Loop n) = 6

-- Document 01 has a Hermite span's records as start, start tangent, end, end tangent; the matrix wants both ends first. A span of a loop is a B-spline's (004, section 3.1.2).
unfoldable pub published : Basis → Four → ℤ → ℤ → ℤ
published Bezier p i h = cubic bezier_matrix p i h
published BSpline p i h = cubic b_spline_matrix p i h
published (Cardinal c) p i h = cubic (cardinal_matrix (pos c) (pos most_parameter)) p i h
published Hermite p i h = cubic hermite_matrix (four p.a p.c p.b p.d) i h
published (Loop n) p i h = cubic b_spline_matrix p i h

-- ---- the same curves by weights of t

-- 000 (15) and (26), 004 (75) and (78), the Bernstein polynomials: (1-t)^3, 3t(1-t)^2, 3t^2(1-t), t^3. With t = i / h, 1 - t is (h - i) / h.
-- These are document 01's weights c_r · i^r · (2^k - i)^(3-r).
unfoldable pub weights : ℤ → ℤ → Four
weights i h = let j = h -ℤ i in four (j *ℤ j *ℤ j) (pos 3 *ℤ (i *ℤ j *ℤ j)) (pos 3 *ℤ (i *ℤ i *ℤ j)) (i *ℤ i *ℤ i)

-- 000 (10), the Hermite blending functions h1, h2 of the ends and g1, g2 of the tangents.
unfoldable pub blending : ℤ → ℤ → Four
blending i h =
    four
    (pos 2 *ℤ (i *ℤ i *ℤ i) -ℤ pos 3 *ℤ (i *ℤ i *ℤ h) +ℤ h *ℤ h *ℤ h)
    (neg 2 *ℤ (i *ℤ i *ℤ i) +ℤ pos 3 *ℤ (i *ℤ i *ℤ h))
    (i *ℤ i *ℤ i -ℤ pos 2 *ℤ (i *ℤ i *ℤ h) +ℤ i *ℤ h *ℤ h)
    (i *ℤ i *ℤ i -ℤ i *ℤ i *ℤ h)

-- What a form promises at the ends of a span, for every h: its start, its end and its tangents there, each times the matrix' denominator.
pub record Ends (m : Matrix) (g : Four) (start finish leaving arriving : ℤ) : Type 0 where
  pub starts : (h : ℤ) → cubic m g (pos 0) h ≡ h *ℤ h *ℤ h *ℤ start
  pub finishes : (h : ℤ) → cubic m g h h ≡ h *ℤ h *ℤ h *ℤ finish
  pub leaves : (h : ℤ) → tangent m g (pos 0) h ≡ h *ℤ h *ℤ leaving
  pub arrives : (h : ℤ) → tangent m g h h ≡ h *ℤ h *ℤ arriving
