-- The lines of points. From point i on they begin with point i's own line; points that stand as pairs have the lines of the list that was cut into the pairs; and the lines of a list are those of its two
-- parts.
use Prim.Native.Nat.{ℕ, zero, suc, ◌+◌, ◌-◌, ◌*◌, ◌≤◌, ◌<◌}
use mathlib.Core.List.{List, [], ◌∷◌, ◌++◌, append_assoc}
use mathlib.Core.Path.{◌≡◌, refl, sym, ap, ◌∙◌}
use native.Mathlib.Omega.{arith}
use lib.IntN.{ℤ, pos}
use lib.ListN.{length, get_or, take, drop, drop_of_length-le}
use mir.Facts.{to_z-of_z}
use mir.Syntax.{w32}
use mir.Val.{SFits, of_z, to_z}
use Rattle.std.specs.Simd.{first_chunks}
use Rattle.std.proofs.lemmas.List.{drop_more}
use Rattle.listing.specs.Inner.{pair_lines}
use Rattle.listing.specs.Listing.{point_line, point_lines}

-- x or y of point i
abbrev pub coordinate : List (List ℤ) → ℕ → ℕ → ℤ
coordinate pairs i k = get_or (get_or pairs i []) k (pos 0)

-- the number that a local of 32 bits holds
abbrev held : ℤ → ℤ
held z = to_z w32 (of_z w32 z)

module _ (first : ℕ) (pairs : List (List ℤ)) where
  -- the lines from point i on, where the first point has the number `first`
  abbrev pub from : ℕ → List ℕ
  from i = pair_lines (first + i) (drop i pairs)

  pub from_first : from 0 ≡ pair_lines first pairs
  from_first = ap (λ (n : ℕ). pair_lines n pairs) (omega arith)

  -- point i's line, of numbers that locals hold, is the first of them
  pub next : (i : ℕ) {line : List ℕ} → i < length pairs → SFits w32 (coordinate pairs i 0) → SFits w32 (coordinate pairs i 1)
      → line ≡ point_line (first + i) (held (coordinate pairs i 0)) (held (coordinate pairs i 1)) → from i ≡ line ++ from (i + 1)
  next i {line} there x y is =
      let on : suc (first + i) ≡ first + (i + 1) = omega arith in
      let own : line ≡ point_line (first + i) (coordinate pairs i 0) (coordinate pairs i 1) = is ∙ (λ k. point_line (first + i) (to_z-of_z x k) (to_z-of_z y k)) in
      ap (pair_lines (first + i)) (drop_more pairs i [] there)
      ∙ (λ k. sym own k ++ pair_lines (on k) (drop (i + 1) pairs))

  pub none : (i : ℕ) → length pairs ≤ i → from i ≡ []
  none i h = ap (pair_lines (first + i)) (drop_of_length-le pairs {i = i} h)

pub paired : (count chunks n : ℕ) (points : List ℤ) → count ≤ chunks → 2 * chunks ≤ length points → pair_lines n (take count (first_chunks 2 chunks points)) ≡ point_lines n (take (2 * count) points)
paired zero chunks n points h e = refl
paired (suc count) zero n points h e = absurd (omega arith)
paired (suc count) (suc chunks) n [] h e = absurd (omega arith)
paired (suc count) (suc chunks) n (x ∷ []) h e = absurd (omega arith)
paired (suc count) (suc chunks) n (x ∷ y ∷ points) h e =
    let two : suc (suc (2 * count)) ≡ 2 * suc count = omega arith in
    ap (λ (l : List ℕ). point_line n x y ++ l) (paired count chunks (suc n) points (omega arith) (omega arith)) ∙ ap (λ (m : ℕ). point_lines n (take m (x ∷ y ∷ points))) two

-- the lines of points and of more points after them
pub lines-append : (n m : ℕ) (xs ys : List ℤ) → length xs ≡ 2 * m → point_lines n (xs ++ ys) ≡ point_lines n xs ++ point_lines (n + m) ys
lines-append n m [] ys e = ap (λ (k : ℕ). point_lines k ys) (omega arith)
lines-append n m (x ∷ []) ys e = absurd (omega arith)
lines-append n m (x ∷ y ∷ xs) ys e =
    let on : suc n + (m - 1) ≡ n + m = omega arith in
    ap (λ (l : List ℕ). point_line n x y ++ l) (lines-append (suc n) (m - 1) xs ys (omega arith) ∙ ap (λ (k : ℕ). point_lines (suc n) xs ++ point_lines k ys) on)
    ∙ sym (append_assoc (point_line n x y) (point_lines (suc n) xs) (point_lines (n + m) ys))
