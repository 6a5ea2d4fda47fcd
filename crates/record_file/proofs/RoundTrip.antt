-- A file of given records is read back: record by record its bytes are the fields they were made from, and so the table's rows are those of the records themselves.
use Rattle.std.specs.Prelude.{Ok}
use mathlib.Core.Path.{◌≡◌, refl, sym, ap, ◌∙◌, subst}
use mathlib.Core.Bool.{Bool, true, false, not, ◌&&◌, ◌||◌}
use mathlib.Core.List.{List, [], ◌∷◌, ◌++◌}
use mathlib.Core.Logic.{◌⊎◌, inl, inr, ⊎_elim}
use Prim.Native.Nat.{ℕ, zero, suc, ◌+◌, ◌*◌, ◌-◌, ◌/◌, ◌%◌, ◌≤◌, ◌<◌}
use native.Mathlib.Omega.{arith}
use borrow.Author.Tests.{eq-eqb, ne_eqb, le-ltb}
use lib.Dec.{eqb}
use lib.IntN.{ℤ, pos, nat_abs}
use lib.ListN.{length, get_or}
use lib.Seq.{sets, ext_get_or}
use Rattle.whole.specs.Outcome.{outcome}
use Rattle.curve.specs.Limits.{limit}
use Rattle.curve.specs.Span.{coordinate}
use Rattle.curve.proofs.Tab.{length-tab, get_or-tab}
use Rattle.shape.specs.declared.Shape.{Shape}
use Rattle.shape.specs.Refusals.{NoRow, shape_rows, controls_row, limits_row}
use Rattle.shape.specs.Inner.{Lent}
use Rattle.shape.proofs.Refusals.{none_both, none-earlier, row-fails, good-plan, lent-facts}
use Rattle.shape.specs.Shape.{cardinal, most_records}
use Rattle.record_file.specs.Format.{byte, word, signed, number, numbers, encoded}
use Rattle.record_file.specs.Rows.{most_bytes, record_rows, record_count, later_rows, file_rows, shape_of, accepts, reading}
use Rattle.record_file.proofs.Words.{coordinate-back}
use Rattle.record_file.proofs.Exactly.{none_read}

module _ (basis depth parameter : ℕ) where
  -- ---- the first record, and the others

  shift : (x y : ℤ) (rest : List ℤ) (m : ℕ) → get_or (encoded basis depth parameter (x ∷ y ∷ rest)) (12 + m) 0 ≡ get_or (encoded basis depth parameter rest) m 0
  unfolding encoded
  shift x y rest m =
      let e : 12 + m ≡ suc (suc (suc (suc (suc (suc (suc (suc (suc (suc (suc (suc m))))))))))) = omega arith in
      ap (λ (i : ℕ). get_or (encoded basis depth parameter (x ∷ y ∷ rest)) i 0) e

  shifted : (x y : ℤ) (rest : List ℤ) (i m : ℕ) → i ≡ 12 + m → get_or (encoded basis depth parameter (x ∷ y ∷ rest)) i 0 ≡ get_or (encoded basis depth parameter rest) m 0
  shifted x y rest i m e = ap (λ (j : ℕ). get_or (encoded basis depth parameter (x ∷ y ∷ rest)) j 0) e ∙ shift x y rest m

  pub length-encoded : (records : List ℤ) (n : ℕ) → length records ≡ 2 * n → length (encoded basis depth parameter records) ≡ 12 * n
  unfolding encoded
  length-encoded [] n e = omega arith
  length-encoded (x ∷ []) n e = absurd (omega arith)
  length-encoded (x ∷ y ∷ rest) n e = omega (arith, length-encoded rest (n - 1) (omega arith))

  heads : (records : List ℤ) (n r : ℕ) → length records ≡ 2 * n → r < n
      → (byte (encoded basis depth parameter records) r 0 ≡ basis) × (byte (encoded basis depth parameter records) r 1 ≡ depth) × (byte (encoded basis depth parameter records) r 2 ≡ parameter) × (byte (encoded basis depth parameter records) r 3 ≡ 0)
  unfolding encoded
  heads [] n r e h = absurd (omega arith)
  heads (x ∷ []) n r e h = absurd (omega arith)
  heads (x ∷ y ∷ rest) n zero e h = (refl, refl, refl, refl)
  heads (x ∷ y ∷ rest) n (suc r) e h =
      let (a, b, c, d) = heads rest (n - 1) r (omega arith) (omega arith) in (
        shifted x y rest (12 * suc r + 0) (12 * r + 0) (omega arith) ∙ a,
        shifted x y rest (12 * suc r + 1) (12 * r + 1) (omega arith) ∙ b,
        shifted x y rest (12 * suc r + 2) (12 * r + 2) (omega arith) ∙ c,
        shifted x y rest (12 * suc r + 3) (12 * r + 3) (omega arith) ∙ d,
      )

  word-shifted : (x y : ℤ) (rest : List ℤ) (i m : ℕ) → i ≡ 12 + m → word (encoded basis depth parameter (x ∷ y ∷ rest)) i ≡ word (encoded basis depth parameter rest) m
  unfolding word
  word-shifted x y rest i m e =
      let a = shifted x y rest i m e in
      let b = shifted x y rest (i + 1) (m + 1) (omega arith) in
      let c = shifted x y rest (i + 2) (m + 2) (omega arith) in
      let d = shifted x y rest (i + 3) (m + 3) (omega arith) in
      λ k. a k + 256 * b k + 65536 * c k + 16777216 * d k

  back : (records : List ℤ) (q : ℕ) → ((i : ℕ) → i < length records → nat_abs (get_or records i (pos 0)) ≤ limit) → (n : ℕ) → length records ≡ 2 * n → q < 2 * n → number (encoded basis depth parameter records) q ≡ get_or records q (pos 0)
  unfolding encoded number word
  back [] q h n e l = absurd (omega arith)
  back (x ∷ []) q h n e l = absurd (omega arith)
  back (x ∷ y ∷ rest) zero h n e l = coordinate-back x (omega (arith, h 0 (omega arith)))
  back (x ∷ y ∷ rest) (suc zero) h n e l = coordinate-back y (omega (arith, h 1 (omega arith)))
  back (x ∷ y ∷ rest) (suc (suc q)) h n e l =
      ap signed (word-shifted x y rest (12 * (suc (suc q) / 2) + 4 + 4 * (suc (suc q) % 2)) (12 * (q / 2) + 4 + 4 * (q % 2)) (omega arith))
      ∙ back rest q (λ i k. h (suc (suc i)) (omega arith)) (n - 1) (omega arith) (omega arith)

-- ---- the rows

alike : (a b c d e f : ℕ) → a ≡ d → b ≡ e → c ≡ f → not (eqb a d && (eqb b e && eqb c f)) ≡ false
alike a b c d e f x y z = simp (eq-eqb a d x, eq-eqb b e y, eq-eqb c f z)

-- byte 3 is zero, and byte 2 is too or the basis has a parameter
spare : (z c a : ℕ) → z ≡ 0 → (c ≡ 0) ⊎ (a ≡ cardinal) → (not (eqb z 0) || (not (eqb c 0) && not (eqb a cardinal))) ≡ false
spare z c a e own =
    ⊎_elim (λ (none : c ≡ 0). simp (eq-eqb z 0 e, eq-eqb c 0 none))
    (λ (its : a ≡ cardinal). simp (eq-eqb z 0 e, eq-eqb a cardinal its, last (eqb c 0)))
    own
  where
    last : (t : Bool) → (not t && false) ≡ false
    last true = refl
    last false = refl

-- each number of n records inside the limits is
inside : (n : ℕ) (records : List ℤ) → length records ≡ 2 * n → Lent n records 0 0 → (q : ℕ) → q < length records → nat_abs (get_or records q (pos 0)) ≤ limit
unfolding coordinate
inside n records even lent q h = go (q % 2) refl
  where
    go : (axis : ℕ) → q % 2 ≡ axis → nat_abs (get_or records q (pos 0)) ≤ limit
    go zero e = subst (λ (j : ℕ). nat_abs (get_or records j (pos 0)) ≤ limit) (omega arith) (lent.x (q / 2) (omega arith))
    go (suc zero) e = subst (λ (j : ℕ). nat_abs (get_or records j (pos 0)) ≤ limit) (omega arith) (lent.y (q / 2) (omega arith))
    go (suc (suc axis)) e = absurd (omega arith)

module _ (basis depth parameter n : ℕ) (records controls : List ℤ) (even : length records ≡ 2 * n) (own : (parameter ≡ 0) ⊎ (basis ≡ cardinal)) where
  abbrev file : List ℕ
  file = encoded basis depth parameter records

  abbrev given : Shape
  given = record { basis = basis; depth = depth; count = n; parameter = parameter }

  records-pass : (r m : ℕ) → r + m ≤ n → NoRow (record_rows file r m)
  unfolding record_rows
  records-pass r zero h = tt
  records-pass r (suc m) h =
      let (a, b, c, d) = heads basis depth parameter records n r even (omega arith) in
      let (a₀, b₀, c₀, d₀) = heads basis depth parameter records n 0 even (omega arith) in
      let mine = ⊎_elim (λ (none : parameter ≡ 0). inl (c ∙ none)) (λ (its : basis ≡ cardinal). inr (a ∙ its)) own in
      let like = alike (byte file r 0) (byte file r 1) (byte file r 2) (byte file 0 0) (byte file 0 1) (byte file 0 2) (a ∙ sym a₀) (b ∙ sym b₀) (c ∙ sym c₀) in
      (spare (byte file r 3) (byte file r 2) (byte file r 0) d mine, (like, records-pass (suc r) m (omega arith)))

  -- Reading a file of given records gives them back, wherever a basis without a parameter has none and the rows of the records themselves pass: 1, 2, 24, 3, 7 and 8.
  pub read_back : NoRow (shape_rows given ++ (controls_row n controls ∷ limits_row n records ∷ [])) → reading file controls ≡ outcome (Ok given) (sets controls 0 records)
  read_back h =
      let lists = controls_row n controls ∷ limits_row n records ∷ [] in
      let good = good-plan given (none-earlier (shape_rows given) lists h) in
      let lent = lent-facts n records 0 0 (omega arith) (row-fails 8 (shape_rows given ++ lists) h) (omega arith) in
      let some : 4 ≤ n = good.records-least in
      let few : n ≤ most_records = good.records-most in
      let long = length-encoded basis depth parameter records n even in
      let count : record_count file ≡ n = omega (arith, long) in
      let (first, second, third, zero-3) = heads basis depth parameter records n 0 even (omega arith) in
      let shape : shape_of file n ≡ given = λ k. record { basis = first k; depth = second k; count = n; parameter = third k } in
      let whole : numbers file n ≡ records = same lent in
      let none : NoRow (file_rows file controls) = (
        simp (ne_eqb (length file) 0 (λ e. absurd (omega (arith, long))), le-ltb most_bytes (length file) (omega (arith, long))),
        (
          simp (eq-eqb (length file % 12) 0 (omega (arith, long))),
          subst (λ (m : ℕ). NoRow (record_rows file 0 m ++ later_rows file m controls)) (sym count)
              (none_both (record_rows file 0 n) (later_rows file n controls) (records-pass 0 n (omega arith))
              (subst (λ s. NoRow (shape_rows s ++ (controls_row n controls ∷ limits_row n (numbers file n) ∷ []))) (sym shape)
              (subst (λ v. NoRow (shape_rows given ++ (controls_row n controls ∷ limits_row n v ∷ []))) (sym whole) h))),
        ),
      ) in
      none_read file controls none ∙ ap (λ (m : ℕ). accepts file m controls) count ∙ (λ k. outcome (Ok (shape k)) (sets controls 0 (whole k)))
    where
      same : Lent n records 0 0 → numbers file n ≡ records
      same lent =
          ext_get_or (pos 0) (numbers file n) records (length-tab (number file) 0 (2 * n) ∙ sym even)
          (λ q l. get_or-tab (number file) 0 (2 * n) q (omega (arith, length-tab (number file) 0 (2 * n))) (pos 0) ∙ ap (number file) (omega arith) ∙ back basis depth parameter records q (inside n records even lent) n even (omega (arith, length-tab (number file) 0 (2 * n))))
