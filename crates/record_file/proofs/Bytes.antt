-- A file is its records one after another, each of 12 bytes: what the table says of the file's bytes, it says of its records'.
use mathlib.Core.Path.{◌≡◌, refl, ◌∙◌}
use mathlib.Core.List.{List, [], ◌∷◌}
use Prim.Native.Nat.{ℕ, zero, suc, ◌+◌, ◌*◌, ◌/◌, ◌%◌, ◌≤◌, ◌<◌}
use native.Mathlib.Omega.{arith}
use lib.ListN.{length, get_or, drop, length-drop, get_or-append}
use Rattle.std.specs.List.{concat}
use Rattle.std.specs.Simd.{first_chunks}
use Rattle.std.proofs.lemmas.List.{get_or-append-add, take-append-drop}
use lib.IntN.{pos}
use Rattle.curve.specs.Tab.{tab}
use Rattle.curve.specs.Span.{coordinate}
use Rattle.curve.proofs.Tab.{get_or-tab}
use Rattle.shape.specs.Refusals.{outside}
use Rattle.record_file.specs.Format.{word, signed, number, numbers}
use Rattle.record_file.specs.Rows.{zeros_row, alike_row, shape_of}
use Rattle.record_file.specs.Inner.{unlike, strays}

-- whole chunks of 12 leave nothing out
pub chunks-joined : (n : ℕ) (file : List ℕ) → length file ≡ 12 * n → concat (first_chunks 12 n file) ≡ file
chunks-joined zero [] h = refl
chunks-joined zero (x ∷ file) h = absurd (omega arith)
chunks-joined (suc n) file h = rw (chunks-joined n (drop 12 file) (omega (arith, length-drop 12 file))) (take-append-drop 12 file)

byte-joined : (rs : List (List ℕ)) → ((i : ℕ) → i < length rs → length (get_or rs i []) ≡ 12) → (i b : ℕ) → i < length rs → b < 12 → get_or (concat rs) (12 * i + b) 0 ≡ get_or (get_or rs i []) b 0
byte-joined [] w i b h k = absurd (omega arith)
byte-joined (x ∷ rs) w zero b h k =
    let long : length x ≡ 12 = w 0 (omega arith) in
    let at : 12 * zero + b ≡ b = omega arith in
    rw at (get_or-append x (concat rs) 0 b (omega arith))
byte-joined (x ∷ rs) w (suc i) b h k =
    let long : length x ≡ 12 = w 0 (omega arith) in
    let at : 12 * suc i + b ≡ length x + (12 * i + b) = omega arith in
    rw at (get_or-append-add x (concat rs) (12 * i + b) 0 ∙ byte-joined rs (λ j l. w (suc j) (omega arith)) i b (omega arith) k)

module _ (rs : List (List ℕ)) (w : (i : ℕ) → i < length rs → length (get_or rs i []) ≡ 12) (i : ℕ) (h : i < length rs) where
  abbrev bytes : List ℕ
  bytes = get_or rs i []

  word-joined : (b : ℕ) → b + 4 ≤ 12 → word (concat rs) (12 * i + b) ≡ word bytes b
  unfolding word
  word-joined b k =
      let one : 12 * i + b + 1 ≡ 12 * i + (b + 1) = omega arith in
      let two : 12 * i + b + 2 ≡ 12 * i + (b + 2) = omega arith in
      let three : 12 * i + b + 3 ≡ 12 * i + (b + 3) = omega arith in
      rw (one, two, three, byte-joined rs w i b h (omega arith), byte-joined rs w i (b + 1) h (omega arith), byte-joined rs w i (b + 2) h (omega arith), byte-joined rs w i (b + 3) h (omega arith))

  pub x-joined : number (concat rs) (2 * i) ≡ signed (word bytes 4)
  unfolding number
  x-joined =
      let at : 12 * (2 * i / 2) + 4 + 4 * (2 * i % 2) ≡ 12 * i + 4 = omega arith in
      rw (at, word-joined 4 (omega arith))

  pub y-joined : number (concat rs) (2 * i + 1) ≡ signed (word bytes 8)
  unfolding number
  y-joined =
      let at : 12 * ((2 * i + 1) / 2) + 4 + 4 * ((2 * i + 1) % 2) ≡ 12 * i + 8 = omega arith in
      rw (at, word-joined 8 (omega arith))

  pub zeros-joined : (zeros_row (concat rs) i).holds ≡ (zeros_row bytes 0).holds
  zeros-joined = rw (byte-joined rs w i 3 h (omega arith), byte-joined rs w i 2 h (omega arith), byte-joined rs w i 0 h (omega arith))

  pub alike-joined : (alike_row (concat rs) i).holds ≡ unlike bytes (get_or rs 0 [])
  unfolding unlike
  alike-joined =
      let some : 0 < length rs = omega arith in
      rw
      (byte-joined rs w i 0 h (omega arith), byte-joined rs w i 1 h (omega arith), byte-joined rs w i 2 h (omega arith), byte-joined rs w 0 0 some (omega arith), byte-joined rs w 0 1 some (omega arith), byte-joined rs w 0 2 some (omega arith))

  pub strays-joined : outside (numbers (concat rs) (length rs)) i ≡ strays bytes
  unfolding outside coordinate strays
  strays-joined =
      let f = number (concat rs) in
      let n = 2 * length rs in
      let x : get_or (tab f 0 n) (2 * i + 0) (pos 0) ≡ signed (word bytes 4) = rw (get_or-tab f 0 n (2 * i + 0) (omega arith) (pos 0)) (even ∙ x-joined) in
      let y : get_or (tab f 0 n) (2 * i + 1) (pos 0) ≡ signed (word bytes 8) = rw (get_or-tab f 0 n (2 * i + 1) (omega arith) (pos 0)) (odd ∙ y-joined) in
      rw (x, y)
    where
      even : number (concat rs) (0 + (2 * i + 0)) ≡ number (concat rs) (2 * i)
      even = let e : 0 + (2 * i + 0) ≡ 2 * i = omega arith in rw e

      odd : number (concat rs) (0 + (2 * i + 1)) ≡ number (concat rs) (2 * i + 1)
      odd = let e : 0 + (2 * i + 1) ≡ 2 * i + 1 = omega arith in rw e

pub shape-joined : (rs : List (List ℕ)) → ((i : ℕ) → i < length rs → length (get_or rs i []) ≡ 12) → 1 ≤ length rs
    → shape_of (concat rs) (length rs) ≡ record { basis = get_or (get_or rs 0 []) 0 0; depth = get_or (get_or rs 0 []) 1 0; count = length rs; parameter = get_or (get_or rs 0 []) 2 0 }
shape-joined rs w h =
    (λ k. record {
      basis = byte-joined rs w 0 0 (omega arith) (omega arith) k;
      depth = byte-joined rs w 0 1 (omega arith) (omega arith) k;
      count = length rs;
      parameter = byte-joined rs w 0 2 (omega arith) (omega arith) k;
    })
