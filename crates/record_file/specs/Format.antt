-- The house record file (document 01, "Record file"; document 02, request 7): records of 12 bytes, no header: basis, depth, parameter, a zero byte, x and y as 32-bit two's
-- complement, low byte first. A file is the list of its bytes. Definitions only.
use Rattle.std.specs.Prelude.{cond, List, [], ◌∷◌, ◌++◌, ℕ, suc, ◌+◌, ◌*◌, ◌-◌, ◌/◌, ◌%◌, ◌^◌, ltb, ℤ, pos, negsuc, ◌-ℤ◌, get_or}
use Rattle.curve.specs.Tab.{tab}

-- ---- a file's fields

abbrev pub record_bytes : ℕ
record_bytes = 12

-- Byte b of record r.
abbrev pub byte : List ℕ → ℕ → ℕ → ℕ
byte file r b = get_or file (record_bytes * r + b) 0

-- The four bytes from byte b of the file on, low byte first.
unfoldable pub word : List ℕ → ℕ → ℕ
word file b = get_or file b 0 + 256 * get_or file (b + 1) 0 + 65536 * get_or file (b + 2) 0 + 16777216 * get_or file (b + 3) 0

-- 32-bit two's complement: a word from 2^31 on stands for a number below zero.
unfoldable pub signed : ℕ → ℤ
signed n = cond (ltb n (2 ^ 31)) (pos n) (pos n -ℤ pos (2 ^ 32))

-- Number q of a file's records, x then y: record q / 2 has its x from byte 4 on and its y from byte 8 on.
unfoldable pub number : List ℕ → ℕ → ℤ
number file q = signed (word file (record_bytes * (q / 2) + 4 + 4 * (q % 2)))

-- The numbers of the first n records.
abbrev pub numbers : List ℕ → ℕ → List ℤ
numbers file n = tab (number file) 0 (2 * n)

-- ---- a file of given records

abbrev pub unsigned : ℤ → ℕ
unsigned (pos n) = n
unsigned (negsuc n) = 2 ^ 32 - suc n

-- The four bytes of a coordinate.
abbrev pub four_bytes : ℤ → List ℕ
four_bytes z =
    let n = unsigned z in
    (n % 256) ∷ (n / 256 % 256) ∷ (n / 65536 % 256) ∷ (n / 16777216 % 256) ∷ []

-- The file of a basis, a depth, a parameter and records given as one list, x then y.
unfoldable pub encoded : ℕ → ℕ → ℕ → List ℤ → List ℕ
encoded basis depth parameter [] = []
encoded basis depth parameter (x ∷ []) = []
encoded basis depth parameter (x ∷ y ∷ rest) = (basis ∷ depth ∷ parameter ∷ 0 ∷ []) ++ (four_bytes x ++ (four_bytes y ++ encoded basis depth parameter rest))
