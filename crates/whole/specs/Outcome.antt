-- What a call comes to: its answer, and what was lent to it, as the call leaves it. A call's one reading gives both together, so its contract leaves nothing open.
-- Definitions only.

-- Of answers A and of what is lent, L: a list, or a pair of lists.
pub record Outcome (A L : Type 0) : Type 0 where
  pub answer : A
  pub held : L

abbrev pub outcome : {A L : Type 0} → A → L → Outcome A L
outcome a l = record { answer = a; held = l }

-- A refusal leaves what was lent as it came. `refused` makes the call's answer of it.
abbrev pub refuses : {A L R : Type 0} → (R → A) → L → R → Outcome A L
refuses refused lent r = outcome (refused r) lent
