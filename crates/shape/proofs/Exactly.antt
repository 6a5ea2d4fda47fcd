-- "Given exactly when", for any kind of call: what it came to is judged over its rows, and what it tells is read off that. So a refusal told is that of the first row that
-- holds, and the whole outcome is that refusal's; values are told where no row holds, and the whole outcome is the accepted call's.
use mathlib.Core.Path.{◌≡◌, refl, sym, ap, ◌∙◌, subst}
use mathlib.Core.Bool.{Bool, true, false, not, ◌&&◌, ◌||◌}
use mathlib.Core.List.{List, [], ◌∷◌, ◌++◌}
use mathlib.Core.Logic.{inl, inr, ⊎_elim}
use Prim.Native.Nat.{ℕ, zero, suc, ◌<◌}
use native.Mathlib.Omega.{arith}
use lib.Dec.{ltb}
use lib.IntN.{ℤ, pos}
use Rattle.shape.specs.declared.Refusal.{Refusal}
use Rattle.shape.specs.Refusals.{Row, judge, First, NoRow}
use Rattle.shape.specs.Exactly.{Told, Refuses, Accepts, number, values, Gives, Exactly}
use Rattle.shape.proofs.Tests.{and-true, true-is-not-false}
use Rattle.shape.proofs.Refusals.{judge-first, judge-none, verdict}

-- ---- no row that holds has number 0

-- each row of a table has a number above 0, or does not hold
abbrev pub numbered : List Row → Bool
numbered [] = true
numbered (x ∷ rows) = (ltb 0 x.refusal.number || not x.holds) && numbered rows

pub numbered-append : (rows rest : List Row) → numbered rows ≡ true → numbered rest ≡ true → numbered (rows ++ rest) ≡ true
numbered-append [] rest h k = k
numbered-append (x ∷ rows) rest h k =
    let (here, later) = and-true (ltb 0 x.refusal.number || not x.holds) (numbered rows) h in simp (here, numbered-append rows rest later k)

above : (n : ℕ) (t : Bool) → (ltb 0 n || not t) ≡ true → t ≡ true → 0 < n
above zero true h e = absurd (true-is-not-false h refl)
above zero false h e = absurd (true-is-not-false e refl)
above (suc n) t h e = omega arith

first-numbered : (rows : List Row) → numbered rows ≡ true → (r : Refusal) → First rows r → 0 < r.number
first-numbered [] h r f = absurd f
first-numbered (x ∷ rows) h r (inl f) =
    subst (λ q. 0 < q.number) f.1 (above x.refusal.number x.holds (and-true (ltb 0 x.refusal.number || not x.holds) (numbered rows) h).0 f.0)
first-numbered (x ∷ rows) h r (inr f) = first-numbered rows (and-true (ltb 0 x.refusal.number || not x.holds) (numbered rows) h).1 r f.1

-- ---- what is told

same-refusal : (q r : Refusal) → Refuses q ≡ Refuses r → q ≡ r
same-refusal q r e = cc

never_both : {A : Type 0} (q : Refusal) (v : List ℤ) → Refuses q ≡ Accepts v → A
never_both q v e = let z : ◌≡◌ {A = ℕ} 0 1 = cc in absurd (omega arith)

-- number and place are all of a refusal
by_number : (q r : Refusal) → q.number ≡ r.number → ◌≡◌ {A = List ℤ} (pos q.place ∷ []) (pos r.place ∷ []) → q ≡ r
by_number q r e f = let g : q.place ≡ r.place = cc in λ k. record { number = e k; place = g k }

-- A kind of call: how to read what an outcome tells, its table, and its outcomes, refused and accepted.
module _ {A : Type 0} (tells : A → Told) (rows : List Row) (refused : Refusal → A) (accepted : A) (given : List ℤ) (refuses : (r : Refusal) → tells (refused r) ≡ Refuses r) (accepts : tells accepted ≡ Accepts given) where
  abbrev got : A
  got = judge rows refused accepted

  -- a refusal told is the first row's, and the whole outcome is that refusal's
  told-first : (r : Refusal) → tells got ≡ Refuses r → First rows r × (got ≡ refused r)
  told-first r e =
      ⊎_elim (λ (v : (q : Refusal) × First rows q).
      let is = judge-first rows refused accepted v.0 v.1 in
      let same = same-refusal v.0 r (sym (refuses v.0) ∙ ap tells (sym is) ∙ e) in
      (subst (First rows) same v.1, is ∙ ap refused same))
      (λ none. never_both r given (sym e ∙ ap tells (judge-none rows refused accepted none) ∙ accepts))
      (verdict rows)

  -- the same by number and values, with all that was lent
  module _ {L : Type 0} (lent : A → L) (came : L) (keeps : (r : Refusal) → lent (refused r) ≡ came) (all : numbered rows ≡ true) where
    refused-whole : (r : Refusal) → tells got ≡ Refuses r → First rows r × (lent got ≡ came)
    refused-whole r e = let (first, is) = told-first r e in (first, ap lent is ∙ keeps r)

    first-exactly : (r : Refusal) → First rows r → Exactly rows (tells got) came (lent got) given (lent accepted)
    first-exactly r f =
        let is = judge-first rows refused accepted r f in
        let told = ap tells is ∙ refuses r in
        let gives : Gives (tells got) r = record { some = first-numbered rows all r f; same = ap number told; place = ap values told } in
        record {
          refused = λ q. (
            λ g. subst (First rows) (by_number r q (sym (ap number told) ∙ g.same) (sym (ap values told) ∙ g.place)) f,
            λ h. subst (Gives (tells got)) (same-refusal r q (sym told ∙ ap tells (judge-first rows refused accepted q h) ∙ refuses q)) gives,
          );
          accepted = (λ z. absurd (omega arith), λ none. never_both r given (sym told ∙ ap tells (judge-none rows refused accepted none) ∙ accepts));
          either = inl (r, gives);
          kept = λ _. ap lent is ∙ keeps r;
          whole = refused-whole;
          done = λ z. absurd (omega arith);
        }

    none-exactly : NoRow rows → Exactly rows (tells got) came (lent got) given (lent accepted)
    none-exactly none =
        let is = judge-none rows refused accepted none in
        let told = ap tells is ∙ accepts in
        let nought : number (tells got) ≡ 0 = ap number told in
        record {
          refused = λ q. (
            λ g. absurd (omega arith),
            λ h. never_both q given (sym (refuses q) ∙ ap tells (sym (judge-first rows refused accepted q h)) ∙ told),
          );
          accepted = (λ _. none, λ _. nought);
          either = inr nought;
          kept = λ h. absurd (omega arith);
          whole = refused-whole;
          done = λ _. (ap values told, ap lent is);
        }

    pub exactly : Exactly rows (tells got) came (lent got) given (lent accepted)
    exactly = ⊎_elim (λ (v : (r : Refusal) × First rows r). first-exactly v.0 v.1) none-exactly (verdict rows)
