-- Arguments that a person may give, computed.
use mathlib.Core.List.{[], ◌∷◌}
use mathlib.Core.Path.{◌≡◌, refl}
use Rattle.std.specs.Prelude.{Some, None}
use Rattle.console.specs.Argument.{all_digits, number_of}

-- `10000` and `007`
pub a-number : number_of (49 ∷ 48 ∷ 48 ∷ 48 ∷ 48 ∷ []) ≡ Some 10000
unfolding number_of all_digits
a-number = refl

pub spare-zeros : number_of (48 ∷ 48 ∷ 55 ∷ []) ≡ Some 7
unfolding number_of all_digits
spare-zeros = refl

-- nothing, `-1` and `1 2`
pub nothing : number_of [] ≡ None
unfolding number_of all_digits
nothing = refl

pub negative : number_of (45 ∷ 49 ∷ []) ≡ None
unfolding number_of all_digits
negative = refl

pub a-space : number_of (49 ∷ 32 ∷ 50 ∷ []) ≡ None
unfolding number_of all_digits
a-space = refl

-- `18446744073709551615`, the greatest, and one more
pub the-greatest : number_of (49 ∷ 56 ∷ 52 ∷ 52 ∷ 54 ∷ 55 ∷ 52 ∷ 52 ∷ 48 ∷ 55 ∷ 51 ∷ 55 ∷ 48 ∷ 57 ∷ 53 ∷ 53 ∷ 49 ∷ 54 ∷ 49 ∷ 53 ∷ []) ≡ Some 18446744073709551615
unfolding number_of all_digits
the-greatest = refl

pub one_more : number_of (49 ∷ 56 ∷ 52 ∷ 52 ∷ 54 ∷ 55 ∷ 52 ∷ 52 ∷ 48 ∷ 55 ∷ 51 ∷ 55 ∷ 48 ∷ 57 ∷ 53 ∷ 53 ∷ 49 ∷ 54 ∷ 49 ∷ 54 ∷ []) ≡ Some 18446744073709551615
unfolding number_of all_digits
one_more = refl
