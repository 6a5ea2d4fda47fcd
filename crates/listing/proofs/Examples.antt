-- The listing that document 01 prints, a refusal's line and a few numbers, computed.
use mathlib.Core.List.{[], ◌∷◌, ◌++◌}
use mathlib.Core.Path.{◌≡◌, refl}
use lib.IntN.{pos, negsuc}
use Rattle.listing.specs.Decimal.{natural_in, natural, decimal}
use Rattle.listing.specs.Listing.{outline_text, chosen_text, refusal_text}

-- `1 1 1 3`, `0 0 0`, `1 4 6`, `2 8 0`
pub the-listing : outline_text 1 1 1 (pos 0 ∷ pos 0 ∷ pos 4 ∷ pos 6 ∷ pos 8 ∷ pos 0 ∷ []) ≡ (49 ∷ 32 ∷ 49 ∷ 32 ∷ 49 ∷ 32 ∷ 51 ∷ 10 ∷ []) ++ (48 ∷ 32 ∷ 48 ∷ 32 ∷ 48 ∷ 10 ∷ []) ++ (49 ∷ 32 ∷ 52 ∷ 32 ∷ 54 ∷ 10 ∷ []) ++ (50 ∷ 32 ∷ 56 ∷ 32 ∷ 48 ∷ 10 ∷ [])
unfolding outline_text natural natural_in
the-listing = refl

-- `1 4 1 3 1` and the same points: one cut, at tolerance 4
pub the-chosen : chosen_text 1 4 1 1 (pos 0 ∷ pos 0 ∷ pos 4 ∷ pos 6 ∷ pos 8 ∷ pos 0 ∷ []) ≡ (49 ∷ 32 ∷ 52 ∷ 32 ∷ 49 ∷ 32 ∷ 51 ∷ 32 ∷ 49 ∷ 10 ∷ []) ++ (48 ∷ 32 ∷ 48 ∷ 32 ∷ 48 ∷ 10 ∷ []) ++ (49 ∷ 32 ∷ 52 ∷ 32 ∷ 54 ∷ 10 ∷ []) ++ (50 ∷ 32 ∷ 56 ∷ 32 ∷ 48 ∷ 10 ∷ [])
unfolding chosen_text natural natural_in
the-chosen = refl

-- `refused 8 12`
pub a-refusal : refusal_text 8 12 ≡ 114 ∷ 101 ∷ 102 ∷ 117 ∷ 115 ∷ 101 ∷ 100 ∷ 32 ∷ 56 ∷ 32 ∷ 49 ∷ 50 ∷ 10 ∷ []
unfolding natural natural_in
a-refusal = refl

-- `0`, `-1`, `-4000000`, `5000000` and the least number of 64 bits
pub zero-text : decimal (pos 0) ≡ 48 ∷ []
unfolding natural natural_in
zero-text = refl

pub minus_one : decimal (negsuc 0) ≡ 45 ∷ 49 ∷ []
unfolding natural natural_in
minus_one = refl

pub lower-limit : decimal (negsuc 3999999) ≡ 45 ∷ 52 ∷ 48 ∷ 48 ∷ 48 ∷ 48 ∷ 48 ∷ 48 ∷ []
unfolding natural natural_in
lower-limit = refl

pub least : decimal (negsuc 9223372036854775807) ≡ 45 ∷ 57 ∷ 50 ∷ 50 ∷ 51 ∷ 51 ∷ 55 ∷ 50 ∷ 48 ∷ 51 ∷ 54 ∷ 56 ∷ 53 ∷ 52 ∷ 55 ∷ 55 ∷ 53 ∷ 56 ∷ 48 ∷ 56 ∷ []
unfolding natural natural_in
least = refl
