-- Quarters and halves on both sides of zero, computed: from -5/2 to 5/2, and from -7/4 to 7/4.
use mathlib.Core.Path.{◌≡◌, refl}
use mathlib.Core.List.{[], ◌∷◌, map}
use lib.IntN.{pos, negsuc}
use Rattle.whole.specs.Nearest.{half_up, nearest}

-- -5, -3, -1, 0, 1, 3, 5 halves are -3, -2, -1, 0, 1, 2, 3
pub halves :
    map (λ z. nearest z 2) (negsuc 4 ∷ negsuc 2 ∷ negsuc 0 ∷ pos 0 ∷ pos 1 ∷ pos 3 ∷ pos 5 ∷ [])
    ≡ negsuc 2 ∷ negsuc 1 ∷ negsuc 0 ∷ pos 0 ∷ pos 1 ∷ pos 2 ∷ pos 3 ∷ []
unfolding nearest half_up
halves = refl

-- -7, -5, -3, -1, 1, 3, 5, 7 quarters are -2, -1, -1, 0, 0, 1, 1, 2
pub quarters :
    map (λ z. nearest z 4) (negsuc 6 ∷ negsuc 4 ∷ negsuc 2 ∷ negsuc 0 ∷ pos 1 ∷ pos 3 ∷ pos 5 ∷ pos 7 ∷ [])
    ≡ negsuc 1 ∷ negsuc 0 ∷ negsuc 0 ∷ pos 0 ∷ pos 0 ∷ pos 1 ∷ pos 1 ∷ pos 2 ∷ []
unfolding nearest half_up
quarters = refl
