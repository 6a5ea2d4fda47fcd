-- The heading's numbers are those of the listing, which counts the points that it lists.
use Rattle.std.proofs.Common.{◌≡◌, ◌++◌, ◌∷◌, [], ℕ, List, ap, ◌∙◌}
use Rattle.listing.specs.Listing.{numbers_line, point_lines, listed_by, chosen_text}
use Rattle.listing.proofs.Listed.{counted}
use Rattle.listing.proofs.outline.list_chosen.Goals as goal

pub returns : goal.returns
unfolding chosen_text
returns c =
    let a = c.args in
    let e : c.as_slice.result.now ≡ numbers_line (a.basis ∷ a.tolerance ∷ a.spans ∷ a.count ∷ a.cuts ∷ []) = c.as_slice.ensures.value ∙ c.numbers_line.ensures in
    c.list_under.ensures
    ∙ ap (λ (h : List ℕ). listed_by (λ ps. h ++ point_lines 0 ps) a.text.now a.points.now a.count) e
    ∙ counted a.text.now a.points.now a.count (λ (n : ℕ). a.basis ∷ a.tolerance ∷ a.spans ∷ n ∷ a.cuts ∷ [])
