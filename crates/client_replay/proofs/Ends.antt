-- The last place of some pieces.
use Rattle.std.proofs.Common.{◌≡◌, ℕ, suc, ◌-◌, Bool, false, List, [], ◌∷◌, map, length, Option, Some, None, refl, ap, ◌∙◌, arith}
use Rattle.std.specs.Prelude.{◌==◌}
use Rattle.std.specs.List.{slice_get}
use Rattle.tgap_model.specs.declared.record.Piece.{Piece}
use Rattle.tgap_model.specs.Records.{ends_with_place}

-- the last piece, where there is one, ends at this place
abbrev pub ends_at : ℕ → Option Piece → Bool
ends_at n None = false
ends_at n (Some p) = p.last == n

pub ends_at_last : (n : ℕ) (pieces : List Piece) → ends_with_place n (map (λ p. p.last) pieces) ≡ ends_at n (slice_get pieces (length pieces - 1))
ends_at_last n [] = refl
ends_at_last n (p ∷ []) = refl
ends_at_last n (p ∷ q ∷ pieces) =
    let e : suc (length (q ∷ pieces) - 1) ≡ length (p ∷ q ∷ pieces) - 1 = omega arith in
    ends_at_last n (q ∷ pieces) ∙ ap (λ k. ends_at n (slice_get (p ∷ q ∷ pieces) k)) e
