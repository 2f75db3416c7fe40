-- The path of a target, and what a path of a row asks for.
use Rattle.std.proofs.Common.{◌≡◌, ◌≢◌, ℕ, ◌-◌, ◌<◌, ◌==◌, Bool, true, false, List, length, take, get_or, slice_range, refl, sym, ap, ◌∙◌, arith, ne_eqb, eq-eqb, IsUtf8}
use Rattle.std.proofs.lemmas.List.{take_all}
use Rattle.std.proofs.lemmas.List.Sums.{position_or_len_is}
use Rattle.std.specs.Prelude.{not, bytes_eq, unwrap_or, if◌then◌else◌}
use Rattle.std.specs.Str.{is_utf8}
use Rattle.std.proofs.lemmas.Str.{is_utf8-from_IsUtf8, IsUtf8-from_is_utf8}
use Rattle.line_forms.specs.Words.{Row}
use Rattle.http_face.specs.declared.request.Resource.{Resource}
use Rattle.http_face.specs.declared.request.Route.TheVariants.{NoRoute, BadNumber, WrongMethod}
use Rattle.http_face.specs.Routes.{path_of, route_of, route_of_path, method_of, method_word, read_parameters, request_of}

-- the path ends before the first question mark
pub path_to : (target : List ℕ) (end : ℕ) → (end < length target) × (get_or target end 0 ≡ 63) × ((i : ℕ) → i < end → get_or target i 0 ≢ 63) → slice_range target 0 end ≡ path_of target
path_to target end h =
    let whole : end - 0 ≡ end = omega arith in
    rw whole (sym (ap (λ n. take n target)
    (position_or_len_is (λ b. b == 63) target end 0 (omega (arith, h.0)) (λ i lt. ne_eqb (get_or target i 0) 63 (h.2 i lt)) (λ _. eq-eqb (get_or target end 0) 63 h.1))))

-- without one it is the whole target
pub path_whole : (target : List ℕ) → ((i : ℕ) → i < length target → get_or target i 0 ≢ 63) → path_of target ≡ target
path_whole target h =
    ap (λ n. take n target)
    (position_or_len_is (λ b. b == 63) target (length target) 0 (omega arith) (λ i lt. ne_eqb (get_or target i 0) 63 (h i lt)) (λ (lt : length target < length target). absurd (omega arith)))
    ∙ take_all (length target) target (omega arith)

-- bytes that are UTF-8 have a path
pub text_route : (method target : List ℕ) → IsUtf8 target → route_of_path method (path_of target) ≡ route_of method target
text_route method target text = rw (is_utf8-from_IsUtf8 target text) refl

-- others have none
pub no_text_route : (method target : List ℕ) → ¬ (IsUtf8 target) → NoRoute ≡ route_of method target
no_text_route method target other = by (is_utf8 target) refl
  where
    by : (v : Bool) → is_utf8 target ≡ v → NoRoute ≡ route_of method target
    by true e = absurd (other (IsUtf8-from_is_utf8 target e))
    by false e = rw e refl

pub not_false : (b : Bool) → false ≡ not b → b ≡ true
not_false true h = refl
not_false false h = absurd cc

-- what a path of a row asks for by the method of the row
pub asked_of_row : (method : List ℕ) (r : Resource) (parameters : Row) → bytes_eq method (method_word (method_of r)) ≡ true
    → request_of method r parameters ≡ unwrap_or (read_parameters r parameters) BadNumber
asked_of_row method r parameters same = ap (λ b. if b then unwrap_or (read_parameters r parameters) BadNumber else WrongMethod (method_of r)) same
