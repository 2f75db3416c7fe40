-- The least rule that a record of a window breaks.
use Rattle.std.proofs.Common.{◌≡◌, ℕ, Bool, true, ◌&&◌, List, [], ◌∷◌, map, Some, None, cond}
use Rattle.std.specs.Prelude.{◌==◌, not}
use Rattle.std.specs.List.{list_all}
use Rattle.std.proofs.lemmas.Bool.{and_parts}
use Rattle.tgap_model.specs.declared.geometry.Window.{Window}
use Rattle.tgap_model.specs.declared.slice.Slice.{Slice}
use Rattle.tgap_model.specs.declared.window_record.WindowStep.{WindowStep}
use Rattle.tgap_model.specs.Records.{fits_step, fits_mends, fits_puts, fits_pieces, has_face, keys_ascend}
use Rattle.tgap_model.specs.WindowRecords.{whole_record, fits_faces_in, fits_comes, fits_keys_in, fits_rows, broken_rule_in}
use Rattle.client_replay.specs.Windows.{broken_before_in}
use Rattle.client_replay.proofs.Failures.{failure_kept, failure_later, six_of, KeepsMends}

-- the first six rules are kept
pub record KeepsSixIn (s : Slice) (r : WindowStep) : Type 0 where
  pub step : fits_step s (whole_record r) ≡ true
  pub faces : fits_faces_in s r ≡ true
  pub mends : KeepsMends s (whole_record r)
  pub comes : fits_comes s r ≡ true

-- what rule 6 says
pub record ComesFacts (s : Slice) (r : WindowStep) : Type 0 where
  pub edges : keys_ascend (map (λ e. e.key) r.comes) ≡ true
  pub order : keys_ascend (map (λ f. f.face) r.faces) ≡ true
  pub new : list_all (λ f. not (f.face == 0) && not (has_face s f.face)) r.faces ≡ true

pub comes_facts : (s : Slice) (r : WindowStep) → fits_comes s r ≡ true → ComesFacts s r
comes_facts s r h =
    let a0 = keys_ascend (map (λ e. e.key) r.comes) in
    let a1 = keys_ascend (map (λ f. f.face) r.faces) in
    let p1 = and_parts (a0 && a1) (list_all (λ f. not (f.face == 0) && not (has_face s f.face)) r.faces) h in
    let p0 = and_parts a0 a1 p1.0 in
    record { edges = p0.0; order = p0.1; new = p1.1 }

module _ (s : Slice) (r : WindowStep) where
  abbrev six : List Bool
  six =
      fits_step s (whole_record r) ∷ fits_faces_in s r ∷ fits_mends s (whole_record r) ∷ fits_puts s (whole_record r)
      ∷ fits_pieces s (whole_record r) ∷ fits_comes s r ∷ []

  pub keeps_six_in : broken_before_in s r ≡ None → KeepsSixIn s r
  unfolding broken_before_in
  keeps_six_in e =
      let w = whole_record r in
      let all = six_of (fits_step s w) (fits_faces_in s r) (fits_mends s w) (fits_puts s w) (fits_pieces s w) (fits_comes s r) (failure_later 1 six [] e).1 in
      record { step = all.0; faces = all.1; mends = record { mends = all.2; puts = all.3; pieces = all.4 }; comes = all.5 }

  -- a rule that is broken among the first six is the least
  pub broken_first_in : (area : Window) (k : ℕ) → broken_before_in s r ≡ Some k → broken_rule_in area s r ≡ Some k
  unfolding broken_before_in broken_rule_in
  broken_first_in area k e = failure_kept 1 six (fits_keys_in area s r ∷ fits_rows area s r ∷ []) k e

  -- the other two decide then
  pub broken_later_in : (area : Window) → broken_before_in s r ≡ None
      → broken_rule_in area s r ≡ cond (fits_keys_in area s r) (cond (fits_rows area s r) None (Some 8)) (Some 7)
  unfolding broken_before_in broken_rule_in
  broken_later_in area e = (failure_later 1 six (fits_keys_in area s r ∷ fits_rows area s r ∷ []) e).0
