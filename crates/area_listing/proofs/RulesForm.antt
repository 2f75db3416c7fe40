-- What is read of a rules file keeps to the limits.
use Rattle.std.proofs.Common.{◌≡◌, ℕ, ◌-◌, ◌*◌, ◌≤◌, ◌==◌, nat_le, Bool, true, ◌&&◌, if◌then◌else◌, List, [], ◌∷◌, length, map, Option, Some, None, option_map, option_and_then, Result, Ok, Err, refl, ap, subst, ◌∙◌, arith}
use Rattle.std.specs.Prelude.{codes, IsTrue, IfOk}
use Rattle.std.specs.List.{list_all, concat}
use Rattle.std.specs.Option.{ok_or, is_some}
use Rattle.std.proofs.lemmas.Bool.{and_from, and_parts, leb-true, le-leb, lt-ltb, eq-eqb, eqb-true}
use Rattle.std.proofs.lemmas.List.{length-append, length-map}
use Rattle.std.proofs.lemmas.List.Folds.{list_all-append, list_all-map}
use Rattle.std.proofs.lemmas.Option.{cond_some, option_and_then_some}
use Rattle.serde_json.specs.Data.{Data}
use Rattle.serde_json.specs.Find.{get, as_object, as_number, as_str, as_u64}
use Rattle.tgap_model.specs.declared.topology.NamedRules.{NamedRules}
use Rattle.tgap_model.specs.declared.fault.LimitKind.TheVariants.{Classes}
use Rattle.tgap_model.specs.declared.failure.Or.{Or}
use Rattle.tgap_model.specs.declared.fault.MapFault.{MapFault}
use Rattle.tgap_model.specs.declared.fault.MapFault.TheVariants.{BadRules}
use Rattle.tgap_model.specs.declared.limits.TheConstants.{MAX_CLASSES, MAX_WEIGHT, MAX_COMPATIBILITY, MAX_RATIO}
use Rattle.tgap_model.specs.Base.{is_rules}
use Rattle.line_forms.specs.Json.{tree, ensured, items_of, each_of, text_at, natural_in}
use Rattle.map_forms.specs.Listing.{within_limit}
use Rattle.map_forms.specs.RulesFile.{named_weight, class_of, exactly, classes_of, compat_of, named_rules, rules_of, is_named_rules}
use Rattle.plain_io.specs.Taking.{GivesWhole}
use Rattle.plain_io.proofs.Steps.{bound, ok_or_is}
use Rattle.area_listing.proofs.EachOf.{mapped_some, where_some, each_of_length, each_of_all}
use Rattle.area_listing.proofs.Sections.{within_limit_is}

-- ---- numbers

-- a number that is read is in its range
natural_fits : (low high : ℕ) (d : Data) (n : ℕ) → natural_in low high d ≡ Some n → (nat_le low n && nat_le n high) ≡ true
natural_fits low high d n e =
    option_and_then_some (λ m. if nat_le low m && nat_le m high then Some m else None) (option_and_then as_u64 (as_number d)) n e (λ m is kept.
    let in_range = cond_some (nat_le low m && nat_le m high) m n kept in
    subst (λ k. (nat_le low k && nat_le k high) ≡ true) in_range.1 in_range.0)

-- and not above the greatest
natural_below : (low high : ℕ) (d : Data) (n : ℕ) → natural_in low high d ≡ Some n → n ≤ high
natural_below low high d n e = leb-true n high (and_parts (nat_le low n) (nat_le n high) (natural_fits low high d n e)).1

-- a member that is a number
member_below : (high : ℕ) (member : Option Data) (n : ℕ) → option_and_then (natural_in 0 high) member ≡ Some n → n ≤ high
member_below high member n e = option_and_then_some (natural_in 0 high) member n e (λ d is read. natural_below 0 high d n read)

-- ---- classes

-- a weight is in its range
abbrev has_weight : List ℕ × ℕ → Bool
has_weight class = nat_le 1 class.1 && nat_le class.1 MAX_WEIGHT

-- the weight of a class
with_weight : (name : List ℕ) (weight : Option ℕ) (class : List ℕ × ℕ) → option_map (λ w. (name, w)) weight ≡ Some class → weight ≡ Some class.1
with_weight name (Some w) class e = let same : (name, w) ≡ class = cc in ap (λ (c : List ℕ × ℕ). Some c.1) same
with_weight name None class e = absurd cc

-- a name and a weight
named_weight_fits : (items : List Data) (class : List ℕ × ℕ) → named_weight items ≡ Some class → has_weight class ≡ true
named_weight_fits [] class e = absurd cc
named_weight_fits (name ∷ []) class e = absurd cc
named_weight_fits (name ∷ weight ∷ []) class e =
    option_and_then_some (λ n. option_map (λ w. (n, w)) (natural_in 1 MAX_WEIGHT weight)) (as_str name) class e (λ n is read.
    natural_fits 1 MAX_WEIGHT weight class.1 (with_weight n (natural_in 1 MAX_WEIGHT weight) class read))
named_weight_fits (name ∷ weight ∷ more ∷ items) class e = absurd cc

-- a class
class_fits : (d : Data) (class : List ℕ × ℕ) → class_of d ≡ Some class → has_weight class ≡ true
class_fits d class e = option_and_then_some named_weight (items_of d) class e (λ items is read. named_weight_fits items class read)

-- what is known of classes that are read
record AreClasses (classes : List (List ℕ × ℕ)) : Type 0 where
  some : 1 ≤ length classes
  weights : list_all has_weight classes ≡ true

-- the classes
classes_fit : (member : Option Data) (classes : List (List ℕ × ℕ)) → option_and_then classes_of member ≡ Some classes → AreClasses classes
classes_fit member classes e =
    option_and_then_some classes_of member classes e (λ d is read.
    option_and_then_some (λ items. if nat_le 1 (length items) then each_of class_of items else None) (items_of d) classes read (λ items found kept.
    let some = where_some (nat_le 1 (length items)) (each_of class_of items) classes kept in
    record {
      some = omega (arith, leb-true 1 (length items) some.0, each_of_length class_of items classes some.1);
      weights = each_of_all class_of has_weight class_fits items classes some.1;
    }))

-- ---- compatibilities

-- a row of n compatibilities
abbrev is_row : ℕ → List ℕ → Bool
is_row n row = (length row == n) && list_all (λ v. nat_le v MAX_COMPATIBILITY) row

-- n things that are read
exactly_fits : {A : Type 0} (n : ℕ) (read : Data → Option A) (d : Data) (found : List A) → exactly n read d ≡ Some found → (items : List Data) × (length found ≡ n) × (each_of read items ≡ Some found)
exactly_fits n read d found e =
    option_and_then_some (λ items. if length items == n then each_of read items else None) (items_of d) found e (λ items is kept.
    let many = where_some (length items == n) (each_of read items) found kept in
    (items, each_of_length read items found many.1 ∙ eqb-true (length items) n many.0, many.1))

-- a row
row_fits : (n : ℕ) (d : Data) (row : List ℕ) → exactly n (natural_in 0 MAX_COMPATIBILITY) d ≡ Some row → is_row n row ≡ true
row_fits n d row e =
    let found = exactly_fits n (natural_in 0 MAX_COMPATIBILITY) d row e in
    let few = each_of_all (natural_in 0 MAX_COMPATIBILITY) (λ v. nat_le v MAX_COMPATIBILITY) (λ x y read. le-leb y MAX_COMPATIBILITY (natural_below 0 MAX_COMPATIBILITY x y read)) found.0 row found.2 in
    and_from (length row == n) _ (eq-eqb (length row) n found.1) few

-- rows one after another have n numbers each
rows_length : (n : ℕ) (rows : List (List ℕ)) → list_all (is_row n) rows ≡ true → length (concat rows) ≡ length rows * n
rows_length n [] fits = omega arith
rows_length n (row ∷ rows) fits =
    let parts = and_parts (is_row n row) (list_all (is_row n) rows) fits in
    let one = eqb-true (length row) n (and_parts (length row == n) (list_all (λ v. nat_le v MAX_COMPATIBILITY) row) parts.0).0 in
    omega (arith, length-append row (concat rows), one, rows_length n rows parts.1)

-- and each of their numbers is in its range
rows_few : (n : ℕ) (rows : List (List ℕ)) → list_all (is_row n) rows ≡ true → list_all (λ v. nat_le v MAX_COMPATIBILITY) (concat rows) ≡ true
rows_few n [] fits = refl
rows_few n (row ∷ rows) fits =
    let parts = and_parts (is_row n row) (list_all (is_row n) rows) fits in
    let one = and_parts (length row == n) (list_all (λ v. nat_le v MAX_COMPATIBILITY) row) parts.0 in
    list_all-append (λ v. nat_le v MAX_COMPATIBILITY) row (concat rows) ∙ and_from (list_all (λ v. nat_le v MAX_COMPATIBILITY) row) (list_all (λ v. nat_le v MAX_COMPATIBILITY) (concat rows)) one.1 (rows_few n rows parts.1)

-- what is known of compatibilities that are read
record AreCompatibilities (n : ℕ) (compat : List ℕ) : Type 0 where
  table : length compat ≡ n * n
  few : list_all (λ v. nat_le v MAX_COMPATIBILITY) compat ≡ true

-- the compatibilities
compat_fits : (n : ℕ) (member : Option Data) (compat : List ℕ) → option_and_then (compat_of n) member ≡ Some compat → AreCompatibilities n compat
compat_fits n member compat e =
    option_and_then_some (compat_of n) member compat e (λ d is read.
    let joined = mapped_some concat (exactly n (exactly n (natural_in 0 MAX_COMPATIBILITY)) d) compat read in
    let rows = exactly_fits n (exactly n (natural_in 0 MAX_COMPATIBILITY)) d joined.0 joined.1 in
    let fits = each_of_all (exactly n (natural_in 0 MAX_COMPATIBILITY)) (is_row n) (row_fits n) rows.0 joined.0 rows.2 in
    subst (AreCompatibilities n) joined.2 (record {
      table = rows_length n joined.0 fits ∙ ap (λ k. k * n) rows.1;
      few = rows_few n joined.0 fits;
    }))

-- ---- the rules

-- the rules that a JSON value tells keep to their limits
named_rules_fit : (d : Data) (named : NamedRules) → named_rules d ≡ Ok named → is_named_rules named ≡ true
unfolding named_rules is_named_rules is_rules
named_rules_fit d named e =
    bound _ (ensured (is_some (as_object d)) (BadRules 1)) named e (λ top e0 r0.
    bound _ (ok_or (text_at (codes "property") d) (BadRules 2)) named r0 (λ property e1 r1.
    bound _ (ok_or (option_and_then classes_of (get (codes "classes") d)) (BadRules 3)) named r1 (λ classes e2 r2.
    bound _ (within_limit Classes (length classes)) named r2 (λ limited e3 r3.
    bound _ (ok_or (option_and_then (natural_in 0 (length classes - 1)) (get (codes "default") d)) (BadRules 4)) named r3 (λ default e4 r4.
    bound _ (ok_or (option_and_then (compat_of (length classes)) (get (codes "compat") d)) (BadRules 5)) named r4 (λ compat e5 r5.
    bound _ (ok_or (option_and_then (natural_in 0 MAX_RATIO) (get (codes "ratio") d)) (BadRules 6)) named r5 (λ ratio e6 r6.
    let n = length classes in
    let known = classes_fit (get (codes "classes") d) classes (ok_or_is _ (BadRules 3) classes e2) in
    let few = within_limit_is Classes n limited e3 in
    let first = member_below (n - 1) (get (codes "default") d) default (ok_or_is _ (BadRules 4) default e4) in
    let table = compat_fits n (get (codes "compat") d) compat (ok_or_is _ (BadRules 5) compat e5) in
    let last = member_below MAX_RATIO (get (codes "ratio") d) ratio (ok_or_is _ (BadRules 6) ratio e6) in
    let weights = length-map classes (λ c. c.1) in
    let names = length-map classes (λ c. c.0) in
    let made : record {
      property = property;
      names = map (λ c. c.0) classes;
      default = default;
      rules = record { ratio = ratio; weights = map (λ c. c.1) classes; compat = compat };
    } ≡ named = cc in
    subst (λ x. is_named_rules x ≡ true) made (rw (
      weights,
      names,
      le-leb 1 n known.some,
      le-leb n MAX_CLASSES few,
      list_all-map (λ w. nat_le 1 w && nat_le w MAX_WEIGHT) (λ c. c.1) classes,
      known.weights,
      eq-eqb (length compat) (n * n) table.table,
      table.few,
      le-leb ratio MAX_RATIO last,
      eq-eqb n n refl,
      lt-ltb default n (omega (arith, first, known.some)),
    ) refl))))))))

-- the rules that the bytes tell have their form
rules_fit : (bytes : List ℕ) (named : NamedRules) → rules_of bytes ≡ Ok named → is_named_rules named ≡ true
unfolding rules_of
rules_fit bytes named e = bound _ (ok_or (tree bytes) (BadRules 0)) named e (λ d e0 r0. named_rules_fit d named r0)

-- the rules that the tree of the bytes tells
pub rules_read : (bytes : List ℕ) (d : Data) → tree bytes ≡ Some d → named_rules d ≡ rules_of bytes
unfolding rules_of
rules_read bytes d e = rw e refl

-- bytes that have no tree
pub no_rules : (bytes : List ℕ) → tree bytes ≡ None → rules_of bytes ≡ Err (BadRules 0)
unfolding rules_of
no_rules bytes e = rw e refl

-- whatever is given keeps to the limits, where it is what the bytes tell
pub given_fits : (bytes : List ℕ) (given : Result NamedRules (Or MapFault)) → GivesWhole given (rules_of bytes) → IfOk given (λ named. IsTrue (is_named_rules named))
given_fits bytes (Ok named) exact = rules_fit bytes named exact
given_fits bytes (Err e) exact = tt
