-- The parts of a rules file, read one after another.
use Rattle.std.proofs.Common.{◌≡◌, ℕ, ◌-◌, ◌≤◌, ◌<◌, ◌==◌, Bool, true, false, if◌then◌else◌, List, [], ◌∷◌, ◌++◌, length, map, Option, Some, None, option_map, option_and_then, Result, Ok, Err, refl, sym, ap, subst, ◌∙◌, append_assoc, arith}
use Rattle.std.specs.Prelude.{codes}
use Rattle.std.specs.List.{fold, concat}
use Rattle.std.specs.Option.{ok_or, is_some}
use Rattle.std.proofs.lemmas.Bool.{lt-leb}
use Rattle.std.proofs.lemmas.List.{append-nil, length-map}
use Rattle.serde_json.specs.Data.{Data}
use Rattle.serde_json.specs.Find.{get, as_object}
use Rattle.tgap_model.specs.declared.topology.NamedRules.{NamedRules}
use Rattle.tgap_model.specs.declared.fault.LimitKind.TheVariants.{Classes}
use Rattle.tgap_model.specs.declared.fault.MapFault.{MapFault}
use Rattle.tgap_model.specs.declared.fault.MapFault.TheVariants.{Limit, BadRules}
use Rattle.tgap_model.specs.declared.limits.TheConstants.{MAX_CLASSES, MAX_COMPATIBILITY, MAX_RATIO}
use Rattle.tgap_model.specs.declared.failure.Or.{Or}
use Rattle.tgap_model.specs.declared.failure.Or.TheVariants.{Fault, Memory}
use Rattle.line_forms.specs.Json.{ensured, items_of, each_of, text_at, natural_in}
use Rattle.line_forms.specs.Lines.{◌>>=◌}
use Rattle.map_forms.specs.Listing.{within_limit}
use Rattle.map_forms.specs.RulesFile.{class_of, classes_of, exactly, compat_of, named_rules}
use Rattle.plain_io.specs.Taking.{Refuses}
use Rattle.plain_io.proofs.Loops.{refused}
use Rattle.plain_io.proofs.Steps.{bound}
use Rattle.area_listing.specs.RulesReading.{so_many, apart, names_and_weights}
use Rattle.area_listing.proofs.EachOf.{gathered, gathered_some, each_of_length, passed_by}
use Rattle.area_listing.proofs.Sections.{within_limit_again}

-- ---- what was found

-- what was found, as contracts see it, behind the fault of its place
pub found_at : {T D F : Type 0} (found : Option T) (x : T) (see : T → D) (read : Option D) (bad : F) → Ok x ≡ ok_or found bad → option_map see found ≡ read → read ≡ Some (see x)
found_at (Some y) x see read bad e h = let same : y ≡ x = cc in sym h ∙ ap (λ z. Some (see z)) same
found_at None x see read bad e h = absurd cc

-- ---- arrays of so many items

-- what is read where a test holds, of what is there where it holds
where_holds : {A B : Type 0} (b : Bool) (f : A → Option B) (x y : A) → (if b then Some x else None) ≡ Some y → (if b then f x else None) ≡ f y
where_holds true f x y e = let same : x ≡ y = cc in ap f same
where_holds false f x y e = absurd cc

-- so many items are read as they are
exactly_of : {B : Type 0} (n : ℕ) (f : List Data → Option B) (found : Option (List Data)) (items : List Data) → option_and_then (λ xs. if length xs == n then Some xs else None) found ≡ Some items
    → option_and_then (λ xs. if length xs == n then f xs else None) found ≡ f items
exactly_of n f (Some xs) items e = where_holds (length xs == n) f xs items e
exactly_of n f None items e = absurd cc

-- each item of so many is read
pub exactly_is : {B : Type 0} (n : ℕ) (read : Data → Option B) (d : Data) (items : List Data) → so_many n d ≡ Some items → exactly n read d ≡ each_of read items
exactly_is n read d items e = exactly_of n (each_of read) (items_of d) items e

-- ---- classes

-- a class behind those before, its name and its weight apart
abbrev pub class_behind : List (List ℕ) × List ℕ → List ℕ × ℕ → List (List ℕ) × List ℕ
class_behind classes class = (classes.0 ++ class.0 ∷ [], classes.1 ++ class.1 ∷ [])

-- all classes are put apart
apart_all : (names : List (List ℕ)) (weights : List ℕ) (classes : List (List ℕ × ℕ)) → fold class_behind (names, weights) classes ≡ (names ++ map (λ c. c.0) classes, weights ++ map (λ c. c.1) classes)
apart_all names weights [] = rw (append-nil names, append-nil weights) refl
apart_all names weights (c ∷ classes) =
    apart_all (names ++ c.0 ∷ []) (weights ++ c.1 ∷ []) classes ∙ rw (append_assoc names (c.0 ∷ []) (map (λ c. c.0) classes), append_assoc weights (c.1 ∷ []) (map (λ c. c.1) classes)) refl

-- so many classes as the limit allows
pub classes_in_limit : (items : List Data) (all : List (List ℕ) × List ℕ) → length items ≤ MAX_CLASSES → gathered class_behind ([], []) (each_of class_of items) ≡ Some all
    → names_and_weights (each_of class_of items) ≡ Ok all
classes_in_limit items all le e =
    let read = gathered_some class_behind ([], []) all (each_of class_of items) e in
    let few : length read.0 ≤ MAX_CLASSES = omega (arith, each_of_length class_of items read.0 read.1) in
    rw (read.1, within_limit_again Classes (length read.0) few) (ap Ok (sym (apart_all [] [] read.0) ∙ read.2))

-- more of them
pub classes_beyond : (items : List Data) → MAX_CLASSES < length items → gathered passed_by tt (each_of class_of items) ≡ Some tt
    → names_and_weights (each_of class_of items) ≡ Err (Limit Classes (length items))
classes_beyond items lt e =
    let read = gathered_some passed_by tt tt (each_of class_of items) e in
    let same = each_of_length class_of items read.0 read.1 in
    rw (read.1, same, lt-leb (length items) MAX_CLASSES lt) refl

-- ---- compatibilities

-- the compatibilities are those of the rows, one after another
pub compat_is : (n : ℕ) (d table : Data) (rows : List Data) → get (codes "compat") d ≡ Some table → so_many n table ≡ Some rows
    → option_and_then (compat_of n) (get (codes "compat") d) ≡ option_map concat (each_of (exactly n (natural_in 0 MAX_COMPATIBILITY)) rows)
compat_is n d table rows e many =
    ap (option_and_then (compat_of n)) e ∙ ap (option_map concat) (exactly_is n (exactly n (natural_in 0 MAX_COMPATIBILITY)) table rows many)

-- a part that is not read, where without it nothing is read
pub refused_part : {A B C F : Type 0} (f : Or F) (see : A → B) (part : Option A) (read : Option C) (bad : F) → (part ≡ None → read ≡ None) → Refuses f (ok_or (option_map see part) bad) → Refuses f (ok_or read bad)
refused_part Memory see part read bad none h = tt
refused_part (Fault f) see (Some x) read bad none h = absurd cc
refused_part (Fault f) see None read bad none h = let same : bad ≡ f = cc in ap (λ r. ok_or r bad) (none refl) ∙ ap Err same

-- ---- the rules

-- where one thing is refused, so is what goes on from it
pub refused_first : {A B F : Type 0} (f : Or F) (read : Result A F) (more : A → Result B F) → Refuses f read → Refuses f (read >>= more)
refused_first Memory read more h = tt
refused_first (Fault f) (Ok x) more h = absurd cc
refused_first (Fault f) (Err e) more h = let same : e ≡ f = cc in ap Err same

-- the classes are read, and within their limit
classes_read : (read : Option (List (List ℕ × ℕ))) (all : List (List ℕ) × List ℕ) → names_and_weights read ≡ Ok all
    → (classes : List (List ℕ × ℕ)) × (read ≡ Some classes) × (within_limit Classes (length classes) ≡ Ok tt) × (apart classes ≡ all)
classes_read None all e = absurd cc
classes_read (Some classes) all e = bound _ (within_limit Classes (length classes)) all e (λ limited e0 r0. (classes, refl, e0, cc))

-- the rules, where their property and their classes are read
abbrev pub rules_from : Data → List ℕ → List (List ℕ) → List ℕ → Result NamedRules MapFault
rules_from d property names weights = do
  default ← ok_or (option_and_then (natural_in 0 (length weights - 1)) (get (codes "default") d)) (BadRules 4)
  compat ← ok_or (option_and_then (compat_of (length weights)) (get (codes "compat") d)) (BadRules 5)
  ratio ← ok_or (option_and_then (natural_in 0 MAX_RATIO) (get (codes "ratio") d)) (BadRules 6)
  Ok (record { property = property; names = names; default = default; rules = record { ratio = ratio; weights = weights; compat = compat } })

-- the rules, where what stands before the default is read
rules_from_known : (d : Data) (top : Unit {0}) (property : List ℕ) (classes : List (List ℕ × ℕ)) → ensured (is_some (as_object d)) (BadRules 1) ≡ Ok top → ok_or (text_at (codes "property") d) (BadRules 2) ≡ Ok property
    → option_and_then classes_of (get (codes "classes") d) ≡ Some classes → within_limit Classes (length classes) ≡ Ok tt → named_rules d ≡ rules_from d property (map (λ c. c.0) classes) (map (λ c. c.1) classes)
unfolding named_rules
rules_from_known d top property classes e0 e1 e2 e3 = let n = length-map classes (λ c. c.1) in rw (e0, e1, e2, e3, n) refl

-- the rules, where what stands before the default is read and the names and the weights of the classes are apart
pub rules_from_classes : (d : Data) (top : Unit {0}) (property : List ℕ) (names : List (List ℕ)) (weights : List ℕ) → ensured (is_some (as_object d)) (BadRules 1) ≡ Ok top → ok_or (text_at (codes "property") d) (BadRules 2) ≡ Ok property
    → names_and_weights (option_and_then classes_of (get (codes "classes") d)) ≡ Ok (names, weights) → named_rules d ≡ rules_from d property names weights
rules_from_classes d top property names weights e0 e1 e2 =
    let read = classes_read (option_and_then classes_of (get (codes "classes") d)) (names, weights) e2 in
    let P : List (List ℕ) × List ℕ → Type 0 = λ all. named_rules d ≡ rules_from d property all.0 all.1 in
    subst P read.3 (rules_from_known d top property read.0 e0 e1 read.1 read.2)

-- no default
pub default_refused : (d : Data) (property : List ℕ) (names : List (List ℕ)) (weights : List ℕ) (high : ℕ) (f : Or MapFault) → high ≡ length weights - 1
    → Refuses f (ok_or (option_and_then (natural_in 0 high) (get (codes "default") d)) (BadRules 4)) → Refuses f (rules_from d property names weights)
default_refused d property names weights high f same h =
    refused f (ok_or (option_and_then (natural_in 0 high) (get (codes "default") d)) (BadRules 4)) (rules_from d property names weights) (λ e is. let now = rw same at is in rw now refl) h

-- no compatibilities
pub compat_refused : (d : Data) (property : List ℕ) (names : List (List ℕ)) (weights : List ℕ) (high default n : ℕ) (f : Or MapFault) → high ≡ length weights - 1
    → ok_or (option_and_then (natural_in 0 high) (get (codes "default") d)) (BadRules 4) ≡ Ok default → n ≡ length weights
    → Refuses f (ok_or (option_and_then (compat_of n) (get (codes "compat") d)) (BadRules 5)) → Refuses f (rules_from d property names weights)
compat_refused d property names weights high default n f same e many h =
    let first = rw same at e in
    refused f (ok_or (option_and_then (compat_of n) (get (codes "compat") d)) (BadRules 5)) (rules_from d property names weights) (λ e is. let now = rw many at is in rw (first, now) refl) h

-- all but the ratio is read
pub ratio_left : (d : Data) (property : List ℕ) (names : List (List ℕ)) (weights : List ℕ) (high default n : ℕ) (compat : List ℕ) → high ≡ length weights - 1
    → ok_or (option_and_then (natural_in 0 high) (get (codes "default") d)) (BadRules 4) ≡ Ok default → n ≡ length weights
    → ok_or (option_and_then (compat_of n) (get (codes "compat") d)) (BadRules 5) ≡ Ok compat
    → rules_from d property names weights ≡ (ok_or (option_and_then (natural_in 0 MAX_RATIO) (get (codes "ratio") d)) (BadRules 6)
    >>= λ ratio. Ok (record { property = property; names = names; default = default; rules = record { ratio = ratio; weights = weights; compat = compat } }))
ratio_left d property names weights high default n compat same e many table =
    let first = rw same at e in
    let second = rw many at table in
    rw (first, second) refl
