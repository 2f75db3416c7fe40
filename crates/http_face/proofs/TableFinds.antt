-- What the router finds is the row of the path, with its parameters.
use Rattle.std.proofs.Common.{◌≡◌, ℕ, List, [], ◌∷◌, Option, Some, None, Result, Ok, Err, IfOk, OnErr, IfSome, IfNone, refl, sym, ap, ◌∙◌, subst, IsUtf8}
use Rattle.std.specs.Result.{result_ok}
use Rattle.matchit.specs.Seek.{first}
use Rattle.matchit.specs.Level.{IsText}
use Rattle.matchit.specs.Params.{walk}
use Rattle.matchit.specs.Router.{RouteOf}
use Rattle.matchit.proofs.OnLiterals.{matchit_on_literals}
use Rattle.line_forms.specs.Words.{Row}
use Rattle.http_face.specs.declared.request.Resource.{Resource}
use Rattle.http_face.specs.declared.request.Resource.TheVariants as resource
use Rattle.http_face.specs.Parameters.{values_of, AreTexts}
use Rattle.http_face.specs.Routes.{word_of, resources, segments_of, find_in}
use Rattle.http_face.specs.Table.{the_rows}
use Rattle.http_face.proofs.Parts.{joined_texts}
use Rattle.http_face.proofs.TableLaws.{entry_for, IsPath, path_is, routed}
use Rattle.http_face.proofs.TableForms.{row_of_found, taken_are}

entry_value : (r : Resource) → (entry_for r).value ≡ r
unfolding matchit_on_literals
entry_value resource.Info = refl
entry_value resource.Pin = refl
entry_value resource.PinSeen = refl
entry_value resource.Slice = refl
entry_value resource.Packet = refl
entry_value resource.Window = refl
entry_value resource.Topo = refl
entry_value resource.WindowPacket = refl
entry_value resource.Edit = refl

-- the values that a path has for the names of this route
abbrev Values : RouteOf Resource → List ℕ → Row
Values e path = values_of (walk e.pattern e.text path e.names 0 0)

some_is : {A : Type 0} (x y : A) → Some x ≡ Some y → x ≡ y
some_is x y h = cc

-- what the router says of a path, and the row that the path is of
found_entry : (path : List ℕ) (e : RouteOf Resource) → IsText path → first the_rows path ≡ Some e
    → (r : Resource) × (parameters : Row) × (find_in resources (segments_of path) ≡ Some (r, parameters)) × (e ≡ entry_for r) × IsPath r parameters path
found_entry path e bytes h = by (row_of_found path e bytes h)
  where
    by : ((r : Resource) × (parameters : Row) × (find_in resources (segments_of path) ≡ Some (r, parameters)))
        → (r : Resource) × (parameters : Row) × (find_in resources (segments_of path) ≡ Some (r, parameters)) × (e ≡ entry_for r) × IsPath r parameters path
    by row =
        let is = path_is path row.0 row.1 bytes row.2 in
        (row.0, row.1, row.2, some_is e (entry_for row.0) (sym h ∙ routed path row.0 row.1 is), is)

-- the row that is found, with its parameters
pub row_is : (path : List ℕ) (e : RouteOf Resource) → IsText path → first the_rows path ≡ Some e → find_in resources (segments_of path) ≡ Some (e.value, Values e path)
row_is path e bytes h = by (found_entry path e bytes h)
  where
    by : ((r : Resource) × (parameters : Row) × (find_in resources (segments_of path) ≡ Some (r, parameters)) × (e ≡ entry_for r) × IsPath r parameters path)
        → find_in resources (segments_of path) ≡ Some (e.value, Values e path)
    by f =
        let value : e.value ≡ f.0 = ap (λ x. x.value) f.3 ∙ entry_value f.0 in
        let values : Values e path ≡ f.1 = ap (λ x. Values x path) f.3 ∙ taken_are f.0 f.1 path f.4 in
        f.2 ∙ ap (λ r. Some (r, f.1)) (sym value) ∙ ap (λ ps. Some (e.value, ps)) (sym values)

-- its parameters are UTF-8
pub texts_are : (path : List ℕ) (e : RouteOf Resource) → IsText path → IsUtf8 path → first the_rows path ≡ Some e → AreTexts (Values e path)
texts_are path e bytes text h = by (found_entry path e bytes h)
  where
    by : ((r : Resource) × (parameters : Row) × (find_in resources (segments_of path) ≡ Some (r, parameters)) × (e ≡ entry_for r) × IsPath r parameters path) → AreTexts (Values e path)
    by f =
        let values : Values e path ≡ f.1 = ap (λ x. Values x path) f.3 ∙ taken_are f.0 f.1 path f.4 in
        let parts : AreTexts ([] ∷ word_of f.0 ∷ f.1) = joined_texts ([] ∷ word_of f.0 ∷ f.1) (subst IsUtf8 f.4.joined text) in
        subst AreTexts (sym values) parts.1.1

-- where the router finds nothing, the path is of no row
pub none_is : (path : List ℕ) → IsText path → first the_rows path ≡ None → find_in resources (segments_of path) ≡ None
none_is path bytes h = by (find_in resources (segments_of path)) refl
  where
    by : (o : Option (Resource × Row)) → find_in resources (segments_of path) ≡ o → find_in resources (segments_of path) ≡ None
    by None e = e
    by (Some row) e = let found = sym h ∙ routed path row.0 row.1 (path_is path row.0 row.1 bytes e) in absurd cc

-- ---- the value of a result

-- what two clauses say of a value, said of it as an option
pub ok_gives : {M E : Type 0} (F G P : M → Type 0) (r : Result M E) (o : Option M) → o ≡ result_ok r → IfOk r F → IfOk r G → ((m : M) → F m → G m → P m) → IfSome o P
ok_gives F G P (Ok m) o e f g go = subst (λ x. IfSome x P) (sym e) (go m f g)
ok_gives F G P (Err x) o e f g go = subst (λ y. IfSome y P) (sym e) tt

pub err_gives : {M E : Type 0} {F P : Type 0} (r : Result M E) (o : Option M) → o ≡ result_ok r → OnErr r F → (F → P) → IfNone o P
err_gives {P = P} (Ok m) o e f go = subst (λ x. IfNone x P) (sym e) tt
err_gives {P = P} (Err x) o e f go = subst (λ y. IfNone y P) (sym e) (go f)
