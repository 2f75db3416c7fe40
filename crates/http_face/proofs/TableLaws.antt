-- The row of a path, by the router and by the table.
use Rattle.std.proofs.Common.{◌≡◌, ℕ, zero, suc, if◌then◌else◌, true, codes, Fits, w8, List, [], ◌∷◌, ◌++◌, length, get_or, Option, Some, None, refl, sym, ap, ◌∙◌, subst, arith}
use Rattle.std.specs.List.{join_with_byte}
use Rattle.std.proofs.lemmas.Bool.{and_parts}
use Rattle.std.proofs.lemmas.Option.{cond_some}
use Rattle.std.proofs.lemmas.List.Splits.{join_with_byte-slice_split}
use Rattle.matchit.specs.Router.{RouteOf}
use Rattle.matchit.specs.Seek.{first}
use Rattle.matchit.specs.Level.{IsText}
use Rattle.matchit.proofs.OnLiterals.{matchit_on_literals}
use Rattle.line_forms.specs.Words.{Row, ◌>>=◌, after_word}
use Rattle.plain_io.proofs.Steps.{bind_some, after_word_is}
use Rattle.http_face.specs.declared.request.Resource.{Resource}
use Rattle.http_face.specs.declared.request.Resource.TheVariants as resource
use Rattle.http_face.specs.Routes.{word_of, parameter_count, resources, segments_of, are_parameters, parameters_of, find_in}
use Rattle.http_face.specs.Table.{HasPlace, the_rows, version_rows, with_row, entry}
use Rattle.http_face.proofs.Seeking.{after, found_after, slots, AllParts, found_parameters, split_parts}

-- ---- the rows after the front of each path

pin_rows : after (codes "/pin/") the_rows ≡ (256 ∷ [], entry (codes "/pin/{seen}") resource.PinSeen) ∷ []
unfolding the_rows version_rows matchit_on_literals
pin_rows = refl

slice_rows : after (codes "/slice/") the_rows ≡ (256 ∷ [], entry (codes "/slice/{step}") resource.Slice) ∷ []
unfolding the_rows version_rows matchit_on_literals
slice_rows = refl

packet_rows : after (codes "/packet/") the_rows ≡ (256 ∷ 47 ∷ 256 ∷ [], entry (codes "/packet/{from}/{to}") resource.Packet) ∷ []
unfolding the_rows version_rows matchit_on_literals
packet_rows = refl

window_rows : after (codes "/window/") the_rows
    ≡ (256 ∷ 47 ∷ 256 ∷ 47 ∷ 256 ∷ 47 ∷ 256 ∷ 47 ∷ 256 ∷ [], entry (codes "/window/{step}/{x0}/{y0}/{x1}/{y1}") resource.Window) ∷ []
unfolding the_rows version_rows matchit_on_literals
window_rows = refl

topo_rows : after (codes "/topo/") the_rows ≡ (256 ∷ [], entry (codes "/topo/{step}") resource.Topo) ∷ []
unfolding the_rows version_rows matchit_on_literals
topo_rows = refl

window_packet_rows : after (codes "/window-packet/") the_rows
    ≡ (256 ∷ 47 ∷ 256 ∷ 47 ∷ 256 ∷ 47 ∷ 256 ∷ 47 ∷ 256 ∷ 47 ∷ 256 ∷ [], entry (codes "/window-packet/{from}/{to}/{x0}/{y0}/{x1}/{y1}") resource.WindowPacket) ∷ []
unfolding the_rows version_rows matchit_on_literals
window_packet_rows = refl

-- the last row has its place after the others
pub window_packet_place : HasPlace (codes "/window-packet/{from}/{to}/{x0}/{y0}/{x1}/{y1}") (
    with_row (codes "/topo/{step}") resource.Topo (
    with_row (codes "/window/{step}/{x0}/{y0}/{x1}/{y1}") resource.Window (
    with_row (codes "/packet/{from}/{to}") resource.Packet (
    with_row (codes "/slice/{step}") resource.Slice version_rows))))
unfolding version_rows matchit_on_literals
window_packet_place = refl

-- ---- the rows of whole paths

-- the text of each row
abbrev pub route_text : Resource → List ℕ
route_text resource.Info = codes "/info"
route_text resource.Pin = codes "/pin"
route_text resource.PinSeen = codes "/pin/{seen}"
route_text resource.Slice = codes "/slice/{step}"
route_text resource.Packet = codes "/packet/{from}/{to}"
route_text resource.Window = codes "/window/{step}/{x0}/{y0}/{x1}/{y1}"
route_text resource.Topo = codes "/topo/{step}"
route_text resource.WindowPacket = codes "/window-packet/{from}/{to}/{x0}/{y0}/{x1}/{y1}"
route_text resource.Edit = codes "/edit"

-- what the router says of each row
abbrev pub entry_for : Resource → RouteOf Resource
entry_for r = entry (route_text r) r

words : (first the_rows (codes "/info") ≡ Some (entry_for resource.Info)) × (first the_rows (codes "/pin") ≡ Some (entry_for resource.Pin))
    × (first the_rows (codes "/edit") ≡ Some (entry_for resource.Edit))
unfolding the_rows version_rows matchit_on_literals
words = (refl, refl, refl)

-- parameters after a front of which one row is left
with_parameters : (front : List ℕ) (p : List ℕ) (parameters : Row) (e : RouteOf Resource) → after front the_rows ≡ (slots parameters, e) ∷ []
    → AllParts (p ∷ parameters) → are_parameters (length (p ∷ parameters)) (p ∷ parameters) ≡ true
    → first the_rows (front ++ join_with_byte 47 (p ∷ parameters)) ≡ Some e
with_parameters front p parameters e left parts some =
    found_after front the_rows (join_with_byte 47 (p ∷ parameters)) e (rw left (found_parameters p parameters e parts some))

-- as many parameters as are asked for
pub count_is : (n : ℕ) (parameters : Row) → are_parameters n parameters ≡ true → length parameters ≡ n
count_is zero [] some = refl
count_is zero (p ∷ parameters) some = absurd cc
count_is (suc n) [] some = absurd cc
count_is (suc n) (p ∷ parameters) some = ap suc (count_is n parameters (and_parts _ (are_parameters n parameters) some).1)

-- a path of a row of the table is found there
pub row_found : (r : Resource) (parameters : Row) → AllParts parameters → are_parameters (parameter_count r) parameters ≡ true
    → first the_rows (join_with_byte 47 ([] ∷ word_of r ∷ parameters)) ≡ Some (entry_for r)
row_found resource.Info [] parts some = words.0
row_found resource.Pin [] parts some = words.1
row_found resource.Edit [] parts some = words.2
row_found resource.PinSeen (p ∷ []) parts some = with_parameters (codes "/pin/") p [] _ pin_rows parts some
row_found resource.Slice (p ∷ []) parts some = with_parameters (codes "/slice/") p [] _ slice_rows parts some
row_found resource.Packet (p ∷ q ∷ []) parts some = with_parameters (codes "/packet/") p (q ∷ []) _ packet_rows parts some
row_found resource.Window (s ∷ a ∷ b ∷ c ∷ d ∷ []) parts some = with_parameters (codes "/window/") s (a ∷ b ∷ c ∷ d ∷ []) _ window_rows parts some
row_found resource.Topo (p ∷ []) parts some = with_parameters (codes "/topo/") p [] _ topo_rows parts some
row_found resource.WindowPacket (s ∷ t ∷ a ∷ b ∷ c ∷ d ∷ []) parts some =
    with_parameters (codes "/window-packet/") s (t ∷ a ∷ b ∷ c ∷ d ∷ []) _ window_packet_rows parts some
row_found r parameters parts some = absurd (omega (arith, count_is (parameter_count r) parameters some))

-- ---- the row that the table gives

-- what a path of a row is
form_of : (r : Resource) (segments parameters : Row) → parameters_of r segments ≡ Some parameters
    → (segments ≡ [] ∷ word_of r ∷ parameters) × (are_parameters (parameter_count r) parameters ≡ true)
form_of r segments parameters h =
    let front = bind_some (after_word [] segments) (λ a. after_word (word_of r) a >>= λ b. if are_parameters (parameter_count r) b then Some b else None) parameters h in
    let word = bind_some (after_word (word_of r) front.0) (λ b. if are_parameters (parameter_count r) b then Some b else None) parameters front.2 in
    let some = cond_some (are_parameters (parameter_count r) word.0) word.0 parameters word.2 in (
      after_word_is [] segments front.0 front.1 ∙ ap (λ xs. [] ∷ xs) (after_word_is (word_of r) front.0 word.0 word.1) ∙ ap (λ xs. [] ∷ word_of r ∷ xs) some.1,
      ap (are_parameters (parameter_count r)) (sym some.1) ∙ some.0,
    )

-- the row that is found has the parameters that are found
pub found_is : (rows : List Resource) (segments : Row) (r : Resource) (parameters : Row) → find_in rows segments ≡ Some (r, parameters) → parameters_of r segments ≡ Some parameters
found_is [] segments r parameters h = absurd cc
found_is (x ∷ rows) segments r parameters h = by (found_is rows segments r parameters) (parameters_of x segments) refl h
  where
    by : (find_in rows segments ≡ Some (r, parameters) → parameters_of r segments ≡ Some parameters) → (o : Option Row) → parameters_of x segments ≡ o
        → elim o as (λ _. Option (Resource × Row)) [ None ↦ find_in rows segments | Some ps ↦ Some (x, ps) ] ≡ Some (r, parameters) → parameters_of r segments ≡ Some parameters
    by next None e k = next k
    by next (Some ps) e k =
        let pair : ◌≡◌ {A = Resource × Row} (x, ps) (r, parameters) = cc in
        ap (λ z. parameters_of z.0 segments) (sym pair) ∙ e ∙ ap (λ z. Some z.1) pair

-- the path of a row, with its parameters
pub record IsPath (r : Resource) (parameters : Row) (path : List ℕ) : Type 0 where
  pub joined : path ≡ join_with_byte 47 ([] ∷ word_of r ∷ parameters)
  pub parts : AllParts parameters
  pub some : are_parameters (parameter_count r) parameters ≡ true

pub path_is : (path : List ℕ) (r : Resource) (parameters : Row) → IsText path → find_in resources (segments_of path) ≡ Some (r, parameters) → IsPath r parameters path
path_is path r parameters text h =
    let form = form_of r (segments_of path) parameters (found_is resources (segments_of path) r parameters h) in
    let parts = subst AllParts form.0 (split_parts path text) in
    record {
      joined = sym (join_with_byte-slice_split 47 path) ∙ ap (join_with_byte 47) form.0;
      parts = parts.2.2;
      some = form.1;
    }

pub text_of : (bytes : List ℕ) → ((i : ℕ) → Fits w8 (get_or bytes i 0)) → IsText bytes
text_of [] h = tt
text_of (b ∷ bytes) h = let byte = h 0 in (omega arith, text_of bytes (λ i. h (suc i)))

-- the router finds the row that the table gives
pub routed : (path : List ℕ) (r : Resource) (parameters : Row) → IsPath r parameters path → first the_rows path ≡ Some (entry_for r)
routed path r parameters h = ap (first the_rows) h.joined ∙ row_found r parameters h.parts h.some
