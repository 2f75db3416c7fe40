-- A path that the router finds is of a row of the table, and what the router takes from it are its parameters.
use Rattle.std.proofs.Common.{◌≡◌, inl, inr, ℕ, suc, ◌<◌, ◌^◌, ltb, false, true, codes, List, [], ◌∷◌, ◌++◌, length, Option, Some, None, refl, sym, ap, ◌∙◌, arith, append-nil}
use Rattle.std.specs.List.{join_with_byte, list_all}
use Rattle.std.proofs.lemmas.Bool.{and_parts, ltb-true}
use Rattle.matchit.specs.Rows.{RowsOf}
use Rattle.matchit.specs.Seek.{first, has_slash}
use Rattle.matchit.specs.Params.{walk}
use Rattle.matchit.specs.Level.{IsText}
use Rattle.matchit.specs.Router.{RouteOf}
use Rattle.matchit.proofs.OnLiterals.{matchit_on_literals}
use Rattle.line_forms.specs.Words.{Row}
use Rattle.plain_io.proofs.Steps.{after_word_again}
use Rattle.http_face.specs.declared.request.Resource.{Resource}
use Rattle.http_face.specs.declared.request.Resource.TheVariants as resource
use Rattle.http_face.specs.Routes.{word_of, parameter_count, resources, segments_of, are_parameters, parameters_of, find_in}
use Rattle.http_face.specs.Table.{the_rows, version_rows}
use Rattle.http_face.specs.Parameters.{values_of}
use Rattle.http_face.proofs.Seeking.{slots, AllParts}
use Rattle.http_face.proofs.Parts.{HaveNoSlash, split_again}
use Rattle.http_face.proofs.Walking.{walk_slots}
use Rattle.http_face.proofs.Fitting.{FitsPattern, FitsOne, found_fits, After, after_bytes, AreSlots, slots_fit}
use Rattle.http_face.proofs.TableLaws.{entry_for, count_is, IsPath}

-- ---- the rows, in their order

-- bytes before so many parameters
abbrev pub slots_after : List ℕ → Row → List ℕ
slots_after front parameters = front ++ slots parameters

abbrev ordered : RowsOf (RouteOf Resource)
ordered =
    (codes "/edit" ++ [], entry_for resource.Edit)
    ∷ (codes "/info" ++ [], entry_for resource.Info)
    ∷ (slots_after (codes "/packet/") ([] ∷ []), entry_for resource.Packet)
    ∷ (slots_after (codes "/pin/") [], entry_for resource.PinSeen)
    ∷ (codes "/pin" ++ [], entry_for resource.Pin)
    ∷ (slots_after (codes "/slice/") [], entry_for resource.Slice)
    ∷ (slots_after (codes "/topo/") [], entry_for resource.Topo)
    ∷ (slots_after (codes "/window-packet/") ([] ∷ [] ∷ [] ∷ [] ∷ [] ∷ []), entry_for resource.WindowPacket)
    ∷ (slots_after (codes "/window/") ([] ∷ [] ∷ [] ∷ [] ∷ []), entry_for resource.Window)
    ∷ []

rows_in_order : the_rows ≡ ordered
unfolding the_rows version_rows matchit_on_literals
rows_in_order = refl

-- ---- a path of each

-- a row that the path is of
abbrev pub IsOfRow : List ℕ → Type 0
IsOfRow path = (r : Resource) × (parameters : Row) × (find_in resources (segments_of path) ≡ Some (r, parameters))

pub bytes_of : (text : List ℕ) → list_all (λ b. ltb b 256) text ≡ true → IsText text
bytes_of [] h = tt
bytes_of (b ∷ text) h =
    let parts = and_parts (ltb b 256) (list_all (λ c. ltb c 256) text) h in
    (ltb-true b 256 parts.0, bytes_of text parts.1)

-- a path with no parameters
word_path : (r : Resource) (text path : List ℕ) → IsText text → find_in resources (segments_of text) ≡ Some (r, []) → FitsPattern (text ++ []) path → IsOfRow path
word_path r text path bytes found h = by (after_bytes text [] path bytes h)
  where
    by : After text [] path → IsOfRow path
    by a = (r, [], ap (λ p. find_in resources (segments_of p)) (a.1 ∙ ap (λ rest. text ++ rest) a.2 ∙ append-nil text) ∙ found)

-- the parameters of a path are those of its row
form_again : (r : Resource) (parameters : Row) → are_parameters (parameter_count r) parameters ≡ true → parameters_of r ([] ∷ word_of r ∷ parameters) ≡ Some parameters
form_again r parameters some = rw (after_word_again (word_of r) parameters, some) refl

first_of : (r : Resource) (rows : List Resource) (segments parameters : Row) → parameters_of r segments ≡ Some parameters → find_in (r ∷ rows) segments ≡ Some (r, parameters)
first_of r rows segments parameters h = ap (λ o. elim o as (λ _. Option (Resource × Row)) [ None ↦ find_in rows segments | Some ps ↦ Some (r, ps) ]) h

-- The segments of a path with parameters: this row is the first of the table that they have the form of.
abbrev Segments : Resource → Row → Row
Segments r parameters = [] ∷ word_of r ∷ parameters

-- a path with parameters, of this row, which these stand after in the table
slots_path : (r : Resource) (rows : List Resource) (front path : List ℕ) (parameters : Row) → IsText front → has_slash (word_of r) ≡ false → parameter_count r ≡ suc (length parameters)
    → ((p : List ℕ) (ps : Row) → join_with_byte 47 (Segments r (p ∷ ps)) ≡ front ++ join_with_byte 47 (p ∷ ps))
    → ((p : List ℕ) (ps : Row) → find_in resources (Segments r (p ∷ ps)) ≡ find_in (r ∷ rows) (Segments r (p ∷ ps)))
    → FitsPattern (slots_after front parameters) path → IsOfRow path
slots_path r rows front path parameters bytes free count joined passed h = by (after_bytes front (slots parameters) path bytes h)
  where
    of_slots : (rest : List ℕ) → path ≡ front ++ rest → AreSlots (suc (length parameters)) rest → IsOfRow path
    of_slots rest cut s =
        let ps : Row = s.head ∷ s.tail in
        let whole : path ≡ join_with_byte 47 (Segments r ps) = cut ∙ ap (λ q. front ++ q) s.joined ∙ sym (joined s.head s.tail) in
        let again : segments_of (join_with_byte 47 (Segments r ps)) ≡ Segments r ps = split_again [] (word_of r ∷ ps) (refl, (free, s.free)) in
        let some : are_parameters (parameter_count r) ps ≡ true = rw count s.some in
        (r, ps, ap (λ p. find_in resources (segments_of p)) whole ∙ ap (find_in resources) again ∙ passed s.head s.tail ∙ first_of r rows (Segments r ps) ps (form_again r ps some))

    by : After front (slots parameters) path → IsOfRow path
    by a = of_slots a.0 a.1 (slots_fit parameters a.0 a.2)

-- ---- the table finds what has the form of a row

form_of_one : (path : List ℕ) → FitsOne ordered path → IsOfRow path
form_of_one path (inl h) = word_path resource.Edit (codes "/edit") path (bytes_of (codes "/edit") refl) refl h
form_of_one path (inr (inl h)) = word_path resource.Info (codes "/info") path (bytes_of (codes "/info") refl) refl h
form_of_one path (inr (inr (inl h))) =
    slots_path resource.Packet (resource.Window ∷ resource.Topo ∷ resource.WindowPacket ∷ resource.Edit ∷ []) (codes "/packet/") path ([] ∷ []) (bytes_of (codes "/packet/") refl) refl refl
    (λ p ps. refl) (λ p ps. refl) h
form_of_one path (inr (inr (inr (inl h)))) =
    slots_path resource.PinSeen (resource.Slice ∷ resource.Packet ∷ resource.Window ∷ resource.Topo ∷ resource.WindowPacket ∷ resource.Edit ∷ []) (codes "/pin/") path [] (bytes_of (codes "/pin/") refl) refl refl
    (λ p ps. refl) (λ p ps. refl) h
form_of_one path (inr (inr (inr (inr (inl h))))) = word_path resource.Pin (codes "/pin") path (bytes_of (codes "/pin") refl) refl h
form_of_one path (inr (inr (inr (inr (inr (inl h)))))) =
    slots_path resource.Slice (resource.Packet ∷ resource.Window ∷ resource.Topo ∷ resource.WindowPacket ∷ resource.Edit ∷ []) (codes "/slice/") path [] (bytes_of (codes "/slice/") refl) refl refl
    (λ p ps. refl) (λ p ps. refl) h
form_of_one path (inr (inr (inr (inr (inr (inr (inl h))))))) =
    slots_path resource.Topo (resource.WindowPacket ∷ resource.Edit ∷ []) (codes "/topo/") path [] (bytes_of (codes "/topo/") refl) refl refl (λ p ps. refl) (λ p ps. refl) h
form_of_one path (inr (inr (inr (inr (inr (inr (inr (inl h)))))))) =
    slots_path resource.WindowPacket (resource.Edit ∷ []) (codes "/window-packet/") path ([] ∷ [] ∷ [] ∷ [] ∷ [] ∷ []) (bytes_of (codes "/window-packet/") refl) refl refl
    (λ p ps. refl) (λ p ps. refl) h
form_of_one path (inr (inr (inr (inr (inr (inr (inr (inr (inl h))))))))) =
    slots_path resource.Window (resource.Topo ∷ resource.WindowPacket ∷ resource.Edit ∷ []) (codes "/window/") path ([] ∷ [] ∷ [] ∷ [] ∷ []) (bytes_of (codes "/window/") refl) refl refl
    (λ p ps. refl) (λ p ps. refl) h
form_of_one path (inr (inr (inr (inr (inr (inr (inr (inr (inr h))))))))) = absurd h

-- a path that the router finds is of a row
pub row_of_found : (path : List ℕ) (e : RouteOf Resource) → IsText path → first the_rows path ≡ Some e → IsOfRow path
row_of_found path e bytes h = form_of_one path (rw rows_in_order at (found_fits 0 the_rows path e bytes h))

-- ---- what the router takes

-- no parameters where a path has none
no_slots : (r : Resource) (path : List ℕ) (parameters : Row) → parameter_count r ≡ 0 → are_parameters (parameter_count r) parameters ≡ true
    → (entry_for r).names ≡ [] → values_of (walk (entry_for r).pattern (entry_for r).text path (entry_for r).names 0 0) ≡ parameters
no_slots r path [] none some names = rw names refl
no_slots r path (p ∷ parameters) none some names = let fewer = rw none at some in absurd cc

have_no_slash : (parameters : Row) → AllParts parameters → HaveNoSlash parameters
have_no_slash [] parts = tt
have_no_slash (p ∷ parameters) parts = (parts.1, have_no_slash parameters parts.2)

-- those that stand after the front of a path
slots_taken : (r : Resource) (front path p : List ℕ) (parameters : Row) → (entry_for r).pattern ≡ slots_after front parameters → length (entry_for r).names ≡ length (p ∷ parameters)
    → IsText front → length (slots_after front parameters) < 2 ^ 32 → path ≡ front ++ join_with_byte 47 (p ∷ parameters) → AllParts (p ∷ parameters)
    → values_of (walk (entry_for r).pattern (entry_for r).text path (entry_for r).names 0 0) ≡ p ∷ parameters
slots_taken r front path p parameters pattern names bytes small whole parts =
    walk_slots p parameters (entry_for r).pattern (entry_for r).text path front (entry_for r).names 0 0 pattern whole bytes (have_no_slash (p ∷ parameters) parts) names
    (omega arith) (omega (arith, ap length pattern, small)) (omega arith)

-- the patterns and names of the rows
no_names : ((entry_for resource.Info).names ≡ []) × ((entry_for resource.Pin).names ≡ []) × ((entry_for resource.Edit).names ≡ [])
unfolding matchit_on_literals
no_names = (refl, refl, refl)

one_name : ((entry_for resource.PinSeen).pattern ≡ slots_after (codes "/pin/") []) × (length (entry_for resource.PinSeen).names ≡ 1)
    × ((entry_for resource.Slice).pattern ≡ slots_after (codes "/slice/") []) × (length (entry_for resource.Slice).names ≡ 1)
    × ((entry_for resource.Topo).pattern ≡ slots_after (codes "/topo/") []) × (length (entry_for resource.Topo).names ≡ 1)
unfolding matchit_on_literals
one_name = (refl, refl, refl, refl, refl, refl)

more_names : (a b c d : List ℕ) → ((entry_for resource.Packet).pattern ≡ slots_after (codes "/packet/") (a ∷ [])) × (length (entry_for resource.Packet).names ≡ 2)
    × ((entry_for resource.Window).pattern ≡ slots_after (codes "/window/") (a ∷ b ∷ c ∷ d ∷ [])) × (length (entry_for resource.Window).names ≡ 5)
unfolding matchit_on_literals
more_names a b c d = (refl, refl, refl, refl)

six_names : (a b c d e : List ℕ) → ((entry_for resource.WindowPacket).pattern ≡ slots_after (codes "/window-packet/") (a ∷ b ∷ c ∷ d ∷ e ∷ []))
    × (length (entry_for resource.WindowPacket).names ≡ 6)
unfolding matchit_on_literals
six_names a b c d e = (refl, refl)

-- the parameters of a path are what the router takes for those of its row
pub taken_are : (r : Resource) (parameters : Row) (path : List ℕ) → IsPath r parameters path
    → values_of (walk (entry_for r).pattern (entry_for r).text path (entry_for r).names 0 0) ≡ parameters
taken_are resource.Info parameters path h = no_slots resource.Info path parameters refl h.some no_names.0
taken_are resource.Pin parameters path h = no_slots resource.Pin path parameters refl h.some no_names.1
taken_are resource.Edit parameters path h = no_slots resource.Edit path parameters refl h.some no_names.2
taken_are resource.PinSeen (p ∷ []) path h = slots_taken resource.PinSeen (codes "/pin/") path p [] one_name.0 one_name.1 (bytes_of (codes "/pin/") refl) (omega arith) h.joined h.parts
taken_are resource.Slice (p ∷ []) path h = slots_taken resource.Slice (codes "/slice/") path p [] one_name.2 one_name.3 (bytes_of (codes "/slice/") refl) (omega arith) h.joined h.parts
taken_are resource.Topo (p ∷ []) path h = slots_taken resource.Topo (codes "/topo/") path p [] one_name.4 one_name.5 (bytes_of (codes "/topo/") refl) (omega arith) h.joined h.parts
taken_are resource.Packet (p ∷ q ∷ []) path h =
    let names = more_names q q q q in
    slots_taken resource.Packet (codes "/packet/") path p (q ∷ []) names.0 names.1 (bytes_of (codes "/packet/") refl) (omega arith) h.joined h.parts
taken_are resource.Window (s ∷ a ∷ b ∷ c ∷ d ∷ []) path h =
    let names = more_names a b c d in
    slots_taken resource.Window (codes "/window/") path s (a ∷ b ∷ c ∷ d ∷ []) names.2 names.3 (bytes_of (codes "/window/") refl) (omega arith) h.joined h.parts
taken_are resource.WindowPacket (s ∷ t ∷ a ∷ b ∷ c ∷ d ∷ []) path h =
    let names = six_names t a b c d in
    slots_taken resource.WindowPacket (codes "/window-packet/") path s (t ∷ a ∷ b ∷ c ∷ d ∷ []) names.0 names.1 (bytes_of (codes "/window-packet/") refl) (omega arith) h.joined h.parts
taken_are r parameters path h = absurd (omega (arith, count_is (parameter_count r) parameters h.some))
