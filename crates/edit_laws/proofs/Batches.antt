-- A base map to which a batch of lines was applied is a base map.
use Rattle.std.proofs.Common.{◌≡◌, ℕ, Bool, true, false, List, [], ◌∷◌, codes, bytes_eq, if◌then◌else◌, Option, Some, None, Result, Ok, Err, IsTrue, refl, subst}
use Rattle.std.specs.Option.{ok_or}
use Rattle.tgap_model.specs.Base.{BaseMap, is_base}
use Rattle.line_forms.specs.Texts.{rows_of}
use Rattle.line_forms.specs.Words.{Row, ◌>>=◌ as ◌then◌, ended}
use Rattle.line_forms.specs.Lines.{◌>>=◌, next_number, is_over}
use Rattle.face_cuts.proofs.NodesKeep.{nodes_keep}
use Rattle.edit_laws.specs.Edits.{Edit, Class, Move, Add, Drop, Node, Cut, Fuse, decimal_at, point_at, arc_at}
use Rattle.edit_laws.specs.Edits.{read_class, read_move, read_add, read_drop, read_node, read_cut, read_fuse, read_edit, apply, apply_line, at_line, edit_rows}
use Rattle.edit_laws.specs.EditLaws.{FitsLimits, BatchesKeepMaps}
use Rattle.edit_laws.proofs.Numbers.{then_gives, ended_gives, point_within, arc_within}
use Rattle.edit_laws.proofs.EditsKeep.{classes_keep, moves_keep, adds_keep, drops_keep, named_cuts_keep, named_fusions_keep}

fits_along : (e f : Edit) → e ≡ f → FitsLimits e → FitsLimits f
fits_along e f same fits = subst FitsLimits same fits

class_fits : (row : Row) (e : Edit) → read_class row ≡ Some e → FitsLimits e
class_fits row e read =
    then_gives (decimal_at row) (λ face. decimal_at face.1 then λ class. ended (Class face.0 class.0) class.1) e read
    (λ face f1 more. then_gives (decimal_at face.1) (λ class. ended (Class face.0 class.0) class.1) e more
    (λ class f2 last. ended_gives (Class face.0 class.0) class.1 e last (λ same. fits_along (Class face.0 class.0) e same tt)))

move_fits : (row : Row) (e : Edit) → read_move row ≡ Some e → FitsLimits e
move_fits row e read =
    then_gives (point_at row) (λ old. point_at old.1 then λ new. ended (Move old.0 new.0) new.1) e read
    (λ old f1 more. then_gives (point_at old.1) (λ new. ended (Move old.0 new.0) new.1) e more
    (λ new f2 last. ended_gives (Move old.0 new.0) new.1 e last (λ same. fits_along (Move old.0 new.0) e same (point_within old.1 new f2))))

add_fits : (row : Row) (e : Edit) → read_add row ≡ Some e → FitsLimits e
add_fits row e read =
    then_gives (point_at row) (λ a. point_at a.1 then λ b. point_at b.1 then λ new. ended (Add a.0 b.0 new.0) new.1) e read
    (λ a f1 more. then_gives (point_at a.1) (λ b. point_at b.1 then λ new. ended (Add a.0 b.0 new.0) new.1) e more
    (λ b f2 rest. then_gives (point_at b.1) (λ new. ended (Add a.0 b.0 new.0) new.1) e rest
    (λ new f3 last. ended_gives (Add a.0 b.0 new.0) new.1 e last (λ same. fits_along (Add a.0 b.0 new.0) e same (point_within b.1 new f3)))))

drop_fits : (row : Row) (e : Edit) → read_drop row ≡ Some e → FitsLimits e
drop_fits row e read =
    then_gives (point_at row) (λ old. ended (Drop old.0) old.1) e read
    (λ old f1 last. ended_gives (Drop old.0) old.1 e last (λ same. fits_along (Drop old.0) e same tt))

node_fits : (row : Row) (e : Edit) → read_node row ≡ Some e → FitsLimits e
node_fits row e read =
    then_gives (point_at row) (λ at. ended (Node at.0) at.1) e read
    (λ at f1 last. ended_gives (Node at.0) at.1 e last (λ same. fits_along (Node at.0) e same tt))

cut_fits : (row : Row) (e : Edit) → read_cut row ≡ Some e → FitsLimits e
cut_fits row e read =
    then_gives (decimal_at row) (λ face. decimal_at face.1 then λ class. arc_at class.1 then λ arc. ended (Cut face.0 class.0 arc.0) arc.1) e read
    (λ face f1 more. then_gives (decimal_at face.1) (λ class. arc_at class.1 then λ arc. ended (Cut face.0 class.0 arc.0) arc.1) e more
    (λ class f2 rest. then_gives (arc_at class.1) (λ arc. ended (Cut face.0 class.0 arc.0) arc.1) e rest
    (λ arc f3 last. ended_gives (Cut face.0 class.0 arc.0) arc.1 e last
    (λ same. fits_along (Cut face.0 class.0 arc.0) e same (arc_within class.1 arc f3)))))

fuse_fits : (row : Row) (e : Edit) → read_fuse row ≡ Some e → FitsLimits e
fuse_fits row e read =
    then_gives (decimal_at row) (λ kept. decimal_at kept.1 then λ gone. ended (Fuse kept.0 gone.0) gone.1) e read
    (λ kept f1 more. then_gives (decimal_at kept.1) (λ gone. ended (Fuse kept.0 gone.0) gone.1) e more
    (λ gone f2 last. ended_gives (Fuse kept.0 gone.0) gone.1 e last (λ same. fits_along (Fuse kept.0 gone.0) e same tt)))

-- what holds of both answers of a test holds of its answer
one_of : (b : Bool) (x y : Option Edit) (e : Edit) → (if b then x else y) ≡ Some e → (x ≡ Some e → FitsLimits e) → (y ≡ Some e → FitsLimits e) → FitsLimits e
one_of true x y e read first second = first read
one_of false x y e read first second = second read

pub edit_fits : (row : Row) (e : Edit) → read_edit row ≡ Some e → FitsLimits e
edit_fits [] e read = absurd cc
edit_fits (w ∷ row) e read =
    let fuse = if bytes_eq w (codes "fuse") then read_fuse row else None in
    let cut = if bytes_eq w (codes "cut") then read_cut row else fuse in
    let node = if bytes_eq w (codes "node") then read_node row else cut in
    let drop = if bytes_eq w (codes "drop") then read_drop row else node in
    let add = if bytes_eq w (codes "add") then read_add row else drop in
    let move = if bytes_eq w (codes "move") then read_move row else add in
    one_of (bytes_eq w (codes "class")) (read_class row) move e read (class_fits row e)
    (λ r1. one_of (bytes_eq w (codes "move")) (read_move row) add e r1 (move_fits row e)
    (λ r2. one_of (bytes_eq w (codes "add")) (read_add row) drop e r2 (add_fits row e)
    (λ r3. one_of (bytes_eq w (codes "drop")) (read_drop row) node e r3 (drop_fits row e)
    (λ r4. one_of (bytes_eq w (codes "node")) (read_node row) cut e r4 (node_fits row e)
    (λ r5. one_of (bytes_eq w (codes "cut")) (read_cut row) fuse e r5 (cut_fits row e)
    (λ r6. one_of (bytes_eq w (codes "fuse")) (read_fuse row) None e r6 (fuse_fits row e) (λ none. absurd cc)))))))

-- an edit whose new points are within the limits keeps a base map one
apply_keeps : (m n : BaseMap) (e : Edit) → IsTrue (is_base m) → FitsLimits e → apply m e ≡ Ok n → IsTrue (is_base n)
apply_keeps m n (Class face class) base fits made = classes_keep m n face class base made
apply_keeps m n (Move old new) base fits made = moves_keep m n old new base fits made
apply_keeps m n (Add a b new) base fits made = adds_keep m n a b new base fits made
apply_keeps m n (Drop old) base fits made = drops_keep m n old base made
apply_keeps m n (Node at) base fits made = nodes_keep m n at base made
apply_keeps m n (Cut face class points) base fits made = named_cuts_keep m n face class points base fits made
apply_keeps m n (Fuse kept gone) base fits made = named_fusions_keep m n kept gone base made

line_keeps : (m n : BaseMap) (row : Row) → IsTrue (is_base m) → apply_line m row ≡ Ok n → IsTrue (is_base n)
line_keeps m n row base made = by (read_edit row) refl made
  where
    by : (o : Option Edit) → read_edit row ≡ o → (ok_or o 1 >>= apply m) ≡ Ok n → IsTrue (is_base n)
    by None read made = absurd cc
    by (Some e) read made = apply_keeps m n e base (edit_fits row e read) made

-- after the last line there is nothing, or else a fault
end_keeps : (over : Bool) (number : ℕ) (m e : BaseMap) → IsTrue (is_base m) → (let fault : ℕ × ℕ = (number, 1) in let wanted : Result BaseMap (ℕ × ℕ) = Ok e in (if over then Ok m else Err fault) ≡ wanted) → IsTrue (is_base e)
end_keeps true number m e base made = (let same : m ≡ e = cc in subst (λ (x : BaseMap). IsTrue (is_base x)) same base)
end_keeps false number m e base made = absurd cc

-- what comes after a line that was applied
pub line_then : {P : Type 0} (r : Result BaseMap ℕ) (number : ℕ) (later : BaseMap → Result BaseMap (ℕ × ℕ)) (e : BaseMap) → (at_line number r >>= later) ≡ Ok e
    → ((n : BaseMap) → r ≡ Ok n → later n ≡ Ok e → P) → P
line_then (Ok n) number later e made use_it = use_it n refl made
line_then (Err cause) number later e made use_it = absurd cc

rows_keep : (number : ℕ) (rows : List Row) (m e : BaseMap) → IsTrue (is_base m) → edit_rows number rows m ≡ Ok e → IsTrue (is_base e)
rows_keep number [] m e base made = (let same : m ≡ e = cc in subst (λ (x : BaseMap). IsTrue (is_base x)) same base)
rows_keep number (rest ∷ []) m e base made = end_keeps (is_over (rest ∷ [])) number m e base made
rows_keep number (row ∷ next ∷ rows) m e base made =
    line_then (apply_line m row) number (edit_rows (next_number number) (next ∷ rows)) e made
    (λ n applied rest. rows_keep (next_number number) (next ∷ rows) n e (line_keeps m n row base applied) rest)

pub batches_keep : BatchesKeepMaps
batches_keep m e batch base made = rows_keep 1 (rows_of batch) m e base made
