use Rattle.std.proofs.Common.{◌≡◌, ◌∙◌, ◌≤◌, ◌<◌, ◌+◌, ◌-◌, ◌∷◌, ◌&&◌, nat_le, ℕ, IsTrue, Bool, List, [], Ok, length, sym, ap, subst, arith, rules}
use Rattle.std.specs.Option.{ok_or}
use Rattle.std.proofs.lemmas.Bool.{and_from, and_parts, lt-ltb}
use Rattle.std.proofs.lemmas.List.{length-append}
use Rattle.tgap_model.specs.declared.failure.Or.TheVariants.{Fault}
use Rattle.tgap_model.specs.declared.base.BaseArc.{BaseArc}
use Rattle.tgap_model.specs.declared.limits.TheConstants.{MAX_ARCS, MAX_FACES, MAX_POINTS}
use Rattle.tgap_model.specs.Base.{BaseMap, count_points, is_base}
use Rattle.tgap_model.proofs.BaseFacts.{base_facts}
use Rattle.line_forms.specs.Lines.{◌>>=◌}
use Rattle.plain_io.specs.Taking.{GivesWhole}
use Rattle.edit_laws.specs.Edits.{cut_named, named}
use Rattle.face_cuts.specs.Outcomes.{has_room}
use Rattle.face_cuts.specs.Cuts.{are_free, cut_face}
use Rattle.face_cuts.proofs.CutsKeep.{cuts_keep}
use Rattle.face_cuts.proofs.NewLines.{are_lines, are_spans, new_line}
use Rattle.map_version.specs.Indexed.{arcs_of, cut_arcs}
use Rattle.map_version.specs.Drafts.{drafted}
use Rattle.map_version.proofs.Drafts.{ensured_holds, found_is, in_range, refused_then}
use Rattle.map_version.proofs.DraftCuts.{cut_by, cut_chain, cut_is, cut_map, cut_to}
use Rattle.map_version.proofs.draft.Draft.cut_face.Goals as goal

pub returns-in_err-ensured : goal.returns-in_err-ensured
returns-in_err-ensured c =
    let x = c.in_ok-arcs.arcs in
    let classes = c.self.inside.classes.items in
    let m : BaseMap = drafted c.self.inside.base.now classes (arcs_of x) in
    let f = c.in_ok-face.face in
    let k = c.in_ok-class.class in
    let points = c.args.points in
    let rf = subst (λ (y : BaseMap). (1 ≤ f) × (f ≤ length y.classes)) (sym c.self.view_is) c.in_ok-face.ensures.range in
    let lt = subst (λ (y : BaseMap). k < length y.rules.weights) (sym c.self.view_is) c.in_ok-class.ensures.range in
    let face_f = in_range m f rf.0 rf.1 in
    let class_k = lt-ltb k (length m.rules.weights) lt in
    let same : m ≡ c.args.self = ap (drafted c.self.inside.base.now classes) c.in_ok-arcs.ensures.arcs ∙ c.self.view_is in
    let nf = found_is (named 1 (length m.classes) c.args.face.now) (Fault 2) f (subst (λ (y : BaseMap). Ok f ≡ ok_or (named 1 (length y.classes) c.args.face.now) (Fault 2)) (sym c.self.view_is) c.in_ok-face.ensures.named) in
    let nk = found_is (named 0 (length m.rules.weights - 1) c.args.class.now) (Fault 2) k (subst (λ (y : BaseMap). Ok k ≡ ok_or (named 0 (length y.rules.weights - 1) c.args.class.now) (Fault 2)) (sym c.self.view_is) c.in_ok-class.ensures.named) in
    let faces_len : length classes ≡ c.len.result = omega (arith, c.len.ensures, c.self.inside.classes.ok.0) in
    let room_is : has_room m 1 1 (length points) ≡ c.has_room.result =
    ap (λ (n : ℕ). nat_le (n + 1) MAX_FACES && nat_le (length (arcs_of x) + 1) MAX_ARCS && nat_le (count_points (arcs_of x) + length points) MAX_POINTS) faces_len
    ∙ (ap (λ (n : ℕ). nat_le (c.len.result + 1) MAX_FACES && nat_le (length (arcs_of x) + 1) MAX_ARCS && nat_le (count_points (arcs_of x) + n) MAX_POINTS) (sym c.len-2.ensures)
    ∙ sym c.has_room.ensures) in
    let e = cut_to m c.args.face.now c.args.class.now points f k nf nk ∙ (cut_is m f k points face_f class_k ∙ ap (λ (b : Bool). cut_chain m f k points b (are_free (arcs_of x) points)) room_is) in
    subst (λ (y : BaseMap). GivesWhole c.from_residual-in_err-ensured.result (cut_named y c.args.face.now c.args.class.now points)) same (rw e (search rules))

pub returns-in_err-ensured-2 : goal.returns-in_err-ensured-2
returns-in_err-ensured-2 c =
    let x = c.in_ok-arcs.arcs in
    let classes = c.self.inside.classes.items in
    let m : BaseMap = drafted c.self.inside.base.now classes (arcs_of x) in
    let f = c.in_ok-face.face in
    let k = c.in_ok-class.class in
    let points = c.args.points in
    let rf = subst (λ (y : BaseMap). (1 ≤ f) × (f ≤ length y.classes)) (sym c.self.view_is) c.in_ok-face.ensures.range in
    let lt = subst (λ (y : BaseMap). k < length y.rules.weights) (sym c.self.view_is) c.in_ok-class.ensures.range in
    let face_f = in_range m f rf.0 rf.1 in
    let class_k = lt-ltb k (length m.rules.weights) lt in
    let same : m ≡ c.args.self = ap (drafted c.self.inside.base.now classes) c.in_ok-arcs.ensures.arcs ∙ c.self.view_is in
    let nf = found_is (named 1 (length m.classes) c.args.face.now) (Fault 2) f (subst (λ (y : BaseMap). Ok f ≡ ok_or (named 1 (length y.classes) c.args.face.now) (Fault 2)) (sym c.self.view_is) c.in_ok-face.ensures.named) in
    let nk = found_is (named 0 (length m.rules.weights - 1) c.args.class.now) (Fault 2) k (subst (λ (y : BaseMap). Ok k ≡ ok_or (named 0 (length y.rules.weights - 1) c.args.class.now) (Fault 2)) (sym c.self.view_is) c.in_ok-class.ensures.named) in
    let faces_len : length classes ≡ c.len.result = omega (arith, c.len.ensures, c.self.inside.classes.ok.0) in
    let room_is : has_room m 1 1 (length points) ≡ c.has_room.result =
    ap (λ (n : ℕ). nat_le (n + 1) MAX_FACES && nat_le (length (arcs_of x) + 1) MAX_ARCS && nat_le (count_points (arcs_of x) + length points) MAX_POINTS) faces_len
    ∙ (ap (λ (n : ℕ). nat_le (c.len.result + 1) MAX_FACES && nat_le (length (arcs_of x) + 1) MAX_ARCS && nat_le (count_points (arcs_of x) + n) MAX_POINTS) (sym c.len-2.ensures)
    ∙ sym c.has_room.ensures) in
    let free_is : are_free (arcs_of x) points ≡ c.in_ok-are_free.field-0 = ap (are_free (arcs_of x)) (sym c.as_slice.ensures) ∙ sym c.in_ok-are_free.ensures in
    let e = cut_to m c.args.face.now c.args.class.now points f k nf nk
    ∙ (cut_is m f k points face_f class_k ∙ (ap (λ (b : Bool). cut_chain m f k points b (are_free (arcs_of x) points)) room_is ∙ ap (λ (b : Bool). cut_chain m f k points c.has_room.result b) free_is)) in
    subst (λ (y : BaseMap). GivesWhole c.from_residual-in_err-ensured-2.result (cut_named y c.args.face.now c.args.class.now points)) same (rw e (search rules))

pub cut-requires-clause-face : goal.cut-requires-clause-face
cut-requires-clause-face c =
    let x = c.in_ok-arcs.arcs in
    let classes = c.self.inside.classes.items in
    let m : BaseMap = drafted c.self.inside.base.now classes (arcs_of x) in
    let f = c.in_ok-face.face in
    let k = c.in_ok-class.class in
    let points = c.args.points in
    let rf = subst (λ (y : BaseMap). (1 ≤ f) × (f ≤ length y.classes)) (sym c.self.view_is) c.in_ok-face.ensures.range in
    let lt = subst (λ (y : BaseMap). k < length y.rules.weights) (sym c.self.view_is) c.in_ok-class.ensures.range in
    let face_f = in_range m f rf.0 rf.1 in
    let class_k = lt-ltb k (length m.rules.weights) lt in
    let faces = c.in_ok-arcs.ensures.faces ∙ ap (length {A = ℕ}) c.deref.ensures.value in
    omega (arith, rf.1, faces)

pub cut-requires-clause-new : goal.cut-requires-clause-new
cut-requires-clause-new c =
    let faces = c.in_ok-arcs.ensures.faces ∙ ap (length {A = ℕ}) c.deref.ensures.value in
    omega (arith, faces, c.len-3.ensures, c.self.inside.classes.ok.0)

pub cut-requires-clause-lines : goal.cut-requires-clause-lines
cut-requires-clause-lines c =
    let x = c.in_ok-arcs.arcs in
    let classes = c.self.inside.classes.items in
    let m : BaseMap = drafted c.self.inside.base.now classes (arcs_of x) in
    let f = c.in_ok-face.face in
    let k = c.in_ok-class.class in
    let points = c.args.points in
    let rf = subst (λ (y : BaseMap). (1 ≤ f) × (f ≤ length y.classes)) (sym c.self.view_is) c.in_ok-face.ensures.range in
    let lt = subst (λ (y : BaseMap). k < length y.rules.weights) (sym c.self.view_is) c.in_ok-class.ensures.range in
    let face_f = in_range m f rf.0 rf.1 in
    let class_k = lt-ltb k (length m.rules.weights) lt in
    let is_map = subst (λ (xs : List BaseArc). IsTrue (is_base (drafted c.self.inside.base.now classes xs))) (sym c.in_ok-arcs.ensures.arcs) c.self.invariant.base in
    are_lines m (base_facts m is_map)

pub cut-requires-clause-spans : goal.cut-requires-clause-spans
cut-requires-clause-spans c =
    let x = c.in_ok-arcs.arcs in
    let classes = c.self.inside.classes.items in
    let m : BaseMap = drafted c.self.inside.base.now classes (arcs_of x) in
    let f = c.in_ok-face.face in
    let k = c.in_ok-class.class in
    let points = c.args.points in
    let rf = subst (λ (y : BaseMap). (1 ≤ f) × (f ≤ length y.classes)) (sym c.self.view_is) c.in_ok-face.ensures.range in
    let lt = subst (λ (y : BaseMap). k < length y.rules.weights) (sym c.self.view_is) c.in_ok-class.ensures.range in
    let face_f = in_range m f rf.0 rf.1 in
    let class_k = lt-ltb k (length m.rules.weights) lt in
    let is_map = subst (λ (xs : List BaseArc). IsTrue (is_base (drafted c.self.inside.base.now classes xs))) (sym c.in_ok-arcs.ensures.arcs) c.self.invariant.base in
    are_spans m (base_facts m is_map)

pub cut-requires-clause-line : goal.cut-requires-clause-line
cut-requires-clause-line c =
    let x = c.in_ok-arcs.arcs in
    let classes = c.self.inside.classes.items in
    let m : BaseMap = drafted c.self.inside.base.now classes (arcs_of x) in
    let f = c.in_ok-face.face in
    let k = c.in_ok-class.class in
    let points = c.args.points in
    let rf = subst (λ (y : BaseMap). (1 ≤ f) × (f ≤ length y.classes)) (sym c.self.view_is) c.in_ok-face.ensures.range in
    let lt = subst (λ (y : BaseMap). k < length y.rules.weights) (sym c.self.view_is) c.in_ok-class.ensures.range in
    let face_f = in_range m f rf.0 rf.1 in
    let class_k = lt-ltb k (length m.rules.weights) lt in
    let faces_len : length classes ≡ c.len.result = omega (arith, c.len.ensures, c.self.inside.classes.ok.0) in
    let room_is : has_room m 1 1 (length points) ≡ c.has_room.result =
    ap (λ (n : ℕ). nat_le (n + 1) MAX_FACES && nat_le (length (arcs_of x) + 1) MAX_ARCS && nat_le (count_points (arcs_of x) + length points) MAX_POINTS) faces_len
    ∙ (ap (λ (n : ℕ). nat_le (c.len.result + 1) MAX_FACES && nat_le (length (arcs_of x) + 1) MAX_ARCS && nat_le (count_points (arcs_of x) + n) MAX_POINTS) (sym c.len-2.ensures)
    ∙ sym c.has_room.ensures) in
    let free_is : are_free (arcs_of x) points ≡ c.in_ok-are_free.field-0 = ap (are_free (arcs_of x)) (sym c.as_slice.ensures) ∙ sym c.in_ok-are_free.ensures in
    let room = room_is ∙ ensured_holds c.has_room.result _ _ c.in_ok-ensured.ensures in
    let free = free_is ∙ ensured_holds c.in_ok-are_free.field-0 _ _ c.in_ok-ensured-2.ensures in
    new_line m points c.requires.long c.requires.limits room free

pub cut-requires-clause-room : goal.cut-requires-clause-room
cut-requires-clause-room c =
    let x = c.in_ok-arcs.arcs in
    let classes = c.self.inside.classes.items in
    let m : BaseMap = drafted c.self.inside.base.now classes (arcs_of x) in
    let f = c.in_ok-face.face in
    let k = c.in_ok-class.class in
    let points = c.args.points in
    let rf = subst (λ (y : BaseMap). (1 ≤ f) × (f ≤ length y.classes)) (sym c.self.view_is) c.in_ok-face.ensures.range in
    let lt = subst (λ (y : BaseMap). k < length y.rules.weights) (sym c.self.view_is) c.in_ok-class.ensures.range in
    let face_f = in_range m f rf.0 rf.1 in
    let class_k = lt-ltb k (length m.rules.weights) lt in
    let faces_len : length classes ≡ c.len.result = omega (arith, c.len.ensures, c.self.inside.classes.ok.0) in
    let room_is : has_room m 1 1 (length points) ≡ c.has_room.result =
    ap (λ (n : ℕ). nat_le (n + 1) MAX_FACES && nat_le (length (arcs_of x) + 1) MAX_ARCS && nat_le (count_points (arcs_of x) + length points) MAX_POINTS) faces_len
    ∙ (ap (λ (n : ℕ). nat_le (c.len.result + 1) MAX_FACES && nat_le (length (arcs_of x) + 1) MAX_ARCS && nat_le (count_points (arcs_of x) + n) MAX_POINTS) (sym c.len-2.ensures)
    ∙ sym c.has_room.ensures) in
    let room = room_is ∙ ensured_holds c.has_room.result _ _ c.in_ok-ensured.ensures in
    let a = nat_le (length classes + 1) MAX_FACES in
    let b = nat_le (length (arcs_of x) + 1) MAX_ARCS in
    let d = nat_le (count_points (arcs_of x) + length points) MAX_POINTS in
    let parts = and_parts (a && b) d room in
    and_from b d (and_parts a b parts.0).1 parts.1

pub returns-in_err-cut : goal.returns-in_err-cut
returns-in_err-cut c =
    let x = c.in_ok-arcs.arcs in
    let classes = c.self.inside.classes.items in
    let m : BaseMap = drafted c.self.inside.base.now classes (arcs_of x) in
    let f = c.in_ok-face.face in
    let k = c.in_ok-class.class in
    let points = c.args.points in
    let rf = subst (λ (y : BaseMap). (1 ≤ f) × (f ≤ length y.classes)) (sym c.self.view_is) c.in_ok-face.ensures.range in
    let lt = subst (λ (y : BaseMap). k < length y.rules.weights) (sym c.self.view_is) c.in_ok-class.ensures.range in
    let face_f = in_range m f rf.0 rf.1 in
    let class_k = lt-ltb k (length m.rules.weights) lt in
    let same : m ≡ c.args.self = ap (drafted c.self.inside.base.now classes) c.in_ok-arcs.ensures.arcs ∙ c.self.view_is in
    let nf = found_is (named 1 (length m.classes) c.args.face.now) (Fault 2) f (subst (λ (y : BaseMap). Ok f ≡ ok_or (named 1 (length y.classes) c.args.face.now) (Fault 2)) (sym c.self.view_is) c.in_ok-face.ensures.named) in
    let nk = found_is (named 0 (length m.rules.weights - 1) c.args.class.now) (Fault 2) k (subst (λ (y : BaseMap). Ok k ≡ ok_or (named 0 (length y.rules.weights - 1) c.args.class.now) (Fault 2)) (sym c.self.view_is) c.in_ok-class.ensures.named) in
    let faces_len : length classes ≡ c.len.result = omega (arith, c.len.ensures, c.self.inside.classes.ok.0) in
    let room_is : has_room m 1 1 (length points) ≡ c.has_room.result =
    ap (λ (n : ℕ). nat_le (n + 1) MAX_FACES && nat_le (length (arcs_of x) + 1) MAX_ARCS && nat_le (count_points (arcs_of x) + length points) MAX_POINTS) faces_len
    ∙ (ap (λ (n : ℕ). nat_le (c.len.result + 1) MAX_FACES && nat_le (length (arcs_of x) + 1) MAX_ARCS && nat_le (count_points (arcs_of x) + n) MAX_POINTS) (sym c.len-2.ensures)
    ∙ sym c.has_room.ensures) in
    let free_is : are_free (arcs_of x) points ≡ c.in_ok-are_free.field-0 = ap (are_free (arcs_of x)) (sym c.as_slice.ensures) ∙ sym c.in_ok-are_free.ensures in
    let room = room_is ∙ ensured_holds c.has_room.result _ _ c.in_ok-ensured.ensures in
    let free = free_is ∙ ensured_holds c.in_ok-are_free.field-0 _ _ c.in_ok-ensured-2.ensures in
    let new_is : length classes + 1 ≡ c.len-3.result + 1 = omega (arith, c.len-3.ensures, c.self.inside.classes.ok.0) in
    let e = cut_to m c.args.face.now c.args.class.now points f k nf nk
    ∙ (cut_by m f k points face_f class_k room free ∙ ap (λ (n : ℕ). cut_arcs (arcs_of x) f n points >>= λ arcs. Ok (cut_map m k arcs)) new_is) in
    subst (λ (y : BaseMap). GivesWhole c.from_residual-in_err-cut.result (cut_named y c.args.face.now c.args.class.now points)) same (rw e (search (rules, refused_then)))

pub invariant_of-self : goal.invariant_of-self
invariant_of-self c =
    let x = c.in_ok-arcs.arcs in
    let classes = c.self.inside.classes.items in
    let m : BaseMap = drafted c.self.inside.base.now classes (arcs_of x) in
    let f = c.in_ok-face.face in
    let k = c.in_ok-class.class in
    let points = c.args.points in
    let rf = subst (λ (y : BaseMap). (1 ≤ f) × (f ≤ length y.classes)) (sym c.self.view_is) c.in_ok-face.ensures.range in
    let lt = subst (λ (y : BaseMap). k < length y.rules.weights) (sym c.self.view_is) c.in_ok-class.ensures.range in
    let face_f = in_range m f rf.0 rf.1 in
    let class_k = lt-ltb k (length m.rules.weights) lt in
    let is_map = subst (λ (xs : List BaseArc). IsTrue (is_base (drafted c.self.inside.base.now classes xs))) (sym c.in_ok-arcs.ensures.arcs) c.self.invariant.base in
    let faces_len : length classes ≡ c.len.result = omega (arith, c.len.ensures, c.self.inside.classes.ok.0) in
    let room_is : has_room m 1 1 (length points) ≡ c.has_room.result =
    ap (λ (n : ℕ). nat_le (n + 1) MAX_FACES && nat_le (length (arcs_of x) + 1) MAX_ARCS && nat_le (count_points (arcs_of x) + length points) MAX_POINTS) faces_len
    ∙ (ap (λ (n : ℕ). nat_le (c.len.result + 1) MAX_FACES && nat_le (length (arcs_of x) + 1) MAX_ARCS && nat_le (count_points (arcs_of x) + n) MAX_POINTS) (sym c.len-2.ensures)
    ∙ sym c.has_room.ensures) in
    let free_is : are_free (arcs_of x) points ≡ c.in_ok-are_free.field-0 = ap (are_free (arcs_of x)) (sym c.as_slice.ensures) ∙ sym c.in_ok-are_free.ensures in
    let room = room_is ∙ ensured_holds c.has_room.result _ _ c.in_ok-ensured.ensures in
    let free = free_is ∙ ensured_holds c.in_ok-are_free.field-0 _ _ c.in_ok-ensured-2.ensures in
    let new_is : length classes + 1 ≡ c.len-3.result + 1 = omega (arith, c.len-3.ensures, c.self.inside.classes.ok.0) in
    let made : cut_face m f k points ≡ Ok (cut_map m k (arcs_of c.in_ok-cut.field-0)) =
    cut_by m f k points face_f class_k room free
    ∙ (ap (λ (n : ℕ). cut_arcs (arcs_of x) f n points >>= λ arcs. Ok (cut_map m k arcs)) new_is ∙ ap (λ r. r >>= λ arcs. Ok (cut_map m k arcs)) c.in_ok-cut.ensures.arcs) in
    let faces = c.in_ok-arcs.ensures.faces ∙ ap (length {A = ℕ}) c.deref.ensures.value in
    let more = c.in_ok-put_class.ensures in
    let long = ap (length {A = ℕ}) more ∙ length-append classes (k ∷ []) in
    let one = c.in_ok-cut.ensures.faces in
    record {
      base = subst (λ (ks : List ℕ). IsTrue (is_base (record m { classes = ks; arcs = arcs_of c.in_ok-cut.field-0 }))) (sym more)
          (cuts_keep m (cut_map m k (arcs_of c.in_ok-cut.field-0)) f k points is_map c.requires.long c.requires.limits made);
      faces = omega arith;
    }

pub returns : goal.returns
returns c =
    let x = c.in_ok-arcs.arcs in
    let classes = c.self.inside.classes.items in
    let m : BaseMap = drafted c.self.inside.base.now classes (arcs_of x) in
    let f = c.in_ok-face.face in
    let k = c.in_ok-class.class in
    let points = c.args.points in
    let rf = subst (λ (y : BaseMap). (1 ≤ f) × (f ≤ length y.classes)) (sym c.self.view_is) c.in_ok-face.ensures.range in
    let lt = subst (λ (y : BaseMap). k < length y.rules.weights) (sym c.self.view_is) c.in_ok-class.ensures.range in
    let face_f = in_range m f rf.0 rf.1 in
    let class_k = lt-ltb k (length m.rules.weights) lt in
    let same : m ≡ c.args.self = ap (drafted c.self.inside.base.now classes) c.in_ok-arcs.ensures.arcs ∙ c.self.view_is in
    let nf = found_is (named 1 (length m.classes) c.args.face.now) (Fault 2) f (subst (λ (y : BaseMap). Ok f ≡ ok_or (named 1 (length y.classes) c.args.face.now) (Fault 2)) (sym c.self.view_is) c.in_ok-face.ensures.named) in
    let nk = found_is (named 0 (length m.rules.weights - 1) c.args.class.now) (Fault 2) k (subst (λ (y : BaseMap). Ok k ≡ ok_or (named 0 (length y.rules.weights - 1) c.args.class.now) (Fault 2)) (sym c.self.view_is) c.in_ok-class.ensures.named) in
    let faces_len : length classes ≡ c.len.result = omega (arith, c.len.ensures, c.self.inside.classes.ok.0) in
    let room_is : has_room m 1 1 (length points) ≡ c.has_room.result =
    ap (λ (n : ℕ). nat_le (n + 1) MAX_FACES && nat_le (length (arcs_of x) + 1) MAX_ARCS && nat_le (count_points (arcs_of x) + length points) MAX_POINTS) faces_len
    ∙ (ap (λ (n : ℕ). nat_le (c.len.result + 1) MAX_FACES && nat_le (length (arcs_of x) + 1) MAX_ARCS && nat_le (count_points (arcs_of x) + n) MAX_POINTS) (sym c.len-2.ensures)
    ∙ sym c.has_room.ensures) in
    let free_is : are_free (arcs_of x) points ≡ c.in_ok-are_free.field-0 = ap (are_free (arcs_of x)) (sym c.as_slice.ensures) ∙ sym c.in_ok-are_free.ensures in
    let room = room_is ∙ ensured_holds c.has_room.result _ _ c.in_ok-ensured.ensures in
    let free = free_is ∙ ensured_holds c.in_ok-are_free.field-0 _ _ c.in_ok-ensured-2.ensures in
    let new_is : length classes + 1 ≡ c.len-3.result + 1 = omega (arith, c.len-3.ensures, c.self.inside.classes.ok.0) in
    let made : cut_face m f k points ≡ Ok (cut_map m k (arcs_of c.in_ok-cut.field-0)) =
    cut_by m f k points face_f class_k room free
    ∙ (ap (λ (n : ℕ). cut_arcs (arcs_of x) f n points >>= λ arcs. Ok (cut_map m k arcs)) new_is ∙ ap (λ r. r >>= λ arcs. Ok (cut_map m k arcs)) c.in_ok-cut.ensures.arcs) in
    subst (λ (y : BaseMap). cut_named y c.args.face.now c.args.class.now points ≡ Ok (record m { classes = c.put_class.new.classes.items; arcs = arcs_of c.in_ok-cut.field-0 })) same
    (cut_to m c.args.face.now c.args.class.now points f k nf nk
    ∙ (made ∙ ap (λ (ks : List ℕ). Ok (record m { classes = ks; arcs = arcs_of c.in_ok-cut.field-0 })) (sym c.in_ok-put_class.ensures)))
