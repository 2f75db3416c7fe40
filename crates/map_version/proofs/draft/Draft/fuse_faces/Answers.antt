use Rattle.std.proofs.Common.{◌≡◌, ◌∙◌, ◌≤◌, ◌||◌, ℕ, IsTrue, true, List, map, Ok, length, sym, ap, subst, arith, rules}
use Rattle.std.specs.List.{list_any}
use Rattle.std.specs.Option.{ok_or}
use Rattle.tgap_model.specs.declared.failure.Or.TheVariants.{Fault}
use Rattle.tgap_model.specs.declared.base.BaseArc.{BaseArc}
use Rattle.tgap_model.specs.Base.{BaseMap, borders_face, is_base}
use Rattle.tgap_model.proofs.BaseFacts.{base_facts}
use Rattle.plain_io.specs.Taking.{GivesWhole}
use Rattle.edit_laws.specs.Edits.{fuse_named, named}
use Rattle.face_cuts.specs.Fusions.{classes_without, is_between, others, relabelled, renumbered}
use Rattle.face_cuts.proofs.FusionsKeep.{fusion_is_base, fusion_made, two_faces}
use Rattle.arc_places.specs.Borders.{HaveFaces}
use Rattle.map_version.specs.Indexed.{arcs_of, fused_arcs}
use Rattle.map_version.specs.Drafts.{arcs_now, drafted}
use Rattle.map_version.proofs.Drafts.{ensured_holds, found_is, fuse_by, fuse_to, have_faces, in_range, length-without}
use Rattle.map_version.proofs.draft.Draft.fuse_faces.Goals as goal

pub overflow_cast-fusion : goal.overflow_cast-fusion
overflow_cast-fusion c =
    let m : BaseMap = drafted c.self.inside.base.now c.self.inside.classes.items (arcs_now c.self.inside.arcs c.self.inside.base.now.arcs) in
    let few = (base_facts m c.self.invariant.base).few_faces in
    omega (arith, few, c.len.ensures, c.self.inside.classes.ok.0)

pub returns-in_err-ensured : goal.returns-in_err-ensured
returns-in_err-ensured c =
    let x = c.in_ok-arcs.arcs in
    let m : BaseMap = drafted c.self.inside.base.now c.self.inside.classes.items (arcs_of x) in
    let same : m ≡ c.args.self = ap (drafted c.self.inside.base.now c.self.inside.classes.items) c.in_ok-arcs.ensures.arcs ∙ c.self.view_is in
    let f = c.in_ok-kept.kept in
    let g = c.in_ok-gone.gone in
    let rf = subst (λ (y : BaseMap). (1 ≤ f) × (f ≤ length y.classes)) (sym c.self.view_is) c.in_ok-kept.ensures.range in
    let rg = subst (λ (y : BaseMap). (1 ≤ g) × (g ≤ length y.classes)) (sym c.self.view_is) c.in_ok-gone.ensures.range in
    let nf = found_is (named 1 (length m.classes) c.args.kept.now) (Fault 2) f (subst (λ (y : BaseMap). Ok f ≡ ok_or (named 1 (length y.classes) c.args.kept.now) (Fault 2)) (sym c.self.view_is) c.in_ok-kept.ensures.named) in
    let ng = found_is (named 1 (length m.classes) c.args.gone.now) (Fault 2) g (subst (λ (y : BaseMap). Ok g ≡ ok_or (named 1 (length y.classes) c.args.gone.now) (Fault 2)) (sym c.self.view_is) c.in_ok-gone.ensures.named) in
    let e = fuse_to m c.args.kept.now c.args.gone.now f g nf ng ∙ fuse_by m f g (in_range m f rf.0 rf.1) (in_range m g rg.0 rg.1) in
    subst (λ (y : BaseMap). GivesWhole c.from_residual-in_err-ensured.result (fuse_named y c.args.kept.now c.args.gone.now)) same (rw e (search rules))

pub returns-in_err-ensured-2 : goal.returns-in_err-ensured-2
returns-in_err-ensured-2 c =
    let x = c.in_ok-arcs.arcs in
    let m : BaseMap = drafted c.self.inside.base.now c.self.inside.classes.items (arcs_of x) in
    let same : m ≡ c.args.self = ap (drafted c.self.inside.base.now c.self.inside.classes.items) c.in_ok-arcs.ensures.arcs ∙ c.self.view_is in
    let f = c.in_ok-kept.kept in
    let g = c.in_ok-gone.gone in
    let rf = subst (λ (y : BaseMap). (1 ≤ f) × (f ≤ length y.classes)) (sym c.self.view_is) c.in_ok-kept.ensures.range in
    let rg = subst (λ (y : BaseMap). (1 ≤ g) × (g ≤ length y.classes)) (sym c.self.view_is) c.in_ok-gone.ensures.range in
    let nf = found_is (named 1 (length m.classes) c.args.kept.now) (Fault 2) f (subst (λ (y : BaseMap). Ok f ≡ ok_or (named 1 (length y.classes) c.args.kept.now) (Fault 2)) (sym c.self.view_is) c.in_ok-kept.ensures.named) in
    let ng = found_is (named 1 (length m.classes) c.args.gone.now) (Fault 2) g (subst (λ (y : BaseMap). Ok g ≡ ok_or (named 1 (length y.classes) c.args.gone.now) (Fault 2)) (sym c.self.view_is) c.in_ok-gone.ensures.named) in
    let e = fuse_to m c.args.kept.now c.args.gone.now f g nf ng ∙ fuse_by m f g (in_range m f rf.0 rf.1) (in_range m g rg.0 rg.1) in
    subst (λ (y : BaseMap). GivesWhole c.from_residual-in_err-ensured-2.result (fuse_named y c.args.kept.now c.args.gone.now)) same (rw e (search rules))

pub fuse-requires-clause-apart : goal.fuse-requires-clause-apart
fuse-requires-clause-apart c =
    let x = c.in_ok-arcs.arcs in
    let m : BaseMap = drafted c.self.inside.base.now c.self.inside.classes.items (arcs_of x) in
    let is_map = subst (λ (xs : List BaseArc). IsTrue (is_base (drafted c.self.inside.base.now c.self.inside.classes.items xs))) (sym c.in_ok-arcs.ensures.arcs) c.self.invariant.base in
    let f = c.in_ok-kept.kept in
    let g = c.in_ok-gone.gone in
    let rf = subst (λ (y : BaseMap). (1 ≤ f) × (f ≤ length y.classes)) (sym c.self.view_is) c.in_ok-kept.ensures.range in
    let rg = subst (λ (y : BaseMap). (1 ≤ g) × (g ≤ length y.classes)) (sym c.self.view_is) c.in_ok-gone.ensures.range in
    let between : list_any (is_between f g) (arcs_of x) ≡ true = sym c.is_any_between.ensures ∙ ensured_holds c.is_any_between.result _ _ c.in_ok-ensured.ensures in
    (two_faces m f g is_map (in_range m f rf.0 rf.1) (in_range m g rg.0 rg.1) between).differ

pub fuse-requires-clause-faces : goal.fuse-requires-clause-faces
fuse-requires-clause-faces c =
    let m : BaseMap = drafted c.self.inside.base.now c.self.inside.classes.items (arcs_of c.in_ok-arcs.arcs) in
    let is_map = subst (λ (xs : List BaseArc). IsTrue (is_base (drafted c.self.inside.base.now c.self.inside.classes.items xs))) (sym c.in_ok-arcs.ensures.arcs) c.self.invariant.base in
    subst (λ (n : ℕ). HaveFaces n (arcs_of c.in_ok-arcs.arcs)) (sym (c.in_ok-arcs.ensures.faces ∙ ap (length {A = ℕ}) c.deref.ensures.value)) (have_faces (length m.classes) m.arcs (base_facts m is_map).arcs)

pub invariant_of-self : goal.invariant_of-self
invariant_of-self c =
    let x = c.in_ok-arcs.arcs in
    let classes = c.self.inside.classes.items in
    let m : BaseMap = drafted c.self.inside.base.now classes (arcs_of x) in
    let is_map = subst (λ (xs : List BaseArc). IsTrue (is_base (drafted c.self.inside.base.now classes xs))) (sym c.in_ok-arcs.ensures.arcs) c.self.invariant.base in
    let f = c.in_ok-kept.kept in
    let g = c.in_ok-gone.gone in
    let rf = subst (λ (y : BaseMap). (1 ≤ f) × (f ≤ length y.classes)) (sym c.self.view_is) c.in_ok-kept.ensures.range in
    let rg = subst (λ (y : BaseMap). (1 ≤ g) × (g ≤ length y.classes)) (sym c.self.view_is) c.in_ok-gone.ensures.range in
    let between : list_any (is_between f g) (arcs_of x) ≡ true = sym c.is_any_between.ensures ∙ ensured_holds c.is_any_between.result _ _ c.in_ok-ensured.ensures in
    let left : list_any (λ a. borders_face f a || borders_face g a) (others f g (arcs_of x)) ≡ true = sym c.is_any_left.ensures ∙ ensured_holds c.is_any_left.result _ _ c.in_ok-ensured-2.ensures in
    let faces = c.in_ok-arcs.ensures.faces ∙ ap (length {A = ℕ}) c.deref.ensures.value in
    let arcs_are = c.in_ok-fuse.ensures.arcs ∙ ap (λ (n : ℕ). fused_arcs n f g (arcs_of x)) faces in
    let fewer = length-without g classes (omega (arith, rg.0, rg.1)) in
    let long = ap (length {A = ℕ}) c.take_out.ensures in
    let count = c.in_ok-fuse.ensures.faces in
    record {
      base = subst (λ (ks : List ℕ). IsTrue (is_base (record m { classes = ks; arcs = arcs_of c.in_ok-fuse.field-0 }))) (sym c.take_out.ensures)
          (subst (λ (xs : List BaseArc). IsTrue (is_base (record m { classes = classes_without g classes; arcs = xs }))) (sym arcs_are)
          (fusion_is_base m f g is_map (in_range m f rf.0 rf.1) (in_range m g rg.0 rg.1) between left));
      faces = omega arith;
    }

pub returns : goal.returns
returns c =
    let x = c.in_ok-arcs.arcs in
    let classes = c.self.inside.classes.items in
    let m : BaseMap = drafted c.self.inside.base.now classes (arcs_of x) in
    let same : m ≡ c.args.self = ap (drafted c.self.inside.base.now classes) c.in_ok-arcs.ensures.arcs ∙ c.self.view_is in
    let f = c.in_ok-kept.kept in
    let g = c.in_ok-gone.gone in
    let rf = subst (λ (y : BaseMap). (1 ≤ f) × (f ≤ length y.classes)) (sym c.self.view_is) c.in_ok-kept.ensures.range in
    let rg = subst (λ (y : BaseMap). (1 ≤ g) × (g ≤ length y.classes)) (sym c.self.view_is) c.in_ok-gone.ensures.range in
    let nf = found_is (named 1 (length m.classes) c.args.kept.now) (Fault 2) f (subst (λ (y : BaseMap). Ok f ≡ ok_or (named 1 (length y.classes) c.args.kept.now) (Fault 2)) (sym c.self.view_is) c.in_ok-kept.ensures.named) in
    let ng = found_is (named 1 (length m.classes) c.args.gone.now) (Fault 2) g (subst (λ (y : BaseMap). Ok g ≡ ok_or (named 1 (length y.classes) c.args.gone.now) (Fault 2)) (sym c.self.view_is) c.in_ok-gone.ensures.named) in
    let between : list_any (is_between f g) (arcs_of x) ≡ true = sym c.is_any_between.ensures ∙ ensured_holds c.is_any_between.result _ _ c.in_ok-ensured.ensures in
    let left : list_any (λ a. borders_face f a || borders_face g a) (others f g (arcs_of x)) ≡ true = sym c.is_any_left.ensures ∙ ensured_holds c.is_any_left.result _ _ c.in_ok-ensured-2.ensures in
    let faces = c.in_ok-arcs.ensures.faces ∙ ap (length {A = ℕ}) c.deref.ensures.value in
    let arcs_are = c.in_ok-fuse.ensures.arcs ∙ ap (λ (n : ℕ). fused_arcs n f g (arcs_of x)) faces in
    subst (λ (y : BaseMap). fuse_named y c.args.kept.now c.args.gone.now ≡ Ok (record m { classes = c.take_out.new.classes.items; arcs = arcs_of c.in_ok-fuse.field-0 })) same
    (fuse_to m c.args.kept.now c.args.gone.now f g nf ng
    ∙ (fusion_made m f g (in_range m f rf.0 rf.1) (in_range m g rg.0 rg.1) between left
    ∙ (ap (λ (ks : List ℕ). Ok (record m { classes = ks; arcs = map (relabelled (renumbered (length classes) f g)) (others f g (arcs_of x)) })) (sym c.take_out.ensures)
    ∙ ap (λ (xs : List BaseArc). Ok (record m { classes = c.take_out.new.classes.items; arcs = xs })) (sym arcs_are))))
