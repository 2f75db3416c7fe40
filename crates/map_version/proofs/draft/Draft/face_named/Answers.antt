use Rattle.std.proofs.Common.{◌∙◌, sym, arith}
use Rattle.tgap_model.specs.Base.{BaseMap}
use Rattle.tgap_model.proofs.BaseFacts.{base_facts}
use Rattle.edit_laws.proofs.Numbers.{named_most}
use Rattle.map_version.specs.Drafts.{arcs_now, drafted}
use Rattle.map_version.proofs.Drafts.{found_is}
use Rattle.map_version.proofs.draft.Draft.face_named.Goals as goal

pub named-requires : goal.named-requires
named-requires c =
    let m : BaseMap = drafted c.self.inside.base.now c.self.inside.classes.items (arcs_now c.self.inside.arcs c.self.inside.base.now.arcs) in
    let few = (base_facts m c.self.invariant.base).few_faces in
    omega (arith, few, c.len.ensures, c.self.inside.classes.ok.0)

pub overflow_cast-result : goal.overflow_cast-result
overflow_cast-result c =
    let m : BaseMap = drafted c.self.inside.base.now c.self.inside.classes.items (arcs_now c.self.inside.arcs c.self.inside.base.now.arcs) in
    let few = (base_facts m c.self.invariant.base).few_faces in
    let most = named_most 1 c.len.result c.args.word.now c.in_ok-face.face (sym c.named.ensures.named ∙ found_is c.named.result _ _ c.in_ok-face.ensures) in
    omega (arith, few, most, c.len.ensures, c.self.inside.classes.ok.0)
