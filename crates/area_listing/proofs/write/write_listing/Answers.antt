use Rattle.std.proofs.Common.{◌≡◌, ℕ, List, ◌++◌, ap, ◌∙◌}
use Rattle.tgap_model.specs.declared.base.Transform.{Transform}
use Rattle.tgap_model.specs.declared.base.Rules.{Rules}
use Rattle.tgap_model.specs.declared.base.BaseArc.{BaseArc}
use Rattle.tgap_model.specs.Base.{is_rules}
use Rattle.line_forms.specs.Texts.{line, lines}
use Rattle.map_forms.specs.Listing.{transform_words, listing_text}
use Rattle.tgap_model.proofs.BaseFacts.{base_facts}
use Rattle.area_listing.specs.Written.{rules_rows, all_face_rows, all_arc_rows}
use Rattle.area_listing.proofs.Writing.{listing_put, listing_read}
use Rattle.area_listing.proofs.write.write_listing.Goals as goal
use Rattle.area_listing.proofs.write.write_listing.Goals.{In_ok-push_slice-2}

pub put_rules-requires : goal.put_rules-requires
put_rules-requires c = ap is_rules c.rules.ensures.value ∙ (base_facts c.args.base.now c.rules.ensures.base).rules

spelled : (c : In_ok-push_slice-2) → c.push_slice-2.new.self ≡ listing_text c.args.base.now
spelled c =
    let m = c.args.base.now in
    let transform = c.in_ok-put_transform.ensures ∙ ap (λ (t : Transform). c.push_slice.new.self ++ line (transform_words t)) c.transform.ensures.value in
    let rules = c.in_ok-put_rules.ensures ∙ ap (λ (r : Rules). c.put_transform.new.out ++ lines (rules_rows r)) c.rules.ensures.value in
    let faces = c.in_ok-put_faces.ensures ∙ ap (λ (ks : List ℕ). c.put_rules.new.out ++ lines (all_face_rows ks)) (c.as_slice.ensures ∙ c.classes.ensures.value) in
    let arcs = c.in_ok-put_arcs.ensures ∙ ap (λ (arcs : List BaseArc). c.put_faces.new.out ++ lines (all_arc_rows arcs)) (c.as_slice-2.ensures ∙ c.arcs.ensures.value) in
    listing_put c.push_slice.new.self c.put_transform.new.out c.put_rules.new.out c.put_faces.new.out c.put_arcs.new.out c.push_slice-2.new.self c.args.base.now
    (rw c.new-text.ensures at c.in_ok-push_slice.ensures) transform rules faces arcs c.in_ok-push_slice-2.ensures

pub returns-clause-spelled : goal.returns-clause-spelled
returns-clause-spelled c = spelled c

pub returns-clause-read : goal.returns-clause-read
returns-clause-read c = listing_read c.push_slice-2.new.self c.args.base.now c.rules.ensures.base (spelled c)
