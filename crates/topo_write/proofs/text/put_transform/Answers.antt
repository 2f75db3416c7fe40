use Rattle.std.proofs.Common.{◌≡◌, ◌∙◌, ◌++◌, ℤ, codes, to_z, of_z, ap, ap₂, sym, arith}
use Rattle.std.specs.Int.{w32}
use Rattle.std.proofs.lemmas.Int.{ints}
use Rattle.serde_json.specs.Written.{compact_text}
use Rattle.topo_write.specs.Topology.{pair}
use Rattle.topo_write.proofs.Texts.{transform_text, five}
use Rattle.topo_write.proofs.text.put_transform.Goals as goal

pub returns : goal.returns
returns c =
    let t = c.args.transform in
    let sx : to_z w32 (of_z w32 t.sx) ≡ t.sx = omega (arith, ints) in
    let sy : to_z w32 (of_z w32 t.sy) ≡ t.sy = omega (arith, ints) in
    let tx : to_z w32 (of_z w32 t.tx) ≡ t.tx = omega (arith, ints) in
    let ty : to_z w32 (of_z w32 t.ty) ≡ t.ty = omega (arith, ints) in
    five c.args.out.now (codes "{\"scale\":") (compact_text (pair t.sx t.sy)) (codes ",\"translate\":") (compact_text (pair t.tx t.ty)) (codes "}")
    c.push_slice.new.self c.put_words.new.out c.push_slice-2.new.self c.put_words-2.new.out c.push_slice-3.new.self
    c.in_ok-push_slice.ensures (c.in_ok-put_words.ensures ∙ ap₂ (λ (x y : ℤ). c.push_slice.new.self ++ compact_text (pair x y)) sx sy) c.in_ok-push_slice-2.ensures
    (c.in_ok-put_words-2.ensures ∙ ap₂ (λ (x y : ℤ). c.push_slice-2.new.self ++ compact_text (pair x y)) tx ty) c.in_ok-push_slice-3.ensures
    ∙ ap (λ z. c.args.out.now ++ z) (sym (transform_text t))
