use Rattle.std.proofs.Common.{◌≡◌, ◌++◌, [], ◌∷◌, arith}
use Rattle.std.specs.Fmt.{signed_decimal}
use Rattle.std.proofs.lemmas.Int.{to_z-of_z}
use Rattle.plain_io.proofs.Fields.{last_pushed}
use Rattle.area_listing.proofs.Writing.{transform_put}
use Rattle.area_listing.proofs.write.put_transform.Goals as goal

pub returns : goal.returns
returns c =
    let t = c.args.transform.now in
    let e1 : c.put_word.new.out ≡ c.push_slice.new.self ++ 32 ∷ signed_decimal t.sx = grind (arith, to_z-of_z, c.in_ok-put_word.ensures) in
    let e2 : c.put_word-2.new.out ≡ c.put_word.new.out ++ 32 ∷ signed_decimal t.sy = grind (arith, to_z-of_z, c.in_ok-put_word-2.ensures) in
    let e3 : c.put_word-3.new.out ≡ c.put_word-2.new.out ++ 32 ∷ signed_decimal t.tx = grind (arith, to_z-of_z, c.in_ok-put_word-3.ensures) in
    let e4 : c.put_word-4.new.out ≡ c.put_word-3.new.out ++ 32 ∷ signed_decimal t.ty = grind (arith, to_z-of_z, c.in_ok-put_word-4.ensures) in
    last_pushed c.push_slice-2.result c.put_word-4.new.out c.push_slice-2.new.self (10 ∷ []) _ c.push_slice-2.ensures
    (transform_put c.args.out.now c.push_slice.new.self c.put_word.new.out c.put_word-2.new.out c.put_word-3.new.out c.put_word-4.new.out c.args.transform.now
    c.in_ok-push_slice.ensures e1 e2 e3 e4)
