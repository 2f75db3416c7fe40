-- One more face, where it has no parent.
use Rattle.std.proofs.Common.{◌≡◌, ◌-◌, ◌+◌, ◌∙◌, ◌++◌, ◌∷◌, [], ℕ, Bool, true, false, not, cond, List, length, filter, None, slice_index_or, ap, sym, arith}
use Rattle.std.specs.List.{range_with_len}
use Rattle.std.specs.Option.{is_none}
use Rattle.std.proofs.lemmas.List.{append-nil}
use Rattle.face_tree.proofs.LiveList.{passing_more}
use Rattle.face_tree.proofs.build.roots_of.Goals.{then-is_none+in_ok-push, else-is_none}
use Rattle.face_tree.proofs.build.roots_of.Goals as goal

pub loop-face-preserved : goal.loop-face-preserved
loop-face-preserved c =
    let face = c.loop-face.face in
    let test = λ (f : ℕ). is_none (slice_index_or c.args.parents.now f None) in
    let so_far = filter test (range_with_len 1 (face - 1)) in
    let number : 1 + (face - 1) ≡ face = omega (arith, c.loop-face.auto.face) in
    let more = sym (passing_more test (face - 1) face number) in
    let next = ap (λ (n : ℕ). filter test (range_with_len 1 n)) (let e : face - 1 + 1 ≡ face + 1 - 1 = omega (arith, c.loop-face.auto.face) in e) in
    elim c.if-is_none.branch [
      | then-is_none+in_ok-push w ↦
          let passes : test face ≡ true = ap not w.if-is_none.ensures in
          ap (λ v. v.items) w.found-is
          ∙ w.in_ok-push.ensures.items
          ∙ ap (λ (xs : List ℕ). xs ++ face ∷ []) c.loop-face.invariant
          ∙ ap (λ (b : Bool). so_far ++ cond b (face ∷ []) []) (sym passes)
          ∙ more
          ∙ next
      | else-is_none w ↦
          let fails : test face ≡ false = ap not w.if-is_none.ensures in
          ap (λ v. v.items) w.found-is
          ∙ c.loop-face.invariant
          ∙ sym (append-nil so_far)
          ∙ ap (λ (b : Bool). so_far ++ cond b (face ∷ []) []) (sym fails)
          ∙ more
          ∙ next
    ]

pub returns : goal.returns
returns c =
    let parents = c.args.parents.now in
    let all : c.loop-face.face - 1 ≡ length parents - 1 = omega (arith, c.loop-face.auto.face, c.loop-face.auto.face-end, c.loop-face-test.false, c.requires.some) in
    c.loop-face.invariant ∙ ap (λ (n : ℕ). filter (λ f. is_none (slice_index_or parents f None)) (range_with_len 1 n)) all
