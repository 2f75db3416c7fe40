-- Each link in turn is passed, and at the end none is left.
use Rattle.std.proofs.Common.{◌≡◌, ◌<◌, ◌∙◌, sym, subst, ℕ, None, get_or, take, IfSome, Option, ◌^◌}
use Rattle.std.specs.List.{All}
use Rattle.std.proofs.lemmas.List.{take_all}
use Rattle.std.proofs.lemmas.List.Elements.{All-weaker, All-more}
use Rattle.face_merge.specs.declared.links.Link.{Link}
use Rattle.face_merge.specs.Links.{length_at}
use Rattle.face_merge.proofs.Joined.{all_passed, left_more, gone_still, none_left}
use Rattle.face_merge.proofs.links.Links.join.Goals as goal

pub pass-requires-clause-paired : goal.pass-requires-clause-paired
pass-requires-clause-paired c = c.loop-link.invariant.paired

pub pass-requires-clause-fit : goal.pass-requires-clause-fit
pass-requires-clause-fit c = λ s t. subst (λ (o : Option ℕ). IfSome o (λ n. n < 2 ^ 64)) (sym (c.loop-link.invariant.together s t)) (c.requires.fit s t)

pub loop-link-preserved : goal.loop-link-preserved
loop-link-preserved c =
    let w = length_at c.args.self.now in
    let u = length_at c.loop-link.self in
    let v = length_at c.pass.new.self in
    let known = c.loop-link.invariant in
    let i = c.loop-link.link-index in
    let links = c.args.links.now in
    let d : Link = record { slot = 0; length = 0 } in
    let passed = c.in_ok-pass.ensures in
    let gone = All-weaker (λ (link : Link). u c.args.from link.slot ≡ None) (λ link. v c.args.from link.slot ≡ None)
    (λ link e. gone_still u v c.args.from c.args.to (get_or links i d).slot link.slot passed e) (take i links) known.gone in
    record {
      paired = passed.paired;
      together = λ s t. passed.together s t ∙ known.together s t;
      left = λ t. left_more w u v c.args.from c.args.to (get_or links i d).slot passed t (known.left t);
      gone = All-more (λ (link : Link). v c.args.from link.slot ≡ None) links i d c.loop-link-test.true gone passed.gone;
    }

pub returns : goal.returns
returns c =
    let w = length_at c.args.self.now in
    let v = length_at c.loop-link.self in
    let known = c.loop-link.invariant in
    let whole = take_all c.loop-link.link-index c.args.links.now c.loop-link-test.false in
    let gone = subst (All (λ (link : Link). v c.args.from link.slot ≡ None)) whole known.gone in
    all_passed w v c.args.from c.args.to c.requires.apart known.paired known.together
    (λ t. none_left w v c.args.from c.args.links.now c.requires.links gone t (known.left t))
