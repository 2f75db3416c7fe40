use Rattle.std.proofs.Common.{rules, arith, ◌≡◌, ◌+◌, ℕ, List, [], length, vec_len, ap, subst, ◌∙◌}
use Rattle.std.specs.declared.alloc.Global.{Global}
use Rattle.std.specs.declared.sync.Arc.{Arc}
use Rattle.version_store.specs.Rule.{AreOwners, filling}
use Rattle.version_store.proofs.Holders.{filling_more, filling_all, owners_first, owners_rest}
use Rattle.version_store.proofs.shelf.fill_all.Goals as goal

pub loop-owner-preserved : goal.loop-owner-preserved
loop-owner-preserved g c =
    let v = c.loop-owner.invariant in
    let steps = c.in-Some.ensures.steps.0 in
    let long : length c.loop-owner.owner-iterator.rest.items ≡ length c.next.new.self.rest.items + 1 = ap (λ (l : List (Arc g.row.V.Denot Global)). length l) steps ∙ (omega arith) in
    let left = subst (AreOwners c.args.version.now) steps v.4 in (
      search rules,
      filling_more _ _ _ _ _ _ _ v.1 c.fill.ensures.filled (owners_first _ _ _ left),
      (let n = v.2 in omega arith),
      (let n = v.3 in omega arith),
      owners_rest _ _ _ left,
    )

pub returns-clause-filled : goal.returns-clause-filled
returns-clause-filled g c =
    let v = c.loop-owner.invariant in
    let all : c.loop-owner.slot ≡ c.args.first + vec_len c.args.owners = search rules in
    subst (λ (k : ℕ). c.loop-owner.place.me ≡ (filling c.args.place.now.me.0 k c.args.version.now, [])) all (filling_all _ _ _ _ _ v.1 (let some = c.requires.owners.1 in omega arith))
