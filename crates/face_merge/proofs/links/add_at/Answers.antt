-- What is written through the entry is what the map has there.
use Rattle.std.proofs.Common.{rules, ◌≡◌, ◌+◌, ◌∙◌, sym, List, Some, Option, cond, ap, subst, ℕ, unwrap_or}
use Rattle.std.specs.Ordering.{is_eq}
use Rattle.std.specs.Map.{lookup}
use Rattle.std.specs.BTreeMap.{get, is_at}
use Rattle.std.specs.BTreeMap.Entry.{map_with_value}
use Rattle.face_merge.specs.Links.{pair_cmp}
use Rattle.face_merge.proofs.links.add_at.Goals as goal

same_at : (xs ys : List ((ℕ × ℕ) × ℕ)) (s : ℕ × ℕ) (x : Option ℕ) → xs ≡ ys → lookup (is_at (pair_cmp s)) ys ≡ x → lookup (is_at (pair_cmp s)) xs ≡ x
same_at xs ys s x e h = subst (λ (zs : List ((ℕ × ℕ) × ℕ)). lookup (is_at (pair_cmp s)) zs ≡ x) (sym e) h

pub returns : goal.returns
returns c = λ s.
    let old : c.or_insert.result.now ≡ unwrap_or (get pair_cmp c.args.lengths.now c.args.slots) 0 = c.or_insert.ensures.value ∙ ap (λ (o : Option ℕ). unwrap_or o 0) c.in_ok-lengths.ensures.value in
    let new = (c.in_ok-lengths.ensures.update.0 (c.or_insert.result.now + c.args.length)).0 s in
    same_at _ (map_with_value c.in_ok-lengths.field-0 (c.or_insert.result.now + c.args.length)).entries s _ (search rules)
    (new ∙ ap (λ (n : ℕ). cond (is_eq (pair_cmp c.args.slots s)) (Some (n + c.args.length)) (get pair_cmp c.args.lengths.now s)) old)
