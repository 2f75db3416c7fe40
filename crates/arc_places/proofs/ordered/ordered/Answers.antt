use Rattle.std.proofs.Common.{◌≡◌, ◌∙◌, ℕ, eqb, sym, ap, subst}
use Rattle.std.specs.List.{dedup}
use Rattle.std.specs.List.Sorted.{IsStrictlyIncreasing}
use Rattle.std.proofs.lemmas.List.Filters.{dedup_is}
use Rattle.std.proofs.lemmas.List.Kept.{Contains-dedup_nat, Contains-from_dedup}
use Rattle.std.proofs.lemmas.List.Sorted.{list_any-IsPermutation}
use Rattle.std.proofs.lemmas.Map.Keys.{IsStrictlyIncreasing-dedup}
use Rattle.arc_places.specs.Places.{is_among}
use Rattle.arc_places.proofs.Rising.{same_members}
use Rattle.arc_places.proofs.ordered.ordered.Goals as goal

pub returns : goal.returns
returns c =
    let sorted = c.sort_unstable.new.self.items in
    let left : c.dedup.new.self.items ≡ dedup eqb sorted = dedup_is eqb sorted c.dedup.new.self.items c.dedup.ensures.filtered in
    record {
      ascend = subst IsStrictlyIncreasing (sym left) (IsStrictlyIncreasing-dedup sorted c.sort_unstable.ensures.sorted);
      same = λ i.
          ap (is_among i) left
          ∙ same_members (dedup eqb sorted) sorted (λ x k. Contains-from_dedup eqb sorted x k) (λ x k. Contains-dedup_nat sorted x k) i
          ∙ sym (list_any-IsPermutation (λ (j : ℕ). eqb j i) c.args.numbers.items sorted c.sort_unstable.ensures.permutation);
    }
