-- A worked step: what the chains of four squares become, computed from the words of the law.
use Rattle.std.proofs.Common.{◌≡◌, ℕ, ◌+◌, ◌==◌, ◌&&◌, Bool, true, [], ◌∷◌, refl, arith}
use Rattle.std.specs.List.{list_all}
use Rattle.std.proofs.lemmas.Bool.{and_parts, eqb-true}
use Rattle.std.proofs.lemmas.List.Sums.{AllPass-from_list_all}
use Rattle.tgap_model.specs.History.{AreNumbered}
use Rattle.tgap_model.specs.Merged.{MergedMap}
use Rattle.tgap_model.specs.Chains.{Link, Chain, chains_at}
use Rattle.tgap_model.specs.Removals.{edge_of}
use Rattle.tgap_model.specs.Slice.{left_of, right_of}
use Rattle.map_laws.specs.ChainLaws.{has_base_faces, IsEven, HasEvenSides, chains_left, new_joints, joined_chains}
use Rattle.map_laws.proofs.ChainMembers.{Among, all_among}
use Rattle.map_laws.proofs.Lists.{all_members}
use Rattle.map_laws.proofs.ChainsStep.{chains_step}
use Rattle.map_laws.proofs.Examples.{step, arc, plain_map}
use Rattle.map_laws.proofs.SliceExamples.{ahead, back, point, four_squares_merged}

-- ---- the first step: the arc between faces 1 and 2 goes, and the node at its outer end is joined

left_0 : chains_left four_squares_merged 0 ≡ (ahead 0 ∷ []) ∷ (ahead 1 ∷ []) ∷ (ahead 2 ∷ []) ∷ (ahead 3 ∷ []) ∷ (ahead 5 ∷ []) ∷ (ahead 6 ∷ []) ∷ (ahead 7 ∷ []) ∷ []
unfolding chains_at
left_0 = refl

joints_0 : new_joints four_squares_merged 0 ≡ point 10 0 ∷ []
joints_0 = refl

after_0 : joined_chains four_squares_merged 0 ≡ (ahead 0 ∷ ahead 1 ∷ []) ∷ (ahead 2 ∷ []) ∷ (ahead 3 ∷ []) ∷ (ahead 5 ∷ []) ∷ (ahead 6 ∷ []) ∷ (ahead 7 ∷ []) ∷ []
unfolding chains_at
after_0 = refl

-- ---- the second step: the arc between faces 3 and 4 goes, and the middle node is joined too

left_1 : chains_left four_squares_merged 1 ≡ (ahead 0 ∷ ahead 1 ∷ []) ∷ (ahead 2 ∷ []) ∷ (ahead 3 ∷ []) ∷ (ahead 5 ∷ []) ∷ (ahead 7 ∷ []) ∷ []
unfolding chains_at
left_1 = refl

joints_1 : new_joints four_squares_merged 1 ≡ point 10 10 ∷ point 10 20 ∷ []
joints_1 = refl

after_1 : joined_chains four_squares_merged 1 ≡ (ahead 0 ∷ ahead 1 ∷ []) ∷ (ahead 2 ∷ ahead 3 ∷ []) ∷ (ahead 5 ∷ back 7 ∷ []) ∷ []
unfolding chains_at
after_1 = refl

-- ---- the last step: the chain between faces 5 and 6 goes, and what is left closes to a ring at its anchor

left_2 : chains_left four_squares_merged 2 ≡ (ahead 0 ∷ ahead 1 ∷ []) ∷ (ahead 2 ∷ ahead 3 ∷ []) ∷ []
unfolding chains_at
left_2 = refl

joints_2 : new_joints four_squares_merged 2 ≡ point 0 10 ∷ point 20 10 ∷ []
joints_2 = refl

after_2 : joined_chains four_squares_merged 2 ≡ (ahead 2 ∷ ahead 3 ∷ ahead 0 ∷ ahead 1 ∷ []) ∷ []
unfolding chains_at
after_2 = refl

-- ---- the premises of the law hold there, and either side of it is the same list

-- the faces at the sides of each link are those of the chain's edge, as a test
abbrev is_even : MergedMap → ℕ → Chain → Bool
is_even h k c = list_all (λ d. (left_of h k d == (edge_of h k [] c).left) && (right_of h k d == (edge_of h k [] c).right)) c

even_from : (h : MergedMap) (k : ℕ) → list_all (is_even h k) (chains_at h k) ≡ true → HasEvenSides h k
even_from h k t =
    all_members (IsEven h k) (chains_at h k) (λ c m. one c (all_among (is_even h k) (chains_at h k) c t m))
  where
    one : (c : Chain) → is_even h k c ≡ true → IsEven h k c
    one c e = record {
      left = all_members (λ (d : Link). left_of h k d ≡ (edge_of h k [] c).left) c (λ d m. eqb-true _ _ (sides d m).0);
      right = all_members (λ (d : Link). right_of h k d ≡ (edge_of h k [] c).right) c (λ d m. eqb-true _ _ (sides d m).1);
    }
      where
        sides : (d : Link) → Among d c → ((left_of h k d == (edge_of h k [] c).left) ≡ true) × ((right_of h k d == (edge_of h k [] c).right) ≡ true)
        sides d m =
            and_parts _ _ (all_among (λ d. (left_of h k d == (edge_of h k [] c).left) && (right_of h k d == (edge_of h k [] c).right)) c d e m)

even_2 : HasEvenSides four_squares_merged 2
unfolding chains_at
even_2 = even_from four_squares_merged 2 refl

numbered : AreNumbered 4 four_squares_merged.steps
numbered = (
  record { loser = (omega arith, omega arith); winner = (omega arith, omega arith); differ = λ e. absurd (omega (arith, e)); made = refl },
  (
    record { loser = (omega arith, omega arith); winner = (omega arith, omega arith); differ = λ e. absurd (omega (arith, e)); made = refl },
    (record { loser = (omega arith, omega arith); winner = (omega arith, omega arith); differ = λ e. absurd (omega (arith, e)); made = refl }, tt),
  ),
)

step_2 : chains_at four_squares_merged (2 + 1) ≡ joined_chains four_squares_merged 2
step_2 =
    chains_step four_squares_merged 2 numbered (omega arith)
    (AllPass-from_list_all (has_base_faces four_squares_merged) four_squares_merged.base.arcs refl) even_2

computed_0 : chains_at four_squares_merged (0 + 1) ≡ joined_chains four_squares_merged 0
unfolding chains_at
computed_0 = refl

computed_1 : chains_at four_squares_merged (1 + 1) ≡ joined_chains four_squares_merged 1
unfolding chains_at
computed_1 = refl

computed_2 : chains_at four_squares_merged (2 + 1) ≡ joined_chains four_squares_merged 2
unfolding chains_at
computed_2 = refl

-- ---- a chain whose faces change along it, as no planar partition has: one arc goes with the step, and the other one stays

abbrev uneven : MergedMap
uneven = record {
  base = plain_map 0 (0 ∷ 0 ∷ 0 ∷ 0 ∷ []) (arc 1 2 (0 ∷ 0 ∷ 10 ∷ 0 ∷ []) ∷ arc 3 4 (10 ∷ 0 ∷ 20 ∷ 0 ∷ []) ∷ []);
  steps = step 1 2 5 ∷ [];
}

uneven_before : chains_at uneven 0 ≡ (ahead 0 ∷ ahead 1 ∷ []) ∷ []
unfolding chains_at
uneven_before = refl

uneven_left : chains_left uneven 0 ≡ []
unfolding chains_at
uneven_left = refl

uneven_after : chains_at uneven 1 ≡ (ahead 1 ∷ []) ∷ []
unfolding chains_at
uneven_after = refl
