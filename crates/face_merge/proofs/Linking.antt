-- The length that two faces share: by what test of the arcs, with one more arc, and after a step.
use Rattle.std.proofs.Common.{◌≡◌, ◌≢◌, ◌<◌, ◌≤◌, ◌⊎◌, inl, inr, ℕ, ◌+◌, ◌^◌, Bool, true, false, ◌&&◌, ◌||◌, ◌==◌, List, [], ◌∷◌, ◌++◌, length, map, take, get_or, Option, Some, None, unwrap_or, IfSome, IsSome, cond, refl, sym, ◌∙◌, ap, arith}
use Rattle.std.specs.Prelude.{sum_by}
use Rattle.std.specs.List.{AllByRecursion, list_any}
use Rattle.std.proofs.lemmas.Bool.{cond-true, cond-false, and_parts}
use Rattle.std.proofs.lemmas.Bool.Decides.{nat_tests}
use Rattle.std.proofs.lemmas.List.{take_more}
use Rattle.std.proofs.lemmas.List.Sums.{sum_by-cons, sum_by-le-sum_by, sum_by_more_le_part}
use Rattle.tgap_model.specs.declared.merge.LabelledArc.{LabelledArc}
use Rattle.tgap_model.specs.declared.merge.MergeStep.{MergeStep}
use Rattle.tgap_model.specs.Bounds.{max_arc_length}
use Rattle.tgap_model.specs.History.{relabel_arc, is_between, is_shared, are_neighbours, shared_length, IsNumberedStep}
use Rattle.face_merge.specs.Links.{with_arc, plus}
use Rattle.face_merge.specs.Linking.{link_of}
use Rattle.face_merge.specs.Measures.{total_length}
use Rattle.face_merge.specs.Merging.{IsLabelled}
use Rattle.face_merge.proofs.Neighbours.{is_pair, between_shared}
use Rattle.face_merge.proofs.Relabelled.{kept_before}

-- ---- by what test

-- a sum with one more arc before it
length-cons : (p : LabelledArc → Bool) (a : LabelledArc) (arcs : List LabelledArc)
    → sum_by (λ x. cond (p x) x.extent 0) (a ∷ arcs) ≡ cond (p a) a.extent 0 + sum_by (λ x. cond (p x) x.extent 0) arcs
length-cons p a arcs = sum_by-cons (λ x. cond (p x) x.extent 0) a arcs

-- where the link is one, the faces are neighbours, and it has their length
pub link_some : (arcs : List LabelledArc) (f g : ℕ) → are_neighbours arcs f g ≡ true → link_of arcs f g ≡ Some (shared_length arcs f g)
link_some arcs f g e = cond-true (are_neighbours arcs f g) (Some (shared_length arcs f g)) None e

pub link_none : (arcs : List LabelledArc) (f g : ℕ) → are_neighbours arcs f g ≡ false → link_of arcs f g ≡ None
link_none arcs f g e = cond-false (are_neighbours arcs f g) (Some (shared_length arcs f g)) None e

pub some_link : (arcs : List LabelledArc) (f g : ℕ) → IsSome (link_of arcs f g) → are_neighbours arcs f g ≡ true
some_link arcs f g is = chosen (are_neighbours arcs f g) refl is
  where
    chosen : (b : Bool) → are_neighbours arcs f g ≡ b → IsSome (cond b (Some (shared_length arcs f g)) None) → are_neighbours arcs f g ≡ true
    chosen true e is = e
    chosen false e is = absurd (let h = is in cc)

pub link_length : (arcs : List LabelledArc) (f g n : ℕ) → link_of arcs f g ≡ Some n → (are_neighbours arcs f g ≡ true) × (shared_length arcs f g ≡ n)
link_length arcs f g n e =
    let near = some_link arcs f g (rw e refl) in
    let both : Some (shared_length arcs f g) ≡ Some n = sym (link_some arcs f g near) ∙ e in
    (near, cc)

-- no face has a link with itself or the outside
not_itself : (f : ℕ) → is_pair f f ≡ false
not_itself f = grind (arith, nat_tests)

not_zero : (g : ℕ) → is_pair 0 g ≡ false
not_zero g = grind (arith, nat_tests)

pair_turned : (f g : ℕ) → is_pair f g ≡ is_pair g f
pair_turned f g = grind (arith, nat_tests)

no_pair : (arcs : List LabelledArc) (f g : ℕ) → is_pair f g ≡ false → link_of arcs f g ≡ None
no_pair arcs f g e = link_none arcs f g (ap (λ (b : Bool). b && list_any (is_between f g) arcs) e)

pub link_itself : (arcs : List LabelledArc) (f : ℕ) → link_of arcs f f ≡ None
link_itself arcs f = no_pair arcs f f (not_itself f)

pub link_zero : (arcs : List LabelledArc) (g : ℕ) → link_of arcs 0 g ≡ None
link_zero arcs g = no_pair arcs 0 g (not_zero g)

-- tests that agree on each arc
any_same : (p q : LabelledArc → Bool) → ((a : LabelledArc) → p a ≡ q a) → (arcs : List LabelledArc) → list_any p arcs ≡ list_any q arcs
any_same p q e [] = refl
any_same p q e (a ∷ arcs) = rw (e a, any_same p q e arcs) refl

sum_same : (p q : LabelledArc → Bool) → ((a : LabelledArc) → p a ≡ q a) → (arcs : List LabelledArc) → sum_by (λ x. cond (p x) x.extent 0) arcs ≡ sum_by (λ x. cond (q x) x.extent 0) arcs
sum_same p q e [] = refl
sum_same p q e (a ∷ arcs) =
    length-cons p a arcs ∙ (ap (λ (b : Bool). cond b a.extent 0 + sum_by (λ x. cond (p x) x.extent 0) arcs) (e a)
    ∙ (ap (λ (n : ℕ). cond (q a) a.extent 0 + n) (sum_same p q e arcs) ∙ sym (length-cons q a arcs)))

-- the link by whether the faces are a pair, by whether an arc is between them, and by their length
abbrev pub link_by : Bool → Bool → ℕ → Option ℕ
link_by pair any n = cond (pair && any) (Some n) None

link_turned_arc : (f g l r : ℕ) → (((l == f) && (r == g)) || ((l == g) && (r == f))) ≡ (((l == g) && (r == f)) || ((l == f) && (r == g)))
link_turned_arc f g l r = turned ((l == f) && (r == g)) ((l == g) && (r == f))
  where
    turned : (a b : Bool) → (a || b) ≡ (b || a)
    turned true true = refl
    turned true false = refl
    turned false true = refl
    turned false false = refl

-- the link is the same either way round
pub link_turned : (arcs : List LabelledArc) (f g : ℕ) → link_of arcs f g ≡ link_of arcs g f
link_turned arcs f g =
    let tests : (a : LabelledArc) → is_between f g a ≡ is_between g f a = λ a. link_turned_arc f g a.left a.right in
    let any = any_same (is_between f g) (is_between g f) tests arcs in
    let sum = sum_same (is_between f g) (is_between g f) tests arcs in
    ap (λ (b : Bool). link_by b (list_any (is_between f g) arcs) (shared_length arcs f g)) (pair_turned f g)
    ∙ (ap (λ (b : Bool). link_by (is_pair g f) b (shared_length arcs f g)) any ∙ ap (link_by (is_pair g f) (list_any (is_between g f) arcs)) sum)

-- with no arc between them two faces share nothing
pub none_shared : (arcs : List LabelledArc) (f g : ℕ) → list_any (is_between f g) arcs ≡ false → shared_length arcs f g ≡ 0
none_shared [] f g e = refl
none_shared (a ∷ arcs) f g e =
    let parts = both_false (is_between f g a) (list_any (is_between f g) arcs) e in
    length-cons (is_between f g) a arcs ∙ omega (arith, none_shared arcs f g parts.1, cond-false (is_between f g a) a.extent 0 parts.0)
  where
    both_false : (a b : Bool) → (a || b) ≡ false → (a ≡ false) × (b ≡ false)
    both_false true b e = absurd cc
    both_false false b e = (refl, e)

-- the length fits: no arc counts twice
part_length : (b : Bool) (n : ℕ) → cond b n 0 ≤ n
part_length true n = omega arith
part_length false n = omega arith

shared_size : (arcs : List LabelledArc) (f g : ℕ) → shared_length arcs f g ≤ total_length arcs
shared_size arcs f g = sum_by-le-sum_by (λ a. cond (is_between f g a) a.extent 0) (λ a. a.extent) arcs (λ a. part_length (is_between f g a) a.extent)

pub link_fits : (arcs : List LabelledArc) (f g : ℕ) → total_length arcs ≤ max_arc_length → IfSome (link_of arcs f g) (λ n. n < 2 ^ 64)
link_fits arcs f g short = chosen (are_neighbours arcs f g)
  where
    small : shared_length arcs f g < 2 ^ 64
    small = omega (arith, shared_size arcs f g, short)

    chosen : (b : Bool) → IfSome (cond b (Some (shared_length arcs f g)) None) (λ n. n < 2 ^ 64)
    chosen true = small
    chosen false = tt

-- with no arc there is none
pub no_links : (f g : ℕ) → link_of [] f g ≡ None
no_links f g = link_none [] f g (never (is_pair f g))
  where
    never : (b : Bool) → (b && false) ≡ false
    never true = refl
    never false = refl

-- ---- one more arc

-- what is shared so far, with room for one more arc
pub room_for_arc : (arcs : List LabelledArc) (i : ℕ) (d : LabelledArc) (f g : ℕ) → total_length arcs ≤ max_arc_length → i < length arcs
    → unwrap_or (link_of (take i arcs) f g) 0 + (get_or arcs i d).extent < 2 ^ 64
room_for_arc arcs i d f g short inside = chosen (are_neighbours (take i arcs) f g)
  where
    so_far : shared_length (take i arcs) f g + (get_or arcs i d).extent ≤ total_length arcs
    so_far = sum_by_more_le_part (λ a. cond (is_between f g a) a.extent 0) (λ a. a.extent) arcs i d inside (λ a. part_length (is_between f g a) a.extent)

    chosen : (b : Bool) → unwrap_or (cond b (Some (shared_length (take i arcs) f g)) None) 0 + (get_or arcs i d).extent < 2 ^ 64
    chosen true = omega (arith, so_far, short)
    chosen false = omega (arith, so_far, short)

any_push : (p : LabelledArc → Bool) (arcs : List LabelledArc) (a : LabelledArc) → list_any p (arcs ++ a ∷ []) ≡ (list_any p arcs || p a)
any_push p [] a = last (p a)
  where
    last : (b : Bool) → (b || false) ≡ b
    last true = refl
    last false = refl
any_push p (x ∷ arcs) a = ap (λ (b : Bool). p x || b) (any_push p arcs a) ∙ grouped (p x) (list_any p arcs) (p a)
  where
    grouped : (a b c : Bool) → (a || (b || c)) ≡ ((a || b) || c)
    grouped true b c = refl
    grouped false b c = refl

sum_push : (p : LabelledArc → Bool) (arcs : List LabelledArc) (a : LabelledArc)
    → sum_by (λ x. cond (p x) x.extent 0) (arcs ++ a ∷ []) ≡ sum_by (λ x. cond (p x) x.extent 0) arcs + cond (p a) a.extent 0
sum_push p [] a = omega (arith, length-cons p a [])
sum_push p (x ∷ arcs) a = omega (arith, length-cons p x (arcs ++ a ∷ []), length-cons p x arcs, sum_push p arcs a)

-- the link of two faces, by what the arcs before say and by what the arc is
more_by : (pair any between shared : Bool) (n extent : ℕ) → (pair ≡ true → between ≡ true → shared ≡ true) → (shared ≡ true → between ≡ true → pair ≡ true) → (any ≡ false → n ≡ 0)
    → link_by pair (any || between) (n + cond between extent 0) ≡ cond (shared && between) (Some (unwrap_or (link_by pair any n) 0 + extent)) (link_by pair any n)
more_by true true true true n x h k z = refl
more_by true true true false n x h k z = absurd (let e = h refl refl in cc)
more_by true true false true n x h k z = ap Some (omega arith)
more_by true true false false n x h k z = ap Some (omega arith)
more_by true false true true n x h k z = ap Some (omega (arith, z refl))
more_by true false true false n x h k z = absurd (let e = h refl refl in cc)
more_by true false false true n x h k z = refl
more_by true false false false n x h k z = refl
more_by false any true true n x h k z = absurd (let e = k refl refl in cc)
more_by false any true false n x h k z = refl
more_by false any false true n x h k z = refl
more_by false any false false n x h k z = refl

shared_between_pair : (f g l r : ℕ) → is_pair l r ≡ true → (((l == f) && (r == g)) || ((l == g) && (r == f))) ≡ true → is_pair f g ≡ true
shared_between_pair f g l r shared between = grind (arith, nat_tests)

pub link_more : (arcs : List LabelledArc) (i : ℕ) (d : LabelledArc) (f g : ℕ) → i < length arcs → link_of (take (i + 1) arcs) f g ≡ with_arc (link_of (take i arcs)) (get_or arcs i d) f g
link_more arcs i d f g inside =
    let a = get_or arcs i d in
    let seen = take i arcs in
    ap (λ (xs : List LabelledArc). link_of xs f g) (take_more arcs i d inside)
    ∙ (ap (λ (b : Bool). link_by (is_pair f g) b (shared_length (seen ++ a ∷ []) f g)) (any_push (is_between f g) seen a)
    ∙ (ap (link_by (is_pair f g) (list_any (is_between f g) seen || is_between f g a)) (sum_push (is_between f g) seen a)
    ∙ more_by (is_pair f g) (list_any (is_between f g) seen) (is_between f g a) (is_shared a) (shared_length seen f g) a.extent
    (λ p q. between_shared f g a.left a.right p q) (λ p q. shared_between_pair f g a.left a.right p q) (none_shared seen f g)))

-- ---- a step

module _ (n : ℕ) (s : MergeStep) (step : IsNumberedStep n s) where
  -- each other pair of faces keeps its link
  pub link_kept : (arcs : List LabelledArc) (f g : ℕ) → f ≢ s.loser → f ≢ s.winner → f ≢ s.made → g ≢ s.loser → g ≢ s.winner → g ≢ s.made
      → link_of (map (relabel_arc s) arcs) f g ≡ link_of arcs f g
  link_kept arcs f g fl fw fm gl gw gm =
      ap (λ (b : Bool). link_by (is_pair f g) b (shared_length (map (relabel_arc s) arcs) f g)) (any arcs) ∙ ap (link_by (is_pair f g) (list_any (is_between f g) arcs)) (sum arcs)
    where
      test : (a : LabelledArc) → is_between f g (relabel_arc s a) ≡ is_between f g a
      test a =
          rw (
            kept_before s.loser s.winner s.made f a.left fl fw fm,
            kept_before s.loser s.winner s.made g a.right gl gw gm,
            kept_before s.loser s.winner s.made g a.left gl gw gm,
            kept_before s.loser s.winner s.made f a.right fl fw fm,
          ) refl

      any : (arcs : List LabelledArc) → list_any (is_between f g) (map (relabel_arc s) arcs) ≡ list_any (is_between f g) arcs
      any [] = refl
      any (a ∷ arcs) = rw (test a, any arcs) refl

      sum : (arcs : List LabelledArc) → shared_length (map (relabel_arc s) arcs) f g ≡ shared_length arcs f g
      sum [] = refl
      sum (a ∷ arcs) =
          length-cons (is_between f g) (relabel_arc s a) (map (relabel_arc s) arcs)
          ∙ (ap (λ (b : Bool). cond b a.extent 0 + shared_length (map (relabel_arc s) arcs) f g) (test a)
          ∙ (ap (λ (k : ℕ). cond (is_between f g a) a.extent 0 + k) (sum arcs) ∙ sym (length-cons (is_between f g) a arcs)))

  -- a label is that of the new face where it was the loser's or the winner's
  is_made : (l w m k x : ℕ) → m ≡ k + 1 → x ≤ k → (cond ((x == l) || (x == w)) m x == m) ≡ ((x == l) || (x == w))
  is_made l w m k x e p = grind (arith, nat_tests)

  regroup : (a b g a' b' g' : Bool) → (((a || b) && g') || (g && (a' || b'))) ≡ (((a && g') || (g && a')) || ((b && g') || (g && b')))
  regroup true true true a' b' true = refl
  regroup true true true a' b' false = swap a' b'
    where
      swap : (x y : Bool) → (x || y) ≡ (x || y)
      swap x y = refl
  regroup true true false a' b' true = refl
  regroup true true false a' b' false = refl
  regroup true false true a' b' true = refl
  regroup true false true a' b' false = refl
  regroup true false false a' b' true = refl
  regroup true false false a' b' false = refl
  regroup false true true true b' true = refl
  regroup false true true false b' true = refl
  regroup false true true a' b' false = refl
  regroup false true false a' b' true = refl
  regroup false true false a' b' false = refl
  regroup false false true a' b' true = refl
  regroup false false true a' b' false = refl
  regroup false false false a' b' true = refl
  regroup false false false a' b' false = refl

  made_test : (g : ℕ) (a : LabelledArc) → g ≢ s.loser → g ≢ s.winner → g ≢ s.made → IsLabelled n a
      → is_between s.made g (relabel_arc s a) ≡ (is_between s.loser g a || is_between s.winner g a)
  made_test g a gl gw gm labels =
      rw (
        is_made s.loser s.winner s.made n a.left step.made labels.left,
        is_made s.loser s.winner s.made n a.right step.made labels.right,
        kept_before s.loser s.winner s.made g a.left gl gw gm,
        kept_before s.loser s.winner s.made g a.right gl gw gm,
      )
      (regroup (a.left == s.loser) (a.left == s.winner) (a.left == g) (a.right == s.loser) (a.right == s.winner) (a.right == g))

  one_of_both : (l w g x y : ℕ) → l ≢ w → g ≢ l → g ≢ w → (((x == l) && (y == g)) || ((x == g) && (y == l))) ≡ true → (((x == w) && (y == g)) || ((x == g) && (y == w))) ≡ false
  one_of_both l w g x y a b d e = grind (arith, nat_tests)

  made_any : (arcs : List LabelledArc) (g : ℕ) → g ≢ s.loser → g ≢ s.winner → g ≢ s.made → AllByRecursion (IsLabelled n) arcs
      → list_any (is_between s.made g) (map (relabel_arc s) arcs) ≡ (list_any (is_between s.loser g) arcs || list_any (is_between s.winner g) arcs)
  made_any [] g gl gw gm labels = refl
  made_any (a ∷ arcs) g gl gw gm labels =
      rw (made_test g a gl gw gm labels.0, made_any arcs g gl gw gm labels.1) (mixed (is_between s.loser g a) (is_between s.winner g a) (list_any (is_between s.loser g) arcs) (list_any (is_between s.winner g) arcs))
    where
      mixed : (a b c d : Bool) → ((a || b) || (c || d)) ≡ ((a || c) || (b || d))
      mixed true b c d = refl
      mixed false true true d = refl
      mixed false true false d = refl
      mixed false false true d = refl
      mixed false false false d = refl

  made_sum : (arcs : List LabelledArc) (g : ℕ) → g ≢ s.loser → g ≢ s.winner → g ≢ s.made → AllByRecursion (IsLabelled n) arcs
      → shared_length (map (relabel_arc s) arcs) s.made g ≡ shared_length arcs s.loser g + shared_length arcs s.winner g
  made_sum [] g gl gw gm labels = refl
  made_sum (a ∷ arcs) g gl gw gm labels =
      let here : cond (is_between s.made g (relabel_arc s a)) a.extent 0 ≡ cond (is_between s.loser g a) a.extent 0 + cond (is_between s.winner g a) a.extent 0 =
      ap (λ (b : Bool). cond b a.extent 0) (made_test g a gl gw gm labels.0)
      ∙ split (is_between s.loser g a) (is_between s.winner g a) a.extent (one_of_both s.loser s.winner g a.left a.right step.differ gl gw) in
      omega (
        arith,
        length-cons (is_between s.made g) (relabel_arc s a) (map (relabel_arc s) arcs),
        length-cons (is_between s.loser g) a arcs,
        length-cons (is_between s.winner g) a arcs,
        made_sum arcs g gl gw gm labels.1,
        here,
      )
    where
      split : (b c : Bool) (k : ℕ) → (b ≡ true → c ≡ false) → cond (b || c) k 0 ≡ cond b k 0 + cond c k 0
      split true true k h = absurd (let e = h refl in cc)
      split true false k h = omega arith
      split false true k h = omega arith
      split false false k h = omega arith

  -- the new face has the links of both
  pub link_made : (arcs : List LabelledArc) (g : ℕ) → g ≢ s.loser → g ≢ s.winner → g ≢ s.made → AllByRecursion (IsLabelled n) arcs
      → link_of (map (relabel_arc s) arcs) s.made g ≡ plus (link_of arcs s.loser g) (link_of arcs s.winner g)
  link_made arcs g gl gw gm labels =
      let pairs = alike s.loser s.winner s.made g step.loser.0 step.winner.0 (omega (arith, step.made)) gl gw gm in
      ap (λ (b : Bool). link_by (is_pair s.made g) b (shared_length (map (relabel_arc s) arcs) s.made g)) (made_any arcs g gl gw gm labels)
      ∙ (ap (link_by (is_pair s.made g) (list_any (is_between s.loser g) arcs || list_any (is_between s.winner g) arcs)) (made_sum arcs g gl gw gm labels)
      ∙ together (is_pair s.made g) (is_pair s.loser g) (is_pair s.winner g) (list_any (is_between s.loser g) arcs) (list_any (is_between s.winner g) arcs)
      (shared_length arcs s.loser g) (shared_length arcs s.winner g) pairs.0 pairs.1 (none_shared arcs s.loser g) (none_shared arcs s.winner g))
    where
      alike : (l w m g : ℕ) → 0 < l → 0 < w → 0 < m → g ≢ l → g ≢ w → g ≢ m → (is_pair l g ≡ is_pair m g) × (is_pair w g ≡ is_pair m g)
      alike l w m g a b d gl gw gm = (grind (arith, nat_tests), grind (arith, nat_tests))

      together : (p q r a b : Bool) (x y : ℕ) → q ≡ p → r ≡ p → (a ≡ false → x ≡ 0) → (b ≡ false → y ≡ 0) → link_by p (a || b) (x + y) ≡ plus (link_by q a x) (link_by r b y)
      together p q r a b x y d e h k = rw (d, e) (by_cases p a b h k)
        where
          by_cases : (p a b : Bool) → (a ≡ false → x ≡ 0) → (b ≡ false → y ≡ 0) → link_by p (a || b) (x + y) ≡ plus (link_by p a x) (link_by p b y)
          by_cases true true true h k = refl
          by_cases true true false h k = ap Some (omega (arith, k refl))
          by_cases true false true h k = ap Some (omega (arith, h refl))
          by_cases true false false h k = refl
          by_cases false a b h k = refl

  -- the loser and the winner have none any more
  gone_test : (l w m f g x y : ℕ) → l ≢ m → w ≢ m → (f ≡ l) ⊎ (f ≡ w) → x ≡ cond ((g == l) || (g == w)) m g → (x == f) ≡ false
  gone_test l w m f g x y a b (inl e) h = grind (arith, nat_tests)
  gone_test l w m f g x y a b (inr e) h = grind (arith, nat_tests)

  gone_any : (arcs : List LabelledArc) (f g : ℕ) → (f ≡ s.loser) ⊎ (f ≡ s.winner) → list_any (is_between f g) (map (relabel_arc s) arcs) ≡ false
  gone_any [] f g is = refl
  gone_any (a ∷ arcs) f g is =
      let lm : s.loser ≢ s.made = λ e. omega (arith, step.loser.1, step.made) in
      let wm : s.winner ≢ s.made = λ e. omega (arith, step.winner.1, step.made) in
      let left = gone_test s.loser s.winner s.made f a.left (relabel_arc s a).left 0 lm wm is refl in
      let right = gone_test s.loser s.winner s.made f a.right (relabel_arc s a).right 0 lm wm is refl in
      neither ((relabel_arc s a).left == f) ((relabel_arc s a).right == g) ((relabel_arc s a).left == g) ((relabel_arc s a).right == f) _ left right (gone_any arcs f g is)
    where
      neither : (a b c d e : Bool) → a ≡ false → d ≡ false → e ≡ false → (((a && b) || (c && d)) || e) ≡ false
      neither a b c d e p q r = rw (p, q, r) (no c)
        where
          no : (x : Bool) → ((x && false) || false) ≡ false
          no true = refl
          no false = refl

  pub near_no_more : (arcs : List LabelledArc) (f g : ℕ) → are_neighbours (map (relabel_arc s) arcs) f g ≡ true → (f ≢ s.loser) × (f ≢ s.winner)
  near_no_more arcs f g e =
      let any = (and_parts (is_pair f g) _ e).1 in
      ((λ h. let no = gone_any arcs f g (inl h) in cc), (λ h. let no = gone_any arcs f g (inr h) in cc))
