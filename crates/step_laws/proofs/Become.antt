-- Sound edges that become others which are sound and have the same segments.
use Rattle.std.proofs.Common.{append-nil, ◌≡◌, ◌≢◌, inl, inr, ℕ, ◌≤◌, ◌==◌, Bool, true, false, cond, List, [], ◌∷◌, ◌++◌, map, AllPairs, refl, sym, ap, ◌∙◌, subst, arith}
use Rattle.std.specs.Prelude.{count_by}
use Rattle.std.proofs.lemmas.Bool.{eq-eqb, eqb-true}
use Rattle.std.proofs.lemmas.List.Kept.{AllPairs-cons}
use Rattle.lemmas.proofs.Members.{AllPairs-nil, AllPairs-head, AllPairs-tail}
use Rattle.tgap_model.specs.declared.slice.Edge.{Edge}
use Rattle.map_laws.proofs.ChainMembers.{Among, count_passes, count_fails, count_grows, among_counts}
use Rattle.map_laws.proofs.Lists.{all_members, members_all, sum_nothing}
use Rattle.removal_laws.specs.StandLaws.{AreSound}
use Rattle.step_laws.proofs.StepEdges.{turned_edge, HaveSame}
use Rattle.step_laws.proofs.SoundEdges.{sound_by_members, sound_turned}
use Rattle.step_laws.proofs.SameEdges.{same_self, same_then, same_ordered, same_turned}
use Rattle.step_laws.proofs.Reordered.{AreReordered, reordered_swap, reordered_behind, reordered_back}

-- ---- keys

-- edges with different keys: each key stands once
key_counts : (es : List Edge) → AllPairs (λ (e f : Edge). e.key ≢ f.key) es → (n : ℕ) → count_by (λ (e : Edge). e.key == n) es ≤ 1
key_counts [] h n = omega arith
key_counts (e ∷ es) h n = by (e.key == n) refl (key_counts es (AllPairs-tail (λ (e f : Edge). e.key ≢ f.key) e es h) n)
  where
    none : (e.key == n) ≡ true → count_by (λ (e : Edge). e.key == n) es ≡ 0
    none t = sum_nothing (λ (f : Edge). cond (f.key == n) 1 0) es (λ f m. apart f (f.key == n) refl
        (members_all (λ (f : Edge). e.key ≢ f.key) es f (AllPairs-head (λ (e f : Edge). e.key ≢ f.key) e es h) m))
      where
        apart : (f : Edge) (b : Bool) → (f.key == n) ≡ b → e.key ≢ f.key → cond {A = ℕ} (f.key == n) 1 0 ≡ 0
        apart f true u ne = absurd (ne (eqb-true e.key n t ∙ sym (eqb-true f.key n u)))
        apart f false u ne = ap (λ (b : Bool). cond {A = ℕ} b 1 0) u

    by : (b : Bool) → (e.key == n) ≡ b → count_by (λ (e : Edge). e.key == n) es ≤ 1 → count_by (λ (e : Edge). e.key == n) (e ∷ es) ≤ 1
    by true t few = omega (arith, count_passes (λ (e : Edge). e.key == n) e es t, none t)
    by false t few = omega (arith, few, count_fails (λ (e : Edge). e.key == n) e es t)

-- and the other way
counted_keys : (es : List Edge) → ((n : ℕ) → count_by (λ (e : Edge). e.key == n) es ≤ 1) → AllPairs (λ (e f : Edge). e.key ≢ f.key) es
counted_keys [] h = AllPairs-nil (λ (e f : Edge). e.key ≢ f.key)
counted_keys (e ∷ es) h =
    AllPairs-cons (λ (e f : Edge). e.key ≢ f.key) e es
    (all_members (λ (f : Edge). e.key ≢ f.key) es (λ f m same. absurd (omega (
      arith,
      h e.key,
      count_passes (λ (f : Edge). f.key == e.key) e es (eq-eqb e.key e.key refl),
      among_counts (λ (f : Edge). f.key == e.key) es f m (eq-eqb f.key e.key (sym same)),
    ))))
    (counted_keys es (λ n. omega (arith, h n, count_grows (λ (f : Edge). f.key == n) e es)))

-- ---- edges that become others

-- where the edges are sound the others are too, with the same segments
abbrev pub Become : List Edge → List Edge → Type 0
Become es fs = AreSound es → AreSound fs × HaveSame es fs

pub become_self : (es : List Edge) → Become es es
become_self es s = (s, same_self es)

pub become_then : (es fs gs : List Edge) → Become es fs → Become fs gs → Become es gs
become_then es fs gs a b s = let t = a s in let u = b t.0 in (u.0, same_then es fs gs t.1 u.1)

-- in another order
pub become_reordered : (es fs : List Edge) → AreReordered es fs → Become es fs
become_reordered es fs r s = (
  sound_by_members es fs s
      (counted_keys fs (λ n. omega (arith, r.sums (λ (e : Edge). cond (e.key == n) 1 0), key_counts es s.keys n))) r.back,
  same_ordered es fs r.sums r.there r.back,
)

-- ---- one edge in another's place

-- before any others the second can stand in place of the first
abbrev pub Replaces : Edge → Edge → Type 0
Replaces e f = (es : List Edge) → Become (e ∷ es) (f ∷ es)

pub replaces_self : (e : Edge) → Replaces e e
replaces_self e es = become_self (e ∷ es)

pub replaces_then : (e f g : Edge) → Replaces e f → Replaces f g → Replaces e g
replaces_then e f g a b es = become_then (e ∷ es) (f ∷ es) (g ∷ es) (a es) (b es)

pub replaces_turned : (e : Edge) → Replaces e (turned_edge e)
replaces_turned e es s = (sound_turned e es s, same_turned e es)

-- the second of the edges
pub replaces_second : (c e f : Edge) (es : List Edge) → Replaces e f → Become (c ∷ e ∷ es) (c ∷ f ∷ es)
replaces_second c e f es r =
    become_then (c ∷ e ∷ es) (e ∷ c ∷ es) (c ∷ f ∷ es) (become_reordered _ _ (reordered_swap c e es))
    (become_then (e ∷ c ∷ es) (f ∷ c ∷ es) (c ∷ f ∷ es) (r (c ∷ es)) (become_reordered _ _ (reordered_swap f c es)))

-- all of them, one after the other
module _ {A : Type 0} (f g : A → Edge) where
  replaced_before : (xs : List A) (done : List Edge) → ((x : A) → Among x xs → Replaces (f x) (g x)) → Become (map f xs ++ done) (map g xs ++ done)
  replaced_before [] done r = become_self done
  replaced_before (x ∷ xs) done r =
      become_then (f x ∷ (map f xs ++ done)) (g x ∷ (map f xs ++ done)) (g x ∷ (map g xs ++ done)) (r x (inl refl) (map f xs ++ done))
      (become_then (g x ∷ (map f xs ++ done)) (map f xs ++ g x ∷ done) (g x ∷ (map g xs ++ done))
      (become_reordered _ _ (reordered_behind (g x) (map f xs) done))
      (become_then (map f xs ++ g x ∷ done) (map g xs ++ g x ∷ done) (g x ∷ (map g xs ++ done))
      (replaced_before xs (g x ∷ done) (λ y m. r y (inr m)))
      (become_reordered _ _ (reordered_back _ _ (reordered_behind (g x) (map g xs) done)))))

  pub replaced_all : (xs : List A) → ((x : A) → Among x xs → Replaces (f x) (g x)) → Become (map f xs) (map g xs)
  replaced_all xs r =
      subst (λ es. Become es (map g xs)) (append-nil (map f xs))
      (subst (λ es. Become (map f xs ++ []) es) (append-nil (map g xs)) (replaced_before xs [] r))
