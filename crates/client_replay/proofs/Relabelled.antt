-- What a change of labels makes of edges.
use Rattle.std.proofs.Common.{◌≡◌, inl, inr, ℕ, Some, None, List, [], ◌∷◌, map, refl, sym, ap, ap₂, subst, ◌∙◌}
use Rattle.std.proofs.lemmas.List.Elements.{All-nil, All-cons, All-head, All-tail}
use Rattle.tgap_model.specs.declared.slice.Edge.{Edge}
use Rattle.client_replay.specs.declared.labels.Labels.{Labels}
use Rattle.client_replay.specs.declared.lines.Line.{Line}
use Rattle.std.proofs.lemmas.Bool.{cases_eq}
use Rattle.tgap_model.specs.Records.{in_place_of}
use Rattle.client_replay.specs.Labels.{face_of, label_of, AreExact, IsLabel, AreRelabelled}
use Rattle.client_replay.specs.Working.{edge_of, edges_of, AreLabelled, moved}
use Rattle.client_replay.proofs.Labelling.{some_is, not_none, in_place, not_in_place, is_label}

abbrev pub changed : (ℕ → ℕ) → Edge → Edge
changed change e = record e { left = change e.left; right = change e.right }

-- both sides are labels
abbrev pub IsLabelled : Labels → Line → Type 0
IsLabelled t l = IsLabel t l.left × IsLabel t l.right

-- a change that maps each line to one, and each face to what stands in its place
pub changed_all : (t u : Labels) (turn : Line → Line) (change : ℕ → ℕ)
    → ((k : ℕ) (l : Line) → IsLabelled t l → IsLabelled u (turn l) × (edge_of u (k, turn l) ≡ changed change (edge_of t (k, l))))
    → (es : List (ℕ × Line)) → AreLabelled t es
    → (edges_of u (map (λ p. (p.0, turn p.1)) es) ≡ map (changed change) (edges_of t es)) × AreLabelled u (map (λ p. (p.0, turn p.1)) es)
changed_all t u turn change h [] labelled = (refl, All-nil (λ p. IsLabelled u p.1))
changed_all t u turn change h (e ∷ es) labelled =
    let one = h e.0 e.1 (All-head (λ p. IsLabelled t p.1) e es labelled) in
    let rest = changed_all t u turn change h es (All-tail (λ p. IsLabelled t p.1) e es labelled) in (
      ap₂ (λ (x : Edge) (xs : List Edge). x ∷ xs) one.1 rest.0,
      All-cons (λ p. IsLabelled u p.1) (e.0, turn e.1) (map (λ p. (p.0, turn p.1)) es) one.0 rest.1,
    )

same_lines : (es : List (ℕ × Line)) → map (λ p. (p.0, p.1)) es ≡ es
same_lines [] = refl
same_lines (e ∷ es) = ap (λ xs. e ∷ xs) (same_lines es)

-- the faces change and the lines stay
pub changed_faces : (t u : Labels) (change : ℕ → ℕ) → AreRelabelled change t u → (es : List (ℕ × Line)) → AreLabelled t es
    → (edges_of u es ≡ map (changed change) (edges_of t es)) × AreLabelled u es
changed_faces t u change h es labelled =
    let all = changed_all t u (λ l. l) change (λ k l m.
    let left = h l.left m.0 in
    let right = h l.right m.1 in
    ((left.0, right.0), ap₂ (λ (a b : ℕ). edge_between k l a b) left.1 right.1)) es labelled in
    (ap (edges_of u) (sym (same_lines es)) ∙ all.0, subst (AreLabelled u) (same_lines es) all.1)
  where
    edge_between : ℕ → Line → ℕ → ℕ → Edge
    edge_between k l a b = record { key = k; left = a; right = b; points = l.points }

same_edges : (es : List Edge) → map (changed (λ n. n)) es ≡ es
same_edges [] = refl
same_edges (e ∷ es) = ap (λ xs. e ∷ xs) (same_edges es)

-- nothing changes
pub kept_faces : (t u : Labels) → AreRelabelled (λ n. n) t u → (es : List (ℕ × Line)) → AreLabelled t es → (edges_of u es ≡ edges_of t es) × AreLabelled u es
kept_faces t u h es labelled =
    let all = changed_faces t u (λ n. n) h es labelled in
    (all.0 ∙ same_edges (edges_of t es), all.1)

pub kept_twice : (t u v : Labels) → AreRelabelled (λ n. n) t u → AreRelabelled (λ n. n) u v → AreRelabelled (λ n. n) t v
kept_twice t u v h k i is =
    let one = h i is in
    let two = k i one.0 in
    (two.0, two.1 ∙ one.1)

-- no label stands for the new face
pub unlabelled : (t : Labels) (made winner : ℕ) → label_of t made ≡ None → AreRelabelled (in_place_of made winner) t t
unlabelled t made winner none i is =
    (is, sym (not_in_place made winner (face_of t i) (λ e. not_none (label_of t (face_of t i)) i is.1 (ap (label_of t) e ∙ none))))

-- the label of the new face is moved to that of the winner
pub moved_lines : (t : Labels) (made winner from to : ℕ) → AreExact t → label_of t made ≡ Some from → label_of t winner ≡ Some to → (es : List (ℕ × Line)) → AreLabelled t es
    → (edges_of t (map (λ p. (p.0, moved from to p.1)) es) ≡ map (changed (in_place_of made winner)) (edges_of t es)) × AreLabelled t (map (λ p. (p.0, moved from to p.1)) es)
moved_lines t made winner from to exact is_made is_winner =
    changed_all t t (moved from to) (in_place_of made winner) (λ k l m.
    let left = side l.left m.0 in
    let right = side l.right m.1 in
    ((left.0, right.0), ap₂ (λ (a b : ℕ). edge_between k l a b) left.1 right.1))
  where
    edge_between : ℕ → Line → ℕ → ℕ → Edge
    edge_between k l a b = record { key = k; left = a; right = b; points = l.points }

    side : (i : ℕ) → IsLabel t i → IsLabel t (in_place_of from to i) × (face_of t (in_place_of from to i) ≡ in_place_of made winner (face_of t i))
    side i is = elim (cases_eq i from) [
      | inl same ↦
          let there = in_place from to i same in
          let here : face_of t i ≡ made = ap (face_of t) same ∙ (exact made from is_made).1 in (
            subst (IsLabel t) (sym there) (is_label t.faces.items (label_of t) winner to exact is_winner),
            ap (face_of t) there ∙ (exact winner to is_winner).1 ∙ sym (in_place made winner (face_of t i) here),
          )
      | inr ne ↦
          let stays = not_in_place from to i ne in
          let other : face_of t i ≡ made → ⊥ = λ e. ne (some_is i from (sym is.1 ∙ ap (label_of t) e ∙ is_made)) in
          (subst (IsLabel t) (sym stays) is, ap (face_of t) stays ∙ sym (not_in_place made winner (face_of t i) other))
    ]
