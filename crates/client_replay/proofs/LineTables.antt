-- Edges put in and taken out.
use Rattle.std.proofs.Common.{◌≡◌, ℕ, Bool, true, false, ◌||◌, cond, nat_cmp, List, [], ◌∷◌, ◌++◌, filter, All, refl, sym, ap, ◌∙◌, arith}
use Rattle.std.specs.Prelude.{◌==◌, not}
use Rattle.std.specs.List.{list_any}
use Rattle.std.specs.Ordering.{match_ordering}
use Rattle.std.specs.declared.cmp.Ordering.{Ordering}
use Rattle.std.specs.declared.cmp.Ordering.TheVariants.{Less, Equal, Greater}
use Rattle.std.specs.Map.{lookup}
use Rattle.std.specs.BTreeMap.{is_at, insert_entry}
use Rattle.std.proofs.lemmas.Bool.Decides.{nat_tests}
use Rattle.std.proofs.lemmas.List.Elements.{All-cons, All-head, All-tail}
use Rattle.lemmas.specs.Sorting.{insert_by}
use Rattle.tgap_model.specs.declared.record.Mend.{Mend}
use Rattle.tgap_model.specs.Records.{edge_before}
use Rattle.client_replay.specs.declared.labels.Labels.{Labels}
use Rattle.client_replay.specs.declared.lines.Line.{Line}
use Rattle.client_replay.specs.Working.{edge_of, edges_of}
use Rattle.client_replay.proofs.Tables.{any_lookup, inserted}
use Rattle.client_replay.proofs.FaceRows.{not_some}

-- what holds of all entries and of a new one holds of all with it
pub All-insert_entry : {X : Type 0} (P : X → Type 0) (k : ℕ) (v : X) (es : List (ℕ × X)) → All (λ p. P p.1) es → P v → All (λ p. P p.1) (insert_entry nat_cmp es k v)
All-insert_entry P k v [] h own = All-cons (λ p. P p.1) (k, v) [] own h
All-insert_entry P k v (e ∷ es) h own = by (nat_cmp k e.0) (All-insert_entry P k v es (All-tail (λ p. P p.1) e es h) own)
  where
    by : (o : Ordering) → All (λ p. P p.1) (insert_entry nat_cmp es k v) → All (λ p. P p.1) (match_ordering o ((k, v) ∷ e ∷ es) ((e.0, v) ∷ es) (e ∷ insert_entry nat_cmp es k v))
    by Less rest = All-cons (λ p. P p.1) (k, v) (e ∷ es) own h
    by Equal rest = All-cons (λ p. P p.1) (e.0, v) es own (All-tail (λ p. P p.1) e es h)
    by Greater rest = All-cons (λ p. P p.1) e (insert_entry nat_cmp es k v) (All-head (λ p. P p.1) e es h) rest

-- a line with a new key is an edge in its place
pub line_put : (t : Labels) (k : ℕ) (l : Line) (es : List (ℕ × Line)) → list_any (λ e. e.key == k) (edges_of t es) ≡ false
    → edges_of t (insert_entry nat_cmp es k l) ≡ insert_by edge_before (edge_of t (k, l)) (edges_of t es)
line_put t k l es new =
    inserted (edge_of t) edge_before (λ p q. refl) k l es
    (not_some (lookup (is_at (nat_cmp k)) es) (any_lookup (edge_of t) (λ n e. e.key == n) (λ n p. refl) k es ∙ new))

-- ---- edges are taken out

any_more : {A : Type 0} (p : A → Bool) (xs : List A) (x : A) → list_any p (xs ++ x ∷ []) ≡ (list_any p xs || p x)
any_more p [] x = by (p x)
  where
    by : (b : Bool) → (b || false) ≡ b
    by true = refl
    by false = refl
any_more p (y ∷ xs) x = by (p y) (list_any p xs) (p x) (any_more p xs x)
  where
    by : (a b c : Bool) → list_any p (xs ++ x ∷ []) ≡ (b || c) → (a || list_any p (xs ++ x ∷ [])) ≡ ((a || b) || c)
    by true b c h = refl
    by false b c h = h

key_turned : (a b : ℕ) → (a == b) ≡ (b == a)
key_turned a b = grind (arith, nat_tests)

abbrev pub is_unnamed : List Mend → ℕ × Line → Bool
is_unnamed mends p = not (list_any (λ m. m.key == p.0) mends)

-- without one more
pub taken_more : (mends : List Mend) (m : Mend) (es : List (ℕ × Line)) → filter (λ p. not (p.0 == m.key)) (filter (is_unnamed mends) es) ≡ filter (is_unnamed (mends ++ m ∷ [])) es
taken_more mends m [] = refl
taken_more mends m (e ∷ es) =
    by (list_any (λ n. n.key == e.0) mends) (taken_more mends m es)
    ∙ sym (ap (λ (b : Bool). cond (not b) (e ∷ filter (is_unnamed (mends ++ m ∷ [])) es) (filter (is_unnamed (mends ++ m ∷ [])) es)) (any_more (λ n. n.key == e.0) mends m ∙ ap (λ (b : Bool). list_any (λ n. n.key == e.0) mends || b) (key_turned m.key e.0)))
  where
    rest : List (ℕ × Line)
    rest = filter (is_unnamed (mends ++ m ∷ [])) es

    by : (a : Bool) → filter (λ p. not (p.0 == m.key)) (filter (is_unnamed mends) es) ≡ rest
        → filter (λ p. not (p.0 == m.key)) (cond (not a) (e ∷ filter (is_unnamed mends) es) (filter (is_unnamed mends) es)) ≡ cond (not (a || (e.0 == m.key))) (e ∷ rest) rest
    by true h = h
    by false h = ap (λ zs. cond (not (e.0 == m.key)) (e ∷ zs) zs) h
