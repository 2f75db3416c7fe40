-- Each number is its own label.
use Rattle.std.proofs.Common.{◌≡◌, ◌<◌, ℕ, ◌+◌, List, length, get_or, ap, ◌∙◌, arith}
use Rattle.std.specs.List.{range_with_len}
use Rattle.std.proofs.lemmas.List.FromFn.{length-range_with_len, get_or-range_with_len}
use Rattle.edge_forest.proofs.face_labels.FaceLabels.of.Goals as goal

-- a number below the count stands at its own place
placed : (n : ℕ) (xs : List ℕ) → xs ≡ range_with_len 0 n → (f : ℕ) → f < n → get_or xs f 0 ≡ f
placed n xs is f l =
    let start : 0 + f ≡ f = omega arith in
    ap (λ (ns : List ℕ). get_or ns f 0) is ∙ get_or-range_with_len 0 n f 0 l ∙ start

pub returns-clause-same : goal.returns-clause-same
returns-clause-same c = λ f l. placed c.args.count c.in_ok-labels.labels.items c.in_ok-labels.ensures f l

pub returns-clause-labels : goal.returns-clause-labels
returns-clause-labels c = λ f l.
    let labels = c.in_ok-labels.labels.items in
    let faces = c.in_ok-faces.faces.items in
    let here = placed c.args.count labels c.in_ok-labels.ensures f l in
    record {
      face = omega (arith, l, ap length c.in_ok-labels.ensures, length-range_with_len 0 c.args.count);
      label = omega (arith, l, here, ap length c.in_ok-faces.ensures, length-range_with_len 0 c.args.count);
      exact = ap (λ (n : ℕ). get_or faces n 0) here ∙ placed c.args.count faces c.in_ok-faces.ensures f l;
    }

pub returns-clause-faces_count : goal.returns-clause-faces_count
returns-clause-faces_count c = ap length c.in_ok-faces.ensures ∙ length-range_with_len 0 c.args.count

pub returns-clause-labels_count : goal.returns-clause-labels_count
returns-clause-labels_count c = ap length c.in_ok-labels.ensures ∙ length-range_with_len 0 c.args.count
