use Rattle.std.proofs.Common.{◌≡◌, ◌<◌, ◌≤◌, ◌==◌, ℕ, List, true, false, length, sym, ap, ◌∙◌, subst, arith, rules}
use Rattle.std.specs.List.{list_any}
use Rattle.tgap_model.specs.declared.slice.Edge.{Edge}
use Rattle.grid_index.specs.Live.{without_keys}
use Rattle.grid_index.specs.Slots.{edge_at}
use Rattle.grid_index.proofs.Placing.{none_tested, without_none, IsSwept-start, IsSwept-go, IsSwept-stay, IsSwept-same, IsSwept-end}
use Rattle.grid_index.proofs.changes.take_out.Goals.{then-not-is_next, else-not-is_next}
use Rattle.grid_index.proofs.changes.take_out.Goals as goal

pub returns-then-is_empty : goal.returns-then-is_empty
returns-then-is_empty c =
    let none = none_tested c.args.gone.now c.is_empty.result c.is_empty.ensures c.if-is_empty.true in
    sym (ap (λ (l : List ℕ). without_keys l c.args.edges.now.items) none ∙ without_none c.args.edges.now.items)

pub loop-i-init : goal.loop-i-init
loop-i-init c =
    let gone = c.args.gone.now in
    let first = c.first_gone-first.result in
    let told = c.first_gone-first.ensures in
    IsSwept-start gone c.args.edges.now.items first (subst (λ (es : List Edge). first ≤ length es) c.deref.ensures.value told.within)
    (subst (λ (es : List Edge). (j : ℕ) → j < first → list_any (λ k. k == (edge_at es j).key) gone ≡ false) c.deref.ensures.value told.before)

pub loop-i-preserved : goal.loop-i-preserved
loop-i-preserved c =
    let gone = c.args.gone.now in
    let old = c.args.edges.now.items in
    let now = c.loop-i.edges.items in
    let i = c.loop-i.i in
    let x = c.index.result.now in
    let long = c.loop-i.invariant.filtered.long in
    let within : i < length now = omega (arith, long, c.len-i-end.ensures, c.loop-i-test.true, c.args.edges.now.ok.0) in
    elim c.if-not-is_next.branch [
      | then-not-is_next w ↦
          let out : c.is_next.result ≡ false = search rules in
          IsSwept-same gone old (ap (λ v. v.items) w.edges-is) w.kept-is
          (IsSwept-stay gone old now c.loop-i.next c.loop-i.kept i c.is_next.new.next x c.requires.edges within c.index.ensures c.is_next.ensures.passed c.loop-i.invariant w.swap.new.self.items w.swap.ensures.by_index
          (sym c.is_next.ensures.is ∙ out))
      | else-not-is_next w ↦
          let out : c.is_next.result ≡ true = search rules in
          IsSwept-same gone old (ap (λ v. v.items) w.edges-is) w.kept-is
          (IsSwept-go gone old now c.loop-i.next c.loop-i.kept i c.is_next.new.next x c.requires.edges within c.index.ensures c.is_next.ensures.passed c.loop-i.invariant (sym c.is_next.ensures.is ∙ out))
    ]

pub returns : goal.returns
returns c =
    let old = c.args.edges.now.items in
    c.truncate.ensures.items
    ∙ IsSwept-end c.args.gone.now old c.loop-i.edges.items c.loop-i.next c.loop-i.kept c.loop-i.i (omega (arith, c.len-i-end.ensures, c.loop-i-test.false, c.args.edges.now.ok.0)) c.loop-i.invariant
