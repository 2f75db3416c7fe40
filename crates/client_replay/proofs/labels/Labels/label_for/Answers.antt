use Rattle.std.proofs.Common.{◌≡◌, ℕ, Some, length, List, nat_cmp, sym, ap, subst, ◌∙◌, arith}
use Rattle.std.specs.BTreeMap.{get}
use Rattle.client_replay.specs.Labels.{label_of}
use Rattle.client_replay.proofs.Tables.{at_other}
use Rattle.client_replay.proofs.Labelling.{Exact, Has, Changes, is_label, grown-exact, grown-kept, grown-own}
use Rattle.client_replay.proofs.labels.Labels.label_for.Goals as goal

pub returns-in-Some-clause-label : goal.returns-in-Some-clause-label
returns-in-Some-clause-label c = is_label c.args.self.now.faces.items (label_of c.args.self.now) c.args.face c.in-Some.label c.requires (sym c.in-Some.ensures)

pub returns-clause-exact : goal.returns-clause-exact
returns-clause-exact c =
    let relabel = get nat_cmp c.insert.new.self in
    let count : c.len-label.result ≡ length c.args.self.now.faces.items = omega (arith, c.len-label.ensures) in
    subst (λ (fs : List ℕ). Exact fs relabel) (sym c.in_ok-push.ensures.items)
    (grown-exact c.args.self.now.faces.items (label_of c.args.self.now) relabel c.args.face c.requires (sym c.in_default.ensures)
    (c.in_ok-insert.ensures.updates.1 ∙ ap Some count) (λ q ne. c.in_ok-insert.ensures.updates.2 q (at_other c.args.face q ne)))

pub returns-clause-label : goal.returns-clause-label
returns-clause-label c =
    let relabel = get nat_cmp c.insert.new.self in
    let count : c.len-label.result ≡ length c.args.self.now.faces.items = omega (arith, c.len-label.ensures) in
    subst (λ (n : ℕ). Has c.push.new.self.items relabel n) (sym count)
    (subst (λ (fs : List ℕ). Has fs relabel (length c.args.self.now.faces.items)) (sym c.in_ok-push.ensures.items)
    (grown-own c.args.self.now.faces.items (label_of c.args.self.now) relabel c.args.face c.requires (sym c.in_default.ensures)
    (c.in_ok-insert.ensures.updates.1 ∙ ap Some count) (λ q ne. c.in_ok-insert.ensures.updates.2 q (at_other c.args.face q ne))))

pub returns-clause-kept : goal.returns-clause-kept
returns-clause-kept c =
    let faces = c.args.self.now.faces.items in
    let label = label_of c.args.self.now in
    let relabel = get nat_cmp c.insert.new.self in
    let count : c.len-label.result ≡ length faces = omega (arith, c.len-label.ensures) in
    subst (λ (fs : List ℕ). Changes (λ n. n) faces label fs relabel) (sym c.in_ok-push.ensures.items)
    (grown-kept faces label relabel c.args.face c.requires (sym c.in_default.ensures)
    (c.in_ok-insert.ensures.updates.1 ∙ ap Some count) (λ q ne. c.in_ok-insert.ensures.updates.2 q (at_other c.args.face q ne)))
