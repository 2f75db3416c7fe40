use Rattle.std.proofs.Common.{◌≡◌, List, ap, ◌∙◌, subst}
use Rattle.version_store.specs.Growth.{IsPrefix}
use Rattle.version_store.specs.Steps.{Holder}
use Rattle.version_store.specs.Store.{press_versions, seat_versions, told_versions}
use Rattle.version_store.proofs.Prefixes.{prefix_both}
use Rattle.version_store.proofs.press.tell.PressOf+V+N+K+Growing.tell.Goals as goal

-- the seat has heard the press's list before it sees, and the press hears of what the seat has seen
pub returns-clause-seen : goal.returns-clause-seen
returns-clause-seen g c =
    let told : told_versions c.hear.new.self ≡ press_versions c.args.self.now = c.hear.ensures.told ∙ ap (λ (m : Holder g.row.V.Denot). m.0.list) c.note.ensures.note.1 in
    let front : IsPrefix (press_versions c.args.self.now) (seat_versions c.see.new.self) = subst (λ (l : List g.row.V.Denot). IsPrefix l (seat_versions c.see.new.self)) told c.see.ensures.told in
    let back : IsPrefix (seat_versions c.see.new.self) (press_versions c.args.self.now) =
    subst (λ (l : List g.row.V.Denot). IsPrefix (seat_versions c.see.new.self) l) c.note.ensures.same
    (subst (λ (l : List g.row.V.Denot). IsPrefix l (press_versions c.note.new.self)) (ap (λ (m : Holder g.row.V.Denot). m.0.list) c.tell.ensures.note.1) c.hear-2.ensures.front) in
    c.tell.ensures.same.0 ∙ prefix_both _ _ back front
