-- Some went, and one came.
use Rattle.std.proofs.Common.{◌≡◌, ◌⊎◌, ℕ, List, All, subst}
use Rattle.std.specs.List.{Contains}
use Rattle.session.proofs.KeptLists.{all_then}
use Rattle.session.proofs.kept_texts.KeptTexts.keep_shared.Goals as goal

pub returns-in-Some : goal.returns-in-Some
returns-in-Some c =
    let A : List ℕ → Type 0 = λ text. All (λ y. Contains c.make_room.new.self y ⊎ (y ≡ record { key = c.args.key; text = text })) c.add.new.self in
    all_then c.args.self.now c.make_room.new.self c.add.new.self (record { key = c.args.key; text = c.args.text.now })
    c.make_room.ensures.texts (subst A c.in-Some.ensures c.add.ensures)
