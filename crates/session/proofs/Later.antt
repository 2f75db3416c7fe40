-- What becomes of an item, where more of the versions was seen before that.
use Rattle.std.proofs.Common.{◌≡◌, ◌∙◌, ℕ, ◌+◌, ◌≤◌, Bool, ◌++◌, Result, Ok, Err, ap, subst, arith}
use Rattle.tgap_model.specs.declared.failure.Memory.{Memory}
use Rattle.tgap_model.specs.Faults.{Rose}
use Rattle.session.specs.declared.turn.Turned.{Turned}
use Rattle.session.specs.Items.{Asked}
use Rattle.session.specs.Versions.{Seen, Continues, SameCounts}
use Rattle.session.specs.Turns.{IsTurned, RisesWhere, is_unkept, is_keeper_full, publishes, number_published, CountsRow, CountsTurn, CountsTold}
use Rattle.session.proofs.Kept.{no_shorter}

module _ (before later now : Seen) where
  -- the outcome holds whatever was known before
  pub turned_later : (pin pin' : ℕ) (asked : Asked) (close : Bool) (t : Turned) → Continues before later
      → IsTurned later now pin pin' asked close t → IsTurned before now pin pin' asked close t
  turned_later pin pin' asked close t c is = record {
    holds = λ known below. (let longer = no_shorter before later c in is.holds known (omega (arith, below, longer)));
    batch = is.batch;
    answer = is.answer;
    answered = is.answered;
    reply = is.reply;
    moved = is.moved;
  }

  -- the counts rise by as much
  pub counts_later : (r : Result Turned Memory) → SameCounts before later → CountsTurn later now r → CountsTurn before now r
  counts_later (Ok t) same counts = record {
    published = counts.published ∙ ap (λ n. n + publishes t.row) same.published;
    numbers = counts.numbers ∙ ap (λ xs. xs ++ number_published t.row t.number) same.numbers;
    unkept = subst (λ n. RisesWhere (is_unkept t.row) n now.unkept) same.unkept counts.unkept;
    keeper_full = subst (λ n. RisesWhere (is_keeper_full t.row) n now.keeper_full) same.keeper_full counts.keeper_full;
  }
  counts_later (Err e) same counts = record {
    published = counts.published ∙ same.published;
    numbers = counts.numbers ∙ same.numbers;
    unkept = counts.unkept ∙ same.unkept;
    keeper_full = counts.keeper_full ∙ same.keeper_full;
  }

  rose_later : (a b n : ℕ) → a ≤ b → Rose b n → Rose a n
  rose_later a b n le rose = grind arith

  pub told_later : (r : Result Turned Memory) → Continues before later → CountsTold later now r → CountsTold before now r
  told_later (Ok t) c told = λ behind. rose_later (before.tellings t.number) (later.tellings t.number) (now.tellings t.number) (c.tellings t.number) (told behind)
  told_later (Err e) c told = tt
